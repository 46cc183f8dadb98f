-- The rows of a month's table, and which rows make a table.
use Rattle.std.proofs.Common.{◌≡◌, ℕ, suc, ◌+◌, ◌<◌, ◌≤◌, Bool, true, false, cond, not, ◌||◌, eqb, ltb, List, [], ◌∷◌, length, get_or, is_some, Some, None, Option, MatchOption, sym, refl, ap, ◌∙◌, add-zero, arith}
use Rattle.std.specs.Option.{option_map}
use Rattle.std.proofs.lemmas.Bool.{or_from, le-ltb, ne_eqb}
use Rattle.std.specs.List.{AllWithin, HoldsAt}
use Rattle.charges.specs.Burdens.{along}
use Rattle.charges.specs.Checks.{first_fault, each_from}
use Rattle.charges.specs.Rows.{RowWithin, nobody}
use Rattle.charges.specs.Tables.{table_checks, outside_areas, outside_figures, outside_figure}
use Rattle.charges.specs.declared.fault.TableFault.{TableFault}
use Rattle.charges.specs.declared.fault.TableFault.TheVariants.{Totals}
use Rattle.charges.specs.declared.table.OwnerRow.{OwnerRow}
use Rattle.book.specs.Entries.{Noted}
use Rattle.book.specs.Forces.{InForce, nothing}
use Rattle.book.specs.Meaning.{filed_of, metered_of}
use Rattle.book.specs.Workings.{placed, filing_of, reading_of, row_for, rows_from, totals_check}
use Rattle.book.proofs.Firsts.{first-fault-is}
use Rattle.book.specs.declared.standings.Standing.{Standing}

is_some-mapped : {X Y : Type 0} (f : X → Y) (o : Option X) → is_some (option_map f o) ≡ is_some o
is_some-mapped f (Some x) = refl
is_some-mapped f None = refl

not-not : (b : Bool) → not (not b) ≡ b
not-not true = refl
not-not false = refl

-- a test for nothing tells of what is in force
none-tells : {X Y : Type 0} (f : X → Y) (held : Option X) (o : Option Y) (b : Bool) → option_map f held ≡ o → is_some held ≡ not b → not (is_some o) ≡ b
none-tells f held o b is test = ap (λ p. not (is_some p)) (sym is) ∙ ap not (is_some-mapped f held) ∙ ap not test ∙ not-not b

-- the first owner of whom something is not in force, by its place
pub first-lacking : {X Y : Type 0} (held : Standing → Option X) (meaning : X → Y) (latest : ℕ → Option Y) (number : ℕ) (areas : List ℕ) (standings : List Standing) → length areas ≡ length standings
    → ((k : ℕ) → k < length standings → option_map meaning (held (get_or standings k nothing)) ≡ latest k)
    → (r : Option ℕ) → MatchOption r (AllWithin (λ s. is_some (held s) ≡ true) standings 0 (length standings)) (λ i. (i < length standings) × HoldsAt (λ s. is_some (held s) ≡ false) standings i × AllWithin (λ s. is_some (held s) ≡ true) standings 0 i)
    → option_map (placed number) r ≡ first_fault (each_from (λ k area. record { fails = not (is_some (latest k)); fault = placed number k }) 0 areas)
first-lacking held meaning latest number areas standings many force =
    first-fault-is (λ k area. record { fails = not (is_some (latest k)); fault = placed number k }) areas 0 standings nothing many (λ s. is_some (held s) ≡ false) (λ s. is_some (held s) ≡ true) (placed number) (λ k area. refl)
    (λ k h lacks. none-tells meaning _ _ true (force k h) lacks) (λ k h has. none-tells meaning _ _ false (force k h) has)

-- the row of an owner, by its area and what stands for it
abbrev pub standing_row : ℕ → Standing → OwnerRow
standing_row area s = row_for area (option_map filed_of s.filing) (option_map metered_of s.reading)

-- the rows of owners whose first has the number k
rows-from : (month : ℕ) (entries : List Noted) (k : ℕ) (areas : List ℕ) (standings : List Standing) → length standings ≡ length areas
    → ((i : ℕ) → i < length standings → option_map filed_of (get_or standings i nothing).filing ≡ filing_of month entries (k + i))
    → ((i : ℕ) → i < length standings → option_map metered_of (get_or standings i nothing).reading ≡ reading_of month entries (k + i))
    → along standing_row areas standings ≡ rows_from month entries k areas
rows-from month entries k [] standings many filings readings = refl
rows-from month entries k (area ∷ areas) [] many filings readings = absurd (omega arith)
rows-from month entries k (area ∷ areas) (s ∷ standings) many filings readings =
    let filing = rw add-zero at (filings 0 (omega arith)) in
    let reading = rw add-zero at (readings 0 (omega arith)) in
    let rest = rows-from month entries (suc k) areas standings (omega arith)
    (λ i h. let e : suc k + i ≡ k + suc i = omega arith in rw e (filings (suc i) (omega arith)))
    (λ i h. let e : suc k + i ≡ k + suc i = omega arith in rw e (readings (suc i) (omega arith)))
    in
    rw (filing, reading) (ap (λ rows. row_for area (filing_of month entries k) (reading_of month entries k) ∷ rows) rest)

pub rows-along : (month : ℕ) (entries : List Noted) (areas : List ℕ) (standings : List Standing) → length standings ≡ length areas → InForce standings month entries → along standing_row areas standings ≡ rows_from month entries 0 areas
rows-along month entries areas standings many force =
    rows-from month entries 0 areas standings many
    (λ i h. let e : 0 + i ≡ i = omega arith in rw e (force.filings i h))
    (λ i h. let e : 0 + i ≡ i = omega arith in rw e (force.readings i h))

pub length-rows : (month : ℕ) (entries : List Noted) (k : ℕ) (areas : List ℕ) → length (rows_from month entries k areas) ≡ length areas
length-rows month entries k [] = refl
length-rows month entries k (area ∷ areas) = ap suc (length-rows month entries (suc k) areas)

pub nobody-within : RowWithin nobody
nobody-within = record { required = (omega arith, omega arith, omega arith); used = (omega arith, omega arith, omega arith, omega arith) }

-- rows within their limits fail no check but that of the totals
inside-figure : (r : OwnerRow) → RowWithin r → outside_figure r ≡ false
inside-figure r w =
    or_from _ _ (or_from _ _ (le-ltb 2000000000 _ w.required.1) (le-ltb 2000000000 _ w.required.2))
    (or_from _ _ (le-ltb 180000000 _ w.used.0) (or_from _ _ (le-ltb 1000000 _ w.used.1) (or_from _ _ (le-ltb 100000000 _ w.used.2) (le-ltb 100000 _ w.used.3))))

inside-figures : (rows : List OwnerRow) → ((k : ℕ) → RowWithin (get_or rows k nobody)) → outside_figures rows ≡ false
inside-figures [] all = refl
inside-figures (r ∷ rows) all = or_from _ _ (inside-figure r (all 0)) (inside-figures rows (λ k. all (suc k)))

inside-areas : (rows : List OwnerRow) → ((k : ℕ) → RowWithin (get_or rows k nobody)) → outside_areas rows ≡ false
inside-areas [] all = refl
inside-areas (r ∷ rows) all = or_from _ _ (le-ltb 2 r.area (all 0).required.0) (inside-areas rows (λ k. all (suc k)))

pub only-totals : (rows : List OwnerRow) → 1 ≤ length rows → length rows ≤ 16 → ((k : ℕ) → RowWithin (get_or rows k nobody)) → first_fault (table_checks rows) ≡ cond (totals_check rows).fails (Some Totals) None
only-totals rows some few all =
    let owners : (eqb (length rows) 0 || (ltb 16 (length rows) || outside_areas rows)) ≡ false = or_from _ _ (ne_eqb (length rows) 0 (λ e. omega arith)) (or_from _ _ (le-ltb 16 (length rows) few) (inside-areas rows all)) in
    let figures : outside_figures rows ≡ false = inside-figures rows all in
    rw (owners, figures)

pub totals-fail : (b : Bool) (f : TableFault) → cond b (Some Totals) None ≡ Some f → b ≡ true
totals-fail true f e = refl
totals-fail false f e = let z : ◌≡◌ {A = ℕ} 0 1 = cc in absurd (omega arith)

pub totals-pass : (b : Bool) → ◌≡◌ {A = Option TableFault} (cond b (Some Totals) None) None → b ≡ false
totals-pass true e = let z : ◌≡◌ {A = ℕ} 0 1 = cc in absurd (omega arith)
totals-pass false e = refl
