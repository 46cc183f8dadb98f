-- What the figures of a month that is worked out keep to.
use Rattle.std.proofs.Common.{◌≡◌, ℕ, suc, ◌<◌, ◌≤◌, Bool, true, false, cond, ◌&&◌, eqb, ◌⊎◌, List, [], ◌∷◌, ◌++◌, map, length, ℤ, pos, nat_abs, IfOk, Some, None, Ok, Err, Option, Result, sym, refl, ap, ◌∙◌, subst, inl, inr, arith}
use Rattle.std.proofs.lemmas.List.{length-map}
use Rattle.std.proofs.lemmas.Int.{ints}
use Rattle.std.proofs.lemmas.Bool.{cases_lt, and_cases, eq-eqb, ltb-false}
use Rattle.division.specs.Shares.{total, int_sum, shares}
use Rattle.division.proofs.Divides.{running-divides}
use Rattle.division.proofs.Rules.{sum-without-weight}
use Rattle.charges.specs.Checks.{Check, first_fault, each_from, passes}
use Rattle.charges.specs.Outcomes.{Outcome, refused, billed, PartsCover, OneOfEach}
use Rattle.charges.specs.Rows.{Good}
use Rattle.charges.specs.declared.table.OwnerRow.{OwnerRow}
use Rattle.charges.specs.Answered.{first_fault-pass, first_fault-stop}
use Rattle.charges.proofs.Promised.{within-caps}
use Rattle.book.specs.Entries.{Noted}
use Rattle.book.specs.Laws.{Balanced}
use Rattle.book.specs.Workings.{Refusal, plain, Figures, worked, table_checks, rows_from, charged, settled, netted, net_checks, rate_check, weight_check, adjustment, utility_amount, weight_of, less, nets_of, worked_out}
use Rattle.book.proofs.Adjusting.{length-shares}
use Rattle.book.proofs.Differences.{length-less, length-nets}
use Rattle.book.proofs.Growing.{sum_less}

rows-many : (month : ℕ) (entries : List Noted) (k : ℕ) (areas : List ℕ) → length (rows_from month entries k areas) ≡ length areas
rows-many month entries k [] = refl
rows-many month entries k (a ∷ others) = ap suc (rows-many month entries (suc k) others)

-- checks that all pass: the last do
pub last-pass : (front rest : List (Check Refusal)) → first_fault (front ++ rest) ≡ None → first_fault rest ≡ None
last-pass front rest none = by (first_fault front) refl
  where
    by : (o : Option Refusal) → first_fault front ≡ o → first_fault rest ≡ None
    by None e = sym (first_fault-pass front rest e) ∙ none
    by (Some f) e = let k = sym (first_fault-stop front rest f e) ∙ none in let z : ◌≡◌ {A = ℕ} 0 1 = cc in absurd (omega arith)

pub passed : (b : Bool) (f : Refusal) → cond b (Some f) None ≡ None → b ≡ false
passed true f e = let z : ◌≡◌ {A = ℕ} 0 1 = cc in absurd (omega arith)
passed false f e = refl

-- the nets of a month cancel: the adjustment is divided whole, or there is none
module _ (rows : List OwnerRow) (bills : List ℤ) (many : length bills ≡ length rows) (clear : first_fault (net_checks rows bills) ≡ None) where
  abbrev amounts : List ℤ
  amounts = map utility_amount rows

  abbrev weights : List ℕ
  weights = map weight_of rows

  abbrev sum : ℤ
  sum = adjustment rows bills

  borne : (eqb (total weights) 0 && passes 0 sum) ≡ false
  borne = passed _ (plain 15) (last-pass (each_from rate_check 0 rows) (weight_check rows bills ∷ []) clear)

  whole : int_sum (shares sum weights) ≡ sum
  whole = by (cases_lt 0 (total weights))
    where
      by : (0 < total weights) ⊎ (total weights ≤ 0) → int_sum (shares sum weights) ≡ sum
      by (inl h) = running-divides.shares_add_up sum weights h
      by (inr h) = let none : total weights ≡ 0 = omega arith in nothing none (and_cases _ _ borne)
        where
          nothing : total weights ≡ 0 → (eqb (total weights) 0 ≡ false) ⊎ (passes 0 sum ≡ false) → int_sum (shares sum weights) ≡ sum
          nothing none (inl e) = let k = sym (eq-eqb (total weights) 0 none) ∙ e in let z : ◌≡◌ {A = ℕ} 0 1 = cc in absurd (omega arith)
          nothing none (inr e) = sum-without-weight shares running-divides sum weights none ∙ (let k = ltb-false 0 (nat_abs sum) e in omega (arith, ints))

  as-many-amounts : length amounts ≡ length bills
  as-many-amounts = length-map rows utility_amount ∙ sym many

  as_many_shares : length (shares sum weights) ≡ length bills
  as_many_shares = length-shares sum rows ∙ sym many

  pub nets-many : length (nets_of rows bills) ≡ length rows
  nets-many = length-nets bills amounts (shares sum weights) as-many-amounts as_many_shares ∙ many

  pub nets-none : int_sum (nets_of rows bills) ≡ pos 0
  nets-none =
      let all = sum_less (less bills amounts) (shares sum weights) (length-less bills amounts (sym as-many-amounts) ∙ sym as_many_shares) in
      let some = sum_less bills amounts (sym as-many-amounts) in
      omega (arith, ints, all, some, whole)

module _ (meaning : ℕ → List OwnerRow → Outcome) (areas : List ℕ) (month : ℕ) (entries : List Noted) where
  abbrev rows_in : List OwnerRow
  rows_in = rows_from month entries 0 areas

  module _ (good : Good rows_in) (covers : PartsCover rows_in (meaning month rows_in)) (one : OneOfEach rows_in (meaning month rows_in)) where
    pub balanced : (w : Figures) → worked_out meaning areas month entries ≡ worked w → Balanced (length areas) w
    balanced w = by (first_fault (table_checks month areas entries))
      where
        netted-by : (parts bills : List ℤ) → PartsCover rows_in (billed parts bills) → OneOfEach rows_in (billed parts bills) → (o : Option Refusal) → first_fault (net_checks rows_in bills) ≡ o → netted o rows_in parts bills ≡ worked w → Balanced (length areas) w
        netted-by parts bills cover each (Some f) c e = let z : ◌≡◌ {A = ℕ} 0 1 = cc in absurd (omega arith)
        netted-by parts bills cover each None c e =
            let same : record { rows = rows_in; parts = parts; bills = bills; nets = nets_of rows_in bills } ≡ w = cc in
            subst (Balanced (length areas)) same (record {
              a_net_for_every_owner = nets-many rows_in bills each.1 c ∙ rows-many month entries 0 areas;
              nets_cancel = nets-none rows_in bills each.1 c;
              parts_cover_the_requirements = cover;
              burdens_stay_within_caps = λ tenths caps long filed owner h. within-caps tenths caps long rows_in good filed owner h;
            })

        settled-by : (outcome : Outcome) → PartsCover rows_in outcome → OneOfEach rows_in outcome → settled outcome rows_in ≡ worked w → Balanced (length areas) w
        settled-by (refused number place level) cover each e = let z : ◌≡◌ {A = ℕ} 0 1 = cc in absurd (omega arith)
        settled-by (billed parts bills) cover each e = netted-by parts bills cover each (first_fault (net_checks rows_in bills)) refl e

        by : (o : Option Refusal) → charged o (meaning month) rows_in ≡ worked w → Balanced (length areas) w
        by (Some f) e = let z : ◌≡◌ {A = ℕ} 0 1 = cc in absurd (omega arith)
        by None e = settled-by (meaning month rows_in) covers one e

-- a fact that stands whatever the answer is
pub made-always : {X E : Type 0} (r : Result X E) (P : Type 0) → P → IfOk r (λ _. P)
made-always (Ok x) P p = p
made-always (Err e) P p = tt
