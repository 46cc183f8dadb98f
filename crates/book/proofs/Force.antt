-- The entries in force, one entry more.
use Rattle.std.proofs.Common.{◌≡◌, ℕ, ◌<◌, Bool, true, false, cond, ◌&&◌, eqb, ◌⊎◌, List, [], ◌∷◌, ◌++◌, length, get_or, set, Some, None, Option, sym, refl, ap, ◌∙◌, inl, inr, arith}
use Rattle.std.specs.Option.{option_map}
use Rattle.std.proofs.lemmas.List.{get_or-set_same, get_or-set_other, get_or_default, length-set}
use Rattle.std.proofs.lemmas.Bool.{cases_eq, eq-eqb, ne_eqb, and_from, and_left, and_right}
use Rattle.book.specs.Entries.{Noted, filed, metered, covers, touches, filing_for, reading_for, or_else, latest}
use Rattle.book.specs.Forces.{InForce, nothing}
use Rattle.book.specs.Meaning.{filed_of, metered_of}
use Rattle.book.specs.declared.entry.Filing.{Filing}
use Rattle.book.specs.declared.entry.Reading.{Reading}
use Rattle.book.specs.declared.standings.Standing.{Standing}

or_else-none : {X : Type 0} (o : Option X) → or_else o None ≡ o
or_else-none (Some x) = refl
or_else-none None = refl

or_else-assoc : {X : Type 0} (a b c : Option X) → or_else (or_else a b) c ≡ or_else a (or_else b c)
or_else-assoc (Some x) b c = refl
or_else-assoc None b c = refl

pub latest-push : {A X : Type 0} (pick : A → Option X) (es : List A) (e : A) → latest pick (es ++ e ∷ []) ≡ or_else (pick e) (latest pick es)
latest-push pick [] e = sym (or_else-none (pick e))
latest-push pick (x ∷ es) e = ap (λ o. or_else o (pick x)) (latest-push pick es e) ∙ or_else-assoc (pick e) (latest pick es) (pick x)

-- what is in force of one owner is set
module _ {X Y : Type 0} (meaning : X → Y) (held : Standing → Option X) (xs : List Standing) (x : X) (s : Standing) (holds : held s ≡ Some x) (at : ℕ) (long : at < length xs) (covered : Bool) (is : covered ≡ true) where
  pub one_set : (owner : ℕ) (before : Option Y) → option_map meaning (held (get_or xs owner nothing)) ≡ before
      → option_map meaning (held (get_or (set xs at s) owner nothing)) ≡ or_else (cond (eqb at owner && covered) (Some (meaning x)) None) before
  one_set owner before e = by (cases_eq at owner)
    where
      by : (at ≡ owner) ⊎ (at ≡ owner → ⊥) → option_map meaning (held (get_or (set xs at s) owner nothing)) ≡ or_else (cond (eqb at owner && covered) (Some (meaning x)) None) before
      by (inl p) =
          let here = get_or-set_same xs at s nothing long in
          let own : (eqb at owner && covered) ≡ true = and_from _ _ (eq-eqb at owner p) is in
          rw own (ap (λ k. option_map meaning (held (get_or (set xs at s) k nothing))) (sym p) ∙ ap (λ t. option_map meaning (held t)) here ∙ ap (option_map meaning) holds)
      by (inr n) =
          let other : (eqb at owner && covered) ≡ false = and_left _ _ (ne_eqb at owner n) in
          rw other (ap (λ t. option_map meaning (held t)) (get_or-set_other xs at owner s nothing (λ q. n (sym q))) ∙ e)

-- an entry that is not picked changes nothing
not-picked : {X : Type 0} (pick : Noted → Option X) (es : List Noted) (e : Noted) → pick e ≡ None → latest pick es ≡ latest pick (es ++ e ∷ [])
not-picked pick es e none = sym (latest-push pick es e ∙ ap (λ o. or_else o (latest pick es)) none)

away : {X : Type 0} (a : Bool) (x : X) (b : Bool) → b ≡ false → cond (a && b) (Some x) None ≡ None
away a x b e = let n = and_right a b e in rw n

-- what is in force otherwise of that owner stays
kept : {X Y : Type 0} (meaning : X → Y) (held : Standing → Option X) (xs : List Standing) (s : Standing) (at : ℕ) (d : Standing) → at < length xs → held s ≡ held (get_or xs at d)
    → (owner : ℕ) (before : Option Y) → option_map meaning (held (get_or xs owner nothing)) ≡ before → option_map meaning (held (get_or (set xs at s) owner nothing)) ≡ before
kept meaning held xs s at d long same owner before e = by (cases_eq at owner)
  where
    by : (at ≡ owner) ⊎ (at ≡ owner → ⊥) → option_map meaning (held (get_or (set xs at s) owner nothing)) ≡ before
    by (inl p) =
        let here = get_or-set_same xs at s nothing long in
        ap (λ k. option_map meaning (held (get_or (set xs at s) k nothing))) (sym p) ∙ ap (λ t. option_map meaning (held t)) here ∙ ap (option_map meaning) same ∙ ap (λ t. option_map meaning (held t)) (get_or_default xs at d nothing long) ∙ ap (λ k. option_map meaning (held (get_or xs k nothing))) p ∙ e
    by (inr n) = ap (λ t. option_map meaning (held t)) (get_or-set_other xs at owner s nothing (λ q. n (sym q))) ∙ e

module _ (xs : List Standing) (month : ℕ) (entries : List Noted) (i : InForce xs month entries) where
  pub force-filing : (f : Filing) (d : Standing) → f.figures.owner < length xs → covers month (filed_of f) ≡ true
      → InForce (set xs f.figures.owner (record { filing = Some f; reading = (get_or xs f.figures.owner d).reading })) month (entries ++ filed (filed_of f) ∷ [])
  force-filing f d long c =
      let s : Standing = record { filing = Some f; reading = (get_or xs f.figures.owner d).reading } in
      let many : length (set xs f.figures.owner s) ≡ length xs = length-set xs f.figures.owner s in
      record {
        filings = λ o h. one_set filed_of (λ t. t.filing) xs f s refl f.figures.owner long (covers month (filed_of f)) c o (latest (filing_for month o) entries) (i.filings o (omega (arith, many, h))) ∙ sym (latest-push (filing_for month o) entries (filed (filed_of f)));
        readings = λ o h. kept metered_of (λ t. t.reading) xs s f.figures.owner d long refl o (latest (reading_for month o) entries) (i.readings o (omega (arith, many, h))) ∙ not-picked (reading_for month o) entries (filed (filed_of f)) refl;
      }

  pub force_reading : (r : Reading) (d : Standing) → r.figures.owner < length xs → eqb r.figures.month month ≡ true
      → InForce (set xs r.figures.owner (record { filing = (get_or xs r.figures.owner d).filing; reading = Some r })) month (entries ++ metered (metered_of r) ∷ [])
  force_reading r d long c =
      let s : Standing = record { filing = (get_or xs r.figures.owner d).filing; reading = Some r } in
      let many : length (set xs r.figures.owner s) ≡ length xs = length-set xs r.figures.owner s in
      record {
        filings = λ o h. kept filed_of (λ t. t.filing) xs s r.figures.owner d long refl o (latest (filing_for month o) entries) (i.filings o (omega (arith, many, h))) ∙ not-picked (filing_for month o) entries (metered (metered_of r)) refl;
        readings = λ o h. one_set metered_of (λ t. t.reading) xs r s refl r.figures.owner long (eqb r.figures.month month) c o (latest (reading_for month o) entries) (i.readings o (omega (arith, many, h))) ∙ sym (latest-push (reading_for month o) entries (metered (metered_of r)));
      }

  -- an entry that does not touch the month changes nothing
  pub force_other : (e : Noted) → touches month e ≡ false → InForce xs month (entries ++ e ∷ [])
  force_other (filed f) c =
      record {
        filings = λ o h. i.filings o h ∙ not-picked (filing_for month o) entries (filed f) (away (eqb f.owner o) f (covers month f) c);
        readings = λ o h. i.readings o h ∙ not-picked (reading_for month o) entries (filed f) refl;
      }
  force_other (metered r) c =
      record {
        filings = λ o h. i.filings o h ∙ not-picked (filing_for month o) entries (metered r) refl;
        readings = λ o h. i.readings o h ∙ not-picked (reading_for month o) entries (metered r) (away (eqb r.owner o) r (eqb r.month month) c);
      }
