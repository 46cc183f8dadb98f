use Rattle.std.proofs.Common.{◌≡◌, ℕ, ◌<◌, ◌≤◌, false, cond, ◌||◌, eqb, ltb, ◌⊎◌, length, get_or, replicate, Some, None, vec_capacity, Option, sym, refl, ap, inl, inr, arith, rules}
use Rattle.std.proofs.lemmas.List.{get_or-replicate, get_or_past}
use Rattle.std.proofs.lemmas.Bool.{cases_lt, or_from, le-ltb}
use Rattle.charges.specs.Checks.{any_by}
use Rattle.charges.specs.Owners.{items_of}
use Rattle.charges.proofs.Sizes.{owners-long}
use Rattle.book.specs.Journals.{entries_of}
use Rattle.book.specs.Workings.{plain}
use Rattle.book.proofs.Accounting.{begun}
use Rattle.book.proofs.book.Book.new.Goals as goal

unmarked : (month : ℕ) → ◌≡◌ {A = Option ℕ} (get_or (replicate 360 None) month None) None
unmarked month = by (cases_lt month 360)
  where
    by : (month < 360) ⊎ (360 ≤ month) → ◌≡◌ {A = Option ℕ} (get_or (replicate 360 None) month None) None
    by (inl h) = get_or-replicate 360 month None None h
    by (inr h) = get_or_past (replicate 360 None) month None h

pub returns : goal.returns
returns g c =
    let areas = c.args.areas.now in
    let owners = c.in_ok-owners.owners in
    let same : items_of owners ≡ areas = search rules in
    let few : length areas ≤ 16 = omega (arith, owners-long owners, ap length same, owners.few) in
    let fine : (eqb (length areas) 0 || (ltb 16 (length areas) || any_by (λ a. ltb 2 a) areas)) ≡ false =
    or_from _ _ (sym c.if-is_empty.ensures) (or_from _ _ (le-ltb _ _ few) (sym c.if-strays.ensures)) in
    record {
      book = (ap (λ b. cond b (Some (plain 1)) None) fine, same, refl, unmarked);
      begins = λ journal free empty. record { areas_are = same; meaning_is = refl; accounts = begun areas (g.C.Charge.meaning c.args.charge) _ (entries_of journal) (vec_capacity journal) free unmarked empty };
    }
