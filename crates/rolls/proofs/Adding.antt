-- One row more in the sums of all pairs.
use Rattle.std.proofs.Common.{◌≡◌, ℕ, cond, List, [], ◌∷◌, ◌++◌, length, get_or, set, ℤ, pos, ◌+ℤ◌, Some, Option, unwrap_or, refl, arith}
use Rattle.std.proofs.lemmas.Grind.{common_steps}
use Rattle.std.proofs.lemmas.Int.{ints}
use Rattle.std.proofs.lemmas.List.Sums.{sum_by_push, sum_by-cons}
use Rattle.std.proofs.lemmas.Bool.Decides.{nat_tests}
use Rattle.rolls.specs.Rows.{Row, WithinRow}
use Rattle.rolls.specs.Summaries.{of, sum_of, count_of}
use Rattle.rolls.specs.Tallies.{Tallied, pair_sum, sum_at}
use Rattle.rolls.specs.declared.sums.Sums.{Sums}

-- a row adds to its own pair
sum_of-push : (month owner : ℕ) (rows : List Row) (r : Row) → sum_of month owner (rows ++ r ∷ []) ≡ sum_of month owner rows +ℤ cond (of month owner r) r.cents (pos 0)
sum_of-push month owner [] r = omega (arith, ints)
sum_of-push month owner (x ∷ rows) r = omega (arith, ints, sum_of-push month owner rows r)

-- the sum of no rows is 0
sum_of-none : (month owner : ℕ) (rows : List Row) → count_of month owner rows ≡ 0 → sum_of month owner rows ≡ pos 0
sum_of-none month owner [] e = refl
sum_of-none month owner (r ∷ rows) e =
    let one = sum_by-cons (λ x. cond (of month owner x) 1 0) r rows in
    let rest = sum_of-none month owner rows in
    grind (arith, ints, rest)

pub sum-or_none : (month owner : ℕ) (rows : List Row) → unwrap_or (pair_sum rows month owner) (pos 0) ≡ sum_of month owner rows
sum-or_none month owner rows = let none = sum_of-none month owner rows in grind (arith, ints, nat_tests, none)

-- a pair's sum with one row more
pair-push : (month owner : ℕ) (rows : List Row) (r : Row) → pair_sum (rows ++ r ∷ []) month owner ≡ cond (of month owner r) (Some (unwrap_or (pair_sum rows month owner) (pos 0) +ℤ r.cents)) (pair_sum rows month owner)
pair-push month owner rows r =
    let count = sum_by_push (λ x. cond (of month owner x) 1 0) rows r in
    let sum = sum_of-push month owner rows r in
    let before = sum-or_none month owner rows in
    grind (arith, ints, nat_tests)

module _ (s : Sums) (rows : List Row) (r : Row) (within : WithinRow r) (wide : length s.months ≡ 360) (t : Tallied s rows) where
  abbrev sum : Option ℤ
  sum = Some (unwrap_or (sum_at s r.month r.owner) (pos 0) +ℤ r.cents)

  abbrev owners : List (Option ℤ)
  owners = set (get_or s.months r.month []) r.owner sum

  abbrev more : Sums
  more = record { months = set s.months r.month owners }

  pub tallied-more : Tallied more (rows ++ r ∷ [])
  tallied-more = record {
    owners = λ m hm. let before = t.owners m hm in grind (arith, common_steps);
    sums = λ m o hm ho.
        let before = t.sums m o hm ho in
        let room = t.owners r.month (omega (arith, within.0)) in
        let after = pair-push m o rows r in
        grind (arith, common_steps, nat_tests);
  }
