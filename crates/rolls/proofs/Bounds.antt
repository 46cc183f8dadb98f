-- How large the sums of lines can get.
use Rattle.std.proofs.Common.{ℕ, ◌*◌, ◌≤◌, cond, List, [], ◌∷◌, length, nat_abs, arith}
use Rattle.std.specs.List.{AllByRecursion}
use Rattle.std.proofs.lemmas.Int.{ints}
use Rattle.std.proofs.lemmas.List.Sums.{sum_by-cons, count_by-le-length}
use Rattle.rolls.specs.Rows.{Row, WithinRow}
use Rattle.rolls.specs.Summaries.{of, sum_of, count_of}
use Rattle.rolls.specs.Tallies.{Tallied, Room}
use Rattle.rolls.specs.declared.sums.Sums.{Sums}
use Rattle.rolls.proofs.Adding.{sum-or_none}

abbrev most : ℕ
most = 800000000000000

pub sum_bound : (month owner : ℕ) (rows : List Row) → AllByRecursion WithinRow rows → nat_abs (sum_of month owner rows) ≤ count_of month owner rows * most
sum_bound month owner [] h = omega arith
sum_bound month owner (r ∷ rows) h =
    let rest = sum_bound month owner rows h.1 in
    let one = sum_by-cons (λ x. cond (of month owner x) 1 0) r rows in
    let own = h.0.4 in
    grind (arith, ints)

pub room-left : (s : Sums) (rows : List Row) → Tallied s rows → AllByRecursion WithinRow rows → length rows ≤ 2426 → Room s
room-left s rows t within few = record { sums = λ m o hm ho. rw (t.sums m o hm ho, sum-or_none m o rows) (omega (arith, sum_bound m o rows within, count_by-le-length (of m o) rows)) }
