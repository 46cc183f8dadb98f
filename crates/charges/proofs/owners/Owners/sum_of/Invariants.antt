-- What the first answers add up to, and that sixteen of 64 bits add up within 128.
use Rattle.std.proofs.Common.{◌≡◌, ◌≤◌, ◌*◌, ℤ, take, map, nat_abs}
use Rattle.std.specs.Fn.{FnReturnsAt}
use Rattle.division.specs.Shares.{int_sum}
use Rattle.charges.specs.Owners.{items_of}
use Rattle.charges.proofs.owners.Owners.sum_of.Given as goal

abbrev pub invariant-loop-item : goal.invariant-loop-item
invariant-loop-item g l =
    record {
      sum : (f : g.row.T.Denot → ℤ) → ((x : g.row.T.Denot) (r : ℤ) → FnReturnsAt g.F.Fn l.rule x r → r ≡ f x) → l.sum ≡ int_sum (map f (take l.item-index (items_of l.self)));
      size : nat_abs l.sum ≤ l.item-index * 9223372036854775808;
    }
