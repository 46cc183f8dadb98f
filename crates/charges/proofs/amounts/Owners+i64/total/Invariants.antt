-- What the first amounts add up to, and that sixteen of 64 bits add up within 128.
use Rattle.std.proofs.Common.{◌≡◌, ◌≤◌, ◌*◌, take, nat_abs}
use Rattle.division.specs.Shares.{int_sum}
use Rattle.charges.specs.Amounts.{amounts_of}
use Rattle.charges.proofs.amounts.Owners+i64.total.Given as goal

abbrev pub invariant-loop-amount : goal.invariant-loop-amount
invariant-loop-amount l = record { sum : l.sum ≡ int_sum (take l.amount-index (amounts_of l.self)); size : nat_abs l.sum ≤ l.amount-index * 9223372036854775808 }
