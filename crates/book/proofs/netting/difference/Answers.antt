use Rattle.std.proofs.Common.{◌≤◌, ℤ, nat_abs, arith}
use Rattle.std.proofs.lemmas.Int.{ints}
use Rattle.division.specs.Shares.{int_sum}
use Rattle.charges.specs.Amounts.{amounts_of, AllBelow}
use Rattle.charges.specs.declared.owners.Owners.{Owners}
use Rattle.charges.proofs.Sizes.{owners-long, below-sum}
use Rattle.book.proofs.netting.difference.Goals as goal

-- sixteen amounts together
sum-small : (a : Owners ℤ) → AllBelow 10000000000000 (amounts_of a) → nat_abs (int_sum (amounts_of a)) ≤ 160000000000000
sum-small a small = omega (arith, below-sum 10000000000000 (amounts_of a) small, owners-long a, a.few)

pub overflow_sub-result : goal.overflow_sub-result
overflow_sub-result c = omega (arith, ints, c.total.ensures, c.total-2.ensures, sum-small c.args.bills.now c.requires.bills, sum-small c.args.amounts.now c.requires.amounts)

pub overflow_cast-result : goal.overflow_cast-result
overflow_cast-result c = omega (arith, ints, c.total.ensures, c.total-2.ensures, sum-small c.args.bills.now c.requires.bills, sum-small c.args.amounts.now c.requires.amounts)

pub returns : goal.returns
returns c =
    let b = c.args.bills.now in
    let a = c.args.amounts.now in
    record {
      value = omega (arith, ints, c.total.ensures, c.total-2.ensures, sum-small b c.requires.bills, sum-small a c.requires.amounts);
      bound = omega (arith, ints, c.total.ensures, c.total-2.ensures, sum-small b c.requires.bills, sum-small a c.requires.amounts);
    }
