use Rattle.std.proofs.Common.{rules, ◌≡◌, arith}
use Rattle.std.proofs.lemmas.Int.{ints}
use Rattle.charges.specs.Rows.{all_ehv}
use Rattle.charges.specs.Tables.{rows_of}
use Rattle.charges.specs.declared.table.OwnerRow.{OwnerRow}
use Rattle.charges.proofs.Limits.{ehv-small}
use Rattle.charges.proofs.requirement.all_ehv.Goals as goal

pub overflow_cast-result : goal.overflow_cast-result
overflow_cast-result c =
    let is = c.sum_of.ensures (λ (r : OwnerRow). r.ehv) (λ x r h. let met = h.says.met in search rules) in
    let small = ehv-small c.args.table.now in
    omega (arith, ints)

pub returns : goal.returns
returns c =
    let is = c.sum_of.ensures (λ (r : OwnerRow). r.ehv) (λ x r h. let met = h.says.met in search rules) in
    let small = ehv-small c.args.table.now in
    let value : _ ≡ all_ehv (rows_of c.args.table.now) = omega (arith, ints) in
    record { value = value; bound = rw value small }
