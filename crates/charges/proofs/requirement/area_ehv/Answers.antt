use Rattle.std.proofs.Common.{rules, ◌≡◌, arith}
use Rattle.std.proofs.lemmas.Int.{ints}
use Rattle.charges.specs.Rows.{area_ehv, ehv_in}
use Rattle.charges.specs.Tables.{rows_of}
use Rattle.charges.proofs.Limits.{area-small}
use Rattle.charges.proofs.requirement.area_ehv.Goals as goal

pub overflow_cast-result : goal.overflow_cast-result
overflow_cast-result c =
    let is = c.sum_of.ensures (ehv_in c.args.area) (λ x r h. let met = h.says.met in search rules) in
    let small = area-small c.args.table.now c.args.area in
    omega (arith, ints)

pub returns : goal.returns
returns c =
    let is = c.sum_of.ensures (ehv_in c.args.area) (λ x r h. let met = h.says.met in search rules) in
    let small = area-small c.args.table.now c.args.area in
    let value : _ ≡ area_ehv c.args.area (rows_of c.args.table.now) = omega (arith, ints) in
    record { value = value; bound = rw value small }
