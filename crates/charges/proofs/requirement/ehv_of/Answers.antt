use Rattle.std.proofs.Common.{rules}
use Rattle.charges.specs.declared.table.OwnerRow.{OwnerRow}
use Rattle.charges.proofs.Given.{given_by}
use Rattle.charges.proofs.requirement.ehv_of.Goals as goal

pub returns : goal.returns
returns c = given_by _ _ (λ (r : OwnerRow). r.ehv) (λ x r h. let met = h.says.met in search rules) _ _ c.map.ensures.each
