use Rattle.std.proofs.Common.{rules, ◌≤◌, map, nat_abs, ap, ◌∙◌, w64, arith}
use Rattle.std.proofs.lemmas.Int.{to_z-of_z}
use Rattle.division.specs.Outcomes.{most_weight}
use Rattle.division.specs.Shares.{shares, total}
use Rattle.charges.specs.Amounts.{amounts_of}
use Rattle.charges.specs.Owners.{items_of}
use Rattle.charges.proofs.Given.{given_by, granted_by}
use Rattle.charges.proofs.Sizes.{weigh-little, owners-long}
use Rattle.charges.proofs.amounts.Owners+i64.divided.Goals as goal

pub unwrap-requires : goal.unwrap-requires
unwrap-requires c =
    let weighed = given_by _ _ nat_abs (λ x r h. let met = h.says.met in search rules) _ _ c.map-weights.ensures.each in
    let little : total (map nat_abs (amounts_of c.args.self.now)) ≤ most_weight = omega (arith, weigh-little 1000000000000000 (amounts_of c.args.self.now) c.requires, owners-long c.args.self.now, c.args.self.now.few) in
    granted_by _ _ _ _ c.shares.ensures (rw weighed little)

pub returns : goal.returns
returns c =
    let weighed = given_by _ _ nat_abs (λ x r h. let met = h.says.met in search rules) _ _ c.map-weights.ensures.each in
    let read = to_z-of_z w64 c.args.sum c.ranges.sum in
    (rw c.unwrap.ensures at c.shares.ensures).1 ∙ ap (λ z. shares z (items_of c.map-weights.result)) read ∙ ap (shares c.args.sum) weighed
