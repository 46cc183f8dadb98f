use Rattle.std.proofs.Common.{rules, refl}
use Rattle.charges.specs.Burdens.{benefit}
use Rattle.charges.proofs.Eased.{pairs-held}
use Rattle.charges.proofs.Given.{given_of_pairs}
use Rattle.charges.proofs.caps.Caps.benefit.Goals as goal

pub beside-requires : goal.beside-requires
beside-requires c = (search rules, pairs-held c.args.self.now c.args.burdens.now _ refl)

pub returns : goal.returns
returns c = given_of_pairs _ _ benefit (λ x r h. let met = h.says.met in search rules) _ _ _ refl _ c.beside.ensures.each
