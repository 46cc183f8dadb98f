use Rattle.std.proofs.Common.{rules}
use Rattle.charges.specs.Pools.{weight}
use Rattle.charges.proofs.Given.{given_by}
use Rattle.charges.proofs.pool.Basis.weights.Goals as goal

pub returns : goal.returns
returns c = given_by _ _ (weight c.args.self) (λ x r h. let met = h.says.met in search rules) _ _ c.map.ensures.each
