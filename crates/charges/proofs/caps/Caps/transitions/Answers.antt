use Rattle.charges.proofs.Eased.{finals-held, transitions-are}
use Rattle.charges.proofs.caps.Caps.transitions.Goals as goal

pub less-requires-clause-bound : goal.less-requires-clause-bound
less-requires-clause-bound c = finals-held c.args.self.now c.args.burdens.now c.finals.result c.finals.ensures

pub returns : goal.returns
returns c = transitions-are c.args.self.now c.args.burdens.now c.finals.result c.finals.ensures c.less.result c.less.ensures
