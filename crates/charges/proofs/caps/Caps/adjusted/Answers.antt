use Rattle.charges.proofs.Eased.{excess-held, payments-held, mitigations-held, adjusted-are}
use Rattle.charges.proofs.caps.Caps.adjusted.Goals as goal

pub returns : goal.returns
returns c =
    adjusted-are c.args.self.now c.args.burdens.now c.payments.result c.excess-excess.result c.payments.ensures c.excess-excess.ensures
    c.less-mitigations.result c.less-mitigations.ensures c.plus.result c.plus.ensures

pub less-mitigations-requires : goal.less-mitigations-requires
less-mitigations-requires c =
    let s = c.args.self.now in
    let b = c.args.burdens.now in
    record {
      bound = payments-held s b c.payments.result c.excess-excess.result c.payments.ensures c.excess-excess.ensures;
      other_bound = excess-held s b c.excess-excess.result c.excess-excess.ensures;
    }

pub plus-requires-clause-more_bound : goal.plus-requires-clause-more_bound
plus-requires-clause-more_bound c =
    mitigations-held c.args.self.now c.args.burdens.now c.payments.result c.excess-excess.result c.payments.ensures c.excess-excess.ensures
    c.less-mitigations.result c.less-mitigations.ensures
