use Rattle.division.specs.Shares.{shares}
use Rattle.charges.specs.Burdens.{along, excess, headroom, payments, mitigations, adjusted}
use Rattle.charges.specs.Tables.{rows_of}
use Rattle.charges.proofs.Eased.{charges-held, excess-held, payments-held, mitigations-are}
use Rattle.charges.proofs.Limits.{table-good}
use Rattle.charges.proofs.Settling.{charges-are, eased-are, final-burdens-are, rates-are}
use Rattle.charges.proofs.transition.Transition.columns.Goals as goal

pub returns : goal.returns
returns g c =
    let s = c.args.self.now.caps in
    let rows = rows_of c.args.table.now in
    let good = table-good c.args.table.now in
    let b = c.burdens-burdens.result in
    let b-is = c.burdens-burdens.ensures in
    let charges-is = charges-are s rows good b.amounts b-is c.transitions-charges.result c.transitions-charges.ensures in
    record {
      burdens = b-is;
      headroom = eased-are s rows good b.amounts b-is (along headroom) c.headroom-headroom.result c.headroom-headroom.ensures;
      excess = eased-are s rows good b.amounts b-is (along excess) c.excess-excess.result c.excess-excess.ensures;
      payments = eased-are s rows good b.amounts b-is (payments shares) c.payments-payments.result c.payments-payments.ensures;
      mitigations = eased-are s rows good b.amounts b-is (mitigations shares) c.less.result (mitigations-are s b c.payments-payments.result c.excess-excess.result c.payments-payments.ensures c.excess-excess.ensures c.less.result c.less.ensures);
      adjusted = eased-are s rows good b.amounts b-is (adjusted shares) c.adjusted.result c.adjusted.ensures;
      finals = final-burdens-are s rows good b.amounts b-is c.finals.result c.finals.ensures;
      charges = charges-is;
      rates = rates-are s rows good c.transitions-charges.result charges-is c.rates_of.result c.rates_of.ensures;
    }

pub less-requires : goal.less-requires
less-requires g c =
    let s = c.args.self.now.caps in
    let b = c.burdens-burdens.result in
    record {
      bound = payments-held s b c.payments-payments.result c.excess-excess.result c.payments-payments.ensures c.excess-excess.ensures;
      other_bound = excess-held s b c.excess-excess.result c.excess-excess.ensures;
    }

pub rates_of-requires : goal.rates_of-requires
rates_of-requires g c = charges-held c.args.self.now.caps c.burdens-burdens.result c.transitions-charges.result c.transitions-charges.ensures
