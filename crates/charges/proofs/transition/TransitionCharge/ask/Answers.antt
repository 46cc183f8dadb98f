use Rattle.std.proofs.Common.{sym, ap, ◌∙◌, subst}
use Rattle.charges.specs.Amounts.{amounts_of}
use Rattle.charges.specs.Meaning.{told}
use Rattle.charges.specs.Outcomes.{OneOfEach, Bounded}
use Rattle.charges.specs.Tables.{rows_of}
use Rattle.charges.proofs.Given.{mapped-from_ok}
use Rattle.charges.proofs.Limits.{table-good}
use Rattle.charges.proofs.Settling.{small-below}
use Rattle.charges.proofs.transition.TransitionCharge.ask.Goals as goal

pub add_to-requires : goal.add_to-requires
add_to-requires g c =
    let rows = rows_of c.args.table.now in
    let good = table-good c.args.table.now in
    let was = mapped-from_ok _ _ _ c.map_err.ensures.cases _ c.in_ok-billing.was in
    let meant = ap told (sym was) ∙ c.ask.ensures.meant in
    let one = subst (OneOfEach rows) (sym meant) (g.met.C.Charge.one_of_each_for_every_owner c.args.self.now.below c.args.month rows good) in
    let small = subst Bounded (sym meant) (g.met.C.Charge.figures_stay_bounded c.args.self.now.below c.args.month rows good) in
    record {
      parts = one.0;
      bills = one.1;
      part_bound = small-below (amounts_of c.in_ok-billing.billing.parts) small.0;
      bill_bound = small-below (amounts_of c.in_ok-billing.billing.bills) small.1;
    }
