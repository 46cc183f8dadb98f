use Rattle.std.proofs.Common.{rules}
use Rattle.charges.proofs.Alone.{existing-alone}
use Rattle.charges.proofs.Promised.{within-caps, charges-cancel}
use Rattle.charges.proofs.transition.Transition.new.Goals as goal

pub returns-in_err-existing-clause-divides_existing_alone : goal.returns-in_err-existing-clause-divides_existing_alone
returns-in_err-existing-clause-divides_existing_alone g c = existing-alone c.args.tenths

pub returns-in_err-existing-clause-burdens_stay_within_caps : goal.returns-in_err-existing-clause-burdens_stay_within_caps
returns-in_err-existing-clause-burdens_stay_within_caps g c = within-caps c.args.tenths c.args.caps (search rules)

pub returns-in_err-existing-clause-transition_charges_cancel : goal.returns-in_err-existing-clause-transition_charges_cancel
returns-in_err-existing-clause-transition_charges_cancel g c = charges-cancel c.args.tenths c.args.caps (search rules)

pub returns-then-some_cap_outside-clause-divides_existing_alone : goal.returns-then-some_cap_outside-clause-divides_existing_alone
returns-then-some_cap_outside-clause-divides_existing_alone g c = existing-alone c.args.tenths

pub returns-then-some_cap_outside-clause-burdens_stay_within_caps : goal.returns-then-some_cap_outside-clause-burdens_stay_within_caps
returns-then-some_cap_outside-clause-burdens_stay_within_caps g c = within-caps c.args.tenths c.args.caps (search rules)

pub returns-then-some_cap_outside-clause-transition_charges_cancel : goal.returns-then-some_cap_outside-clause-transition_charges_cancel
returns-then-some_cap_outside-clause-transition_charges_cancel g c = charges-cancel c.args.tenths c.args.caps (search rules)

pub returns-clause-divides_existing_alone : goal.returns-clause-divides_existing_alone
returns-clause-divides_existing_alone g c = existing-alone c.args.tenths

pub returns-clause-burdens_stay_within_caps : goal.returns-clause-burdens_stay_within_caps
returns-clause-burdens_stay_within_caps g c = within-caps c.args.tenths c.args.caps (search rules)

pub returns-clause-transition_charges_cancel : goal.returns-clause-transition_charges_cancel
returns-clause-transition_charges_cancel g c = charges-cancel c.args.tenths c.args.caps (search rules)
