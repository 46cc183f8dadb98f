-- The worked figures, reckoned.
use Rattle.std.proofs.Common.{refl}
use Rattle.division.specs.Nearest.{nearest}
use Rattle.division.specs.Shares.{running, shares_after, shares}
use Rattle.charges.specs.Burdens.{payments_within, payments_beyond, payments, mitigations, adjusted, finals, transitions}
use Rattle.charges.specs.Charging.{charged}
use Rattle.charges.specs.Transition.{burdens, final_burdens, transition_charges, transition_rates, transition_bills}
use Rattle.worked.specs.Month.{WorkedMonth}

pub worked-month : WorkedMonth
unfolding nearest running shares_after shares payments_within payments_beyond payments mitigations adjusted finals transitions charged burdens final_burdens transition_charges transition_rates transition_bills
worked-month = record {
  shares_of_400 = refl;
  shares_of_minus_7 = refl;
  half_goes_upward = refl;
  volumetric_eight = λ _. refl;
  hybrid_fifty = λ _. refl;
  worked_burdens = refl;
  roomy_finals = refl;
  roomy_charges = refl;
  tight_finals = refl;
  tight_charges = refl;
  on_volumetric = λ _. refl;
  on_hybrid = λ _. refl;
  on_a_layer = λ _. refl;
  fault_rises = λ _ _ _. refl;
  level_stops = λ _ _ _. refl;
  table_in_force = refl;
  nets_at_six = refl;
  first_lines = refl;
  correcting_lines = refl;
  calls_answered = (refl, (refl, (refl, (refl, (refl, (refl, (refl, (refl, (refl, (refl, (refl, (refl, (refl, (refl, tt))))))))))))));
  record_of_a_line = refl;
}
