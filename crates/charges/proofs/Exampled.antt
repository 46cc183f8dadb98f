-- The worked month under transition layers, reckoned.
use Rattle.std.proofs.Common.{refl}
use Rattle.division.specs.Nearest.{nearest}
use Rattle.division.specs.Shares.{running, shares_after, shares}
use Rattle.charges.specs.Burdens.{payments_within, payments_beyond, payments, mitigations, adjusted, finals, transitions}
use Rattle.charges.specs.Charging.{charged}
use Rattle.charges.specs.Transition.{burdens, final_burdens, transition_charges, transition_rates, transition_bills}
use Rattle.charges.specs.WorkedLayers.{WorkedLayers}

pub worked-layers : WorkedLayers
unfolding nearest running shares_after shares payments_within payments_beyond payments mitigations adjusted finals transitions charged burdens final_burdens transition_charges transition_rates transition_bills
worked-layers = record {
  worked_burdens = refl;
  roomy_finals = refl;
  roomy_charges = refl;
  tight_finals = refl;
  tight_charges = refl;
  on_volumetric = λ _. refl;
  on_hybrid = λ _. refl;
  on_a_layer = λ _. refl;
  fault_rises = λ _ _ _. refl;
  level_stops = λ _ _ _. refl;
}
