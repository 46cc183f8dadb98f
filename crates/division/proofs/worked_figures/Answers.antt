use Rattle.std.proofs.Common.{refl}
use Rattle.division.specs.Nearest.{nearest}
use Rattle.division.specs.Shares.{running, shares_after, shares}
use Rattle.division.proofs.worked_figures.Goals as goal

pub returns : goal.returns
unfolding nearest running shares_after shares
returns c = record { count = refl; worked = record { shares_of_400 = refl; shares_of_minus_7 = refl; half_goes_upward = refl } }
