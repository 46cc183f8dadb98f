use Rattle.std.proofs.Common.{refl}
use Rattle.division.specs.Nearest.{nearest}
use Rattle.division.specs.Shares.{running, shares_after, shares}
use Rattle.division.proofs.Floors.{div_euclid-floor}
use Rattle.charges.specs.Charging.{charged}
use Rattle.worked.proofs.Reckoned.{worked-month}
use Rattle.worked.proofs.worked_month.Goals as goal

pub returns : goal.returns
unfolding nearest running shares_after shares charged
returns c = record { correction = refl; worked = worked-month; rounds_down = div_euclid-floor }
