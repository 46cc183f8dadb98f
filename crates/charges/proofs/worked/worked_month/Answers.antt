use Rattle.std.proofs.Common.{refl}
use Rattle.division.specs.Nearest.{nearest}
use Rattle.division.specs.Shares.{running, shares_after, shares}
use Rattle.charges.specs.Charging.{charged}
use Rattle.charges.proofs.Exampled.{worked-layers}
use Rattle.charges.proofs.worked.worked_month.Goals as goal

pub returns-clause-worked : goal.returns-clause-worked
unfolding nearest running shares_after shares charged
returns-clause-worked c = record { volumetric_eight = λ _. refl; hybrid_fifty = λ _. refl }

pub returns-clause-layers : goal.returns-clause-layers
returns-clause-layers c = worked-layers
