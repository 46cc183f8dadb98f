use Rattle.std.proofs.Common.{◌≡◌, ◌≤◌, take}
use Rattle.division.specs.Outcomes.{most_weight}
use Rattle.division.specs.Shares.{total}
use Rattle.division.proofs.total_weight.Given as goal

abbrev pub invariant-loop-weight : goal.invariant-loop-weight
invariant-loop-weight l = (l.all ≡ total (take l.weight-index l.weights)) × (l.all ≤ most_weight)
