use Rattle.std.proofs.Common.{◌+◌, arith}
use Rattle.std.proofs.lemmas.List.Sums.{sum_by_more, sum_by-take-le}
use Rattle.division.proofs.total_weight.Goals as goal

pub returns-then-weight-all : goal.returns-then-weight-all
returns-then-weight-all c =
    let ws = c.args.weights.now in
    let i = c.loop-weight.weight-index in
    λ h. omega (arith, sum_by_more (λ x. x) ws i 0 (omega arith), sum_by-take-le (λ x. x) ws (i + 1))
