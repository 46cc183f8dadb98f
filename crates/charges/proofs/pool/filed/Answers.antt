use Rattle.std.proofs.Common.{rules, ◌≤◌, sum_by, arith}
use Rattle.std.proofs.iter.runs.Sources.{sums}
use Rattle.std.proofs.lemmas.List.Sums.{sum-map}
use Rattle.charges.specs.Parts.{little-weight}
use Rattle.charges.specs.Pools.{weight}
use Rattle.charges.specs.Tables.{rows_of}
use Rattle.charges.proofs.Limits.{table-good}
use Rattle.charges.proofs.pool.filed.Goals as goal

pub sum-requires-clause-fits : goal.sum-requires-clause-fits
sum-requires-clause-fits c =
    let rows = rows_of c.args.table.now in
    let all = little-weight c.args.basis rows (table-good c.args.table.now) in
    let little : sum_by (weight c.args.basis) rows ≤ 2880000000 = omega (arith, all, sum-map (weight c.args.basis) rows) in
    search (rules, sums, little)
