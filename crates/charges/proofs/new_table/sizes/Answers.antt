use Rattle.std.proofs.Common.{rules}
use Rattle.std.proofs.iter.runs.Sources.{sums}
use Rattle.charges.proofs.Limits.{sizes-little}
use Rattle.charges.proofs.new_table.sizes.Goals as goal

pub sum-ehv-requires-clause-fits : goal.sum-ehv-requires-clause-fits
sum-ehv-requires-clause-fits c =
    let little = (sizes-little c.args.rows.now c.requires.within c.requires.few).0 in
    search (rules, sums, little)

pub sum-nhv-requires-clause-fits : goal.sum-nhv-requires-clause-fits
sum-nhv-requires-clause-fits c =
    let little = (sizes-little c.args.rows.now c.requires.within c.requires.few).1 in
    search (rules, sums, little)

pub returns-clause-ehv_bound : goal.returns-clause-ehv_bound
returns-clause-ehv_bound c = let little = (sizes-little c.args.rows.now c.requires.within c.requires.few).0 in search (rules, little)

pub returns-clause-nhv_bound : goal.returns-clause-nhv_bound
returns-clause-nhv_bound c = let little = (sizes-little c.args.rows.now c.requires.within c.requires.few).1 in search (rules, little)
