use Rattle.std.proofs.Common.{rules}
use Rattle.charges.proofs.Limits.{table-good}
use Rattle.charges.proofs.table.Table.by_owner.Goals as goal

pub returns-clause-good : goal.returns-clause-good
returns-clause-good c = search (rules, table-good c.args.self.now)
