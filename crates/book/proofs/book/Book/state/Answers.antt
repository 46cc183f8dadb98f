use Rattle.std.proofs.Common.{Ok, Err, rules}
use Rattle.book.specs.declared.call.State.TheVariants.{Unsettled, Due, Current}
use Rattle.book.specs.declared.fault.BookFault.TheVariants.{Month}
use Rattle.book.proofs.Accounting.{asks_on}
use Rattle.book.proofs.book.Book.state.Goals as goal

pub returns-then-month-gt-LAST_MONTH-clause-law : goal.returns-then-month-gt-LAST_MONTH-clause-law
returns-then-month-gt-LAST_MONTH-clause-law g c t h rows free account = asks_on (g.C.Charge.meaning c.args.self.now.charge) t h c.args.self.now c.args.journal.now rows free account c.args.month (Err Month) (search rules)

pub returns-in_default-clause-law : goal.returns-in_default-clause-law
returns-in_default-clause-law g c t h rows free account = asks_on (g.C.Charge.meaning c.args.self.now.charge) t h c.args.self.now c.args.journal.now rows free account c.args.month (Ok Unsettled) (search rules)

pub returns-then-untouched-clause-law : goal.returns-then-untouched-clause-law
returns-then-untouched-clause-law g c t h rows free account = asks_on (g.C.Charge.meaning c.args.self.now.charge) t h c.args.self.now c.args.journal.now rows free account c.args.month (Ok (Current c.in-Some.mark)) (search rules)

pub returns-else-untouched-clause-law : goal.returns-else-untouched-clause-law
returns-else-untouched-clause-law g c t h rows free account = asks_on (g.C.Charge.meaning c.args.self.now.charge) t h c.args.self.now c.args.journal.now rows free account c.args.month (Ok (Due c.in-Some.mark)) (search rules)
