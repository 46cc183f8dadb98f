use Rattle.std.proofs.Common.{ap}
use Rattle.book.proofs.Accounting.{posts-on}
use Rattle.book.proofs.book.Book.post.Goals as goal

pub returns-clause-law : goal.returns-clause-law
returns-clause-law g c t h earlier before after is is' account =
    let a = c.args in
    let e = c.settle.ensures in
    posts-on (g.C.Charge.meaning a.self.now.charge) _ t h a.self.now _ a.journal.now (g.R.Roll.spare a.roll.now) _ a.opening.written.month a.opening.written.count c.settle.result (g.R.Roll.lines a.roll.now) _ earlier before after is is' (ap g.C.Charge.meaning e.book.charge) e.answer e.lines e.spare e.book e.balanced account
