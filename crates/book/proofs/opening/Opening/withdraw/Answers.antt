use Rattle.book.proofs.Accounted.{withdrawn_on}
use Rattle.book.proofs.opening.Opening.withdraw.Goals as goal

pub returns : goal.returns
returns c = record { law = λ t h marks entries room rows free a. withdrawn_on t h marks entries room rows free c.args.self.written.month c.args.self.written.count a }
