use Rattle.std.proofs.Common.{length, ap, rules}
use Rattle.script.proofs.Cuts.{line_first}
use Rattle.script.proofs.words.LinesIterator.next.Goals as goal

pub returns-clause-steps : goal.returns-clause-steps
returns-clause-steps c = rw (c.split_once.ensures.front, c.split_once.ensures.back) (line_first c.args.self.now.text.now (search rules))

pub returns-clause-goes : goal.returns-clause-goes
returns-clause-goes c = let shorter = ap length (returns-clause-steps c) in search rules
