use Rattle.rolls.proofs.Writing.{lays_then}
use Rattle.rolls.proofs.page.Page.ended.Goals as goal

pub returns : goal.returns
returns c = lays_then c.text.ensures (lays_then c.number.ensures c.text-2.ensures)
