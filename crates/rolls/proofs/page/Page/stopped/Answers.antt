use Rattle.rolls.proofs.Writing.{lays_then}
use Rattle.rolls.proofs.page.Page.stopped.Goals as goal

pub returns : goal.returns
returns c =
    let place = rw c.place.ensures at c.number.ensures in
    let number = rw c.number-2.ensures at c.number-3.ensures in
    lays_then c.text.ensures (lays_then place (lays_then c.text-2.ensures (lays_then number c.text-3.ensures)))
