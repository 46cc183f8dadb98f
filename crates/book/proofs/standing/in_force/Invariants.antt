use Rattle.std.proofs.Common.{map, take}
use Rattle.book.specs.Forces.{InForce}
use Rattle.book.specs.Meaning.{noted}
use Rattle.book.proofs.standing.in_force.Given as goal

abbrev pub invariant-loop-entry : goal.invariant-loop-entry
invariant-loop-entry l = InForce l.standings l.month (map noted (take l.entry-index l.entries))
