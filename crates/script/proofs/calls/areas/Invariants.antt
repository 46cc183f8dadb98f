use Rattle.std.proofs.Common.{◌≡◌, [], drop, vec_items}
use Rattle.script.specs.Drafts.{areas_from}
use Rattle.script.proofs.calls.areas.Given as goal

abbrev pub invariant-loop-number : goal.invariant-loop-number
invariant-loop-number l = areas_from [] l.numbers ≡ areas_from (vec_items l.areas) (drop l.number-index l.numbers)
