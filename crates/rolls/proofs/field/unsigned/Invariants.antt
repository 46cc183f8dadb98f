use Rattle.std.proofs.Common.{◌≡◌, take}
use Rattle.rolls.specs.Numerals.{number}
use Rattle.rolls.proofs.field.unsigned.Given as goal

abbrev pub invariant-loop-b : goal.invariant-loop-b
invariant-loop-b l = l.n ≡ number (take l.b-index l.bytes)
