use Rattle.std.proofs.Common.{◌≡◌, length, drop, replicate}
use Rattle.script.specs.Drafts.{caps_from}
use Rattle.script.proofs.calls.caps.Given as goal

abbrev pub invariant-loop-i : goal.invariant-loop-i
invariant-loop-i l = (caps_from (replicate 16 0) 0 l.numbers ≡ caps_from l.caps l.i (drop l.i l.numbers)) × (length l.caps ≡ 16)
