use Rattle.std.proofs.Common.{◌≡◌, ℕ, drop}
use Rattle.script.specs.Numbers.{digits_from, clipped}
use Rattle.script.proofs.number.digits.Given as goal

-- the digits so far have a value, of which the size is kept, and the others stand behind them
abbrev pub invariant-loop-b : goal.invariant-loop-b
invariant-loop-b l = (m : ℕ) × (l.size ≡ clipped m) × (digits_from 0 l.word ≡ digits_from m (drop l.b-index l.word))
