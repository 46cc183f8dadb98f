-- The limits of what is filed and read.
use Rattle.std.specs.Prelude.{ℕ, ◌≤◌, ℤ, unsigned_abs}

-- months run from 0 to 359, owners from 0 to 15
abbrev pub SpanWithin : ℕ → ℕ → ℕ → Type 0
SpanWithin owner first last = (owner ≤ 15) × (first ≤ last) × (last ≤ 359)

abbrev pub FiguresWithin : ℤ → ℤ → ℕ → ℕ → Type 0
FiguresWithin ehv nhv load peak = (unsigned_abs ehv ≤ 2000000000) × (unsigned_abs nhv ≤ 2000000000) × (load ≤ 180000000) × (peak ≤ 1000000)

abbrev pub ReadingWithin : ℕ → ℕ → ℕ → ℕ → Type 0
ReadingWithin month owner load peak = (month ≤ 359) × (owner ≤ 15) × (load ≤ 100000000) × (peak ≤ 100000)
