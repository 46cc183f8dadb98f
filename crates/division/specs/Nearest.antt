-- The whole number nearest to a quotient, where a half goes upward.
use Rattle.std.specs.Prelude.{ℕ, ◌*◌, ℤ, pos, ◌+ℤ◌, ◌*ℤ◌, ◌≤ℤ◌, ◌<ℤ◌}
use Rattle.std.specs.Int.{int_div_euclid}

-- the greatest whole number not above (2a + b) ÷ 2b, for b above 0
unfoldable pub nearest : ℤ → ℕ → ℤ
nearest a b = int_div_euclid (pos 2 *ℤ a +ℤ pos b) (pos (2 * b))

-- f is the greatest whole number not above a ÷ b
pub record Floor (a : ℤ) (b : ℕ) (f : ℤ) : Type 0 where
  pub low : (f *ℤ pos b) ≤ℤ a
  pub high : a <ℤ (f *ℤ pos b +ℤ pos b)
