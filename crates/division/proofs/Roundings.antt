-- The laws of the nearest whole number.
use Rattle.std.proofs.Common.{◌≡◌, ℕ, zero, suc, ◌*◌, ◌/◌, ◌<◌, ◌≤◌, ℤ, pos, ◌+ℤ◌, ◌*ℤ◌, nat_abs, ◌≤ℤ◌, refl, ap, zero-add, arith, SFits}
use native.Mathlib.Nat.{div-eq_of_lt}
use mir.Syntax.{Width}
use Rattle.std.proofs.lemmas.Int.{ints, by_lt_z}
use Rattle.division.specs.Nearest.{nearest, Floor}
use Rattle.division.specs.Laws.{Rounds}
use Rattle.division.proofs.Floors.{div_euclid-floor, whole_le, scale-up, scale-down}

nearest-floor : (a : ℤ) (b : ℕ) → 0 < b → Floor (pos 2 *ℤ a +ℤ pos b) (2 * b) (nearest a b)
unfolding nearest
nearest-floor a b h = div_euclid-floor (pos 2 *ℤ a +ℤ pos b) (2 * b) (omega arith)

half_of : (b : ℕ) → b / (2 * b) ≡ 0
half_of zero = refl
half_of (suc b) = div-eq_of_lt (omega arith)

nearest_zero : (b : ℕ) → nearest (pos 0) b ≡ pos 0
unfolding nearest
nearest_zero b = ap pos (rw zero-add (half_of b))

nearest-order : (a c : ℤ) (b : ℕ) → 0 < b → a ≤ℤ c → nearest a b ≤ℤ nearest c b
nearest-order a c b h l =
    let f = nearest-floor a b h in
    let g = nearest-floor c b h in
    whole_le (nearest a b) (nearest c b) (2 * b) (omega (arith, ints))

pub nearest-not-negative : (a : ℤ) (b : ℕ) → 0 < b → pos 0 ≤ℤ a → pos 0 ≤ℤ nearest a b
nearest-not-negative a b h l = omega (arith, ints, nearest-order (pos 0) a b h l, nearest_zero b)

pub nearest-not-positive : (a : ℤ) (b : ℕ) → 0 < b → a ≤ℤ pos 0 → nearest a b ≤ℤ pos 0
nearest-not-positive a b h l = omega (arith, ints, nearest-order a (pos 0) b h l, nearest_zero b)

nearest-at-most : (a : ℤ) (b : ℕ) → 0 < b → pos 0 ≤ℤ a → nearest a b ≤ℤ a
nearest-at-most a b h l =
    let f = nearest-floor a b h in
    let s = scale-up a 1 b h l in
    whole_le (nearest a b) a (2 * b) (omega (arith, ints))

nearest-at-least : (a : ℤ) (b : ℕ) → 0 < b → a ≤ℤ pos 0 → a ≤ℤ nearest a b
nearest-at-least a b h l =
    let f = nearest-floor a b h in
    let s = scale-down a 1 b h l in
    whole_le a (nearest a b) (2 * b) (omega (arith, ints))

nearest-magnitude : (a : ℤ) (b : ℕ) → 0 < b → nat_abs (nearest a b) ≤ nat_abs a
nearest-magnitude a b h =
    by_lt_z a (pos 0)
    (λ l. let n : a ≤ℤ pos 0 = omega (arith, ints) in omega (arith, ints, nearest-at-least a b h n, nearest-not-positive a b h n))
    (λ l. omega (arith, ints, nearest-at-most a b h l, nearest-not-negative a b h l))

-- so what is nearest fits where a does
pub nearest-fits : (w : Width) (a : ℤ) (b : ℕ) → 0 < b → SFits w a → SFits w (nearest a b)
nearest-fits w a b h f =
    by_lt_z a (pos 0)
    (λ l. let n : a ≤ℤ pos 0 = omega (arith, ints) in omega (arith, ints, nearest-at-least a b h n, nearest-not-positive a b h n))
    (λ l. omega (arith, ints, nearest-at-most a b h l, nearest-not-negative a b h l))

pub nearest-rounds : Rounds nearest
nearest-rounds = record {
  greatest_not_above = nearest-floor;
  nothing_of_nothing = nearest_zero;
  keeps_the_order = nearest-order;
  never_larger = nearest-magnitude;
}
