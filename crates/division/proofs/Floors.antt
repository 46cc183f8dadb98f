-- Floor division and products of signed numbers.
use Rattle.std.proofs.Common.{◌≡◌, ℕ, zero, suc, ◌*◌, ◌<◌, ◌≤◌, ℤ, pos, negsuc, ◌+ℤ◌, ◌-ℤ◌, ◌*ℤ◌, neg_ℤ, ◌≤ℤ◌, ◌<ℤ◌, ap, mul-le-mul_right, mod-lt, mul-le-mul_left, arith}
use native.Mathlib.Nat.{div-add-mod}
use borrow.Author.Differences.{sum_is_lem, neg_is, product_is, lt_out, le_out}
use Rattle.std.specs.Int.{int_div_euclid, int_rem_euclid}
use Rattle.std.proofs.lemmas.Int.{ints, by_lt_z}
use Rattle.division.specs.Nearest.{Floor}

pub div_euclid-floor : (a : ℤ) (b : ℕ) → 0 < b → Floor a b (int_div_euclid a (pos b))
div_euclid-floor (pos a) b h = omega (arith, ints, div-add-mod a b, mod-lt a h)
div_euclid-floor (negsuc a) b h = omega (arith, ints, div-add-mod a b, mod-lt a h)

-- a whole number that is less than one above another is at most that
pub whole_le : (s t : ℤ) (n : ℕ) → (s *ℤ pos n) <ℤ (t *ℤ pos n +ℤ pos n) → s ≤ℤ t
whole_le s t n h = by_lt_z t s (λ l. absurd (omega (arith, ints, mul-le-mul_right n (lt_out t s l)))) (λ l. l)

-- there is one floor
pub floor-same : (a : ℤ) (b : ℕ) (f g : ℤ) → Floor a b f → Floor a b g → f ≡ g
floor-same a b f g p q =
    let l : f ≤ℤ g = whole_le f g b (omega (arith, ints)) in
    let m : g ≤ℤ f = whole_le g f b (omega (arith, ints)) in
    omega (arith, ints)

-- a product with a natural keeps the order
pub scale-le : (s t : ℤ) (n : ℕ) → s ≤ℤ t → (s *ℤ pos n) ≤ℤ (t *ℤ pos n)
scale-le s t n h = omega (arith, ints, mul-le-mul_right n (le_out s t h))

-- a product with a larger natural is further from 0
pub scale-up : (s : ℤ) (m n : ℕ) → m ≤ n → pos 0 ≤ℤ s → (s *ℤ pos m) ≤ℤ (s *ℤ pos n)
scale-up (pos a) m n h p = omega (arith, ints, mul-le-mul_left a h)
scale-up (negsuc a) m n h p = absurd (omega (arith, ints))

pub scale-down : (s : ℤ) (m n : ℕ) → m ≤ n → s ≤ℤ pos 0 → (s *ℤ pos n) ≤ℤ (s *ℤ pos m)
scale-down (pos zero) m n h p = omega (arith, ints)
scale-down (pos (suc a)) m n h p = absurd (omega (arith, ints))
scale-down (negsuc a) m n h p = omega (arith, ints, mul-le-mul_left (suc a) h)

pub scale-sum : (s t : ℤ) (n : ℕ) → (s +ℤ t) *ℤ pos n ≡ s *ℤ pos n +ℤ t *ℤ pos n
scale-sum s t n = omega (arith, ints, ap (λ (m : ℕ). m * n) (sum_is_lem s t))

pub scale-difference : (s t : ℤ) (n : ℕ) → (s -ℤ t) *ℤ pos n ≡ s *ℤ pos n -ℤ t *ℤ pos n
scale-difference s t n =
    omega (arith, ints, ap (λ (m : ℕ). m * n) (sum_is_lem s (neg_ℤ t)), ap (λ (m : ℕ). m * n) (neg_is t).0, ap (λ (m : ℕ). m * n) (neg_is t).1)

pub scale-swap : (s : ℤ) (m n : ℕ) → s *ℤ pos m *ℤ pos n ≡ s *ℤ pos n *ℤ pos m
scale-swap s m n =
    let a = product_is s (pos m) in
    let b = product_is s (pos n) in
    omega (arith, ints, ap (λ (x : ℕ). x * n) a.0, ap (λ (x : ℕ). x * n) a.1, ap (λ (x : ℕ). x * m) b.0, ap (λ (x : ℕ). x * m) b.1)

-- a division with its remainder
pub euclid : (a : ℤ) (b : ℕ) → 0 < b → a ≡ int_div_euclid a (pos b) *ℤ pos b +ℤ int_rem_euclid a (pos b)
euclid (pos a) b h = omega (arith, ints, div-add-mod a b, mod-lt a h)
euclid (negsuc a) b h = omega (arith, ints, div-add-mod a b, mod-lt a h)
