-- Bounds on the sizes of signed quotients and products.
use Rattle.std.proofs.Common.{◌≡◌, ℕ, zero, suc, ◌*◌, ◌^◌, ◌<◌, ◌≤◌, ℤ, pos, negsuc, ◌*ℤ◌, neg_ℤ, nat_abs, refl, mod-lt, mul-le-mul, div-le_self, arith, w64, SFits, to_z, of_z}
use mir.Syntax.{w128}
use Rattle.std.specs.Int.{int_div_euclid, int_rem_euclid}
use Rattle.std.proofs.lemmas.Int.{ints, to_z-of_z}
use Rattle.division.specs.Shares.{running}

pub quotient-size : (z : ℤ) (n : ℕ) → nat_abs (int_div_euclid z (pos n)) ≤ nat_abs z
quotient-size (pos a) n = div-le_self a n
quotient-size (negsuc a) n = omega (arith, div-le_self a n)

negation-size : (n : ℕ) → nat_abs (neg_ℤ (pos n)) ≡ n
negation-size zero = refl
negation-size (suc n) = refl

pub product-size : (s : ℤ) (n : ℕ) → nat_abs (s *ℤ pos n) ≡ nat_abs s * n
product-size (pos a) n = refl
product-size (negsuc a) n = negation-size (suc a * n)

pub product-within : (s : ℤ) (n m k : ℕ) → nat_abs s ≤ m → n ≤ k → nat_abs (s *ℤ pos n) ≤ m * k
product-within s n m k p q = rw (product-size s n) (mul-le-mul p q)

remainder-size : (z : ℤ) (n : ℕ) → 0 < n → nat_abs (int_rem_euclid z (pos n)) < n
remainder-size (pos a) n h = mod-lt a h
remainder-size (negsuc a) n h = omega arith

-- both products of a running figure fit 128 bits, with room for their sum
module _ (sum : ℤ) (all upto : ℕ) (fits : SFits w64 sum) (above : 0 < all) (bound : all ≤ 2 ^ 62) (part : upto ≤ all) where
  pub quotient-part-size : nat_abs (int_div_euclid sum (pos all) *ℤ pos upto) ≤ 2 ^ 125
  quotient-part-size =
      let small : nat_abs sum ≤ 2 ^ 63 = omega (arith, ints) in
      product-within (int_div_euclid sum (pos all)) upto (2 ^ 63) (2 ^ 62) (omega (arith, quotient-size sum all)) (omega arith)

  pub rest-part-size : nat_abs (int_rem_euclid sum (pos all) *ℤ pos upto) ≤ 2 ^ 124
  rest-part-size = product-within (int_rem_euclid sum (pos all)) upto (2 ^ 62) (2 ^ 62) (omega (arith, remainder-size sum all above)) (omega arith)

pub small-fits : (z : ℤ) → nat_abs z ≤ 2 ^ 126 → SFits w128 z
small-fits z h = omega (arith, ints)

-- so a running figure fits too
pub running-fits : (sum : ℤ) (all upto : ℕ) → SFits w64 sum → 0 < all → all ≤ 2 ^ 62 → upto ≤ all → SFits w128 (running sum all upto)
unfolding running
running-fits sum all upto fits above bound part =
    let q = quotient-part-size sum all upto fits above bound part in
    let r = rest-part-size sum all upto fits above bound part in
    let g = quotient-size (int_rem_euclid sum (pos all) *ℤ pos upto) all in
    omega (arith, ints)

-- a quotient and a remainder of 128 bits, as a call gives them
module _ (x y u v r : ℤ) (fx : SFits w128 x) (fy : SFits w128 y) (p : x ≡ u) (q : y ≡ v) where
  pub read-quotient : r ≡ int_div_euclid (to_z w128 (of_z w128 x)) (to_z w128 (of_z w128 y)) → r ≡ int_div_euclid u v
  read-quotient h = simp (p, q) at (simp to_z-of_z at h)

  pub read-remainder : r ≡ int_rem_euclid (to_z w128 (of_z w128 x)) (to_z w128 (of_z w128 y)) → r ≡ int_rem_euclid u v
  read-remainder h = simp (p, q) at (simp to_z-of_z at h)
