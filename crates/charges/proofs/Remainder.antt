-- What is left of a requirement for the whole grid once three areas have their part, as the code reads it.
use Rattle.std.proofs.Common.{◌≡◌, ◌≤◌, ℤ, ◌+ℤ◌, ◌-ℤ◌, nat_abs, arith, w64, to_z, of_z}
use Rattle.std.proofs.lemmas.Int.{ints}

abbrev read : ℤ → ℤ
read z = to_z w64 (of_z w64 z)

module _ (ehv a b c : ℤ) (small-ehv : nat_abs ehv ≤ 2000000000) (small-a : nat_abs a ≤ 2000000000) (small_b : nat_abs b ≤ 2000000000) (small-c : nat_abs c ≤ 2000000000) where
  pub rest-is : read (read ehv -ℤ read (read (read a +ℤ read b) +ℤ read c)) ≡ ehv -ℤ (a +ℤ b +ℤ c)
  rest-is = omega (arith, ints)
