-- The size of a portion of a sum.
use Rattle.std.proofs.Common.{◌≡◌, ℕ, ◌<◌, ◌≤◌, ℤ, pos, ◌+ℤ◌, ◌-ℤ◌, ◌*ℤ◌, nat_abs, ◌≤ℤ◌, ap, arith, w64, SFits, to_z, of_z}
use Rattle.std.proofs.lemmas.Int.{ints, by_lt_z, to_z-of_z}
use Rattle.division.specs.Nearest.{Floor}
use Rattle.division.proofs.Floors.{div_euclid-floor, whole_le, scale-le, scale-up, scale-down}
use Rattle.charges.specs.Pools.{rounded_down}

module _ (sum : ℤ) (taken parts : ℕ) (part : taken ≤ parts) (some : 0 < parts) where
  abbrev down : ℤ
  down = rounded_down (sum *ℤ pos taken) parts

  floor : Floor (sum *ℤ pos taken) parts down
  floor = div_euclid-floor (sum *ℤ pos taken) parts some

  of_positive : pos 0 ≤ℤ sum → (pos 0 ≤ℤ down) × (down ≤ℤ sum)
  of_positive h =
      let f = floor in
      let s = scale-up sum taken parts part h in
      let t = scale-le (pos 0) sum taken h in
      (whole_le (pos 0) down parts (omega (arith, ints)), whole_le down sum parts (omega (arith, ints)))

  of_negative : sum ≤ℤ pos 0 → (sum ≤ℤ down) × (down ≤ℤ pos 0)
  of_negative h =
      let f = floor in
      let s = scale-down sum taken parts part h in
      let t = scale-le sum (pos 0) taken h in
      (whole_le sum down parts (omega (arith, ints)), whole_le down (pos 0) parts (omega (arith, ints)))

  pub portion-size : nat_abs (rounded_down (sum *ℤ pos taken) parts) ≤ nat_abs sum
  portion-size =
      by_lt_z sum (pos 0)
      (λ l. let n : sum ≤ℤ pos 0 = omega (arith, ints) in let p = of_negative n in omega (arith, ints, p.0, p.1))
      (λ l. let p = of_positive l in omega (arith, ints, p.0, p.1))

-- what is left for the whole grid, as the code reads it
abbrev read : ℤ → ℤ
read z = to_z w64 (of_z w64 z)

module _ (ehv nhv a b c : ℤ) (small-ehv : nat_abs ehv ≤ 2000000000) (small-nhv : nat_abs nhv ≤ 3000000000) (small-a : nat_abs a ≤ 2000000000) (small_b : nat_abs b ≤ 2000000000) (small-c : nat_abs c ≤ 2000000000) where
  fit-ehv : SFits w64 ehv
  fit-ehv = omega (arith, ints)

  fit-nhv : SFits w64 nhv
  fit-nhv = omega (arith, ints)

  fit-a : SFits w64 a
  fit-a = omega (arith, ints)

  fit-b : SFits w64 b
  fit-b = omega (arith, ints)

  fit-c : SFits w64 c
  fit-c = omega (arith, ints)

  fit-ab : SFits w64 (a +ℤ b)
  fit-ab = omega (arith, ints)

  fit-abc : SFits w64 (a +ℤ b +ℤ c)
  fit-abc = omega (arith, ints)

  fit-rest : SFits w64 (ehv -ℤ (a +ℤ b +ℤ c))
  fit-rest = omega (arith, ints)

  fit-grid : SFits w64 (ehv -ℤ (a +ℤ b +ℤ c) +ℤ nhv)
  fit-grid = omega (arith, ints)

  areas_are : read (read (read a +ℤ read b) +ℤ read c) ≡ a +ℤ b +ℤ c
  areas_are = rw (to_z-of_z w64 a fit-a, to_z-of_z w64 b fit-b, to_z-of_z w64 c fit-c, to_z-of_z w64 (a +ℤ b) fit-ab) (to_z-of_z w64 (a +ℤ b +ℤ c) fit-abc)

  rest-is : read ehv -ℤ read (read (read a +ℤ read b) +ℤ read c) ≡ ehv -ℤ (a +ℤ b +ℤ c)
  rest-is = rw areas_are (ap (λ (z : ℤ). z -ℤ (a +ℤ b +ℤ c)) (to_z-of_z w64 ehv fit-ehv))

  sum_is : read (read ehv -ℤ read (read (read a +ℤ read b) +ℤ read c)) +ℤ read nhv ≡ ehv -ℤ (a +ℤ b +ℤ c) +ℤ nhv
  sum_is = rw (rest-is, to_z-of_z w64 nhv fit-nhv) (ap (λ (z : ℤ). z +ℤ nhv) (to_z-of_z w64 (ehv -ℤ (a +ℤ b +ℤ c)) fit-rest))

  pub rest-fits : SFits w64 (read ehv -ℤ read (read (read a +ℤ read b) +ℤ read c))
  rest-fits = rw rest-is fit-rest

  pub grid-fits : SFits w64 (read (read ehv -ℤ read (read (read a +ℤ read b) +ℤ read c)) +ℤ read nhv)
  grid-fits = rw sum_is fit-grid

  pub grid-is : read (read (read ehv -ℤ read (read (read a +ℤ read b) +ℤ read c)) +ℤ read nhv) ≡ ehv -ℤ (a +ℤ b +ℤ c) +ℤ nhv
  grid-is = rw sum_is (to_z-of_z w64 (ehv -ℤ (a +ℤ b +ℤ c) +ℤ nhv) fit-grid)

  pub grid-small : nat_abs (ehv -ℤ (a +ℤ b +ℤ c) +ℤ nhv) ≤ 100000000000
  grid-small = omega (arith, ints)
