-- Two figures of each owner taken together.
use Rattle.std.specs.Prelude.{◌≡◌, ℕ, zero, suc, ◌+◌, ◌<◌, List, [], ◌∷◌, map, length, ℤ, pos, ◌-ℤ◌, ◌≤ℤ◌, slice_index_or, unsigned_abs, refl}
use Rattle.std.proofs.Common.{ap, arith}
use Rattle.std.proofs.lemmas.Int.{ints}
use Rattle.std.proofs.lemmas.List.Sums.{sum_by-cons}
use Rattle.division.specs.Shares.{total, int_sum}
use Rattle.division.proofs.Totals.{int_sum-cons}
use Rattle.charges.specs.Burdens.{along}

module _ {X Y Z : Type 0} (f : X → Y → Z) where
  pub length-along : (xs : List X) (ys : List Y) → length xs ≡ length ys → length (along f xs ys) ≡ length xs
  length-along [] ys e = refl
  length-along (x ∷ xs) [] e = absurd (omega arith)
  length-along (x ∷ xs) (y ∷ ys) e = ap suc (length-along xs ys (omega arith))

  pub get_or-along : (xs : List X) (ys : List Y) (k : ℕ) (d : X) (e : Y) (z : Z) → length xs ≡ length ys → k < length xs → slice_index_or (along f xs ys) k z ≡ f (slice_index_or xs k d) (slice_index_or ys k e)
  get_or-along [] ys k d e z same l = absurd (omega arith)
  get_or-along (x ∷ xs) [] k d e z same l = absurd (omega arith)
  get_or-along (x ∷ xs) (y ∷ ys) zero d e z same l = refl
  get_or-along (x ∷ xs) (y ∷ ys) (suc k) d e z same l = get_or-along xs ys k d e z (omega arith) (omega arith)

pub sum_less : (xs ys : List ℤ) → length xs ≡ length ys → int_sum (along ◌-ℤ◌ xs ys) ≡ int_sum xs -ℤ int_sum ys
sum_less [] [] e = refl
sum_less [] (y ∷ ys) e = absurd (omega arith)
sum_less (x ∷ xs) [] e = absurd (omega arith)
sum_less (x ∷ xs) (y ∷ ys) e =
    let rest = sum_less xs ys (omega arith) in
    omega (arith, ints, int_sum-cons (x -ℤ y) (along ◌-ℤ◌ xs ys), int_sum-cons x xs, int_sum-cons y ys)

-- amounts that are not negative weigh what they add up to
pub magnitudes-total : (xs : List ℤ) → ((k : ℕ) → k < length xs → pos 0 ≤ℤ slice_index_or xs k (pos 0)) → pos (total (map unsigned_abs xs)) ≡ int_sum xs
magnitudes-total [] each = refl
magnitudes-total (x ∷ xs) each =
    let rest = magnitudes-total xs (λ k l. each (suc k) (omega arith)) in
    let here = each 0 (omega arith) in
    let w : total (unsigned_abs x ∷ map unsigned_abs xs) ≡ total (map unsigned_abs xs) + unsigned_abs x = omega (arith, sum_by-cons (λ n. n) (unsigned_abs x) (map unsigned_abs xs)) in
    rw w (omega (arith, ints, int_sum-cons x xs))
