-- Totals of weights and of shares.
use Rattle.std.proofs.Common.{◌≡◌, ℕ, suc, ◌<◌, ◌≤◌, List, [], ◌∷◌, length, get_or, ℤ, pos, ◌+ℤ◌, fold, refl, ap, ◌∙◌, arith}
use lib.IntN.{+ℤ_idl}
use Rattle.std.proofs.lemmas.Int.{ints}
use Rattle.std.proofs.lemmas.List.Sums.{get_or-le-sum_by}
use Rattle.division.specs.Shares.{total, int_sum}

-- one more share in front
pub folded-+ℤ : (a : ℤ) (xs : List ℤ) → fold ◌+ℤ◌ a xs ≡ a +ℤ int_sum xs
folded-+ℤ a [] = omega (arith, ints)
folded-+ℤ a (x ∷ xs) = omega (arith, ints, folded-+ℤ (a +ℤ x) xs, folded-+ℤ (pos 0 +ℤ x) xs)

pub int_sum-cons : (x : ℤ) (xs : List ℤ) → int_sum (x ∷ xs) ≡ x +ℤ int_sum xs
int_sum-cons x xs = folded-+ℤ (pos 0 +ℤ x) xs ∙ ap (λ (z : ℤ). z +ℤ int_sum xs) (+ℤ_idl x)

pub int_sum-none : (xs : List ℤ) → ((k : ℕ) → k < length xs → get_or xs k (pos 0) ≡ pos 0) → int_sum xs ≡ pos 0
int_sum-none [] each = refl
int_sum-none (x ∷ xs) each =
    let rest = int_sum-none xs (λ k l. each (suc k) (omega arith)) in
    omega (arith, ints, int_sum-cons x xs, each 0 (omega arith))

-- an owner weighs at most all together
pub weight-le-total : (weights : List ℕ) (k : ℕ) → k < length weights → get_or weights k 0 ≤ total weights
weight-le-total weights k l = get_or-le-sum_by (λ x. x) weights k 0 l
