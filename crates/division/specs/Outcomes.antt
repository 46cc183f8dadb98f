-- What a division leaves behind, and when it is refused.
use Rattle.std.specs.Prelude.{◌≡◌, ℕ, ◌^◌, ◌<◌, ◌≤◌, List, length, ℤ}
use Rattle.division.specs.Shares.{total, shares}
use Rattle.division.specs.declared.Refusal.{Refusal}
use Rattle.division.specs.declared.Refusal.TheVariants.{LengthsDiffer, TooMuchWeight}

-- the largest total weight that a sum is divided over
abbrev pub most_weight : ℕ
most_weight = 2 ^ 62

-- the places held before, and hold the shares after
pub record Divided (sum : ℤ) (weights : List ℕ) (before after : List ℤ) : Type 0 where
  pub lengths : length weights ≡ length before
  pub bound : total weights ≤ most_weight
  pub written : after ≡ shares sum weights

-- why a sum is not divided over weights into a number of places
abbrev pub Reason : Refusal → List ℕ → ℕ → Type 0
Reason LengthsDiffer weights places = length weights ≡ places → ⊥
Reason TooMuchWeight weights places = (length weights ≡ places) × (most_weight < total weights)

-- the places hold what they held before
pub record Refused (why : Refusal) (weights : List ℕ) (before after : List ℤ) : Type 0 where
  pub reason : Reason why weights (length before)
  pub same : after ≡ before
