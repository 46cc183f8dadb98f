-- What the rule of rounding keeps, and what a rule that divides a sum over weights has to keep, whatever way it rounds.
use Rattle.std.specs.Prelude.{◌≡◌, ℕ, ◌*◌, ◌<◌, ◌≤◌, List, length, ℤ, pos, ◌+ℤ◌, ◌*ℤ◌, ◌≤ℤ◌, ◌<ℤ◌, slice_index, slice_index_or, unsigned_abs}
use Rattle.division.specs.Nearest.{Floor}
use Rattle.division.specs.Shares.{total, int_sum}

-- the laws of rounding a ÷ b
pub record Rounds (rule : ℤ → ℕ → ℤ) : Type 0 where
  pub greatest_not_above : (a : ℤ) (b : ℕ) → 0 < b → Floor (pos 2 *ℤ a +ℤ pos b) (2 * b) (rule a b)
  pub nothing_of_nothing : (b : ℕ) → rule (pos 0) b ≡ pos 0
  pub keeps_the_order : (a c : ℤ) (b : ℕ) → 0 < b → a ≤ℤ c → rule a b ≤ℤ rule c b
  pub never_larger : (a : ℤ) (b : ℕ) → 0 < b → unsigned_abs (rule a b) ≤ unsigned_abs a

-- a share of a sum is less than one unit off sum · weight ÷ all
pub record UnitOff (sum : ℤ) (all weight : ℕ) (share : ℤ) : Type 0 where
  pub above : (sum *ℤ pos weight) <ℤ (share *ℤ pos all +ℤ pos all)
  pub below : (share *ℤ pos all) <ℤ (sum *ℤ pos weight +ℤ pos all)

-- the laws, for every sum, all weights and each owner k
pub record Divides (rule : ℤ → List ℕ → List ℤ) : Type 0 where
  pub as_many_shares : (sum : ℤ) (weights : List ℕ) → length (rule sum weights) ≡ length weights
  pub shares_add_up : (sum : ℤ) (weights : List ℕ) → 0 < total weights → int_sum (rule sum weights) ≡ sum
  pub nothing_without_weight : (sum : ℤ) (weights : List ℕ) → total weights ≡ 0 →
      (k : ℕ) → k < length weights → slice_index_or (rule sum weights) k (pos 0) ≡ pos 0
  pub weight_zero_gets_zero : (sum : ℤ) (weights : List ℕ) →
      (k : ℕ) → k < length weights → slice_index weights k ≡ 0 → slice_index_or (rule sum weights) k (pos 0) ≡ pos 0
  pub less_than_one_unit_off : (sum : ℤ) (weights : List ℕ) → 0 < total weights →
      (k : ℕ) → k < length weights → UnitOff sum (total weights) (slice_index weights k) (slice_index_or (rule sum weights) k (pos 0))
  pub no_share_passes_its_weight : (sum : ℤ) (weights : List ℕ) → sum ≤ℤ pos (total weights) →
      (k : ℕ) → k < length weights → slice_index_or (rule sum weights) k (pos 0) ≤ℤ pos (slice_index weights k)
