-- What follows from the laws for any rule that keeps them.
use Rattle.std.proofs.Common.{◌≡◌, ℕ, ◌<◌, ◌≤◌, List, length, get_or, ℤ, pos, nat_abs, ◌≤ℤ◌, ⊎_elim, arith, SFits}
use mir.Syntax.{Width}
use Rattle.std.proofs.lemmas.List.{get_or_past}
use Rattle.std.proofs.lemmas.Int.{ints}
use Rattle.std.proofs.lemmas.Bool.{cases_lt}
use Rattle.division.specs.Shares.{total, int_sum}
use Rattle.division.specs.Laws.{Divides, UnitOff}
use Rattle.division.proofs.Totals.{int_sum-none, weight-le-total}
use Rattle.division.proofs.Units.{off-le-weight, off-none, off-magnitude, off-fits}

module _ (rule : ℤ → List ℕ → List ℤ) (laws : Divides rule) (sum : ℤ) (weights : List ℕ) (k : ℕ) where
  -- past the last owner there is no share
  pub share-past : length weights ≤ k → get_or (rule sum weights) k (pos 0) ≡ pos 0
  share-past h = get_or_past (rule sum weights) k (pos 0) (omega (arith, laws.as_many_shares sum weights))

  -- a fact of 0 that holds of a share less than one unit off holds of each share
  by-share : (P : ℤ → Type 0) → P (pos 0) → ((share : ℤ) → UnitOff sum (total weights) (get_or weights k 0) share → get_or weights k 0 ≤ total weights → P share) → P (get_or (rule sum weights) k (pos 0))
  by-share P none each =
      ⊎_elim
      (λ l. ⊎_elim
      (λ h. each _ (laws.less_than_one_unit_off sum weights h k l) (weight-le-total weights k l))
      (λ h. let e = laws.nothing_without_weight sum weights (omega arith) k l in rw e none)
      (cases_lt 0 (total weights)))
      (λ l. rw (share-past l) none)
      (cases_lt k (length weights))

  -- no share is larger than the sum, whatever the signs
  pub share-magnitude : nat_abs (get_or (rule sum weights) k (pos 0)) ≤ nat_abs sum
  share-magnitude = by-share (λ share. nat_abs share ≤ nat_abs sum) (omega arith) (λ share off l. off-magnitude sum (total weights) (get_or weights k 0) share off l)

  -- so a share fits where the sum does
  pub share-fits : (w : Width) → SFits w sum → SFits w (get_or (rule sum weights) k (pos 0))
  share-fits w f = by-share (SFits w) (omega (arith, ints, f.sfits)) (λ share off l. off-fits sum (total weights) (get_or weights k 0) share off l w f)

-- where there is no weight the shares come to nothing together
pub sum-without-weight : (rule : ℤ → List ℕ → List ℤ) → Divides rule → (sum : ℤ) (weights : List ℕ) → total weights ≡ 0 → int_sum (rule sum weights) ≡ pos 0
sum-without-weight rule laws sum weights e =
    int_sum-none (rule sum weights) (λ k l. laws.nothing_without_weight sum weights e k (omega (arith, laws.as_many_shares sum weights)))

-- a rule keeps all the laws if it keeps these four: the other two follow
module _ (rule : ℤ → List ℕ → List ℤ)
    (as_many : (sum : ℤ) (weights : List ℕ) → length (rule sum weights) ≡ length weights)
    (add-up : (sum : ℤ) (weights : List ℕ) → 0 < total weights → int_sum (rule sum weights) ≡ sum)
    (nothing : (sum : ℤ) (weights : List ℕ) → total weights ≡ 0 → (k : ℕ) → k < length weights → get_or (rule sum weights) k (pos 0) ≡ pos 0)
    (off : (sum : ℤ) (weights : List ℕ) → 0 < total weights → (k : ℕ) → k < length weights → UnitOff sum (total weights) (get_or weights k 0) (get_or (rule sum weights) k (pos 0))) where
  zero-gets-zero : (sum : ℤ) (weights : List ℕ) (k : ℕ) → k < length weights → get_or weights k 0 ≡ 0 → get_or (rule sum weights) k (pos 0) ≡ pos 0
  zero-gets-zero sum weights k l e =
      ⊎_elim
      (λ h. off-none sum (total weights) (get_or weights k 0) _ (off sum weights h k l) e)
      (λ h. nothing sum weights (omega arith) k l)
      (cases_lt 0 (total weights))

  none_passes : (sum : ℤ) (weights : List ℕ) → sum ≤ℤ pos (total weights) → (k : ℕ) → k < length weights → get_or (rule sum weights) k (pos 0) ≤ℤ pos (get_or weights k 0)
  none_passes sum weights m k l =
      ⊎_elim
      (λ h. off-le-weight sum (total weights) (get_or weights k 0) _ (off sum weights h k l) m)
      (λ h. omega (arith, ints, nothing sum weights (omega arith) k l))
      (cases_lt 0 (total weights))

  pub divides-by-units : Divides rule
  divides-by-units = record {
    as_many_shares = as_many;
    shares_add_up = add-up;
    nothing_without_weight = nothing;
    weight_zero_gets_zero = zero-gets-zero;
    less_than_one_unit_off = off;
    no_share_passes_its_weight = none_passes;
  }
