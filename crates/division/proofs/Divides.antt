-- The rule of the running figures keeps the laws.
use Rattle.std.proofs.Common.{◌≡◌, ℕ, zero, suc, ◌+◌, ◌<◌, List, [], ◌∷◌, length, get_or, ℤ, pos, ◌-ℤ◌, refl, ap, add-zero, zero-add, arith}
use Rattle.std.proofs.lemmas.Int.{ints}
use Rattle.std.proofs.lemmas.List.Sums.{sum_by-cons}
use Rattle.division.specs.Shares.{total, int_sum, running, shares_after, shares}
use Rattle.division.specs.Laws.{Divides, UnitOff}
use Rattle.division.proofs.Totals.{int_sum-cons, weight-le-total}
use Rattle.division.proofs.Running.{running_none, running-all, running-off}
use Rattle.division.proofs.Rules.{divides-by-units}

module _ (sum : ℤ) (all : ℕ) where
  after-length : (before : ℕ) (weights : List ℕ) → length (shares_after sum all before weights) ≡ length weights
  unfolding shares_after
  after-length before [] = refl
  after-length before (w ∷ ws) = ap suc (after-length (before + w) ws)

  -- the running figures between cancel
  after-sum : (before : ℕ) (weights : List ℕ) → int_sum (shares_after sum all before weights) ≡ running sum all (before + total weights) -ℤ running sum all before
  unfolding shares_after
  after-sum before [] = rw add-zero (omega (arith, ints))
  after-sum before (w ∷ ws) =
      let e : before + total (w ∷ ws) ≡ before + w + total ws = omega (arith, sum_by-cons (λ x. x) w ws) in
      let s = int_sum-cons (running sum all (before + w) -ℤ running sum all before) (shares_after sum all (before + w) ws) in
      let t = after-sum (before + w) ws in
      rw e (omega (arith, ints))

  after-off : 0 < all → (before : ℕ) (weights : List ℕ) (k : ℕ) → k < length weights → UnitOff sum all (get_or weights k 0) (get_or (shares_after sum all before weights) k (pos 0))
  unfolding shares_after
  after-off h before [] k l = absurd (omega arith)
  after-off h before (w ∷ ws) zero l = running-off sum all before w h
  after-off h before (w ∷ ws) (suc k) l = after-off h (before + w) ws k (omega arith)

  after_none : (before : ℕ) (weights : List ℕ) (k : ℕ) → get_or weights k 0 ≡ 0 → get_or (shares_after sum all before weights) k (pos 0) ≡ pos 0
  unfolding shares_after
  after_none before [] k e = refl
  after_none before (w ∷ ws) zero e = rw (e, add-zero) (omega (arith, ints))
  after_none before (w ∷ ws) (suc k) e = after_none (before + w) ws k e

shares_sum : (sum : ℤ) (weights : List ℕ) → 0 < total weights → int_sum (shares sum weights) ≡ sum
unfolding shares
shares_sum sum weights h =
    let e : running sum (total weights) (0 + total weights) ≡ sum = rw zero-add (running-all sum (total weights) h) in
    omega (arith, ints, after-sum sum (total weights) 0 weights, running_none sum (total weights))

shares-none : (sum : ℤ) (weights : List ℕ) (k : ℕ) → get_or weights k 0 ≡ 0 → get_or (shares sum weights) k (pos 0) ≡ pos 0
unfolding shares
shares-none sum weights k e = after_none sum (total weights) 0 weights k e

shares-off : (sum : ℤ) (weights : List ℕ) → 0 < total weights → (k : ℕ) → k < length weights → UnitOff sum (total weights) (get_or weights k 0) (get_or (shares sum weights) k (pos 0))
unfolding shares
shares-off sum weights h k l = after-off sum (total weights) h 0 weights k l

shares-length : (sum : ℤ) (weights : List ℕ) → length (shares sum weights) ≡ length weights
unfolding shares
shares-length sum weights = after-length sum (total weights) 0 weights

pub running-divides : Divides shares
running-divides =
    divides-by-units shares shares-length shares_sum
    (λ sum weights e k l. shares-none sum weights k (omega (arith, weight-le-total weights k l)))
    shares-off
