-- The steps of a loop that writes the shares.
use Rattle.std.proofs.Common.{◌≡◌, ℕ, ◌+◌, ◌<◌, ◌≤◌, List, [], ◌∷◌, ◌++◌, length, get_or, take, drop, set, ℤ, ◌-ℤ◌, ap, ◌∙◌, ⊎_elim, arith, w64, SFits}
use Rattle.std.proofs.lemmas.List.{append-nil, append_assoc, take_all, take_more_set, at_drop_more, at_drop_all}
use Rattle.std.proofs.lemmas.Int.{ints}
use Rattle.std.proofs.lemmas.Bool.{cases_lt}
use Rattle.division.specs.Shares.{total, running, shares_after, shares}
use Rattle.division.proofs.Running.{running_none, running-off}
use Rattle.division.proofs.Units.{off-fits}

module _ (sum : ℤ) (all upto : ℕ) where
  pub step_fits : (weight : ℕ) → upto + weight ≤ all → SFits w64 sum → SFits w64 (running sum all (upto + weight) -ℤ running sum all upto)
  step_fits weight l f =
      ⊎_elim
      (λ h. off-fits sum all weight _ (running-off sum all upto weight h) (omega arith) w64 f)
      (λ h.
      let a = ap (running sum all) (let e : upto + weight ≡ 0 = omega arith in e) ∙ running_none sum all in
      let b = ap (running sum all) (let e : upto ≡ 0 = omega arith in e) ∙ running_none sum all in
      omega (arith, ints))
      (cases_lt 0 all)

  module _ (weights : List ℕ) (out written : List ℤ) (i : ℕ) (same : length weights ≡ length out) (so_far : take i out ++ shares_after sum all upto (drop i weights) ≡ written) where
    pub step-more : i < length weights → (share : ℤ) → share ≡ running sum all (upto + get_or weights i 0) -ℤ running sum all upto → take (i + 1) (set out i share) ++ shares_after sum all (upto + get_or weights i 0) (drop (i + 1) weights) ≡ written
    unfolding shares_after
    step-more h share e =
        let next : shares_after sum all upto (drop i weights) ≡ (running sum all (upto + get_or weights i 0) -ℤ running sum all upto) ∷ shares_after sum all (upto + get_or weights i 0) (drop (i + 1) weights) = at_drop_more (shares_after sum all upto) weights i 0 h in
        let put = take_more_set out i share (omega arith) in
        rw (put, append_assoc, e, ← next) so_far

    pub step-all : length weights ≤ i → out ≡ written
    unfolding shares_after
    step-all h =
        let rest : shares_after sum all upto (drop i weights) ≡ [] = at_drop_all (shares_after sum all upto) weights i h in
        let kept = take_all i out (omega arith) in
        let none = append-nil (take i out) in
        cc

pub step-none : (sum : ℤ) (all : ℕ) (weights : List ℕ) → all ≡ total weights → shares_after sum all 0 weights ≡ shares sum weights
unfolding shares
step-none sum all weights e = ap (λ (n : ℕ). shares_after sum n 0 weights) e
