-- What follows for a share that is less than one unit off, whatever rule gave it.
use Rattle.std.proofs.Common.{◌≡◌, ℕ, ◌≤◌, ℤ, pos, ◌*ℤ◌, nat_abs, ◌≤ℤ◌, arith, SFits}
use lib.IntN.{*ℤ-zero}
use mir.Syntax.{Width}
use Rattle.std.proofs.lemmas.Int.{ints, by_lt_z}
use Rattle.division.specs.Laws.{UnitOff}
use Rattle.division.proofs.Floors.{whole_le, scale-le, scale-up, scale-down}

module _ (sum : ℤ) (all weight : ℕ) (share : ℤ) (off : UnitOff sum all weight share) where
  pub off-le-weight : sum ≤ℤ pos all → share ≤ℤ pos weight
  off-le-weight h =
      let s : (sum *ℤ pos weight) ≤ℤ (pos all *ℤ pos weight) = scale-le sum (pos all) weight h in
      whole_le share (pos weight) all (omega (arith, ints))

  pub off-not-negative : pos 0 ≤ℤ sum → pos 0 ≤ℤ share
  off-not-negative h =
      let s : (pos 0 *ℤ pos weight) ≤ℤ (sum *ℤ pos weight) = scale-le (pos 0) sum weight h in
      whole_le (pos 0) share all (omega (arith, ints))

  pub off-not-positive : sum ≤ℤ pos 0 → share ≤ℤ pos 0
  off-not-positive h =
      let s : (sum *ℤ pos weight) ≤ℤ (pos 0 *ℤ pos weight) = scale-le sum (pos 0) weight h in
      whole_le share (pos 0) all (omega (arith, ints))

  pub off-none : weight ≡ 0 → share ≡ pos 0
  off-none e =
      let n : sum *ℤ pos weight ≡ pos 0 = rw e (*ℤ-zero sum) in
      let l : share ≤ℤ pos 0 = whole_le share (pos 0) all (omega (arith, ints)) in
      let m : pos 0 ≤ℤ share = whole_le (pos 0) share all (omega (arith, ints)) in
      omega (arith, ints)

  pub off-at-most : weight ≤ all → pos 0 ≤ℤ sum → share ≤ℤ sum
  off-at-most l h = let s = scale-up sum weight all l h in whole_le share sum all (omega (arith, ints))

  pub off-at-least : weight ≤ all → sum ≤ℤ pos 0 → sum ≤ℤ share
  off-at-least l h = let s = scale-down sum weight all l h in whole_le sum share all (omega (arith, ints))

  -- no share is larger than the sum, whatever the signs
  pub off-magnitude : weight ≤ all → nat_abs share ≤ nat_abs sum
  off-magnitude l =
      by_lt_z sum (pos 0)
      (λ h. let n : sum ≤ℤ pos 0 = omega (arith, ints) in omega (arith, ints, off-at-least l n, off-not-positive n))
      (λ h. omega (arith, ints, off-at-most l h, off-not-negative h))

  -- so a share fits where the sum does
  pub off-fits : weight ≤ all → (w : Width) → SFits w sum → SFits w share
  off-fits l w f =
      by_lt_z sum (pos 0)
      (λ h. let n : sum ≤ℤ pos 0 = omega (arith, ints) in omega (arith, ints, off-at-least l n, off-not-positive n))
      (λ h. omega (arith, ints, off-at-most l h, off-not-negative h))
