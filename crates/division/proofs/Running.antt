-- The running figure is the floor of sum · upto ÷ all.
use Rattle.std.proofs.Common.{◌≡◌, ℕ, ◌+◌, ◌<◌, ℤ, pos, ◌+ℤ◌, ◌-ℤ◌, ◌*ℤ◌, ap, arith}
use native.Mathlib.Nat.{zero-div}
use lib.IntN.{*ℤ-zero}
use Rattle.std.specs.Int.{int_div_euclid, int_rem_euclid}
use Rattle.std.proofs.lemmas.Int.{ints}
use Rattle.division.specs.Nearest.{Floor}
use Rattle.division.specs.Shares.{running}
use Rattle.division.specs.Laws.{UnitOff}
use Rattle.division.proofs.Floors.{div_euclid-floor, floor-same, scale-sum, scale-swap, scale-difference, euclid}

pub running-floor : (sum : ℤ) (all upto : ℕ) → 0 < all → Floor (sum *ℤ pos upto) all (running sum all upto)
unfolding running
running-floor sum all upto h =
    let q = int_div_euclid sum (pos all) in
    let r = int_rem_euclid sum (pos all) in
    let f : Floor (r *ℤ pos upto) all (int_div_euclid (r *ℤ pos upto) (pos all)) = div_euclid-floor (r *ℤ pos upto) all h in
    let a = scale-sum (q *ℤ pos upto) (int_div_euclid (r *ℤ pos upto) (pos all)) all in
    let b = scale-swap q upto all in
    let c = scale-sum (q *ℤ pos all) r upto in
    let d : sum *ℤ pos upto ≡ (q *ℤ pos all +ℤ r) *ℤ pos upto = ap (λ (z : ℤ). z *ℤ pos upto) (euclid sum all h) in
    omega (arith, ints)

-- at the start and at the end
pub running_none : (sum : ℤ) (all : ℕ) → running sum all 0 ≡ pos 0
unfolding running
running_none sum all = simp *ℤ-zero (ap pos (omega (arith, zero-div all)))

pub running-all : (sum : ℤ) (all : ℕ) → 0 < all → running sum all all ≡ sum
running-all sum all h = floor-same (sum *ℤ pos all) all (running sum all all) sum (running-floor sum all all h) (omega (arith, ints))

-- a share is less than one unit off
pub running-off : (sum : ℤ) (all before weight : ℕ) → 0 < all → UnitOff sum all weight (running sum all (before + weight) -ℤ running sum all before)
running-off sum all before weight h =
    let f = running-floor sum all before h in
    let g = running-floor sum all (before + weight) h in
    let d = scale-difference (running sum all (before + weight)) (running sum all before) all in
    omega (arith, ints)
