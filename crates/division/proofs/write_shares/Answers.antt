use Rattle.std.proofs.Common.{ℕ, ◌+◌, get_or, ℤ, ◌-ℤ◌, sym, ap, ◌∙◌, arith, w64, SFits, to_z, of_z}
use Rattle.std.proofs.lemmas.Int.{ints, to_z-of_z}
use Rattle.std.proofs.lemmas.List.Sums.{sum_by-drop_more}
use Rattle.division.specs.Shares.{running, shares}
use Rattle.division.proofs.Running.{running_none}
use Rattle.division.proofs.Steps.{step-none, step-more, step-all, step_fits}
use Rattle.division.proofs.write_shares.Goals as goal

pub loop-i-init : goal.loop-i-init
loop-i-init c =
    (omega arith, sym (running_none _ c.args.all), step-none _ c.args.all c.args.weights.now c.requires.total)

pub overflow_add-upto : goal.overflow_add-upto
overflow_add-upto c = record { fits = omega (arith, sum_by-drop_more (λ x. x) c.args.weights.now c.loop-i.i 0 c.loop-i-test.true) }

pub running_figure-figure-requires : goal.running_figure-figure-requires
running_figure-figure-requires c = omega (arith, sum_by-drop_more (λ x. x) c.args.weights.now c.loop-i.i 0 c.loop-i-test.true)

-- the sum as the loop reads it
abbrev read : ℤ → ℤ
read sum = to_z w64 (of_z w64 sum)

-- the share of the turn is the difference of two running figures, and it fits
module _ (c : goal.After-running_figure-figure) where
  abbrev figure : ℕ → ℤ
  figure upto = running (read c.args.sum) c.args.all upto

  abbrev weight : ℕ
  weight = get_or c.args.weights.now c.loop-i.i 0

  share-fits : SFits w64 (figure (c.loop-i.upto + weight) -ℤ figure c.loop-i.upto)
  share-fits =
      step_fits (read c.args.sum) c.args.all c.loop-i.upto weight
      (omega (arith, sum_by-drop_more (λ x. x) c.args.weights.now c.loop-i.i 0 c.loop-i-test.true))
      (omega (arith, ints))

pub overflow_sub-out : goal.overflow_sub-out
overflow_sub-out c = let f = share-fits c in omega (arith, ints)

pub overflow_cast-out : goal.overflow_cast-out
overflow_cast-out c = let f = share-fits c in omega (arith, ints)

pub loop-i-preserved : goal.loop-i-preserved
loop-i-preserved c =
    let f = share-fits c in (
      omega (arith, sum_by-drop_more (λ x. x) c.args.weights.now c.loop-i.i 0 c.loop-i-test.true),
      omega (arith, ints),
      step-more (read c.args.sum) c.args.all c.loop-i.upto c.args.weights.now c.loop-i.out _ c.loop-i.i (omega arith) c.loop-i.invariant.2 c.loop-i-test.true _ (omega (arith, ints)),
    )

pub returns : goal.returns
returns c =
    let ws = c.args.weights.now in
    let e = step-all (read c.args.sum) c.args.all c.loop-i.upto ws c.loop-i.out _ c.loop-i.i (omega arith) c.loop-i.invariant.2 c.loop-i-test.false in
    e ∙ ap (λ (z : ℤ). shares z ws) (to_z-of_z w64 c.args.sum c.ranges.sum)
