use Rattle.std.proofs.Common.{◌≡◌, ◌<◌, pos, ◌+ℤ◌, ◌*ℤ◌, sym, ap, ◌∙◌, arith, SFits}
use mir.Syntax.{w128}
use Rattle.std.proofs.lemmas.Int.{ints, to_z-of_z}
use Rattle.division.specs.Shares.{running}
use Rattle.division.proofs.Running.{running_none}
use Rattle.division.proofs.Sizes.{quotient-part-size, rest-part-size, small-fits, running-fits, read-quotient, read-remainder}
use Rattle.division.proofs.running_figure.Goals as goal

pub returns-then-all-eq0 : goal.returns-then-all-eq0
returns-then-all-eq0 c =
    let none : c.args.upto ≡ 0 = omega arith in
    sym (ap (running c.args.sum c.args.all) none ∙ running_none c.args.sum c.args.all)

pub overflow_mul-result : goal.overflow_mul-result
overflow_mul-result c =
    let s = c.args.sum in
    let all = c.args.all in
    let fits-q : SFits w128 c.floor_quotient.result = record { sfits = c.floor_quotient.type_inv } in
    let fits-u : SFits w128 c.from-upto.result = record { sfits = c.from-upto.type_inv } in
    let sum_is : c.from-sum.result ≡ s = omega (arith, ints) in
    let q-is = read-quotient _ _ s (pos all) _ (record { sfits = c.from-sum.type_inv }) (record { sfits = c.from-all.type_inv }) sum_is c.from-all.ensures c.floor_quotient.ensures in
    simp to_z-of_z (simp (q-is, c.from-upto.ensures) (small-fits _ (omega (arith, quotient-part-size s all c.args.upto c.ranges.sum (omega arith) c.requires.bound c.requires.part))))

pub overflow_mul-rem_euclid : goal.overflow_mul-rem_euclid
overflow_mul-rem_euclid c =
    let s = c.args.sum in
    let all = c.args.all in
    let fits-r : SFits w128 c.rem_euclid.result = record { sfits = c.rem_euclid.type_inv } in
    let fits-u : SFits w128 c.from-upto.result = record { sfits = c.from-upto.type_inv } in
    let sum_is : c.from-sum.result ≡ s = omega (arith, ints) in
    let r-is = read-remainder _ _ s (pos all) _ (record { sfits = c.from-sum.type_inv }) (record { sfits = c.from-all.type_inv }) sum_is c.from-all.ensures c.rem_euclid.ensures.value in
    simp to_z-of_z (simp (r-is, c.from-upto.ensures) (small-fits _ (omega (arith, rest-part-size s all c.args.upto c.ranges.sum (omega arith) c.requires.bound c.requires.part))))

-- the first part fits, the sum of the two is the running figure, and it fits
figured : (c : goal.After-floor_quotient-2) → let whole = c.floor_quotient.result *ℤ c.from-upto.result in SFits w128 whole × (whole +ℤ c.floor_quotient-2.result ≡ running c.args.sum c.args.all c.args.upto) × SFits w128 (whole +ℤ c.floor_quotient-2.result)
unfolding running
figured c =
    let s = c.args.sum in
    let all = c.args.all in
    let upto = c.args.upto in
    let above : 0 < all = omega arith in
    let fits-s : SFits w128 c.from-sum.result = record { sfits = c.from-sum.type_inv } in
    let fits-a : SFits w128 c.from-all.result = record { sfits = c.from-all.type_inv } in
    let fits-u : SFits w128 c.from-upto.result = record { sfits = c.from-upto.type_inv } in
    let fits-r : SFits w128 c.rem_euclid.result = record { sfits = c.rem_euclid.type_inv } in
    let sum_is : c.from-sum.result ≡ s = omega (arith, ints) in
    let all-is = c.from-all.ensures in
    let upto_is = c.from-upto.ensures in
    let q-is = read-quotient _ _ s (pos all) _ fits-s fits-a sum_is all-is c.floor_quotient.ensures in
    let r-is = read-remainder _ _ s (pos all) _ fits-s fits-a sum_is all-is c.rem_euclid.ensures.value in
    let fits-q : SFits w128 (c.floor_quotient.result *ℤ c.from-upto.result) = simp (q-is, upto_is) (small-fits _ (omega (arith, quotient-part-size s all upto c.ranges.sum above c.requires.bound c.requires.part))) in
    let fits-r-u : SFits w128 (c.rem_euclid.result *ℤ c.from-upto.result) = simp (r-is, upto_is) (small-fits _ (omega (arith, rest-part-size s all upto c.ranges.sum above c.requires.bound c.requires.part))) in
    let g-is = simp (r-is, upto_is, all-is) at (simp to_z-of_z at c.floor_quotient-2.ensures) in
    (fits-q, simp (q-is, upto_is, g-is), simp (q-is, upto_is, g-is) (running-fits s all upto c.ranges.sum above c.requires.bound c.requires.part))

pub overflow_add-result : goal.overflow_add-result
overflow_add-result c =
    let fits-q : SFits w128 c.floor_quotient.result = record { sfits = c.floor_quotient.type_inv } in
    let fits-u : SFits w128 c.from-upto.result = record { sfits = c.from-upto.type_inv } in
    let fits-g : SFits w128 c.floor_quotient-2.result = record { sfits = c.floor_quotient-2.type_inv } in
    let fits_whole = (figured c).0 in
    simp to_z-of_z (figured c).2

pub returns : goal.returns
returns c =
    let fits-q : SFits w128 c.floor_quotient.result = record { sfits = c.floor_quotient.type_inv } in
    let fits-u : SFits w128 c.from-upto.result = record { sfits = c.from-upto.type_inv } in
    let fits-g : SFits w128 c.floor_quotient-2.result = record { sfits = c.floor_quotient-2.type_inv } in
    let fits_whole = (figured c).0 in
    let Fits-sum = (figured c).2 in
    simp to_z-of_z (figured c).1
