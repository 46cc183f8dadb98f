use Rattle.std.proofs.Common.{◌≡◌, pos, ◌+ℤ◌, ◌*ℤ◌, arith, w64, SFits}
use mir.Syntax.{w128}
use Rattle.std.proofs.lemmas.Int.{ints, to_z-of_z}
use Rattle.division.specs.Nearest.{nearest}
use Rattle.division.proofs.Roundings.{nearest-rounds, nearest-fits}
use Rattle.division.proofs.nearest.Goals as goal

floor-is : (c : goal.After-floor_quotient-whole) → c.floor_quotient-whole.result ≡ nearest c.args.a c.args.b
unfolding nearest
floor-is c =
    let x = c.from.result in
    let y = c.from-b.result in
    let a : x ≡ c.args.a = omega (arith, ints) in
    let b : y ≡ pos c.args.b = omega (arith, ints) in
    let fits-x : SFits w128 x = omega (arith, ints) in
    let fits-y : SFits w128 y = omega (arith, ints) in
    let fits-2x : SFits w128 (pos 2 *ℤ x) = omega (arith, ints) in
    let fits-2y : SFits w128 (pos 2 *ℤ y) = omega (arith, ints) in
    let fits_sum : SFits w128 (pos 2 *ℤ x +ℤ y) = omega (arith, ints) in
    let h = simp to_z-of_z at c.floor_quotient-whole.ensures in
    simp (a, b) at h

pub returns-then-b-eq0 : goal.returns-then-b-eq0
returns-then-b-eq0 c = record { value = omega arith; rounds = nearest-rounds }

pub overflow_cast-result : goal.overflow_cast-result
overflow_cast-result c = omega (arith, ints, floor-is c, nearest-fits w64 c.args.a c.args.b (omega arith) c.ranges.a)

pub returns : goal.returns
returns c =
    let f = nearest-fits w64 c.args.a c.args.b (omega arith) c.ranges.a in
    let e = floor-is c in
    record { value = (omega arith, omega (arith, ints)); rounds = nearest-rounds }
