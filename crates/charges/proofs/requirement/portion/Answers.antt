use Rattle.std.proofs.Common.{pos, ◌*ℤ◌, refl, ap, ◌∙◌, arith, w64, SFits, to_z, of_z}
use Rattle.std.specs.Int.{int_div_euclid}
use Rattle.std.proofs.lemmas.Int.{to_z-of_z}
use Rattle.charges.specs.PoolsLemmas.{product-within}
use Rattle.charges.proofs.Portions.{portion-size}
use Rattle.charges.proofs.Reckoning.{product_is, small-fits}
use Rattle.charges.proofs.requirement.portion.Goals as goal

pub returns : goal.returns
returns c =
    let sum = c.args.sum in
    let taken = c.args.taken in
    let fit-p : SFits w64 c.from-2.result = record { sfits = c.from-2.type_inv } in
    let fit-r : SFits w64 c.div_euclid.result = record { sfits = c.div_euclid.type_inv } in
    let product = product_is sum c.from.result sum taken 5000000000 255 c.ranges.sum (record { sfits = c.from.type_inv }) refl c.from.ensures c.requires.sum (omega (arith, c.ranges.taken.fits)) (omega arith) in
    let fit = small-fits (sum *ℤ pos taken) (omega (arith, product-within sum taken 5000000000 255 c.requires.sum (omega (arith, c.ranges.taken.fits)))) in
    let top = ap (λ z. to_z w64 (of_z w64 z)) product ∙ to_z-of_z w64 (sum *ℤ pos taken) fit in
    let bottom = to_z-of_z w64 c.from-2.result fit-p ∙ c.from-2.ensures in
    let is = c.div_euclid.ensures ∙ ap (λ z. int_div_euclid z (to_z w64 (of_z w64 c.from-2.result))) top ∙ ap (int_div_euclid (sum *ℤ pos taken)) bottom in
    let back = to_z-of_z w64 c.div_euclid.result fit-r in
    rw back (record { value = is; bound = rw is (portion-size sum taken c.args.parts c.requires.taken c.requires.parts) })
