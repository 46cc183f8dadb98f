use Rattle.std.proofs.Common.{length, ap, arith, w64}
use Rattle.std.proofs.lemmas.Int.{to_z-of_z}
use Rattle.std.specs.Fmt.{signed_decimal}
use Rattle.rolls.proofs.Writing.{lays_then, length-pair_text}
use Rattle.rolls.proofs.page.Page.pair.Goals as goal

pub text-requires-3 : goal.text-requires-3
text-requires-3 c =
    let sum = ap (λ z. length (signed_decimal z)) (to_z-of_z w64 c.args.sum c.ranges.sum) in
    omega (arith, length-pair_text c.args.month c.args.owner c.args.sum)

pub returns : goal.returns
returns c =
    let sum = rw (to_z-of_z w64 c.args.sum c.ranges.sum) at c.number-3.ensures in
    lays_then c.number.ensures (lays_then c.text.ensures (lays_then c.number-2.ensures (lays_then c.text-2.ensures (lays_then sum c.text-3.ensures))))
