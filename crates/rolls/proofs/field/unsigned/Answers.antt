use Rattle.std.proofs.Common.{◌≡◌, ◌<◌, take, ap, ◌∙◌, arith}
use Rattle.std.proofs.lemmas.List.{take_all}
use Rattle.rolls.specs.Numerals.{number}
use Rattle.rolls.proofs.Numerals.{number_more, number-take-below, bytes_of-number}
use Rattle.std.proofs.ByRecursion.{All-from_get_or}
use Rattle.rolls.proofs.field.unsigned.Goals as goal

pub overflow_mul-n : goal.overflow_mul-n
overflow_mul-n c = record { fits = omega (arith, number-take-below c.args.bytes.now c.loop-b.b-index 7 (λ i. (c.type_inv.bytes i).fits) (omega arith)) }

pub overflow_add-n : goal.overflow_add-n
overflow_add-n c = record { fits = omega (arith, number-take-below c.args.bytes.now c.loop-b.b-index 7 (λ i. (c.type_inv.bytes i).fits) (omega arith), (c.type_inv.bytes c.loop-b.b-index).fits) }

pub loop-b-preserved : goal.loop-b-preserved
loop-b-preserved c = omega (arith, number_more c.args.bytes.now c.loop-b.b-index c.loop-b-test.true)

pub returns : goal.returns
returns c =
    let bs = c.args.bytes.now in
    let whole : take c.loop-b.b-index bs ≡ bs = take_all c.loop-b.b-index bs c.loop-b-test.false in
    let value : c.loop-b.n ≡ number bs = c.loop-b.invariant ∙ ap number whole in
    record { value = value; back = rw value (bytes_of-number bs (All-from_get_or (λ b. b < 256) bs 0 (λ i _. (c.type_inv.bytes i).fits))) }
