use Rattle.std.proofs.Common.{rules, ap, ◌∙◌, arith}
use Rattle.std.proofs.lemmas.Int.{ints}
use Rattle.division.specs.Shares.{int_sum}
use Rattle.charges.proofs.Eased.{headroom-held, benefit-held, totals-small, rest-held, beyond-are, within-are}
use Rattle.charges.proofs.caps.Caps.payments.Goals as goal

pub overflow_sub-excess : goal.overflow_sub-excess
overflow_sub-excess c =
    let s = c.args.self.now in
    let b = c.args.burdens.now in
    let x-is = c.total-excess.ensures ∙ ap int_sum c.excess.ensures in
    let h-is = c.total-room.ensures ∙ ap int_sum c.headroom-headroom.ensures in
    let small = totals-small s b _ _ x-is h-is in
    omega (arith, ints)

pub overflow_cast-excess : goal.overflow_cast-excess
overflow_cast-excess c =
    let s = c.args.self.now in
    let b = c.args.burdens.now in
    let x-is = c.total-excess.ensures ∙ ap int_sum c.excess.ensures in
    let h-is = c.total-room.ensures ∙ ap int_sum c.headroom-headroom.ensures in
    let small = totals-small s b _ _ x-is h-is in
    omega (arith, ints)

pub overflow_cast-excess-else-room-excess : goal.overflow_cast-excess-else-room-excess
overflow_cast-excess-else-room-excess c =
    let s = c.args.self.now in
    let b = c.args.burdens.now in
    let x-is = c.total-excess.ensures ∙ ap int_sum c.excess.ensures in
    let h-is = c.total-room.ensures ∙ ap int_sum c.headroom-headroom.ensures in
    let small = totals-small s b _ _ x-is h-is in
    omega (arith, ints)

pub divided-requires : goal.divided-requires
divided-requires c = benefit-held c.args.self.now c.args.burdens.now c.benefit-benefit.result c.benefit-benefit.ensures

pub plus-requires : goal.plus-requires
plus-requires c =
    let s = c.args.self.now in
    let b = c.args.burdens.now in
    let x-is = c.total-excess.ensures ∙ ap int_sum c.excess.ensures in
    let h-is = c.total-room.ensures ∙ ap int_sum c.headroom-headroom.ensures in
    let small = totals-small s b _ _ x-is h-is in
    record {
      bound = headroom-held s b c.headroom-headroom.result c.headroom-headroom.ensures;
      more_bound = rest-held s b _ _ x-is h-is c.divided.result c.benefit-benefit.result _ c.benefit-benefit.ensures c.divided.ensures (omega (arith, ints));
    }

pub divided-requires-else-room-excess : goal.divided-requires-else-room-excess
divided-requires-else-room-excess c = headroom-held c.args.self.now c.args.burdens.now c.headroom-headroom.result c.headroom-headroom.ensures

pub returns-then-room-excess : goal.returns-then-room-excess
returns-then-room-excess c =
    let s = c.args.self.now in
    let b = c.args.burdens.now in
    let x-is = c.total-excess.ensures ∙ ap int_sum c.excess.ensures in
    let h-is = c.total-room.ensures ∙ ap int_sum c.headroom-headroom.ensures in
    let small = totals-small s b _ _ x-is h-is in
    beyond-are s b _ _ x-is h-is c.divided.result c.benefit-benefit.result _ c.benefit-benefit.ensures c.divided.ensures (omega (arith, ints))
    c.plus.result c.headroom-headroom.result c.headroom-headroom.ensures c.plus.ensures (search rules)

pub returns-else-room-excess : goal.returns-else-room-excess
returns-else-room-excess c =
    let s = c.args.self.now in
    let b = c.args.burdens.now in
    let x-is = c.total-excess.ensures ∙ ap int_sum c.excess.ensures in
    let h-is = c.total-room.ensures ∙ ap int_sum c.headroom-headroom.ensures in
    let small = totals-small s b _ _ x-is h-is in
    within-are s b _ _ x-is h-is c.divided-else-room-excess.result c.headroom-headroom.result _ c.headroom-headroom.ensures c.divided-else-room-excess.ensures (omega (arith, ints)) (search rules)
