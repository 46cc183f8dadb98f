use Rattle.std.proofs.Common.{[], slice_index_or, arith}
use Rattle.rolls.specs.Tallies.{month_sums}
use Rattle.rolls.proofs.Writing.{lays_none, lays_more, up_to-room}
use Rattle.rolls.proofs.page.Page.sums.Goals as goal

pub loop-month-init : goal.loop-month-init
loop-month-init c = lays_none _ _

pub month-requires : goal.month-requires
month-requires c =
    omega (arith, c.loop-month.invariant.end, c.loop-month.invariant.long, up_to-room c.loop-month.month 360 (λ month. month_sums month (slice_index_or c.args.sums.now.months month [])) c.loop-month-test.true)

pub loop-month-preserved : goal.loop-month-preserved
loop-month-preserved c = lays_more _ _ c.loop-month.invariant c.month.ensures
