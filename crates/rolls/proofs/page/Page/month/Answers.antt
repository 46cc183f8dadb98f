use Rattle.std.proofs.Common.{None, length, slice_index_or, ap, arith, w64, SFits, rules}
use Rattle.std.proofs.lemmas.Int.{to_z-of_z}
use Rattle.rolls.specs.Tallies.{sum_line}
use Rattle.rolls.specs.Pages.{Lays}
use Rattle.rolls.proofs.Writing.{lays_nothing, lays_none, lays_more, up_to-room}
use Rattle.rolls.proofs.page.Page.month.Goals as goal
use Rattle.rolls.proofs.page.Page.month.Goals.{in-Some, in_default}

pub loop-owner-init : goal.loop-owner-init
loop-owner-init c = lays_none _ _

pub pair-requires : goal.pair-requires
pair-requires c =
    let room = up_to-room c.loop-owner.owner 16 (λ owner. sum_line c.args.month owner (slice_index_or c.args.owners.now owner None)) c.loop-owner-test.true in
    let fit : SFits w64 c.in-Some.sum = search rules in
    let line = ap (λ sum. length (sum_line c.args.month c.loop-owner.owner sum)) c.in-Some.is in
    rw (to_z-of_z w64 c.in-Some.sum fit) (omega (arith, c.loop-owner.invariant.end, c.loop-owner.invariant.long, room, line))

pub loop-owner-preserved : goal.loop-owner-preserved
loop-owner-preserved c =
    elim c.match-sum.branch [
      | in-Some w ↦
          let fit : SFits w64 w.in-Some.sum = search rules in
          let line : Lays c.loop-owner.self (sum_line c.args.month c.loop-owner.owner (slice_index_or c.args.owners.now c.loop-owner.owner None)) w.pair.new.self =
          rw (w.in-Some.is, ← to_z-of_z w64 w.in-Some.sum fit) w.pair.ensures in
          rw w.self-is (lays_more _ _ c.loop-owner.invariant line)
      | in_default w ↦
          let line : Lays c.loop-owner.self (sum_line c.args.month c.loop-owner.owner (slice_index_or c.args.owners.now c.loop-owner.owner None)) c.loop-owner.self =
          rw w.in_default.is (lays_nothing c.loop-owner.self) in
          rw w.self-is (lays_more _ _ c.loop-owner.invariant line)
    ]
