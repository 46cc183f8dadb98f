use Rattle.std.proofs.Common.{None, slice_index_or}
use Rattle.rolls.specs.Pages.{Lays}
use Rattle.rolls.specs.Summaries.{up_to}
use Rattle.rolls.specs.Tallies.{sum_line}
use Rattle.rolls.proofs.page.Page.month.Given as goal

abbrev pub invariant-loop-owner : goal.invariant-loop-owner
invariant-loop-owner l = Lays l.initial.self (up_to l.owner (λ owner. sum_line l.month owner (slice_index_or l.owners owner None))) l.self
