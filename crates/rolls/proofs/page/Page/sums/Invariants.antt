use Rattle.std.proofs.Common.{[], slice_index_or}
use Rattle.rolls.specs.Pages.{Lays}
use Rattle.rolls.specs.Summaries.{up_to}
use Rattle.rolls.specs.Tallies.{month_sums}
use Rattle.rolls.proofs.page.Page.sums.Given as goal

abbrev pub invariant-loop-month : goal.invariant-loop-month
invariant-loop-month l = Lays l.initial.self (up_to l.month (λ month. month_sums month (slice_index_or l.sums.months month []))) l.self
