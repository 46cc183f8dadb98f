-- The lines so far, and those that are still to come.
use Rattle.std.proofs.Common.{◌≡◌, ◌+◌, ◌++◌, drop}
use Rattle.charges.specs.Amounts.{amounts_of}
use Rattle.book.specs.Postings.{lines_from}
use Rattle.book.proofs.post.add_lines.Given as goal

abbrev pub invariant-loop-owner : goal.invariant-loop-owner
invariant-loop-owner g l = record {
  lines : g.R.Roll.lines l.roll ++ lines_from l.written.month l.written.count l.owner (drop l.owner (amounts_of l.cents)) ≡ g.R.Roll.lines l.initial.roll ++ lines_from l.written.month l.written.count 0 (amounts_of l.cents);
  spare : g.R.Roll.spare l.initial.roll ≡ g.R.Roll.spare l.roll + l.owner;
}
