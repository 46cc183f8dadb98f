use Rattle.std.proofs.Common.{◌≡◌, [], ◌++◌, length, take, drop}
use Rattle.book.specs.Accounts.{Account}
use Rattle.book.specs.Histories.{Terms}
use Rattle.book.specs.Scripts.{history_of}
use Rattle.book.proofs.book.Book.perform_all.Given as goal

abbrev pub invariant-loop-i : goal.invariant-loop-i
invariant-loop-i g l =
    (g.R.Roll.lines l.roll ≡ g.R.Roll.lines l.initial.roll ++ drop (length (g.R.Roll.lines l.initial.roll)) (g.R.Roll.lines l.roll))
    × (length l.answers ≡ length l.initial.answers)
    × (drop l.i l.answers ≡ drop l.i l.initial.answers)
    × ((t : Terms) → Account (g.C.Charge.meaning l.initial.self.charge) t [] l.initial.self l.initial.journal [] (g.R.Roll.spare l.initial.roll)
    → Account (g.C.Charge.meaning l.self.charge) t (history_of (take l.i l.calls) (take l.i l.answers)) l.self l.journal (drop (length (g.R.Roll.lines l.initial.roll)) (g.R.Roll.lines l.roll)) (g.R.Roll.spare l.roll))
