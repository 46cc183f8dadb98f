use Rattle.std.proofs.Common.{◌≡◌, ◌+◌, ◌<◌, ◌++◌, length, Err, sym, refl, ap, append-nil, arith}
use Rattle.book.specs.Books.{mark_of, Marked}
use Rattle.book.specs.Calls.{count_of}
use Rattle.book.specs.Answers.{fault_of}
use Rattle.book.specs.Postings.{lines_of, mark_after, posting_in}
use Rattle.book.specs.declared.fault.BookFault.TheVariants.{BeyondJournal}
use Rattle.book.proofs.Accounting.{posts-on}
use Rattle.book.proofs.Postable.{beyond, mark-kept}
use Rattle.book.proofs.book.Book.post_written.Goals as goal

pub returns-in_default : goal.returns-in_default
returns-in_default g c =
    let a = c.args in
    let b = a.self.now in
    let j = a.journal.now in
    let month = a.written.month in
    let n = a.written.count in
    let roll = a.roll.now in
    let free = g.R.Roll.spare roll in
    let meaning = g.C.Charge.meaning b.charge in
    let above : count_of j < n = omega (arith, c.in_default.ensures) in
    let e = beyond meaning b j month n free above in
    let none : g.R.Roll.lines roll ≡ g.R.Roll.lines roll ++ lines_of month n (posting_in meaning b j month n free) = rw e (sym (append-nil _)) in
    let unused : free ≡ free + length (lines_of month n (posting_in meaning b j month n free)) = rw e (omega arith) in
    let marked : Marked month (mark_after n (mark_of b month) (posting_in meaning b j month n free)) b b = rw e (record { areas = refl; charge = refl; marks = mark-kept b.marks month }) in
    record {
      lines = none;
      law = λ t h earlier before after is is' account.
          posts-on meaning meaning t h b b j free free month n (Err BeyondJournal) (g.R.Roll.lines roll) (g.R.Roll.lines roll) earlier before after is is' refl (sym (ap fault_of e)) none unused marked tt account;
    }

pub returns : goal.returns
returns g c =
    let o = c.in-Some.ensures in
    let p = rw o at c.post.ensures in
    record { lines = p.lines; law = p.law }
