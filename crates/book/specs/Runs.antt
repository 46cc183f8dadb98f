-- What is promised of a script that a new book has performed, by its calls and their answers alone.
use Rattle.std.specs.Prelude.{◌≡◌, ℕ, ◌*◌, ◌<◌, List, [], map, length, take, drop, pos, ◌≤ℤ◌, Some, Result, Vec, slice_index, slice_index_or}
use Rattle.std.specs.declared.alloc.Global.{Global}
use Rattle.division.specs.Shares.{int_sum, shares}
use Rattle.charges.specs.Outcomes.{Outcome}
use Rattle.charges.specs.Promises.{AllFiled}
use Rattle.charges.specs.Rows.{requirements}
use Rattle.charges.specs.Transition.{final_burdens}
use Rattle.charges.specs.declared.table.OwnerRow.{OwnerRow}
use Rattle.rolls.specs.Rows.{Row}
use Rattle.book.specs.Entries.{Noted}
use Rattle.book.specs.Histories.{Event, Terms, entries_by, postings_by, mark_by, owners, afresh}
use Rattle.book.specs.Journals.{entries_of}
use Rattle.book.specs.Laws.{Answered, Settled, Rolled}
use Rattle.book.specs.Scripts.{history_of}
use Rattle.book.specs.Workings.{Figures, worked}
use Rattle.book.specs.declared.call.Call.{Call}
use Rattle.book.specs.declared.call.Reply.{Reply}
use Rattle.book.specs.declared.entry.Entry.{Entry}
use Rattle.book.specs.declared.fault.BookFault.{BookFault}

-- what the book was made with, the calls with their answers, the entries that the journal then holds, and the lines that were added
pub record Run : Type 0 where
  pub terms : Terms
  pub history : List Event
  pub entries : List Noted
  pub rows : List Row

abbrev pub run_of : (ℕ → List OwnerRow → Outcome) → List ℕ → ℕ → ℕ → List Call → List (Result Reply BookFault) → Vec Entry Global → List Row → List Row → Run
run_of meaning areas room free calls answers journal earlier all = record {
  terms = record { areas = areas; meaning = meaning; room = room; lines = free };
  history = history_of calls answers;
  entries = entries_of journal;
  rows = drop (length earlier) all;
}

-- the journal holds exactly the entries of granted filings and readings
abbrev pub JournalHoldsTheEntries : Run → Type 0
JournalHoldsTheEntries r = r.entries ≡ entries_by r.history

-- every call has the answer that the checks give after the calls before it, states included
abbrev pub AnswersAreTheChecks : Run → Type 0
AnswersAreTheChecks r = Answered r.terms [] r.history

-- of every settled month, each owner's lines add up to its net, worked out afresh at the month's mark
abbrev pub LinesAddUpToTheNet : Run → Type 0
LinesAddUpToTheNet r = (month mark : ℕ) → mark_by month r.history ≡ Some mark → Settled r.terms (entries_by r.history) r.rows month mark

-- the lines are those of each granted posting in turn, one for each owner in order, with its month and count, and no other
abbrev pub EachPostingAddsOneLineAnOwner : Run → Type 0
EachPostingAddsOneLineAnOwner r = Rolled (owners r.terms) (postings_by r.history) r.rows

-- the lines of a posting, whichever it is, add up to 0
abbrev pub PostingsCancel : Run → Type 0
PostingsCancel r = (k : ℕ) → int_sum (map (λ line. line.cents) (take (owners r.terms) (drop (k * owners r.terms) r.rows))) ≡ pos 0

-- of every settled month, the parts at its mark add up to all that is required
abbrev pub PartsCoverTheRequirements : Run → Type 0
PartsCoverTheRequirements r =
    (month mark : ℕ) (w : Figures) → mark_by month r.history ≡ Some mark → afresh r.terms (entries_by r.history) month mark ≡ worked w → int_sum w.parts ≡ requirements w.rows

-- of every settled month, and of any transition layer whose pools have filed use there, no final burden passes its cap, or 0 for an uncapped owner
abbrev pub BurdensStayWithinCaps : Run → Type 0
BurdensStayWithinCaps r =
    (month mark : ℕ) (w : Figures) → mark_by month r.history ≡ Some mark → afresh r.terms (entries_by r.history) month mark ≡ worked w
    → (tenths : ℕ) (caps : List ℕ) → length caps ≡ 16 → AllFiled tenths w.rows → (owner : ℕ) → owner < length w.rows → slice_index_or (final_burdens shares tenths caps w.rows) owner (pos 0) ≤ℤ pos (slice_index caps owner)
