-- Calls and their answers, and what a history of them tells: the entries, the postings, and the mark of each month.
use Rattle.std.specs.Prelude.{ℕ, ◌-◌, ◌*◌, cond, List, [], ◌∷◌, ◌++◌, length, take, ℤ, Some, None, Ok, Err, Option, Result, ◌==◌}
use Rattle.charges.specs.Checks.{first_fault}
use Rattle.charges.specs.Outcomes.{Outcome}
use Rattle.charges.specs.declared.table.OwnerRow.{OwnerRow}
use Rattle.book.specs.Answers.{granting}
use Rattle.book.specs.Calls.{open_checks, worked_after, drafted}
use Rattle.book.specs.Checks.{filing_checks, reading_checks, verdict}
use Rattle.book.specs.Entries.{Noted, filed, metered, latest}
use Rattle.book.specs.declared.figures.Filed.{Filed}
use Rattle.book.specs.declared.figures.Metered.{Metered}
use Rattle.book.specs.Postings.{posting}
use Rattle.book.specs.States.{MonthState, state_of, state_checks}
use Rattle.book.specs.Workings.{Refusal, Working, denied, worked, worked_out}

-- a call: a filing; a reading; a month to open, with a draft list; an opening, by its month and count, to post or to withdraw; a month to ask the state of
pub data Request : Type 0 where
  files : Filed → Request
  reads : Metered → Request
  opens : ℕ → List ℤ → Request
  posts : ℕ → ℕ → Request
  withdraws : ℕ → ℕ → Request
  asks : ℕ → Request

-- what a granted call answers: the entry's number; the opening's month and count and the draft list after; nothing more; or a month's state
pub data Grant : Type 0 where
  entered : ℕ → Grant
  drew : ℕ → ℕ → List ℤ → Grant
  posted : Grant
  withdrawn : Grant
  stands : MonthState → Grant

-- an event is one call with its answer; a history has those since the book was made, the oldest first
pub record Event : Type 0 where
  pub call : Request
  pub answer : Result Grant Refusal

abbrev pub event_of : Request → Result Grant Refusal → Event
event_of call answer = record { call = call; answer = answer }

-- what the granted calls of a history come to, in order
abbrev pub if_granted : {X : Type 0} → Result Grant Refusal → List X → List X
if_granted (Ok g) xs = xs
if_granted (Err f) xs = []

abbrev pub gathered : {X : Type 0} → (Request → List X) → List Event → List X
gathered pick [] = []
gathered pick (e ∷ es) = if_granted e.answer (pick e.call) ++ gathered pick es

abbrev pub entry_of : Request → List Noted
entry_of (files f) = filed f ∷ []
entry_of (reads r) = metered r ∷ []
entry_of (opens month draft) = []
entry_of (posts month n) = []
entry_of (withdraws month n) = []
entry_of (asks month) = []

abbrev pub posting_of : Request → List (ℕ × ℕ)
posting_of (files f) = []
posting_of (reads r) = []
posting_of (opens month draft) = []
posting_of (posts month n) = (month, n) ∷ []
posting_of (withdraws month n) = []
posting_of (asks month) = []

-- the entries are those of granted filings and readings
abbrev pub entries_by : List Event → List Noted
entries_by h = gathered entry_of h

-- the granted postings, by month and count
abbrev pub postings_by : List Event → List (ℕ × ℕ)
postings_by h = gathered posting_of h

-- the count of a month's latest granted posting is its mark
abbrev pub mark_for : ℕ → ℕ × ℕ → Option ℕ
mark_for month p = cond (p.0 == month) (Some p.1) None

abbrev pub mark_by : ℕ → List Event → Option ℕ
mark_by month h = latest (mark_for month) (postings_by h)

-- what a book was made with: the owners' areas, what its charge means, how many entries the journal and how many lines the roll had room for
pub record Terms : Type 0 where
  pub areas : List ℕ
  pub meaning : ℕ → List OwnerRow → Outcome
  pub room : ℕ
  pub lines : ℕ

abbrev pub owners : Terms → ℕ
owners t = length t.areas

-- a month worked out afresh from the first n entries
abbrev pub afresh : Terms → List Noted → ℕ → ℕ → Working
afresh t entries month n = worked_out t.meaning t.areas month (take n entries)

-- each granted posting uses up one line for every owner
abbrev pub free_by : Terms → List Event → ℕ
free_by t h = t.lines - length (postings_by h) * owners t

abbrev pub draws : ℕ → ℕ → List ℤ → Working → Result Grant Refusal
draws month n draft (denied f) = Err f
draws month n draft (worked w) = Ok (drew month n (drafted (worked w) draft))

-- the answer that the checks give to a call after a history
abbrev pub answer_to : Terms → List Event → Request → Result Grant Refusal
answer_to t h (files f) = granting entered (verdict (length (entries_by h)) (filing_checks (owners t) (length (entries_by h)) t.room f))
answer_to t h (reads r) = granting entered (verdict (length (entries_by h)) (reading_checks (owners t) (length (entries_by h)) t.room r))
answer_to t h (opens month draft) =
    draws month (length (entries_by h)) draft (worked_after (first_fault (open_checks (owners t) (length draft) month (mark_by month h) (entries_by h))) (worked_out t.meaning t.areas month (entries_by h)))
answer_to t h (posts month n) =
    granting (λ cents. posted) (posting (afresh t (entries_by h) month) (owners t) (length (entries_by h)) n month (mark_by month h) (entries_by h) (free_by t h))
answer_to t h (withdraws month n) = Ok withdrawn
answer_to t h (asks month) = granting stands (verdict (state_of (mark_by month h) month (entries_by h)) (state_checks month))
