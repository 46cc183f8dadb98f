-- What posting an opening checks and answers, and the lines that it adds.
use Rattle.std.specs.Prelude.{ℕ, suc, Bool, true, false, List, [], ◌∷◌, length, take, replicate, ℤ, pos, Some, None, Ok, Err, Option, Result, Vec, nat_lt}
use Rattle.std.specs.declared.alloc.Global.{Global}
use Rattle.rolls.specs.Rows.{Row, row_of}
use Rattle.charges.specs.Checks.{Check, first_fault}
use Rattle.charges.specs.Outcomes.{Outcome}
use Rattle.charges.specs.declared.table.OwnerRow.{OwnerRow}
use Rattle.book.specs.Answers.{nets_answer}
use Rattle.book.specs.Books.{areas_of, mark_of}
use Rattle.book.specs.Calls.{count_of, entries_in}
use Rattle.book.specs.Entries.{Noted}
use Rattle.book.specs.States.{is_current}
use Rattle.book.specs.Workings.{Refusal, plain, Working, less, worked_out}
use Rattle.book.specs.declared.book.Book.{Book}
use Rattle.book.specs.declared.entry.Entry.{Entry}

-- an opening of a month at n entries, where the journal has so many and the month has this mark
abbrev pub post_checks : ℕ → ℕ → ℕ → Option ℕ → List Noted → List (Check Refusal)
post_checks journal n month mark entries =
    record { fails = nat_lt journal n; fault = plain 16 } ∷ record { fails = is_current mark month (take n entries); fault = plain 17 } ∷ []

-- the nets that were billed before: those at the mark, or none where the month was not settled
abbrev pub nets_before : (ℕ → Working) → ℕ → Option ℕ → Result (List ℤ) Refusal
nets_before workedAt owners None = Ok (replicate owners (pos 0))
nets_before workedAt owners (Some mark) = nets_answer (workedAt mark)

-- the cents of the lines: the nets at n less those billed before; too few free lines are the last check
abbrev pub cents_of : Option Refusal → Result (List ℤ) Refusal → Result (List ℤ) Refusal → Bool → Result (List ℤ) Refusal
cents_of (Some f) new old short = Err f
cents_of None (Err f) old short = Err f
cents_of None (Ok new) (Err f) short = Err f
cents_of None (Ok new) (Ok old) true = Err (plain 18)
cents_of None (Ok new) (Ok old) false = Ok (less new old)

-- a month worked out at n entries, and at its mark before
abbrev pub posting : (ℕ → Working) → ℕ → ℕ → ℕ → ℕ → Option ℕ → List Noted → ℕ → Result (List ℤ) Refusal
posting workedAt owners journal n month mark entries free =
    cents_of (first_fault (post_checks journal n month mark entries)) (nets_answer (workedAt n)) (nets_before workedAt owners mark) (nat_lt free owners)

-- a line for every owner, in order, from the owner k on
abbrev pub lines_from : ℕ → ℕ → ℕ → List ℤ → List Row
lines_from month mark k [] = []
lines_from month mark k (z ∷ zs) = row_of month k mark z ∷ lines_from month mark (suc k) zs

-- the lines that a posting adds, and the mark that the month then has
abbrev pub lines_of : ℕ → ℕ → Result (List ℤ) Refusal → List Row
lines_of month mark (Ok cents) = lines_from month mark 0 cents
lines_of month mark (Err f) = []

abbrev pub mark_after : ℕ → Option ℕ → Result (List ℤ) Refusal → Option ℕ
mark_after n mark (Ok cents) = Some n
mark_after n mark (Err f) = mark

-- with a book and a journal, where so many lines are free
abbrev pub posting_in : {C : Type 0} → (ℕ → List OwnerRow → Outcome) → Book C → Vec Entry Global → ℕ → ℕ → ℕ → Result (List ℤ) Refusal
posting_in meaning book journal month n free =
    posting (λ k. worked_out meaning (areas_of book) month (take k (entries_in journal))) (length (areas_of book)) (count_of journal) n month (mark_of book month) (entries_in journal) free

-- the lines that it adds, and the mark that the month then has
abbrev pub lines_in : {C : Type 0} → (ℕ → List OwnerRow → Outcome) → Book C → Vec Entry Global → ℕ → ℕ → ℕ → List Row
lines_in meaning book journal month n free = lines_of month n (posting_in meaning book journal month n free)

abbrev pub mark_in : {C : Type 0} → (ℕ → List OwnerRow → Outcome) → Book C → Vec Entry Global → ℕ → ℕ → ℕ → Option ℕ
mark_in meaning book journal month n free = mark_after n (mark_of book month) (posting_in meaning book journal month n free)
