-- What opening a month checks, answers and leaves in the draft list.
use Rattle.std.specs.Prelude.{ℕ, min, List, [], ◌∷◌, ◌++◌, map, length, take, drop, ℤ, Some, None, Ok, Err, vec_items, vec_len, Option, Result, Vec, nat_lt}
use Rattle.std.specs.declared.alloc.Global.{Global}
use Rattle.charges.specs.Checks.{Check, first_fault}
use Rattle.charges.specs.Outcomes.{Outcome}
use Rattle.charges.specs.declared.table.OwnerRow.{OwnerRow}
use Rattle.book.specs.Books.{areas_of, mark_of}
use Rattle.book.specs.Entries.{Noted}
use Rattle.book.specs.Meaning.{noted}
use Rattle.book.specs.States.{is_current}
use Rattle.book.specs.Workings.{Refusal, plain, Working, denied, worked, worked_out}
use Rattle.book.specs.declared.book.Book.{Book}
use Rattle.book.specs.declared.entry.Entry.{Entry}
use Rattle.book.specs.declared.opening.Opening.{Opening}

-- a journal's length, and its entries; it takes at most 8,192
abbrev pub count_of : Vec Entry Global → ℕ
count_of v = min (vec_len v) 8192

abbrev pub entries_in : Vec Entry Global → List Noted
entries_in v = map noted (take (count_of v) (vec_items v))

-- opening a month of a book with so many owners, with a draft list of so many places
abbrev pub open_checks : ℕ → ℕ → ℕ → Option ℕ → List Noted → List (Check Refusal)
open_checks owners places month mark entries =
    record { fails = nat_lt 359 month; fault = plain 4 }
    ∷ record { fails = nat_lt places owners; fault = plain 7 }
    ∷ record { fails = is_current mark month entries; fault = plain 8 }
    ∷ []

-- working out follows the checks
abbrev pub worked_after : Option Refusal → Working → Working
worked_after (Some f) w = denied f
worked_after None w = w

-- a month of a book and a journal as its opening works it out
abbrev pub opening_in : {C : Type 0} → (ℕ → List OwnerRow → Outcome) → Book C → Vec Entry Global → ℕ → ℕ → Working
opening_in meaning book journal month places =
    worked_after (first_fault (open_checks (length (areas_of book)) places month (mark_of book month) (entries_in journal))) (worked_out meaning (areas_of book) month (entries_in journal))

-- an opening holds month and count
abbrev pub opening_of : Opening → ℕ × ℕ
opening_of o = (o.written.month, o.written.count)

abbrev pub opened : ℕ → ℕ → Working → Result (ℕ × ℕ) Refusal
opened month count (denied f) = Err f
opened month count (worked w) = Ok (month, count)

-- the nets stand in the draft list's first places, and its other places are kept
abbrev pub drafted : Working → List ℤ → List ℤ
drafted (denied f) draft = draft
drafted (worked w) draft = w.nets ++ drop (length w.nets) draft
