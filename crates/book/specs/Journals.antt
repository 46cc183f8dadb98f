-- What a journal takes, and what it holds after a filing or a reading: one entry more, last; or what it held before.
use Rattle.std.specs.Prelude.{◌≡◌, ℕ, List, [], ◌∷◌, ◌++◌, map, length, Ok, Err, vec_items, vec_len, vec_capacity, Result, Vec}
use Rattle.std.specs.declared.alloc.Global.{Global}
use Rattle.book.specs.Books.{areas_of}
use Rattle.book.specs.Checks.{filing_checks, reading_checks, verdict}
use Rattle.book.specs.Entries.{Noted}
use Rattle.book.specs.declared.figures.Filed.{Filed}
use Rattle.book.specs.declared.figures.Metered.{Metered}
use Rattle.book.specs.Meaning.{noted}
use Rattle.book.specs.Workings.{Refusal}
use Rattle.book.specs.declared.book.Book.{Book}
use Rattle.book.specs.declared.entry.Entry.{Entry}

abbrev pub entries_of : Vec Entry Global → List Noted
entries_of v = map noted (vec_items v)

abbrev pub Enters : {X E : Type 0} → Noted → Result X E → Vec Entry Global → Vec Entry Global → Type 0
Enters e (Ok _) before after = (entries_of after ≡ entries_of before ++ e ∷ []) × (vec_capacity after ≡ vec_capacity before)
Enters e (Err _) before after = after ≡ before

-- what filing with a book and a journal answers, and what handing in a reading does
abbrev pub filing_in : {C : Type 0} → Book C → Vec Entry Global → Filed → Result ℕ Refusal
filing_in book journal f = verdict (vec_len journal) (filing_checks (length (areas_of book)) (vec_len journal) (vec_capacity journal) f)

abbrev pub reading_in : {C : Type 0} → Book C → Vec Entry Global → Metered → Result ℕ Refusal
reading_in book journal r = verdict (vec_len journal) (reading_checks (length (areas_of book)) (vec_len journal) (vec_capacity journal) r)
