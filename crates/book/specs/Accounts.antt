-- When a book, its journal and a roll account for a history.
use Rattle.std.specs.Prelude.{◌≡◌, ℕ, List, [], ◌∷◌, ◌++◌, vec_capacity, Vec}
use Rattle.std.specs.declared.alloc.Global.{Global}
use Rattle.charges.specs.Outcomes.{Outcome}
use Rattle.charges.specs.declared.table.OwnerRow.{OwnerRow}
use Rattle.rolls.specs.Rows.{Row}
use Rattle.book.specs.Books.{areas_of}
use Rattle.book.specs.Histories.{Event, Terms}
use Rattle.book.specs.Journals.{entries_of}
use Rattle.book.specs.Laws.{Accounts}
use Rattle.book.specs.declared.book.Book.{Book}
use Rattle.book.specs.declared.entry.Entry.{Entry}

-- a book whose charge has this meaning, a journal, the lines that were added since the book was made, and so many free lines
pub record Account {C : Type 0} (meaning : ℕ → List OwnerRow → Outcome) (t : Terms) (h : List Event) (book : Book C) (journal : Vec Entry Global) (rows : List Row) (free : ℕ) : Type 0 where
  pub areas_are : areas_of book ≡ t.areas
  pub meaning_is : meaning ≡ t.meaning
  pub accounts : Accounts t h book.marks (entries_of journal) (vec_capacity journal) rows free

-- a call and its answer that leave the book and the roll as they were: they account for the history with this event too
abbrev pub Follows : {C : Type 0} → (ℕ → List OwnerRow → Outcome) → Event → Book C → Vec Entry Global → Vec Entry Global → Type 0
Follows meaning event book before after = (t : Terms) (h : List Event) (rows : List Row) (free : ℕ) → Account meaning t h book before rows free → Account meaning t (h ++ event ∷ []) book after rows free

-- the same of a call that may mark a month, and add lines to those of a roll
abbrev pub FollowsOnRoll : {C : Type 0} → Event → (ℕ → List OwnerRow → Outcome) → Book C → Vec Entry Global → List Row → ℕ → (ℕ → List OwnerRow → Outcome) → Book C → Vec Entry Global → List Row → ℕ → Type 0
FollowsOnRoll event meaning book journal lines free meaning' book' journal' lines' free' =
    (t : Terms) (h : List Event) (earlier before after : List Row) → lines ≡ earlier ++ before → lines' ≡ earlier ++ after
    → Account meaning t h book journal before free → Account meaning' t (h ++ event ∷ []) book' journal' after free'
