-- What a book holds: the owners' areas, and the mark of each settled month.
use Rattle.std.specs.Prelude.{◌≡◌, ℕ, cond, List, None, Option, ◌==◌, slice_index_or}
use Rattle.charges.specs.Owners.{items_of}
use Rattle.book.specs.declared.book.Book.{Book}

abbrev pub areas_of : {C : Type 0} → Book C → List ℕ
areas_of b = items_of b.areas

abbrev pub mark_of : {C : Type 0} → Book C → ℕ → Option ℕ
mark_of b month = slice_index_or b.marks month None

-- a book after a call that gave one month this mark
pub record Marked {C : Type 0} (month : ℕ) (mark : Option ℕ) (before after : Book C) : Type 0 where
  pub areas : areas_of after ≡ areas_of before
  pub charge : after.charge ≡ before.charge
  pub marks : (m : ℕ) → mark_of after m ≡ cond (m == month) mark (mark_of before m)
