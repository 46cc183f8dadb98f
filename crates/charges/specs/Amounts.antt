-- The amounts of a list by value.
use Rattle.std.specs.Prelude.{ℕ, ◌≤◌, List, ℤ, pos, slice_index_or, unsigned_abs}
use Rattle.charges.specs.Owners.{items_of}
use Rattle.charges.specs.declared.owners.Owners.{Owners}

abbrev pub amounts_of : Owners ℤ → List ℤ
amounts_of a = items_of a

-- no amount passes a limit either way
abbrev pub AllBelow : ℕ → List ℤ → Type 0
AllBelow limit amounts = (k : ℕ) → unsigned_abs (slice_index_or amounts k (pos 0)) ≤ limit
