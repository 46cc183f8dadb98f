-- An archive: the records of lines, one after the other.
use Rattle.std.specs.Prelude.{ℕ, zero, suc, ◌*◌, ◌<◌, List, [], ◌∷◌, ◌++◌, drop}
use Rattle.rolls.specs.Rows.{Row, WithinRow}
use Rattle.rolls.specs.Records.{encoded, row_in}

abbrev pub archived : List Row → List ℕ
archived [] = []
archived (r ∷ rs) = encoded r ++ archived rs

-- the rows of the first n records
abbrev pub rows_in : ℕ → List ℕ → List Row
rows_in zero bs = []
rows_in (suc n) bs = row_in bs ∷ rows_in n (drop 27 bs)

-- the row that begins at a record's place
abbrev pub row_at : List ℕ → ℕ → Row
row_at bs i = row_in (drop (i * 27) bs)

-- each of the first n rows keeps the limits of a line
abbrev pub AllWithin : ℕ → List ℕ → Type 0
AllWithin n bs = (i : ℕ) → i < n → WithinRow (row_at bs i)
