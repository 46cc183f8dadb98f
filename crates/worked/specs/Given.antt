-- What the worked month is given: three owners, one in the first area and two in the second, with what they file and what their meters read.
use Rattle.std.specs.Prelude.{ℕ, List, [], ◌∷◌, ◌++◌, replicate, ℤ, pos, ◌-ℤ◌}
use Rattle.charges.specs.Volumetric.{volumetric}
use Rattle.charges.specs.declared.table.OwnerRow.{OwnerRow}
use Rattle.book.specs.Entries.{Noted, filed, metered}
use Rattle.book.specs.declared.figures.Filed.{Filed}
use Rattle.book.specs.declared.figures.Metered.{Metered}
use Rattle.book.specs.Histories.{Terms}

abbrev pub minus : ℕ → ℤ
minus n = pos 0 -ℤ pos n

-- the month's table
abbrev pub table_row : ℕ → ℤ → ℤ → ℕ → ℕ → ℕ → ℕ → OwnerRow
table_row area ehv nhv filed-load filed-peak load peak = record {
  area = area;
  ehv = ehv;
  nhv = nhv;
  filed_load = filed-load;
  filed_peak = filed-peak;
  load = load;
  peak = peak;
}

abbrev pub table : List OwnerRow
table =
    table_row 0 (pos 1000) (pos 200) 100 10 8 1
    ∷ table_row 1 (pos 1500) (pos 0) 100 6 9 1
    ∷ table_row 1 (pos 500) (pos 0) 50 4 5 0
    ∷ []

-- the caps of the three owners; all others are uncapped
abbrev pub three_caps : ℕ → ℕ → ℕ → List ℕ
three_caps first second third = first ∷ second ∷ third ∷ replicate 13 0

abbrev pub roomy_caps : List ℕ
roomy_caps = three_caps 200 0 100

abbrev pub tight_caps : List ℕ
tight_caps = three_caps 100 0 0

-- a filing for all months, and a reading of month 14
abbrev pub filing : ℕ → ℤ → ℤ → ℕ → ℕ → Filed
filing owner ehv nhv load peak = record { owner = owner; first = 0; last = 359; ehv = ehv; nhv = nhv; load = load; peak = peak }

abbrev pub reading : ℕ → ℕ → ℕ → Metered
reading owner load peak = record { month = 14; owner = owner; load = load; peak = peak }

-- the second owner's requirement is settled late
abbrev pub late_filing : Filed
late_filing = filing 1 (pos 1200) (pos 0) 100 6

abbrev pub six_entries : List Noted
six_entries =
    filed (filing 0 (pos 1000) (pos 200) 100 10)
    ∷ filed (filing 1 (pos 1500) (pos 0) 100 6)
    ∷ filed (filing 2 (pos 500) (pos 0) 50 4)
    ∷ metered (reading 0 8 1)
    ∷ metered (reading 1 9 1)
    ∷ metered (reading 2 5 0)
    ∷ []

abbrev pub seven_entries : List Noted
seven_entries = six_entries ++ filed late_filing ∷ []

-- the book: eight tenths carried grid-wide, a journal with room for seven entries, and a roll with six free lines
abbrev pub terms : Terms
terms = record { areas = 0 ∷ 1 ∷ 1 ∷ []; meaning = volumetric 8; room = 7; lines = 6 }
