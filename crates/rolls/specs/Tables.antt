-- What a table of lines means as a roll.
use Rattle.std.specs.Prelude.{ℕ, ◌-◌, min, List, map, length, take}
use Rattle.rolls.specs.Meaning.{row}
use Rattle.rolls.specs.Rows.{Row}
use Rattle.rolls.specs.declared.table_roll.TableRoll.{TableRoll}

abbrev pub table_lines : TableRoll → List Row
table_lines t = map row (take t.used t.slots.now)

abbrev pub table_spare : TableRoll → ℕ
table_spare t = min (length t.slots.now) 1000000 - t.used
