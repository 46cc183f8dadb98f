-- What an archive means as a roll.
use Rattle.std.specs.Prelude.{ℕ, ◌-◌, ◌/◌, min, List, length}
use Rattle.rolls.specs.Archives.{rows_in}
use Rattle.rolls.specs.Rows.{Row}
use Rattle.rolls.specs.declared.archive_roll.ArchiveRoll.{ArchiveRoll}

abbrev pub archive_lines : ArchiveRoll → List Row
archive_lines a = rows_in a.used a.bytes.now

abbrev pub archive_spare : ArchiveRoll → ℕ
archive_spare a = min (length a.bytes.now / 27) 1000000 - a.used
