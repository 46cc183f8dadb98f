-- The text of a line: month, owner, mark and cents, one space between.
use Rattle.std.specs.Prelude.{ℕ, List, ◌∷◌, ◌++◌, decimal}
use Rattle.std.specs.Fmt.{signed_decimal}
use Rattle.rolls.specs.Rows.{Row}

abbrev pub row_text : Row → List ℕ
row_text r = decimal r.month ++ (32 ∷ decimal r.owner ++ (32 ∷ decimal r.mark ++ (32 ∷ signed_decimal r.cents)))
