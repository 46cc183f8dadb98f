-- Every line reads back from its own record.
use Rattle.std.proofs.Common.{◌≡◌, ℕ, List, ◌++◌, Ok, rules}
use Rattle.rolls.specs.Rows.{Row, WithinRow}
use Rattle.rolls.specs.Records.{row_in, reading, encoded}

module _ (r : Row) (within : WithinRow r) (rest : List ℕ) where
  pub row_back : row_in (encoded r ++ rest) ≡ r
  row_back = search rules

  pub reads-back : (place : ℕ) → reading place (encoded r ++ rest) ≡ Ok r
  reads-back place = search rules
