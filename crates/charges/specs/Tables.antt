-- The rows of a table, and which rows make one.
use Rattle.std.specs.Prelude.{◌≡◌, ℕ, Bool, ◌||◌, ltb, List, [], ◌∷◌, length, take, Some, None, Ok, Err, Result, ◌==◌, nat_lt, unsigned_abs}
use Rattle.charges.specs.Checks.{Check, first_fault, any_by}
use Rattle.charges.specs.Rows.{ehv_size, required_size}
use Rattle.charges.specs.declared.fault.TableFault.{TableFault}
use Rattle.charges.specs.declared.fault.TableFault.TheVariants.{Owners, Figure, Totals}
use Rattle.charges.specs.declared.table.OwnerRow.{OwnerRow}
use Rattle.charges.specs.declared.table.Table.{Table}

abbrev pub rows_of : Table → List OwnerRow
rows_of t = take t.rows.count t.rows.items

abbrev pub table_number : TableFault → ℕ
table_number Owners = 1
table_number Figure = 5
table_number Totals = 11

abbrev pub outside_areas : List OwnerRow → Bool
outside_areas rows = any_by (λ r. ltb 2 r.area) rows

-- whether a row has a figure outside its limits
abbrev pub outside_requirement : OwnerRow → Bool
outside_requirement r = nat_lt 2000000000 (unsigned_abs r.ehv) || nat_lt 2000000000 (unsigned_abs r.nhv)

abbrev pub outside_use : OwnerRow → Bool
outside_use r =
    nat_lt 180000000 r.filed_load || (nat_lt 1000000 r.filed_peak || (nat_lt 100000000 r.load || nat_lt 100000 r.peak))

abbrev pub outside_figure : OwnerRow → Bool
outside_figure r = outside_requirement r || outside_use r

abbrev pub outside_figures : List OwnerRow → Bool
outside_figures rows = any_by outside_figure rows

-- the checks of the rows, in the order in which they are made
abbrev pub table_checks : List OwnerRow → List (Check TableFault)
table_checks rows =
    record { fails = length rows == 0 || (nat_lt 16 (length rows) || outside_areas rows); fault = Owners }
    ∷ record { fails = outside_figures rows; fault = Figure }
    ∷ record { fails = nat_lt 2000000000 (ehv_size rows) || nat_lt 3000000000 (required_size rows); fault = Totals }
    ∷ []

-- a table of just these rows where no check fails, else the fault of the first that does
abbrev pub TableAnswer : Result Table TableFault → List OwnerRow → Type 0
TableAnswer (Ok t) rows = (first_fault (table_checks rows) ≡ None) × (rows_of t ≡ rows)
TableAnswer (Err f) rows = first_fault (table_checks rows) ≡ Some f
