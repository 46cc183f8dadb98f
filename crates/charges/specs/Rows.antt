-- What a month's table says of its owners, what that adds up to, and the limits it keeps.
use Rattle.std.specs.Prelude.{ℕ, ◌+◌, ◌≤◌, cond, List, map, length, ℤ, pos, ◌+ℤ◌, sum_by, ◌==◌, unsigned_abs}
use Rattle.std.specs.List.{AllByRecursion}
use Rattle.division.specs.Shares.{int_sum}
use Rattle.charges.specs.declared.table.OwnerRow.{OwnerRow}

-- the row that stands where there is no owner
abbrev pub nobody : OwnerRow
nobody = record {
  area = 0;
  ehv = pos 0;
  nhv = pos 0;
  filed_load = 0;
  filed_peak = 0;
  load = 0;
  peak = 0;
}

-- the limits of a row: there are three areas, dollars are at most 2·10⁹ either way, MWh and MW at most so many
abbrev pub RequiredWithin : OwnerRow → Type 0
RequiredWithin r = (r.area ≤ 2) × (unsigned_abs r.ehv ≤ 2000000000) × (unsigned_abs r.nhv ≤ 2000000000)

abbrev pub UsedWithin : OwnerRow → Type 0
UsedWithin r = (r.filed_load ≤ 180000000) × (r.filed_peak ≤ 1000000) × (r.load ≤ 100000000) × (r.peak ≤ 100000)

pub record RowWithin (r : OwnerRow) : Type 0 where
  pub required : RequiredWithin r
  pub used : UsedWithin r

-- the requirement of all owners for existing and for new facilities, and both
abbrev pub all_ehv : List OwnerRow → ℤ
all_ehv rows = int_sum (map (λ r. r.ehv) rows)

abbrev pub all_nhv : List OwnerRow → ℤ
all_nhv rows = int_sum (map (λ r. r.nhv) rows)

abbrev pub requirements : List OwnerRow → ℤ
requirements rows = all_ehv rows +ℤ all_nhv rows

-- the requirement of an area's owners for existing facilities
abbrev pub ehv_in : ℕ → OwnerRow → ℤ
ehv_in area r = cond (r.area == area) r.ehv (pos 0)

abbrev pub area_ehv : ℕ → List OwnerRow → ℤ
area_ehv area rows = int_sum (map (ehv_in area) rows)

-- what the magnitudes of requirements add up to
abbrev pub ehv_size : List OwnerRow → ℕ
ehv_size rows = sum_by (λ r. unsigned_abs r.ehv) rows

abbrev pub nhv_size : List OwnerRow → ℕ
nhv_size rows = sum_by (λ r. unsigned_abs r.nhv) rows

abbrev pub required_size : List OwnerRow → ℕ
required_size rows = ehv_size rows + nhv_size rows

-- the limits that the rows of every table keep
pub record Good (rows : List OwnerRow) : Type 0 where
  pub some : 1 ≤ length rows
  pub few : length rows ≤ 16
  pub within : AllByRecursion RowWithin rows
  pub existing : ehv_size rows ≤ 2000000000
  pub required : required_size rows ≤ 3000000000
