-- The volumetric charge: each area's load carries part of the area's requirement for existing facilities, and the grid's load all the rest.
use Rattle.std.specs.Prelude.{ℕ, ◌-◌, List, [], ◌∷◌, ℤ, pos, ◌+ℤ◌, ◌-ℤ◌, ◌*ℤ◌}
use Rattle.charges.specs.Charging.{charged}
use Rattle.charges.specs.Outcomes.{Outcome}
use Rattle.charges.specs.Pools.{pool_of, rounded_down}
use Rattle.charges.specs.Rows.{all_ehv, all_nhv, area_ehv}
use Rattle.charges.specs.declared.pool.Basis.TheVariants.{AreaLoad, GridLoad}
use Rattle.charges.specs.declared.pool.Pool.{Pool}
use Rattle.charges.specs.declared.table.OwnerRow.{OwnerRow}

-- what an area's load carries, where tenths of it are carried grid-wide
abbrev pub area_pool : ℕ → ℕ → List OwnerRow → ℤ
area_pool tenths area rows = rounded_down (area_ehv area rows *ℤ pos (10 - tenths)) 10

-- what the whole grid's load carries: the rest of that, and all that is required for new facilities
abbrev pub grid_pool : ℕ → List OwnerRow → ℤ
grid_pool tenths rows = all_ehv rows -ℤ (area_pool tenths 0 rows +ℤ area_pool tenths 1 rows +ℤ area_pool tenths 2 rows) +ℤ all_nhv rows

abbrev pub volumetric_pools : ℕ → List OwnerRow → List Pool
volumetric_pools tenths rows =
    pool_of (area_pool tenths 0 rows) (AreaLoad 0) rows
    ∷ pool_of (area_pool tenths 1 rows) (AreaLoad 1) rows
    ∷ pool_of (area_pool tenths 2 rows) (AreaLoad 2) rows
    ∷ pool_of (grid_pool tenths rows) GridLoad rows
    ∷ []

-- the pools, were just so much required for new facilities
abbrev pub pools_with : ℤ → ℕ → List OwnerRow → List Pool
pools_with new tenths rows =
    pool_of (area_pool tenths 0 rows) (AreaLoad 0) rows
    ∷ pool_of (area_pool tenths 1 rows) (AreaLoad 1) rows
    ∷ pool_of (area_pool tenths 2 rows) (AreaLoad 2) rows
    ∷ pool_of (all_ehv rows -ℤ (area_pool tenths 0 rows +ℤ area_pool tenths 1 rows +ℤ area_pool tenths 2 rows) +ℤ new) GridLoad rows
    ∷ []

-- the charge is the same in every month
abbrev pub volumetric : ℕ → ℕ → List OwnerRow → Outcome
volumetric tenths month rows = charged (volumetric_pools tenths rows) rows
