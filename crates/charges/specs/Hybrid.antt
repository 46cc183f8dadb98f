-- The hybrid charge: a percentage of all requirements is carried by the grid's load, and the rest by its peak.
use Rattle.std.specs.Prelude.{ℕ, List, [], ◌∷◌, ℤ, pos, ◌-ℤ◌, ◌*ℤ◌}
use Rattle.charges.specs.Charging.{charged}
use Rattle.charges.specs.Outcomes.{Outcome}
use Rattle.charges.specs.Pools.{pool_of, rounded_down}
use Rattle.charges.specs.Rows.{requirements}
use Rattle.charges.specs.declared.pool.Basis.TheVariants.{GridLoad, Peak}
use Rattle.charges.specs.declared.pool.Pool.{Pool}
use Rattle.charges.specs.declared.table.OwnerRow.{OwnerRow}

abbrev pub load_pool : ℕ → List OwnerRow → ℤ
load_pool percent rows = rounded_down (requirements rows *ℤ pos percent) 100

abbrev pub peak_pool : ℕ → List OwnerRow → ℤ
peak_pool percent rows = requirements rows -ℤ load_pool percent rows

abbrev pub hybrid_pools : ℕ → List OwnerRow → List Pool
hybrid_pools percent rows = pool_of (load_pool percent rows) GridLoad rows ∷ pool_of (peak_pool percent rows) Peak rows ∷ []

-- the charge is the same in every month
abbrev pub hybrid : ℕ → ℕ → List OwnerRow → Outcome
hybrid percent month rows = charged (hybrid_pools percent rows) rows
