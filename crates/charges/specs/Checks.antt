-- Checks that are made in order: the first that fails says why something is refused.
use Rattle.std.specs.Prelude.{ℕ, suc, Bool, cond, List, [], ◌∷◌, ℤ, Some, None, Option, nat_lt, unsigned_abs}
use Rattle.std.specs.List.{list_any}

-- whether a check fails, and the fault it then finds
pub record Check (Fault : Type 0) : Type 0 where
  pub fails : Bool
  pub fault : Fault

abbrev pub first_fault : {Fault : Type 0} → List (Check Fault) → Option Fault
first_fault [] = None
first_fault (c ∷ cs) = cond c.fails (Some c.fault) (first_fault cs)

-- whether a magnitude passes a limit
abbrev pub passes : ℕ → ℤ → Bool
passes limit z = nat_lt limit (unsigned_abs z)

-- whether one of the elements has a property
abbrev pub any_by : {X : Type 0} → (X → Bool) → List X → Bool
any_by has xs = list_any has xs

-- the checks of elements whose first has the place k
abbrev pub each_from : {X Fault : Type 0} → (ℕ → X → Check Fault) → ℕ → List X → List (Check Fault)
each_from check k [] = []
each_from check k (x ∷ xs) = check k x ∷ each_from check (suc k) xs
