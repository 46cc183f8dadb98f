-- The worked month: three owners, one in the first area and two in the second.
use Rattle.std.specs.Prelude.{◌≡◌, ℕ, List, [], ◌∷◌, ℤ, pos}
use Rattle.charges.specs.Hybrid.{hybrid}
use Rattle.charges.specs.Outcomes.{billed}
use Rattle.charges.specs.Volumetric.{volumetric}
use Rattle.charges.specs.declared.table.OwnerRow.{OwnerRow}

abbrev pub row_of : ℕ → ℤ → ℤ → ℕ → ℕ → ℕ → ℕ → OwnerRow
row_of area ehv nhv filed-load filed-peak load peak = record {
  area = area;
  ehv = ehv;
  nhv = nhv;
  filed_load = filed-load;
  filed_peak = filed-peak;
  load = load;
  peak = peak;
}

abbrev pub worked_rows : List OwnerRow
worked_rows =
    row_of 0 (pos 1000) (pos 200) 100 10 8 1
    ∷ row_of 1 (pos 1500) (pos 0) 100 6 9 1
    ∷ row_of 1 (pos 500) (pos 0) 50 4 5 0
    ∷ []

-- eight tenths grid-wide, and half volumetric
pub record Worked : Type 0 where
  pub volumetric_eight : (month : ℕ) → volumetric 8 month worked_rows ≡ billed (pos 1240 ∷ pos 1306 ∷ pos 654 ∷ []) (pos 9920 ∷ pos 11760 ∷ pos 6533 ∷ [])
  pub hybrid_fifty : (month : ℕ) → hybrid 50 month worked_rows ≡ billed (pos 1440 ∷ pos 1120 ∷ pos 640 ∷ []) (pos 13120 ∷ pos 13760 ∷ pos 3200 ∷ [])
