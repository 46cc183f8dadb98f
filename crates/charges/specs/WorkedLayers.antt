-- The worked month under transition layers.
use Rattle.std.specs.Prelude.{◌≡◌, ℕ, List, [], ◌∷◌, replicate, pos, negsuc}
use Rattle.division.specs.Shares.{shares}
use Rattle.charges.specs.Hybrid.{hybrid}
use Rattle.charges.specs.Outcomes.{refused, billed}
use Rattle.charges.specs.Transition.{burdens, final_burdens, transition_charges, transition}
use Rattle.charges.specs.Volumetric.{volumetric}
use Rattle.charges.specs.Worked.{worked_rows}

-- the caps of the three owners; all others are uncapped
abbrev pub three_caps : ℕ → ℕ → ℕ → List ℕ
three_caps first second third = first ∷ second ∷ third ∷ replicate 13 0

abbrev pub roomy_caps : List ℕ
roomy_caps = three_caps 200 0 100

abbrev pub tight_caps : List ℕ
tight_caps = three_caps 100 0 0

-- eight tenths grid-wide throughout
pub record WorkedLayers : Type 0 where
  pub worked_burdens : burdens shares 8 worked_rows ≡ pos 160 ∷ negsuc 273 ∷ pos 114 ∷ []
  pub roomy_finals : final_burdens shares 8 roomy_caps worked_rows ≡ pos 182 ∷ negsuc 273 ∷ pos 92 ∷ []
  pub roomy_charges : transition_charges shares 8 roomy_caps worked_rows ≡ pos 22 ∷ pos 0 ∷ negsuc 21 ∷ []
  pub tight_finals : final_burdens shares 8 tight_caps worked_rows ≡ pos 100 ∷ negsuc 99 ∷ pos 0 ∷ []
  pub tight_charges : transition_charges shares 8 tight_caps worked_rows ≡ negsuc 59 ∷ pos 174 ∷ negsuc 113 ∷ []
  pub on_volumetric : (month : ℕ) → transition 8 roomy_caps (volumetric 8) month worked_rows ≡
      billed (pos 1262 ∷ pos 1306 ∷ pos 632 ∷ []) (pos 10096 ∷ pos 11760 ∷ pos 6313 ∷ [])
  pub on_hybrid : (month : ℕ) → transition 8 roomy_caps (hybrid 50) month worked_rows ≡
      billed (pos 1462 ∷ pos 1120 ∷ pos 618 ∷ []) (pos 13296 ∷ pos 13760 ∷ pos 2980 ∷ [])
  pub on_a_layer : (month : ℕ) → transition 8 tight_caps (transition 8 roomy_caps (volumetric 8)) month worked_rows ≡
      billed (pos 1202 ∷ pos 1480 ∷ pos 518 ∷ []) (pos 9616 ∷ pos 13326 ∷ pos 5173 ∷ [])
  pub fault_rises : (number place month : ℕ) →
      transition 8 tight_caps (transition 8 roomy_caps (λ _ _. refused number place 0)) month worked_rows ≡ refused number place 2
  pub level_stops : (number place month : ℕ) → transition 8 roomy_caps (λ _ _. refused number place 250) month worked_rows ≡ refused number place 250
