-- The worked figures of the two rules.
use Rattle.std.specs.Prelude.{◌≡◌, [], ◌∷◌, pos, negsuc}
use Rattle.division.specs.Nearest.{nearest}
use Rattle.division.specs.Shares.{shares}

pub record Worked : Type 0 where
  pub shares_of_400 : shares (pos 400) (100 ∷ 50 ∷ []) ≡ pos 266 ∷ pos 134 ∷ []
  pub shares_of_minus_7 : shares (negsuc 6) (1 ∷ 1 ∷ 1 ∷ []) ≡ negsuc 2 ∷ negsuc 1 ∷ negsuc 1 ∷ []
  pub half_goes_upward : nearest (negsuc 149) 100 ≡ negsuc 0
