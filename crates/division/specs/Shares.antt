-- What each owner gets of a sum that is divided by weights, by running figures.
use Rattle.std.specs.Prelude.{ℕ, ◌+◌, List, [], ◌∷◌, ℤ, pos, ◌+ℤ◌, ◌-ℤ◌, ◌*ℤ◌, fold}
use Rattle.std.specs.Int.{int_div_euclid, int_rem_euclid}

-- all the weights together
abbrev pub total : List ℕ → ℕ
total weights = fold ◌+◌ 0 weights

-- all the amounts together, as of the shares
abbrev pub int_sum : List ℤ → ℤ
int_sum amounts = fold ◌+ℤ◌ (pos 0) amounts

-- the running figure of a sum at the running weight upto, of the total weight all: with sum = q·all + r, it is
-- q·upto and the whole part of r·upto ÷ all (0 where the total weight is 0)
unfoldable pub running : ℤ → ℕ → ℕ → ℤ
running sum all upto = int_div_euclid sum (pos all) *ℤ pos upto +ℤ int_div_euclid (int_rem_euclid sum (pos all) *ℤ pos upto) (pos all)

-- the shares of the owners who come after the running weight before: each gets its running figure less the one before it
unfoldable pub shares_after : ℤ → ℕ → ℕ → List ℕ → List ℤ
shares_after sum all before [] = []
shares_after sum all before (weight ∷ weights) =
    (running sum all (before + weight) -ℤ running sum all before) ∷ shares_after sum all (before + weight) weights

unfoldable pub shares : ℤ → List ℕ → List ℤ
shares sum weights = shares_after sum (total weights) 0 weights
