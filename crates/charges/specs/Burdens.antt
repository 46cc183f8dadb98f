-- What transition does to the owners' burdens, column by column of the rate sheets, given their caps (0 for an uncapped owner).
use Rattle.std.specs.Prelude.{ℕ, cond, List, [], ◌∷◌, map, ℤ, pos, ◌-ℤ◌, neg_ℤ, ◌==◌, int_lt, unsigned_abs}
use Rattle.std.specs.Int.{int_max}
use Rattle.division.specs.Shares.{int_sum}
use Rattle.charges.specs.Charging.{added}

-- what a function gives of two figures of each owner
abbrev pub along : {X Y Z : Type 0} → (X → Y → Z) → List X → List Y → List Z
along f [] ys = []
along f (x ∷ xs) [] = []
along f (x ∷ xs) (y ∷ ys) = f x y ∷ along f xs ys

-- an amount where it is positive, otherwise 0
abbrev pub positive : ℤ → ℤ
positive amount = int_max amount (pos 0)

-- an amount of a capped owner, otherwise 0, and of an uncapped owner, otherwise 0
abbrev pub of_capped : ℕ → ℤ → ℤ
of_capped cap amount = cond (cap == 0) (pos 0) amount

abbrev pub of_uncapped : ℕ → ℤ → ℤ
of_uncapped cap amount = cond (cap == 0) amount (pos 0)

-- column [33], the excess: how far a burden is above the cap, or above 0 for an uncapped owner
abbrev pub excess : ℕ → ℤ → ℤ
excess cap burden = positive (burden -ℤ pos cap)

-- column [32], the headroom: how far a capped owner's burden is below the cap
abbrev pub headroom : ℕ → ℤ → ℤ
headroom cap burden = of_capped cap (positive (pos cap -ℤ burden))

-- the benefit: how far an uncapped owner's burden is below 0
abbrev pub benefit : ℕ → ℤ → ℤ
benefit cap burden = of_uncapped cap (positive (neg_ℤ burden))

-- all excess, and all headroom
abbrev pub all_excess : List ℕ → List ℤ → ℤ
all_excess caps burdens = int_sum (along excess caps burdens)

abbrev pub all_headroom : List ℕ → List ℤ → ℤ
all_headroom caps burdens = int_sum (along headroom caps burdens)

-- the payments where the headroom is enough for all excess, and where it is not: then capped owners pay all their headroom,
-- and the rest is divided over uncapped owners by benefit
unfoldable pub payments_within : (ℤ → List ℕ → List ℤ) → List ℕ → List ℤ → List ℤ
payments_within rule caps burdens = rule (all_excess caps burdens) (map unsigned_abs (along headroom caps burdens))

unfoldable pub payments_beyond : (ℤ → List ℕ → List ℤ) → List ℕ → List ℤ → List ℤ
payments_beyond rule caps burdens =
    added (along headroom caps burdens)
    (rule (all_excess caps burdens -ℤ all_headroom caps burdens) (map unsigned_abs (along benefit caps burdens)))

-- column [34], the payments
unfoldable pub payments : (ℤ → List ℕ → List ℤ) → List ℕ → List ℤ → List ℤ
payments rule caps burdens =
    cond (int_lt (all_headroom caps burdens) (all_excess caps burdens)) (payments_beyond rule caps burdens) (payments_within rule caps burdens)

-- column [35], the mitigation: the payment less the excess
unfoldable pub mitigations : (ℤ → List ℕ → List ℤ) → List ℕ → List ℤ → List ℤ
mitigations rule caps burdens = along ◌-ℤ◌ (payments rule caps burdens) (along excess caps burdens)

-- column [36], the adjusted burden
unfoldable pub adjusted : (ℤ → List ℕ → List ℤ) → List ℕ → List ℤ → List ℤ
adjusted rule caps burdens = added burdens (mitigations rule caps burdens)

-- column [39], the final burden: those of capped owners are added up and divided again by cap, and an uncapped owner keeps its own
unfoldable pub finals : (ℤ → List ℕ → List ℤ) → List ℕ → List ℤ → List ℤ
finals rule caps burdens =
    added (rule (int_sum (along of_capped caps (adjusted rule caps burdens))) caps) (along of_uncapped caps (adjusted rule caps burdens))

-- column [38], the transition charge: the final burden less the burden
unfoldable pub transitions : (ℤ → List ℕ → List ℤ) → List ℕ → List ℤ → List ℤ
transitions rule caps burdens = along ◌-ℤ◌ (finals rule caps burdens) burdens
