-- Which numbers fit a place.
use Rattle.std.specs.Prelude.{◌≡◌, ℕ, ◌-◌, ◌^◌, ◌<◌, cond, ℤ, pos, negsuc, Ok, Err, Result, MatchResult, nat_le, nat_lt}
use Rattle.script.specs.Numbers.{kept}
use Rattle.script.specs.declared.fault.Wrong.{Wrong}
use Rattle.script.specs.declared.fault.Wrong.TheVariants.{DoesNotFit}

-- from 0 to the most
abbrev pub up_to : ℕ → ℤ → Result ℕ Wrong
up_to most (pos n) = cond (nat_le n most) (Ok n) (Err DoesNotFit)
up_to most (negsuc n) = Err DoesNotFit

-- as large and as far below 0 as 64 bits go
abbrev pub signed64 : ℤ → Result ℤ Wrong
signed64 (pos n) = cond (nat_lt n (2 ^ 63)) (Ok (pos n)) (Err DoesNotFit)
signed64 (negsuc n) = cond (nat_lt n (2 ^ 63)) (Ok (negsuc n)) (Err DoesNotFit)

-- a conversion whose failing says that the number does not fit
abbrev pub FitsAs : {X E : Type 0} → Result X Wrong → Result X E → Type 0
FitsAs fitted converted = MatchResult converted (λ x. fitted ≡ Ok x) (λ _. fitted ≡ Err DoesNotFit)

-- a number that is kept fits where the one that is written does, and as the same number: sizes are kept far enough
abbrev pub KeptSuffices : Type 0
KeptSuffices =
    (z : ℤ)
    → ((most : ℕ) → most < 2 ^ 64 - 1 → up_to most (kept z).0 ≡ up_to most z)
    × (signed64 (kept z).0 ≡ signed64 z)
