-- What a word writes as a number: decimal digits, with a minus sign before them or none.
use Rattle.std.specs.Prelude.{ℕ, suc, ◌+◌, ◌-◌, ◌*◌, ◌^◌, min, cond, ◌&&◌, List, [], ◌∷◌, ◌++◌, ℤ, pos, negsuc, neg_ℤ, Some, None, Ok, Err, Option, Result, ◌==◌, nat_le}
use Rattle.std.specs.Option.{option_map}
use Rattle.script.specs.declared.fault.Wrong.{Wrong}
use Rattle.script.specs.declared.fault.Wrong.TheVariants.{NoNumber}
use Rattle.script.specs.declared.number.Number.{Number}

-- the value of digits that stand behind others of value n
abbrev pub digits_from : ℕ → List ℕ → Option ℕ
digits_from n [] = Some n
digits_from n (b ∷ bs) = cond (nat_le 48 b && nat_le b 57) (digits_from (n * 10 + (b - 48)) bs) None

-- one digit at least
abbrev pub digits_of : List ℕ → Option ℕ
digits_of [] = None
digits_of (b ∷ bs) = digits_from 0 (b ∷ bs)

-- a number of this size, and one as far below 0
abbrev pub above : ℕ → ℤ
above size = pos size

abbrev pub below : ℕ → ℤ
below size = neg_ℤ (pos size)

-- the number that a word writes
abbrev pub numeral : List ℕ → Option ℤ
numeral [] = None
numeral (b ∷ bs) = cond (b == 45) (option_map below (digits_of bs)) (option_map above (digits_of (b ∷ bs)))

-- sizes are kept up to the largest that 64 bits hold
abbrev pub clipped : ℕ → ℕ
clipped size = min size (2 ^ 64 - 1)

abbrev pub kept_of : ℤ → ℤ
kept_of (pos n) = above (clipped n)
kept_of (negsuc n) = below (clipped (suc n))

abbrev pub kept : ℤ → Number
kept z = record { 0 = kept_of z }

-- the numbers that words write, behind others; none is left out
abbrev pub or_no_number : {X : Type 0} → Option Number → (Number → Result X Wrong) → Result X Wrong
or_no_number None f = Err NoNumber
or_no_number (Some n) f = f n

abbrev pub numbers_from : List Number → List (List ℕ) → Result (List Number) Wrong
numbers_from ns [] = Ok ns
numbers_from ns (w ∷ ws) = or_no_number (option_map kept (numeral w)) (λ n. numbers_from (ns ++ n ∷ []) ws)

abbrev pub numbers_of : List (List ℕ) → Result (List Number) Wrong
numbers_of words = numbers_from [] words
