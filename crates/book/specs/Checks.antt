-- What each call of the book checks, in the order in which the checks are made.
use Rattle.std.specs.Prelude.{ℕ, Bool, not, ◌||◌, ltb, List, [], ◌∷◌, ◌++◌, length, Some, None, Ok, Err, Option, Result, ◌==◌, nat_le, nat_lt, unsigned_abs}
use Rattle.charges.specs.Checks.{Check, first_fault, any_by}
use Rattle.book.specs.declared.figures.Filed.{Filed}
use Rattle.book.specs.declared.figures.Metered.{Metered}
use Rattle.book.specs.Workings.{Refusal, plain}

-- granted with an answer where no check fails, else denied with the first that does
abbrev pub answered : {X : Type 0} → X → Option Refusal → Result X Refusal
answered x None = Ok x
answered x (Some f) = Err f

abbrev pub verdict : {X : Type 0} → X → List (Check Refusal) → Result X Refusal
verdict x checks = answered x (first_fault checks)

-- setting up: one to sixteen owners, each in one of three areas
abbrev pub set_up_checks : List ℕ → List (Check Refusal)
set_up_checks areas = record { fails = length areas == 0 || (nat_lt 16 (length areas) || any_by (λ a. ltb 2 a) areas); fault = plain 1 } ∷ []

-- a journal of n entries with room for so many is full
abbrev pub full : ℕ → ℕ → Bool
full n room = nat_le 8192 n || nat_le room n

abbrev pub outside_filing : Filed → Bool
outside_filing f = nat_lt 2000000000 (unsigned_abs f.ehv) || (nat_lt 2000000000 (unsigned_abs f.nhv) || (nat_lt 180000000 f.load || nat_lt 1000000 f.peak))

-- a journal of n entries with room for so many takes one more
abbrev pub room_check : ℕ → ℕ → Check Refusal
room_check n room = record { fails = full n room; fault = plain 6 }

-- a filing with a book of so many owners, and entering it
abbrev pub filing_limits : ℕ → Filed → List (Check Refusal)
filing_limits owners f =
    record { fails = not (nat_lt f.owner owners); fault = plain 3 }
    ∷ record { fails = nat_lt 359 f.first || (nat_lt 359 f.last || nat_lt f.last f.first); fault = plain 4 }
    ∷ record { fails = outside_filing f; fault = plain 5 }
    ∷ []

abbrev pub filing_checks : ℕ → ℕ → ℕ → Filed → List (Check Refusal)
filing_checks owners n room f = filing_limits owners f ++ room_check n room ∷ []

-- a reading, and entering it
abbrev pub reading_limits : ℕ → Metered → List (Check Refusal)
reading_limits owners r =
    record { fails = not (nat_lt r.owner owners); fault = plain 3 }
    ∷ record { fails = nat_lt 359 r.month; fault = plain 4 }
    ∷ record { fails = nat_lt 100000000 r.load || nat_lt 100000 r.peak; fault = plain 5 }
    ∷ []

abbrev pub reading_checks : ℕ → ℕ → ℕ → Metered → List (Check Refusal)
reading_checks owners n room r = reading_limits owners r ++ room_check n room ∷ []
