-- What adding a line to a roll answers, and what the roll holds after: a roll means the list of its lines and its count of free lines.
use Rattle.std.specs.Prelude.{◌≡◌, ℕ, suc, List, [], ◌∷◌, ◌++◌, Ok, Err, Result}
use Rattle.rolls.specs.Rows.{Row}
use Rattle.rolls.specs.declared.fault.RollFault.{RollFault}
use Rattle.rolls.specs.declared.fault.RollFault.TheVariants.{Full}

-- a roll takes at most so many lines
abbrev pub most_lines : ℕ
most_lines = 1000000

abbrev pub roll_number : RollFault → ℕ
roll_number Full = 18

-- the line stands last and one free line is used up; or none was free, and all is as it was
abbrev pub Adds : {X : Type 0} → Row → List Row → ℕ → Result X RollFault → List Row → ℕ → Type 0
Adds x lines spare (Ok _) after left = (after ≡ lines ++ x ∷ []) × (spare ≡ suc left)
Adds x lines spare (Err f) after left = (roll_number f ≡ 18) × (spare ≡ 0) × (after ≡ lines) × (left ≡ 0)
