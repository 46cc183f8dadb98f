-- A line's record in an archive: four fields, each a tag, a length in two bytes, and a number. How one is written, and how bytes are read as one.
use Rattle.std.specs.Prelude.{◌≡◌, ℕ, ◌+◌, Bool, cond, not, ◌&&◌, List, [], ◌∷◌, ◌++◌, length, take, drop, Some, None, Ok, Err, Option, Result, ◌==◌, nat_le, nat_lt, slice_index, unsigned_abs}
use Rattle.std.specs.Int.{w64}
use Rattle.std.proofs.Common.{of_z, to_z}
use Rattle.rolls.specs.Rows.{Row}
use Rattle.rolls.specs.Numerals.{bytes_of, number}

abbrev pub field_of : ℕ → ℕ → ℕ → List ℕ
field_of tag width n = tag ∷ bytes_of 2 width ++ bytes_of width n

-- cents are in two's complement
abbrev pub encoded : Row → List ℕ
encoded r = field_of 1 2 r.month ++ (field_of 2 1 r.owner ++ (field_of 3 4 r.mark ++ field_of 4 8 (of_z w64 r.cents)))

-- what a refusal tells: its number and the record's place
pub record Refusal : Type 0 where
  pub number : ℕ
  pub place : ℕ

-- a check: whether it fails, and the number of the refusal then
pub record Check : Type 0 where
  pub fails : Bool
  pub number : ℕ

-- the number of the first check that fails
abbrev pub first_fault : List Check → Option ℕ
first_fault [] = None
first_fault (c ∷ cs) = cond c.fails (Some c.number) (first_fault cs)

-- the bytes of a field that begins at a place, whether they begin with its tag and length, and the number behind these
abbrev pub part : ℕ → ℕ → List ℕ → List ℕ
part place width bs = take (3 + width) (drop place bs)

abbrev pub headed : ℕ → ℕ → List ℕ → Bool
headed tag width f = slice_index f 0 == tag && (slice_index f 1 == 0 && slice_index f 2 == width)

abbrev pub held : List ℕ → ℕ
held f = number (drop 3 f)

abbrev pub inside : ℕ → ℕ → ℕ → Bool
inside low high n = nat_le low n && nat_le n high

-- the check of a field's tag and length, those of a field whose number lies between limits, and those of the cents
abbrev pub head_check : ℕ → ℕ → List ℕ → Check
head_check tag width f = record { fails = not (headed tag width f); number = 20 }

abbrev pub field_checks : ℕ → ℕ → ℕ → ℕ → List ℕ → List Check
field_checks tag width low high f =
    head_check tag width f ∷ record { fails = not (inside low high (held f)); number = 21 } ∷ []

abbrev pub cents_checks : List ℕ → List Check
cents_checks f =
    head_check 4 8 f ∷ record { fails = not (nat_le (unsigned_abs (to_z w64 (held f))) 800000000000000); number = 21 } ∷ []

-- the checks of a record, in the order in which they are made
abbrev pub length_checks : List ℕ → List Check
length_checks bs = record { fails = nat_lt (length bs) 27; number = 19 } ∷ []

abbrev pub month_checks : List ℕ → List Check
month_checks bs = field_checks 1 2 0 359 (part 0 2 bs)

abbrev pub owner_checks : List ℕ → List Check
owner_checks bs = field_checks 2 1 0 15 (part 5 1 bs)

abbrev pub mark_checks : List ℕ → List Check
mark_checks bs = field_checks 3 4 1 8192 (part 9 4 bs)

abbrev pub checks : List ℕ → List Check
checks bs = length_checks bs ++ (month_checks bs ++ (owner_checks bs ++ (mark_checks bs ++ cents_checks (part 16 8 bs))))

-- what the numbers of a record say
abbrev pub row_in : List ℕ → Row
row_in bs = record {
  month = held (part 0 2 bs);
  owner = held (part 5 1 bs);
  mark = held (part 9 4 bs);
  cents = to_z w64 (held (part 16 8 bs));
}

abbrev pub answered : {X : Type 0} → ℕ → X → Option ℕ → Result X Refusal
answered place x None = Ok x
answered place x (Some n) = Err (record { number = n; place = place })

-- the line that bytes begin with, or why they begin with none: they are the record of this place in an archive
abbrev pub reading : ℕ → List ℕ → Result Row Refusal
reading place bs = answered place (row_in bs) (first_fault (checks bs))

-- a line reads back from its bytes, whatever stands behind them
abbrev pub ReadsBack : Row → Type 0
ReadsBack r = (place : ℕ) (rest : List ℕ) → reading place (encoded r ++ rest) ≡ Ok r
