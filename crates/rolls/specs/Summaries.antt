-- The summary of an archive: what its records say, and the text that shows their sums.
use Rattle.std.specs.Prelude.{ℕ, zero, suc, Bool, cond, ◌&&◌, List, [], ◌∷◌, ◌++◌, length, drop, ℤ, pos, ◌+ℤ◌, Some, None, Ok, Err, codes, decimal, count_by, Option, Result, ◌==◌, nat_lt}
use Rattle.std.specs.Fmt.{signed_decimal}
use Rattle.rolls.specs.Rows.{Row}
use Rattle.rolls.specs.Records.{Refusal, reading}

-- the rows of the records before the first that cannot be read, and why that one cannot
pub record Contents : Type 0 where
  pub rows : List Row
  pub fault : Option Refusal

abbrev pub grown : Result Row Refusal → Contents → Contents
grown (Ok r) behind = record { rows = r ∷ behind.rows; fault = behind.fault }
grown (Err e) behind = record { rows = []; fault = Some e }

-- of bytes whose first record has this place; at most n records are read
abbrev pub contents_from : ℕ → ℕ → List ℕ → Contents
contents_from zero place bs = record { rows = []; fault = None }
contents_from (suc n) place [] = record { rows = []; fault = None }
contents_from (suc n) place (b ∷ bs) = grown (reading place (b ∷ bs)) (contents_from n (suc place) (drop 27 (b ∷ bs)))

-- of a whole archive, which has fewer records than bytes
abbrev pub contents : List ℕ → Contents
contents bs = contents_from (length bs) 0 bs

-- whether a row is of a month and an owner, how many are, and what they add up to
abbrev pub of : ℕ → ℕ → Row → Bool
of month owner r = r.month == month && r.owner == owner

abbrev pub count_of : ℕ → ℕ → List Row → ℕ
count_of month owner rows = count_by (of month owner) rows

abbrev pub sum_of : ℕ → ℕ → List Row → ℤ
sum_of month owner [] = pos 0
sum_of month owner (r ∷ rows) = cond (of month owner r) r.cents (pos 0) +ℤ sum_of month owner rows

-- the texts of 0 to n - 1, one after the other
unfoldable pub up_to : ℕ → (ℕ → List ℕ) → List ℕ
up_to zero f = []
up_to (suc n) f = up_to n f ++ f n

-- a line of the page: month, owner and sum
abbrev pub pair_text : ℕ → ℕ → ℤ → List ℕ
pair_text month owner sum = decimal month ++ (32 ∷ decimal owner ++ (32 ∷ signed_decimal sum ++ (10 ∷ [])))

-- where the pair has a row
abbrev pub pair_line : List Row → ℕ → ℕ → List ℕ
pair_line rows month owner = cond (nat_lt 0 (count_of month owner rows)) (pair_text month owner (sum_of month owner rows)) []

-- a month's pairs, and all pairs, ascending
abbrev pub month_lines : List Row → ℕ → List ℕ
month_lines rows month = up_to 16 (pair_line rows month)

abbrev pub pair_lines : List Row → List ℕ
pair_lines rows = up_to 360 (month_lines rows)

-- the last line: how many records there are, or which one stopped the reading, and the number of the refusal
abbrev pub closing : ℕ → Option Refusal → List ℕ
closing count None = codes "end " ++ (decimal count ++ (10 ∷ []))
closing count (Some e) = codes "stop " ++ (decimal e.place ++ (32 ∷ decimal e.number ++ (10 ∷ [])))

abbrev pub page_text : Contents → List ℕ
page_text c = codes "month owner cents\n" ++ (pair_lines c.rows ++ closing (length c.rows) c.fault)

-- the whole text; an archive that is longer than 65,529 bytes is not summed
abbrev pub summary_text : List ℕ → List ℕ
summary_text bs = cond (nat_lt 65529 (length bs)) (codes "too long\n") (page_text (contents bs))
