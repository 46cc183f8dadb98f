-- What the sums by month and owner hold of a list of rows.
use Rattle.std.specs.Prelude.{◌≡◌, ℕ, ◌<◌, ◌≤◌, cond, List, [], length, ℤ, pos, Some, None, Ok, Err, Option, Result, nat_lt, slice_index_or, unsigned_abs, unwrap_or}
use Rattle.rolls.specs.Rows.{Row}
use Rattle.rolls.specs.Meaning.{refusal}
use Rattle.rolls.specs.Summaries.{Contents, sum_of, count_of, pair_text, up_to}
use Rattle.rolls.specs.declared.fault.ArchiveFault.{ArchiveFault}
use Rattle.rolls.specs.declared.sums.Sums.{Sums}

-- a pair's sum of its rows, where it has one
abbrev pub pair_sum : List Row → ℕ → ℕ → Option ℤ
pair_sum rows month owner = cond (nat_lt 0 (count_of month owner rows)) (Some (sum_of month owner rows)) None

-- what the sums hold for a pair
abbrev pub sum_at : Sums → ℕ → ℕ → Option ℤ
sum_at s month owner = slice_index_or (slice_index_or s.months month []) owner None

-- for each pair the sum of its rows; each month has a place for each owner
pub record Tallied (s : Sums) (rows : List Row) : Type 0 where
  pub owners : (month : ℕ) → month < 360 → length (slice_index_or s.months month []) ≡ 16
  pub sums : (month owner : ℕ) → month < 360 → owner < 16 → sum_at s month owner ≡ pair_sum rows month owner

-- one line more of any pair fits
pub record Room (s : Sums) : Type 0 where
  pub sums : (month owner : ℕ) → month < 360 → owner < 16 → unsigned_abs (unwrap_or (sum_at s month owner) (pos 0)) ≤ 1940800000000000000

-- what reading an archive answers: how many records it has, or why the first that cannot be read cannot
abbrev pub Ends : Result ℕ ArchiveFault → Contents → Type 0
Ends (Ok n) c = (c.fault ≡ None) × (n ≡ length c.rows)
Ends (Err e) c = c.fault ≡ Some (refusal e)

-- the lines of the page as the sums give them
abbrev pub sum_line : ℕ → ℕ → Option ℤ → List ℕ
sum_line month owner None = []
sum_line month owner (Some sum) = pair_text month owner sum

abbrev pub month_sums : ℕ → List (Option ℤ) → List ℕ
month_sums month owners = up_to 16 (λ owner. sum_line month owner (slice_index_or owners owner None))

abbrev pub all_sums : Sums → List ℕ
all_sums s = up_to 360 (λ month. month_sums month (slice_index_or s.months month []))
