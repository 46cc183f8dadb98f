-- What a line says: whom it bills, for which month, at which mark, and how many cents.
use Rattle.std.specs.Prelude.{ℕ, ◌≤◌, ℤ, unsigned_abs}

pub record Row : Type 0 where
  pub month : ℕ
  pub owner : ℕ
  -- how many entries of the journal the bill was worked out from
  pub mark : ℕ
  pub cents : ℤ

abbrev pub row_of : ℕ → ℕ → ℕ → ℤ → Row
row_of month owner mark cents = record { month = month; owner = owner; mark = mark; cents = cents }

-- the limits that every line keeps
abbrev pub Within : ℕ → ℕ → ℕ → ℤ → Type 0
Within month owner mark cents = (month ≤ 359) × (owner ≤ 15) × (1 ≤ mark) × (mark ≤ 8192) × (unsigned_abs cents ≤ 800000000000000)

abbrev pub WithinRow : Row → Type 0
WithinRow r = Within r.month r.owner r.mark r.cents
