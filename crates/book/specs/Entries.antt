-- What an entry of the journal says, a filing or a reading, which months it touches, and which entries are in force.
use Rattle.std.specs.Prelude.{ℕ, Bool, cond, ◌&&◌, List, [], ◌∷◌, Some, None, Option, ◌==◌, nat_le}
use Rattle.book.specs.declared.figures.Filed.{Filed}
use Rattle.book.specs.declared.figures.Metered.{Metered}

pub data Noted : Type 0 where
  filed : Filed → Noted
  metered : Metered → Noted

abbrev pub covers : ℕ → Filed → Bool
covers month f = nat_le f.first month && nat_le month f.last

-- an entry touches the months that it covers
abbrev pub touches : ℕ → Noted → Bool
touches month (filed f) = covers month f
touches month (metered r) = r.month == month

-- an entry as a filing, or a reading, of an owner's month
abbrev pub filing_for : ℕ → ℕ → Noted → Option Filed
filing_for month owner (filed f) = cond (f.owner == owner && covers month f) (Some f) None
filing_for month owner (metered r) = None

abbrev pub reading_for : ℕ → ℕ → Noted → Option Metered
reading_for month owner (filed f) = None
reading_for month owner (metered r) = cond (r.owner == owner && r.month == month) (Some r) None

-- the latest that is picked is in force
abbrev pub or_else : {X : Type 0} → Option X → Option X → Option X
or_else (Some x) other = Some x
or_else None other = other

abbrev pub latest : {A X : Type 0} → (A → Option X) → List A → Option X
latest pick [] = None
latest pick (e ∷ es) = or_else (latest pick es) (pick e)
