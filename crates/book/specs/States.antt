-- Whether a month is settled, and whether a settled one is due or current.
use Rattle.std.specs.Prelude.{ℕ, Bool, false, cond, not, List, [], ◌∷◌, drop, Some, None, Option, nat_lt}
use Rattle.charges.specs.Checks.{Check, any_by}
use Rattle.book.specs.Entries.{Noted, touches}
use Rattle.book.specs.Workings.{Refusal, plain}
use Rattle.book.specs.declared.call.State.{State}
use Rattle.book.specs.declared.call.State.TheVariants.{Unsettled, Due, Current}

-- a month without a mark is unsettled; a settled one is due if an entry from its mark onward touches it, otherwise current
abbrev pub is_current : Option ℕ → ℕ → List Noted → Bool
is_current None month entries = false
is_current (Some mark) month entries = not (any_by (touches month) (drop mark entries))

-- what the state question tells, with the mark of a settled month
pub data MonthState : Type 0 where
  unsettled : MonthState
  due : ℕ → MonthState
  current : ℕ → MonthState

abbrev pub state_of : Option ℕ → ℕ → List Noted → MonthState
state_of None month entries = unsettled
state_of (Some mark) month entries = cond (any_by (touches month) (drop mark entries)) (due mark) (current mark)

abbrev pub state_checks : ℕ → List (Check Refusal)
state_checks month = record { fails = nat_lt 359 month; fault = plain 4 } ∷ []

abbrev pub state_as : State → MonthState
state_as Unsettled = unsettled
state_as (Due mark) = due mark
state_as (Current mark) = current mark
