-- What the answers of working out tell.
use Rattle.std.specs.Prelude.{List, ℤ, Some, None, Ok, Err, Option, Result}
use Rattle.charges.specs.Amounts.{amounts_of}
use Rattle.book.specs.Faults.{refusal}
use Rattle.book.specs.Workings.{Refusal, Working, denied, worked}
use Rattle.book.specs.declared.fault.BookFault.{BookFault}
use Rattle.book.specs.declared.nets.Nets.{Nets}

abbrev pub nets_in : Nets → List ℤ
nets_in n = amounts_of n.amounts

-- an answer by what its value means
abbrev pub told : {X Y : Type 0} → (X → Y) → Result X BookFault → Result Y Refusal
told meaning (Ok x) = Ok (meaning x)
told meaning (Err e) = Err (refusal e)

-- the nets of a month that could be worked out
abbrev pub nets_answer : Working → Result (List ℤ) Refusal
nets_answer (denied f) = Err f
nets_answer (worked w) = Ok w.nets

-- the refusal of a call that was not granted
abbrev pub fault_of : {X : Type 0} → Result X Refusal → Option Refusal
fault_of (Ok x) = None
fault_of (Err f) = Some f

-- a granted call by what it answers
abbrev pub granting : {X Y : Type 0} → (X → Y) → Result X Refusal → Result Y Refusal
granting answer (Ok x) = Ok (answer x)
granting answer (Err f) = Err f
