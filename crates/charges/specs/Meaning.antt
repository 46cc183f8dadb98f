-- What an answer tells.
use Rattle.std.specs.Prelude.{Ok, Err, Some, None, Option, Result}
use Rattle.charges.specs.Amounts.{amounts_of}
use Rattle.charges.specs.Outcomes.{Outcome, refused, billed}
use Rattle.charges.specs.declared.billing.Billing.{Billing}
use Rattle.charges.specs.declared.fault.ChargeFault.{ChargeFault}

abbrev pub told : Result Billing ChargeFault → Outcome
told (Ok b) = billed (amounts_of b.parts) (amounts_of b.bills)
told (Err f) = refused f.number f.place f.level

-- the fault of what is refused
abbrev pub fault_in : Result (Unit {0}) ChargeFault → Option ChargeFault
fault_in (Ok _) = None
fault_in (Err f) = Some f
