-- What the code's lines and refusals mean.
use Rattle.std.specs.Prelude.{Ok, Err, Result}
use Rattle.rolls.specs.Rows.{Row, row_of}
use Rattle.rolls.specs.Records.{Refusal}
use Rattle.rolls.specs.declared.line.Line.{Line}
use Rattle.rolls.specs.declared.fault.ArchiveFault.{ArchiveFault}
use Rattle.rolls.specs.declared.fault.ArchiveFault.TheVariants.{Short, Heading, Value}

abbrev pub row : Line → Row
row l = row_of l.month l.owner l.mark l.cents

-- each refusal by its number, with the record's place
abbrev pub refusal : ArchiveFault → Refusal
refusal (Short at) = record { number = 19; place = at }
refusal (Heading at) = record { number = 20; place = at }
refusal (Value at) = record { number = 21; place = at }

-- an answer, by what its value means
abbrev pub told : {X Y : Type 0} → (X → Y) → Result X ArchiveFault → Result Y Refusal
told meaning (Ok x) = Ok (meaning x)
told meaning (Err e) = Err (refusal e)
