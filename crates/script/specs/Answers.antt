-- What an answer of reading says; where no memory was free it says nothing.
use Rattle.std.specs.Prelude.{◌≡◌, Ok, Err, Result}
use Rattle.script.specs.declared.fault.Stop.{Stop}
use Rattle.script.specs.declared.fault.Stop.TheVariants as stop
use Rattle.script.specs.declared.fault.Wrong.{Wrong}

abbrev pub Says : {X Y : Type 0} → (X → Y) → Result X Stop → Result Y Wrong → Type 0
Says meaning (Ok x) read = read ≡ Ok (meaning x)
Says meaning (Err (stop.Wrong w)) read = read ≡ Err w
Says meaning (Err stop.Memory) read = Unit {0}

-- what was changed is then what was read; where that is wrong, nothing is said of it
abbrev pub Changes : {D : Type 0} → Result (Unit {0}) Stop → D → Result D Wrong → Type 0
Changes (Ok _) after read = read ≡ Ok after
Changes (Err (stop.Wrong w)) after read = read ≡ Err w
Changes (Err stop.Memory) after read = Unit {0}
