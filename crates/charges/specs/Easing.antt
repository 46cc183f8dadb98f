-- A column of the rate sheets that is worked out of the owners' caps and burdens.
use Rattle.std.specs.Prelude.{ℕ, List, ℤ, take}
use Rattle.charges.specs.Amounts.{amounts_of}
use Rattle.charges.specs.declared.burdens.Burdens.{Burdens}
use Rattle.charges.specs.declared.caps.Caps.{Caps}

-- by a rule that takes a cap for each burden
abbrev pub column : (List ℕ → List ℤ → List ℤ) → Caps → Burdens → List ℤ
column rule caps burdens = rule (take burdens.amounts.count caps.items) (amounts_of burdens.amounts)
