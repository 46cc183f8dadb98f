-- The numbers of what is refused: setting up a charge, and a month.
use Rattle.std.specs.Prelude.{ℕ}
use Rattle.charges.specs.declared.fault.Reason.{Reason}
use Rattle.charges.specs.declared.fault.Reason.TheVariants.{Unfiled, HighRate, LargeAmount}
use Rattle.charges.specs.declared.fault.SettingFault.{SettingFault}
use Rattle.charges.specs.declared.fault.SettingFault.TheVariants.{Outside}

abbrev pub setting_number : SettingFault → ℕ
setting_number Outside = 2

abbrev pub reason_number : Reason → ℕ
reason_number Unfiled = 12
reason_number HighRate = 13
reason_number LargeAmount = 14
