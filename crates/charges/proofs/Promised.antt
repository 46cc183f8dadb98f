-- The promises of every transition layer.
use Rattle.std.proofs.Common.{◌≡◌, ℕ, List, length, arith}
use Rattle.division.specs.Shares.{shares}
use Rattle.division.proofs.Divides.{running-divides}
use Rattle.charges.specs.Promises.{BurdensStayWithinCaps, TransitionChargesCancel}
use Rattle.charges.specs.Layering.{final-within, charges-cancel as cancel}

module _ (tenths : ℕ) (caps : List ℕ) (long : length caps ≡ 16) where
  pub within-caps : BurdensStayWithinCaps tenths caps
  within-caps rows good filed owner h = final-within shares running-divides tenths caps rows (omega (arith, good.few)) filed owner h

  pub charges-cancel : TransitionChargesCancel tenths caps
  charges-cancel rows good filed = cancel shares running-divides tenths caps rows (omega (arith, good.few)) filed
