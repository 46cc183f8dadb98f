use Rattle.std.proofs.Common.{rules}
use Rattle.division.proofs.Divides.{running-divides}
use Rattle.division.proofs.divide.Goals as goal

pub returns-then-weights-out : goal.returns-then-weights-out
returns-then-weights-out c = record { cases = search rules; divides = running-divides }

pub returns-in_default : goal.returns-in_default
returns-in_default c = record { cases = search rules; divides = running-divides }

pub returns : goal.returns
returns c = record { cases = search rules; divides = running-divides }
