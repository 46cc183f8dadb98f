-- The rule's answers so far.
use Rattle.std.proofs.Common.{◌≡◌, length, take}
use Rattle.std.specs.List.{AllZip}
use Rattle.std.specs.Fn.{FnReturnsAt}
use Rattle.charges.specs.Owners.{items_of}
use Rattle.charges.proofs.owners.Owners.map.Given as goal

abbrev pub invariant-loop-owner : goal.invariant-loop-owner
invariant-loop-owner g l = record { long : length l.items ≡ 16; given : AllZip (FnReturnsAt g.F.Fn l.rule) (take l.owner (items_of l.self)) (take l.owner l.items) }
