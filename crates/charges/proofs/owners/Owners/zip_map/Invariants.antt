-- The rule's answers so far.
use Rattle.std.proofs.Common.{◌≡◌, length, take, zip}
use Rattle.std.specs.List.{AllZip}
use Rattle.std.specs.Fn.{FnReturnsAt}
use Rattle.charges.specs.Owners.{items_of}
use Rattle.charges.proofs.owners.Owners.zip_map.Given as goal

abbrev pub invariant-loop-owner : goal.invariant-loop-owner
invariant-loop-owner g l = record { long : length l.items ≡ 16; given : AllZip (FnReturnsAt g.F.Fn l.rule) (take l.owner (zip (items_of l.self) (items_of l.others))) (take l.owner l.items) }
