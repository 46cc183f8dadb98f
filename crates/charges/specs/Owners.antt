-- What each owner has, in the owners' order.
use Rattle.std.specs.Prelude.{◌≡◌, List, take}
use Rattle.std.specs.Borrow.{Bor}
use Rattle.std.specs.Fn.{Shared}
use Rattle.charges.specs.declared.owners.Owners.{Owners}

abbrev pub items_of : {T : Type 0} → Owners T → List T
items_of o = take o.count o.items

-- a rule may be asked of an item
abbrev pub FnTakesAt : {F T R : Type 0} → Shared F (Bor T × Unit {0}) R → F → T → Type 0
FnTakesAt {F} {T} g rule x = (p : Bor T) → p.now ≡ x → g.pre rule (p, tt)
