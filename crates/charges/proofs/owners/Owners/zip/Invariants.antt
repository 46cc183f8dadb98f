-- The pairs so far, and those of what is left.
use Rattle.std.proofs.Common.{◌≡◌, ◌+◌, ◌++◌, zip, length}
use Rattle.std.specs.Iterator.Adapters.{zip_first, zip_second}
use Rattle.std.specs.Slice.Iter.{iter_rest}
use Rattle.charges.specs.Owners.{items_of}
use Rattle.charges.proofs.owners.Owners.zip.Given as goal

abbrev pub invariant-loop-one : goal.invariant-loop-one
invariant-loop-one g l =
    (goal.iterator-loop-one g).can_next l.one-iterator
    × (goal.iterator-loop-one g).is_finite l.one-iterator
    × (zip (items_of l.self) (items_of l.others) ≡ items_of l.pairs ++ zip (iter_rest (zip_first l.one-iterator)) (iter_rest (zip_second l.one-iterator)))
    × (length (items_of l.pairs) + length (iter_rest (zip_first l.one-iterator)) ≡ l.self.count)
