use Rattle.std.proofs.Common.{◌≡◌}
use Rattle.std.specs.Iterator.Adapters.{enumerate_source, enumerate_count}
use Rattle.std.specs.Slice.Iter.{chunks_rest, chunks_size}
use Rattle.rolls.proofs.Counting.{Counted}
use Rattle.rolls.proofs.tally.tally.Given as goal

abbrev pub invariant-loop-place : goal.invariant-loop-place
invariant-loop-place l = record {
  can : (goal.iterator-loop-place).can_next l.place-iterator;
  finite : (goal.iterator-loop-place).is_finite l.place-iterator;
  size : chunks_size (enumerate_source l.place-iterator) ≡ 27;
  counted : Counted l.archive (enumerate_count l.place-iterator) (chunks_rest (enumerate_source l.place-iterator)) l.sums;
}
