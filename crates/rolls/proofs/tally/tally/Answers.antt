use Rattle.std.proofs.Common.{sym, refl, ◌∙◌, arith, rules}
use Rattle.std.proofs.lemmas.Result.{err_from_is_err_and}
use Rattle.rolls.specs.Meaning.{row, refusal}
use Rattle.rolls.proofs.Bounds.{room-left}
use Rattle.rolls.proofs.Counting.{counted-more, stopped_at, ended_at}
use Rattle.rolls.proofs.tally.tally.Goals as goal

pub returns-in_err-read_record : goal.returns-in_err-read_record
returns-in_err-read_record c =
    let p = err_from_is_err_and c.from_residual.result c.from_residual.ensures.1 in
    let i = c.loop-place.invariant.counted in
    let steps = c.in-Some.ensures.steps in
    let size = rw c.loop-place.invariant.size at steps.0.1.1 in
    let read = rw steps.1 at c.in_err-read_record.ensures.read in
    let all = stopped_at c.args.archive.now _ _ c.loop-place.sums i c.in-Some.record.now _ steps.0.1.0 size steps.0.1.2 (refusal c.in_err-read_record.field-0.0) (sym read) in
    rw (p.1, p.2, all) (record { ends = refl; sums = i.sums; within = i.within; few = omega (arith, i.many, i.long) })

pub add-requires : goal.add-requires
add-requires c =
    let i = c.loop-place.invariant.counted in
    room-left c.loop-place.sums i.rows i.sums i.within (omega (arith, i.many, i.long, c.in-Some.ensures.steps.0.1.2))

pub loop-place-preserved : goal.loop-place-preserved
loop-place-preserved c =
    let i = c.loop-place.invariant.counted in
    let steps = c.in-Some.ensures.steps in
    let size = rw c.loop-place.invariant.size at steps.0.1.1 in
    let read = rw steps.1 at c.in_ok-read_record.ensures.read in
    let l = c.in_ok-read_record.field-0 in
    record {
      can = search rules;
      finite = search rules;
      size = steps.0.0 ∙ c.loop-place.invariant.size;
      counted = rw steps.2 (counted-more c.args.archive.now _ _ c.loop-place.sums i c.in-Some.record.now _ steps.0.1.0 size steps.0.1.2 (row l) c.add.new.self (sym read)
          c.in_ok-read_record.ensures.only_its_own_bytes l.within (c.add.ensures i.rows));
    }

pub returns : goal.returns
returns c =
    let i = c.loop-place.invariant.counted in
    let steps = c.in-None.ensures.steps in
    let all = ended_at c.args.archive.now _ _ c.loop-place.sums i steps.0.1.0 in
    rw all (record { ends = (refl, omega (arith, i.many, i.long, steps.0.1.0)); sums = i.sums; within = i.within; few = omega (arith, i.many, i.long) })
