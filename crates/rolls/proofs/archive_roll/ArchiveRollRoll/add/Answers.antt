use Rattle.std.proofs.Common.{◌∙◌, arith}
use Rattle.rolls.specs.Meaning.{row}
use Rattle.rolls.proofs.Recorded.{laid-behind}
use Rattle.rolls.proofs.archive_roll.ArchiveRollRoll.add.Goals as goal

pub invariant_of-self : goal.invariant_of-self
invariant_of-self c =
    let s = c.args.self.now in
    let l = laid-behind s.used s.bytes.now (row c.args.line) c.copy_from_slice.new.self s.lines s.within c.args.line.within (omega arith) (c.copy_from_slice.ensures.after ∙ c.encode.ensures.bytes) in
    record { fits = l.fits; few = omega arith; lines = l.lines; within = l.within }

pub returns : goal.returns
returns c =
    let s = c.args.self.now in
    let l = laid-behind s.used s.bytes.now (row c.args.line) c.copy_from_slice.new.self s.lines s.within c.args.line.within (omega arith) (c.copy_from_slice.ensures.after ∙ c.encode.ensures.bytes) in
    record { adds = (l.rows, rw l.long (omega arith)); untouched = l.untouched }
