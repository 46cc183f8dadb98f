use Rattle.std.proofs.Common.{◌≡◌, ◌-◌, ◌*◌, ◌<◌, ◌++◌, length, take, drop, sym, ap, ◌∙◌, arith, take-append-drop}
use Rattle.std.proofs.lemmas.List.{take_rest}
use Rattle.std.proofs.lemmas.Option.{slice_get_past}
use Rattle.std.specs.Option.{option_map}
use Rattle.rolls.specs.Archives.{rows_in, row_at}
use Rattle.rolls.specs.Meaning.{row}
use Rattle.rolls.specs.Records.{reading, encoded}
use Rattle.rolls.proofs.Back.{reads-back}
use Rattle.rolls.proofs.Recorded.{record-at, nth-rows_in, length-rows_in, told-some}
use Rattle.rolls.proofs.archive_roll.ArchiveRollRoll.line.Goals as goal

pub returns-then-place-self : goal.returns-then-place-self
returns-then-place-self c =
    let s = c.args.self.now in
    record { line = sym (slice_get_past (rows_in s.used s.bytes.now) c.args.place (omega (arith, length-rows_in s.used s.bytes.now))) }

pub returns : goal.returns
returns c =
    let s = c.args.self.now in
    let i = c.args.place in
    let xs = s.bytes.now in
    let left = drop (i * 27) xs in
    let here : i < s.used = omega arith in
    let bytes : take (length xs - i * 27) left ≡ encoded (row_at xs i) ++ drop 27 left =
    take_rest xs (i * 27) ∙ sym (take-append-drop 27 left) ∙ ap (λ bs. bs ++ drop 27 left) (record-at s.used xs i here s.lines) in
    let read = c.read_record.ensures.read ∙ ap (reading i) bytes ∙ reads-back (row_at xs i) (s.within i here) (drop 27 left) i in
    record { line = ap (option_map row) c.ok.ensures.value ∙ told-some c.read_record.result (row_at xs i) read ∙ sym (nth-rows_in s.used xs i here) }
