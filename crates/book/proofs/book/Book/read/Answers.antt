use Rattle.std.proofs.Common.{[], ◌∷◌, length, vec_len, vec_capacity, Err, refl, ◌∙◌, subst}
use Rattle.std.proofs.lemmas.Result.{err_from_is_err_and}
use Rattle.book.specs.Books.{areas_of}
use Rattle.book.specs.Checks.{reading_limits, room_check}
use Rattle.book.specs.Entries.{metered}
use Rattle.book.specs.Faults.{refusal}
use Rattle.book.specs.Journals.{Enters}
use Rattle.book.specs.Meaning.{metered_of}
use Rattle.book.proofs.Accounting.{reads_on}
use Rattle.book.proofs.Granting.{within-limits, same, outside-limits}
use Rattle.book.proofs.book.Book.read.Goals as goal

pub returns-in_err-reading : goal.returns-in_err-reading
returns-in_err-reading g c =
    let a = c.args in
    let f = a.figures in
    let p = err_from_is_err_and c.from_residual.result c.from_residual.ensures.1 in
    let fault = c.in_err-reading.field-0.0 in
    let denied = c.in_err-reading.ensures in
    let answer = outside-limits (vec_len a.journal.now) (reading_limits (length (areas_of a.self.now)) f) (room_check (vec_len a.journal.now) (vec_capacity a.journal.now) ∷ []) f (refusal fault) denied in
    rw (p.1, p.2) (record {
      answer = answer;
      journal = refl;
      law = λ t h rows free account. reads_on (g.C.Charge.meaning a.self.now.charge) t h a.self.now a.journal.now rows free account f (Err fault) a.journal.now answer refl;
    })

pub returns : goal.returns
returns g c =
    let a = c.args in
    let f = a.figures in
    let limits = reading_limits (length (areas_of a.self.now)) f in
    let room = room_check (vec_len a.journal.now) (vec_capacity a.journal.now) ∷ [] in
    let passed = c.in_ok-reading.ensures in
    let answer = c.enter.ensures.answer ∙ within-limits (vec_len a.journal.now) limits room f (metered_of c.in_ok-reading.reading) passed in
    let journal = subst (λ x. Enters (metered x) c.enter.result a.journal.now c.enter.new.journal) (same (vec_len a.journal.now) limits room f (metered_of c.in_ok-reading.reading) passed) c.enter.ensures.journal in
    record {
      answer = answer;
      journal = journal;
      law = λ t h rows free account. reads_on (g.C.Charge.meaning a.self.now.charge) t h a.self.now a.journal.now rows free account f c.enter.result c.enter.new.journal answer journal;
    }
