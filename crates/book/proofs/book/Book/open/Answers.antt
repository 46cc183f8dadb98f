use Rattle.std.proofs.Common.{◌≤◌, false, length, Ok, Err, sym, refl, ap, ◌∙◌, arith, rules}
use Rattle.charges.proofs.Sizes.{owners-long}
use Rattle.std.proofs.lemmas.Result.{err_from_is_err_and}
use Rattle.book.specs.Answers.{nets_in}
use Rattle.book.specs.Faults.{refusal}
use Rattle.book.specs.declared.fault.BookFault.TheVariants.{Month, ShortDraft, Current as CurrentFault}
use Rattle.book.specs.declared.opening.Opening.{Opening}
use Rattle.book.specs.declared.written.Written.{Written}
use Rattle.book.proofs.Accounting.{opens_on}
use Rattle.book.proofs.Opened.{open-denied, open-worked}
use Rattle.book.proofs.book.Book.open.Goals as goal

pub returns-then-month-gt-LAST_MONTH-clause-law : goal.returns-then-month-gt-LAST_MONTH-clause-law
returns-then-month-gt-LAST_MONTH-clause-law g c t h rows free account =
    opens_on (g.C.Charge.meaning c.args.self.now.charge) t h c.args.self.now c.args.journal.now rows free account c.args.month c.args.draft.now c.args.draft.now (Err Month) (search rules) (search rules)

pub returns-then-draft-count-clause-law : goal.returns-then-draft-count-clause-law
returns-then-draft-count-clause-law g c t h rows free account =
    opens_on (g.C.Charge.meaning c.args.self.now.charge) t h c.args.self.now c.args.journal.now rows free account c.args.month c.args.draft.now c.args.draft.now (Err ShortDraft) (search rules) (search rules)

pub returns-then-current-clause-law : goal.returns-then-current-clause-law
returns-then-current-clause-law g c t h rows free account =
    opens_on (g.C.Charge.meaning c.args.self.now.charge) t h c.args.self.now c.args.journal.now rows free account c.args.month c.args.draft.now c.args.draft.now (Err CurrentFault) (search rules) (search rules)

pub returns-in_err-nets : goal.returns-in_err-nets
returns-in_err-nets g c =
    let p = err_from_is_err_and c.from_residual.result c.from_residual.ensures.1 in
    let b = c.args.self.now in
    let j = c.args.journal.now in
    let owners = owners-long b.areas in
    let ents = c.counted_entries-entries.ensures in
    let due = rw (c.mark.ensures, ents) at c.if-current.ensures in
    let value = rw ents at c.in_err-nets.ensures.value in
    let both = open-denied (g.C.Charge.meaning b.charge) b j c.args.month (length c.args.draft.now) c.if-month-gt-LAST_MONTH.false (omega (arith, c.count.ensures, c.if-draft-count.false)) (sym due) (refusal c.in_err-nets.field-0.0) c.args.draft.now value in
    rw (p.1, p.2) (record {
      answer = both.0;
      draft = both.1;
      owed = tt;
      law = λ t h rows free account. opens_on (g.C.Charge.meaning b.charge) t h b j rows free account c.args.month c.args.draft.now c.args.draft.now (Err c.in_err-nets.field-0.0) both.0 both.1;
    })

pub returns : goal.returns
returns g c =
    let b = c.args.self.now in
    let j = c.args.journal.now in
    let m = c.in_ok-nets.nets in
    let owners = owners-long b.areas in
    let ents = c.counted_entries-entries.ensures in
    let due = rw (c.mark.ensures, ents) at c.if-current.ensures in
    let value = rw ents at c.in_ok-nets.ensures.value in
    let few : c.counted-count.result ≤ 8192 = omega (arith, c.counted-count.ensures) in
    let both = open-worked (g.C.Charge.meaning b.charge) b j c.args.month (length c.args.draft.now) c.if-month-gt-LAST_MONTH.false (omega (arith, c.count.ensures, c.if-draft-count.false)) (sym due) (nets_in m) c.args.draft.now (length (nets_in m)) value refl in
    let count = c.counted-count.ensures in
    let answer = ap (λ k. Ok (c.args.month, k)) count ∙ both.0 in
    let written : Written = record { month = c.args.month; count = c.counted-count.result; month_within = c.if-month-gt-LAST_MONTH.false } in
    let opening : Opening = record { written = written; spent = false; within = few } in
    record {
      answer = answer;
      draft = c.draw.ensures ∙ both.1;
      owed = refl;
      law = λ t h rows free account. opens_on (g.C.Charge.meaning b.charge) t h b j rows free account c.args.month c.args.draft.now _ (Ok opening) answer (c.draw.ensures ∙ both.1);
    }
