use Rattle.std.proofs.Common.{◌≡◌, ℕ, true, false, map, length, IfOk, Ok, Err, Result, sym, ap, ◌∙◌, subst, arith}
use Rattle.std.proofs.lemmas.Result.{err_from_is_err_and}
use Rattle.charges.specs.Amounts.{amounts_of}
use Rattle.charges.specs.Outcomes.{Bounded, OneOfEach}
use Rattle.charges.specs.Rows.{Good}
use Rattle.charges.specs.Tables.{rows_of}
use Rattle.charges.proofs.Limits.{table-good}
use Rattle.charges.proofs.Sizes.{owners-long}
use Rattle.book.specs.Answers.{nets_in}
use Rattle.book.specs.declared.fault.BookFault.{BookFault}
use Rattle.book.specs.declared.nets.Nets.{Nets}
use Rattle.book.specs.Books.{areas_of}
use Rattle.book.specs.Faults.{refusal}
use Rattle.book.specs.Meaning.{noted}
use Rattle.book.specs.Workings.{rows_from, totals_check}
use Rattle.book.proofs.Outcomes.{filing-stops, reading-stops, totals-stop, charge-stops, nets-follow, bills-within}
use Rattle.book.proofs.Balancing.{balanced, made-always}
use Rattle.book.proofs.Tabling.{length-rows}
use Rattle.book.proofs.book.Book.work_out.Goals as goal

many-follow : (r : Result Nets BookFault) (m n : ℕ) → IfOk r (λ x. length (nets_in x) ≡ m) → m ≡ n → IfOk r (λ x. length (nets_in x) ≡ n)
many-follow (Ok x) m n e f = e ∙ f
many-follow (Err e) m n h f = tt

pub returns-in_err-all_filed : goal.returns-in_err-all_filed
returns-in_err-all_filed g c =
    let p = err_from_is_err_and c.from_residual.result c.from_residual.ensures.1 in
    let areas = areas_of c.args.self.now in
    let es = map noted c.args.entries.now in
    let held = c.in_force-standings.ensures in
    rw (p.1, p.2) (record { value = filing-stops (g.C.Charge.meaning c.args.self.now.charge) areas c.args.month es (refusal c.in_err-all_filed.field-0.0) (c.in_err-all_filed.ensures c.args.month es areas held.force (sym held.many)); many = tt; balanced = tt })

pub returns-in_err-all_read : goal.returns-in_err-all_read
returns-in_err-all_read g c =
    let p = err_from_is_err_and c.from_residual-in_err-all_read.result c.from_residual-in_err-all_read.ensures.1 in
    let areas = areas_of c.args.self.now in
    let es = map noted c.args.entries.now in
    let held = c.in_force-standings.ensures in
    rw (p.1, p.2) (record {
      value = reading-stops (g.C.Charge.meaning c.args.self.now.charge) areas c.args.month es (c.in_ok-all_filed.ensures c.args.month es areas held.force (sym held.many)) (refusal c.in_err-all_read.field-0.0) (c.in_err-all_read.ensures c.args.month es areas held.force (sym held.many));
      many = tt;
      balanced = tt;
    })

pub table_of-requires : goal.table_of-requires
table_of-requires g c =
    let b = c.args.self.now in
    let es = map noted c.args.entries.now in
    let long = ap length (c.all_rows-rows.ensures.value c.args.month es c.in_force-standings.ensures.force) ∙ length-rows c.args.month es 0 (areas_of b) in
    record { some = omega (arith, long, owners-long b.areas, b.some); within = c.all_rows-rows.ensures.within }

pub returns-in_err-table : goal.returns-in_err-table
returns-in_err-table g c =
    let p = err_from_is_err_and c.from_residual-in_err-table.result c.from_residual-in_err-table.ensures.1 in
    let areas = areas_of c.args.self.now in
    let month = c.args.month in
    let es = map noted c.args.entries.now in
    let held = c.in_force-standings.ensures in
    let are = c.all_rows-rows.ensures.value month es held.force in
    let fails : (totals_check (rows_from month es 0 areas)).fails ≡ true = subst (λ rows. (totals_check rows).fails ≡ true) are c.in_err-table.ensures.0 in
    rw (p.1, p.2) (record {
      value = totals-stop (g.C.Charge.meaning c.args.self.now.charge) areas month es (c.in_ok-all_filed.ensures month es areas held.force (sym held.many)) (c.in_ok-all_read.ensures month es areas held.force (sym held.many)) (refusal c.in_err-table.field-0.0) fails c.in_err-table.ensures.1;
      many = tt;
      balanced = tt;
    })

pub returns-in_err-billing : goal.returns-in_err-billing
returns-in_err-billing g c =
    let p = err_from_is_err_and c.from_residual-in_err-billing.result c.from_residual-in_err-billing.ensures.1 in
    let areas = areas_of c.args.self.now in
    let month = c.args.month in
    let es = map noted c.args.entries.now in
    let held = c.in_force-standings.ensures in
    let meaning = g.C.Charge.meaning c.args.self.now.charge in
    let are = c.all_rows-rows.ensures.value month es held.force in
    let passes : (totals_check (rows_from month es 0 areas)).fails ≡ false = subst (λ rows. (totals_check rows).fails ≡ false) are c.in_ok-table.ensures.0 in
    let rows : rows_of c.in_ok-table.table ≡ rows_from month es 0 areas = c.in_ok-table.ensures.1 ∙ are in
    let f = c.in_err-billing.field-0.0 in
    rw (p.1, p.2) (record {
      value = charge-stops meaning areas month es (c.in_ok-all_filed.ensures month es areas held.force (sym held.many)) (c.in_ok-all_read.ensures month es areas held.force (sym held.many)) passes f.number f.place f.level (c.in_err-billing.ensures.meant ∙ ap (meaning month) rows);
      many = tt;
      balanced = tt;
    })

pub nets-requires : goal.nets-requires
nets-requires g c =
    let t = c.in_ok-table.table in
    let b = c.in_ok-billing.billing in
    let good = table-good t in
    let meant = c.in_ok-billing.ensures.meant in
    let one = subst (OneOfEach (rows_of t)) (sym meant) (g.met.C.Charge.one_of_each_for_every_owner c.args.self.now.charge c.args.month (rows_of t) good) in
    let bound = subst Bounded (sym meant) (g.met.C.Charge.figures_stay_bounded c.args.self.now.charge c.args.month (rows_of t) good) in
    record { many = one.1; small = bills-within (amounts_of b.bills) bound.1 }

pub returns : goal.returns
returns g c =
    let areas = areas_of c.args.self.now in
    let month = c.args.month in
    let es = map noted c.args.entries.now in
    let held = c.in_force-standings.ensures in
    let meaning = g.C.Charge.meaning c.args.self.now.charge in
    let b = c.in_ok-billing.billing in
    let are = c.all_rows-rows.ensures.value month es held.force in
    let passes : (totals_check (rows_from month es 0 areas)).fails ≡ false = subst (λ rows. (totals_check rows).fails ≡ false) are c.in_ok-table.ensures.0 in
    let rows : rows_of c.in_ok-table.table ≡ rows_from month es 0 areas = c.in_ok-table.ensures.1 ∙ are in
    let t = c.in_ok-table.table in
    let good = subst Good rows (table-good t) in
    let long = ap length rows ∙ length-rows month es 0 areas in
    let value = rw rows at (c.nets.ensures.value (amounts_of b.parts)) in
    record {
      value = nets-follow meaning areas month es (c.in_ok-all_filed.ensures month es areas held.force (sym held.many)) (c.in_ok-all_read.ensures month es areas held.force (sym held.many)) passes (amounts_of b.parts) (amounts_of b.bills) _ (c.in_ok-billing.ensures.meant ∙ ap (meaning month) rows) value;
      many = many-follow c.nets.result _ (length areas) c.nets.ensures.many long;
      balanced = made-always c.nets.result _ (balanced meaning areas month es good (g.met.C.Charge.parts_cover_the_requirements c.args.self.now.charge month (rows_from month es 0 areas) good) (g.met.C.Charge.one_of_each_for_every_owner c.args.self.now.charge month (rows_from month es 0 areas) good));
    }
