use Rattle.std.proofs.Common.{◌≡◌, ℕ, ◌≤◌, true, false, List, length, get_or, MatchResult, Ok, Err, Result, sym, refl, ◌∙◌, arith, rules}
use Rattle.charges.proofs.Sizes.{owners-long}
use Rattle.charges.specs.Owners.{items_of}
use Rattle.charges.specs.Rows.{RowWithin, nobody}
use Rattle.charges.specs.Tables.{TableAnswer, rows_of}
use Rattle.charges.specs.declared.fault.TableFault.{TableFault}
use Rattle.charges.specs.declared.table.OwnerRow.{OwnerRow}
use Rattle.charges.specs.declared.table.Table.{Table}
use Rattle.book.specs.Faults.{refusal}
use Rattle.book.specs.Workings.{totals_check, plain}
use Rattle.book.specs.declared.fault.BookFault.{BookFault}
use Rattle.book.specs.declared.fault.BookFault.TheVariants.{Totals}
use Rattle.book.proofs.Tabling.{only-totals, totals-fail, totals-pass}
use Rattle.book.proofs.rows.table_of.Goals as goal

module _ (rows : List OwnerRow) (some : 1 ≤ length rows) (few : length rows ≤ 16) (within : (k : ℕ) → RowWithin (get_or rows k nobody)) where
  told : (made : Result Table TableFault) (r : Result Table BookFault) → TableAnswer made rows → MatchResult made (λ t. r ≡ Ok t) (λ f. r ≡ Err Totals)
      → MatchResult r (λ t. ((totals_check rows).fails ≡ false) × (rows_of t ≡ rows)) (λ e. ((totals_check rows).fails ≡ true) × (refusal e ≡ plain 11))
  told (Ok t) r answer is = rw is (totals-pass (totals_check rows).fails (sym (only-totals rows some few within) ∙ answer.0), answer.1)
  told (Err f) r answer is = rw is (totals-fail (totals_check rows).fails f (sym (only-totals rows some few within) ∙ answer), refl)

pub returns : goal.returns
returns c =
    let rows = c.args.rows.now in
    told (items_of rows) c.requires.some (omega (arith, owners-long rows, rows.few)) c.requires.within c.new.result c.map_err.result (rw c.all.ensures at c.new.ensures) (search rules)
