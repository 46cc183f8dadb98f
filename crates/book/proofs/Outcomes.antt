-- A month's checks as the code goes through them, and what working out then answers.
use Rattle.charges.specs.Amounts.{AllBelow}
use Rattle.std.proofs.Common.{◌≡◌, ℕ, ◌<◌, ◌≤◌, Bool, true, false, cond, ◌⊎◌, List, [], ◌∷◌, ◌++◌, length, get_or, ℤ, pos, nat_abs, Some, None, Err, Result, sym, ap, ◌∙◌, inl, inr, arith}
use Rattle.std.specs.List.{AllByRecursion}
use Rattle.std.proofs.ByRecursion.{All-get_or}
use Rattle.std.proofs.lemmas.List.{get_or_past}
use Rattle.std.proofs.lemmas.Bool.{cases_lt}
use Rattle.charges.specs.Checks.{Check, first_fault, each_from}
use Rattle.charges.specs.Outcomes.{Outcome, refused, billed, Small}
use Rattle.charges.specs.declared.table.OwnerRow.{OwnerRow}
use Rattle.charges.specs.Answered.{first_fault-pass, first_fault-stop}
use Rattle.book.specs.Answers.{nets_answer}
use Rattle.book.specs.Entries.{Noted}
use Rattle.book.specs.Workings.{Refusal, plain, filing_check, reading_check, totals_check, table_checks, rows_from, charged, settled, netted, net_checks, worked_out}

module _ (meaning : ℕ → List OwnerRow → Outcome) (areas : List ℕ) (month : ℕ) (entries : List Noted) where
  abbrev rows : List OwnerRow
  rows = rows_from month entries 0 areas

  abbrev filings : List (Check Refusal)
  filings = each_from (filing_check month entries) 0 areas

  abbrev readings : List (Check Refusal)
  readings = each_from (reading_check month entries) 0 areas

  abbrev totals : List (Check Refusal)
  totals = totals_check rows ∷ []

  abbrev answer : Result (List ℤ) Refusal
  answer = nets_answer (worked_out meaning areas month entries)

  stops : (f : Refusal) → first_fault (table_checks month areas entries) ≡ Some f → ◌≡◌ {A = Result (List ℤ) Refusal} (Err f) answer
  stops f e = sym (ap (λ o. nets_answer (charged o (meaning month) rows)) e)

  pub filing-stops : (f : Refusal) → Some f ≡ first_fault filings → ◌≡◌ {A = Result (List ℤ) Refusal} (Err f) answer
  filing-stops f e = stops f (first_fault-stop filings (readings ++ totals) f (sym e))

  module _ (filed : None ≡ first_fault filings) where
    pub reading-stops : (f : Refusal) → Some f ≡ first_fault readings → ◌≡◌ {A = Result (List ℤ) Refusal} (Err f) answer
    reading-stops f e = stops f (first_fault-pass filings (readings ++ totals) (sym filed) ∙ first_fault-stop readings totals f (sym e))

    module _ (read : None ≡ first_fault readings) where
      checks-are : (b : Bool) → (totals_check rows).fails ≡ b → first_fault (table_checks month areas entries) ≡ cond b (Some (plain 11)) None
      checks-are b e = first_fault-pass filings (readings ++ totals) (sym filed) ∙ first_fault-pass readings totals (sym read) ∙ ap (λ t. cond t (Some (plain 11)) None) e

      pub totals-stop : (f : Refusal) → (totals_check rows).fails ≡ true → f ≡ plain 11 → ◌≡◌ {A = Result (List ℤ) Refusal} (Err f) answer
      totals-stop f e is = ap Err is ∙ stops (plain 11) (checks-are true e)

      module _ (tabled : (totals_check rows).fails ≡ false) where
        goes_on : nets_answer (settled (meaning month rows) rows) ≡ answer
        goes_on = sym (ap (λ o. nets_answer (charged o (meaning month) rows)) (checks-are false tabled))

        pub charge-stops : (n p l : ℕ) → refused n p l ≡ meaning month rows → ◌≡◌ {A = Result (List ℤ) Refusal} (Err (record { number = n; place = Some p; level = Some l })) answer
        charge-stops n p l e = ap (λ o. nets_answer (settled o rows)) e ∙ goes_on

        pub nets-follow : (parts bills : List ℤ) (r : Result (List ℤ) Refusal) → billed parts bills ≡ meaning month rows → r ≡ nets_answer (netted (first_fault (net_checks rows bills)) rows parts bills) → r ≡ answer
        nets-follow parts bills r e is = is ∙ ap (λ o. nets_answer (settled o rows)) e ∙ goes_on

pub bills-within : (bills : List ℤ) → AllByRecursion Small bills → AllBelow 10000000000000 bills
bills-within bills all k = by (cases_lt k (length bills))
  where
    by : (k < length bills) ⊎ (length bills ≤ k) → nat_abs (get_or bills k (pos 0)) ≤ 10000000000000
    by (inl h) = All-get_or Small bills k (pos 0) h all
    by (inr h) = let e = get_or_past bills k (pos 0) h in rw e (omega arith)
