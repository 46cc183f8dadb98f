-- What opening a month comes to, as the code goes through its checks.
use Rattle.std.proofs.Common.{◌≡◌, ℕ, ◌≤◌, false, ltb, List, ◌++◌, length, drop, ℤ, None, Ok, Err, Result, Vec, sym, refl, ap, ◌∙◌, arith}
use Rattle.std.proofs.lemmas.Bool.{le-ltb}
use Rattle.std.specs.declared.alloc.Global.{Global}
use Rattle.charges.specs.Checks.{first_fault}
use Rattle.charges.specs.Outcomes.{Outcome}
use Rattle.charges.specs.declared.table.OwnerRow.{OwnerRow}
use Rattle.book.specs.Answers.{nets_answer}
use Rattle.book.specs.Calls.{count_of, entries_in, open_checks, opening_in, opened, drafted}
use Rattle.book.specs.Books.{areas_of, mark_of}
use Rattle.book.specs.States.{is_current}
use Rattle.book.specs.Workings.{Refusal, Working, denied, worked, worked_out}
use Rattle.book.specs.declared.book.Book.{Book}
use Rattle.book.specs.declared.entry.Entry.{Entry}

-- a month that could not be worked out, and one that could
denied-is : (w : Working) (f : Refusal) → ◌≡◌ {A = Result (List ℤ) Refusal} (Err f) (nets_answer w) → w ≡ denied f
denied-is (denied g) f e = let same : f ≡ g = cc in ap denied (sym same)
denied-is (worked v) f e = let z : ◌≡◌ {A = ℕ} 0 1 = cc in absurd (omega arith)

module _ {C : Type 0} (meaning : ℕ → List OwnerRow → Outcome) (book : Book C) (j : Vec Entry Global) (month places : ℕ) (low : month ≤ 359) (room : length (areas_of book) ≤ places) (due : is_current (mark_of book month) month (entries_in j) ≡ false) where
  abbrev working : Working
  working = worked_out meaning (areas_of book) month (entries_in j)

  abbrev opening : Working
  opening = opening_in meaning book j month places

  open-clear : first_fault (open_checks (length (areas_of book)) places month (mark_of book month) (entries_in j)) ≡ None
  open-clear =
      let m : ltb 359 month ≡ false = le-ltb 359 month low in
      let p : ltb places (length (areas_of book)) ≡ false = le-ltb places (length (areas_of book)) room in
      rw (m, p, due)

  pub open-denied : (f : Refusal) (draft : List ℤ) → ◌≡◌ {A = Result (List ℤ) Refusal} (Err f) (nets_answer working)
      → (◌≡◌ {A = Result (ℕ × ℕ) Refusal} (Err f) (opened month (count_of j) opening)) × (draft ≡ drafted opening draft)
  open-denied f draft e = let is = denied-is working f e in rw (open-clear, is) (refl, refl)

  pub open-worked : (nets draft : List ℤ) (n : ℕ) → ◌≡◌ {A = Result (List ℤ) Refusal} (Ok nets) (nets_answer working) → length nets ≡ n
      → (◌≡◌ {A = Result (ℕ × ℕ) Refusal} (Ok (month, count_of j)) (opened month (count_of j) opening)) × (nets ++ drop n draft ≡ drafted opening draft)
  open-worked nets draft n e long = rw open-clear (by working e)
    where
      by : (v : Working) → ◌≡◌ {A = Result (List ℤ) Refusal} (Ok nets) (nets_answer v) → (◌≡◌ {A = Result (ℕ × ℕ) Refusal} (Ok (month, count_of j)) (opened month (count_of j) v)) × (nets ++ drop n draft ≡ drafted v draft)
      by (denied f) q = let z : ◌≡◌ {A = ℕ} 0 1 = cc in absurd (omega arith)
      by (worked v) q = let same : nets ≡ v.nets = cc in (refl, ap (λ xs. xs ++ drop n draft) same ∙ ap (λ k. v.nets ++ drop k draft) (sym long ∙ ap length same))
