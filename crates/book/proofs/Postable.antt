-- What posting an opening comes to, as the code goes through its checks.
use Rattle.std.proofs.Common.{zero, pos, replicate, ◌≡◌, ℕ, suc, ◌<◌, ◌≤◌, min, Bool, true, false, cond, eqb, ltb, ◌⊎◌, List, [], ◌∷◌, map, length, get_or, take, set, ℤ, Some, None, Ok, Err, Option, Result, Vec, sym, refl, ap, ◌∙◌, inl, inr, arith}
use Rattle.std.proofs.lemmas.List.{take-map, take-take, take_all, length-take, get_or-set_same, get_or-set_other}
use Rattle.std.proofs.lemmas.Bool.{cases_lt, lt-ltb, le-ltb, eqb-true, eqb-false}
use Rattle.std.specs.declared.alloc.Global.{Global}
use Rattle.charges.specs.Outcomes.{Outcome}
use Rattle.charges.specs.declared.table.OwnerRow.{OwnerRow}
use Rattle.book.specs.Answers.{nets_answer}
use Rattle.book.specs.Books.{areas_of, mark_of}
use Rattle.book.specs.Calls.{count_of, entries_in}
use Rattle.book.specs.Meaning.{noted}
use Rattle.book.specs.Postings.{nets_before, cents_of, posting_in, lines_from}
use Rattle.book.specs.States.{is_current}
use Rattle.book.specs.Workings.{Refusal, plain, Working, less, worked_out}
use Rattle.book.specs.declared.book.Book.{Book}
use Rattle.book.specs.declared.entry.Entry.{Entry}

-- the first n of the entries that count
pub first_counted : (items : List Entry) (n counted k : ℕ) → k ≡ min n counted → map noted (take k items) ≡ take n (map noted (take counted items))
first_counted items n counted k e = by (cases_lt counted n)
  where
    by : (counted < n) ⊎ (n ≤ counted) → map noted (take k items) ≡ take n (map noted (take counted items))
    by (inl h) =
        let all : k ≡ counted = omega arith in
        ap (λ m. map noted (take m items)) all ∙ ap (map noted) (sym (take_all n (take counted items) (simp length-take (omega arith)))) ∙ sym (take-map noted n (take counted items))
    by (inr h) =
        let some : k ≡ n = omega arith in
        ap (λ m. map noted (take m items)) some ∙ ap (map noted) (sym (take-take n counted items h)) ∙ sym (take-map noted n (take counted items))

module _ {C : Type 0} (meaning : ℕ → List OwnerRow → Outcome) (book : Book C) (j : Vec Entry Global) (month n free : ℕ) where
  abbrev workedAt : ℕ → Working
  workedAt k = worked_out meaning (areas_of book) month (take k (entries_in j))

  abbrev owners : ℕ
  owners = length (areas_of book)

  abbrev journal : ℕ
  journal = count_of j

  abbrev current : Bool
  current = is_current (mark_of book month) month (take n (entries_in j))

  abbrev before : Result (List ℤ) Refusal
  before = nets_before workedAt owners (mark_of book month)

  abbrev answer : Result (List ℤ) Refusal
  answer = posting_in meaning book j month n free

  pub beyond : journal < n → answer ≡ Err (plain 16)
  beyond h = let e : ltb journal n ≡ true = lt-ltb journal n h in rw e refl

  module _ (low : n ≤ journal) (due : current ≡ false) (new old : List ℤ) (p : nets_answer (workedAt n) ≡ Ok new) (q : before ≡ Ok old) where
    clear : answer ≡ cents_of None (Ok new) (Ok old) (ltb free owners)
    clear = let e : ltb journal n ≡ false = le-ltb journal n low in rw (e, due, p, q) refl

    pub granted : owners ≤ free → answer ≡ Ok (less new old)
    granted h = clear ∙ ap (cents_of None (Ok new) (Ok old)) (le-ltb free owners h)

-- marks of which none or one is changed
pub mark-kept : (marks : List (Option ℕ)) (month m : ℕ) → get_or marks m None ≡ cond (eqb m month) (get_or marks month None) (get_or marks m None)
mark-kept marks month m = by (eqb m month) refl
  where
    by : (b : Bool) → eqb m month ≡ b → get_or marks m None ≡ cond b (get_or marks month None) (get_or marks m None)
    by true e = ap (λ k. get_or marks k None) (eqb-true m month e)
    by false e = refl

-- nothing billed before
pub zeros-are : {X : Type 0} (xs : List X) → map (λ _. pos 0) xs ≡ replicate (length xs) (pos 0)
zeros-are [] = refl
zeros-are (x ∷ xs) = ap (λ rest. pos 0 ∷ rest) (zeros-are xs)

pub get_or-zeros : (n k : ℕ) → get_or (replicate n (pos 0)) k (pos 0) ≡ pos 0
get_or-zeros zero k = refl
get_or-zeros (suc n) zero = refl
get_or-zeros (suc n) (suc k) = get_or-zeros n k

pub mark_set : (marks : List (Option ℕ)) (month n m : ℕ) → month < length marks → get_or (set marks month (Some n)) m None ≡ cond (eqb m month) (Some n) (get_or marks m None)
mark_set marks month n m h = by (eqb m month) refl
  where
    by : (b : Bool) → eqb m month ≡ b → get_or (set marks month (Some n)) m None ≡ cond b (Some n) (get_or marks m None)
    by true e = ap (λ k. get_or (set marks month (Some n)) k None) (eqb-true m month e) ∙ get_or-set_same marks month (Some n) None h
    by false e = get_or-set_other marks month m (Some n) None (eqb-false m month e)

pub lines_long : (month mark k : ℕ) (cents : List ℤ) → length (lines_from month mark k cents) ≡ length cents
lines_long month mark k [] = refl
lines_long month mark k (z ∷ zs) = ap suc (lines_long month mark (suc k) zs)
