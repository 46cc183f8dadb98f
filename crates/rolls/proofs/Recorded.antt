-- Archives as lists of rows, and back.
use Rattle.std.proofs.Common.{◌≡◌, ℕ, zero, suc, ◌+◌, ◌-◌, ◌*◌, ◌<◌, ◌≤◌, List, [], ◌∷◌, ◌++◌, length, take, drop, Some, Ok, Result, sym, refl, ap, ◌∙◌, subst, append_assoc, arith, rules, length-append}
use borrow.Rule.Slice.PartMut.{put_mid}
use lib.Seq.{paste}
use Rattle.std.specs.List.{AllByRecursion, slice_get}
use Rattle.std.proofs.lemmas.List.{drop-drop, drop-take, take_at, take-take, length_push}
use Rattle.std.proofs.lemmas.List.Edits.{length-paste}
use Rattle.std.proofs.lemmas.Slice.{put_mid-paste}
use Rattle.std.proofs.ByRecursion.{All-push}
use Rattle.std.specs.Option.{option_map}
use Rattle.std.specs.Result.{result_ok}
use Rattle.rolls.specs.declared.line.Line.{Line}
use Rattle.rolls.specs.declared.fault.ArchiveFault.{ArchiveFault}
use Rattle.rolls.specs.Meaning.{row, told}
use Rattle.rolls.specs.Rows.{Row, WithinRow}
use Rattle.rolls.specs.Records.{encoded, row_in}
use Rattle.rolls.specs.Archives.{archived, rows_in, row_at, AllWithin}
use Rattle.rolls.proofs.Back.{row_back}

pub length-archived : (rs : List Row) → length (archived rs) ≡ length rs * 27
length-archived [] = refl
length-archived (r ∷ rs) = omega (arith, length-append (encoded r) (archived rs), length-archived rs)

pub archived-push : (rs : List Row) (r : Row) → archived (rs ++ r ∷ []) ≡ archived rs ++ encoded r
archived-push [] r = search rules
archived-push (x ∷ rs) r = let rest = archived-push rs r in search (rules, append_assoc)

pub length-rows_in : (n : ℕ) (bs : List ℕ) → length (rows_in n bs) ≡ n
length-rows_in zero bs = refl
length-rows_in (suc n) bs = ap suc (length-rows_in n (drop 27 bs))

pub rows_in-archived : (rs : List Row) (rest : List ℕ) → AllByRecursion WithinRow rs → rows_in (length rs) (archived rs ++ rest) ≡ rs
rows_in-archived [] rest h = refl
rows_in-archived (r ∷ rs) rest h =
    ap (λ x. x ∷ rows_in (length rs) (archived rs ++ rest)) (row_back r h.0 (archived rs ++ rest)) ∙ ap (λ xs. r ∷ xs) (rows_in-archived rs rest h.1)

-- the row at one place more is the one behind the first record
row_at-more : (bs : List ℕ) (i : ℕ) → row_at bs (suc i) ≡ row_at (drop 27 bs) i
row_at-more bs i =
    let at : suc i * 27 ≡ 27 + i * 27 = omega arith in
    rw at (ap row_in (sym (drop-drop (i * 27) 27 bs)))

pub all-rows_in : (n : ℕ) (bs : List ℕ) → AllWithin n bs → AllByRecursion WithinRow (rows_in n bs)
all-rows_in zero bs h = tt
all-rows_in (suc n) bs h = (h 0 (omega arith), all-rows_in n (drop 27 bs) (λ i lt. subst WithinRow (row_at-more bs i) (h (suc i) (omega arith))))

pub rows_in-all : (n : ℕ) (bs : List ℕ) → AllByRecursion WithinRow (rows_in n bs) → AllWithin n bs
rows_in-all zero bs h i lt = absurd (omega arith)
rows_in-all (suc n) bs h zero lt = h.0
rows_in-all (suc n) bs h (suc i) lt = subst WithinRow (sym (row_at-more bs i)) (rows_in-all n (drop 27 bs) h.1 i (omega arith))

pub nth-rows_in : (n : ℕ) (bs : List ℕ) (i : ℕ) → i < n → slice_get (rows_in n bs) i ≡ Some (row_at bs i)
nth-rows_in zero bs i lt = absurd (omega arith)
nth-rows_in (suc n) bs zero lt = refl
nth-rows_in (suc n) bs (suc i) lt = nth-rows_in n (drop 27 bs) i (omega arith) ∙ ap Some (sym (row_at-more bs i))

-- each record of an archive is its row's
pub record-at : (n : ℕ) (bs : List ℕ) (i : ℕ) → i < n → take (n * 27) bs ≡ archived (rows_in n bs) → take 27 (drop (i * 27) bs) ≡ encoded (row_at bs i)
record-at zero bs i lt e = absurd (omega arith)
record-at (suc n) bs zero lt e =
    let front : take 27 (take (suc n * 27) bs) ≡ take 27 bs = take-take 27 (suc n * 27) bs (omega arith) in
    sym front ∙ ap (take 27) e ∙ take_at (encoded (row_in bs)) (archived (rows_in n (drop 27 bs))) 27 refl
record-at (suc n) bs (suc i) lt e =
    let more : suc n * 27 ≡ 27 + n * 27 = omega arith in
    let at : suc i * 27 ≡ 27 + i * 27 = omega arith in
    let behind : take (n * 27) (drop 27 bs) ≡ archived (rows_in n (drop 27 bs)) =
    sym (drop-take 27 (n * 27) bs) ∙ ap (λ k. drop 27 (take k bs)) (sym more) ∙ ap (drop 27) e in
    ap (λ k. take 27 (drop k bs)) at ∙ ap (take 27) (sym (drop-drop (i * 27) 27 bs)) ∙ record-at n (drop 27 bs) i (omega arith) behind ∙ ap encoded (sym (row_at-more bs i))

-- one record more behind the first n
module _ (n : ℕ) (xs : List ℕ) (x : Row) (lines : take (n * 27) xs ≡ archived (rows_in n xs)) (within : AllWithin n xs) (fits : WithinRow x) where
  abbrev more : List ℕ
  more = paste xs (n * 27) (encoded x) 27

  abbrev rows : List Row
  rows = rows_in n xs ++ x ∷ []

  all-rows : AllByRecursion WithinRow rows
  all-rows = All-push WithinRow (rows_in n xs) x (all-rows_in n xs within) fits

  length-rows : length rows ≡ n + 1
  length-rows = length_push (rows_in n xs) x ∙ ap (λ k. k + 1) (length-rows_in n xs)

  length-bytes : length (archived rows) ≡ (n + 1) * 27
  length-bytes = length-archived rows ∙ ap (λ k. k * 27) length-rows

  laid : more ≡ archived rows ++ drop ((n + 1) * 27) xs
  laid =
      let at : n * 27 + 27 ≡ (n + 1) * 27 = omega arith in
      ap (λ k. take (n * 27) xs ++ encoded x ++ drop k xs) at
      ∙ ap (λ bs. bs ++ encoded x ++ drop ((n + 1) * 27) xs) lines
      ∙ ap (λ bs. bs ++ drop ((n + 1) * 27) xs) (sym (archived-push (rows_in n xs) x))

  pub more_rows : rows_in (n + 1) more ≡ rows
  more_rows =
      ap (rows_in (n + 1)) laid ∙ ap (λ k. rows_in k (archived rows ++ drop ((n + 1) * 27) xs)) (sym length-rows)
      ∙ rows_in-archived rows (drop ((n + 1) * 27) xs) all-rows

  pub more-lines : take ((n + 1) * 27) more ≡ archived (rows_in (n + 1) more)
  more-lines = ap (take ((n + 1) * 27)) laid ∙ take_at (archived rows) (drop ((n + 1) * 27) xs) ((n + 1) * 27) length-bytes ∙ ap archived (sym more_rows)

  pub more_within : AllWithin (n + 1) more
  more_within = rows_in-all (n + 1) more (subst (AllByRecursion WithinRow) (sym more_rows) all-rows)

  pub more-untouched : more ≡ archived (rows_in (n + 1) more) ++ drop (length (archived (rows_in (n + 1) more))) xs
  more-untouched = laid ∙ ap (λ k. archived rows ++ drop k xs) (sym length-bytes) ∙ ap (λ rs. archived rs ++ drop (length (archived rs)) xs) (sym more_rows)

-- what an archive of n records is once x is laid behind them
pub record Laid (n : ℕ) (xs : List ℕ) (x : Row) (ys : List ℕ) : Type 0 where
  pub fits : (n + 1) * 27 ≤ length ys
  pub lines : take ((n + 1) * 27) ys ≡ archived (rows_in (n + 1) ys)
  pub within : AllWithin (n + 1) ys
  pub rows : rows_in (n + 1) ys ≡ rows_in n xs ++ x ∷ []
  pub untouched : ys ≡ archived (rows_in (n + 1) ys) ++ drop (length (archived (rows_in (n + 1) ys))) xs
  pub long : length ys ≡ length xs

-- part is what the 27 bytes behind the first n records hold
pub laid-behind : (n : ℕ) (xs : List ℕ) (x : Row) (part : List ℕ) → take (n * 27) xs ≡ archived (rows_in n xs) → AllWithin n xs → WithinRow x → (n + 1) * 27 ≤ length xs
    → part ≡ encoded x → Laid n xs x (put_mid (n * 27) (n * 27 + 27 - n * 27) xs part)
laid-behind n xs x part lines within fits room same =
    let long : length (paste xs (n * 27) (encoded x) 27) ≡ length xs = length-paste xs (n * 27) (encoded x) 27 (omega arith) (omega arith) in
    let here : Laid n xs x (paste xs (n * 27) (encoded x) 27) = record {
      fits = rw long room;
      lines = more-lines n xs x lines within fits;
      within = more_within n xs x lines within fits;
      rows = more_rows n xs x lines within fits;
      untouched = more-untouched n xs x lines within fits;
      long = long;
    } in
    subst (λ zs. Laid n xs x zs) (sym (put_mid-paste (n * 27) (n * 27 + 27 - n * 27) xs part (encoded x) 27 same (omega arith) refl)) here

-- an answer that tells a row, as an option of a line
pub told-some : (r : Result Line ArchiveFault) (x : Row) → told row r ≡ Ok x → option_map row (result_ok r) ≡ Some x
told-some r x e = grind arith
