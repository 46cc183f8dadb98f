-- The text of a summary fits its page.
use Rattle.std.proofs.Common.{◌≡◌, ℕ, zero, suc, ◌+◌, ◌*◌, ◌^◌, ◌<◌, ◌≤◌, Bool, true, false, cond, ◌&&◌, eqb, ltb, List, [], ◌∷◌, ◌++◌, length, length-append, get_or, take, drop, ℤ, nat_abs, Some, None, codes, sym, refl, ap, ◌∙◌, arith, take-append-drop}
use lib.Signed.{mag}
use Rattle.std.specs.List.{AllByRecursion}
use Rattle.std.proofs.lemmas.Fmt.{length-decimal-le, length_signed_le}
use Rattle.std.proofs.lemmas.List.Sums.{sum_by-cons, count_by-le-length}
use Rattle.std.proofs.lemmas.Int.{ints}
use Rattle.std.proofs.lemmas.Bool.{lt-ltb}
use Rattle.std.proofs.lemmas.Bool.Decides.{nat_tests}
use Rattle.rolls.specs.Rows.{Row, WithinRow}
use Rattle.rolls.specs.Summaries.{of, sum_of, count_of, pair_text, pair_line, pair_lines, month_lines, up_to, closing, contents, page_text, summary_text}
use Rattle.rolls.specs.Meaning.{refusal}
use Rattle.rolls.specs.Pages.{Fits, Lays}
use Rattle.rolls.specs.Tallies.{Tallied, sum_at, sum_line, month_sums, all_sums}
use Rattle.rolls.specs.declared.fault.ArchiveFault.{ArchiveFault}
use Rattle.rolls.specs.declared.page.Page.{Page}
use Rattle.rolls.specs.declared.sums.Sums.{Sums}
use Rattle.rolls.proofs.Bounds.{sum_bound}
use Rattle.rolls.proofs.Writing.{length-pair_text, up_to-same, length-up_to}

-- the sum of a function below n
sum_to : ℕ → (ℕ → ℕ) → ℕ
sum_to zero f = 0
sum_to (suc n) f = sum_to n f + f n

sum_to-le : (n : ℕ) (f g : ℕ → ℕ) → ((k : ℕ) → k < n → f k ≤ g k) → sum_to n f ≤ sum_to n g
unfolding sum_to
sum_to-le zero f g h = omega arith
sum_to-le (suc n) f g h = omega (arith, sum_to-le n f g (λ k lt. h k (omega arith)), h n (omega arith))

sum_to-add : (n : ℕ) (f g : ℕ → ℕ) → sum_to n (λ k. f k + g k) ≡ sum_to n f + sum_to n g
unfolding sum_to
sum_to-add zero f g = refl
sum_to-add (suc n) f g = omega (arith, sum_to-add n f g)

sum_to-none : (n : ℕ) → sum_to n (λ _. 0) ≡ 0
unfolding sum_to
sum_to-none zero = refl
sum_to-none (suc n) = omega (arith, sum_to-none n)

-- a number is met at most once
sum_to-point : (a n : ℕ) → sum_to n (λ k. cond (eqb a k) 1 0) ≤ cond (ltb a n) 1 0
unfolding sum_to
sum_to-point a zero = omega arith
sum_to-point a (suc n) = let less = sum_to-point a n in grind (arith, nat_tests)

at_most_one : (b : Bool) → cond b 1 0 ≤ 1
at_most_one b = grind arith

-- a row is of at most one owner in its month, and of none in another
own-month : (month : ℕ) (r : Row) → sum_to 16 (λ o. cond (of month o r) 1 0) ≤ cond (eqb r.month month) 1 0
own-month month r = by (eqb r.month month)
  where
    by : (b : Bool) → sum_to 16 (λ o. cond (b && eqb r.owner o) 1 0) ≤ cond b 1 0
    by true = omega (arith, sum_to-point r.owner 16, at_most_one (ltb r.owner 16))
    by false = omega (arith, sum_to-none 16)

pairs : List Row → ℕ
pairs rows = sum_to 360 (λ m. sum_to 16 (λ o. count_of m o rows))

-- no row is counted twice
pairs-bound : (rows : List Row) → pairs rows ≤ length rows
unfolding pairs
pairs-bound [] =
    let none : sum_to 360 (λ m. sum_to 16 (λ o. count_of m o [])) ≤ sum_to 360 (λ _. 0) = sum_to-le 360 _ (λ _. 0) (λ m lt. omega (arith, sum_to-none 16)) in
    omega (arith, sum_to-none 360)
pairs-bound (r ∷ rows) =
    let month : (m : ℕ) → m < 360 → sum_to 16 (λ o. count_of m o (r ∷ rows)) ≤ cond (eqb r.month m) 1 0 + sum_to 16 (λ o. count_of m o rows) =
    λ m lt. omega (
      arith,
      own-month m r,
      sum_to-add 16 (λ o. cond (of m o r) 1 0) (λ o. count_of m o rows),
      sum_to-le 16 (λ o. count_of m o (r ∷ rows)) (λ o. cond (of m o r) 1 0 + count_of m o rows) (λ o h. omega (arith, sum_by-cons (λ x. cond (of m o x) 1 0) r rows)),
    ) in
    let all : sum_to 360 (λ m. sum_to 16 (λ o. count_of m o (r ∷ rows))) ≤ sum_to 360 (λ m. cond (eqb r.month m) 1 0 + sum_to 16 (λ o. count_of m o rows)) = sum_to-le 360 _ _ month in
    omega (arith, sum_to-add 360 (λ m. cond (eqb r.month m) 1 0) (λ m. sum_to 16 (λ o. count_of m o rows)), sum_to-point r.month 360, at_most_one (ltb r.month 360), pairs-bound rows)

mag-le : (z : ℤ) → mag z ≤ nat_abs z
mag-le z = grind (arith, ints)

-- a line's length, by the digits of its sum
length-line : (digits month owner : ℕ) (z : ℤ) → month < 360 → owner < 16 → nat_abs z + 1 < 10 ^ digits → nat_abs z < 2 ^ 63 → length (pair_text month owner z) ≤ 9 + digits
length-line digits month owner z hm ho small fits =
    omega (
      arith,
      length-pair_text month owner z,
      length-decimal-le 3 month (omega arith) (omega arith) (omega arith),
      length-decimal-le 2 owner (omega arith) (omega arith) (omega arith),
      length_signed_le digits z (omega (arith, mag-le z)) (omega (arith, mag-le z)),
    )

-- a pair's line has at most 24 bytes for each of its rows
text-length : (n month owner : ℕ) (z : ℤ) → month < 360 → owner < 16 → nat_abs z ≤ n * 800000000000000 → n ≤ 2427 → length (cond (ltb 0 n) (pair_text month owner z) []) ≤ 24 * n
text-length zero month owner z hm ho bound few = omega arith
text-length (suc zero) month owner z hm ho bound few = length-line 15 month owner z hm ho (omega arith) (omega arith)
text-length (suc (suc n)) month owner z hm ho bound few =
    let some : ltb 0 (suc (suc n)) ≡ true = lt-ltb 0 (suc (suc n)) (omega arith) in
    rw some (omega (arith, length-line 19 month owner z hm ho (omega arith) (omega arith)))

length-row : (n : ℕ) (f : ℕ → List ℕ) (g : ℕ → ℕ) → ((k : ℕ) → k < n → length (f k) ≤ 24 * g k) → length (up_to n f) ≤ 24 * sum_to n g
unfolding sum_to up_to
length-row zero f g h = omega arith
length-row (suc n) f g h = omega (arith, length-up_to n f, length-row n f g (λ k lt. h k (omega arith)), h n (omega arith))

pub length-pair_lines : (rows : List Row) → AllByRecursion WithinRow rows → length rows ≤ 2427 → length (pair_lines rows) ≤ 24 * length rows
unfolding pairs
length-pair_lines rows within few =
    let line : (m o : ℕ) → m < 360 → o < 16 → length (pair_line rows m o) ≤ 24 * count_of m o rows =
    λ m o hm ho. text-length (count_of m o rows) m o (sum_of m o rows) hm ho (sum_bound m o rows within) (omega (arith, count_by-le-length (of m o) rows)) in
    let month : (m : ℕ) → m < 360 → length (month_lines rows m) ≤ 24 * sum_to 16 (λ o. count_of m o rows) = λ m hm. length-row 16 (pair_line rows m) (λ o. count_of m o rows) (λ o ho. line m o hm ho) in
    omega (arith, length-row 360 (month_lines rows) (λ m. sum_to 16 (λ o. count_of m o rows)) month, pairs-bound rows)

-- the page's lines as the sums give them
pub all_sums-are : (s : Sums) (rows : List Row) → Tallied s rows → all_sums s ≡ pair_lines rows
all_sums-are s rows t =
    up_to-same 360 (λ m. month_sums m (get_or s.months m [])) (month_lines rows) (λ m hm. up_to-same 16 (λ o. sum_line m o (sum_at s m o)) (pair_line rows m) (λ o ho. ap (sum_line m o) (t.sums m o hm ho) ∙ line (ltb 0 (count_of m o rows)) m o (sum_of m o rows)))
  where
    line : (b : Bool) (m o : ℕ) (z : ℤ) → sum_line m o (cond b (Some z) None) ≡ cond b (pair_text m o z) []
    line true m o z = refl
    line false m o z = refl

-- text that is laid at the start of a page
pub laid-first : (p q : Page) (text : List ℕ) → p.end ≡ 0 → Lays p text q → (q.end ≡ length text) × (q.bytes.now ≡ text ++ drop q.end p.bytes.now) × (q.end ≤ length p.bytes.now)
laid-first p q text none w =
    let count : q.end ≡ length text = omega (arith, w.end) in
    let front : take q.end q.bytes.now ≡ text = w.front ∙ ap (λ n. take n p.bytes.now ++ text) none in
    let whole : q.bytes.now ≡ text ++ drop q.end p.bytes.now = sym (take-append-drop q.end q.bytes.now) ∙ ap (λ xs. xs ++ drop q.end q.bytes.now) front ∙ ap (λ xs. text ++ xs) w.rest in
    (count, whole, omega (arith, w.long, q.within))

-- behind the heading there is room for the sums of as many rows as are summed, and for the last line
module _ (p q : Page) (begins : p.end ≡ 0) (long : length p.bytes.now ≡ 65536) (heading : Lays p (codes "month owner cents\n") q) where
  module _ (s : Sums) (rows : List Row) (t : Tallied s rows) (within : AllByRecursion WithinRow rows) (few : length rows ≤ 2427) where
    pub sums-fit : Fits q (all_sums s)
    sums-fit = omega (arith, ap length (all_sums-are s rows t), length-pair_lines rows within few, heading.end, heading.long)

    pub closing-fits : (r : Page) (text : List ℕ) → Lays q (all_sums s) r → length text ≤ 29 → Fits r text
    closing-fits r text sums short = omega (arith, sums-fit, ap length (all_sums-are s rows t), length-pair_lines rows within few, heading.end, heading.long, sums.end, sums.long)

pub short-archive : (bs : List ℕ) → length bs ≤ 65529 → summary_text bs ≡ page_text (contents bs)
short-archive bs h = grind (arith, nat_tests)

pub length-closing-ended : (n : ℕ) → n < 2 ^ 64 → length (closing n None) ≤ 29
length-closing-ended n h = simp length-append (omega (arith, length-decimal-le 20 n (omega arith) (omega arith) h))

number_small : (e : ArchiveFault) → (refusal e).number < 100
number_small e = grind arith

pub length-closing-stopped : (e : ArchiveFault) → (refusal e).place < 2 ^ 64 → length (closing 0 (Some (refusal e))) ≤ 29
length-closing-stopped e h =
    let place = length-decimal-le 20 (refusal e).place (omega arith) (omega arith) h in
    let number = length-decimal-le 2 (refusal e).number (omega arith) (omega (arith, number_small e)) (omega (arith, number_small e)) in
    simp length-append (omega (arith, place, number))
