-- Histories with one event more, and rolls with one posting more.
use Rattle.std.proofs.Common.{◌≡◌, ℕ, zero, suc, ◌+◌, ◌*◌, ◌<◌, ◌≤◌, true, false, eqb, List, [], ◌∷◌, ◌++◌, map, length, get_or, take, drop, ℤ, pos, ◌+ℤ◌, ◌-ℤ◌, sym, refl, ap, ◌∙◌, subst, append_assoc, append-nil, arith}
use Rattle.std.proofs.lemmas.List.{take_all, drop_all, take-append-le, drop-append-le, length-drop}
use Rattle.std.proofs.lemmas.Int.{ints}
use Rattle.std.proofs.lemmas.Bool.{ne_eqb, eq-eqb, and_left, and_right}
use Rattle.division.specs.Shares.{int_sum}
use Rattle.division.proofs.Totals.{int_sum-cons}
use Rattle.rolls.specs.Rows.{Row, row_of}
use Rattle.rolls.specs.Summaries.{of, sum_of}
use Rattle.book.specs.Histories.{Request, Event, Terms, if_granted, gathered, answer_to}
use Rattle.book.specs.Laws.{Answered, OnePosting, Rolled, standing, in_order}
use Rattle.book.specs.Postings.{lines_from}
use Rattle.book.specs.Workings.{less}

pub gathered-more : {X : Type 0} (pick : Request → List X) (h : List Event) (e : Event) → gathered pick (h ++ e ∷ []) ≡ gathered pick h ++ if_granted e.answer (pick e.call)
gathered-more pick [] e = append-nil (if_granted e.answer (pick e.call))
gathered-more pick (d ∷ h) e =
    let front = if_granted d.answer (pick d.call) in
    ap (λ xs. front ++ xs) (gathered-more pick h e) ∙ sym (append_assoc front (gathered pick h) (if_granted e.answer (pick e.call)))

pub answered-more : (t : Terms) (seen es : List Event) (e : Event) → Answered t seen es → e.answer ≡ answer_to t (seen ++ es) e.call → Answered t seen (es ++ e ∷ [])
answered-more t seen [] e all is = (subst (λ h. e.answer ≡ answer_to t h e.call) (append-nil seen) is, tt)
answered-more t seen (d ∷ ds) e all is = (all.0, answered-more t (seen ++ d ∷ []) ds e all.1 (subst (λ h. e.answer ≡ answer_to t h e.call) (sym (append_assoc seen (d ∷ []) ds)) is))

-- sums over lines of two lists, and over a posting's lines
pub sum-append : (month owner : ℕ) (xs ys : List Row) → sum_of month owner (xs ++ ys) ≡ sum_of month owner xs +ℤ sum_of month owner ys
sum-append month owner [] ys = omega (arith, ints)
sum-append month owner (x ∷ xs) ys = omega (arith, ints, sum-append month owner xs ys)

pub sum-elsewhere : (m owner month mark k : ℕ) (cents : List ℤ) → (month ≡ m → ⊥) → sum_of m owner (lines_from month mark k cents) ≡ pos 0
sum-elsewhere m owner month mark k [] other = refl
sum-elsewhere m owner month mark k (z ∷ zs) other =
    let no : of m owner (row_of month k mark z) ≡ false = and_left _ _ (ne_eqb month m other) in
    rw no (omega (arith, ints, sum-elsewhere m owner month mark (suc k) zs other))

sum-before : (month owner mark k : ℕ) (cents : List ℤ) → owner < k → sum_of month owner (lines_from month mark k cents) ≡ pos 0
sum-before month owner mark k [] h = refl
sum-before month owner mark k (z ∷ zs) h =
    let no : of month owner (row_of month k mark z) ≡ false = and_right _ _ (ne_eqb k owner (λ (e : k ≡ owner). omega arith)) in
    rw no (omega (arith, ints, sum-before month owner mark (suc k) zs (omega arith)))

pub sum-here : (month owner mark k i : ℕ) (cents : List ℤ) → owner ≡ k + i → sum_of month owner (lines_from month mark k cents) ≡ get_or cents i (pos 0)
sum-here month owner mark k i [] e = refl
sum-here month owner mark k zero (z ∷ zs) e =
    let m : eqb month month ≡ true = eq-eqb month month refl in
    let o : eqb k owner ≡ true = eq-eqb k owner (omega arith) in
    rw (m, o) (omega (arith, ints, sum-before month owner mark (suc k) zs (omega arith)))
sum-here month owner mark k (suc i) (z ∷ zs) e =
    let no : of month owner (row_of month k mark z) ≡ false = and_right _ _ (ne_eqb k owner (λ (p : k ≡ owner). omega arith)) in
    rw no (omega (arith, ints, sum-here month owner mark (suc k) i zs (omega arith)))

-- a posting's lines
pub lines-in-order : (month mark k : ℕ) (cents : List ℤ) → map standing (lines_from month mark k cents) ≡ in_order month mark k (length cents)
lines-in-order month mark k [] = refl
lines-in-order month mark k (z ∷ zs) = ap (λ xs. (month, (k, mark)) ∷ xs) (lines-in-order month mark (suc k) zs)

pub lines-cents : (month mark k : ℕ) (cents : List ℤ) → map (λ r. r.cents) (lines_from month mark k cents) ≡ cents
lines-cents month mark k [] = refl
lines-cents month mark k (z ∷ zs) = ap (λ xs. z ∷ xs) (lines-cents month mark (suc k) zs)

pub sum_less : (xs ys : List ℤ) → length xs ≡ length ys → int_sum (less xs ys) ≡ int_sum xs -ℤ int_sum ys
sum_less [] [] e = refl
sum_less [] (y ∷ ys) e = absurd (omega arith)
sum_less (x ∷ xs) [] e = absurd (omega arith)
sum_less (x ∷ xs) (y ∷ ys) e = omega (arith, ints, sum_less xs ys (omega arith), int_sum-cons (x -ℤ y) (less xs ys), int_sum-cons x xs, int_sum-cons y ys)

pub rolled-more : (count : ℕ) (ps : List (ℕ × ℕ)) (rows : List Row) (month mark : ℕ) (new : List Row) → Rolled count ps rows → length rows ≡ length ps * count → OnePosting count month mark new → length new ≡ count
    → Rolled count (ps ++ (month, mark) ∷ []) (rows ++ new)
rolled-more count [] rows month mark new none long one wide =
    let whole : take count new ≡ new = take_all count new (omega arith) in
    let rest : drop count new ≡ [] = drop_all count new (omega arith) in
    rw none (subst (OnePosting count month mark) (sym whole) one, rest)
rolled-more count (p ∷ ps) rows month mark new all long one wide =
    let room : count ≤ length rows = omega arith in
    let front : take count (rows ++ new) ≡ take count rows = take-append-le count rows new room in
    let back : drop count (rows ++ new) ≡ drop count rows ++ new = drop-append-le count rows new room in
    rw (front, back) (all.0, rolled-more count ps (drop count rows) month mark new all.1 (omega (arith, length-drop count rows)) one wide)
