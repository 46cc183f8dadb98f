-- What a rule gives of the owners' items, one by one or in pairs, as one list.
use Rattle.std.proofs.Common.{◌≡◌, ℕ, zero, suc, ◌<◌, List, [], ◌∷◌, map, zip, length, get_or, ℤ, ◌+ℤ◌, refl, sym, ap, subst, ◌∙◌, ◌≤◌, Ok, Err, Result, MatchResult, IsOk, IsErrAnd, arith}
use Rattle.std.specs.Borrow.{Bor}
use Rattle.std.specs.Fn.{FnReturnsAt, Shared}
use Rattle.std.specs.List.{All, AllZip}
use Rattle.charges.specs.Burdens.{along}
use Rattle.charges.specs.Charging.{added}

-- the pairs of two lists, taken together
pub along-zip : {X Y Z : Type 0} (f : X → Y → Z) (xs : List X) (ys : List Y) → map (λ p. f p.0 p.1) (zip xs ys) ≡ along f xs ys
along-zip f [] ys = refl
along-zip f (x ∷ xs) [] = refl
along-zip f (x ∷ xs) (y ∷ ys) = ap (λ rest. f x y ∷ rest) (along-zip f xs ys)

pub added-along : (xs ys : List ℤ) → along ◌+ℤ◌ xs ys ≡ added xs ys
added-along [] ys = refl
added-along (x ∷ xs) [] = refl
added-along (x ∷ xs) (y ∷ ys) = ap (λ rest. (x +ℤ y) ∷ rest) (added-along xs ys)

-- where each call gives what a function gives, the answers are the function's
module _ {A B F : Type 0} (g : Shared F (Bor A × Unit {0}) B) (rule : F) where
  pub given_by : (f : A → B) → ((x : A) (r : B) → FnReturnsAt g rule x r → r ≡ f x) → (xs : List A) (ys : List B) → AllZip (FnReturnsAt g rule) xs ys → ys ≡ map f xs
  given_by f each [] [] h = refl
  given_by f each [] (y ∷ ys) h = absurd h
  given_by f each (x ∷ xs) [] h = absurd h
  given_by f each (x ∷ xs) (y ∷ ys) h = let here = each x y h.0 in let rest = given_by f each xs ys h.1 in cc

-- the same of a rule that takes pairs
pub given_of_pairs : {X Y B F : Type 0} (g : Shared F (Bor (X × Y) × Unit {0}) B) (rule : F) (f : X → Y → B) → ((p : X × Y) (r : B) → FnReturnsAt g rule p r → r ≡ f p.0 p.1) → (zs : List (X × Y)) (xs : List X) (ys : List Y) → zs ≡ zip xs ys → (rs : List B) → AllZip (FnReturnsAt g rule) zs rs → rs ≡ along f xs ys
given_of_pairs g rule f each zs xs ys e rs h = given_by g rule (λ p. f p.0 p.1) each zs rs h ∙ ap (map (λ p. f p.0 p.1)) e ∙ along-zip f xs ys

-- what holds of the items at each place holds of the pairs
pub all_zipped : {X Y : Type 0} (P : X × Y → Type 0) (xs : List X) (ys : List Y) (d : X) (e : Y) → ((k : ℕ) → k < length xs → k < length ys → P (get_or xs k d, get_or ys k e)) → All P (zip xs ys)
all_zipped P [] ys d e each k o h = absurd (omega arith)
all_zipped P (x ∷ xs) [] d e each k o h = absurd (omega arith)
all_zipped P (x ∷ xs) (y ∷ ys) d e each zero o h = each zero (omega arith) (omega arith)
all_zipped P (x ∷ xs) (y ∷ ys) d e each (suc k) o h = all_zipped P xs ys d e (λ j l m. each (suc j) (omega arith) (omega arith)) k o (omega arith)

-- and of each pair that a rule is handed
pub of_pairs : {X Y : Type 0} (P : X × Y → Type 0) (zs : List (X × Y)) (xs : List X) (ys : List Y) → zs ≡ zip xs ys → (d : X) (e : Y) → ((k : ℕ) → k < length xs → k < length ys → P (get_or xs k d, get_or ys k e)) → (k : ℕ) (o : X × Y) → k < length zs → (p : Bor (X × Y)) → p.now ≡ get_or zs k o → P p.now
of_pairs P zs xs ys same d e each k o h p is = subst P (sym is) (subst (All P) (sym same) (all_zipped P xs ys d e each) k o h)

-- what holds of the items at each place holds of each item that a rule is handed
pub of_each : {X : Type 0} (P : X → Type 0) (xs : List X) (d : X) → ((k : ℕ) → k < length xs → P (get_or xs k d)) → (k : ℕ) (o : X) → k < length xs → (p : Bor X) → p.now ≡ get_or xs k o → P p.now
of_each {X = X} P xs d each k o h p is = subst P (sym is) (at xs each k h)
  where
    at : (ys : List X) → ((j : ℕ) → j < length ys → P (get_or ys j d)) → (j : ℕ) → j < length ys → P (get_or ys j o)
    at [] all j l = absurd (omega arith)
    at (y ∷ ys) all zero l = all zero l
    at (y ∷ ys) all (suc j) l = at ys (λ i m. all (suc i) (omega arith)) j (omega arith)

-- a division that only too large a weight refuses, by little weight
pub granted_by : {X E : Type 0} (r : Result X E) (P : X → Type 0) (m n : ℕ) → MatchResult r P (λ _. m < n) → n ≤ m → IsOk r
granted_by (Ok x) P m n h little = refl
granted_by (Err e) P m n h little = absurd (omega arith)

-- what an answer was before its fault was mapped
module _ {X D E : Type 0} (P : D → E → Type 0) where
  pub mapped-from_ok : (r : Result X D) (q : Result X E) → MatchResult r (λ x. q ≡ Ok x) (λ e. IsErrAnd q (P e)) → (x : X) → q ≡ Ok x → r ≡ Ok x
  mapped-from_ok (Ok y) q h x e = let one = h in cc
  mapped-from_ok (Err d) (Ok y) h x e = absurd h
  mapped-from_ok (Err d) (Err f) h x e = cc

-- what holds of each answer of a rule holds at every place
pub given_each : {A B F : Type 0} (g : Shared F (Bor A × Unit {0}) B) (rule : F) (P : B → Type 0) (d : B) → P d → ((x : A) (r : B) → FnReturnsAt g rule x r → P r) → (xs : List A) (ys : List B) → AllZip (FnReturnsAt g rule) xs ys → (k : ℕ) → P (get_or ys k d)
given_each g rule P d base each [] [] h k = base
given_each g rule P d base each [] (y ∷ ys) h k = absurd h
given_each g rule P d base each (x ∷ xs) [] h k = absurd h
given_each g rule P d base each (x ∷ xs) (y ∷ ys) h zero = each x y h.0
given_each g rule P d base each (x ∷ xs) (y ∷ ys) h (suc k) = given_each g rule P d base each xs ys h.1 k
