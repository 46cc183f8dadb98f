-- The steps of a loop that looks for an element with a property.
use Rattle.std.specs.Prelude.{◌≡◌, ℕ, zero, suc, ◌+◌, ◌<◌, ◌≤◌, Bool, true, false, cond, ◌||◌, List, [], ◌∷◌, length, drop, Some, None, Option, slice_index_or, refl}
use Rattle.std.proofs.Common.{sym, ap, subst, ◌∙◌, add-zero, zero-add, add-one, arith}
use Rattle.std.specs.List.{AllByRecursion}
use Rattle.std.proofs.lemmas.List.{at_drop_more, at_drop_all}
use Rattle.std.proofs.lemmas.Bool.{or_parts, cond-true, cond-false}
use Rattle.charges.specs.Checks.{Check, first_fault, any_by, each_from}

module _ {X : Type 0} (has : X → Bool) (xs : List X) (i : ℕ) (d : X) where
  next : i < length xs → any_by has (drop i xs) ≡ (has (slice_index_or xs i d) || any_by has (drop (i + 1) xs))
  next h = at_drop_more (any_by has) xs i d h

  pub any_found : i < length xs → has (slice_index_or xs i d) ≡ true → any_by has (drop i xs) ≡ any_by has xs → true ≡ any_by has xs
  any_found h e inv = sym (ap (λ b. b || any_by has (drop (i + 1) xs)) e) ∙ sym (next h) ∙ inv

  pub any-passed : i < length xs → has (slice_index_or xs i d) ≡ false → any_by has (drop i xs) ≡ any_by has xs → any_by has (drop (i + 1) xs) ≡ any_by has xs
  any-passed h e inv = sym (next h ∙ ap (λ b. b || any_by has (drop (i + 1) xs)) e) ∙ inv

pub any_none : {X : Type 0} (has : X → Bool) (xs : List X) (i : ℕ) → length xs ≤ i → any_by has (drop i xs) ≡ any_by has xs → false ≡ any_by has xs
any_none has xs i h inv = sym (at_drop_all (any_by has) xs i h) ∙ inv

-- where none has the property, each lacks it
pub each-lacks : {X : Type 0} (has : X → Bool) (xs : List X) → any_by has xs ≡ false → AllByRecursion (λ x. has x ≡ false) xs
each-lacks has [] e = tt
each-lacks has (x ∷ xs) e = let p = or_parts (has x) (any_by has xs) e in (p.0, each-lacks has xs p.1)

head-passes : {F : Type 0} (b : Bool) (f : F) (o : Option F) → cond b (Some f) o ≡ None → (b ≡ false) × (o ≡ None)
head-passes true f o e = let z : ◌≡◌ {A = ℕ} 0 1 = cc in absurd (omega arith)
head-passes false f o e = (refl, e)

-- the steps of a loop that looks for the first check that fails
module _ {X F : Type 0} (check : ℕ → X → Check F) (xs : List X) (i : ℕ) (d : X) (so_far : first_fault (each_from check i (drop i xs)) ≡ first_fault (each_from check 0 xs)) where
  next-check : i < length xs → first_fault (each_from check i (drop i xs)) ≡ cond (check i (slice_index_or xs i d)).fails (Some (check i (slice_index_or xs i d)).fault) (first_fault (each_from check (i + 1) (drop (i + 1) xs)))
  next-check h = at_drop_more (λ ys. first_fault (each_from check i ys)) xs i d h ∙ rw (add-one i)

  pub fault-found : i < length xs → (check i (slice_index_or xs i d)).fails ≡ true → Some (check i (slice_index_or xs i d)).fault ≡ first_fault (each_from check 0 xs)
  fault-found h e = sym (cond-true _ _ _ e) ∙ sym (next-check h) ∙ so_far

  pub fault-passed : i < length xs → (check i (slice_index_or xs i d)).fails ≡ false → first_fault (each_from check (i + 1) (drop (i + 1) xs)) ≡ first_fault (each_from check 0 xs)
  fault-passed h e = sym (cond-false _ _ _ e) ∙ sym (next-check h) ∙ so_far

  pub fault-none : length xs ≤ i → None ≡ first_fault (each_from check 0 xs)
  fault-none h = sym (at_drop_all (λ ys. first_fault (each_from check i ys)) xs i h) ∙ so_far

-- where no check fails, each passes
each-passes : {X F : Type 0} (check : ℕ → X → Check F) (k : ℕ) (xs : List X) → first_fault (each_from check k xs) ≡ None → (i : ℕ) (d : X) → i < length xs → (check (k + i) (slice_index_or xs i d)).fails ≡ false
each-passes check k [] e i d h = absurd (omega arith)
each-passes check k (x ∷ xs) e zero d h = rw add-zero (head-passes (check k x).fails (check k x).fault (first_fault (each_from check (suc k) xs)) e).0
each-passes check k (x ∷ xs) e (suc i) d h =
    let same : suc k + i ≡ k + suc i = omega arith in
    subst (λ n. (check n (slice_index_or xs i d)).fails ≡ false) same (each-passes check (suc k) xs (head-passes (check k x).fails (check k x).fault (first_fault (each_from check (suc k) xs)) e).1 i d (omega arith))

pub all_pass : {X F : Type 0} (check : ℕ → X → Check F) (xs : List X) → first_fault (each_from check 0 xs) ≡ None → (i : ℕ) (d : X) → i < length xs → (check i (slice_index_or xs i d)).fails ≡ false
all_pass check xs e i d h = subst (λ n. (check n (slice_index_or xs i d)).fails ≡ false) (zero-add i) (each-passes check 0 xs e i d h)
