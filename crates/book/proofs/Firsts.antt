-- Whether an element has a property, and which is the first, as the library says it and as the checks do.
use Rattle.std.proofs.Common.{◌≡◌, ℕ, zero, suc, ◌<◌, ◌≤◌, Bool, true, false, ◌||◌, List, [], ◌∷◌, map, length, get_or, drop, Some, None, Option, MatchOption, refl, sym, ap, ◌∙◌, add-one, arith}
use Rattle.std.specs.List.{list_any, AllWithin, HoldsAt}
use Rattle.std.specs.Option.{option_map}
use Rattle.charges.specs.Checks.{Check, first_fault, any_by, each_from}
use Rattle.charges.specs.Scans.{fault-found, fault-passed, fault-none}

-- whether an element has a property, told by what the elements mean
pub any_is-map : {A X : Type 0} (has : X → Bool) (meaning : A → X) (xs : List A) → list_any (λ a. has (meaning a)) xs ≡ any_by has (map meaning xs)
any_is-map has meaning [] = refl
any_is-map has meaning (a ∷ xs) = ap (λ b. has (meaning a) || b) (any_is-map has meaning xs)

-- the steps through checks of which none so far fails
module _ {X F : Type 0} (check : ℕ → X → Check F) (xs : List X) (d : X) where
  passed : (i : ℕ) → i ≤ length xs → ((k : ℕ) → k < i → (check k (get_or xs k d)).fails ≡ false) → first_fault (each_from check i (drop i xs)) ≡ first_fault (each_from check 0 xs)
  passed zero h all = refl
  passed (suc i) h all = let e = add-one i in rw e at (fault-passed check xs i d (passed i (omega arith) (λ k l. all k (omega arith))) (omega arith) (all i (omega arith)))

  -- the first element with a property, by its place, stands for the first check that fails
  module _ {Y : Type 0} (ys : List Y) (e : Y) (many : length xs ≡ length ys) (Yes No : Y → Type 0) (fault : ℕ → F) (faults : (k : ℕ) (x : X) → (check k x).fault ≡ fault k)
      (yes : (k : ℕ) → k < length ys → Yes (get_or ys k e) → (check k (get_or xs k d)).fails ≡ true) (no : (k : ℕ) → k < length ys → No (get_or ys k e) → (check k (get_or xs k d)).fails ≡ false) where
    pub first-fault-is : (r : Option ℕ) → MatchOption r (AllWithin No ys 0 (length ys)) (λ i. (i < length ys) × HoldsAt Yes ys i × AllWithin No ys 0 i) → option_map fault r ≡ first_fault (each_from check 0 xs)
    first-fault-is None all = fault-none check xs (length xs) d (passed (length xs) (omega arith) (λ k h. no k (omega arith) (all k e (omega arith) (omega arith)))) (omega arith)
    first-fault-is (Some i) h =
        ap Some (sym (faults i (get_or xs i d)))
        ∙ fault-found check xs i d (passed i (omega (arith, h.0)) (λ k l. no k (omega (arith, h.0)) (h.2 k e (omega arith) l))) (omega (arith, h.0)) (yes i h.0 (h.1 e))
