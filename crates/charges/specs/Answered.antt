-- Which of several groups of checks answers.
use Rattle.std.specs.Prelude.{◌≡◌, ℕ, Bool, true, false, cond, List, [], ◌∷◌, ◌++◌, Some, None, Ok, Err, Option, Result, MatchResult, refl}
use Rattle.std.proofs.Common.{arith}
use Rattle.charges.specs.Checks.{Check, first_fault}

pub first_fault-pass : {F : Type 0} (front rest : List (Check F)) → first_fault front ≡ None → first_fault (front ++ rest) ≡ first_fault rest
first_fault-pass [] rest e = refl
first_fault-pass {F} (c ∷ cs) rest e = pass-by c.fails c.fault (first_fault cs) (first_fault (cs ++ rest)) (first_fault rest) (first_fault-pass cs rest) e
  where
    pass-by : (b : Bool) (f : F) (o p q : Option F) → (o ≡ None → p ≡ q) → cond b (Some f) o ≡ None → cond b (Some f) p ≡ q
    pass-by true f o p q k e = let z : ◌≡◌ {A = ℕ} 0 1 = cc in absurd (omega arith)
    pass-by false f o p q k e = k e

pub first_fault-stop : {F : Type 0} (cs rest : List (Check F)) (f : F) → first_fault cs ≡ Some f → first_fault (cs ++ rest) ≡ Some f
first_fault-stop [] rest f e = let z : ◌≡◌ {A = ℕ} 0 1 = cc in absurd (omega arith)
first_fault-stop {F} (c ∷ cs) rest f e = stop-by c.fails c.fault (first_fault cs) (first_fault (cs ++ rest)) (first_fault-stop cs rest f) e
  where
    stop-by : (b : Bool) (g : F) (o p : Option F) → (o ≡ Some f → p ≡ Some f) → cond b (Some g) o ≡ Some f → cond b (Some g) p ≡ Some f
    stop-by true g o p k e = e
    stop-by false g o p k e = k e

-- where all pass together, each group passes
pub first_fault-parts : {F : Type 0} (cs rest : List (Check F)) → first_fault (cs ++ rest) ≡ None → (first_fault cs ≡ None) × (first_fault rest ≡ None)
first_fault-parts [] rest e = (refl, e)
first_fault-parts {F} (c ∷ cs) rest e = part_by c.fails c.fault (first_fault cs) (first_fault (cs ++ rest)) (first_fault rest) (first_fault-parts cs rest) e
  where
    part_by : (b : Bool) (f : F) (o p q : Option F) → (p ≡ None → (o ≡ None) × (q ≡ None)) → cond b (Some f) p ≡ None → (cond b (Some f) o ≡ None) × (q ≡ None)
    part_by true f o p q k e = let z : ◌≡◌ {A = ℕ} 0 1 = cc in absurd (omega arith)
    part_by false f o p q k e = k e

-- an answer that cannot be a refusal
pub granted : {X E : Type 0} (r : Result X E) (D : Type 0) (Q : E → Type 0) → MatchResult r (λ _. D) Q → ((e : E) → Q e → ⊥) → D
granted (Ok x) D Q h no-err = h
granted (Err e) D Q h no-err = absurd (no-err e h)
