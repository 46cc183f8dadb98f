-- Entries within their limits, in a journal that may be full.
use Rattle.std.proofs.Common.{◌≡◌, List, ◌++◌, Some, None, Ok, Err, Option, Result, refl, sym, ap, ◌∙◌}
use Rattle.charges.specs.Answered.{first_fault-pass, first_fault-stop}
use Rattle.charges.specs.Checks.{Check, first_fault}
use Rattle.book.specs.Answers.{fault_of}
use Rattle.book.specs.Checks.{answered, verdict}
use Rattle.book.specs.Workings.{Refusal}

fault_of-answered : {X : Type 0} (x : X) (o : Option Refusal) → fault_of (answered x o) ≡ o
fault_of-answered x None = refl
fault_of-answered x (Some f) = refl

abbrev value_or : {X : Type 0} → X → Result X Refusal → X
value_or z (Ok x) = x
value_or z (Err f) = z

value_or-answered : {X : Type 0} (z : X) (o : Option Refusal) → value_or z (answered z o) ≡ z
value_or-answered z None = refl
value_or-answered z (Some f) = refl

-- what fails no limit goes by the checks that follow, and what fails one is refused by it
module _ {X Y : Type 0} (y : Y) (limits rest : List (Check Refusal)) (z : X) where
  pub within-limits : (x : X) → ◌≡◌ {A = Result X Refusal} (Ok x) (verdict z limits) → verdict y rest ≡ verdict y (limits ++ rest)
  within-limits x e = ap (answered y) (sym (first_fault-pass limits rest (sym (ap fault_of e ∙ fault_of-answered z (first_fault limits)))))

  pub same : (x : X) → ◌≡◌ {A = Result X Refusal} (Ok x) (verdict z limits) → x ≡ z
  same x e = ap (value_or z) e ∙ value_or-answered z (first_fault limits)

  pub outside-limits : (f : Refusal) → ◌≡◌ {A = Result X Refusal} (Err f) (verdict z limits) → ◌≡◌ {A = Result Y Refusal} (Err f) (verdict y (limits ++ rest))
  outside-limits f e = ap (answered y) (sym (first_fault-stop limits rest f (sym (ap fault_of e ∙ fault_of-answered z (first_fault limits)))))
