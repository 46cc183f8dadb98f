-- What the weights and amounts of an adjustment keep to.
use Rattle.charges.specs.Amounts.{AllBelow}
use Rattle.std.proofs.Common.{◌≡◌, ℕ, ◌+◌, ◌<◌, ◌≤◌, Bool, true, false, cond, ◌⊎◌, List, [], ◌∷◌, map, length, get_or, ℤ, pos, negsuc, ◌+ℤ◌, ◌*ℤ◌, nat_abs, Some, None, Ok, Err, Result, ap, ◌∙◌, inl, inr, arith}
use Rattle.std.proofs.lemmas.List.{get_or-map, get_or_past, length-map}
use Rattle.std.proofs.lemmas.Int.{ints}
use Rattle.std.proofs.lemmas.List.Sums.{sum_by-cons}
use Rattle.std.proofs.lemmas.Bool.{cases_lt, ltb-false}
use Rattle.charges.specs.Answered.{first_fault-pass, first_fault-stop}
use Rattle.book.specs.Answers.{nets_answer}
use Rattle.book.specs.Workings.{plain, weight_check, net_checks, netted, nets_of}
use Rattle.book.specs.Workings.{Refusal as BookRefusal}
use Rattle.division.specs.Nearest.{nearest}
use Rattle.division.specs.Shares.{total, shares}
use Rattle.division.proofs.Divides.{running-divides}
use Rattle.division.proofs.Rules.{share-magnitude}
use Rattle.division.proofs.Roundings.{nearest-rounds}
use Rattle.charges.specs.Checks.{first_fault, each_from}
use Rattle.charges.specs.Rows.{nobody, Good, required_size}
use Rattle.charges.specs.declared.table.OwnerRow.{OwnerRow}
use Rattle.charges.specs.PoolsLemmas.{row_within, product-within}
use Rattle.charges.specs.Scans.{all_pass}
use Rattle.book.specs.Workings.{weight_of, not_below, utility_rate, utility_amount, rate_check}

not-below : (a b : ℤ) → not_below (a +ℤ b) ≤ nat_abs a + nat_abs b
not-below a b = by (a +ℤ b) (omega (arith, ints))
  where
    by : (z : ℤ) → nat_abs z ≤ nat_abs a + nat_abs b → not_below z ≤ nat_abs a + nat_abs b
    by (pos n) h = h
    by (negsuc n) h = omega arith

weights-within : (rows : List OwnerRow) → total (map weight_of rows) ≤ required_size rows
weights-within [] = omega arith
weights-within (r ∷ rows) =
    omega (arith, weights-within rows, not-below r.ehv r.nhv, sum_by-cons (λ x. x) (weight_of r) (map weight_of rows), sum_by-cons (λ x. nat_abs x.ehv) r rows, sum_by-cons (λ x. nat_abs x.nhv) r rows)

pub little-weight : (rows : List OwnerRow) → Good rows → total (map weight_of rows) ≤ 3000000000
little-weight rows good = omega (arith, weights-within rows, good.required)

-- a hundredth of a product, rounded
hundredth : (a : ℤ) → nat_abs a ≤ 1000000000000000 → nat_abs (nearest a 100) ≤ 10000000000000
hundredth a h = let f = nearest-rounds.greatest_not_above a 100 (omega arith) in omega (arith, ints, f.low, f.high)

amount-small : (r : OwnerRow) → nat_abs (utility_rate r) ≤ 10000000 → r.load ≤ 100000000 → nat_abs (utility_amount r) ≤ 10000000000000
amount-small r p q = hundredth (utility_rate r *ℤ pos r.load) (omega (arith, product-within (utility_rate r) r.load 10000000 100000000 p q))

pub amounts-small : (rows : List OwnerRow) → Good rows → first_fault (each_from rate_check 0 rows) ≡ None → AllBelow 10000000000000 (map utility_amount rows)
amounts-small rows good clear k = by (cases_lt k (length rows))
  where
    by : (k < length rows) ⊎ (length rows ≤ k) → nat_abs (get_or (map utility_amount rows) k (pos 0)) ≤ 10000000000000
    by (inl h) =
        let is = get_or-map utility_amount rows k nobody (pos 0) h in
        rw is (amount-small (get_or rows k nobody) (ltb-false 10000000 _ (all_pass rate_check rows clear k nobody h)) (row_within rows good k h).used.2)
    by (inr h) = let is = get_or_past (map utility_amount rows) k (pos 0) (omega (arith, length-map rows utility_amount)) in rw is (omega arith)

pub shares-small : (sum : ℤ) (weights : List ℕ) (limit : ℕ) → nat_abs sum ≤ limit → AllBelow limit (shares sum weights)
shares-small sum weights limit h k = omega (arith, share-magnitude shares running-divides sum weights k)

-- the checks of the nets, as the code goes through them
module _ (rows : List OwnerRow) (bills : List ℤ) (parts : List ℤ) where
  pub rate-stops : (f : BookRefusal) → first_fault (each_from rate_check 0 rows) ≡ Some f → ◌≡◌ {A = Result (List ℤ) BookRefusal} (Err f) (nets_answer (netted (first_fault (net_checks rows bills)) rows parts bills))
  rate-stops f e = let stop = first_fault-stop (each_from rate_check 0 rows) (weight_check rows bills ∷ []) f e in rw stop

  module _ (clear : first_fault (each_from rate_check 0 rows) ≡ None) where
    checks-are : (b : Bool) → (weight_check rows bills).fails ≡ b → first_fault (net_checks rows bills) ≡ cond b (Some (plain 15)) None
    checks-are b e = first_fault-pass (each_from rate_check 0 rows) (weight_check rows bills ∷ []) clear ∙ ap (λ t. cond t (Some (plain 15)) None) e

    pub weight-stops : (weight_check rows bills).fails ≡ true → ◌≡◌ {A = Result (List ℤ) BookRefusal} (Err (plain 15)) (nets_answer (netted (first_fault (net_checks rows bills)) rows parts bills))
    weight-stops e = let stop = checks-are true e in rw stop

    pub nothing_stops : (nets : List ℤ) → nets ≡ nets_of rows bills → (weight_check rows bills).fails ≡ false → ◌≡◌ {A = Result (List ℤ) BookRefusal} (Ok nets) (nets_answer (netted (first_fault (net_checks rows bills)) rows parts bills))
    nothing_stops nets is e = let pass = checks-are false e in rw (pass, is)

pub length-shares : (sum : ℤ) (rows : List OwnerRow) → length (shares sum (map weight_of rows)) ≡ length rows
length-shares sum rows = running-divides.as_many_shares sum (map weight_of rows) ∙ length-map rows weight_of
