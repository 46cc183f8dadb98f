-- How long a list is that has an item for every owner, and how large amounts are.
use Rattle.std.proofs.Common.{◌≡◌, ℕ, suc, ◌+◌, ◌*◌, ◌<◌, ◌≤◌, List, [], ◌∷◌, map, length, get_or, ℤ, pos, nat_abs, refl, ap, ⊎_elim, suc-mul, arith}
use Rattle.std.proofs.lemmas.List.{length-take-le, get_or_past}
use Rattle.std.proofs.lemmas.Int.{ints}
use Rattle.std.proofs.lemmas.List.Sums.{sum-map}
use Rattle.std.proofs.ByRecursion.{sum_by_le, All-from_get_or}
use Rattle.std.proofs.lemmas.Bool.{cases_lt}
use Rattle.division.specs.Shares.{total, int_sum}
use Rattle.division.proofs.Totals.{int_sum-cons}
use Rattle.charges.specs.Amounts.{AllBelow}
use Rattle.charges.specs.Burdens.{along}
use Rattle.charges.specs.Owners.{items_of}
use Rattle.charges.specs.declared.owners.Owners.{Owners}
use Rattle.charges.specs.Along.{length-along, get_or-along}

-- as many items as owners
pub owners-long : {T : Type 0} (o : Owners T) → length (items_of o) ≡ o.count
owners-long o = length-take-le o.count o.items o.fits

-- sizes
pub below-sum : (m : ℕ) (xs : List ℤ) → AllBelow m xs → nat_abs (int_sum xs) ≤ length xs * m
below-sum m [] all = omega arith
below-sum m (x ∷ xs) all =
    let rest = below-sum m xs (λ k. all (suc k)) in
    let here = all 0 in
    let s = int_sum-cons x xs in
    let more : suc (length xs) * m ≡ length xs * m + m = omega (arith, suc-mul (length xs) m) in
    rw (s, more) (omega (arith, ints))

pub weigh-little : (m : ℕ) (xs : List ℤ) → AllBelow m xs → total (map nat_abs xs) ≤ length xs * m
weigh-little m xs all = omega (arith, sum-map nat_abs xs, sum_by_le nat_abs m xs (All-from_get_or (λ x. nat_abs x ≤ m) xs (pos 0) (λ i _. all i)))

pub below-weaker : (m n : ℕ) (xs : List ℤ) → m ≤ n → AllBelow m xs → AllBelow n xs
below-weaker m n xs h all k = omega (arith, all k)

module _ {X Y : Type 0} (f : X → Y → ℤ) (xs : List X) (ys : List Y) (same : length xs ≡ length ys) (m : ℕ) where
  pub below-along : (d : X) (e : Y) → ((k : ℕ) → k < length xs → nat_abs (f (get_or xs k d) (get_or ys k e)) ≤ m) → AllBelow m (along f xs ys)
  below-along d e each k =
      ⊎_elim
      (λ (l : k < length xs). let is = get_or-along f xs ys k d e (pos 0) same l in rw is (each k l))
      (λ (l : length xs ≤ k). past l)
      (cases_lt k (length xs))
    where
      past : length xs ≤ k → nat_abs (get_or (along f xs ys) k (pos 0)) ≤ m
      past l =
          let is : get_or (along f xs ys) k (pos 0) ≡ pos 0 = get_or_past (along f xs ys) k (pos 0) (omega (arith, length-along f xs ys same)) in
          rw is (omega arith)

-- the caps of owners, and how little they are together
pub caps-along : (caps : List ℕ) (ys : List ℤ) → length caps ≡ length ys → along (λ cap _. cap) caps ys ≡ caps
caps-along [] ys e = refl
caps-along (c ∷ caps) [] e = absurd (omega arith)
caps-along (c ∷ caps) (y ∷ ys) e = ap (λ rest. c ∷ rest) (caps-along caps ys (omega arith))

pub caps-total : (caps : List ℕ) (m : ℕ) → ((k : ℕ) → get_or caps k 0 ≤ m) → total caps ≤ length caps * m
caps-total caps m each = sum_by_le (λ n. n) m caps (All-from_get_or (λ n. n ≤ m) caps 0 (λ i _. each i))
