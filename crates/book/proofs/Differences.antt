-- Lists of differences.
use Rattle.std.proofs.Common.{pos, ℕ, zero, get_or, ◌≡◌, suc, List, [], ◌∷◌, length, zip, ℤ, ◌-ℤ◌, sym, refl, ap, ◌∙◌, arith}
use Rattle.charges.specs.Burdens.{along}
use Rattle.book.specs.Workings.{less}

pub length-less : (xs ys : List ℤ) → length xs ≡ length ys → length (less xs ys) ≡ length xs
length-less [] ys e = refl
length-less (x ∷ xs) [] e = absurd (omega arith)
length-less (x ∷ xs) (y ∷ ys) e = ap suc (length-less xs ys (omega arith))

pub get_or-less : (xs ys : List ℤ) (k : ℕ) → length xs ≡ length ys → get_or (less xs ys) k (pos 0) ≡ get_or xs k (pos 0) -ℤ get_or ys k (pos 0)
get_or-less [] [] k e = refl
get_or-less [] (y ∷ ys) k e = absurd (omega arith)
get_or-less (x ∷ xs) [] k e = absurd (omega arith)
get_or-less (x ∷ xs) (y ∷ ys) zero e = refl
get_or-less (x ∷ xs) (y ∷ ys) (suc k) e = get_or-less xs ys k (omega arith)

-- the differences of two lists from a third, place by place
module _ (bills amounts shares : List ℤ) (same : length amounts ≡ length bills) (as_many : length shares ≡ length bills) where
  abbrev nets : List ℤ
  nets = less (less bills amounts) shares

  pub length-nets : length nets ≡ length bills
  length-nets = length-less (less bills amounts) shares (length-less bills amounts (sym same) ∙ sym as_many) ∙ length-less bills amounts (sym same)

-- the same, as the code takes them: the pairs of two lists beside a third
pub nets-of-pairs : (bills amounts shares : List ℤ) → along (λ p s. p.0 -ℤ p.1 -ℤ s) (zip bills amounts) shares ≡ less (less bills amounts) shares
nets-of-pairs [] amounts shares = refl
nets-of-pairs (b ∷ bills) [] shares = refl
nets-of-pairs (b ∷ bills) (a ∷ amounts) [] = refl
nets-of-pairs (b ∷ bills) (a ∷ amounts) (s ∷ shares) = ap (λ rest. (b -ℤ a -ℤ s) ∷ rest) (nets-of-pairs bills amounts shares)
