-- Text laid on a page, piece by piece.
use Rattle.std.proofs.Common.{◌≡◌, ℕ, zero, suc, ◌+◌, ◌<◌, ◌≤◌, List, [], ◌++◌, length, take, drop, ℤ, decimal, sym, refl, ap, ◌∙◌, append_assoc, add-one, arith, length-append}
use Rattle.std.proofs.lemmas.List.{append-nil, drop-drop}
use Rattle.std.specs.Fmt.{signed_decimal}
use Rattle.rolls.specs.Pages.{Lays}
use Rattle.rolls.specs.Summaries.{pair_text, up_to}
use Rattle.rolls.specs.declared.page.Page.{Page}

pub lays_nothing : (page : Page) → Lays page [] page
lays_nothing page = record { lent = refl; end = omega arith; front = sym (append-nil (take page.end page.bytes.now)); rest = refl; long = refl }

module _ {p q r : Page} {xs ys : List ℕ} where
  pub lays_then : Lays p xs q → Lays q ys r → Lays p (xs ++ ys) r
  lays_then u v =
      let behind : drop (q.end + length ys) q.bytes.now ≡ drop (q.end + length ys) p.bytes.now =
      sym (drop-drop (length ys) q.end q.bytes.now) ∙ ap (drop (length ys)) u.rest ∙ drop-drop (length ys) q.end p.bytes.now in
      record {
        lent = v.lent ∙ u.lent;
        end = omega (arith, u.end, v.end, length-append xs ys);
        front = v.front ∙ ap (λ zs. zs ++ ys) u.front ∙ append_assoc (take p.end p.bytes.now) xs ys;
        rest = v.rest ∙ ap (λ k. drop k q.bytes.now) v.end ∙ behind ∙ ap (λ k. drop k p.bytes.now) (sym v.end);
        long = v.long ∙ u.long;
      }

pub length-pair_text : (month owner : ℕ) (sum : ℤ) → length (pair_text month owner sum) ≡ length (decimal month) + 1 + length (decimal owner) + 1 + length (signed_decimal sum) + 1
length-pair_text month owner sum =
    simp length-append (omega arith)

-- a row of texts laid one behind the other: none, and one more
pub lays_none : (p : Page) (f : ℕ → List ℕ) → Lays p (up_to 0 f) p
unfolding up_to
lays_none p f = lays_nothing p

pub lays_more : {p q r : Page} (n : ℕ) (f : ℕ → List ℕ) → Lays p (up_to n f) q → Lays q (f n) r → Lays p (up_to (n + 1) f) r
unfolding up_to
lays_more n f u v = rw (add-one n) (lays_then u v)

pub length-up_to : (n : ℕ) (f : ℕ → List ℕ) → length (up_to (suc n) f) ≡ length (up_to n f) + length (f n)
unfolding up_to
length-up_to n f = length-append (up_to n f) (f n)

-- the first texts are no longer than all of them
pub up_to-shorter : (k n : ℕ) (f : ℕ → List ℕ) → k ≤ n → length (up_to k f) ≤ length (up_to n f)
up_to-shorter k zero f h = let e : k ≡ 0 = omega arith in rw e (omega arith)
up_to-shorter k (suc n) f h =
    let less = up_to-shorter k n f in
    let more = length-up_to n f in
    grind arith

-- room for the next text, where there is room for all
pub up_to-room : (k n : ℕ) (f : ℕ → List ℕ) → k < n → length (up_to k f) + length (f k) ≤ length (up_to n f)
up_to-room k n f h = omega (arith, up_to-shorter (suc k) n f (omega arith), length-up_to k f)

-- the same texts make the same row
pub up_to-same : (n : ℕ) (f g : ℕ → List ℕ) → ((k : ℕ) → k < n → f k ≡ g k) → up_to n f ≡ up_to n g
unfolding up_to
up_to-same zero f g h = refl
up_to-same (suc n) f g h = rw (up_to-same n f g (λ k lt. h k (omega arith)), h n (omega arith)) refl
