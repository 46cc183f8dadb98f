-- Bytes and the numbers they write: each determines the other.
use Rattle.std.proofs.Common.{◌≡◌, ℕ, zero, suc, ◌+◌, ◌*◌, ◌/◌, ◌%◌, ◌^◌, ◌<◌, ◌≤◌, List, [], ◌∷◌, ◌++◌, length, get_or, take, sym, refl, ap, ◌∙◌, mod-eq_of_lt, mul_assoc, mul_comm, pow-suc, add-one, arith, length-take}
use native.Mathlib.Nat.{one-le-pow, mul-add-div_right, mul-add-mod_self_right, pow-le-pow_right}
use lib.Arith.{digits_div, digits_lt}
use Rattle.std.proofs.ByRecursion.{All-from_get_or, All-take}
use Rattle.std.proofs.lemmas.List.{length_push, take_more}
use Rattle.std.specs.List.{AllByRecursion}
use Rattle.rolls.specs.Numerals.{bytes_of, number}

-- what stands above the last bytes does not change them
bytes_of-above : (w c n : ℕ) → bytes_of w (c * 256 ^ w + n) ≡ bytes_of w n
bytes_of-above zero c n = refl
bytes_of-above (suc w) c n =
    let up : c * 256 ^ suc w ≡ c * 256 * 256 ^ w = ap (λ x. c * x) (pow-suc 256 w ∙ mul_comm (256 ^ w) 256) ∙ sym (mul_assoc c 256 (256 ^ w)) in
    let head : (c * 256 * 256 ^ w + n) / 256 ^ w % 256 ≡ n / 256 ^ w % 256 =
    ap (λ x. x % 256) (mul-add-div_right (one-le-pow w 256 (omega arith)) (c * 256) n) ∙ mul-add-mod_self_right c 256 (n / 256 ^ w) in
    rw up (ap (λ b. b ∷ bytes_of w (c * 256 * 256 ^ w + n)) head ∙ ap (λ bs. n / 256 ^ w % 256 ∷ bs) (bytes_of-above w (c * 256) n))

pub number-below : (bs : List ℕ) → AllByRecursion (λ b. b < 256) bs → number bs < 256 ^ length bs
number-below [] h = omega arith
number-below (b ∷ bs) h = rw (pow-suc, mul_comm (256 ^ length bs) 256) (digits_lt h.0 (number-below bs h.1))

pub bytes_of-number : (bs : List ℕ) → AllByRecursion (λ b. b < 256) bs → bytes_of (length bs) (number bs) ≡ bs
bytes_of-number [] h = refl
bytes_of-number (b ∷ bs) h =
    let first : (b * 256 ^ length bs + number bs) / 256 ^ length bs % 256 ≡ b =
    ap (λ x. x % 256) (digits_div b (number-below bs h.1)) ∙ mod-eq_of_lt h.0 in
    ap (λ x. x ∷ bytes_of (length bs) (b * 256 ^ length bs + number bs)) first
    ∙ ap (λ xs. b ∷ xs) (bytes_of-above (length bs) b (number bs) ∙ bytes_of-number bs h.1)

number_push : (bs : List ℕ) (b : ℕ) → number (bs ++ b ∷ []) ≡ number bs * 256 + b
number_push [] b = omega arith
number_push (x ∷ bs) b =
    let long : length (bs ++ b ∷ []) ≡ suc (length bs) = length_push bs b ∙ add-one (length bs) in
    let up : x * 256 ^ length (bs ++ b ∷ []) ≡ x * 256 ^ length bs * 256 = ap (λ n. x * 256 ^ n) long ∙ ap (λ n. x * n) (pow-suc 256 (length bs)) ∙ sym (mul_assoc x (256 ^ length bs) 256) in
    omega (arith, up, number_push bs b)

-- one byte more of bs
pub number_more : (bs : List ℕ) (i : ℕ) → i < length bs → number (take (i + 1) bs) ≡ number (take i bs) * 256 + get_or bs i 0
number_more bs i h = ap number (take_more bs i 0 h) ∙ number_push (take i bs) (get_or bs i 0)

pub number-take-below : (bs : List ℕ) (i w : ℕ) → ((k : ℕ) → get_or bs k 0 < 256) → i ≤ w → number (take i bs) < 256 ^ w
number-take-below bs i w h le =
    let short : length (take i bs) ≤ w = simp length-take (omega arith) in
    let low = number-below (take i bs) (All-take (λ b. b < 256) i bs (All-from_get_or (λ b. b < 256) bs 0 (λ k _. h k))) in
    let high : 256 ^ length (take i bs) ≤ 256 ^ w = pow-le-pow_right (omega arith) short in
    omega arith
