-- How a text is cut into lines, and a line into words.
use Rattle.std.proofs.Common.{◌≡◌, ℕ, ◌+◌, ◌<◌, ◌≤◌, zero, suc, eqb, false, List, [], ◌∷◌, ◌++◌, length, drop, get_or, sym, refl, ap, ◌∙◌, append-nil, length-append, arith}
use Rattle.std.proofs.lemmas.Grind.{common_steps}
use Rattle.std.proofs.lemmas.List.{drop_all}
use Rattle.std.specs.List.{before_first, after_first}
use Rattle.script.specs.Texts.{ended, words_after, words_of, lines_after, lines_of}

-- what stands before the first byte of a value, and behind it
abbrev front : ℕ → List ℕ → List ℕ
front byte bs = before_first (λ b. eqb b byte) bs

abbrev back : ℕ → List ℕ → List ℕ
back byte bs = after_first (λ b. eqb b byte) bs

-- a word ends at the first space
pub word_first : (w bs : List ℕ) → words_after w bs ≡ ended (w ++ front 32 bs) (words_of (back 32 bs))
word_first w [] = ap (λ v. ended v []) (sym (append-nil w))
word_first w (b ∷ bs) = let on = word_first (w ++ b ∷ []) bs in grind (arith, common_steps)

-- spaces in front of a word are passed over
pub words_behind : (n : ℕ) (bs : List ℕ) → n ≤ length bs → ((k : ℕ) → k < n → get_or bs k 0 ≡ 32) → words_of bs ≡ words_of (drop n bs)
words_behind zero bs few blank = refl
words_behind (suc n) [] few blank = refl
words_behind (suc n) (b ∷ bs) few blank =
    let on = words_behind n bs (omega arith) (λ k lt. blank (suc k) (omega arith)) in
    rw (blank 0 (omega arith)) on

pub no_words : (bs : List ℕ) → ((k : ℕ) → k < length bs → get_or bs k 0 ≡ 32) → words_of bs ≡ []
no_words bs blank = words_behind (length bs) bs (omega arith) blank ∙ ap words_of (drop_all (length bs) bs (omega arith))

-- at another byte one begins
pub some_word : (n : ℕ) (bs : List ℕ) → n < length bs → eqb (get_or bs n 0) 32 ≡ false → 0 < length (front 32 (drop n bs))
some_word n [] h other = absurd (omega arith)
some_word zero (b ∷ bs) h other = grind (arith, common_steps)
some_word (suc n) (b ∷ bs) h other = some_word n bs (omega arith) other

pub ended_some : (bs : List ℕ) (ps : List (List ℕ)) → 0 < length bs → ended bs ps ≡ bs ∷ ps
ended_some [] ps h = absurd (omega arith)
ended_some (b ∷ bs) ps h = refl

-- a line ends at the first line feed, or else where the text does
line_after : (l bs : List ℕ) → 0 < length l + length bs → lines_after l bs ≡ (l ++ front 10 bs) ∷ lines_of (back 10 bs)
line_after [] [] h = absurd (omega arith)
line_after (x ∷ l) [] h = ap (λ v. v ∷ []) (sym (append-nil (x ∷ l)))
line_after l (b ∷ bs) h = let on = line_after (l ++ b ∷ []) bs (omega (arith, length-append l (b ∷ []))) in grind (arith, common_steps)

pub line_first : (bs : List ℕ) → 0 < length bs → lines_of bs ≡ front 10 bs ∷ lines_of (back 10 bs)
line_first bs h = line_after [] bs (omega arith)

-- each line has a byte at least
few_lines : (l bs : List ℕ) → length (lines_after l bs) ≤ length l + length bs
few_lines [] [] = omega arith
few_lines (x ∷ l) [] = omega arith
few_lines l (b ∷ bs) =
    let new = few_lines [] bs in
    let on = few_lines (l ++ b ∷ []) bs in
    grind (arith, common_steps)

pub no_more_lines : (bs : List ℕ) → length (lines_of bs) ≤ length bs
no_more_lines bs = omega (arith, few_lines [] bs)
