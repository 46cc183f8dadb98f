-- The lines of a text and the words of a line.
use Rattle.std.specs.Prelude.{ℕ, cond, List, [], ◌∷◌, ◌++◌, ◌==◌}

-- a word that is not empty, in front of others
abbrev pub ended : List ℕ → List (List ℕ) → List (List ℕ)
ended [] pieces = pieces
ended (b ∷ bs) pieces = (b ∷ bs) ∷ pieces

-- words are parted by spaces; w is what stands before the bytes since the last space
abbrev pub words_after : List ℕ → List ℕ → List (List ℕ)
words_after w [] = ended w []
words_after w (b ∷ bs) = cond (b == 32) (ended w (words_after [] bs)) (words_after (w ++ b ∷ []) bs)

abbrev pub words_of : List ℕ → List (List ℕ)
words_of line = words_after [] line

-- a line ends at its line feed, which the last one may lack
abbrev pub lines_after : List ℕ → List ℕ → List (List ℕ)
lines_after l [] = ended l []
lines_after l (b ∷ bs) = cond (b == 10) (l ∷ lines_after [] bs) (lines_after (l ++ b ∷ []) bs)

abbrev pub lines_of : List ℕ → List (List ℕ)
lines_of text = lines_after [] text
