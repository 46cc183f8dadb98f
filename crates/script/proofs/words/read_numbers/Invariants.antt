use Rattle.std.proofs.Common.{◌≡◌, vec_items}
use Rattle.script.specs.Cuts.{words_left}
use Rattle.script.specs.Numbers.{numbers_of, numbers_from}
use Rattle.script.proofs.words.read_numbers.Given as goal

-- the numbers so far, and the words that are left
abbrev pub invariant-loop-word : goal.invariant-loop-word
invariant-loop-word l = numbers_of (words_left l.fn.words) ≡ numbers_from (vec_items l.numbers) (words_left l.word-iterator)
