use Rattle.std.proofs.Common.{◌≡◌, ℕ, ◌<◌, [], length, drop, eqb, ap, ◌∙◌, rules}
use Rattle.std.specs.List.{before_first, after_first}
use Rattle.std.proofs.lemmas.List.{take_rest}
use Rattle.script.specs.Texts.{words_of}
use Rattle.script.proofs.Cuts.{word_first, ended_some, words_behind, no_words, some_word}
use Rattle.script.proofs.words.WordsIterator.next.Goals as goal

pub returns-in_err-start-clause-steps : goal.returns-in_err-start-clause-steps
returns-in_err-start-clause-steps c =
    let none : words_of c.args.self.now.line.now ≡ [] = no_words c.args.self.now.line.now (λ k lt. search rules) in
    search rules

pub returns-clause-steps : goal.returns-clause-steps
returns-clause-steps c =
    let line = c.args.self.now.line.now in
    let start = c.in_ok-start.start in
    let word = c.split_once.result.0.now in
    let rest = c.split_once.result.1.now in
    let front : word ≡ before_first (λ (b : ℕ). eqb b 32) (drop start line) = c.split_once.ensures.front ∙ ap (before_first (λ (b : ℕ). eqb b 32)) (take_rest line start) in
    let back : rest ≡ after_first (λ (b : ℕ). eqb b 32) (drop start line) = c.split_once.ensures.back ∙ ap (after_first (λ (b : ℕ). eqb b 32)) (take_rest line start) in
    let some : 0 < length word = rw front (some_word start line (search rules) (search rules)) in
    words_behind start line (search rules) (λ k lt. search rules) ∙ (rw (front, back) (word_first [] (drop start line)) ∙ ended_some word (words_of rest) some)

pub returns-clause-goes : goal.returns-clause-goes
returns-clause-goes c = let shorter = ap length (returns-clause-steps c) in search rules
