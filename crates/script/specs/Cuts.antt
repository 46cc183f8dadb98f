-- What is left of a text that is cut into lines, and of a line that is cut into words.
use Rattle.std.specs.Prelude.{ℕ, List}
use Rattle.script.specs.Texts.{lines_of, words_of}
use Rattle.script.specs.declared.words.Lines.{Lines}
use Rattle.script.specs.declared.words.Words.{Words}

abbrev pub words_left : Words → List (List ℕ)
words_left w = words_of w.line.now

abbrev pub lines_left : Lines → List (List ℕ)
lines_left l = lines_of l.text.now
