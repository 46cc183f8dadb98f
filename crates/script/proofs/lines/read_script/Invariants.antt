use Rattle.std.proofs.Common.{◌≡◌, ◌+◌, length}
use Rattle.script.specs.Cuts.{lines_left}
use Rattle.script.specs.Drafts.{draft_of}
use Rattle.script.specs.Scripts.{script_in, lines_taken}
use Rattle.script.specs.Texts.{lines_of}
use Rattle.script.proofs.lines.read_script.Given as goal

-- what the script says is what is read so far, and the lines that are left
abbrev pub invariant-loop-line : goal.invariant-loop-line
invariant-loop-line l =
    let left = lines_left l.line-iterator in
    (script_in l.text ≡ lines_taken l.number (draft_of l.draft) left) × (l.number + length left ≡ length (lines_of l.text) + 1)
