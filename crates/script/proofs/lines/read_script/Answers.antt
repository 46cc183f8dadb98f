use Rattle.std.proofs.Common.{rules}
use Rattle.script.proofs.Cuts.{no_more_lines}
use Rattle.script.proofs.lines.read_script.Goals as goal

pub overflow_add-number : goal.overflow_add-number
overflow_add-number c = let few = no_more_lines c.args.text.now in search rules
