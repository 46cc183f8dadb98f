use Rattle.std.proofs.Common.{codes, rules, refl}
use Rattle.std.proofs.lemmas.Slice.Eq.{text_from_reads}
use Rattle.script.proofs.calls.charge_named.Goals as goal

pub returns-in-hybrid : goal.returns-in-hybrid
returns-in-hybrid c = rw (text_from_reads c.args.kind.now (codes "hybrid") (search rules) (search rules)) refl

pub returns-in-volumetric : goal.returns-in-volumetric
returns-in-volumetric c = rw (text_from_reads c.args.kind.now (codes "volumetric") (search rules) (search rules)) refl
