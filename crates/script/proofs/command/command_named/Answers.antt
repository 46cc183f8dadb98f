use Rattle.std.proofs.Common.{codes, rules, refl}
use Rattle.std.proofs.lemmas.Slice.Eq.{text_from_reads}
use Rattle.script.proofs.command.command_named.Goals as goal

pub returns-in-owners : goal.returns-in-owners
returns-in-owners c = rw (text_from_reads c.args.word.now (codes "owners") (search rules) (search rules)) refl

pub returns-in-charge : goal.returns-in-charge
returns-in-charge c = rw (text_from_reads c.args.word.now (codes "charge") (search rules) (search rules)) refl

pub returns-in-layer : goal.returns-in-layer
returns-in-layer c = rw (text_from_reads c.args.word.now (codes "layer") (search rules) (search rules)) refl

pub returns-in-journal : goal.returns-in-journal
returns-in-journal c = rw (text_from_reads c.args.word.now (codes "journal") (search rules) (search rules)) refl

pub returns-in-roll : goal.returns-in-roll
returns-in-roll c = rw (text_from_reads c.args.word.now (codes "roll") (search rules) (search rules)) refl

pub returns-in-file : goal.returns-in-file
returns-in-file c = rw (text_from_reads c.args.word.now (codes "file") (search rules) (search rules)) refl

pub returns-in-read : goal.returns-in-read
returns-in-read c = rw (text_from_reads c.args.word.now (codes "read") (search rules) (search rules)) refl

pub returns-in-open : goal.returns-in-open
returns-in-open c = rw (text_from_reads c.args.word.now (codes "open") (search rules) (search rules)) refl

pub returns-in-post : goal.returns-in-post
returns-in-post c = rw (text_from_reads c.args.word.now (codes "post") (search rules) (search rules)) refl

pub returns-in-withdraw : goal.returns-in-withdraw
returns-in-withdraw c = rw (text_from_reads c.args.word.now (codes "withdraw") (search rules) (search rules)) refl

pub returns-in-state : goal.returns-in-state
returns-in-state c = rw (text_from_reads c.args.word.now (codes "state") (search rules) (search rules)) refl
