-- The words that name commands.
use Rattle.std.specs.Prelude.{ℕ, cond, List, Some, None, codes, Option}
use Rattle.std.specs.Str.{bytes_eq}
use Rattle.script.specs.declared.command.Asked.TheVariants.{File, Read, Open, Post, Withdraw, State}
use Rattle.script.specs.declared.command.Command.TheVariants.{SetUp, Call}
use Rattle.script.specs.declared.command.Command.{Command}
use Rattle.script.specs.declared.command.Part.TheVariants.{Owners, Charge, Layer, Journal, Roll}

abbrev pub command_named : List ℕ → Option Command
command_named word =
    cond (bytes_eq word (codes "owners")) (Some (SetUp Owners))
    (cond (bytes_eq word (codes "charge")) (Some (SetUp Charge))
    (cond (bytes_eq word (codes "layer")) (Some (SetUp Layer))
    (cond (bytes_eq word (codes "journal")) (Some (SetUp Journal))
    (cond (bytes_eq word (codes "roll")) (Some (SetUp Roll))
    (cond (bytes_eq word (codes "file")) (Some (Call File))
    (cond (bytes_eq word (codes "read")) (Some (Call Read))
    (cond (bytes_eq word (codes "open")) (Some (Call Open))
    (cond (bytes_eq word (codes "post")) (Some (Call Post))
    (cond (bytes_eq word (codes "withdraw")) (Some (Call Withdraw))
    (cond (bytes_eq word (codes "state")) (Some (Call State)) None))))))))))
