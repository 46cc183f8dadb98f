use Rattle.std.proofs.Common.{sym, refl, ap, rules}
use Rattle.book.specs.Scripts.{grant_of, request_of}
use Rattle.book.specs.declared.call.Reply.TheVariants.{Entered, Posted, Stands}
use Rattle.book.proofs.Accounting.{renamed, told-mapped, withdraws-on, behind, behind_more, same_lines}
use Rattle.book.proofs.book.Book.perform.Goals as goal

pub returns-in-File : goal.returns-in-File
returns-in-File g c =
    let a = c.args in
    record {
      kept = behind (g.R.Roll.lines a.roll.now);
      law = λ t h earlier before after is is' account.
          renamed (g.C.Charge.meaning a.self.now.charge) t h a.self.now _ (g.R.Roll.spare a.roll.now) _ _ _ _ before after (ap request_of (sym c.in-File.is)) (told-mapped grant_of Entered c.file.result c.map.result (search rules)) (same_lines (g.R.Roll.lines a.roll.now) earlier before after is is') (c.file.ensures.law t h before (g.R.Roll.spare a.roll.now) account);
    }

pub returns-in-Read : goal.returns-in-Read
returns-in-Read g c =
    let a = c.args in
    record {
      kept = behind (g.R.Roll.lines a.roll.now);
      law = λ t h earlier before after is is' account.
          renamed (g.C.Charge.meaning a.self.now.charge) t h a.self.now _ (g.R.Roll.spare a.roll.now) _ _ _ _ before after (ap request_of (sym c.in-Read.is)) (told-mapped grant_of Entered c.read.result c.map-in-Read.result (search rules)) (same_lines (g.R.Roll.lines a.roll.now) earlier before after is is') (c.read.ensures.law t h before (g.R.Roll.spare a.roll.now) account);
    }

pub returns-in-Open : goal.returns-in-Open
returns-in-Open g c =
    let a = c.args in
    record {
      kept = behind (g.R.Roll.lines a.roll.now);
      law = λ t h earlier before after is is' account.
          renamed (g.C.Charge.meaning a.self.now.charge) t h a.self.now a.journal.now (g.R.Roll.spare a.roll.now) _ _ _ _ before after (ap request_of (sym c.in-Open.is)) refl (same_lines (g.R.Roll.lines a.roll.now) earlier before after is is') (c.open_written.ensures t h before (g.R.Roll.spare a.roll.now) account);
    }

pub returns-in-Post : goal.returns-in-Post
returns-in-Post g c =
    let a = c.args in
    let p = c.post_written.ensures in
    record {
      kept = λ earlier before is. behind_more (g.R.Roll.lines a.roll.now) _ _ earlier before is p.lines;
      law = λ t h earlier before after is is' account.
          renamed _ t h _ a.journal.now _ _ _ _ _ after after (ap request_of (sym c.in-Post.is)) (told-mapped grant_of (λ _. Posted) c.post_written.result c.map-in-Post.result (search rules)) refl (p.law t h earlier before after is is' account);
    }

pub returns-in-Withdraw : goal.returns-in-Withdraw
returns-in-Withdraw g c =
    let a = c.args in
    record {
      kept = behind (g.R.Roll.lines a.roll.now);
      law = λ t h earlier before after is is' account.
          renamed (g.C.Charge.meaning a.self.now.charge) t h a.self.now a.journal.now (g.R.Roll.spare a.roll.now) _ _ _ _ before after (ap request_of (sym c.in-Withdraw.is)) refl (same_lines (g.R.Roll.lines a.roll.now) earlier before after is is')
          (withdraws-on (g.C.Charge.meaning a.self.now.charge) t h a.self.now a.journal.now before (g.R.Roll.spare a.roll.now) account c.in-Withdraw.written.month c.in-Withdraw.written.count);
    }

pub returns-in-State : goal.returns-in-State
returns-in-State g c =
    let a = c.args in
    record {
      kept = behind (g.R.Roll.lines a.roll.now);
      law = λ t h earlier before after is is' account.
          renamed (g.C.Charge.meaning a.self.now.charge) t h a.self.now a.journal.now (g.R.Roll.spare a.roll.now) _ _ _ _ before after (ap request_of (sym c.in-State.is)) (told-mapped grant_of Stands c.state.result c.map-in-State.result (search rules)) (same_lines (g.R.Roll.lines a.roll.now) earlier before after is is') (c.state.ensures.law t h before (g.R.Roll.spare a.roll.now) account);
    }
