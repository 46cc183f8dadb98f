use Rattle.std.proofs.Common.{◌≡◌, ◌-◌, ◌<◌, min, length, take, drop, sym, ap, ◌∙◌, subst, arith}
use Rattle.std.proofs.lemmas.List.{get_or-take, length-set, length-take-le}
use Rattle.book.specs.Accounts.{Account}
use Rattle.book.specs.Scripts.{history_of}
use Rattle.book.proofs.Replayed.{history-more, history-all, rest-kept, drop-next}
use Rattle.book.proofs.book.Book.perform_all.Goals as goal

pub loop-i-preserved : goal.loop-i-preserved
loop-i-preserved g c =
    let l = c.loop-i in
    let earlier = g.R.Roll.lines c.args.roll.now in
    let before = drop (length earlier) (g.R.Roll.lines l.roll) in
    let calls = c.args.calls.now in
    let called : l.i < length calls = omega (arith, c.loop-i-test.true, c.min-count.ensures) in
    let placed : l.i < length l.answers = omega (arith, c.loop-i-test.true, c.min-count.ensures, l.invariant.1) in
    let kept = c.perform.ensures.kept earlier before l.invariant.0 in (
      kept,
      length-set l.answers l.i c.perform.result ∙ l.invariant.1,
      drop-next l.answers c.args.answers.now l.i c.perform.result l.invariant.2,
      λ t account.
          subst
          (λ h. Account (g.C.Charge.meaning c.perform.new.self.charge) t h c.perform.new.self c.perform.new.journal (drop (length earlier) (g.R.Roll.lines c.perform.new.roll)) (g.R.Roll.spare c.perform.new.roll))
          (history-more calls l.answers l.i c.call-item.result c.perform.result called placed (c.call-item.is ∙ get_or-take (c.min-count.result - 0) calls l.i c.call-item.result (omega (arith, c.loop-i-test.true, length-take-le (c.min-count.result - 0) calls (omega (arith, c.min-count.ensures))))))
          (c.perform.ensures.law t (history_of (take l.i calls) (take l.i l.answers)) earlier before _ l.invariant.0 kept (l.invariant.3 t account)),
    )

pub returns : goal.returns
returns g c =
    let l = c.loop-i in
    let calls = c.args.calls.now in
    let earlier = g.R.Roll.lines c.args.roll.now in
    let whole : l.i ≡ min (length calls) (length c.args.answers.now) = omega (arith, c.loop-i-test.false, c.min-count.ensures) in
    record {
      kept = l.invariant.0;
      places = l.invariant.1;
      rest = rest-kept (length calls) l.answers c.args.answers.now l.i l.invariant.1 whole l.invariant.2;
      law = λ t account.
          subst
          (λ h. Account (g.C.Charge.meaning l.self.charge) t h l.self l.journal (drop (length earlier) (g.R.Roll.lines l.roll)) (g.R.Roll.spare l.roll))
          (history-all calls l.answers l.i (whole ∙ ap (min (length calls)) (sym l.invariant.1)))
          (l.invariant.3 t account);
    }
