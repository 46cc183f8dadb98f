use Rattle.std.proofs.Common.{◌≡◌, ◌<◌, true, eqb, length, sym, ap, ◌∙◌, arith}
use Rattle.book.specs.Entries.{covers, touches}
use Rattle.book.specs.Meaning.{noted, filed_of}
use Rattle.book.proofs.Force.{force-filing, force_reading, force_other}
use Rattle.book.proofs.standing.note.Goals as goal

pub returns-then-not-touches : goal.returns-then-not-touches
returns-then-not-touches c entries i = force_other c.args.standings.now c.args.month entries i (noted c.args.entry.now) (sym c.if-not-touches.ensures)

pub returns-in-Filing : goal.returns-in-Filing
returns-in-Filing c entries i =
    let f = c.in-Filing.f in
    let long : f.figures.owner < length c.args.standings.now = omega (arith, f.span.0) in
    let is = c.in-Filing.is in
    let covered : covers c.args.month (filed_of f) ≡ true = sym (c.if-not-touches.ensures ∙ ap (λ e. touches c.args.month (noted e)) is) in
    let at = c.from.ensures in
    rw (at, is) (force-filing c.args.standings.now c.args.month entries i f _ long covered)

pub returns-in-Reading : goal.returns-in-Reading
returns-in-Reading c entries i =
    let r = c.in-Reading.r in
    let long : r.figures.owner < length c.args.standings.now = omega (arith, r.within.1) in
    let is = c.in-Reading.is in
    let same : eqb r.figures.month c.args.month ≡ true = sym (c.if-not-touches.ensures ∙ ap (λ e. touches c.args.month (noted e)) is) in
    let at = c.from-in-Reading.ensures in
    rw (at, is) (force_reading c.args.standings.now c.args.month entries i r _ long same)
