use Rattle.std.proofs.Common.{◌≡◌, length, ◌+ℤ◌, w64, SFits, rules}
use Rattle.std.proofs.lemmas.Int.{to_z-of_z}
use Rattle.rolls.specs.Meaning.{row}
use Rattle.rolls.proofs.Adding.{tallied-more}
use Rattle.rolls.proofs.sums.Sums.add.Goals as goal

pub returns : goal.returns
returns c rows t =
    let s = c.args.self.now in
    let l = c.args.line in
    let a = c.unwrap_or-sum.result in
    let wide : length s.months ≡ 360 = search rules in
    let fit-a : SFits w64 a = search rules in
    let fit-b : SFits w64 l.cents = search rules in
    let fit : SFits w64 (a +ℤ l.cents) = search rules in
    rw (to_z-of_z w64 a fit-a, to_z-of_z w64 l.cents fit-b, to_z-of_z w64 (a +ℤ l.cents) fit, c.unwrap_or-sum.ensures, c.from-month.ensures, c.from-owner.ensures)
    (tallied-more s rows (row l) l.within wide t)
