use Rattle.std.proofs.Common.{◌≡◌, ◌<◌, ◌≤◌, length, get_or, set, Some, None, sym, refl, ap, ◌∙◌, pos, nat_abs, ◌-ℤ◌, arith, rules}
use Rattle.charges.proofs.Given.{given_each, given_of_pairs, of_pairs}
use Rattle.book.specs.Answers.{nets_in}
use Rattle.book.specs.Books.{areas_of}
use Rattle.book.specs.Calls.{count_of}
use Rattle.book.specs.Workings.{less}
use Rattle.book.proofs.Postable.{granted, mark_set, lines_long}
use Rattle.book.proofs.Differences.{length-less}
use Rattle.book.proofs.book.Book.settle.Goals as goal

pub zip_map-cents-requires : goal.zip_map-cents-requires
zip_map-cents-requires g c = (
  search rules,
  (
    search rules,
    (
      search rules,
      of_pairs (λ p. (nat_abs p.0 ≤ 340000000000000) × (nat_abs p.1 ≤ 340000000000000)) _ _ _ refl (pos 0) (pos 0)
          (λ k l m. (c.in_ok-nets.nets.small k, c.in_ok-before.before.small k)),
    ),
  ),
)

pub add_lines-requires : goal.add_lines-requires
add_lines-requires g c =
    let b = c.args.self.now in
    let new = c.in_ok-nets.nets in
    let old = c.in_ok-before.before in
    let same : length (nets_in new) ≡ length (nets_in old) = c.in_ok-nets.ensures.many ∙ sym c.in_ok-before.ensures.many in
    let changes = given_of_pairs _ _ ◌-ℤ◌ (λ x r h. let met = h.says.met.0 in search rules) _ _ _ refl _ c.zip_map-cents.ensures.each in
    let many = length-less (nets_in new) (nets_in old) same in
    record {
      mark = (c.in_ok-nets.ensures.some, omega (arith, c.if-count-counted.false, c.counted.ensures));
      small = given_each _ _ (λ z. nat_abs z ≤ 800000000000000) (pos 0) (omega arith) (λ x r h. h.says.met.1) _ _ c.zip_map-cents.ensures.each;
      room = rw changes (omega (arith, many, c.in_ok-nets.ensures.many, c.count.ensures, c.if-free-count.false, c.free.ensures.free));
    }

pub returns : goal.returns
returns g c =
    let b = c.args.self.now in
    let j = c.args.journal.now in
    let month = c.args.written.month in
    let n = c.args.written.count in
    let new = c.in_ok-nets.nets in
    let old = c.in_ok-before.before in
    let meaning = g.C.Charge.meaning b.charge in
    let low : n ≤ count_of j = omega (arith, c.if-count-counted.false, c.counted.ensures) in
    let due = rw (c.first_entries-entries.ensures, c.mark.ensures) at c.if-current.ensures in
    let room : length (areas_of b) ≤ g.R.Roll.spare c.args.roll.now = omega (arith, c.count.ensures, c.if-free-count.false, c.free.ensures.free) in
    let e = granted meaning b j month n (g.R.Roll.spare c.args.roll.now) low (sym due) (nets_in new) (nets_in old) (sym c.in_ok-nets.ensures.value) (sym c.in_ok-before.ensures.value) room in
    let same : length (nets_in new) ≡ length (nets_in old) = c.in_ok-nets.ensures.many ∙ sym c.in_ok-before.ensures.many in
    let changes = given_of_pairs _ _ ◌-ℤ◌ (λ x r h. let met = h.says.met.0 in search rules) _ _ _ refl _ c.zip_map-cents.ensures.each in
    let many = length-less (nets_in new) (nets_in old) same in
    let within : c.from.result < length b.marks = search rules in
    let same-month : c.from.result ≡ month = c.from.ensures in
    rw e (record {
      answer = refl;
      lines = rw changes at c.add_lines.ensures.lines;
      spare = omega (arith, c.add_lines.ensures.spare, lines_long month n 0 (less (nets_in new) (nets_in old)), many, ap length changes);
      book = record { areas = refl; charge = refl; marks = λ m. ap (λ k. get_or (set b.marks k (Some n)) m None) same-month ∙ mark_set b.marks month n m (omega (arith, within, same-month)) };
      balanced = c.in_ok-nets.ensures.balanced;
    })
