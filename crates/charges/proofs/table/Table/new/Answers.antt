use Rattle.std.proofs.Common.{◌≡◌, ◌<◌, ◌≤◌, length, sym, ap, ◌∙◌, subst, arith, rules}
use Rattle.std.proofs.lemmas.List.{length-take-le}
use Rattle.charges.specs.Owners.{items_of}
use Rattle.charges.specs.Rows.{ehv_size, nhv_size, RequiredWithin, UsedWithin}
use Rattle.charges.proofs.Limits.{row-used, row-required, kept_at}
use Rattle.charges.proofs.table.Table.new.Goals as goal

pub invariant_of-result : goal.invariant_of-result
invariant_of-result c =
    let rows = c.args.rows.now in
    let o = c.in_ok-owners.owners in
    let same : items_of o ≡ rows = search rules in
    let figures = sym c.some_figure_outside.ensures ∙ c.if-some_figure_outside.false in
    let areas = sym c.some_area_outside.ensures ∙ c.if-some_area_outside.false in
    let some : 1 ≤ length rows = search rules in
    let many = length-take-le o.count o.items o.fits in
    let as_many = ap length same in
    let s = c.sizes-ehv.ensures in
    let ehv = ap ehv_size same in
    let nhv = ap nhv_size same in
    record {
      some = omega arith;
      required_within = λ i h. let l : i < length rows = omega arith in subst RequiredWithin (kept_at rows o same i h) (row-required rows figures i l areas);
      used_within = λ i h. let l : i < length rows = omega arith in subst UsedWithin (kept_at rows o same i h) (row-used rows figures i l);
      existing = omega (arith, ehv, s.ehv);
      required = omega (arith, ehv, nhv, s.ehv, s.nhv);
    }
