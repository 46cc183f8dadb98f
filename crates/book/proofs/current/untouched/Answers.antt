use Rattle.std.proofs.Common.{not, map, drop, sym, ap, ◌∙◌}
use Rattle.std.proofs.lemmas.List.{drop-map, take_rest}
use Rattle.charges.specs.Checks.{any_by}
use Rattle.book.specs.Entries.{touches}
use Rattle.book.specs.Meaning.{noted}
use Rattle.book.proofs.current.untouched.Goals as goal

pub returns-else-mark-entries : goal.returns-else-mark-entries
returns-else-mark-entries c =
    let xs = c.args.entries.now in
    let k = c.args.mark in
    let part = ap (λ ys. any_by (touches c.args.month) (map noted ys)) (take_rest xs c.from-mark.result) ∙ ap (λ n. any_by (touches c.args.month) (map noted (drop n xs))) c.from-mark.ensures ∙ ap (any_by (touches c.args.month)) (sym (drop-map noted k xs)) in
    ap not (c.touched.ensures ∙ part)
