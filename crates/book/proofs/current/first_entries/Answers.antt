use Rattle.std.proofs.Common.{◌≡◌, ◌-◌, min, map, take, vec_items, ap, ◌∙◌, arith}
use Rattle.book.specs.Calls.{count_of}
use Rattle.book.specs.Meaning.{noted}
use Rattle.book.proofs.Postable.{first_counted}
use Rattle.book.proofs.current.first_entries.Goals as goal

pub returns : goal.returns
returns c =
    let j = c.args.journal.now in
    let few : c.from.result - 0 ≡ min c.args.count (count_of j) = omega (arith, c.from.ensures, c.min.ensures, c.counted.ensures) in
    ap (λ xs. map noted (take (c.from.result - 0) xs)) c.as_slice.ensures.value ∙ first_counted (vec_items j) c.args.count (count_of j) (c.from.result - 0) few
