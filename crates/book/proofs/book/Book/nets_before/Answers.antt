use Rattle.std.proofs.Common.{rules, ◌≡◌, length, pos, None, Ok, sym, ap, ◌∙◌, arith}
use Rattle.std.proofs.lemmas.List.{length-replicate}
use Rattle.book.specs.Books.{areas_of, mark_of}
use Rattle.book.specs.Postings.{nets_before}
use Rattle.book.proofs.Postable.{get_or-zeros, zeros-are}
use Rattle.book.proofs.book.Book.nets_before.Goals as goal

pub invariant_of-result : goal.invariant_of-result
invariant_of-result g c =
    let areas = areas_of c.args.self.now in
    let zeros = c.zeros-amounts.ensures ∙ zeros-are areas in
    record { small = λ k. rw (zeros, get_or-zeros (length areas) k) (omega arith) }

pub returns-in_default : goal.returns-in_default
returns-in_default g c =
    let b = c.args.self.now in
    let zeros = c.zeros-amounts.ensures ∙ zeros-are (areas_of b) in
    let none : mark_of b c.args.month ≡ None = search rules in
    record {
      value = ap Ok zeros ∙ ap (nets_before _ (length (areas_of b))) (sym none);
      many = ap length zeros ∙ length-replicate (length (areas_of b)) (pos 0);
    }
