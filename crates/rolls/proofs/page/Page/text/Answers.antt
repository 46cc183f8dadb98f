use Rattle.std.proofs.Common.{◌+◌, ◌-◌, ◌++◌, length, take, refl, ap, ◌∙◌, arith, rules}
use Rattle.std.proofs.lemmas.Slice.{take-put_mid, drop-put_mid}
use Rattle.rolls.proofs.page.Page.text.Goals as goal

pub returns : goal.returns
returns c =
    let p = c.args.self.now in
    let text = c.args.text.now in
    let new = c.copy_from_slice.new.self in
    let k = p.end + length text - p.end in
    record {
      lent = refl;
      end = refl;
      front = take-put_mid p.end k p.bytes.now new (p.end + length text) (omega (arith, c.copy_from_slice.ensures.len)) p.within ∙ ap (λ ys. take p.end p.bytes.now ++ ys) c.copy_from_slice.ensures.after;
      rest = drop-put_mid p.end k p.bytes.now new (p.end + length text) (omega arith) p.within (omega (arith, c.copy_from_slice.ensures.len));
      long = search rules;
    }
