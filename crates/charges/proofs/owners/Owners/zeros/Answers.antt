use Rattle.std.proofs.Common.{pos, replicate, take, arith, ◌∙◌, sym, ap}
use Rattle.std.proofs.lemmas.List.{length-take-le}
use Rattle.charges.specs.Owners.{items_of}
use Rattle.charges.specs.Parts.{nothing-front}
use Rattle.charges.proofs.owners.Owners.zeros.Goals as goal

pub returns : goal.returns
returns g c =
    let o = c.args.self.now in
    let long = length-take-le o.count o.items o.fits in
    ap (λ n. take n (replicate 16 (pos 0))) (sym long) ∙ nothing-front (items_of o) (omega (arith, long, o.few))
