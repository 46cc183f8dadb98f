use Rattle.std.proofs.Common.{rules, ◌≡◌, ◌+◌, ◌<◌, ◌≤◌, [], ◌∷◌, ◌++◌, map, length, get_or, take, to_z, refl, sym, ap, ◌∙◌, arith}
use Rattle.std.proofs.lemmas.List.{take_more, take_all}
use Rattle.std.specs.Int.{w128}
use Rattle.division.specs.Shares.{int_sum}
use Rattle.charges.specs.Owners.{items_of}
use Rattle.charges.proofs.Sizes.{owners-long}
use Rattle.charges.proofs.Sums.{sum-last, one-more, one-more-small}
use Rattle.charges.proofs.owners.Owners.sum_of.Goals as goal

pub loop-item-preserved : goal.loop-item-preserved
loop-item-preserved g c =
    let xs = items_of c.args.self.now in
    let i = c.loop-item.item-index in
    let x = c.item-item.result in
    let s = to_z w128 c.loop-item.sum-bits in
    let within : i < length xs = search rules in
    let few : i < 16 = omega (arith, within, owners-long c.args.self.now, c.args.self.now.few) in
    let at_item : x ≡ get_or xs i x = search rules in
    let taken : take (i + 1) xs ≡ take i xs ++ x ∷ [] = take_more xs i x within ∙ ap (λ y. take i xs ++ y ∷ []) (sym at_item) in
    record {
      sum = λ f each.
          let more = one-more s c.from-sum.result c.rule.result i (record { sfits = c.from-sum.type_inv }) (record { sfits = c.rule.type_inv }) c.from-sum.ensures c.loop-item.invariant.size few in
          let here = each x c.rule.result (record { shown = _; shows = refl; says = record { met = c.rule.ensures } }) in
          let before = c.loop-item.invariant.sum f each in
          let all = ap (λ l. int_sum (map f l)) taken ∙ sum-last f (take i xs) x in
          cc;
      size = one-more-small s c.from-sum.result c.rule.result i (record { sfits = c.from-sum.type_inv }) (record { sfits = c.rule.type_inv }) c.from-sum.ensures c.loop-item.invariant.size few;
    }

pub returns : goal.returns
returns g c =
    let xs = items_of c.args.self.now in
    let is : c.all-item-items.result.now ≡ xs = search rules in
    let ended : length xs ≤ c.loop-item.item-index = omega (arith, c.loop-item-test.false, ap length is) in
    λ f each. c.loop-item.invariant.sum f each ∙ ap (λ l. int_sum (map f l)) (take_all c.loop-item.item-index xs ended)
