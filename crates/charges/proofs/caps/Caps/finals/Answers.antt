use Rattle.std.proofs.Common.{rules, refl, arith}
use Rattle.std.proofs.lemmas.Int.{ints}
use Rattle.charges.specs.Burdens.{of_capped, of_uncapped}
use Rattle.charges.proofs.Eased.{capped-small, own_held, little-caps, again-held, finals-are}
use Rattle.charges.proofs.Given.{given_of_pairs, granted_by}
use Rattle.charges.proofs.caps.Caps.finals.Goals as goal

pub overflow_cast-capped : goal.overflow_cast-capped
overflow_cast-capped c =
    let g-is = given_of_pairs _ _ of_capped (λ x r h. let met = h.says.met in search rules) _ _ _ refl _ c.beside.ensures.each in
    let small = capped-small c.args.self.now c.args.burdens.now c.adjusted-adjusted.result c.adjusted-adjusted.ensures c.beside.result g-is in
    let total = c.total-capped.ensures in
    omega (arith, ints)

pub unwrap-shared-requires : goal.unwrap-shared-requires
unwrap-shared-requires c =
    let ws-are = given_of_pairs _ _ (λ cap _. cap) (λ x r h. let met = h.says.met in search rules) _ _ _ refl _ c.beside-2.ensures.each in
    let little = little-caps c.args.self.now c.args.burdens.now c.adjusted-adjusted.result c.adjusted-adjusted.ensures _ ws-are in
    granted_by _ _ _ _ c.shares.ensures (omega arith)

pub plus-requires : goal.plus-requires
plus-requires c =
    let s = c.args.self.now in
    let b = c.args.burdens.now in
    let g-is = given_of_pairs _ _ of_capped (λ x r h. let met = h.says.met in search rules) _ _ _ refl _ c.beside.ensures.each in
    let ws-are = given_of_pairs _ _ (λ cap _. cap) (λ x r h. let met = h.says.met in search rules) _ _ _ refl _ c.beside-2.ensures.each in
    let x-is = given_of_pairs _ _ of_uncapped (λ x r h. let met = h.says.met in search rules) _ _ _ refl _ c.beside-3.ensures.each in
    let small = capped-small s b c.adjusted-adjusted.result c.adjusted-adjusted.ensures c.beside.result g-is in
    let total = c.total-capped.ensures in
    let d-is = (rw c.unwrap-shared.ensures at c.shares.ensures).1 in
    record {
      bound = again-held s b c.adjusted-adjusted.result c.adjusted-adjusted.ensures c.beside.result c.unwrap-shared.result _ _ g-is ws-are d-is (omega (arith, ints));
      more_bound = own_held s b c.adjusted-adjusted.result c.adjusted-adjusted.ensures c.beside-3.result x-is;
    }

pub returns : goal.returns
returns c =
    let s = c.args.self.now in
    let b = c.args.burdens.now in
    let g-is = given_of_pairs _ _ of_capped (λ x r h. let met = h.says.met in search rules) _ _ _ refl _ c.beside.ensures.each in
    let ws-are = given_of_pairs _ _ (λ cap _. cap) (λ x r h. let met = h.says.met in search rules) _ _ _ refl _ c.beside-2.ensures.each in
    let x-is = given_of_pairs _ _ of_uncapped (λ x r h. let met = h.says.met in search rules) _ _ _ refl _ c.beside-3.ensures.each in
    let small = capped-small s b c.adjusted-adjusted.result c.adjusted-adjusted.ensures c.beside.result g-is in
    let total = c.total-capped.ensures in
    let d-is = (rw c.unwrap-shared.ensures at c.shares.ensures).1 in
    finals-are s b c.adjusted-adjusted.result c.adjusted-adjusted.ensures c.beside.result c.unwrap-shared.result _ _ g-is ws-are d-is (omega (arith, ints))
    c.plus.result c.beside-3.result x-is c.plus.ensures
