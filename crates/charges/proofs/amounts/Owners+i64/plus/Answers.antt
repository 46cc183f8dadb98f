use Rattle.std.proofs.Common.{rules, refl, pos, ◌≤◌, nat_abs, ◌+ℤ◌, ◌∙◌}
use Rattle.charges.proofs.Given.{added-along, given_of_pairs, of_pairs}
use Rattle.charges.proofs.amounts.Owners+i64.plus.Goals as goal

pub zip_map-requires : goal.zip_map-requires
zip_map-requires c = (search rules, (search rules, (search rules, of_pairs (λ p. (nat_abs p.0 ≤ 1000000000000000) × (nat_abs p.1 ≤ 1000000000000000)) _ _ _ refl (pos 0) (pos 0) (λ k l m. (c.requires.bound k, c.requires.more_bound k)))))

pub returns : goal.returns
returns c = given_of_pairs _ _ ◌+ℤ◌ (λ x r h. let met = h.says.met in search rules) _ _ _ refl _ c.zip_map.ensures.each ∙ added-along _ _
