use Rattle.std.proofs.Common.{rules, refl, ◌≤◌, ◌∙◌}
use Rattle.charges.specs.Owners.{items_of}
use Rattle.charges.specs.Rows.{RowWithin, nobody}
use Rattle.charges.proofs.Given.{given_of_pairs, given_each, of_pairs}
use Rattle.book.specs.Forces.{nothing}
use Rattle.book.proofs.Tabling.{nobody-within, rows-along, standing_row}
use Rattle.book.proofs.rows.all_rows.Goals as goal

pub zip_map-requires : goal.zip_map-requires
zip_map-requires c = (search rules, (search rules, (search rules, of_pairs (λ p. p.0 ≤ 2) _ _ _ refl 0 nothing (λ k l m. c.requires.areas k))))

pub returns : goal.returns
returns c =
    let areas = items_of c.args.areas.now in
    let ss = items_of c.args.standings.now in
    let each = given_of_pairs _ _ standing_row (λ x r h. let met = h.says.met.0 in search rules) _ _ _ refl _ c.zip_map.ensures.each in
    record {
      value = λ month entries force. each ∙ rows-along month entries areas ss c.requires.many force;
      within = given_each _ _ RowWithin nobody nobody-within (λ x r h. h.says.met.1) _ _ c.zip_map.ensures.each;
    }
