use Rattle.std.proofs.Common.{rules, ◌≡◌, ◌<◌, get_or, length, arith, refl}
use Rattle.std.proofs.lemmas.List.{take_more, take_more_set}
use Rattle.std.proofs.lemmas.Slice.Zip.{all_zipped_more}
use Rattle.charges.specs.Owners.{items_of}
use Rattle.charges.proofs.Sizes.{owners-long}
use Rattle.charges.proofs.owners.Owners.map.Goals as goal

pub loop-owner-preserved : goal.loop-owner-preserved
loop-owner-preserved g c =
    let xs = items_of c.args.self.now in
    let i = c.loop-owner.owner in
    let within : i < length xs = search rules in
    let room : i < length c.loop-owner.items = omega (arith, within, owners-long c.args.self.now, c.args.self.now.few, c.loop-owner.invariant.long) in
    let at_item : c.item-item.result ≡ get_or xs i c.item-item.result = search rules in
    record {
      long = search rules;
      given = rw (take_more xs i c.item-item.result within, ← at_item, take_more_set c.loop-owner.items i c.rule.result room)
          (all_zipped_more _ _ _ _ _ c.loop-owner.invariant.given (record { shown = _; shows = refl; says = record { met = c.rule.ensures } }));
    }
