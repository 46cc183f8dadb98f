use Rattle.std.proofs.Common.{rules, ◌≡◌, ◌<◌, zip, length, get_or, take, refl, sym, ap, subst, arith}
use Rattle.std.specs.Fn.{FnReturnsAt}
use Rattle.std.specs.List.{AllZip}
use Rattle.std.proofs.lemmas.List.{take_more, take_more_set, take_all}
use Rattle.std.proofs.lemmas.Slice.Zip.{all_zipped_more}
use Rattle.charges.specs.Owners.{items_of}
use Rattle.charges.proofs.Pairs.{cut, pairs-long, pair-within, pair-at}
use Rattle.charges.proofs.owners.Owners.zip_map.Goals as goal

pub rule-requires : goal.rule-requires
rule-requires g c =
    let a = c.args.self.now in
    let b = c.args.others.now in
    let n = c.min-count.result in
    let i = c.loop-owner.owner in
    let x = c.one-item.result in
    let y = get_or b.items i c.index-others-owner.result in
    let y-is : y ≡ get_or b.items i y = ap (get_or b.items i) c.index-others-owner.is in
    c.requires.asked i (x, y) (pair-within a b n c.min-count.ensures i x y c.loop-owner-test.true c.one-item.is y-is) _
    (sym (pair-at a b n c.min-count.ensures i x y c.loop-owner-test.true c.one-item.is y-is))

pub loop-owner-preserved : goal.loop-owner-preserved
loop-owner-preserved g c =
    let a = c.args.self.now in
    let b = c.args.others.now in
    let n = c.min-count.result in
    let i = c.loop-owner.owner in
    let x = c.one-item.result in
    let y = get_or b.items i c.index-others-owner.result in
    let y-is : y ≡ get_or b.items i y = ap (get_or b.items i) c.index-others-owner.is in
    let zs = zip (items_of a) (items_of b) in
    let within = pair-within a b n c.min-count.ensures i x y c.loop-owner-test.true c.one-item.is y-is in
    let room : i < length c.loop-owner.items = omega (arith, within, pairs-long a b n c.min-count.ensures, c.min-count.ensures, a.few, c.loop-owner.invariant.long) in
    record {
      long = search rules;
      given = rw (take_more zs i (x, y) within, pair-at a b n c.min-count.ensures i x y c.loop-owner-test.true c.one-item.is y-is, take_more_set c.loop-owner.items i c.rule.result room)
          (all_zipped_more _ _ _ _ _ c.loop-owner.invariant.given (record { shown = _; shows = refl; says = record { met = c.rule.ensures } }));
    }

pub returns : goal.returns
returns g c =
    let a = c.args.self.now in
    let b = c.args.others.now in
    let n = c.min-count.result in
    let i = c.loop-owner.owner in
    let zs = zip (items_of a) (items_of b) in
    let ended : i ≡ n = omega (arith, c.loop-owner-test.false, c.loop-owner.auto.owner-end, cut a b n c.min-count.ensures) in
    let all : take i zs ≡ zs = take_all i zs (omega (arith, pairs-long a b n c.min-count.ensures, ended)) in
    record {
      each = subst (λ l. AllZip (FnReturnsAt g.F.Fn c.args.rule) l (take n c.loop-owner.items)) all
          (subst (λ k. AllZip (FnReturnsAt g.F.Fn c.args.rule) (take i zs) (take k c.loop-owner.items)) ended c.loop-owner.invariant.given);
    }
