use Rattle.std.proofs.Common.{eqb, sym, ◌∙◌, rules, tests}
use Rattle.std.proofs.lemmas.Iterator.{YieldsList-from_slice}
use Rattle.std.proofs.lemmas.Iterator.Search.{all_from_yields_List}
use Rattle.std.proofs.lemmas.List.Folds.{sum_by-zero}
use Rattle.book.proofs.netting.without_weight.Goals as goal

pub returns : goal.returns
returns c =
    let ws = c.args.weights.now in
    all_from_yields_List (λ w. eqb w 0) _ _ c.all.result c.all.ensures.ran (YieldsList-from_slice ws cc) (λ x b q k. search (rules, tests)) ∙ sym (sum_by-zero (λ w. w) ws)
