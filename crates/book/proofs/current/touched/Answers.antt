use Rattle.std.proofs.Common.{◌∙◌, rules, tests}
use Rattle.std.proofs.lemmas.Iterator.{YieldsList-from_slice}
use Rattle.std.proofs.lemmas.Iterator.Search.{any_from_yields_List}
use Rattle.book.specs.Entries.{touches}
use Rattle.book.specs.Meaning.{noted}
use Rattle.book.proofs.Firsts.{any_is-map}
use Rattle.book.proofs.current.touched.Goals as goal

pub returns : goal.returns
returns c =
    let has = touches c.args.month in
    any_from_yields_List (λ e. has (noted e)) _ _ c.any.result c.any.ensures.ran (YieldsList-from_slice c.args.entries.now cc) (λ x b q k. search (rules, tests)) ∙ any_is-map has noted c.args.entries.now
