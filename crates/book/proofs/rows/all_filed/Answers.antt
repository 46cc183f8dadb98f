use Rattle.std.proofs.Common.{◌≡◌, true, false, length, is_some, sym, ap, ◌∙◌, rules}
use Rattle.std.specs.Option.{option_map}
use Rattle.std.proofs.lemmas.Iterator.{IsFirst-from_position, YieldsList-from_slice}
use Rattle.book.specs.Forces.{InForce}
use Rattle.book.specs.Meaning.{filed_of}
use Rattle.book.specs.Workings.{placed, filing_of}
use Rattle.book.proofs.Tabling.{first-lacking}
use Rattle.book.proofs.rows.all_filed.Goals as goal

pub returns-in-Some : goal.returns-in-Some
returns-in-Some c month entries areas force many =
    let ss = c.all.result.now in
    let level : length areas ≡ length ss = rw c.all.ensures many in
    let held : InForce ss month entries = rw c.all.ensures force in
    let first = IsFirst-from_position _ _ c.position.result (λ s. is_some s.filing ≡ false) (λ s. is_some s.filing ≡ true) c.position.ensures.ran (YieldsList-from_slice ss cc) (λ x q k. search rules) (λ x q k. search rules) in
    ap (option_map (placed 9)) (sym c.in-Some.is) ∙ first-lacking (λ s. s.filing) filed_of (filing_of month entries) 9 areas ss level held.filings c.position.result first

pub returns-in-None : goal.returns-in-None
returns-in-None c month entries areas force many =
    let ss = c.all.result.now in
    let level : length areas ≡ length ss = rw c.all.ensures many in
    let held : InForce ss month entries = rw c.all.ensures force in
    let first = IsFirst-from_position _ _ c.position.result (λ s. is_some s.filing ≡ false) (λ s. is_some s.filing ≡ true) c.position.ensures.ran (YieldsList-from_slice ss cc) (λ x q k. search rules) (λ x q k. search rules) in
    ap (option_map (placed 9)) (sym c.in-None.is) ∙ first-lacking (λ s. s.filing) filed_of (filing_of month entries) 9 areas ss level held.filings c.position.result first
