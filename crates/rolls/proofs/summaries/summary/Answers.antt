use Rattle.std.proofs.Common.{◌≡◌, ◌^◌, ◌<◌, ◌++◌, length, Some, None, codes, refl, ap, ◌∙◌, arith, rules}
use Rattle.rolls.specs.Meaning.{refusal}
use Rattle.rolls.specs.Summaries.{contents, closing, summary_text}
use Rattle.rolls.specs.Tallies.{all_sums}
use Rattle.rolls.proofs.Fitting.{all_sums-are, sums-fit, closing-fits, laid-first, short-archive, length-closing-ended, length-closing-stopped}
use Rattle.rolls.proofs.Writing.{lays_then}
use Rattle.rolls.proofs.summaries.summary.Goals as goal
use Rattle.rolls.proofs.summaries.summary.Goals.{in-Ok, in-Err}

pub sums-requires : goal.sums-requires
sums-requires c =
    let t = c.tally-read.ensures in
    sums-fit c.new-page.result _ c.new-page.ensures.begins (ap length c.new-page.ensures.bytes ∙ c.told-page) c.text-2.ensures c.tally-read.new.sums _ t.sums t.within t.few

pub ended-requires : goal.ended-requires
ended-requires c =
    let t = c.tally-read.ensures in
    let short = length-closing-ended c.in-Ok.count (omega (arith, c.in-Ok.ensures.ends.1, t.few)) in
    closing-fits c.new-page.result _ c.new-page.ensures.begins (ap length c.new-page.ensures.bytes ∙ c.told-page) c.text-2.ensures c.tally-read.new.sums _ t.sums t.within t.few _ (closing c.in-Ok.count None) c.sums.ensures short

pub stopped-requires : goal.stopped-requires
stopped-requires c =
    let t = c.tally-read.ensures in
    let fit : (refusal c.in-Err.fault).place < 2 ^ 64 = search rules in
    let short = length-closing-stopped c.in-Err.fault fit in
    closing-fits c.new-page.result _ c.new-page.ensures.begins (ap length c.new-page.ensures.bytes ∙ c.told-page) c.text-2.ensures c.tally-read.new.sums _ t.sums t.within t.few _ (closing 0 (Some (refusal c.in-Err.fault))) c.sums.ensures short

pub returns : goal.returns
returns c =
    let bs = c.args.archive.now in
    let s = c.tally-read.new.sums in
    let short = short-archive bs c.if-archive-gt-MOST_BYTES.false in
    let lines = all_sums-are s (contents bs).rows c.tally-read.ensures.sums in
    elim c.match-read.branch [
      | in-Ok w ↦
          let e = w.in-Ok.ensures.ends in
          let text : summary_text bs ≡ codes "month owner cents\n" ++ (all_sums s ++ closing w.in-Ok.count None) = short ∙ rw (lines, e.0, e.1) refl in
          let l = laid-first c.new-page.result w.ended.new.self _ c.new-page.ensures.begins (lays_then c.text-2.ensures (lays_then c.sums.ensures w.ended.ensures)) in
          rw (w.page-is, text, ← c.new-page.ensures.bytes) (record { count = l.0; text = l.1; page_suffices = omega (arith, l.2, c.told-page, ap length c.new-page.ensures.bytes) })
      | in-Err w ↦
          let e = w.in-Err.ensures.ends in
          let text : summary_text bs ≡ codes "month owner cents\n" ++ (all_sums s ++ closing 0 (Some (refusal w.in-Err.fault))) = short ∙ rw (lines, e) refl in
          let l = laid-first c.new-page.result w.stopped.new.self _ c.new-page.ensures.begins (lays_then c.text-2.ensures (lays_then c.sums.ensures w.stopped.ensures)) in
          rw (w.page-is, text, ← c.new-page.ensures.bytes) (record { count = l.0; text = l.1; page_suffices = omega (arith, l.2, c.told-page, ap length c.new-page.ensures.bytes) })
    ]
