use Rattle.std.proofs.Common.{map, length, drop, vec_capacity, sym, ap, subst}
use Rattle.book.specs.Histories.{Terms, entries_by, postings_by, owners}
use Rattle.book.specs.Journals.{entries_of}
use Rattle.book.specs.Laws.{Law}
use Rattle.book.specs.Meaning.{noted}
use Rattle.book.specs.Scripts.{history_of}
use Rattle.book.proofs.Replayed.{each-cancels, balanced-at}
use Rattle.book.proofs.script.replay.Goals as goal

pub returns : goal.returns
returns g c =
    let a = c.args in
    let b = c.in_ok-book.book in
    let meaning = g.C.Charge.meaning a.charge in
    let free = g.R.Roll.spare a.roll.now in
    let empty = c.clear.new.self in
    let none = ap (map noted) c.clear.ensures.items in
    let begun = c.in_ok-book.ensures.begins empty free none in
    let ran = c.perform_all.ensures.law _ begun in
    let same = c.clear.ensures.capacity in
    let t : Terms = record { areas = a.areas.now; meaning = meaning; room = vec_capacity a.journal.now; lines = free } in
    let h = history_of a.calls.now c.perform_all.new.answers in
    let entries = entries_of c.perform_all.new.journal in
    let rows = drop (length (g.R.Roll.lines a.roll.now)) (g.R.Roll.lines c.perform_all.new.roll) in
    let law : Law t h entries rows = subst (λ n. Law (record { areas = a.areas.now; meaning = meaning; room = n; lines = free }) h entries rows) same ran.accounts.law in
    record {
      answer = sym c.in_ok-book.ensures.book.0;
      refused = tt;
      kept = c.perform_all.ensures.kept;
      rest = (c.perform_all.ensures.places, c.perform_all.ensures.rest);
      journal_holds_the_entries = law.journal_holds_the_entries;
      answers_are_the_checks = law.answers_are_the_checks;
      lines_add_up_to_the_net = law.lines_add_up_to_the_net;
      each_posting_adds_one_line_an_owner = law.each_posting_adds_one_line_an_owner;
      postings_cancel = each-cancels (owners t) (postings_by h) rows law.each_posting_adds_one_line_an_owner;
      parts_cover_the_requirements = λ month mark w m is. (balanced-at t (entries_by h) rows month mark w (law.lines_add_up_to_the_net month mark m) is).parts_cover_the_requirements;
      burdens_stay_within_caps = λ month mark w m is. (balanced-at t (entries_by h) rows month mark w (law.lines_add_up_to_the_net month mark m) is).burdens_stay_within_caps;
    }
