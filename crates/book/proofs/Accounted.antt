-- What a history with one event more accounts for.
use Rattle.std.proofs.Common.{◌≡◌, ℕ, zero, suc, ◌+◌, ◌*◌, ◌≤◌, Bool, true, false, cond, eqb, ltb, ◌⊎◌, List, [], ◌∷◌, ◌++◌, length, get_or, take, replicate, ℤ, pos, Some, None, Ok, Err, Option, Result, sym, refl, ap, ◌∙◌, subst, inl, inr, append-nil, arith, length-append}
use lib.ListN.{length-replicate}
use Rattle.std.proofs.lemmas.List.{take-append-le}
use Rattle.std.proofs.lemmas.Int.{ints}
use Rattle.std.proofs.lemmas.Bool.{cases_eq, ne_eqb, eq-eqb, ltb-false}
use Rattle.division.specs.Shares.{int_sum}
use Rattle.division.proofs.Totals.{int_sum-cons}
use Rattle.rolls.specs.Rows.{Row}
use Rattle.rolls.specs.Summaries.{sum_of}
use Rattle.charges.specs.Checks.{first_fault}
use Rattle.book.specs.Answers.{nets_answer, granting}
use Rattle.book.specs.Entries.{Noted, latest, or_else}
use Rattle.book.specs.Histories.{Event, Terms, event_of, posts, posted, withdraws, withdrawn, if_granted, entry_of, posting_of, answer_to, entries_by, postings_by, mark_for, mark_by, owners, afresh, free_by}
use Rattle.book.specs.Laws.{Balanced, Settled, OnePosting, Rolled, Accounts, in_order}
use Rattle.book.specs.Postings.{nets_before, post_checks, cents_of, posting, lines_from}
use Rattle.book.specs.States.{is_current}
use Rattle.book.specs.Workings.{Refusal, plain, Figures, Working, denied, worked, less}
use Rattle.book.proofs.Differences.{length-less, get_or-less}
use Rattle.book.proofs.Force.{latest-push}
use Rattle.book.proofs.Growing.{gathered-more, answered-more, sum-append, sum-elsewhere, sum-here, lines-in-order, lines-cents, sum_less, rolled-more}
use Rattle.book.proofs.Postable.{lines_long, get_or-zeros}

-- a posting that was granted
record Billed (workedAt : ℕ → Working) (count journal n : ℕ) (mark : Option ℕ) (cents : List ℤ) : Type 0 where
  within : n ≤ journal
  new : List ℤ
  old : List ℤ
  new_is : nets_answer (workedAt n) ≡ Ok new
  old_is : nets_before workedAt count mark ≡ Ok old
  cents_are : cents ≡ less new old

no-check : (journal n : ℕ) (mark : Option ℕ) (month : ℕ) (entries : List Noted) → first_fault (post_checks journal n month mark entries) ≡ None → n ≤ journal
no-check journal n mark month entries = by (ltb journal n) refl
  where
    by : (b : Bool) → ltb journal n ≡ b → cond b (Some (plain 16)) (cond (is_current mark month (take n entries)) (Some (plain 17)) None) ≡ None → n ≤ journal
    by true e none = let z : ◌≡◌ {A = ℕ} 0 1 = cc in absurd (omega arith)
    by false e none = ltb-false journal n e

billed-from : (workedAt : ℕ → Working) (count journal n : ℕ) (mark : Option ℕ) (cents : List ℤ) (fault : Option Refusal) (new old : Result (List ℤ) Refusal) (short : Bool) → (fault ≡ None → n ≤ journal)
    → nets_answer (workedAt n) ≡ new → nets_before workedAt count mark ≡ old → ◌≡◌ {A = Result (List ℤ) Refusal} (cents_of fault new old short) (Ok cents) → Billed workedAt count journal n mark cents
billed-from workedAt count journal n mark cents (Some f) new old short low p q e = let z : ◌≡◌ {A = ℕ} 0 1 = cc in absurd (omega arith)
billed-from workedAt count journal n mark cents None (Err f) old short low p q e = let z : ◌≡◌ {A = ℕ} 0 1 = cc in absurd (omega arith)
billed-from workedAt count journal n mark cents None (Ok new) (Err f) short low p q e = let z : ◌≡◌ {A = ℕ} 0 1 = cc in absurd (omega arith)
billed-from workedAt count journal n mark cents None (Ok new) (Ok old) true low p q e = let z : ◌≡◌ {A = ℕ} 0 1 = cc in absurd (omega arith)
billed-from workedAt count journal n mark cents None (Ok new) (Ok old) false low p q e = let same : cents ≡ less new old = cc in record { within = low refl; new = new; old = old; new_is = p; old_is = q; cents_are = same }

-- the figures of a month whose nets are known
record Known (w : Working) (nets : List ℤ) : Type 0 where
  figures : Figures
  is : w ≡ worked figures
  nets_are : figures.nets ≡ nets

known : (w : Working) (nets : List ℤ) → ◌≡◌ {A = Result (List ℤ) Refusal} (nets_answer w) (Ok nets) → Known w nets
known (denied f) nets e = let z : ◌≡◌ {A = ℕ} 0 1 = cc in absurd (omega arith)
known (worked v) nets e = let same : v.nets ≡ nets = cc in record { figures = v; is = refl; nets_are = same }

sum_zeros : (n : ℕ) → int_sum (replicate n (pos 0)) ≡ pos 0
sum_zeros zero = refl
sum_zeros (suc n) = omega (arith, ints, int_sum-cons (pos 0) (replicate n (pos 0)), sum_zeros n)

module _ (t : Terms) (h : List Event) (marks : List (Option ℕ)) (entries : List Noted) (room : ℕ) (rows : List Row) (free : ℕ) (a : Accounts t h marks entries room rows free) where
  -- a call that posts nothing
  module _ (e : Event) (is : e.answer ≡ answer_to t h e.call) (more : List Noted) (adds : if_granted e.answer (entry_of e.call) ≡ more) (no-posting : if_granted e.answer (posting_of e.call) ≡ []) where
    abbrev after : List Event
    after = h ++ e ∷ []

    entries-after : entries_by after ≡ entries_by h ++ more
    entries-after = gathered-more entry_of h e ∙ ap (λ xs. entries_by h ++ xs) adds

    postings-after : postings_by after ≡ postings_by h
    postings-after = gathered-more posting_of h e ∙ ap (λ xs. postings_by h ++ xs) no-posting ∙ append-nil (postings_by h)

    mark-after : (month : ℕ) → mark_by month after ≡ mark_by month h
    mark-after month = ap (latest (mark_for month)) postings-after

    below-after : (month mark : ℕ) → mark_by month after ≡ Some mark → mark ≤ length (entries_by h)
    below-after month mark m = a.marks_below month mark (sym (mark-after month) ∙ m)

    settled-after : (month mark : ℕ) → mark_by month after ≡ Some mark → Settled t (entries_by after) rows month mark
    settled-after month mark m =
        let s = a.law.lines_add_up_to_the_net month mark (sym (mark-after month) ∙ m) in
        let same : take mark (entries_by after) ≡ take mark (entries_by h) = ap (take mark) entries-after ∙ take-append-le mark (entries_by h) more (below-after month mark m) in
        record { figures = s.figures; worked_afresh = rw same s.worked_afresh; lines_add_up_to_the_net = s.lines_add_up_to_the_net; balanced = s.balanced }

    pub grown : (es : List Noted) → es ≡ entries ++ more → length es ≤ 8192 → Accounts t after marks es room rows free
    grown es es-are few =
        let all : es ≡ entries_by after = es-are ∙ ap (λ xs. xs ++ more) a.law.journal_holds_the_entries ∙ sym entries-after in
        let long : length (entries_by after) ≡ length (entries_by h) + length more = ap length entries-after ∙ length-append (entries_by h) more in
        let posted-long : length (postings_by after) * owners t ≡ length (postings_by h) * owners t = ap (λ ps. length ps * owners t) postings-after in
        record {
          law = record {
            journal_holds_the_entries = all;
            answers_are_the_checks = answered-more t [] h e a.law.answers_are_the_checks is;
            lines_add_up_to_the_net = settled-after;
            each_posting_adds_one_line_an_owner = subst (λ ps. Rolled (owners t) ps rows) (sym postings-after) a.law.each_posting_adds_one_line_an_owner;
          };
          marks_are = λ month. a.marks_are month ∙ sym (mark-after month);
          marks_below = λ month mark m. omega (arith, long, below-after month mark m);
          entries_few = omega (arith, ap length all);
          room_is = a.room_is;
          free_are = omega (arith, a.free_are, posted-long);
          rows_are = omega (arith, a.rows_are, posted-long);
          unsettled_nothing = λ month owner m. a.unsettled_nothing month owner (sym (mark-after month) ∙ m);
        }

  -- a posting that is granted
  module _ (month n : ℕ) (cents : List ℤ) (granted : ◌≡◌ {A = Result (List ℤ) Refusal} (posting (afresh t (entries_by h) month) (owners t) (length (entries_by h)) n month (mark_by month h) (entries_by h) (free_by t h)) (Ok cents)) (balance : (w : Figures) → afresh t (entries_by h) month n ≡ worked w → Balanced (owners t) w) where
    abbrev e : Event
    e = event_of (posts month n) (Ok posted)

    abbrev next : List Event
    next = h ++ e ∷ []

    abbrev new_rows : List Row
    new_rows = lines_from month n 0 cents

    billed : Billed (afresh t (entries_by h) month) (owners t) (length (entries_by h)) n (mark_by month h) cents
    billed = billed-from (afresh t (entries_by h) month) (owners t) (length (entries_by h)) n (mark_by month h) cents (first_fault (post_checks (length (entries_by h)) n month (mark_by month h) (entries_by h))) (nets_answer (afresh t (entries_by h) month n)) (nets_before (afresh t (entries_by h) month) (owners t) (mark_by month h)) (ltb (free_by t h) (owners t)) (no-check (length (entries_by h)) n (mark_by month h) month (entries_by h)) refl refl granted

    at_n : Known (afresh t (entries_by h) month n) billed.new
    at_n = known (afresh t (entries_by h) month n) billed.new billed.new_is

    fresh : Balanced (owners t) at_n.figures
    fresh = balance at_n.figures at_n.is

    -- what was billed before
    record Before (nets : List ℤ) : Type 0 where
      many : length nets ≡ owners t
      cancel : int_sum nets ≡ pos 0
      sums : (owner : ℕ) → sum_of month owner rows ≡ get_or nets owner (pos 0)

    before : Before billed.old
    before = by (mark_by month h) refl billed.old_is
      where
        by : (o : Option ℕ) → mark_by month h ≡ o → ◌≡◌ {A = Result (List ℤ) Refusal} (nets_before (afresh t (entries_by h) month) (owners t) o) (Ok billed.old) → Before billed.old
        by None m e =
            let same : replicate (owners t) (pos 0) ≡ billed.old = cc in
            subst Before same (record { many = length-replicate (owners t) (pos 0); cancel = sum_zeros (owners t); sums = λ owner. a.unsettled_nothing month owner m ∙ sym (get_or-zeros (owners t) owner) })
        by (Some mark) m e =
            let s = a.law.lines_add_up_to_the_net month mark m in
            let same : s.figures.nets ≡ billed.old = let k = rw s.worked_afresh at e in cc in
            subst Before same (record { many = s.balanced.a_net_for_every_owner; cancel = s.balanced.nets_cancel; sums = s.lines_add_up_to_the_net })

    new_many : length billed.new ≡ owners t
    new_many = ap length (sym at_n.nets_are) ∙ fresh.a_net_for_every_owner

    new_cancel : int_sum billed.new ≡ pos 0
    new_cancel = ap int_sum (sym at_n.nets_are) ∙ fresh.nets_cancel

    as_many : length billed.new ≡ length billed.old
    as_many = new_many ∙ sym before.many

    cents_many : length cents ≡ owners t
    cents_many = ap length billed.cents_are ∙ length-less billed.new billed.old as_many ∙ new_many

    sums_after : (owner : ℕ) → sum_of month owner (rows ++ new_rows) ≡ get_or at_n.figures.nets owner (pos 0)
    sums_after owner =
        let all = sum-append month owner rows new_rows in
        let was = before.sums owner in
        let adds = sum-here month owner n 0 owner cents (omega arith) ∙ ap (λ xs. get_or xs owner (pos 0)) billed.cents_are ∙ get_or-less billed.new billed.old owner as_many in
        let is = ap (λ xs. get_or xs owner (pos 0)) at_n.nets_are in
        omega (arith, ints, all, was, adds, is)

    sums_elsewhere : (m owner : ℕ) → (month ≡ m → ⊥) → sum_of m owner (rows ++ new_rows) ≡ sum_of m owner rows
    sums_elsewhere m owner other = omega (arith, ints, sum-append m owner rows new_rows, sum-elsewhere m owner month n 0 cents other)

    entries_next : entries_by next ≡ entries_by h
    entries_next = gathered-more entry_of h e ∙ append-nil (entries_by h)

    postings_next : postings_by next ≡ postings_by h ++ (month, n) ∷ []
    postings_next = gathered-more posting_of h e

    mark_next : (m : ℕ) → mark_by m next ≡ or_else (cond (eqb month m) (Some n) None) (mark_by m h)
    mark_next m = ap (latest (mark_for m)) postings_next ∙ latest-push (mark_for m) (postings_by h) (month, n)

    mark_here : mark_by month next ≡ Some n
    mark_here = mark_next month ∙ ap (λ b. or_else (cond b (Some n) None) (mark_by month h)) (eq-eqb month month refl)

    mark_elsewhere : (m : ℕ) → (month ≡ m → ⊥) → mark_by m next ≡ mark_by m h
    mark_elsewhere m other = mark_next m ∙ ap (λ b. or_else (cond b (Some n) None) (mark_by m h)) (ne_eqb month m other)

    settled_here : Settled t (entries_by next) (rows ++ new_rows) month n
    settled_here = record { figures = at_n.figures; worked_afresh = ap (λ xs. afresh t xs month n) entries_next ∙ at_n.is; lines_add_up_to_the_net = sums_after; balanced = fresh }

    settled_next : (m mark : ℕ) → mark_by m next ≡ Some mark → Settled t (entries_by next) (rows ++ new_rows) m mark
    settled_next m mark is = by (cases_eq month m)
      where
        by : (month ≡ m) ⊎ (month ≡ m → ⊥) → Settled t (entries_by next) (rows ++ new_rows) m mark
        by (inl same) =
            let at : n ≡ mark = let k = sym mark_here ∙ ap (λ x. mark_by x next) same ∙ is in cc in
            subst (λ x. Settled t (entries_by next) (rows ++ new_rows) x mark) same (subst (Settled t (entries_by next) (rows ++ new_rows) month) at settled_here)
        by (inr other) =
            let s = a.law.lines_add_up_to_the_net m mark (sym (mark_elsewhere m other) ∙ is) in
            record { figures = s.figures; worked_afresh = ap (λ xs. afresh t xs m mark) entries_next ∙ s.worked_afresh; lines_add_up_to_the_net = λ owner. sums_elsewhere m owner other ∙ s.lines_add_up_to_the_net owner; balanced = s.balanced }

    below_next : (m mark : ℕ) → mark_by m next ≡ Some mark → mark ≤ length (entries_by next)
    below_next m mark is = by (cases_eq month m)
      where
        by : (month ≡ m) ⊎ (month ≡ m → ⊥) → mark ≤ length (entries_by next)
        by (inl same) =
            let at : n ≡ mark = let k = sym mark_here ∙ ap (λ x. mark_by x next) same ∙ is in cc in
            omega (arith, at, billed.within, ap length entries_next)
        by (inr other) = omega (arith, a.marks_below m mark (sym (mark_elsewhere m other) ∙ is), ap length entries_next)

    nothing_next : (m owner : ℕ) → mark_by m next ≡ None → sum_of m owner (rows ++ new_rows) ≡ pos 0
    nothing_next m owner is = by (cases_eq month m)
      where
        by : (month ≡ m) ⊎ (month ≡ m → ⊥) → sum_of m owner (rows ++ new_rows) ≡ pos 0
        by (inl same) = let k = sym mark_here ∙ ap (λ x. mark_by x next) same ∙ is in let z : ◌≡◌ {A = ℕ} 0 1 = cc in absurd (omega arith)
        by (inr other) = sums_elsewhere m owner other ∙ a.unsettled_nothing m owner (sym (mark_elsewhere m other) ∙ is)

    one : OnePosting (owners t) month n new_rows
    one =
        record {
          one_line_an_owner = lines-in-order month n 0 cents ∙ ap (in_order month n 0) cents_many;
          lines_cancel = ap int_sum (lines-cents month n 0 cents) ∙ ap int_sum billed.cents_are ∙ sum_less billed.new billed.old as_many ∙ (omega (arith, ints, new_cancel, before.cancel));
        }

    pub posted_on : (after : List (Option ℕ)) (left : ℕ) → ((m : ℕ) → get_or after m None ≡ cond (eqb m month) (Some n) (get_or marks m None)) → free ≡ left + length new_rows
        → Accounts t next after entries room (rows ++ new_rows) left
    posted_on after left set uses =
        let long : length new_rows ≡ owners t = lines_long month n 0 cents ∙ cents_many in
        let more : length (postings_by next) ≡ length (postings_by h) + 1 = ap length postings_next ∙ length-append (postings_by h) ((month, n) ∷ []) in
        let times : length (postings_by next) * owners t ≡ length (postings_by h) * owners t + owners t = ap (λ k. k * owners t) more ∙ (omega arith) in
        record {
          law = record {
            journal_holds_the_entries = a.law.journal_holds_the_entries ∙ sym entries_next;
            answers_are_the_checks = answered-more t [] h e a.law.answers_are_the_checks (sym (ap (granting (λ xs. posted)) granted));
            lines_add_up_to_the_net = settled_next;
            each_posting_adds_one_line_an_owner = subst (λ ps. Rolled (owners t) ps (rows ++ new_rows)) (sym postings_next) (rolled-more (owners t) (postings_by h) rows month n new_rows a.law.each_posting_adds_one_line_an_owner a.rows_are one long);
          };
          marks_are = λ m. marks_next m (cases_eq month m);
          marks_below = below_next;
          entries_few = omega (arith, ap length entries_next, a.entries_few);
          room_is = a.room_is;
          free_are = omega (arith, times, uses, long, a.free_are);
          rows_are = omega (arith, times, long, a.rows_are, length-append rows new_rows);
          unsettled_nothing = nothing_next;
        }
      where
        marks_next : (m : ℕ) → (month ≡ m) ⊎ (month ≡ m → ⊥) → get_or after m None ≡ mark_by m next
        marks_next m (inl same) = set m ∙ ap (λ b. cond b (Some n) (get_or marks m None)) (eq-eqb m month (sym same)) ∙ sym mark_here ∙ ap (λ x. mark_by x next) same
        marks_next m (inr other) = set m ∙ ap (λ b. cond b (Some n) (get_or marks m None)) (ne_eqb m month (λ (p : m ≡ month). other (sym p))) ∙ a.marks_are m ∙ sym (mark_elsewhere m other)

-- a withdrawal changes nothing
pub withdrawn_on : (t : Terms) (h : List Event) (marks : List (Option ℕ)) (entries : List Noted) (room : ℕ) (rows : List Row) (free month n : ℕ) → Accounts t h marks entries room rows free
    → Accounts t (h ++ event_of (withdraws month n) (Ok withdrawn) ∷ []) marks entries room rows free
withdrawn_on t h marks entries room rows free month n a =
    grown t h marks entries room rows free a (event_of (withdraws month n) (Ok withdrawn)) refl [] refl refl entries (sym (append-nil entries)) (omega (arith, ap length a.law.journal_holds_the_entries, a.entries_few))
