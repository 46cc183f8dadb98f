-- What a book, its journal and a roll account for after each call.
use Rattle.std.proofs.Common.{◌≡◌, ℕ, ◌+◌, ◌<◌, ◌≤◌, Bool, true, false, cond, eqb, List, [], ◌∷◌, ◌++◌, map, length, get_or, take, drop, ℤ, IfOk, MatchResult, Some, None, Ok, Err, vec_items, vec_len, vec_capacity, Option, Result, Vec, sym, refl, ap, ◌∙◌, subst, append_assoc, append-nil, arith}
use mathlib.Core.List.{append_cancel_left}
use Rattle.std.proofs.lemmas.List.{take_all, drop_at, length-map, length_push}
use Rattle.std.proofs.lemmas.Bool.{or_parts, leb-false, eqb-true}
use Rattle.std.specs.declared.alloc.Global.{Global}
use Rattle.charges.specs.Checks.{Check, first_fault}
use Rattle.charges.specs.Outcomes.{Outcome}
use Rattle.charges.specs.declared.table.OwnerRow.{OwnerRow}
use Rattle.rolls.specs.Rows.{Row}
use Rattle.book.specs.Accounts.{Account}
use Rattle.book.specs.Answers.{told, fault_of, granting}
use Rattle.book.specs.Books.{areas_of, mark_of, Marked}
use Rattle.book.specs.Calls.{count_of, entries_in, open_checks, opening_in, worked_after, opening_of, opened, drafted}
use Rattle.book.specs.Checks.{answered, verdict, full, filing_checks, reading_checks}
use Rattle.book.specs.Entries.{Noted, filed, metered}
use Rattle.book.specs.declared.figures.Filed.{Filed}
use Rattle.book.specs.declared.figures.Metered.{Metered}
use Rattle.book.specs.Faults.{refusal}
use Rattle.book.specs.Histories.{Request, Grant, Event, Terms, event_of, files, reads, opens, posts, withdraws, asks, entered, drew, posted, withdrawn, stands, entries_by, mark_by, owners, afresh, free_by, draws, answer_to, if_granted, entry_of, posting_of}
use Rattle.book.specs.Journals.{entries_of, Enters, filing_in, reading_in}
use Rattle.book.specs.Laws.{Balanced, Accounts}
use Rattle.book.specs.Meaning.{noted}
use Rattle.book.specs.Postings.{posting, posting_in, lines_of, mark_after}
use Rattle.book.specs.States.{state_of, state_checks, state_as}
use Rattle.book.specs.Workings.{Refusal, plain, Figures, Working, denied, worked, worked_out}
use Rattle.book.specs.declared.book.Book.{Book}
use Rattle.book.specs.declared.call.State.{State}
use Rattle.book.specs.declared.entry.Entry.{Entry}
use Rattle.book.specs.declared.fault.BookFault.{BookFault}
use Rattle.book.specs.declared.opening.Opening.{Opening}
use Rattle.book.proofs.Accounted.{grown, posted_on, withdrawn_on}
use Rattle.book.proofs.Balancing.{last-pass, passed}

told-granting : {X Y : Type 0} (answer : X → Y) (r : Result X BookFault) → told answer r ≡ granting answer (told (λ x. x) r)
told-granting answer (Ok x) = refl
told-granting answer (Err e) = refl

-- an answer whose value the code maps
pub told-mapped : {X Y Z : Type 0} (meaning : Y → Z) (f : X → Y) (r : Result X BookFault) (s : Result Y BookFault) → MatchResult r (λ x. s ≡ Ok (f x)) (λ e. s ≡ Err e) → told (λ x. meaning (f x)) r ≡ told meaning s
told-mapped meaning f (Ok x) s is = sym (ap (told meaning) is)
told-mapped meaning f (Err e) s is = sym (ap (told meaning) is)

told-after : {X Y Z : Type 0} (f : X → Y) (answer : Y → Z) (r : Result X BookFault) → told (λ x. answer (f x)) r ≡ granting answer (told f r)
told-after f answer (Ok x) = refl
told-after f answer (Err e) = refl

nothing : {X : Type 0} (x : Result Grant Refusal) → ◌≡◌ {A = List X} (if_granted x []) []
nothing (Ok g) = refl
nothing (Err f) = refl

-- a journal that is not full takes one more
not_full : (front : List (Check Refusal)) (k n room : ℕ) → ◌≡◌ {A = Result ℕ Refusal} (Ok k) (verdict n (front ++ record { fails = full n room; fault = plain 6 } ∷ [])) → n < 8192
not_full front k n room is = by (first_fault (front ++ record { fails = full n room; fault = plain 6 } ∷ [])) refl is
  where
    by : (o : Option Refusal) → first_fault (front ++ record { fails = full n room; fault = plain 6 } ∷ []) ≡ o → ◌≡◌ {A = Result ℕ Refusal} (Ok k) (answered n o) → n < 8192
    by (Some f) e h = let z : ◌≡◌ {A = ℕ} 0 1 = cc in absurd (omega arith)
    by None e h = leb-false 8192 n (or_parts _ _ (passed (full n room) (plain 6) (last-pass front (record { fails = full n room; fault = plain 6 } ∷ []) e))).0

module _ {C : Type 0} (meaning : ℕ → List OwnerRow → Outcome) (t : Terms) (h : List Event) (book : Book C) (j : Vec Entry Global) (rows : List Row) (free : ℕ) (a : Account meaning t h book j rows free) where
  held : entries_of j ≡ entries_by h
  held = a.accounts.law.journal_holds_the_entries

  long : vec_len j ≡ length (entries_by h)
  long = j.ok.0 ∙ sym (length-map (vec_items j) noted) ∙ ap length held

  few : vec_len j ≤ 8192
  few = omega (arith, long, a.accounts.entries_few)

  owners-are : length (areas_of book) ≡ owners t
  owners-are = ap length a.areas_are

  count-is : count_of j ≡ length (entries_by h)
  count-is = omega (arith, long, few)

  entries-in : entries_in j ≡ entries_by h
  entries-in = ap (map noted) (take_all (count_of j) (vec_items j) (omega (arith, j.ok.0, few))) ∙ held

  mark-is : (month : ℕ) → mark_of book month ≡ mark_by month h
  mark-is month = a.accounts.marks_are month

  -- one entry more, or none
  filed-is : (f : Filed) (r : Result ℕ BookFault) → told (λ i. i) r ≡ filing_in book j f → told entered r ≡ answer_to t h (files f)
  filed-is f r is =
      told-granting entered r ∙ ap (granting entered) (is ∙ ap (λ n. verdict n (filing_checks (length (areas_of book)) n (vec_capacity j) f)) long ∙ ap (λ k. verdict (length (entries_by h)) (filing_checks k (length (entries_by h)) (vec_capacity j) f)) owners-are ∙ ap (λ k. verdict (length (entries_by h)) (filing_checks (owners t) (length (entries_by h)) k f)) a.accounts.room_is)

  read_is : (m : Metered) (r : Result ℕ BookFault) → told (λ i. i) r ≡ reading_in book j m → told entered r ≡ answer_to t h (reads m)
  read_is m r is =
      told-granting entered r ∙ ap (granting entered) (is ∙ ap (λ n. verdict n (reading_checks (length (areas_of book)) n (vec_capacity j) m)) long ∙ ap (λ k. verdict (length (entries_by h)) (reading_checks k (length (entries_by h)) (vec_capacity j) m)) owners-are ∙ ap (λ k. verdict (length (entries_by h)) (reading_checks (owners t) (length (entries_by h)) k m)) a.accounts.room_is)

  one_more : (j' : Vec Entry Global) (e : Noted) → vec_len j < 8192 → entries_of j' ≡ entries_of j ++ e ∷ [] → length (entries_of j') ≤ 8192
  one_more j' e room is = omega (arith, ap length is, length_push (entries_of j) e, j.ok.0, length-map (vec_items j) noted)

  pub kept : (h' : List Event) (j' : Vec Entry Global) → vec_capacity j' ≡ vec_capacity j → Accounts t h' book.marks (entries_of j') (vec_capacity j) rows free → Account meaning t h' book j' rows free
  kept h' j' same b = record { areas_are = a.areas_are; meaning_is = a.meaning_is; accounts = subst (λ n. Accounts t h' book.marks (entries_of j') n rows free) (sym same) b }

  pub files-on : (f : Filed) (r : Result ℕ BookFault) (j' : Vec Entry Global) → told (λ i. i) r ≡ filing_in book j f → Enters (filed f) r j j'
      → Account meaning t (h ++ event_of (files f) (told entered r) ∷ []) book j' rows free
  files-on f (Ok i) j' is enters =
      let room : vec_len j < 8192 = not_full (take 3 (filing_checks (length (areas_of book)) (vec_len j) (vec_capacity j) f)) i (vec_len j) (vec_capacity j) is in
      kept _ j' enters.1 (grown t h book.marks (entries_of j) (vec_capacity j) rows free a.accounts (event_of (files f) (Ok (entered i))) (filed-is f (Ok i) is) (filed f ∷ []) refl refl (entries_of j') enters.0 (one_more j' (filed f) room enters.0))
  files-on f (Err e) j' is enters =
      kept _ j' (ap vec_capacity enters) (grown t h book.marks (entries_of j) (vec_capacity j) rows free a.accounts (event_of (files f) (Err (refusal e))) (filed-is f (Err e) is) [] refl refl (entries_of j') (ap entries_of enters ∙ sym (append-nil (entries_of j))) (omega (arith, ap (λ v. length (entries_of v)) enters, j.ok.0, length-map (vec_items j) noted, few)))

  pub reads_on : (m : Metered) (r : Result ℕ BookFault) (j' : Vec Entry Global) → told (λ i. i) r ≡ reading_in book j m → Enters (metered m) r j j'
      → Account meaning t (h ++ event_of (reads m) (told entered r) ∷ []) book j' rows free
  reads_on m (Ok i) j' is enters =
      let room : vec_len j < 8192 = not_full (take 3 (reading_checks (length (areas_of book)) (vec_len j) (vec_capacity j) m)) i (vec_len j) (vec_capacity j) is in
      kept _ j' enters.1 (grown t h book.marks (entries_of j) (vec_capacity j) rows free a.accounts (event_of (reads m) (Ok (entered i))) (read_is m (Ok i) is) (metered m ∷ []) refl refl (entries_of j') enters.0 (one_more j' (metered m) room enters.0))
  reads_on m (Err e) j' is enters =
      kept _ j' (ap vec_capacity enters) (grown t h book.marks (entries_of j) (vec_capacity j) rows free a.accounts (event_of (reads m) (Err (refusal e))) (read_is m (Err e) is) [] refl refl (entries_of j') (ap entries_of enters ∙ sym (append-nil (entries_of j))) (omega (arith, ap (λ v. length (entries_of v)) enters, j.ok.0, length-map (vec_items j) noted, few)))

  -- a call that enters and posts nothing
  quiet : (e : Event) → e.answer ≡ answer_to t h e.call → if_granted e.answer (entry_of e.call) ≡ [] → if_granted e.answer (posting_of e.call) ≡ [] → Account meaning t (h ++ e ∷ []) book j rows free
  quiet e is no-entry no-posting =
      kept _ j refl (grown t h book.marks (entries_of j) (vec_capacity j) rows free a.accounts e is [] no-entry no-posting (entries_of j) (sym (append-nil (entries_of j))) (omega (arith, j.ok.0, length-map (vec_items j) noted, few)))

  -- the checks and the working out as the history tells them
  abbrev told_working : ℕ → ℕ → Working
  told_working month places = worked_after (first_fault (open_checks (owners t) places month (mark_by month h) (entries_by h))) (worked_out t.meaning t.areas month (entries_by h))

  same-working : (month places : ℕ) → worked_after (first_fault (open_checks (length (areas_of book)) places month (mark_of book month) (entries_in j))) (worked_out meaning (areas_of book) month (entries_in j))
      ≡ told_working month places
  same-working month places =
      ap (λ m. worked_after (first_fault (open_checks (length (areas_of book)) places month m (entries_in j))) (worked_out meaning (areas_of book) month (entries_in j))) (mark-is month)
      ∙ ap (λ xs. worked_after (first_fault (open_checks (length (areas_of book)) places month (mark_by month h) xs)) (worked_out meaning (areas_of book) month xs)) entries-in
      ∙ ap (λ xs. worked_after (first_fault (open_checks (length xs) places month (mark_by month h) (entries_by h))) (worked_out meaning xs month (entries_by h))) a.areas_are
      ∙ ap (λ m. worked_after (first_fault (open_checks (owners t) places month (mark_by month h) (entries_by h))) (worked_out m t.areas month (entries_by h))) a.meaning_is

  pub opens_on : (month : ℕ) (draft draft' : List ℤ) (r : Result Opening BookFault)
      → told opening_of r ≡ opened month (count_of j) (opening_in meaning book j month (length draft))
      → draft' ≡ drafted (opening_in meaning book j month (length draft)) draft
      → Account meaning t (h ++ event_of (opens month draft) (told (λ o. drew o.written.month o.written.count draft') r) ∷ []) book j rows free
  opens_on month draft draft' r is draft-is = quiet _ (drawn-by (told_working month (length draft)) r (is ∙ ap (λ w. opened month (count_of j) w) (same-working month (length draft)) ∙ ap (λ n. opened month n (told_working month (length draft))) count-is) (draft-is ∙ ap (λ w. drafted w draft) (same-working month (length draft)))) (nothing _) (nothing _)
    where
      drawn-by : (w : Working) (r : Result Opening BookFault) → told opening_of r ≡ opened month (length (entries_by h)) w → draft' ≡ drafted w draft → told (λ o. drew o.written.month o.written.count draft') r ≡ draws month (length (entries_by h)) draft w
      drawn-by (denied f) (Ok o) e d = let z : ◌≡◌ {A = ℕ} 0 1 = cc in absurd (omega arith)
      drawn-by (denied f) (Err b) e d = let k : refusal b ≡ f = cc in ap Err k
      drawn-by (worked w) (Ok o) e d =
          let k : opening_of o ≡ (month, length (entries_by h)) = cc in
          ap (λ p. Ok (drew p.0 p.1 draft')) k ∙ ap (λ xs. Ok (drew month (length (entries_by h)) xs)) d
      drawn-by (worked w) (Err b) e d = let z : ◌≡◌ {A = ℕ} 0 1 = cc in absurd (omega arith)

  pub state-told : (month : ℕ) (r : Result State BookFault) → told state_as r ≡ verdict (state_of (mark_of book month) month (entries_in j)) (state_checks month) → told state_as r ≡ verdict (state_of (mark_by month h) month (entries_by h)) (state_checks month)
  state-told month r is = is ∙ ap (λ m. verdict (state_of m month (entries_in j)) (state_checks month)) (mark-is month) ∙ ap (λ xs. verdict (state_of (mark_by month h) month xs) (state_checks month)) entries-in

  pub asks_on : (month : ℕ) (r : Result State BookFault) → told state_as r ≡ verdict (state_of (mark_of book month) month (entries_in j)) (state_checks month)
      → Account meaning t (h ++ event_of (asks month) (told (λ s. stands (state_as s)) r) ∷ []) book j rows free
  asks_on month r is = quiet _ (told-after state_as stands r ∙ ap (granting stands) (state-told month r is)) (nothing _) (nothing _)

  -- a posting as the history tells it
  free-is : free_by t h ≡ free
  free-is = omega (arith, a.accounts.free_are)

  same-posting : (month n : ℕ) → posting_in meaning book j month n free ≡ posting (afresh t (entries_by h) month) (owners t) (length (entries_by h)) n month (mark_by month h) (entries_by h) (free_by t h)
  same-posting month n =
      ap (λ m. posting (λ k. worked_out meaning (areas_of book) month (take k (entries_in j))) (length (areas_of book)) (count_of j) n month m (entries_in j) free) (mark-is month)
      ∙ ap (λ xs. posting (λ k. worked_out meaning (areas_of book) month (take k xs)) (length (areas_of book)) (count_of j) n month (mark_by month h) xs free) entries-in
      ∙ ap (λ xs. posting (λ k. worked_out meaning xs month (take k (entries_by h))) (length xs) (count_of j) n month (mark_by month h) (entries_by h) free) a.areas_are
      ∙ ap (λ m. posting (λ k. worked_out m t.areas month (take k (entries_by h))) (owners t) (count_of j) n month (mark_by month h) (entries_by h) free) a.meaning_is
      ∙ ap (λ c. posting (afresh t (entries_by h) month) (owners t) c n month (mark_by month h) (entries_by h) free) count-is
      ∙ ap (λ f. posting (afresh t (entries_by h) month) (owners t) (length (entries_by h)) n month (mark_by month h) (entries_by h) f) (sym free-is)

  same-balance : (month n : ℕ) → ((w : Figures) → worked_out meaning (areas_of book) month (take n (entries_in j)) ≡ worked w → Balanced (length (areas_of book)) w) → (w : Figures) → afresh t (entries_by h) month n ≡ worked w → Balanced (owners t) w
  same-balance month n balance w is =
      let same = ap (λ xs. worked_out meaning (areas_of book) month (take n xs)) entries-in ∙ ap (λ xs. worked_out meaning xs month (take n (entries_by h))) a.areas_are ∙ ap (λ m. worked_out m t.areas month (take n (entries_by h))) a.meaning_is in
      subst (λ k. Balanced k w) owners-are (balance w (same ∙ is))

-- marks that tell the same account for the same
remarked : (t : Terms) (h : List Event) (marks after : List (Option ℕ)) (entries : List Noted) (room : ℕ) (rows : List Row) (free : ℕ) → ((m : ℕ) → get_or after m None ≡ get_or marks m None) → Accounts t h marks entries room rows free → Accounts t h after entries room rows free
remarked t h marks after entries room rows free same a =
    record { law = a.law; marks_are = λ m. same m ∙ a.marks_are m; marks_below = a.marks_below; entries_few = a.entries_few; room_is = a.room_is; free_are = a.free_are; rows_are = a.rows_are; unsettled_nothing = a.unsettled_nothing }

mark-same : {C : Type 0} (b : Book C) (month m : ℕ) → cond (eqb m month) (mark_of b month) (mark_of b m) ≡ mark_of b m
mark-same b month m = by (eqb m month) refl
  where
    by : (x : Bool) → eqb m month ≡ x → cond x (mark_of b month) (mark_of b m) ≡ mark_of b m
    by true e = ap (mark_of b) (sym (eqb-true m month e))
    by false e = refl

module _ {C : Type 0} (meaning meaning' : ℕ → List OwnerRow → Outcome) (t : Terms) (h : List Event) (book book' : Book C) (j : Vec Entry Global) (free free' month n : ℕ) (r : Result (Unit {0}) BookFault) where
  abbrev p : Result (List ℤ) Refusal
  p = posting_in meaning book j month n free

  pub posts-on : (all all' earlier before after : List Row) → all ≡ earlier ++ before → all' ≡ earlier ++ after → meaning' ≡ meaning
      → fault_of (told (λ x. x) r) ≡ fault_of p → all' ≡ all ++ lines_of month n p → free ≡ free' + length (lines_of month n p) → Marked month (mark_after n (mark_of book month) p) book book'
      → IfOk r (λ _. (w : Figures) → worked_out meaning (areas_of book) month (take n (entries_in j)) ≡ worked w → Balanced (length (areas_of book)) w)
      → Account meaning t h book j before free → Account meaning' t (h ++ event_of (posts month n) (told (λ _. posted) r) ∷ []) book' j after free'
  posts-on all all' earlier before after is is' means answer adds uses marked balance a = by p refl r answer adds uses marked balance
    where
      by : (q : Result (List ℤ) Refusal) → p ≡ q → (r : Result (Unit {0}) BookFault) → fault_of (told (λ x. x) r) ≡ fault_of q → all' ≡ all ++ lines_of month n q → free ≡ free' + length (lines_of month n q) → Marked month (mark_after n (mark_of book month) q) book book'
          → IfOk r (λ _. (w : Figures) → worked_out meaning (areas_of book) month (take n (entries_in j)) ≡ worked w → Balanced (length (areas_of book)) w)
          → Account meaning' t (h ++ event_of (posts month n) (told (λ _. posted) r) ∷ []) book' j after free'
      by (Ok cents) e (Ok u) ans lines left m balance =
          let new = lines_of month n (Ok cents) in
          let rows_are : before ++ new ≡ after = append_cancel_left earlier (before ++ new) after (sym (append_assoc earlier before new) ∙ ap (λ xs. xs ++ new) (sym is) ∙ sym lines ∙ is') in
          let on = posted_on t h book.marks (entries_of j) (vec_capacity j) before free a.accounts month n cents (sym (same-posting meaning t h book j before free a month n) ∙ e) (same-balance meaning t h book j before free a month n balance) book'.marks free' m.marks left in
          record { areas_are = m.areas ∙ a.areas_are; meaning_is = means ∙ a.meaning_is; accounts = subst (λ rs. Accounts t (h ++ event_of (posts month n) (Ok posted) ∷ []) book'.marks (entries_of j) (vec_capacity j) rs free') rows_are on }
      by (Ok cents) e (Err b) ans lines left m balance = let z : ◌≡◌ {A = ℕ} 0 1 = cc in absurd (omega arith)
      by (Err f) e (Ok u) ans lines left m balance = let z : ◌≡◌ {A = ℕ} 0 1 = cc in absurd (omega arith)
      by (Err f) e (Err b) ans lines left m balance =
          let rows_are : before ≡ after = append_cancel_left earlier before after (sym is ∙ sym (append-nil all) ∙ sym lines ∙ is') in
          let free_are : free ≡ free' = omega (arith, left) in
          let why : refusal b ≡ f = cc in
          let checks = ap Err why ∙ sym (ap (granting (λ xs. posted)) (sym (same-posting meaning t h book j before free a month n) ∙ e)) in
          let on = quiet meaning t h book j before free a (event_of (posts month n) (Err (refusal b))) checks refl refl in
          let same : (k : ℕ) → get_or book'.marks k None ≡ get_or book.marks k None = λ k. m.marks k ∙ mark-same book month k in
          let next = h ++ event_of (posts month n) (Err (refusal b)) ∷ [] in
          record {
            areas_are = m.areas ∙ a.areas_are;
            meaning_is = means ∙ a.meaning_is;
            accounts = subst (λ rs. Accounts t next book'.marks (entries_of j) (vec_capacity j) rs free') rows_are (subst (λ k. Accounts t next book'.marks (entries_of j) (vec_capacity j) before k) free_are (remarked t next book.marks book'.marks (entries_of j) (vec_capacity j) before free same on.accounts));
          }

-- a new book accounts for no calls
pub begun : (areas : List ℕ) (meaning : ℕ → List OwnerRow → Outcome) (marks : List (Option ℕ)) (entries : List Noted) (room free : ℕ) → ((m : ℕ) → get_or marks m None ≡ None) → entries ≡ []
    → Accounts (record { areas = areas; meaning = meaning; room = room; lines = free }) [] marks entries room [] free
begun areas meaning marks entries room free unmarked empty =
    record {
      law = record { journal_holds_the_entries = empty; answers_are_the_checks = tt; lines_add_up_to_the_net = λ month mark m. no_mark mark m; each_posting_adds_one_line_an_owner = refl };
      marks_are = unmarked;
      marks_below = λ month mark m. no_mark mark m;
      entries_few = omega arith;
      room_is = refl;
      free_are = omega arith;
      rows_are = omega arith;
      unsettled_nothing = λ month owner m. refl;
    }
  where
    no_mark : {P : Type 0} (mark : ℕ) → ◌≡◌ {A = Option ℕ} None (Some mark) → P
    no_mark mark m = let z : ◌≡◌ {A = ℕ} 0 1 = cc in absurd (omega arith)

-- the same call and answer, by other names
pub renamed : {C : Type 0} (meaning : ℕ → List OwnerRow → Outcome) (t : Terms) (h : List Event) (b : Book C) (j : Vec Entry Global) (free : ℕ) (q q' : Request) (x x' : Result Grant Refusal) (rows rows' : List Row)
    → q ≡ q' → x ≡ x' → rows ≡ rows' → Account meaning t (h ++ event_of q x ∷ []) b j rows free → Account meaning t (h ++ event_of q' x' ∷ []) b j rows' free
renamed meaning t h b j free q q' x x' rows rows' e f r a =
    subst (λ rs. Account meaning t (h ++ event_of q' x' ∷ []) b j rs free) r (subst (λ y. Account meaning t (h ++ event_of q' y ∷ []) b j rows free) f (subst (λ y. Account meaning t (h ++ event_of y x ∷ []) b j rows free) e a))

-- lines behind the earlier ones
pub behind : (all earlier before : List Row) → all ≡ earlier ++ before → all ≡ earlier ++ drop (length earlier) all
behind all earlier before is = is ∙ ap (λ xs. earlier ++ xs) (sym (drop_at earlier before (length earlier) refl) ∙ ap (drop (length earlier)) (sym is))

pub same_lines : (all earlier before after : List Row) → all ≡ earlier ++ before → all ≡ earlier ++ after → before ≡ after
same_lines all earlier before after is is' = append_cancel_left earlier before after (sym is ∙ is')

pub behind_more : (all all' more earlier before : List Row) → all ≡ earlier ++ before → all' ≡ all ++ more → all' ≡ earlier ++ drop (length earlier) all'
behind_more all all' more earlier before is adds = behind all' earlier (before ++ more) (adds ∙ ap (λ xs. xs ++ more) is ∙ append_assoc earlier before more)

-- withdrawing an opening, whichever it is, leaves what is accounted for
pub withdraws-on : {C : Type 0} (meaning : ℕ → List OwnerRow → Outcome) (t : Terms) (h : List Event) (book : Book C) (j : Vec Entry Global) (rows : List Row) (free : ℕ)
    → Account meaning t h book j rows free → (month n : ℕ) → Account meaning t (h ++ event_of (withdraws month n) (Ok withdrawn) ∷ []) book j rows free
withdraws-on meaning t h book j rows free account month n =
    kept meaning t h book j rows free account _ j refl (withdrawn_on t h book.marks (entries_of j) (vec_capacity j) rows free month n account.accounts)
