-- Histories of scripts, and what is promised of them.
use Rattle.std.proofs.Common.{◌≡◌, ℕ, zero, suc, ◌+◌, ◌*◌, ◌<◌, ◌≤◌, min, ◌⊎◌, List, [], ◌∷◌, ◌++◌, map, length, get_or, take, drop, set, pos, Result, sym, refl, ap, ◌∙◌, subst, inl, inr, arith}
use Rattle.std.proofs.lemmas.List.{take_more, take_more_set, take_all, drop_all, drop-drop, drop-set-lt, length-take-le}
use Rattle.std.proofs.lemmas.Bool.{cases_lt}
use Rattle.division.specs.Shares.{int_sum}
use Rattle.rolls.specs.Rows.{Row}
use Rattle.book.specs.Answers.{told}
use Rattle.book.specs.Entries.{Noted}
use Rattle.book.specs.Histories.{Terms, event_of, owners, afresh}
use Rattle.book.specs.Laws.{Balanced, Settled, Rolled}
use Rattle.book.specs.Scripts.{request_of, grant_of, history_of}
use Rattle.book.specs.Workings.{Figures, worked}
use Rattle.book.specs.declared.call.Call.{Call}
use Rattle.book.specs.declared.call.Reply.{Reply}
use Rattle.book.specs.declared.fault.BookFault.{BookFault}

pub history-push : (cs : List Call) (rs : List (Result Reply BookFault)) (c : Call) (r : Result Reply BookFault) → length cs ≡ length rs → history_of (cs ++ c ∷ []) (rs ++ r ∷ []) ≡ history_of cs rs ++ event_of (request_of c) (told grant_of r) ∷ []
history-push [] [] c r e = refl
history-push [] (x ∷ rs) c r e = absurd (omega arith)
history-push (d ∷ cs) [] c r e = absurd (omega arith)
history-push (d ∷ cs) (x ∷ rs) c r e = ap (λ es. event_of (request_of d) (told grant_of x) ∷ es) (history-push cs rs c r (omega arith))

pub history-more : (calls : List Call) (answers : List (Result Reply BookFault)) (i : ℕ) (c : Call) (r : Result Reply BookFault) → i < length calls → i < length answers → c ≡ get_or calls i c
    → history_of (take i calls) (take i answers) ++ event_of (request_of c) (told grant_of r) ∷ [] ≡ history_of (take (i + 1) calls) (take (i + 1) (set answers i r))
history-more calls answers i c r h k is =
    sym (history-push (take i calls) (take i answers) c r (length-take-le i calls (omega arith) ∙ sym (length-take-le i answers (omega arith))))
    ∙ ap (λ cs. history_of cs (take i answers ++ r ∷ [])) (ap (λ d. take i calls ++ d ∷ []) is ∙ sym (take_more calls i c h))
    ∙ ap (history_of (take (i + 1) calls)) (sym (take_more_set answers i r k))

pub history-all : (calls : List Call) (answers : List (Result Reply BookFault)) (i : ℕ) → i ≡ min (length calls) (length answers) → history_of (take i calls) (take i answers) ≡ history_of calls answers
history-all [] answers i e = ap (λ cs. history_of cs (take i answers)) (take_all i [] (omega arith))
history-all (c ∷ cs) [] i e = ap (λ k. history_of (take k (c ∷ cs)) (take k [])) {x = i} {y = 0} (omega arith)
history-all (c ∷ cs) (r ∷ rs) zero e = absurd (omega arith)
history-all (c ∷ cs) (r ∷ rs) (suc i) e = ap (λ es. event_of (request_of c) (told grant_of r) ∷ es) (history-all cs rs i (omega arith))

-- the places behind the calls
pub rest-kept : {X : Type 0} (calls : ℕ) (now was : List X) (i : ℕ) → length now ≡ length was → i ≡ min calls (length was) → drop i now ≡ drop i was → drop calls now ≡ drop calls was
rest-kept calls now was i long e same = by (cases_lt (length was) calls)
  where
    by : (length was < calls) ⊎ (calls ≤ length was) → drop calls now ≡ drop calls was
    by (inl h) = drop_all calls now (omega arith) ∙ sym (drop_all calls was (omega arith))
    by (inr h) = let all : i ≡ calls = omega arith in subst (λ k. drop k now ≡ drop k was) all same

pub drop-next : {X : Type 0} (now was : List X) (i : ℕ) (y : X) → drop i now ≡ drop i was → drop (i + 1) (set now i y) ≡ drop (i + 1) was
drop-next now was i y same = drop-set-lt (i + 1) now i y (omega arith) ∙ sym (drop-drop 1 i now) ∙ ap (drop 1) same ∙ drop-drop 1 i was

-- each posting's lines add up to 0, whichever it is
pub each-cancels : (count : ℕ) (ps : List (ℕ × ℕ)) (rows : List Row) → Rolled count ps rows → (k : ℕ) → int_sum (map (λ line. line.cents) (take count (drop (k * count) rows))) ≡ pos 0
each-cancels count [] rows none k =
    let nothing : take count (drop (k * count) rows) ≡ [] = ap (take count) (drop_all (k * count) rows (omega (arith, ap length none))) ∙ take_all count [] (omega arith) in
    ap (λ xs. int_sum (map (λ line. line.cents) xs)) nothing
each-cancels count (p ∷ ps) rows all zero =
    let first : zero * count ≡ 0 = omega arith in
    ap (λ n. int_sum (map (λ line. line.cents) (take count (drop n rows)))) first ∙ all.0.lines_cancel
each-cancels count (p ∷ ps) rows all (suc k) =
    let next : suc k * count ≡ count + k * count = omega arith in
    ap (λ n. int_sum (map (λ line. line.cents) (take count (drop n rows)))) next ∙ ap (λ xs. int_sum (map (λ line. line.cents) (take count xs))) (sym (drop-drop (k * count) count rows)) ∙ each-cancels count ps (drop count rows) all.1 k

-- the figures of a settled month, however they are come by
pub balanced-at : (t : Terms) (entries : List Noted) (rows : List Row) (month mark : ℕ) (w : Figures) → Settled t entries rows month mark → afresh t entries month mark ≡ worked w → Balanced (owners t) w
balanced-at t entries rows month mark w s is = let k = sym s.worked_afresh ∙ is in let same : s.figures ≡ w = cc in subst (Balanced (owners t)) same s.balanced
