use Rattle.std.proofs.Common.{◌≡◌, ℕ, ◌+◌, ◌<◌, ◌≤◌, ◌==◌, ◌⊎◌, List, [], length, take, drop, Bor, Some, None, Option, unwrap_or, sym, ap, ◌∙◌, inl, inr, arith, rules}
use Rattle.std.specs.List.{position_or_len, slice_range}
use Rattle.std.specs.Option.{MatchOption}
use Rattle.std.proofs.lemmas.List.Sums.{position_or_len_is}
use Rattle.std.proofs.lemmas.List.{take_rest, drop_all}
use Rattle.script.proofs.words.split_once.Goals as goal

-- what stands from n on, if n is not past the end
behind : (n : ℕ) (text : List ℕ) (found : Option (Bor (List ℕ))) (none : Bor (List ℕ)) → none.now ≡ []
    → MatchOption found ((length text < n) ⊎ (length text < length text)) (λ x. (n ≤ length text) × (length text ≤ length text) × (x.now ≡ slice_range text n (length text)) × (length x.now + n ≡ length text))
    → (unwrap_or found none).now ≡ drop n text
behind n text (Some x) none e h = h.2 ∙ take_rest text n
behind n text None none e (inl l) = e ∙ sym (drop_all n text (omega arith))
behind n text None none e (inr l) = absurd (omega arith)

pub returns : goal.returns
returns c =
    let text = c.args.text.now in
    let at = c.unwrap_or-at.result in
    let found : position_or_len (λ (b : ℕ). b == c.args.byte) text ≡ at =
    position_or_len_is (λ (b : ℕ). b == c.args.byte) text at 0 (search rules) (search rules) (search rules) in
    record {
      front = ap (λ n. take n text) (sym found);
      back = rw (found, c.unwrap_or.ensures) (behind (at + 1) text c.get.result _ (search rules) c.get.ensures.lookup.0);
    }
