-- An archive read record by record.
use Rattle.std.proofs.Common.{◌≡◌, ℕ, zero, suc, ◌+◌, ◌-◌, ◌*◌, ◌<◌, ◌≤◌, false, ltb, min, List, [], ◌∷◌, ◌++◌, length, take, drop, Some, None, Ok, Err, sym, refl, ap, ◌∙◌, append_assoc, arith, rules, length-append, length-take, inl, inr}
use Rattle.std.specs.List.{AllByRecursion}
use Rattle.std.proofs.ByRecursion.{All-push}
use Rattle.std.proofs.lemmas.Grind.{common_steps}
use Rattle.std.proofs.lemmas.Bool.{cases_lt, le-ltb}
use Rattle.std.proofs.lemmas.List.{append-nil, drop_at, length_push, nil_from_length}
use Rattle.rolls.specs.Rows.{Row, WithinRow}
use Rattle.rolls.specs.Records.{Refusal, part, reading, encoded}
use Rattle.rolls.specs.Summaries.{Contents, contents, contents_from, grown}
use Rattle.rolls.specs.Tallies.{Tallied}
use Rattle.rolls.specs.declared.sums.Sums.{Sums}

-- a record is read from its own bytes alone
part-front : (p w : ℕ) (chunk rest : List ℕ) → 27 ≤ length chunk → p + (3 + w) ≤ 27 → part p w (chunk ++ rest) ≡ part p w chunk
part-front p w chunk rest long inside = search (rules, common_steps)

long_front : (place : ℕ) (chunk rest : List ℕ) → 27 ≤ length chunk → reading place (chunk ++ rest) ≡ reading place chunk
long_front place chunk rest long =
    let whole : ltb (length (chunk ++ rest)) 27 ≡ false = le-ltb _ _ (omega (arith, length-append chunk rest)) in
    let one : ltb (length chunk) 27 ≡ false = le-ltb _ _ long in
    let month = part-front 0 2 chunk rest long (omega arith) in
    let owner = part-front 5 1 chunk rest long (omega arith) in
    let mark = part-front 9 4 chunk rest long (omega arith) in
    let cents = part-front 16 8 chunk rest long (omega arith) in
    rw (whole, one, month, owner, mark, cents) refl

-- the next chunk of an archive's bytes is read as they are
reading-front : (place : ℕ) (chunk rest : List ℕ) → length chunk ≡ min 27 (length (chunk ++ rest)) → reading place (chunk ++ rest) ≡ reading place chunk
reading-front place chunk rest size =
    elim (cases_lt (length chunk) 27) [
      | inl short ↦ let none : rest ≡ [] = nil_from_length rest (omega (arith, length-append chunk rest)) in rw (none, append-nil) refl
      | inr long ↦ long_front place chunk rest long
    ]

abbrev after : List Row → Contents → Contents
after rows c = record { rows = rows ++ c.rows; fault = c.fault }

after-grown : (rows : List Row) (x : Row) (others : Contents) → after rows (grown (Ok x) others) ≡ after (rows ++ x ∷ []) others
after-grown rows x others = ap (λ zs. record { rows = zs; fault = others.fault }) (sym (append_assoc rows (x ∷ []) others.rows))

-- the first records are counted in, and the rest of the archive's contents are those of the bytes that are left
pub record Counted (bs : List ℕ) (place : ℕ) (left : List ℕ) (s : Sums) : Type 0 where
  pub rows : List Row
  pub many : length rows ≡ place
  pub long : place * 27 + length left ≡ length bs
  pub within : AllByRecursion WithinRow rows
  pub sums : Tallied s rows
  pub whole : contents bs ≡ after rows (contents_from (length bs - place) place left)

contents-step : (n place : ℕ) (xs : List ℕ) → 0 < n → 0 < length xs → contents_from n place xs ≡ grown (reading place xs) (contents_from (n - 1) (place + 1) (drop 27 xs))
contents-step zero place xs p q = absurd (omega arith)
contents-step (suc n) place [] p q = absurd (omega arith)
contents-step (suc n) place (x ∷ xs) p q = search rules

contents-none : (n place : ℕ) (xs : List ℕ) → length xs ≡ 0 → contents_from n place xs ≡ record { rows = []; fault = None }
contents-none zero place xs e = refl
contents-none (suc n) place [] e = refl
contents-none (suc n) place (x ∷ xs) e = absurd (omega arith)

module _ (bs : List ℕ) (place : ℕ) (left : List ℕ) (s : Sums) (c : Counted bs place left s) where
  -- no byte is left
  pub ended_at : length left ≡ 0 → contents bs ≡ record { rows = c.rows; fault = None }
  ended_at none =
      c.whole ∙ ap (after c.rows) (contents-none (length bs - place) place left none) ∙ ap (λ zs. record { rows = zs; fault = None }) (append-nil c.rows)

  -- a chunk of bytes comes next
  module _ (chunk rest : List ℕ) (parts : left ≡ chunk ++ rest) (size : length chunk ≡ min 27 (length left)) (more : 0 < length left) where
    goes_on : contents bs ≡ after c.rows (grown (reading place chunk) (contents_from (length bs - place - 1) (place + 1) (drop 27 left)))
    goes_on =
        let read : reading place left ≡ reading place chunk = rw parts (reading-front place chunk rest (rw parts at size)) in
        c.whole ∙ ap (after c.rows) (contents-step (length bs - place) place left (omega (arith, c.long)) more)
        ∙ ap (λ r. after c.rows (grown r (contents_from (length bs - place - 1) (place + 1) (drop 27 left)))) read

    pub stopped_at : (e : Refusal) → reading place chunk ≡ Err e → contents bs ≡ record { rows = c.rows; fault = Some e }
    stopped_at e read =
        goes_on ∙ ap (λ r. after c.rows (grown r (contents_from (length bs - place - 1) (place + 1) (drop 27 left)))) read
        ∙ ap (λ zs. record { rows = zs; fault = Some e }) (append-nil c.rows)

    pub counted-more : (x : Row) (s' : Sums) → reading place chunk ≡ Ok x → take 27 chunk ≡ encoded x → WithinRow x
        → (Tallied s c.rows → Tallied s' (c.rows ++ x ∷ [])) → Counted bs (place + 1) rest s'
    counted-more x s' read bytes fits t =
        let full : length chunk ≡ 27 = omega (arith, size, length-take 27 chunk, ap length bytes) in
        let fuel : length bs - place - 1 ≡ length bs - (place + 1) = omega arith in
        let behind : drop 27 left ≡ rest = ap (drop 27) parts ∙ drop_at chunk rest 27 full in
        record {
          rows = c.rows ++ x ∷ [];
          many = length_push c.rows x ∙ ap (λ n. n + 1) c.many;
          long = omega (arith, c.long, full, ap length parts, length-append chunk rest);
          within = All-push WithinRow c.rows x c.within fits;
          sums = t c.sums;
          whole = (rw (read, fuel, behind) at goes_on) ∙ after-grown c.rows x (contents_from (length bs - (place + 1)) (place + 1) rest);
        }
