-- What the columns of transition keep, for any rule that keeps the laws of division.
use Rattle.std.specs.Prelude.{◌≡◌, ℕ, suc, ◌+◌, ◌<◌, Bool, true, false, cond, List, [], ◌∷◌, map, length, get_or, ℤ, pos, ◌+ℤ◌, ◌-ℤ◌, neg_ℤ, ◌≤ℤ◌, ◌<ℤ◌, ◌==◌, int_lt, slice_index, slice_index_or, unsigned_abs, refl}
use Rattle.std.proofs.Math.Path.{sym, ap}
use Rattle.std.proofs.Common.{◌∙◌, arith}
use Rattle.std.proofs.Math.Logic.{⊎_elim}
use Rattle.std.proofs.lemmas.List.{length-map, get_or-map}
use Rattle.std.proofs.lemmas.Int.{ints, clamps}
use Rattle.std.proofs.lemmas.List.Sums.{sum_by-cons}
use Rattle.std.proofs.lemmas.Bool.{cases_lt, cond_both, eqb-true}
use Rattle.division.specs.Laws.{Divides}
use Rattle.division.specs.Shares.{total, int_sum}
use Rattle.division.proofs.Totals.{int_sum-cons}
use Rattle.division.proofs.Rules.{sum-without-weight}
use Rattle.charges.specs.Burdens.{along, positive, of_capped, of_uncapped, excess, headroom, benefit, all_excess, all_headroom, payments_within, payments_beyond, payments, mitigations, adjusted, finals, transitions}
use Rattle.charges.specs.Along.{length-along, get_or-along, sum_less, magnitudes-total}
use Rattle.charges.specs.Parts.{length-added, get_or-added, sum_added}

-- an owner's figures: none is negative, and the burden is the cap and the excess less the headroom and the benefit
module _ (cap : ℕ) (b : ℤ) where
  pub excess-not-negative : pos 0 ≤ℤ excess cap b
  excess-not-negative = omega (arith, ints, clamps)

  pub headroom-not-negative : pos 0 ≤ℤ headroom cap b
  headroom-not-negative = cond_both (cap == 0) (pos 0) (positive (pos cap -ℤ b)) (λ z. pos 0 ≤ℤ z) (λ _. omega (arith, ints)) (λ _. omega (arith, ints, clamps))

  pub benefit-not-negative : pos 0 ≤ℤ benefit cap b
  benefit-not-negative = cond_both (cap == 0) (positive (neg_ℤ b)) (pos 0) (λ z. pos 0 ≤ℤ z) (λ _. omega (arith, ints, clamps)) (λ _. omega (arith, ints))

  balance-by : (t : Bool) → (t ≡ true → cap ≡ 0) → b +ℤ cond t (pos 0) (positive (pos cap -ℤ b)) +ℤ cond t (positive (neg_ℤ b)) (pos 0) ≡ pos cap +ℤ excess cap b
  balance-by true z = let e = z refl in omega (arith, ints, clamps)
  balance-by false z = omega (arith, ints, clamps)

  pub balance : b +ℤ headroom cap b +ℤ benefit cap b ≡ pos cap +ℤ excess cap b
  balance = balance-by (cap == 0) (eqb-true cap 0)

  -- what an owner adds to what capped and uncapped owners bear
  parted-by : (t : Bool) → cond t (pos 0) b +ℤ cond t b (pos 0) ≡ b
  parted-by true = omega (arith, ints)
  parted-by false = omega (arith, ints)

  parted : of_capped cap b +ℤ of_uncapped cap b ≡ b
  parted = parted-by (cap == 0)

  capped-within : b ≤ℤ pos cap → of_capped cap b ≤ℤ pos cap
  capped-within h = cond_both (cap == 0) (pos 0) b (λ z. z ≤ℤ pos cap) (λ _. omega (arith, ints)) (λ _. h)

  uncapped-within : b ≤ℤ pos cap → of_uncapped cap b ≤ℤ pos 0
  uncapped-within h = cond_both (cap == 0) b (pos 0) (λ z. z ≤ℤ pos 0) (λ e. omega (arith, ints, eqb-true cap 0 e)) (λ _. omega (arith, ints))

less_by : (x y : ℤ) → int_lt x y ≡ true → x <ℤ y
less_by x y e = grind (arith, ints)

more_by : (x y : ℤ) → int_lt x y ≡ false → y ≤ℤ x
more_by x y e = grind (arith, ints)

total-cons : (n : ℕ) (ns : List ℕ) → total (n ∷ ns) ≡ n + total ns
total-cons n ns = sum_by-cons (λ x. x) n ns

-- and so of all owners together
all-balance : (caps : List ℕ) (bs : List ℤ) → length caps ≡ length bs → int_sum bs +ℤ all_headroom caps bs +ℤ int_sum (along benefit caps bs) ≡ pos (total caps) +ℤ all_excess caps bs
all-balance [] [] e = refl
all-balance [] (b ∷ bs) e = absurd (omega arith)
all-balance (c ∷ caps) [] e = absurd (omega arith)
all-balance (c ∷ caps) (b ∷ bs) e =
    let rest = all-balance caps bs (omega arith) in
    let here = balance c b in
    let t = total-cons c caps in
    let s = int_sum-cons b bs in
    let h = int_sum-cons (headroom c b) (along headroom caps bs) in
    let w = int_sum-cons (benefit c b) (along benefit caps bs) in
    let x = int_sum-cons (excess c b) (along excess caps bs) in
    rw (s, h, w, t, x) (omega (arith, ints))

-- what capped owners bear is at most their caps where each bears at most its own
capped-sum : (caps : List ℕ) (ys : List ℤ) → length caps ≡ length ys → ((k : ℕ) → k < length caps → slice_index_or ys k (pos 0) ≤ℤ pos (slice_index caps k)) → int_sum (along of_capped caps ys) ≤ℤ pos (total caps)
capped-sum [] ys e each = omega (arith, ints)
capped-sum (c ∷ caps) [] e each = absurd (omega arith)
capped-sum (c ∷ caps) (a ∷ ys) e each =
    let rest = capped-sum caps ys (omega arith) (λ k l. each (suc k) (omega arith)) in
    let here = capped-within c a (each 0 (omega arith)) in
    let t = total-cons c caps in
    let s = int_sum-cons (of_capped c a) (along of_capped caps ys) in
    rw (s, t) (omega (arith, ints))

all-parted : (caps : List ℕ) (ys : List ℤ) → length caps ≡ length ys → int_sum (along of_capped caps ys) +ℤ int_sum (along of_uncapped caps ys) ≡ int_sum ys
all-parted [] [] e = refl
all-parted [] (a ∷ ys) e = absurd (omega arith)
all-parted (c ∷ caps) [] e = absurd (omega arith)
all-parted (c ∷ caps) (a ∷ ys) e =
    let rest = all-parted caps ys (omega arith) in
    let here = parted c a in
    let s = int_sum-cons a ys in
    let p = int_sum-cons (of_capped c a) (along of_capped caps ys) in
    let q = int_sum-cons (of_uncapped c a) (along of_uncapped caps ys) in
    rw (s, p, q) (omega (arith, ints))

-- where no owner is capped, capped owners bear nothing
none-capped : (caps : List ℕ) (ys : List ℤ) → length caps ≡ length ys → total caps ≡ 0 → int_sum (along of_capped caps ys) ≡ pos 0
none-capped [] ys e z = refl
none-capped (c ∷ caps) [] e z = absurd (omega arith)
none-capped (c ∷ caps) (a ∷ ys) e z =
    let t = total-cons c caps in
    let zero-cap : c ≡ 0 = omega arith in
    let rest = none-capped caps ys (omega arith) (omega arith) in
    let here : of_capped c a ≡ pos 0 = rw zero-cap refl in
    int_sum-cons (of_capped c a) (along of_capped caps ys) ∙ (rw (here, rest) refl)

each-along : (f : ℕ → ℤ → ℤ) → ((cap : ℕ) (b : ℤ) → pos 0 ≤ℤ f cap b) → (caps : List ℕ) (bs : List ℤ) → length caps ≡ length bs → (k : ℕ) → k < length (along f caps bs) → pos 0 ≤ℤ slice_index_or (along f caps bs) k (pos 0)
each-along f each caps bs e k l =
    let lt : k < length caps = omega (arith, length-along f caps bs e) in
    let is = get_or-along f caps bs k 0 (pos 0) (pos 0) e lt in
    rw is (each (slice_index caps k) (slice_index_or bs k (pos 0)))

module _ (rule : ℤ → List ℕ → List ℤ) (laws : Divides rule) (caps : List ℕ) (bs : List ℤ) (same : length caps ≡ length bs) where
  pub headrooms-long : length (along headroom caps bs) ≡ length caps
  headrooms-long = length-along headroom caps bs same

  headroom-weights-long : length (map unsigned_abs (along headroom caps bs)) ≡ length caps
  headroom-weights-long = length-map (along headroom caps bs) unsigned_abs ∙ headrooms-long

  benefit-weights-long : length (map unsigned_abs (along benefit caps bs)) ≡ length caps
  benefit-weights-long = length-map (along benefit caps bs) unsigned_abs ∙ length-along benefit caps bs same

  pub excesses-long : length (along excess caps bs) ≡ length caps
  excesses-long = length-along excess caps bs same

  -- there is one of each column for every owner
  within-long : length (payments_within rule caps bs) ≡ length caps
  unfolding payments_within
  within-long = laws.as_many_shares _ _ ∙ headroom-weights-long

  pub rest-long : (z : ℤ) → length (rule z (map unsigned_abs (along benefit caps bs))) ≡ length caps
  rest-long z = laws.as_many_shares _ _ ∙ benefit-weights-long

  beyond-long : length (payments_beyond rule caps bs) ≡ length caps
  unfolding payments_beyond
  beyond-long = length-added (along headroom caps bs) _ (headrooms-long ∙ sym (rest-long _)) ∙ headrooms-long

  pub payments-long : length (payments rule caps bs) ≡ length caps
  unfolding payments
  payments-long = cond_both (int_lt (all_headroom caps bs) (all_excess caps bs)) (payments_beyond rule caps bs) (payments_within rule caps bs) (λ xs. length xs ≡ length caps) (λ _. beyond-long) (λ _. within-long)

  pub mitigations-long : length (mitigations rule caps bs) ≡ length caps
  unfolding mitigations
  mitigations-long = length-along ◌-ℤ◌ (payments rule caps bs) (along excess caps bs) (payments-long ∙ sym excesses-long) ∙ payments-long

  pub adjusted-long : length (adjusted rule caps bs) ≡ length caps
  unfolding adjusted
  adjusted-long = length-added bs (mitigations rule caps bs) (sym same ∙ sym mitigations-long) ∙ sym same

  pub again-long : length (along of_uncapped caps (adjusted rule caps bs)) ≡ length caps
  again-long = length-along of_uncapped caps (adjusted rule caps bs) (sym adjusted-long)

  pub finals-long : length (finals rule caps bs) ≡ length caps
  unfolding finals
  finals-long = length-added (rule _ caps) (along of_uncapped caps (adjusted rule caps bs)) (laws.as_many_shares _ caps ∙ sym again-long) ∙ laws.as_many_shares _ caps

  pub transitions-long : length (transitions rule caps bs) ≡ length caps
  unfolding transitions
  transitions-long = length-along ◌-ℤ◌ (finals rule caps bs) bs (finals-long ∙ same) ∙ finals-long

  -- the weights are the columns
  headroom-weights : pos (total (map unsigned_abs (along headroom caps bs))) ≡ all_headroom caps bs
  headroom-weights = magnitudes-total (along headroom caps bs) (each-along headroom headroom-not-negative caps bs same)

  benefit-weights : pos (total (map unsigned_abs (along benefit caps bs))) ≡ int_sum (along benefit caps bs)
  benefit-weights = magnitudes-total (along benefit caps bs) (each-along benefit benefit-not-negative caps bs same)

  excess-sum-not-negative : pos 0 ≤ℤ all_excess caps bs
  excess-sum-not-negative = let e = magnitudes-total (along excess caps bs) (each-along excess excess-not-negative caps bs same) in omega (arith, ints)

  module _ (none : int_sum bs ≡ pos 0) where
    -- uncapped owners' benefits cover what headroom does not
    rest-covered : (all_excess caps bs -ℤ all_headroom caps bs) ≤ℤ pos (total (map unsigned_abs (along benefit caps bs)))
    rest-covered = omega (arith, ints, all-balance caps bs same, benefit-weights)

    -- the payments come to all excess
    within-sum : all_excess caps bs ≤ℤ all_headroom caps bs → int_sum (payments_within rule caps bs) ≡ all_excess caps bs
    unfolding payments_within
    within-sum h =
        ⊎_elim
        (λ l. laws.shares_add_up _ _ l)
        (λ l. omega (arith, ints, sum-without-weight rule laws (all_excess caps bs) (map unsigned_abs (along headroom caps bs)) (omega arith), headroom-weights, excess-sum-not-negative))
        (cases_lt 0 (total (map unsigned_abs (along headroom caps bs))))

    beyond-sum : all_headroom caps bs <ℤ all_excess caps bs → int_sum (payments_beyond rule caps bs) ≡ all_excess caps bs
    unfolding payments_beyond
    beyond-sum h =
        let some : 0 < total (map unsigned_abs (along benefit caps bs)) = omega (arith, ints, rest-covered) in
        let up = laws.shares_add_up (all_excess caps bs -ℤ all_headroom caps bs) (map unsigned_abs (along benefit caps bs)) some in
        let s = sum_added (along headroom caps bs) (rule (all_excess caps bs -ℤ all_headroom caps bs) (map unsigned_abs (along benefit caps bs))) (headrooms-long ∙ sym (rest-long _)) in
        omega (arith, ints)

    pub payments-sum : int_sum (payments rule caps bs) ≡ all_excess caps bs
    unfolding payments
    payments-sum =
        cond_both (int_lt (all_headroom caps bs) (all_excess caps bs)) (payments_beyond rule caps bs) (payments_within rule caps bs) (λ xs. int_sum xs ≡ all_excess caps bs)
        (λ e. beyond-sum (less_by _ _ e))
        (λ e. within-sum (more_by _ _ e))

    module _ (k : ℕ) (l : k < length caps) where
      abbrev cap : ℕ
      cap = slice_index caps k

      abbrev burden : ℤ
      burden = slice_index_or bs k (pos 0)

      headroom-at : get_or (along headroom caps bs) k (pos 0) ≡ headroom cap burden
      headroom-at = get_or-along headroom caps bs k 0 (pos 0) (pos 0) same l

      weight-at : (f : ℕ → ℤ → ℤ) → pos 0 ≤ℤ f cap burden → pos (slice_index (map unsigned_abs (along f caps bs)) k) ≡ f cap burden
      weight-at f h =
          let m = get_or-map unsigned_abs (along f caps bs) k (pos 0) 0 (omega (arith, length-along f caps bs same)) in
          let a = get_or-along f caps bs k 0 (pos 0) (pos 0) same l in
          rw (m, a) (omega (arith, ints))

      -- no owner pays more than its headroom, or its benefit if it is uncapped
      within-bound : all_excess caps bs ≤ℤ all_headroom caps bs → slice_index_or (payments_within rule caps bs) k (pos 0) ≤ℤ headroom cap burden
      unfolding payments_within
      within-bound h =
          let p = laws.no_share_passes_its_weight (all_excess caps bs) (map unsigned_abs (along headroom caps bs)) (omega (arith, ints, headroom-weights)) k (omega (arith, headroom-weights-long)) in
          omega (arith, ints, p, weight-at headroom (headroom-not-negative cap burden))

      beyond-bound : get_or (payments_beyond rule caps bs) k (pos 0) ≤ℤ (headroom cap burden +ℤ benefit cap burden)
      unfolding payments_beyond
      beyond-bound =
          let p = laws.no_share_passes_its_weight (all_excess caps bs -ℤ all_headroom caps bs) (map unsigned_abs (along benefit caps bs)) rest-covered k (omega (arith, benefit-weights-long)) in
          let s = get_or-added (along headroom caps bs) (rule (all_excess caps bs -ℤ all_headroom caps bs) (map unsigned_abs (along benefit caps bs))) k (headrooms-long ∙ sym (rest-long _)) in
          rw s (omega (arith, ints, p, headroom-at, weight-at benefit (benefit-not-negative cap burden)))

      pub payment-bound : get_or (payments rule caps bs) k (pos 0) ≤ℤ (headroom cap burden +ℤ benefit cap burden)
      unfolding payments
      payment-bound =
          cond_both (int_lt (all_headroom caps bs) (all_excess caps bs)) (payments_beyond rule caps bs) (payments_within rule caps bs) (λ xs. slice_index_or xs k (pos 0) ≤ℤ (headroom cap burden +ℤ benefit cap burden))
          (λ _. beyond-bound)
          (λ e. omega (arith, ints, within-bound (more_by _ _ e), benefit-not-negative cap burden))

      adjusted-at : get_or (adjusted rule caps bs) k (pos 0) ≡ burden +ℤ (slice_index_or (payments rule caps bs) k (pos 0) -ℤ excess cap burden)
      unfolding adjusted mitigations
      adjusted-at =
          let s = get_or-added bs (along ◌-ℤ◌ (payments rule caps bs) (along excess caps bs)) k (sym same ∙ sym mitigations-long) in
          let m = get_or-along ◌-ℤ◌ (payments rule caps bs) (along excess caps bs) k (pos 0) (pos 0) (pos 0) (payments-long ∙ sym excesses-long) (omega (arith, payments-long)) in
          let x = get_or-along excess caps bs k 0 (pos 0) (pos 0) same l in
          s ∙ ap (λ z. burden +ℤ z) (m ∙ ap (λ z. slice_index_or (payments rule caps bs) k (pos 0) -ℤ z) x)

      -- so no adjusted burden passes the cap
      pub adjusted-bound : get_or (adjusted rule caps bs) k (pos 0) ≤ℤ pos cap
      adjusted-bound = omega (arith, ints, adjusted-at, payment-bound, balance cap burden)

    pub adjusted-sum : int_sum (adjusted rule caps bs) ≡ pos 0
    unfolding adjusted mitigations
    adjusted-sum =
        let s = sum_added bs (mitigations rule caps bs) (sym same ∙ sym mitigations-long) in
        let m = sum_less (payments rule caps bs) (along excess caps bs) (payments-long ∙ sym excesses-long) in
        omega (arith, ints, s, m, payments-sum)

    abbrev capped_sum : ℤ
    capped_sum = int_sum (along of_capped caps (adjusted rule caps bs))

    capped-within-caps : capped_sum ≤ℤ pos (total caps)
    capped-within-caps = capped-sum caps (adjusted rule caps bs) (sym adjusted-long) adjusted-bound

    -- no final burden passes its cap, or 0 for an uncapped owner
    pub finals-within-caps : (k : ℕ) → k < length caps → slice_index_or (finals rule caps bs) k (pos 0) ≤ℤ pos (slice_index caps k)
    unfolding finals
    finals-within-caps k l =
        let p = laws.no_share_passes_its_weight capped_sum caps capped-within-caps k l in
        let u = get_or-along of_uncapped caps (adjusted rule caps bs) k 0 (pos 0) (pos 0) (sym adjusted-long) l in
        let w = uncapped-within (slice_index caps k) (slice_index_or (adjusted rule caps bs) k (pos 0)) (adjusted-bound k l) in
        let s = get_or-added (rule capped_sum caps) (along of_uncapped caps (adjusted rule caps bs)) k (laws.as_many_shares capped_sum caps ∙ sym again-long) in
        rw (s, u) (omega (arith, ints))

    again-sum : int_sum (rule capped_sum caps) ≡ capped_sum
    again-sum =
        ⊎_elim
        (λ l. laws.shares_add_up capped_sum caps l)
        (λ l.
        let z : total caps ≡ 0 = omega arith in
        sum-without-weight rule laws capped_sum caps z ∙ sym (none-capped caps (adjusted rule caps bs) (sym adjusted-long) z))
        (cases_lt 0 (total caps))

    pub finals-sum : int_sum (finals rule caps bs) ≡ pos 0
    unfolding finals
    finals-sum =
        let s = sum_added (rule capped_sum caps) (along of_uncapped caps (adjusted rule caps bs)) (laws.as_many_shares capped_sum caps ∙ sym again-long) in
        let p = all-parted caps (adjusted rule caps bs) (sym adjusted-long) in
        omega (arith, ints, s, p, again-sum, adjusted-sum)

    -- the transition charges add up to 0
    pub transitions-sum : int_sum (transitions rule caps bs) ≡ pos 0
    unfolding transitions
    transitions-sum = sum_less (finals rule caps bs) bs (finals-long ∙ same) ∙ ap (λ z. z -ℤ int_sum bs) finals-sum ∙ ap (λ z. pos 0 -ℤ z) none
