-- The columns of transition as the code has them, in lists by value.
use Rattle.std.proofs.Common.{◌≡◌, ℕ, ◌<◌, ◌≤◌, true, false, List, map, zip, length, get_or, take, ℤ, pos, ◌-ℤ◌, nat_abs, sym, ap, ◌∙◌, subst, ⊎_elim, arith, w64, to_z, of_z}
use lib.Signed.{lt_z}
use Rattle.std.specs.Borrow.{Bor}
use Rattle.std.proofs.lemmas.List.{length-take-le, get_or-take, get_or_past}
use Rattle.std.proofs.lemmas.Bool.{cases_lt, cond-true, cond-false}
use Rattle.division.specs.Shares.{int_sum, shares, total}
use Rattle.division.proofs.Divides.{running-divides}
use Rattle.charges.specs.Amounts.{amounts_of, AllBelow}
use Rattle.charges.specs.Burdens.{along, of_capped, of_uncapped, excess, headroom, benefit, all_excess, all_headroom, payments_within, payments_beyond, payments, mitigations, adjusted, finals, transitions}
use Rattle.charges.specs.Charging.{added}
use Rattle.charges.specs.declared.burdens.Burdens.{Burdens}
use Rattle.charges.specs.declared.owners.Owners.{Owners}
use Rattle.charges.specs.declared.caps.Caps.{Caps}
use Rattle.charges.specs.Capping.{adjusted-long}
use Rattle.charges.proofs.Given.{of_pairs}
use Rattle.charges.proofs.Sizes.{owners-long, below-sum, below-weaker, caps-along, caps-total}
use Rattle.charges.proofs.Limited.{excesses-below, headrooms-below, benefits-below, excess-sum-size, headroom-sum-size, payments-below, mitigations-below, capped-below, uncapped-below, finals-below, transitions-below, again-below, rest_below}
use Rattle.charges.specs.Parts.{count_of}

abbrev read : ℤ → ℤ
read z = to_z w64 (of_z w64 z)

-- a list by value that holds a column of small amounts
pub held : (r : Owners ℤ) (xs : List ℤ) (m : ℕ) → amounts_of r ≡ xs → m ≤ 1000000000000000 → AllBelow m xs → AllBelow 1000000000000000 (amounts_of r)
held r xs m e h all k = rw e (omega (arith, all k))

module _ (s : Caps) (burdens : Burdens) where
  abbrev a : Owners ℤ
  a = burdens.amounts

  abbrev caps : List ℕ
  caps = take a.count s.items

  abbrev bs : List ℤ
  bs = amounts_of a

  small : AllBelow 500000000000 bs
  small = burdens.small

  caps-long : length caps ≡ a.count
  caps-long = length-take-le a.count s.items (omega (arith, s.long, a.few))

  same : length caps ≡ length bs
  same = caps-long ∙ sym (owners-long a)

  few : length caps ≤ 16
  few = omega (arith, caps-long, a.few)

  small-caps : (k : ℕ) → get_or caps k 0 ≤ 60000000
  small-caps k =
      ⊎_elim
      (λ (l : k < a.count). subst (λ n. n ≤ 60000000) (sym (get_or-take a.count s.items k 0 l)) (s.within k))
      (λ (l : a.count ≤ k). subst (λ n. n ≤ 60000000) (sym (get_or_past caps k 0 (omega (arith, caps-long)))) (omega arith))
      (cases_lt k a.count)

  pub burdens-held : AllBelow 1000000000000000 bs
  burdens-held = below-weaker 500000000000 1000000000000000 bs (omega arith) small

  -- of an owner's cap beside its burden
  pub pairs-held : (zs : List (ℕ × ℤ)) → zs ≡ zip caps bs → (k : ℕ) (o : ℕ × ℤ) → k < length zs → (p : Bor (ℕ × ℤ)) → p.now ≡ get_or zs k o → nat_abs p.now.1 ≤ 1000000000000000
  pairs-held zs e = of_pairs (λ p. nat_abs p.1 ≤ 1000000000000000) zs caps bs e 0 (pos 0) (λ k l m. burdens-held k)

  pub excess-held : (x : Owners ℤ) → amounts_of x ≡ along excess caps bs → AllBelow 1000000000000000 (amounts_of x)
  excess-held x e = held x (along excess caps bs) 600000000000 e (omega arith) (excesses-below caps bs same few small-caps small)

  pub headroom-held : (h : Owners ℤ) → amounts_of h ≡ along headroom caps bs → AllBelow 1000000000000000 (amounts_of h)
  headroom-held h e = held h (along headroom caps bs) 600000000000 e (omega arith) (headrooms-below caps bs same few small-caps small)

  pub benefit-held : (b : Owners ℤ) → amounts_of b ≡ along benefit caps bs → AllBelow 1000000000000000 (amounts_of b)
  benefit-held b e = held b (along benefit caps bs) 600000000000 e (omega arith) (benefits-below caps bs same few small-caps small)

  -- the payments
  module _ (x h : ℤ) (x-is : x ≡ all_excess caps bs) (h-is : h ≡ all_headroom caps bs) where
    pub totals-small : (nat_abs x ≤ 9600000000000) × (nat_abs h ≤ 9600000000000)
    totals-small = (rw x-is (excess-sum-size caps bs same few small-caps small), rw h-is (headroom-sum-size caps bs same few small-caps small))

    -- what is divided by benefit
    module _ (d b : Owners ℤ) (z : ℤ) (b-is : amounts_of b ≡ along benefit caps bs) (d-is : amounts_of d ≡ shares z (map nat_abs (amounts_of b))) (z-is : z ≡ x -ℤ h) where
      rest-shares : amounts_of d ≡ shares (all_excess caps bs -ℤ all_headroom caps bs) (map nat_abs (along benefit caps bs))
      rest-shares = rw (← x-is, ← h-is, ← z-is, ← b-is) d-is

      pub rest-held : AllBelow 1000000000000000 (amounts_of d)
      rest-held = held d _ 19200000000000 rest-shares (omega arith) (rest_below caps bs same few small-caps small shares running-divides)

      pub beyond-are : (r g : Owners ℤ) → amounts_of g ≡ along headroom caps bs → amounts_of r ≡ added (amounts_of g) (amounts_of d) → lt_z h x ≡ true → amounts_of r ≡ payments shares caps bs
      unfolding payments payments_beyond
      beyond-are r g g-is r-is t =
          r-is ∙ ap (λ ys. added ys (amounts_of d)) g-is ∙ ap (added (along headroom caps bs)) rest-shares ∙ sym (cond-true _ _ _ (rw (x-is, h-is) at t))

    pub within-are : (r g : Owners ℤ) (z : ℤ) → amounts_of g ≡ along headroom caps bs → amounts_of r ≡ shares z (map nat_abs (amounts_of g)) → z ≡ x → lt_z h x ≡ false → amounts_of r ≡ payments shares caps bs
    unfolding payments payments_within
    within-are r g z g-is r-is z-is t =
        r-is ∙ ap (λ y. shares y (map nat_abs (amounts_of g))) (z-is ∙ x-is) ∙ ap (λ ys. shares (all_excess caps bs) (map nat_abs ys)) g-is ∙ sym (cond-false _ _ _ (rw (x-is, h-is) at t))

  -- the adjusted burdens
  module _ (p x : Owners ℤ) (p-is : amounts_of p ≡ payments shares caps bs) (x-is : amounts_of x ≡ along excess caps bs) where
    pub payments-held : AllBelow 1000000000000000 (amounts_of p)
    payments-held = held p _ 20000000000000 p-is (omega arith) (payments-below caps bs same few small-caps small shares running-divides)

    module _ (m : Owners ℤ) (m-is : amounts_of m ≡ along ◌-ℤ◌ (amounts_of p) (amounts_of x)) where
      pub mitigations-are : amounts_of m ≡ mitigations shares caps bs
      unfolding mitigations
      mitigations-are = m-is ∙ ap (λ ys. along ◌-ℤ◌ ys (amounts_of x)) p-is ∙ ap (along ◌-ℤ◌ (payments shares caps bs)) x-is

      pub mitigations-held : AllBelow 1000000000000000 (amounts_of m)
      mitigations-held = held m _ 21000000000000 mitigations-are (omega arith) (mitigations-below caps bs same few small-caps small shares running-divides)

      pub adjusted-are : (r : Owners ℤ) → amounts_of r ≡ added bs (amounts_of m) → amounts_of r ≡ adjusted shares caps bs
      unfolding adjusted
      adjusted-are r r-is = r-is ∙ ap (added bs) mitigations-are

  -- the final burdens
  module _ (j : Owners ℤ) (j-is : amounts_of j ≡ adjusted shares caps bs) where
    pub adjusted-counted : j.count ≡ a.count
    adjusted-counted = count_of j _ j-is ∙ adjusted-long shares running-divides caps bs same ∙ caps-long

    -- a gauge that reads the adjusted burdens
    gauged : (f : ℕ → ℤ → ℤ) (x : Owners ℤ) → amounts_of x ≡ along f (take j.count s.items) (amounts_of j) → amounts_of x ≡ along f caps (adjusted shares caps bs)
    gauged f x e = e ∙ ap (λ n. along f (take n s.items) (amounts_of j)) adjusted-counted ∙ ap (along f caps) j-is

    pub capped-small : (x : Owners ℤ) → amounts_of x ≡ along of_capped (take j.count s.items) (amounts_of j) → nat_abs (int_sum (amounts_of x)) ≤ 352000000000000
    capped-small x e =
        let each : AllBelow 22000000000000 (amounts_of x) = rw (gauged of_capped x e) (capped-below caps bs same few small-caps small shares running-divides) in
        omega (arith, below-sum 22000000000000 (amounts_of x) each, owners-long x, x.few)

    pub own_held : (x : Owners ℤ) → amounts_of x ≡ along of_uncapped (take j.count s.items) (amounts_of j) → AllBelow 1000000000000000 (amounts_of x)
    own_held x e = held x _ 22000000000000 (gauged of_uncapped x e) (omega arith) (uncapped-below caps bs same few small-caps small shares running-divides)

    -- the caps, by which capped owners share again
    weighed : (ws : List ℕ) → ws ≡ along (λ cap _. cap) (take j.count s.items) (amounts_of j) → ws ≡ caps
    weighed ws e = e ∙ ap (λ n. along (λ cap _. cap) (take n s.items) (amounts_of j)) adjusted-counted ∙ ap (along (λ cap _. cap) caps) j-is ∙ caps-along caps (adjusted shares caps bs) (sym (adjusted-long shares running-divides caps bs same))

    pub little-caps : (ws : List ℕ) → ws ≡ along (λ cap _. cap) (take j.count s.items) (amounts_of j) → total ws ≤ 16000000000000000
    little-caps ws e = rw (weighed ws e) (omega (arith, caps-total caps 60000000 small-caps, caps-long, a.few))

    -- what capped owners bear, divided again
    module _ (g d : Owners ℤ) (ws : List ℕ) (z : ℤ)
        (g-is : amounts_of g ≡ along of_capped (take j.count s.items) (amounts_of j))
        (ws-are : ws ≡ along (λ cap _. cap) (take j.count s.items) (amounts_of j))
        (d-is : amounts_of d ≡ shares z ws) (z-is : z ≡ int_sum (amounts_of g)) where
      again-are : amounts_of d ≡ shares (int_sum (along of_capped caps (adjusted shares caps bs))) caps
      again-are = d-is ∙ ap (λ y. shares y ws) (z-is ∙ ap int_sum (gauged of_capped g g-is)) ∙ ap (shares (int_sum (along of_capped caps (adjusted shares caps bs)))) (weighed ws ws-are)

      pub again-held : AllBelow 1000000000000000 (amounts_of d)
      again-held = held d _ 352000000000000 again-are (omega arith) (again-below caps bs same few small-caps small shares running-divides)

      pub finals-are : (r x : Owners ℤ) → amounts_of x ≡ along of_uncapped (take j.count s.items) (amounts_of j) → amounts_of r ≡ added (amounts_of d) (amounts_of x) → amounts_of r ≡ finals shares caps bs
      unfolding finals
      finals-are r x x-is r-is = r-is ∙ ap (λ ys. added ys (amounts_of x)) again-are ∙ ap (added (shares (int_sum (along of_capped caps (adjusted shares caps bs))) caps)) (gauged of_uncapped x x-is)

  -- the transition charges
  module _ (f : Owners ℤ) (f-is : amounts_of f ≡ finals shares caps bs) where
    pub finals-held : AllBelow 1000000000000000 (amounts_of f)
    finals-held = held f _ 380000000000000 f-is (omega arith) (finals-below caps bs same few small-caps small shares running-divides)

    pub transitions-are : (r : Owners ℤ) → amounts_of r ≡ along ◌-ℤ◌ (amounts_of f) bs → amounts_of r ≡ transitions shares caps bs
    unfolding transitions
    transitions-are r r-is = r-is ∙ ap (λ ys. along ◌-ℤ◌ ys bs) f-is

  pub charges-held : (r : Owners ℤ) → amounts_of r ≡ transitions shares caps bs → AllBelow 400000000000000 (amounts_of r)
  charges-held r e k = rw e (transitions-below caps bs same few small-caps small shares running-divides k)
