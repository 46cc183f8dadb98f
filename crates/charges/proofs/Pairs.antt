-- The pairs of two owners' lists, place by place.
use Rattle.std.proofs.Common.{◌≡◌, ℕ, ◌<◌, min, zip, length, get_or, take, refl, sym, ◌∙◌, arith}
use Rattle.std.proofs.lemmas.List.{get_or-take, length-take-le}
use Rattle.std.proofs.lemmas.Slice.Zip.{get_or-zip, length-zip}
use Rattle.charges.specs.Owners.{items_of}
use Rattle.charges.specs.declared.owners.Owners.{Owners}
use Rattle.charges.proofs.Sizes.{owners-long}

-- as many as the shorter list has
module _ {X Y : Type 0} (a : Owners X) (b : Owners Y) (n : ℕ) (n-is : n ≡ min a.count b.count) where
  pub cut : length (take n a.items) ≡ n
  cut = length-take-le n a.items (omega (arith, n-is, a.fits))

  pub pairs-long : length (zip (items_of a) (items_of b)) ≡ n
  pairs-long = omega (arith, length-zip (items_of a) (items_of b), owners-long a, owners-long b, n-is)

  module _ (i : ℕ) (x : X) (y : Y) (low : i < length (take n a.items)) (x-is : x ≡ get_or (take n a.items) i x) (y-is : y ≡ get_or b.items i y) where
    below : i < n
    below = omega (arith, low, cut)

    pub pair-within : i < length (zip (items_of a) (items_of b))
    pair-within = omega (arith, pairs-long, below)

    pub pair-at : get_or (zip (items_of a) (items_of b)) i (x, y) ≡ (x, y)
    pair-at =
        let one : get_or (items_of a) i x ≡ x = get_or-take a.count a.items i x (omega (arith, below, n-is)) ∙ sym (get_or-take n a.items i x below) ∙ sym x-is in
        let other : get_or (items_of b) i y ≡ y = get_or-take b.count b.items i y (omega (arith, below, n-is)) ∙ sym y-is in
        get_or-zip (items_of a) (items_of b) i (x, y) (omega (arith, below, n-is, owners-long a)) (omega (arith, below, n-is, owners-long b)) ∙ rw (one, other) refl
