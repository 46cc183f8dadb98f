-- Dividing requirements for existing facilities alone.
use Rattle.std.proofs.Common.{◌≡◌, ℕ, List, [], ◌∷◌, map, ℤ, pos, ◌+ℤ◌, fold, sym, refl, ap, ◌∙◌, arith}
use Rattle.std.proofs.lemmas.Int.{ints}
use Rattle.division.specs.Shares.{total, int_sum, shares}
use Rattle.division.proofs.Totals.{int_sum-cons}
use Rattle.charges.specs.Charging.{added, parts_of}
use Rattle.charges.specs.Pools.{weight, weights}
use Rattle.charges.specs.Promises.{existing_only, DividesExistingAlone}
use Rattle.charges.specs.Rows.{all_ehv, all_nhv, area_ehv, ehv_in}
use Rattle.charges.specs.Transition.{existing_grid, existing_pools}
use Rattle.charges.specs.Volumetric.{area_pool, grid_pool, volumetric_pools}
use Rattle.charges.specs.declared.pool.Basis.{Basis}
use Rattle.charges.specs.declared.pool.Basis.TheVariants.{AreaLoad, GridLoad, Peak}
use Rattle.charges.specs.declared.pool.Pool.{Pool}
use Rattle.charges.specs.declared.table.OwnerRow.{OwnerRow}

-- a figure of a row that does not look at new facilities
same-figures : {X : Type 0} (f : OwnerRow → X) → ((r : OwnerRow) → f (existing_only r) ≡ f r) → (rows : List OwnerRow) → map f (map existing_only rows) ≡ map f rows
same-figures f each [] = refl
same-figures f each (r ∷ rows) = ap (λ x. x ∷ map f (map existing_only rows)) (each r) ∙ ap (λ xs. f r ∷ xs) (same-figures f each rows)

same-weight : (basis : Basis) (r : OwnerRow) → weight basis (existing_only r) ≡ weight basis r
same-weight (AreaLoad area) r = refl
same-weight GridLoad r = refl
same-weight Peak r = refl

four : {p q r s p' q' r' s' : Pool} → p ≡ p' → q ≡ q' → r ≡ r' → s ≡ s' → p ∷ q ∷ r ∷ s ∷ [] ≡ p' ∷ q' ∷ r' ∷ s' ∷ []
four a b c d = cc

no-new : (rows : List OwnerRow) → all_nhv (map existing_only rows) ≡ pos 0
no-new [] = refl
no-new (r ∷ rows) = int_sum-cons (pos 0) (map (λ (x : OwnerRow). x.nhv) (map existing_only rows)) ∙ ap (λ z. pos 0 +ℤ z) (no-new rows)

module _ (rows : List OwnerRow) where
  abbrev alone : List OwnerRow
  alone = map existing_only rows

  same-weights : (basis : Basis) → weights basis alone ≡ weights basis rows
  same-weights basis = same-figures (weight basis) (same-weight basis) rows

  same_area : (area : ℕ) → area_ehv area alone ≡ area_ehv area rows
  same_area area = ap int_sum (same-figures (ehv_in area) (λ _. refl) rows)

  same-ehv : all_ehv alone ≡ all_ehv rows
  same-ehv = ap int_sum (same-figures (λ r. r.ehv) (λ _. refl) rows)

  same-pool : (sum other : ℤ) (basis : Basis) → sum ≡ other → ◌≡◌ {A = Pool} (record { sum = sum; basis = basis; filed = total (weights basis rows) }) (record { sum = other; basis = basis; filed = total (weights basis alone) })
  same-pool sum other basis e = ap (λ (z : ℤ). record { sum = z; basis = basis; filed = total (weights basis rows) }) e ∙ ap (λ (ws : List ℕ). record { sum = other; basis = basis; filed = total ws }) (sym (same-weights basis))

  module _ (tenths : ℕ) where
    same-area-pool : (area : ℕ) → area_pool tenths area rows ≡ area_pool tenths area alone
    same-area-pool area = rw (same_area area)

    same-grid : existing_grid tenths rows ≡ grid_pool tenths alone
    same-grid = rw (← same-area-pool 0, ← same-area-pool 1, ← same-area-pool 2, same-ehv, no-new rows) (omega (arith, ints))

    same-pools : existing_pools tenths rows ≡ volumetric_pools tenths alone
    same-pools =
        four
        (same-pool (area_pool tenths 0 rows) (area_pool tenths 0 alone) (AreaLoad 0) (same-area-pool 0))
        (same-pool (area_pool tenths 1 rows) (area_pool tenths 1 alone) (AreaLoad 1) (same-area-pool 1))
        (same-pool (area_pool tenths 2 rows) (area_pool tenths 2 alone) (AreaLoad 2) (same-area-pool 2))
        (same-pool (existing_grid tenths rows) (grid_pool tenths alone) GridLoad same-grid)

  from-same : (pools : List Pool) (parts : List ℤ) →
      fold (λ ps p. added ps (shares p.sum (weights p.basis rows))) parts pools ≡ fold (λ ps p. added ps (shares p.sum (weights p.basis alone))) parts pools
  from-same [] parts = refl
  from-same (p ∷ pools) parts =
      ap (λ ws. fold (λ ps (q : Pool). added ps (shares q.sum (weights q.basis rows))) (added parts (shares p.sum ws)) pools) (sym (same-weights p.basis))
      ∙ from-same pools (added parts (shares p.sum (weights p.basis alone)))

  same_start : map (λ (_ : OwnerRow). pos 0) alone ≡ map (λ (_ : OwnerRow). pos 0) rows
  same_start = same-figures (λ _. pos 0) (λ _. refl) rows

pub existing-alone : (tenths : ℕ) → DividesExistingAlone tenths
existing-alone tenths rows =
    from-same rows (existing_pools tenths rows) (map (λ _. pos 0) rows)
    ∙ ap (λ start. fold (λ ps (p : Pool). added ps (shares p.sum (weights p.basis (map existing_only rows)))) start (existing_pools tenths rows)) (sym (same_start rows))
    ∙ ap (λ pools. parts_of pools (map existing_only rows)) (same-pools rows tenths)
