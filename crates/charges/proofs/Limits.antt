-- The rows of every table keep the limits.
use Rattle.std.proofs.Common.{◌≡◌, ℕ, ◌<◌, ◌≤◌, false, ltb, List, length, get_or, pos, ◌==◌, nat_abs, sym, ap, ◌∙◌, arith}
use Rattle.std.proofs.ByRecursion.{All-get_or, All-from_get_or, All-weaker, sum_by_le}
use Rattle.std.proofs.lemmas.List.{length-take-le, get_or-take}
use Rattle.std.proofs.lemmas.Bool.{ltb-false, or_parts, cond_both}
use Rattle.charges.specs.Rows.{Good, RowWithin, RequiredWithin, UsedWithin, nobody, ehv_size, nhv_size, all_ehv, all_nhv, area_ehv, ehv_in}
use Rattle.charges.specs.Owners.{items_of}
use Rattle.charges.specs.Tables.{rows_of, outside_areas, outside_figure, outside_figures, outside_requirement, outside_use}
use Rattle.charges.specs.declared.owners.Owners.{Owners}
use Rattle.charges.specs.declared.table.OwnerRow.{OwnerRow}
use Rattle.charges.specs.declared.table.Table.{Table}
use Rattle.charges.specs.Scans.{each-lacks}
use Rattle.charges.proofs.Sums.{sum-size}

-- what a table's rows keep
pub table-good : (t : Table) → Good (rows_of t)
table-good t =
    let long = length-take-le t.rows.count t.rows.items t.rows.fits in
    record {
      some = omega (arith, t.some);
      few = omega (arith, t.rows.few);
      within = All-from_get_or RowWithin (rows_of t) nobody (λ i h.
          let lt : i < t.rows.count = omega arith in
          let same = get_or-take t.rows.count t.rows.items i nobody lt in
          rw same (record { required = t.required_within i lt; used = t.used_within i lt }));
      existing = t.existing;
      required = t.required;
    }

-- what its owners require is small together
module _ (t : Table) where
  pub ehv-small : nat_abs (all_ehv (rows_of t)) ≤ 2000000000
  ehv-small = omega (arith, sum-size (λ (r : OwnerRow). r.ehv) (λ r. nat_abs r.ehv) (λ r. omega arith) (rows_of t), (table-good t).existing)

  pub nhv-small : nat_abs (all_nhv (rows_of t)) ≤ 3000000000
  nhv-small = omega (arith, sum-size (λ (r : OwnerRow). r.nhv) (λ r. nat_abs r.nhv) (λ r. omega arith) (rows_of t), (table-good t).required)

  pub area-small : (area : ℕ) → nat_abs (area_ehv area (rows_of t)) ≤ 2000000000
  area-small area = omega (arith, sum-size (ehv_in area) (λ r. nat_abs r.ehv) one (rows_of t), (table-good t).existing)
    where
      one : (r : OwnerRow) → nat_abs (ehv_in area r) ≤ nat_abs r.ehv
      one r = cond_both (r.area == area) r.ehv (pos 0) (λ z. nat_abs z ≤ nat_abs r.ehv) (λ _. omega arith) (λ _. omega arith)

-- a row with no figure outside its limits
module _ (r : OwnerRow) (e : outside_figure r ≡ false) where
  used-inside : UsedWithin r
  used-inside =
      let p = or_parts (outside_requirement r) (outside_use r) e in
      let q = or_parts _ _ p.1 in
      let s = or_parts _ _ q.1 in
      let t = or_parts _ _ s.1 in
      (ltb-false 180000000 r.filed_load q.0, ltb-false 1000000 r.filed_peak s.0, ltb-false 100000000 r.load t.0, ltb-false 100000 r.peak t.1)

  dollars-inside : (nat_abs r.ehv ≤ 2000000000) × (nat_abs r.nhv ≤ 2000000000)
  dollars-inside =
      let p = or_parts (outside_requirement r) (outside_use r) e in
      let q = or_parts _ _ p.0 in
      (ltb-false 2000000000 _ q.0, ltb-false 2000000000 _ q.1)

-- rows that passed the checks
module _ (rows : List OwnerRow) (figures : outside_figures rows ≡ false) (i : ℕ) (h : i < length rows) where
  no-figure : outside_figure (get_or rows i nobody) ≡ false
  no-figure = All-get_or (λ r. outside_figure r ≡ false) rows i nobody h (each-lacks outside_figure rows figures)

  pub row-used : UsedWithin (get_or rows i nobody)
  row-used = used-inside (get_or rows i nobody) no-figure

  pub row-dollars : (nat_abs (get_or rows i nobody).ehv ≤ 2000000000) × (nat_abs (get_or rows i nobody).nhv ≤ 2000000000)
  row-dollars = dollars-inside (get_or rows i nobody) no-figure

  pub row-required : outside_areas rows ≡ false → RequiredWithin (get_or rows i nobody)
  row-required areas =
      let area = All-get_or (λ r. ltb 2 r.area ≡ false) rows i nobody h (each-lacks (λ r. ltb 2 r.area) rows areas) in
      (ltb-false 2 _ area, row-dollars.0, row-dollars.1)

-- so few rows require little together
pub sizes-little : (rows : List OwnerRow) → outside_figures rows ≡ false → length rows ≤ 16 → (ehv_size rows ≤ 32000000000) × (nhv_size rows ≤ 32000000000)
sizes-little rows figures few =
    let inside = each-lacks outside_figure rows figures in
    let ehv = All-weaker (λ r. outside_figure r ≡ false) (λ r. nat_abs r.ehv ≤ 2000000000) (λ r e. (dollars-inside r e).0) rows inside in
    let nhv = All-weaker (λ r. outside_figure r ≡ false) (λ r. nat_abs r.nhv ≤ 2000000000) (λ r e. (dollars-inside r e).1) rows inside in (
      omega (arith, few, sum_by_le (λ r. nat_abs r.ehv) 2000000000 rows ehv),
      omega (arith, few, sum_by_le (λ r. nat_abs r.nhv) 2000000000 rows nhv),
    )

-- a row stands in the table where it stood
pub kept_at : (rows : List OwnerRow) (o : Owners OwnerRow) → items_of o ≡ rows → (i : ℕ) → i < o.count → get_or rows i nobody ≡ get_or o.items i nobody
kept_at rows o same i h = sym (ap (λ xs. get_or xs i nobody) same) ∙ get_or-take o.count o.items i nobody h
