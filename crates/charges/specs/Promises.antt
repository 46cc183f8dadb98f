-- What every transition layer promises.
use Rattle.std.specs.Prelude.{◌≡◌, ℕ, ◌<◌, List, map, length, pos, ◌≤ℤ◌, None, slice_index, slice_index_or}
use Rattle.division.specs.Shares.{int_sum, shares}
use Rattle.charges.specs.Charging.{parts_of, unfiled_checks}
use Rattle.charges.specs.Checks.{first_fault}
use Rattle.charges.specs.Rows.{Good}
use Rattle.charges.specs.Transition.{existing_pools, final_burdens, transition_charges}
use Rattle.charges.specs.Volumetric.{volumetric_pools}
use Rattle.charges.specs.declared.table.OwnerRow.{OwnerRow}

-- a row of an owner that requires nothing for new facilities
abbrev pub existing_only : OwnerRow → OwnerRow
existing_only r = record {
  area = r.area;
  ehv = r.ehv;
  nhv = pos 0;
  filed_load = r.filed_load;
  filed_peak = r.filed_peak;
  load = r.load;
  peak = r.peak;
}

-- the layer divides what the volumetric charge would, if nothing were required for new facilities
abbrev pub DividesExistingAlone : ℕ → Type 0
DividesExistingAlone tenths =
    (rows : List OwnerRow) → parts_of (existing_pools tenths rows) rows ≡ parts_of (volumetric_pools tenths (map existing_only rows)) (map existing_only rows)

-- every pool of existing facilities other than 0 has filed use
abbrev pub AllFiled : ℕ → List OwnerRow → Type 0
AllFiled tenths rows = first_fault (unfiled_checks (existing_pools tenths rows)) ≡ None

-- no final burden passes its cap, or 0 for an uncapped owner, whose cap stands as 0
abbrev pub BurdensStayWithinCaps : ℕ → List ℕ → Type 0
BurdensStayWithinCaps tenths caps =
    (rows : List OwnerRow) → Good rows → AllFiled tenths rows → (owner : ℕ) → owner < length rows →
    slice_index_or (final_burdens shares tenths caps rows) owner (pos 0) ≤ℤ pos (slice_index caps owner)

-- the transition charges add up to 0
abbrev pub TransitionChargesCancel : ℕ → List ℕ → Type 0
TransitionChargesCancel tenths caps =
    (rows : List OwnerRow) → Good rows → AllFiled tenths rows → int_sum (transition_charges shares tenths caps rows) ≡ pos 0
