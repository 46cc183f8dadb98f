use Rattle.std.proofs.Common.{rules, ◌≡◌, ◌≤◌, ◌-ℤ◌, map, length, pos, nat_abs, None, refl, sym, ap, ◌∙◌, subst, w64, SFits, arith}
use Rattle.std.specs.List.{All}
use Rattle.std.proofs.lemmas.Int.{to_z-of_z}
use Rattle.std.proofs.lemmas.List.{length-map}
use Rattle.std.proofs.lemmas.Result.{err_from_is_err_and}
use Rattle.division.specs.Outcomes.{most_weight}
use Rattle.division.specs.Shares.{shares, total}
use Rattle.charges.specs.Amounts.{amounts_of}
use Rattle.charges.specs.Burdens.{along}
use Rattle.charges.specs.Checks.{first_fault, each_from}
use Rattle.charges.specs.Owners.{items_of}
use Rattle.charges.specs.Tables.{rows_of}
use Rattle.charges.proofs.Given.{all_zipped, given_each, given_of_pairs, granted_by, of_pairs}
use Rattle.charges.proofs.Limits.{table-good}
use Rattle.book.specs.Faults.{refusal}
use Rattle.book.specs.Workings.{adjustment, rate_check, utility_amount, weight_of}
use Rattle.book.proofs.Adjusting.{rate-stops, weight-stops, nothing_stops, amounts-small, shares-small, little-weight, length-shares}
use Rattle.book.proofs.Differences.{length-nets, nets-of-pairs}
use Rattle.book.proofs.netting.nets.Goals as goal

pub returns-in_err-all_rated : goal.returns-in_err-all_rated
returns-in_err-all_rated c =
    let p = err_from_is_err_and c.from_residual.result c.from_residual.ensures.1 in
    rw (p.1, p.2) (record { value = λ parts. rate-stops (rows_of c.args.table.now) (amounts_of c.args.bills.now) parts (refusal c.in_err-all_rated.field-0.0) (sym c.in_err-all_rated.ensures); many = tt })

pub difference-adjustment-requires : goal.difference-adjustment-requires
difference-adjustment-requires c =
    let clear = sym c.in_ok-all_rated.ensures in
    record { bills = c.requires.small; amounts = rw c.utility_amounts-amounts.ensures (amounts-small (rows_of c.args.table.now) (table-good c.args.table.now) clear) }

pub returns-then-unborne : goal.returns-then-unborne
returns-then-unborne c =
    let rows = rows_of c.args.table.now in
    let bills = amounts_of c.args.bills.now in
    let clear : first_fault (each_from rate_check 0 rows) ≡ None = sym c.in_ok-all_rated.ensures in
    let are = c.utility_amounts-amounts.ensures in
    let adj : c.difference-adjustment.result ≡ adjustment rows bills = rw are at c.difference-adjustment.ensures.value in
    let fit : SFits w64 c.difference-adjustment.result = record { sfits = c.difference-adjustment.type_inv } in
    let read = to_z-of_z w64 c.difference-adjustment.result fit in
    let fails = rw (read, adj, c.weights-weights.ensures) at c.if-unborne.ensures in
    record { value = λ parts. weight-stops rows bills parts clear (sym fails); many = tt }

pub unwrap-shares-requires : goal.unwrap-shares-requires
unwrap-shares-requires c =
    let little : total (items_of c.weights-weights.result) ≤ most_weight = rw c.weights-weights.ensures (omega (arith, little-weight (rows_of c.args.table.now) (table-good c.args.table.now))) in
    granted_by _ _ _ _ c.shares.ensures little

pub zip_map-nets-requires : goal.zip_map-nets-requires
zip_map-nets-requires c =
    let rows = rows_of c.args.table.now in
    let bills = amounts_of c.args.bills.now in
    let clear = sym c.in_ok-all_rated.ensures in
    let are = c.utility_amounts-amounts.ensures in
    let adj : c.difference-adjustment.result ≡ adjustment rows bills = rw are at c.difference-adjustment.ensures.value in
    let fit : SFits w64 c.difference-adjustment.result = record { sfits = c.difference-adjustment.type_inv } in
    let read = to_z-of_z w64 c.difference-adjustment.result fit in
    let parts : amounts_of c.unwrap-shares.result ≡ shares (adjustment rows bills) (map weight_of rows) = (rw (c.unwrap-shares.ensures, read, adj, c.weights-weights.ensures) at c.shares.ensures).1 in
    let small = rw adj at c.difference-adjustment.ensures.bound in
    let amounts = amounts-small rows (table-good c.args.table.now) clear in
    let shared = shares-small (adjustment rows bills) (map weight_of rows) 320000000000000 small in
    let billed = subst (All (λ p. (nat_abs p.0 ≤ 10000000000000) × (nat_abs p.1 ≤ 10000000000000))) (sym c.zip.ensures) (all_zipped (λ p. (nat_abs p.0 ≤ 10000000000000) × (nat_abs p.1 ≤ 10000000000000)) bills (amounts_of c.utility_amounts-amounts.result) (pos 0) (pos 0) (λ k l m. (c.requires.small k, rw are (amounts k)))) in (
      search rules,
      (
        search rules,
        (
          search rules,
          of_pairs (λ p. (nat_abs p.0.0 ≤ 10000000000000) × ((nat_abs p.0.1 ≤ 10000000000000) × (nat_abs p.1 ≤ 320000000000000))) _ _ _ refl (pos 0, pos 0) (pos 0)
              (λ k l m. let b = billed k (pos 0, pos 0) l in (b.0, (b.1, rw parts (shared k)))),
        ),
      ),
    )

pub invariant_of-result : goal.invariant_of-result
invariant_of-result c = record { small = given_each _ _ (λ z. nat_abs z ≤ 340000000000000) (pos 0) (omega arith) (λ x r h. h.says.met.1) _ _ c.zip_map-nets.ensures.each }

pub returns : goal.returns
returns c =
    let rows = rows_of c.args.table.now in
    let bills = amounts_of c.args.bills.now in
    let clear = sym c.in_ok-all_rated.ensures in
    let are = c.utility_amounts-amounts.ensures in
    let adj : c.difference-adjustment.result ≡ adjustment rows bills = rw are at c.difference-adjustment.ensures.value in
    let fit : SFits w64 c.difference-adjustment.result = record { sfits = c.difference-adjustment.type_inv } in
    let read = to_z-of_z w64 c.difference-adjustment.result fit in
    let parts : amounts_of c.unwrap-shares.result ≡ shares (adjustment rows bills) (map weight_of rows) = (rw (c.unwrap-shares.ensures, read, adj, c.weights-weights.ensures) at c.shares.ensures).1 in
    let small = rw adj at c.difference-adjustment.ensures.bound in
    let amounts = amounts-small rows (table-good c.args.table.now) clear in
    let shared = shares-small (adjustment rows bills) (map weight_of rows) 320000000000000 small in
    let each = given_of_pairs _ _ (λ p s. p.0 -ℤ p.1 -ℤ s) (λ x r h. let met = h.says.met.0 in search rules) _ _ _ refl _ c.zip_map-nets.ensures.each in
    let pairs = each ∙ ap (λ zs. along (λ p s. p.0 -ℤ p.1 -ℤ s) zs (amounts_of c.unwrap-shares.result)) c.zip.ensures ∙ nets-of-pairs bills (amounts_of c.utility_amounts-amounts.result) (amounts_of c.unwrap-shares.result) in
    let nets = rw (are, parts) at pairs in
    let level : length (map utility_amount rows) ≡ length bills = length-map rows utility_amount ∙ sym c.requires.many in
    let as_many = length-shares (adjustment rows bills) rows ∙ sym c.requires.many in
    let passes = rw (read, adj, c.weights-weights.ensures) at c.if-unborne.ensures in
    record {
      value = λ ps. nothing_stops rows bills ps clear _ nets (sym passes);
      many = ap length nets ∙ length-nets bills (map utility_amount rows) _ level as_many ∙ c.requires.many;
    }
