use Rattle.std.proofs.Common.{◌≡◌, ℤ, pos, ◌+ℤ◌, ◌-ℤ◌, refl, ap, ◌∙◌, arith, w64}
use Rattle.std.proofs.lemmas.Int.{to_z-of_z}
use Rattle.charges.specs.Pools.{pool_of}
use Rattle.charges.specs.Rows.{all_ehv}
use Rattle.charges.specs.Tables.{rows_of}
use Rattle.charges.specs.Volumetric.{area_pool}
use Rattle.charges.specs.declared.pool.Basis.TheVariants.{AreaLoad, GridLoad}
use Rattle.charges.proofs.Portions.{rest-fits, grid-fits, grid-is, grid-small}
use Rattle.charges.proofs.volumetric.Volumetric.pools_with.Goals as goal

pub overflow_sub-grid : goal.overflow_sub-grid
overflow_sub-grid c = rest-fits c.all_ehv.result (pos 0) c.area_pool-north.result c.area_pool-east.result c.area_pool-south.result c.all_ehv.ensures.bound (omega arith) c.area_pool-north.ensures.bound c.area_pool-east.ensures.bound c.area_pool-south.ensures.bound

pub overflow_add-grid-3 : goal.overflow_add-grid-3
overflow_add-grid-3 c = grid-fits c.all_ehv.result c.args.new c.area_pool-north.result c.area_pool-east.result c.area_pool-south.result c.all_ehv.ensures.bound c.requires c.area_pool-north.ensures.bound c.area_pool-east.ensures.bound c.area_pool-south.ensures.bound

pub returns : goal.returns
returns c =
    let rows = rows_of c.args.table.now in
    let k = c.args.self.now.tenths in
    let n = c.area_pool-north.ensures in
    let e = c.area_pool-east.ensures in
    let s = c.area_pool-south.ensures in
    let ehv = c.all_ehv.ensures in
    let rest : c.all_ehv.result -ℤ (c.area_pool-north.result +ℤ c.area_pool-east.result +ℤ c.area_pool-south.result) +ℤ c.args.new ≡ all_ehv rows -ℤ (area_pool k 0 rows +ℤ area_pool k 1 rows +ℤ area_pool k 2 rows) +ℤ c.args.new = rw (n.value, e.value, s.value, ehv.value) in
    let north = c.new.ensures ∙ ap (λ (z : ℤ). pool_of z (AreaLoad 0) rows) (to_z-of_z w64 _ (record { sfits = c.area_pool-north.type_inv }) ∙ n.value) in
    let east = c.new-2.ensures ∙ ap (λ (z : ℤ). pool_of z (AreaLoad 1) rows) (to_z-of_z w64 _ (record { sfits = c.area_pool-east.type_inv }) ∙ e.value) in
    let south = c.new-3.ensures ∙ ap (λ (z : ℤ). pool_of z (AreaLoad 2) rows) (to_z-of_z w64 _ (record { sfits = c.area_pool-south.type_inv }) ∙ s.value) in
    let grid-sum = grid-is c.all_ehv.result c.args.new c.area_pool-north.result c.area_pool-east.result c.area_pool-south.result c.all_ehv.ensures.bound c.requires c.area_pool-north.ensures.bound c.area_pool-east.ensures.bound c.area_pool-south.ensures.bound ∙ rest in
    let grid = c.new-4.ensures ∙ ap (λ (z : ℤ). pool_of z GridLoad rows) grid-sum in
    let small = rw rest at (grid-small c.all_ehv.result c.args.new c.area_pool-north.result c.area_pool-east.result c.area_pool-south.result c.all_ehv.ensures.bound c.requires c.area_pool-north.ensures.bound c.area_pool-east.ensures.bound c.area_pool-south.ensures.bound) in
    let small_n = rw n.value at n.bound in
    let small-e = rw e.value at e.bound in
    let small-s = rw s.value at s.bound in
    rw (north, east, south, grid) (record {
      pools = refl;
      within = record { few = omega arith; sums = (omega (arith, small_n), (omega (arith, small-e), (omega (arith, small-s), (small, tt)))) };
    })
