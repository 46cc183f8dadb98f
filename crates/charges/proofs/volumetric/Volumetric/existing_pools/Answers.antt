use Rattle.std.proofs.Common.{◌≡◌, pos, ◌+ℤ◌, arith}
use Rattle.std.proofs.lemmas.Int.{ints}
use Rattle.charges.specs.Tables.{rows_of}
use Rattle.charges.specs.Transition.{existing_grid}
use Rattle.charges.proofs.volumetric.Volumetric.existing_pools.Goals as goal

pub returns-clause-pools : goal.returns-clause-pools
returns-clause-pools c =
    let k = c.args.self.now.tenths in
    let rows = rows_of c.args.table.now in
    let rest : existing_grid k rows +ℤ pos 0 ≡ existing_grid k rows = omega (arith, ints) in
    rw rest at c.pools_with.ensures.pools
