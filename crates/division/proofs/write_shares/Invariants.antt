use Rattle.std.proofs.Common.{◌≡◌, ◌+◌, ◌++◌, take, drop}
use Rattle.division.specs.Shares.{total, running, shares_after, shares}
use Rattle.division.proofs.write_shares.Given as goal

abbrev pub invariant-loop-i : goal.invariant-loop-i
invariant-loop-i l =
    (l.upto + total (drop l.i l.weights) ≡ l.all)
    × (l.before ≡ running l.sum l.all l.upto)
    × (take l.i l.out ++ shares_after l.sum l.all l.upto (drop l.i l.weights) ≡ shares l.sum l.weights)
