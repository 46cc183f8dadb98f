-- What conversions give is what fits.
use Rattle.std.proofs.Common.{ℕ, suc, ℤ, pos, negsuc, ◌≤ℤ◌, ◌<ℤ◌, Ok, Err, Result, refl, arith, w64}
use Rattle.std.proofs.lemmas.Bool.Decides.{nat_tests}
use Rattle.std.proofs.lemmas.Int.{ints}
use Rattle.std.specs.Prelude.{unsigned_abs, FitsSigned}
use Rattle.std.specs.Result.{OkIff}
use Rattle.script.specs.Widths.{up_to, signed64, FitsAs}

pub fits_up_to : {E : Type 0} (most : ℕ) (z : ℤ) (r : Result ℕ E) → OkIff r ((pos 0 ≤ℤ z) × (z <ℤ pos (suc most))) (unsigned_abs z) → FitsAs (up_to most z) r
fits_up_to most (pos n) (Ok x) h = grind (arith, nat_tests, ints)
fits_up_to most (pos n) (Err e) h = grind (arith, nat_tests, ints)
fits_up_to most (negsuc n) (Ok x) h = absurd (omega (arith, ints, h.0.0))
fits_up_to most (negsuc n) (Err e) h = refl

pub fits_signed64 : {E : Type 0} (z : ℤ) (r : Result ℤ E) → OkIff r (FitsSigned w64 z) z → FitsAs (signed64 z) r
fits_signed64 (pos n) (Ok x) h = grind (arith, nat_tests, ints)
fits_signed64 (pos n) (Err e) h = grind (arith, nat_tests, ints)
fits_signed64 (negsuc n) (Ok x) h = grind (arith, nat_tests, ints)
fits_signed64 (negsuc n) (Err e) h = grind (arith, nat_tests, ints)
