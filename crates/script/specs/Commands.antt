-- What the numbers behind a command mean: the call that they write, or what is wrong with them.
use Rattle.std.specs.Prelude.{ℕ, cond, List, length, ℤ, pos, Ok, Err, Result, nat_lt, slice_index_or}
use Rattle.book.specs.declared.call.Call.{Call}
use Rattle.book.specs.declared.call.Call.TheVariants.{File, Read, Open, Post, Withdraw, State}
use Rattle.book.specs.Scripts.{written_as}
use Rattle.script.specs.Widths.{up_to, signed64}
use Rattle.script.specs.declared.command.Asked.{Asked}
use Rattle.script.specs.declared.command.Asked.TheVariants as asked
use Rattle.script.specs.declared.fault.Wrong.{Wrong}
use Rattle.script.specs.declared.fault.Wrong.TheVariants.{TooFew, TooMany, NoOpening}
use Rattle.script.specs.declared.number.Number.{Number}

-- one reading after another; the first that fails says what is wrong
abbrev pub and_then : {X Y : Type 0} → Result X Wrong → (X → Result Y Wrong) → Result Y Wrong
and_then (Ok x) f = f x
and_then (Err e) f = Err e

-- so many numbers, no fewer and no more
abbrev pub exactly : ℕ → ℕ → Result (Unit {0}) Wrong
exactly wanted count = cond (nat_lt count wanted) (Err TooFew) (cond (nat_lt wanted count) (Err TooMany) (Ok tt))

-- the number at a place
abbrev pub nought : Number
nought = record { 0 = pos 0 }

abbrev pub value_at : List Number → ℕ → ℤ
value_at ns i = (slice_index_or ns i nought).0

-- in 8, 16 and 32 bits, and in 64 bits with a sign
abbrev pub byte_at : List Number → ℕ → Result ℕ Wrong
byte_at ns i = up_to 255 (value_at ns i)

abbrev pub short_at : List Number → ℕ → Result ℕ Wrong
short_at ns i = up_to 65535 (value_at ns i)

abbrev pub figure_at : List Number → ℕ → Result ℕ Wrong
figure_at ns i = up_to 4294967295 (value_at ns i)

abbrev pub money_at : List Number → ℕ → Result ℤ Wrong
money_at ns i = signed64 (value_at ns i)

-- file OWNER FIRST LAST EHV NHV LOAD PEAK
abbrev pub file_call : List Number → Result Call Wrong
file_call ns =
    and_then (exactly 7 (length ns)) (λ _.
    and_then (byte_at ns 0) (λ owner.
    and_then (short_at ns 1) (λ first.
    and_then (short_at ns 2) (λ last.
    and_then (money_at ns 3) (λ ehv.
    and_then (money_at ns 4) (λ nhv.
    and_then (figure_at ns 5) (λ load.
    and_then (figure_at ns 6) (λ peak. Ok (File (record { owner = owner; first = first; last = last; ehv = ehv; nhv = nhv; load = load; peak = peak }))))))))))

-- read MONTH OWNER LOAD PEAK
abbrev pub read_call : List Number → Result Call Wrong
read_call ns =
    and_then (exactly 4 (length ns)) (λ _.
    and_then (short_at ns 0) (λ month.
    and_then (byte_at ns 1) (λ owner.
    and_then (figure_at ns 2) (λ load.
    and_then (figure_at ns 3) (λ peak. Ok (Read (record { month = month; owner = owner; load = load; peak = peak })))))))

-- open MONTH
abbrev pub open_call : List Number → Result Call Wrong
open_call ns = and_then (exactly 1 (length ns)) (λ _. and_then (short_at ns 0) (λ month. Ok (Open month)))

-- state MONTH
abbrev pub state_call : List Number → Result Call Wrong
state_call ns = and_then (exactly 1 (length ns)) (λ _. and_then (short_at ns 0) (λ month. Ok (State month)))

-- the room of a journal or a roll, and the setting of a charge
abbrev pub room_of : List Number → Result ℕ Wrong
room_of ns = and_then (exactly 1 (length ns)) (λ _. short_at ns 0)

abbrev pub setting_of : List Number → Result ℕ Wrong
setting_of ns = and_then (exactly 1 (length ns)) (λ _. byte_at ns 0)

-- an opening by its month and count; no book gives one of a month above 359
abbrev pub opening_of : List Number → Result (ℕ × ℕ) Wrong
opening_of ns =
    and_then (exactly 2 (length ns)) (λ _.
    and_then (short_at ns 0) (λ month.
    and_then (short_at ns 1) (λ count. cond (nat_lt 359 month) (Err NoOpening) (Ok (month, count)))))

-- an answer by what its value means
abbrev pub told : {X Y : Type 0} → (X → Y) → Result X Wrong → Result Y Wrong
told meaning (Ok x) = Ok (meaning x)
told meaning (Err e) = Err e

-- a call with its opening written as month and count: post MONTH N, withdraw MONTH N, and any other
pub data Said : Type 0 where
  posts : ℕ × ℕ → Said
  withdraws : ℕ × ℕ → Said
  asks : Call → Said

abbrev pub said_by : Call → Said
said_by (File figures) = asks (File figures)
said_by (Read figures) = asks (Read figures)
said_by (Open month) = asks (Open month)
said_by (Post w) = posts (written_as w)
said_by (Withdraw w) = withdraws (written_as w)
said_by (State month) = asks (State month)

-- the call that is asked with these numbers
abbrev pub call_said : Asked → List Number → Result Said Wrong
call_said asked.File ns = told said_by (file_call ns)
call_said asked.Read ns = told said_by (read_call ns)
call_said asked.Open ns = told said_by (open_call ns)
call_said asked.Post ns = told posts (opening_of ns)
call_said asked.Withdraw ns = told withdraws (opening_of ns)
call_said asked.State ns = told said_by (state_call ns)
