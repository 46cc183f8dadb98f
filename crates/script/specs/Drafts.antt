-- A script as far as it is read, and what each line adds to it.
use Rattle.std.specs.Prelude.{ℕ, ◌+◌, cond, List, [], ◌∷◌, ◌++◌, map, length, drop, replicate, is_some, Some, None, Ok, Err, vec_items, codes, Option, Result, ◌==◌, nat_le, nat_lt, slice_index, slice_set}
use Rattle.std.specs.Option.{option_map}
use Rattle.std.specs.Str.{bytes_eq}
use Rattle.script.specs.Commands.{and_then, byte_at, setting_of, room_of, Said, said_by, call_said}
use Rattle.script.specs.Names.{command_named}
use Rattle.script.specs.Numbers.{numbers_of}
use Rattle.script.specs.Widths.{up_to}
use Rattle.script.specs.declared.command.Asked.{Asked}
use Rattle.script.specs.declared.command.Command.{Command}
use Rattle.script.specs.declared.command.Command.TheVariants.{SetUp, Call}
use Rattle.script.specs.declared.command.Part.{Part}
use Rattle.script.specs.declared.command.Part.TheVariants.{Owners, Charge, Layer, Journal, Roll}
use Rattle.script.specs.declared.draft.Draft.{Draft}
use Rattle.script.specs.declared.fault.Wrong.{Wrong}
use Rattle.script.specs.declared.fault.Wrong.TheVariants.{UnknownCommand, UnknownCharge, TooFew, TooMany, Repeated, FourthLayer, LateSetUp, NoOwners, NoCharge}
use Rattle.script.specs.declared.number.Number.{Number}
use Rattle.script.specs.declared.script.Layer as layer
use Rattle.script.specs.declared.script.Plain.{Plain}
use Rattle.script.specs.declared.script.Plain.TheVariants.{Volumetric, Hybrid}

pub record Drafted : Type 0 where
  pub owners : Option (List ℕ)
  pub charge : Option Plain
  pub layers : List layer.Layer
  pub journal : Option ℕ
  pub roll : Option ℕ
  pub calls : List Said

abbrev pub draft_of : Draft → Drafted
draft_of d = record {
  owners = option_map vec_items d.owners;
  charge = d.charge;
  layers = vec_items d.layers;
  journal = d.journal;
  roll = d.roll;
  calls = map said_by (vec_items d.calls);
}

-- owners AREA...: each area in 8 bits
abbrev pub areas_from : List ℕ → List Number → Result (List ℕ) Wrong
areas_from areas [] = Ok areas
areas_from areas (n ∷ ns) = and_then (up_to 255 n.0) (λ area. areas_from (areas ++ area ∷ []) ns)

-- layer K CAP...: up to sixteen caps, and 0 where none is written
abbrev pub caps_from : List ℕ → ℕ → List Number → Result (List ℕ) Wrong
caps_from caps i [] = Ok caps
caps_from caps i (n ∷ ns) = and_then (up_to 4294967295 n.0) (λ cap. caps_from (slice_set caps i cap) (i + 1) ns)

abbrev pub caps_of : List Number → Result (List ℕ) Wrong
caps_of ns = cond (nat_lt 16 (length ns)) (Err TooMany) (caps_from (replicate 16 0) 0 ns)

abbrev pub layer_of : List Number → Result layer.Layer Wrong
layer_of ns =
    cond (length ns == 0) (Err TooFew) (and_then (byte_at ns 0) (λ tenths. and_then (caps_of (drop 1 ns)) (λ caps. Ok (record { tenths = tenths; caps = caps }))))

-- charge volumetric K, charge hybrid S
abbrev pub charge_named : List ℕ → ℕ → Result Plain Wrong
charge_named kind n = cond (bytes_eq kind (codes "volumetric")) (Ok (Volumetric n)) (cond (bytes_eq kind (codes "hybrid")) (Ok (Hybrid n)) (Err UnknownCharge))

-- each part of the set-up is given once
abbrev pub with_owners : Drafted → List Number → Result Drafted Wrong
with_owners d ns =
    cond (is_some d.owners) (Err Repeated) (and_then (areas_from [] ns) (λ areas. Ok (record d { owners = Some areas })))

abbrev pub with_charge : Drafted → List ℕ → List Number → Result Drafted Wrong
with_charge d kind ns =
    cond (is_some d.charge) (Err Repeated) (and_then (setting_of ns) (λ n. and_then (charge_named kind n) (λ charge. Ok (record d { charge = Some charge }))))

abbrev pub with_room : Option ℕ → List Number → Result (Option ℕ) Wrong
with_room slot ns = cond (is_some slot) (Err Repeated) (and_then (room_of ns) (λ n. Ok (Some n)))

abbrev pub with_journal : Drafted → List Number → Result Drafted Wrong
with_journal d ns = and_then (with_room d.journal ns) (λ journal. Ok (record d { journal = journal }))

abbrev pub with_roll : Drafted → List Number → Result Drafted Wrong
with_roll d ns = and_then (with_room d.roll ns) (λ roll. Ok (record d { roll = roll }))

-- but for layers, of which there may be three on a charge
abbrev pub with_layer : Drafted → List Number → Result Drafted Wrong
with_layer d ns =
    cond (is_some d.charge) (cond (nat_le 3 (length d.layers)) (Err FourthLayer) (and_then (layer_of ns) (λ one. Ok (record d { layers = d.layers ++ one ∷ [] })))) (Err NoCharge)

-- a set-up is open before the first call, and done with owners and a charge
abbrev pub still_open : Drafted → Result (Unit {0}) Wrong
still_open d = cond (length d.calls == 0) (Ok tt) (Err LateSetUp)

abbrev pub complete : Drafted → Result (Unit {0}) Wrong
complete d = cond (is_some d.owners) (cond (is_some d.charge) (Ok tt) (Err NoCharge)) (Err NoOwners)

-- the word behind a command, if there is one, and the others
abbrev pub first_of : List (List ℕ) → List ℕ
first_of [] = []
first_of (w ∷ ws) = w

abbrev pub others_of : List (List ℕ) → List (List ℕ)
others_of [] = []
others_of (w ∷ ws) = ws

-- a part of the set-up with the words behind it; a charge has its kind before its number
abbrev pub set_up_by : Drafted → Part → List (List ℕ) → Result Drafted Wrong
set_up_by d Owners words = and_then (numbers_of words) (with_owners d)
set_up_by d Charge words = and_then (numbers_of (others_of words)) (with_charge d (first_of words))
set_up_by d Layer words = and_then (numbers_of words) (with_layer d)
set_up_by d Journal words = and_then (numbers_of words) (with_journal d)
set_up_by d Roll words = and_then (numbers_of words) (with_roll d)

-- a call with the words behind it
abbrev pub call_by : Drafted → Asked → List (List ℕ) → Result Drafted Wrong
call_by d asked words =
    and_then (complete d) (λ _.
    and_then (numbers_of words) (λ ns.
    and_then (call_said asked ns) (λ said. Ok (record d { calls = d.calls ++ said ∷ [] }))))

abbrev pub command_taken : Drafted → Option Command → List (List ℕ) → Result Drafted Wrong
command_taken d None words = Err UnknownCommand
command_taken d (Some (SetUp part)) words = and_then (still_open d) (λ _. set_up_by d part words)
command_taken d (Some (Call asked)) words = call_by d asked words

-- a line without words says nothing, nor one whose first word begins with #
abbrev pub line_taken : Drafted → List (List ℕ) → Result Drafted Wrong
line_taken d [] = Ok d
line_taken d (word ∷ words) = cond (slice_index word 0 == 35) (Ok d) (command_taken d (command_named word) words)
