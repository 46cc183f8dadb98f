-- What a whole script says: its set-up and its calls, or the first line that is wrong.
use Rattle.std.specs.Prelude.{◌≡◌, ℕ, ◌+◌, List, [], ◌∷◌, map, Some, None, Ok, Err, vec_items, Option, Result}
use Rattle.std.specs.Option.{unwrap_or}
use Rattle.script.specs.Commands.{Said, said_by}
use Rattle.script.specs.Drafts.{Drafted, line_taken}
use Rattle.script.specs.Texts.{lines_of, words_of}
use Rattle.script.specs.declared.fault.Stop.{Stop}
use Rattle.script.specs.declared.fault.Stop.TheVariants as stop
use Rattle.script.specs.declared.fault.Unread.{Unread}
use Rattle.script.specs.declared.fault.Unread.TheVariants as unread
use Rattle.script.specs.declared.fault.Wrong.{Wrong}
use Rattle.script.specs.declared.fault.Wrong.TheVariants.{NoOwners, NoCharge}
use Rattle.script.specs.declared.script.Layer as layer
use Rattle.script.specs.declared.script.Plain.{Plain}
use Rattle.script.specs.declared.script.Script.{Script}

pub record Meant : Type 0 where
  pub areas : List ℕ
  pub charge : Plain
  pub layers : List layer.Layer
  pub journal : ℕ
  pub roll : ℕ
  pub calls : List Said

abbrev pub meant_by : Script → Meant
meant_by s = record {
  areas = vec_items s.areas;
  charge = s.charge;
  layers = vec_items s.layers;
  journal = s.journal;
  roll = s.roll;
  calls = map said_by (vec_items s.calls);
}

-- owners and charge have to be given; 8,192 entries and 2,427 lines have room where nothing is said of it
abbrev pub finished_with : Option (List ℕ) → Option Plain → Drafted → Result Meant Wrong
finished_with None charge d = Err NoOwners
finished_with (Some areas) None d = Err NoCharge
finished_with (Some areas) (Some charge) d = Ok (record {
  areas = areas;
  charge = charge;
  layers = d.layers;
  journal = unwrap_or d.journal 8192;
  roll = unwrap_or d.roll 2427;
  calls = d.calls;
})

abbrev pub finished : Drafted → Result Meant Wrong
finished d = finished_with d.owners d.charge d

-- a fault with the number of its line
abbrev pub go_on : {X : Type 0} → ℕ → Result X Wrong → (X → Result Meant (ℕ × Wrong)) → Result Meant (ℕ × Wrong)
go_on number (Ok x) f = f x
go_on number (Err wrong) f = Err (number, wrong)

-- lines are taken one after the other; the end of the script has the number behind the last line's
abbrev pub lines_taken : ℕ → Drafted → List (List ℕ) → Result Meant (ℕ × Wrong)
lines_taken number d [] = go_on number (finished d) (λ meant. Ok meant)
lines_taken number d (line ∷ lines) = go_on number (line_taken d (words_of line)) (λ after. lines_taken (number + 1) after lines)

abbrev pub blank : Drafted
blank = record { owners = None; charge = None; layers = []; journal = None; roll = None; calls = [] }

abbrev pub script_in : List ℕ → Result Meant (ℕ × Wrong)
script_in text = lines_taken 1 blank (lines_of text)

-- an answer says what the text says; where no memory was free it says nothing
abbrev pub ReadAs : Result Script Unread → Result Meant (ℕ × Wrong) → Type 0
ReadAs (Ok s) read = read ≡ Ok (meant_by s)
ReadAs (Err (unread.Line number wrong)) read = read ≡ Err (number, wrong)
ReadAs (Err unread.Memory) read = Unit {0}

abbrev pub unread_at : ℕ → Stop → Unread
unread_at number (stop.Wrong wrong) = unread.Line number wrong
unread_at number stop.Memory = unread.Memory
