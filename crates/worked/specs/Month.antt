-- The worked figures, all in one table: the two rules, the charges and layers on the month's table, the nets, the bills and their correction, and a line's record.
use Rattle.std.specs.Prelude.{◌≡◌, ℕ, List, [], ◌∷◌, replicate, ℤ, pos, Some, None, Ok, Result}
use Rattle.division.specs.Nearest.{nearest}
use Rattle.division.specs.Shares.{shares}
use Rattle.charges.specs.Hybrid.{hybrid}
use Rattle.charges.specs.Outcomes.{refused, billed}
use Rattle.charges.specs.Transition.{burdens, final_burdens, transition_charges, transition}
use Rattle.charges.specs.Volumetric.{volumetric}
use Rattle.rolls.specs.Records.{encoded}
use Rattle.rolls.specs.Rows.{row_of}
use Rattle.book.specs.Answers.{nets_answer}
use Rattle.book.specs.Histories.{Request, files, reads, opens, posts, asks, Grant, entered, drew, posted, stands, Event, event_of, afresh}
use Rattle.book.specs.Laws.{Answered}
use Rattle.book.specs.Postings.{posting, lines_of}
use Rattle.book.specs.States.{due, current}
use Rattle.book.specs.Workings.{Refusal, rows_from, worked_out}
use Rattle.worked.specs.Given.{minus, table, roomy_caps, tight_caps, filing, reading, late_filing, six_entries, seven_entries, terms}

-- the cents of the first bills, at six entries with six lines free, and of the correction, at seven with three
abbrev pub first_bills : Result (List ℤ) Refusal
first_bills = posting (afresh terms six_entries 14) 3 6 6 14 None six_entries 6

abbrev pub correction : Result (List ℤ) Refusal
correction = posting (afresh terms seven_entries 14) 3 7 7 14 (Some 6) seven_entries 3

-- the calls that settle month 14, find it due, and correct it, each with its answer
abbrev pub granted : Request → Grant → Event
granted call grant = event_of call (Ok grant)

abbrev pub calls : List Event
calls =
    granted (files (filing 0 (pos 1000) (pos 200) 100 10)) (entered 0)
    ∷ granted (files (filing 1 (pos 1500) (pos 0) 100 6)) (entered 1)
    ∷ granted (files (filing 2 (pos 500) (pos 0) 50 4)) (entered 2)
    ∷ granted (reads (reading 0 8 1)) (entered 3)
    ∷ granted (reads (reading 1 9 1)) (entered 4)
    ∷ granted (reads (reading 2 5 0)) (entered 5)
    ∷ granted (opens 14 (replicate 3 (pos 0))) (drew 14 6 (pos 278 ∷ minus 1793 ∷ pos 1515 ∷ []))
    ∷ granted (posts 14 6) posted
    ∷ granted (asks 14) (stands (current 6))
    ∷ granted (files late_filing) (entered 6)
    ∷ granted (asks 14) (stands (due 6))
    ∷ granted (opens 14 (replicate 3 (pos 0))) (drew 14 7 (minus 506 ∷ minus 322 ∷ pos 828 ∷ []))
    ∷ granted (posts 14 7) posted
    ∷ granted (asks 14) (stands (current 7))
    ∷ []

pub record WorkedMonth : Type 0 where
  -- the two rules
  pub shares_of_400 : shares (pos 400) (100 ∷ 50 ∷ []) ≡ pos 266 ∷ pos 134 ∷ []
  pub shares_of_minus_7 : shares (minus 7) (1 ∷ 1 ∷ 1 ∷ []) ≡ minus 3 ∷ minus 2 ∷ minus 2 ∷ []
  pub half_goes_upward : nearest (minus 150) 100 ≡ minus 1
  -- the charges, eight tenths grid-wide and half by load
  pub volumetric_eight : (month : ℕ) → volumetric 8 month table ≡ billed (pos 1240 ∷ pos 1306 ∷ pos 654 ∷ []) (pos 9920 ∷ pos 11760 ∷ pos 6533 ∷ [])
  pub hybrid_fifty : (month : ℕ) → hybrid 50 month table ≡ billed (pos 1440 ∷ pos 1120 ∷ pos 640 ∷ []) (pos 13120 ∷ pos 13760 ∷ pos 3200 ∷ [])
  -- the layers, eight tenths grid-wide
  pub worked_burdens : burdens shares 8 table ≡ pos 160 ∷ minus 274 ∷ pos 114 ∷ []
  pub roomy_finals : final_burdens shares 8 roomy_caps table ≡ pos 182 ∷ minus 274 ∷ pos 92 ∷ []
  pub roomy_charges : transition_charges shares 8 roomy_caps table ≡ pos 22 ∷ pos 0 ∷ minus 22 ∷ []
  pub tight_finals : final_burdens shares 8 tight_caps table ≡ pos 100 ∷ minus 100 ∷ pos 0 ∷ []
  pub tight_charges : transition_charges shares 8 tight_caps table ≡ minus 60 ∷ pos 174 ∷ minus 114 ∷ []
  pub on_volumetric : (month : ℕ) → transition 8 roomy_caps (volumetric 8) month table ≡
      billed (pos 1262 ∷ pos 1306 ∷ pos 632 ∷ []) (pos 10096 ∷ pos 11760 ∷ pos 6313 ∷ [])
  pub on_hybrid : (month : ℕ) → transition 8 roomy_caps (hybrid 50) month table ≡
      billed (pos 1462 ∷ pos 1120 ∷ pos 618 ∷ []) (pos 13296 ∷ pos 13760 ∷ pos 2980 ∷ [])
  pub on_a_layer : (month : ℕ) → transition 8 tight_caps (transition 8 roomy_caps (volumetric 8)) month table ≡
      billed (pos 1202 ∷ pos 1480 ∷ pos 518 ∷ []) (pos 9616 ∷ pos 13326 ∷ pos 5173 ∷ [])
  pub fault_rises : (number place month : ℕ) →
      transition 8 tight_caps (transition 8 roomy_caps (λ _ _. refused number place 0)) month table ≡ refused number place 2
  pub level_stops : (number place month : ℕ) → transition 8 roomy_caps (λ _ _. refused number place 250) month table ≡ refused number place 250
  -- the six entries make the month's table, and its nets
  pub table_in_force : rows_from 14 six_entries 0 (0 ∷ 1 ∷ 1 ∷ []) ≡ table
  pub nets_at_six : nets_answer (worked_out (volumetric 8) (0 ∷ 1 ∷ 1 ∷ []) 14 six_entries) ≡ Ok (pos 278 ∷ minus 1793 ∷ pos 1515 ∷ [])
  -- the lines of the first bills, and of the correction
  pub first_lines : lines_of 14 6 first_bills ≡ row_of 14 0 6 (pos 278) ∷ row_of 14 1 6 (minus 1793) ∷ row_of 14 2 6 (pos 1515) ∷ []
  pub correcting_lines : lines_of 14 7 correction ≡ row_of 14 0 7 (minus 784) ∷ row_of 14 1 7 (pos 1471) ∷ row_of 14 2 7 (minus 687) ∷ []
  -- each call has the answer that the checks give after the calls before it: numbers, drafts, and the states current, due and current again
  pub calls_answered : Answered terms [] calls
  -- a line's record
  pub record_of_a_line : encoded (row_of 14 2 9 (minus 150)) ≡
      0x01 ∷ 0x00 ∷ 0x02 ∷ 0x00 ∷ 0x0E
      ∷ 0x02 ∷ 0x00 ∷ 0x01 ∷ 0x02
      ∷ 0x03 ∷ 0x00 ∷ 0x04 ∷ 0x00 ∷ 0x00 ∷ 0x00 ∷ 0x09
      ∷ 0x04 ∷ 0x00 ∷ 0x08 ∷ 0xFF ∷ 0xFF ∷ 0xFF ∷ 0xFF ∷ 0xFF ∷ 0xFF ∷ 0xFF ∷ 0x6A
      ∷ []
