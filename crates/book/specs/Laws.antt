-- The law of a history: what the journal and the roll hold after any calls, by the calls and their answers alone.
use Rattle.std.specs.Prelude.{◌≡◌, ℕ, zero, suc, ◌+◌, ◌*◌, ◌<◌, ◌≤◌, List, [], ◌∷◌, ◌++◌, map, length, take, drop, pos, ◌≤ℤ◌, Some, None, Option, slice_index, slice_index_or}
use Rattle.division.specs.Shares.{int_sum, shares}
use Rattle.charges.specs.Promises.{AllFiled}
use Rattle.charges.specs.Rows.{requirements}
use Rattle.charges.specs.Transition.{final_burdens}
use Rattle.rolls.specs.Rows.{Row}
use Rattle.rolls.specs.Summaries.{sum_of}
use Rattle.book.specs.Entries.{Noted}
use Rattle.book.specs.Histories.{Event, Terms, answer_to, entries_by, postings_by, mark_by, owners, afresh}
use Rattle.book.specs.Workings.{Figures, worked}

-- every event has the answer that the checks give after the events before it
abbrev pub Answered : Terms → List Event → List Event → Type 0
Answered t seen [] = Unit {0}
Answered t seen (e ∷ es) = (e.answer ≡ answer_to t seen e.call) × Answered t (seen ++ e ∷ []) es

-- what the figures of a month keep to: a net for every owner, which cancel; parts that cover the requirements; and, of any transition layer, final burdens within their caps
pub record Balanced (count : ℕ) (w : Figures) : Type 0 where
  pub a_net_for_every_owner : length w.nets ≡ count
  pub nets_cancel : int_sum w.nets ≡ pos 0
  pub parts_cover_the_requirements : int_sum w.parts ≡ requirements w.rows
  pub burdens_stay_within_caps : (tenths : ℕ) (caps : List ℕ) → length caps ≡ 16 → AllFiled tenths w.rows → (owner : ℕ) → owner < length w.rows → slice_index_or (final_burdens shares tenths caps w.rows) owner (pos 0) ≤ℤ pos (slice_index caps owner)

-- a month settled at a mark: worked out afresh from the entries below the mark, and each owner's lines add up to its net
pub record Settled (t : Terms) (entries : List Noted) (rows : List Row) (month mark : ℕ) : Type 0 where
  pub figures : Figures
  pub worked_afresh : afresh t entries month mark ≡ worked figures
  pub lines_add_up_to_the_net : (owner : ℕ) → sum_of month owner rows ≡ slice_index_or figures.nets owner (pos 0)
  pub balanced : Balanced (owners t) figures

-- where a line stands: its month, owner and mark
abbrev pub standing : Row → ℕ × (ℕ × ℕ)
standing r = (r.month, (r.owner, r.mark))

-- one for each of so many owners, in order, from the owner k on
abbrev pub in_order : ℕ → ℕ → ℕ → ℕ → List (ℕ × (ℕ × ℕ))
in_order month mark k zero = []
in_order month mark k (suc n) = (month, (k, mark)) ∷ in_order month mark (suc k) n

-- the lines of one posting: one for each owner, in order, with its month and count; they add up to 0
pub record OnePosting (count month mark : ℕ) (rows : List Row) : Type 0 where
  pub one_line_an_owner : map standing rows ≡ in_order month mark 0 count
  pub lines_cancel : int_sum (map (λ r. r.cents) rows) ≡ pos 0

-- the lines of each posting in turn, and no other
abbrev pub Rolled : ℕ → List (ℕ × ℕ) → List Row → Type 0
Rolled count [] rows = rows ≡ []
Rolled count (p ∷ ps) rows = OnePosting count p.0 p.1 (take count rows) × Rolled count ps (drop count rows)

pub record Law (t : Terms) (h : List Event) (entries : List Noted) (rows : List Row) : Type 0 where
  pub journal_holds_the_entries : entries ≡ entries_by h
  pub answers_are_the_checks : Answered t [] h
  pub lines_add_up_to_the_net : (month mark : ℕ) → mark_by month h ≡ Some mark → Settled t (entries_by h) rows month mark
  pub each_posting_adds_one_line_an_owner : Rolled (owners t) (postings_by h) rows

-- what marks, a journal and a roll keep of a history: its law, and what the next call goes by
pub record Accounts (t : Terms) (h : List Event) (marks : List (Option ℕ)) (entries : List Noted) (room : ℕ) (rows : List Row) (free : ℕ) : Type 0 where
  pub law : Law t h entries rows
  pub marks_are : (month : ℕ) → slice_index_or marks month None ≡ mark_by month h
  pub marks_below : (month mark : ℕ) → mark_by month h ≡ Some mark → mark ≤ length (entries_by h)
  pub entries_few : length (entries_by h) ≤ 8192
  pub room_is : room ≡ t.room
  pub free_are : free + length (postings_by h) * owners t ≡ t.lines
  pub rows_are : length rows ≡ length (postings_by h) * owners t
  pub unsettled_nothing : (month owner : ℕ) → mark_by month h ≡ None → sum_of month owner rows ≡ pos 0
