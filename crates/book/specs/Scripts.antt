-- What a script's calls and the answers to them mean.
use Rattle.std.specs.Prelude.{ℕ, List, [], ◌∷◌, ◌++◌, decimal, replicate, ℤ, pos, Result}
use Rattle.book.specs.Answers.{told}
use Rattle.book.specs.Histories.{Request, Grant, Event, event_of, files, reads, opens, posts, withdraws, asks, entered, drew, posted, withdrawn, stands}
use Rattle.book.specs.States.{state_as}
use Rattle.book.specs.declared.call.Call.{Call}
use Rattle.book.specs.declared.call.Call.TheVariants.{File, Read, Open, Post, Withdraw, State}
use Rattle.book.specs.declared.call.Reply.{Reply}
use Rattle.book.specs.declared.call.Reply.TheVariants.{Entered, Opened, Posted, Withdrawn, Stands}
use Rattle.book.specs.declared.fault.BookFault.{BookFault}
use Rattle.book.specs.declared.written.Written.{Written}

-- an opening by its month and count
abbrev pub written_as : Written → ℕ × ℕ
written_as w = (w.month, w.count)

-- and as text, one space between
abbrev pub written_text : Written → List ℕ
written_text w = decimal w.month ++ (32 ∷ decimal w.count)

-- a month is opened with a draft list of sixteen places
abbrev pub empty_draft : List ℤ
empty_draft = replicate 16 (pos 0)

abbrev pub request_of : Call → Request
request_of (File figures) = files figures
request_of (Read figures) = reads figures
request_of (Open month) = opens month empty_draft
request_of (Post w) = posts w.month w.count
request_of (Withdraw w) = withdraws w.month w.count
request_of (State month) = asks month

abbrev pub grant_of : Reply → Grant
grant_of (Entered number) = entered number
grant_of (Opened opening draft) = drew opening.month opening.count draft
grant_of Posted = posted
grant_of Withdrawn = withdrawn
grant_of (Stands s) = stands (state_as s)

-- the calls that have an answer, each with it
abbrev pub history_of : List Call → List (Result Reply BookFault) → List Event
history_of [] answers = []
history_of (c ∷ cs) [] = []
history_of (c ∷ cs) (r ∷ rs) = event_of (request_of c) (told grant_of r) ∷ history_of cs rs
