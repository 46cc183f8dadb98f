-- What it is that entries are in force: for each owner, the latest filing that covers the month and the latest reading of it.
use Rattle.std.specs.Prelude.{◌≡◌, ℕ, ◌<◌, List, length, None, slice_index_or}
use Rattle.std.specs.Option.{option_map}
use Rattle.book.specs.Entries.{Noted, filing_for, reading_for, latest}
use Rattle.book.specs.Meaning.{filed_of, metered_of}
use Rattle.book.specs.declared.standings.Standing.{Standing}

abbrev pub nothing : Standing
nothing = record { filing = None; reading = None }

pub record InForce (standings : List Standing) (month : ℕ) (entries : List Noted) : Type 0 where
  pub filings : (owner : ℕ) → owner < length standings → option_map filed_of (slice_index_or standings owner nothing).filing ≡ latest (filing_for month owner) entries
  pub readings : (owner : ℕ) → owner < length standings → option_map metered_of (slice_index_or standings owner nothing).reading ≡ latest (reading_for month owner) entries
