-- Each refusal of the book by its number, with its place and level where these are named.
use Rattle.std.specs.Prelude.{Some}
use Rattle.book.specs.Workings.{Refusal, plain, placed}
use Rattle.book.specs.declared.fault.BookFault.{BookFault}
use Rattle.book.specs.declared.fault.BookFault.TheVariants.{Owners, UnknownOwner, Month, Figure, JournalFull, ShortDraft, Current, NoFiling, NoReading, Totals, Charge, UtilityRate, NoWeight, BeyondJournal, Untouched, RollFull}

abbrev pub refusal : BookFault → Refusal
refusal Owners = plain 1
refusal UnknownOwner = plain 3
refusal Month = plain 4
refusal Figure = plain 5
refusal JournalFull = plain 6
refusal ShortDraft = plain 7
refusal Current = plain 8
refusal (NoFiling owner) = placed 9 owner
refusal (NoReading owner) = placed 10 owner
refusal Totals = plain 11
refusal (Charge f) = record { number = f.number; place = Some f.place; level = Some f.level }
refusal (UtilityRate owner) = placed 13 owner
refusal NoWeight = plain 15
refusal BeyondJournal = plain 16
refusal Untouched = plain 17
refusal RollFull = plain 18
