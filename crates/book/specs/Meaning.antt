-- What the code's entries mean.
use Rattle.book.specs.Entries.{Noted, filed, metered}
use Rattle.book.specs.declared.figures.Filed.{Filed}
use Rattle.book.specs.declared.figures.Metered.{Metered}
use Rattle.book.specs.declared.entry.Filing.{Filing}
use Rattle.book.specs.declared.entry.Reading.{Reading}
use Rattle.book.specs.declared.entry.Entry.{Entry}
use Rattle.book.specs.declared.entry.Entry.TheVariants.{Filing as FilingEntry, Reading as ReadingEntry}

abbrev pub filed_of : Filing → Filed
filed_of f = f.figures

abbrev pub metered_of : Reading → Metered
metered_of r = r.figures

abbrev pub noted : Entry → Noted
noted (FilingEntry f) = filed (filed_of f)
noted (ReadingEntry r) = metered (metered_of r)
