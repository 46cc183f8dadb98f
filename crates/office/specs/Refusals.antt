-- A refusal as the office tells it, as a refusal of the book.
use Rattle.book.specs.Workings as book
use Rattle.office.specs.declared.refusal.Refusal.{Refusal}

abbrev pub refusal_in : Refusal → book.Refusal
refusal_in r = record { number = r.number; place = r.place; level = r.level }
