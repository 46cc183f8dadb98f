-- What a page holds once text is laid behind what it holds: the text stands there, and all else is as it was.
use Rattle.std.specs.Prelude.{◌≡◌, ℕ, ◌+◌, ◌≤◌, List, ◌++◌, length, take, drop}
use Rattle.rolls.specs.declared.page.Page.{Page}

-- there is room for the text
abbrev pub Fits : Page → List ℕ → Type 0
Fits page text = page.end + length text ≤ length page.bytes.now

pub record Lays (page : Page) (text : List ℕ) (after : Page) : Type 0 where
  pub lent : after.bytes.ghost_name ≡ page.bytes.ghost_name
  pub end : after.end ≡ page.end + length text
  pub front : take after.end after.bytes.now ≡ take page.end page.bytes.now ++ text
  pub rest : drop after.end after.bytes.now ≡ drop after.end page.bytes.now
  pub long : length after.bytes.now ≡ length page.bytes.now
