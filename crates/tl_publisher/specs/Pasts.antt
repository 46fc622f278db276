-- What was seen of a log's history, and where it is kept.
use Rattle.std.specs.Prelude.{◌≡◌, List}
use Rattle.logbook.specs.Pages.{Book}
use Rattle.tl_log.specs.Histories.{Prefix, StartsWith}

-- what was seen of a history, and the book that keeps it
pub record Past : Type 0 where
  pub book : Book
  pub log : List Prefix

-- a history that goes on, in the same book
abbrev pub Grew : Past → Past → Type 0
Grew a b = (b.book ≡ a.book) × StartsWith b.log a.log
