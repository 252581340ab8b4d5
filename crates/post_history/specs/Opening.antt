-- Which book was opened.
use Rattle.logbook.specs.Pages.{Book}
use Rattle.post_history.specs.declared.book.Opened.{Opened}

-- the name under which it is to go
abbrev pub book_in : Opened → Book
book_in opened = opened.seen.book
