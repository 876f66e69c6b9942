-- What contracts see of a book, and what its fields keep.
use Rattle.std.specs.Prelude.{vec_capacity}
pub use Rattle.admission.specs.Books.{Journal}
use Rattle.admission.specs.BookInvariant.{IsBookKept}
use Rattle.admission.specs.declared.book.Book.TheInside.{Inside}

abbrev pub journal_of : Inside → Journal
journal_of book = record {
  steps = book.calendar.steps;
  limit = book.limit;
  entries = book.entries.items;
}

abbrev pub IsBook : Inside → Type 0
IsBook book = IsBookKept book.calendar book.entries.items book.limit book.live
    (vec_capacity book.entries)
