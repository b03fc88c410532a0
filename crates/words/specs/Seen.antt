-- What the values of `src/` say, with lists of bytes in place of what they borrow.
use Rattle.std.specs.Option.{option_copied}
use Rattle.words.specs.declared.found.Found.{Found}
use Rattle.words.specs.declared.request.Pages.{Pages}
use Rattle.words.specs.declared.request.Request.{Request}
use Rattle.words.specs.declared.request.Request.TheVariants as request
use Rattle.words.specs.Words.{GivenWords, PagesAsked, Asked, page_lines, check_database}

abbrev pub given_in : Found → GivenWords
given_in found = record { path = option_copied found.path; limit = found.limit; page_size = found.page_size }

abbrev pub pages_asked : Pages → PagesAsked
pages_asked pages = record { path = option_copied pages.path; limit = pages.limit; page_size = pages.page_size }

-- what is asked for, with the path as its bytes
abbrev pub asked_by : Request → Asked
asked_by (request.Pages pages) = page_lines (pages_asked pages)
asked_by (request.Check path) = check_database path.now
