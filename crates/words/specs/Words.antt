-- What the words of the command line ask for. They are those after the program's name, each a list of bytes.
use Rattle.std.specs.Prelude.{ℕ, ◌+◌, ◌-◌, ◌*◌, ◌≤◌, Bool, false, not, ◌&&◌, List, [], ◌∷◌, Option, Some, None, length, take, drop, codes, if◌then◌else◌, ◌==◌, nat_le, bytes_eq, is_none, unwrap_or, option_map, option_and_then, IsTrue, IfSome}
use Rattle.std.specs.Char.{is_ascii_digit}
use Rattle.std.specs.List.{list_all}
use Rattle.std.specs.Str.{is_utf8}
use Rattle.page_spec.specs.Header.{is_page_size}

-- What a word may be by itself.

-- the number whose digits are those of a number and these behind them
unfoldable pub number_after : ℕ → List ℕ → ℕ
number_after number [] = number
number_after number (digit ∷ digits) = number_after (number * 10 + (digit - 48)) digits

-- the number that decimal digits spell
abbrev pub number_spelled : List ℕ → ℕ
number_spelled text = number_after 0 text

-- A number is decimal digits, of which the first isn't 0.
unfoldable pub is_number : List ℕ → Bool
is_number [] = false
is_number (digit ∷ digits) = not (digit == 48) && list_all is_ascii_digit (digit ∷ digits)

-- a limit is a number of frames from 1 to 1,000,000
unfoldable pub is_limit : List ℕ → Bool
is_limit text = is_number text && nat_le 1 (number_spelled text) && nat_le (number_spelled text) 1000000

-- a page size is a number of bytes that pages can have
unfoldable pub is_size : List ℕ → Bool
is_size text = is_number text && is_page_size (number_spelled text)

-- the path of a database isn't empty, and is UTF-8
unfoldable pub is_path : List ℕ → Bool
is_path word = not (length word == 0) && is_utf8 word

-- the word has more than one byte, of which the first is `-`
abbrev pub is_dashed : List ℕ → Bool
is_dashed (first ∷ second ∷ rest) = first == 45
is_dashed word = false

-- the word begins so
abbrev pub has_front : List ℕ → List ℕ → Bool
has_front front word = bytes_eq (take (length front) word) front

-- the word without these bytes, with which it begins
abbrev pub without_front : List ℕ → List ℕ → List ℕ
without_front front word = drop (length front) word

-- What the words behind the command give.

-- The path of a database, and the values of the options. Each is None where it isn't given.
pub record GivenWords : Type 0 where
  pub path : Option (List ℕ)
  pub limit : Option ℕ
  pub page_size : Option ℕ

abbrev pub nothing_given : GivenWords
nothing_given = record { path = None; limit = None; page_size = None }

-- Each is given once at most: with one more, where none was given.
unfoldable pub with_path : List ℕ → GivenWords → Option GivenWords
with_path word given = if is_none given.path && is_path word then Some (record given { path = Some word }) else None

unfoldable pub with_limit : List ℕ → GivenWords → Option GivenWords
with_limit text given = if is_none given.limit && is_limit text then Some (record given { limit = Some (number_spelled text) }) else None

unfoldable pub with_size : List ℕ → GivenWords → Option GivenWords
with_size text given = if is_none given.page_size && is_size text then Some (record given { page_size = Some (number_spelled text) }) else None

-- A word by itself is an option with its value behind `=`, or a path. Another word of more than one byte that begins with `-` is refused.
unfoldable pub with_word : List ℕ → GivenWords → Option GivenWords
with_word word given =
    if has_front (codes "--limit=") word then with_limit (without_front (codes "--limit=") word) given
    else if has_front (codes "--page-size=") word then with_size (without_front (codes "--page-size=") word) given
    else if is_dashed word then None
    else with_path word given

-- Behind `--` each word is a path.
unfoldable pub given_as_paths : List (List ℕ) → GivenWords → Option GivenWords
given_as_paths [] given = Some given
given_as_paths (word ∷ words) given = option_and_then (given_as_paths words) (with_path word given)

-- The word behind `--limit` or `--page-size` is its value, whatever it is. As the last word they are refused, since they begin with `-`.
unfoldable pub given_by : List (List ℕ) → GivenWords → Option GivenWords
given_by [] given = Some given
given_by (word ∷ []) given = if bytes_eq word (codes "--") then Some given else with_word word given
given_by (word ∷ next ∷ words) given =
    if bytes_eq word (codes "--") then given_as_paths (next ∷ words) given
    else if bytes_eq word (codes "--limit") then option_and_then (given_by words) (with_limit next given)
    else if bytes_eq word (codes "--page-size") then option_and_then (given_by words) (with_size next given)
    else option_and_then (given_by (next ∷ words)) (with_word word given)

-- What is asked for.

-- A run of page lines: on the database of this path, or on pages in memory. The limit is in frames, the page size in bytes.
pub record PagesAsked : Type 0 where
  pub path : Option (List ℕ)
  pub limit : ℕ
  pub page_size : ℕ

-- what is asked for, by the command: a run of page lines, or a check of the database of this path
pub data Asked : Type 0 where
  page_lines : PagesAsked → Asked
  check_database : (path : List ℕ) → Asked

-- what stands where an option isn't given
abbrev pub pages_of : GivenWords → PagesAsked
pages_of given = record { path = given.path; limit = unwrap_or given.limit 1000; page_size = unwrap_or given.page_size 4096 }

-- the path that is given, where it is all that is given
unfoldable pub path_alone : GivenWords → Option (List ℕ)
path_alone given = if is_none given.limit && is_none given.page_size then given.path else None

-- What the words ask for. The first one is the command. None is for words that are refused.
unfoldable pub request_of : List (List ℕ) → Option Asked
request_of [] = None
request_of (command ∷ words) =
    if bytes_eq command (codes "pages") then option_map (λ given. page_lines (pages_of given)) (given_by words nothing_given)
    else if bytes_eq command (codes "check") then option_map check_database (option_and_then path_alone (given_by words nothing_given))
    else None

-- the values of a run of page lines are within their limits
pub record AreWithinLimits (pages : PagesAsked) : Type 0 where
  pub path : IfSome pages.path (λ path. IsTrue (is_path path))
  pub limit : (1 ≤ pages.limit) × (pages.limit ≤ 1000000)
  pub page_size : IsTrue (is_page_size pages.page_size)

-- what is asked for is within its limits
abbrev pub IsWithinLimits : Asked → Type 0
IsWithinLimits (page_lines pages) = AreWithinLimits pages
IsWithinLimits (check_database path) = IsTrue (is_path path)
