-- Worlds that page lines can't tell apart: their maps have the same pages 2 to 16, which are all that page lines read and write.
use Rattle.std.specs.Prelude.{◌≡◌, ℕ, ◌≤◌, length, drop}
use Rattle.page_spec.specs.PageMap.{PageMap, page_at, page_size_of}
use Rattle.page_lines.specs.World.{World, SessionState, Out, Open, Refused, map_number, newest_map}

-- two maps have the same pages 2 to 16
abbrev pub AreAlike : PageMap → PageMap → Type 0
AreAlike one other = (page : ℕ) → 2 ≤ page → page ≤ 16 → page_at one page ≡ page_at other page

-- Two worlds have the same commits and sessions, and maps that are alike, one by one, with pages of one size.
pub record AreAlikeWorlds (one other : World) : Type 0 where
  pub history : one.history ≡ other.history
  pub sessions : (session : ℕ) → one.sessions session ≡ other.sessions session
  pub begun : (session : ℕ) → one.begun session ≡ other.begun session
  pub count : length one.maps ≡ length other.maps
  pub maps : (number : ℕ) → AreAlike (map_number one number) (map_number other number)
  pub page_size : page_size_of (newest_map one) ≡ page_size_of (newest_map other)

-- where a session's transaction is open, it began at the map with this number or at a later one
abbrev pub BeganSince : ℕ → SessionState → Type 0
BeganSince number Out = Unit {0}
BeganSince number (Open transaction) = number ≤ transaction.snap
BeganSince number (Refused transaction) = Unit {0}

-- Two worlds have as many commits, and from the map with this number on they are alike: the later commits are the same and the maps
-- alike, and each open transaction began there or later. What the commits and maps before that are doesn't matter.
pub record AreAlikeSince (number : ℕ) (one other : World) : Type 0 where
  pub within : number ≤ length one.history
  pub commits : length one.history ≡ length other.history
  pub history : drop number one.history ≡ drop number other.history
  pub sessions : (session : ℕ) → one.sessions session ≡ other.sessions session
  pub since : (session : ℕ) → BeganSince number (one.sessions session)
  pub begun : (session : ℕ) → one.begun session ≡ other.begun session
  pub count : length one.maps ≡ length other.maps
  pub maps : (later : ℕ) → number ≤ later → AreAlike (map_number one later) (map_number other later)
  pub page_size : page_size_of (newest_map one) ≡ page_size_of (newest_map other)
