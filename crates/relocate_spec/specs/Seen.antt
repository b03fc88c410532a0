-- What is shown after a commit: what the transaction saw, under the new numbers.
use Rattle.std.specs.Prelude.{◌≡◌, ℕ, ◌+◌, ◌-◌, ◌^◌, ◌≤◌, nat_lt, if◌then◌else◌}
use Rattle.tree_spec.specs.Shown.{Shown}
use Rattle.tree_spec.specs.Renaming.{shown_renamed, link_renamed}

-- Pages that others made past the snapshot's end have numbers that the transaction may have given to its own. They stand aside at numbers that no
-- database within the limit has, for as long as the two are looked at together.
abbrev pub far : ℕ
far = 2 ^ 22

abbrev pub aside : (base : ℕ) → ℕ → ℕ
aside base page = if nat_lt base page then far + page else page

-- the number that a page of both together has after the commit, where the transaction's own pages get these
abbrev pub seen_name : (name : ℕ → ℕ) → ℕ → ℕ
seen_name name page = if nat_lt far page then page - far else name page

-- One view shows under a page's new name what another shows under its own: its node, or as a page of a chain the next page and the bytes. What a
-- page of a tree would show as one of a chain doesn't matter: the bytes at its front are no number of a page.
pub record IsMoved (name : ℕ → ℕ) (last : ℕ) (shown shown_then : Shown) (page : ℕ) : Type 0 where
  pub node : shown_then.node (name page) ≡ shown_renamed name (shown.node page)
  pub link : 2 ≤ page → (shown.link page).next ≤ last → shown_then.link (name page) ≡ link_renamed name (shown.link page)
