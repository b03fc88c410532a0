-- Worked cases, with figures by hand.
use Rattle.std.proofs.Common.{◌≡◌, ℕ, ◌+◌, List, [], ◌∷◌, ◌++◌, refl, replicate, false}
use Rattle.std.specs.Prelude.{◌==◌, if◌then◌else◌}
use Rattle.page_spec.specs.Bytes.{u32_at, u16_at}
use Rattle.node_spec.specs.Kinds.{kind_of}
use Rattle.node_spec.specs.Cells.{most_local, payload_in, spills}
use Rattle.page_spec.specs.PageMap.{PageMap}
use Rattle.engine_spec.specs.declared.commits.Mode.{Mode}
use Rattle.engine_spec.specs.declared.commits.Mode.TheVariants.{Plain, Concurrent}
use Rattle.engine_spec.specs.Change.{Change}
use Rattle.relocate_spec.specs.Whole.{last_laid, view_laid}
use Rattle.relocate_spec.specs.Numbers.{numbers_given, new_number}
use Rattle.relocate_spec.specs.Pointers.{pointer_places, overflow_place}
use Rattle.relocate_spec.specs.Renumbered.{page_renumbered}
use Rattle.relocate_spec.specs.Joining.{Joining, has_room, pages_joined}

-- Two new pages numbered 4 and 5 on a map to which another commit added page 4: they become 5 and 6.
pub two_pages_behind : numbers_given 4 2 ≡ 5 ∷ 6 ∷ []
two_pages_behind = refl

pub names_of_both : new_number (4 ∷ 5 ∷ []) (5 ∷ 6 ∷ []) 5 ≡ 6
names_of_both = refl

pub old_keeps : new_number (4 ∷ 5 ∷ []) (5 ∷ 6 ∷ []) 2 ≡ 2
old_keeps = refl

-- An interior page of a table, of 480 bytes: one cell, at 475, whose left child is a page and whose rowid is 9, and the right child.
abbrev inner_page : (left right : ℕ) → List ℕ
inner_page left right =
    5 ∷ 0 ∷ 0 ∷ 0 ∷ 1 ∷ 1 ∷ 219 ∷ 0 ∷ 0 ∷ 0 ∷ 0 ∷ right ∷ 1 ∷ 219 ∷ (replicate 461 0 ++ (0 ∷ 0 ∷ 0 ∷ left ∷ 9 ∷ []))

pub inner_places : pointer_places 480 false (inner_page 4 5) ≡ 8 ∷ 475 ∷ []
unfolding pointer_places overflow_place kind_of u16_at payload_in spills most_local
inner_places = refl

-- Its children, pages 4 and 5, become 5 and 6, and no other byte changes.
pub inner_renumbered : page_renumbered (new_number (4 ∷ 5 ∷ []) (5 ∷ 6 ∷ [])) 480 2 (inner_page 4 5) ≡ inner_page 5 6
unfolding pointer_places overflow_place kind_of u16_at u32_at payload_in spills most_local
inner_renumbered = refl

-- A page of a chain, of 16 bytes, whose next page 5 becomes 6.
pub link_renumbered : page_renumbered (new_number (4 ∷ 5 ∷ []) (5 ∷ 6 ∷ [])) 480 4 (0 ∷ 0 ∷ 0 ∷ 5 ∷ replicate 12 65) ≡ 0 ∷ 0 ∷ 0 ∷ 6 ∷ replicate 12 65
unfolding pointer_places kind_of u32_at
link_renumbered = refl

-- The freelist of a view: trunk 3 lists the leaves 6 and 8, and names no other trunk. Pages have 64 bytes.
abbrev three_free : Joining
three_free = record {
  view = λ page. if page == 3 then 0 ∷ 0 ∷ 0 ∷ 0 ∷ 0 ∷ 0 ∷ 0 ∷ 2 ∷ 0 ∷ 0 ∷ 0 ∷ 6 ∷ 0 ∷ 0 ∷ 0 ∷ 8 ∷ replicate 48 0 else replicate 64 0;
  trunk = 3;
  count = 3;
  trunks = [];
}

-- Page 9 joins as a third leaf, where a trunk has room for eight; where it has room for none, as a new trunk before page 3.
pub leaf_joins : (pages_joined 64 64 three_free (9 ∷ [])).view 3
    ≡ 0 ∷ 0 ∷ 0 ∷ 0 ∷ 0 ∷ 0 ∷ 0 ∷ 3 ∷ 0 ∷ 0 ∷ 0 ∷ 6 ∷ 0 ∷ 0 ∷ 0 ∷ 8 ∷ 0 ∷ 0 ∷ 0 ∷ 9 ∷ replicate 44 0
unfolding u32_at has_room
leaf_joins = refl

pub trunk_joins : (pages_joined 64 32 three_free (9 ∷ [])).view 9 ≡ 0 ∷ 0 ∷ 0 ∷ 3 ∷ replicate 60 0
unfolding u32_at has_room
trunk_joins = refl

-- A whole commit, over a map of 4 pages of 112 bytes. Its freelist has page 3 alone, a trunk without leaves. A transaction whose snapshot had 3 pages
-- made pages 4 to 6, of which 4 and 6 are the two of a chain and page 5 was freed again, and it freed page 2. Another commit made page 4 meanwhile.
abbrev first_page : List ℕ
first_page = replicate 35 0 ++ (3 ∷ 0 ∷ 0 ∷ 0 ∷ 1 ∷ replicate 72 0)

abbrev four_pages : PageMap
four_pages = first_page ∷ replicate 112 2 ∷ replicate 112 0 ∷ replicate 112 4 ∷ []

abbrev three_made : Mode → Change
three_made mode = record {
  mode = mode;
  base = 3;
  changed = [];
  fresh = record { page = 4; bytes = 0 ∷ 0 ∷ 0 ∷ 6 ∷ replicate 108 65 } ∷ record { page = 5; bytes = replicate 112 9 }
      ∷ record { page = 6; bytes = 0 ∷ 0 ∷ 0 ∷ 0 ∷ replicate 108 66 } ∷ [];
  freed = 2 ∷ 5 ∷ [];
  tail = false;
}

-- Pages 4 and 6 become 5 and 6, and page 5 isn't laid: there are 6 pages. The other's page 4 stays.
pub six_then : last_laid four_pages (three_made Concurrent) ≡ 6
six_then = refl

pub chain_begins : view_laid four_pages (three_made Concurrent) 5 ≡ 0 ∷ 0 ∷ 0 ∷ 6 ∷ replicate 108 65
unfolding u32_at pointer_places kind_of has_room
chain_begins = refl

pub chain_ends : view_laid four_pages (three_made Concurrent) 6 ≡ 0 ∷ 0 ∷ 0 ∷ 0 ∷ replicate 108 66
unfolding u32_at pointer_places kind_of has_room
chain_ends = refl

pub other_stays : view_laid four_pages (three_made Concurrent) 4 ≡ replicate 112 4
unfolding u32_at pointer_places kind_of has_room
other_stays = refl

-- Page 2 is a leaf of trunk 3 then, and page 1 tells of one commit more, 6 pages, and 2 that are free, from trunk 3 on.
pub leaf_of_trunk : view_laid four_pages (three_made Concurrent) 3 ≡ 0 ∷ 0 ∷ 0 ∷ 0 ∷ 0 ∷ 0 ∷ 0 ∷ 1 ∷ 0 ∷ 0 ∷ 0 ∷ 2 ∷ replicate 100 0
unfolding u32_at pointer_places kind_of has_room
leaf_of_trunk = refl

pub first_then : view_laid four_pages (three_made Concurrent) 1
    ≡ replicate 27 0 ++ (1 ∷ 0 ∷ 0 ∷ 0 ∷ 6 ∷ 0 ∷ 0 ∷ 0 ∷ 3 ∷ 0 ∷ 0 ∷ 0 ∷ 2 ∷ (replicate 55 0 ++ (1 ∷ replicate 16 0)))
unfolding u32_at pointer_places kind_of has_room
first_then = refl

-- A plain transaction over a map of 3 pages keeps the numbers of all three, and page 5 joins the freelist as a page of zeros: there are 6 pages.
abbrev three_pages : PageMap
three_pages = first_page ∷ replicate 112 2 ∷ replicate 112 0 ∷ []

pub six_plain : last_laid three_pages (three_made Plain) ≡ 6
six_plain = refl

pub plain_begins : view_laid three_pages (three_made Plain) 4 ≡ 0 ∷ 0 ∷ 0 ∷ 6 ∷ replicate 108 65
unfolding u32_at pointer_places kind_of has_room
plain_begins = refl

pub plain_freed : view_laid three_pages (three_made Plain) 5 ≡ replicate 112 0
unfolding u32_at pointer_places kind_of has_room
plain_freed = refl

pub plain_trunk : view_laid three_pages (three_made Plain) 3 ≡ 0 ∷ 0 ∷ 0 ∷ 0 ∷ 0 ∷ 0 ∷ 0 ∷ 2 ∷ 0 ∷ 0 ∷ 0 ∷ 2 ∷ 0 ∷ 0 ∷ 0 ∷ 5 ∷ replicate 96 0
unfolding u32_at pointer_places kind_of has_room
plain_trunk = refl
