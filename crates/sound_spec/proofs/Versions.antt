-- A database stays sound where bytes 18 and 19 of page 1, its versions, become 3 and 3, those of two logs, and no other byte of a page changes.
use Rattle.std.proofs.Common.{◌≡◌, ℕ, ◌*◌, ◌≤◌, ◌&&◌, Bool, true, false, List, ◌∷◌, length, take, drop, refl, sym, subst, ap, ◌∙◌, arith, inl, inr, get_or}
use Rattle.std.specs.List.{starts_with}
use Rattle.std.specs.Prelude.{nat_eq, nat_le, slice_set}
use Rattle.std.proofs.lemmas.Bool.{cases_eq, ne_eqb}
use Rattle.std.proofs.lemmas.Bool.Decides.{nat_tests}
use Rattle.std.proofs.lemmas.List.{get_or-set_same, get_or-set_other}
use Rattle.page_spec.specs.Bytes.{DiffersOnlyWithin}
use Rattle.page_spec.specs.Header.{database_text, fields_of, pages_in, spelled_page_size, is_page_size, is_database, has_versions, is_utf8, is_without_auto_vacuum, has_usable_bytes, has_schema_format, IsHeader}
use Rattle.page_spec.specs.View.{View}
use Rattle.page_spec.proofs.BytesLaws.{u16_at-below, u32_at-above, take-below, drop-above, differs-set, differs-trans}
use Rattle.tree_spec.specs.Layout.{times, Item}
use Rattle.tree_spec.specs.Shown.{IsAlike, shown_by}
use Rattle.tree_spec.specs.Freelist.{IsFreelist}
use Rattle.tree_spec.proofs.Local.{alike_by_bytes}
use Rattle.tree_spec.proofs.Freelists.{freelist_local, freelist_range}
use Rattle.sound_spec.specs.Sound.{CountsPages, IsSound}
use Rattle.sound_spec.proofs.Within.{of_each}
use Rattle.sound_spec.proofs.Apart.{used_range}
use Rattle.sound_spec.proofs.Local.{trees_local}

-- page 1 with these versions, and nothing else changed
abbrev pub own_versions : List ℕ → List ℕ
own_versions page = slice_set (slice_set page 18 3) 19 3

module _ (old : List ℕ) where
  only_versions : DiffersOnlyWithin old (own_versions old) 18 20
  only_versions = differs-trans (differs-set old 18 3) (differs-set (slice_set old 18 3) 19 3) 18 20 (omega arith) (omega arith) (omega arith) (omega arith)

  write_is : 100 ≤ length old → get_or (own_versions old) 18 0 ≡ 3
  write_is long = get_or-set_other (slice_set old 18 3) 19 18 3 0 (λ is. omega arith) ∙ get_or-set_same old 18 3 0 (omega (arith, long))

  read_is : 100 ≤ length old → get_or (own_versions old) 19 0 ≡ 3
  read_is long = get_or-set_same (slice_set old 18 3) 19 3 0 (omega (arith, (differs-set old 18 3).same_length, long))

  text_still : starts_with nat_eq (own_versions old) database_text ≡ starts_with nat_eq old database_text
  text_still = let front : take 16 (own_versions old) ≡ take 16 old = take-below only_versions 16 (omega arith) in rw front refl

  database_still : is_database old ≡ true → is_database (own_versions old) ≡ true
  unfolding is_database
  database_still is =
      rw (only_versions.same_length, text_still, only_versions.after 21 (omega arith), only_versions.after 22 (omega arith), only_versions.after 23 (omega arith)) is

  -- the header stays readable, and names the same
  header_still : 100 ≤ length old → IsHeader old → IsHeader (own_versions old)
  unfolding fields_of has_versions is_utf8 is_without_auto_vacuum has_usable_bytes has_schema_format
  header_still long h = record {
    database = database_still h.database;
    page_size = subst (λ (n : ℕ). is_page_size (spelled_page_size n) ≡ true) (sym (u16_at-below only_versions 16 (omega arith))) h.page_size;
    versions = rw (write_is long, read_is long) refl;
    utf8 = rw (u32_at-above only_versions 56 (omega arith)) h.utf8;
    without_auto_vacuum = rw (u32_at-above only_versions 52 (omega arith)) h.without_auto_vacuum;
    usable_bytes = rw (only_versions.after 20 (omega arith), u16_at-below only_versions 16 (omega arith)) h.usable_bytes;
    schema_format = rw (u32_at-above only_versions 44 (omega arith)) h.schema_format;
  }

  count_still : (long : ℕ) → pages_in (own_versions old) long ≡ pages_in old long
  unfolding fields_of pages_in
  count_still long =
      rw (
        u16_at-below only_versions 16 (omega arith),
        u32_at-above only_versions 24 (omega arith),
        u32_at-above only_versions 28 (omega arith),
        u32_at-above only_versions 92 (omega arith),
      ) refl

  trunk_still : (fields_of (own_versions old)).first_trunk ≡ (fields_of old).first_trunk
  unfolding fields_of
  trunk_still = u32_at-above only_versions 32 (omega arith)

  free_still : (fields_of (own_versions old)).free_pages ≡ (fields_of old).free_pages
  unfolding fields_of
  free_still = u32_at-above only_versions 36 (omega arith)

-- a readable header has 100 bytes
le_of : (m n : ℕ) → nat_le m n ≡ true → m ≤ n
le_of m n is = grind (arith, nat_tests)

and_first : (a b : Bool) → (a && b) ≡ true → a ≡ true
and_first true b is = refl
and_first false b is = is

database_long : (first : List ℕ) → is_database first ≡ true → 100 ≤ length first
unfolding is_database
database_long first is = le_of 100 (length first) (and_first _ _ (and_first _ _ (and_first _ _ (and_first _ _ is))))

-- A sound view, and another one that shows page 1 with these versions and the same at each page from 2 on.
module _ (page_size usable last : ℕ) (view view_then : View) (roots used free : List ℕ) (rows : List Item) (first : view_then 1 ≡ own_versions (view 1))
    (others : (page : ℕ) → 2 ≤ page → view_then page ≡ view page) (is : IsSound page_size usable last view roots used free rows) where
  counts_too : CountsPages page_size last (view_then 1)
  counts_too =
      subst (λ (bytes : List ℕ). CountsPages page_size last bytes) (sym first) (record {
        some = is.header.some;
        header = header_still (view 1) (database_long (view 1) is.header.header.database) is.header.header;
        count = count_still (view 1) (last * page_size) ∙ is.header.count;
      })

  free_too : IsFreelist usable last view_then (fields_of (view_then 1)).first_trunk (fields_of (view_then 1)).free_pages free
  free_too =
      let range = freelist_range usable last view (fields_of (view 1)).first_trunk (fields_of (view 1)).free_pages free is.freelist in
      let moved =
      freelist_local usable last last view view_then (fields_of (view 1)).first_trunk (fields_of (view 1)).free_pages free (omega arith)
      (λ n there. others n (of_each (λ page. (2 ≤ page) × (page ≤ last)) free n range there).0) is.freelist in
      subst (λ (n : ℕ). IsFreelist usable last view_then (fields_of (view_then 1)).first_trunk n free)
      (sym (free_still (view 1)) ∙ ap (λ (bytes : List ℕ). (fields_of bytes).free_pages) (sym first))
      (subst (λ (n : ℕ). IsFreelist usable last view_then n (fields_of (view 1)).free_pages free)
      (sym (trunk_still (view 1)) ∙ ap (λ (bytes : List ℕ). (fields_of bytes).first_trunk) (sym first)) moved)

  some_page : (n : ℕ) → 1 ≤ times used n → 1 ≤ n
  some_page n there =
      let (behind, used_is, range) = used_range usable last (shown_by usable view) roots used rows is.trees in
      elim (cases_eq 1 n) [
        | inl one ↦ omega (arith, one)
        | inr apart ↦
            let all : 1 ≤ times (1 ∷ behind) n = subst (λ (l : List ℕ). 1 ≤ times l n) used_is there in
            let rest = rw (ne_eqb 1 n apart) at all in
            omega (arith, (of_each (λ page. (2 ≤ page) × (page ≤ last)) behind n range (omega (arith, rest))).0)
      ]

  alike : (n : ℕ) → 1 ≤ times used n → IsAlike (shown_by usable view) (shown_by usable view_then) n
  alike n there =
      alike_by_bytes usable view view_then n (some_page n there)
      (λ one. subst (λ (page : ℕ). drop 100 (view_then page) ≡ drop 100 (view page)) (sym one)
      (ap (λ (bytes : List ℕ). drop 100 bytes) first ∙ drop-above (only_versions (view 1)) 100 (omega arith))) (others n)

  -- is sound too, with the same roots, pages and rows.
  pub versions_sound : IsSound page_size usable last view_then roots used free rows
  versions_sound = record {
    header = counts_too;
    freelist = free_too;
    trees = trees_local usable last last (shown_by usable view) (shown_by usable view_then) roots used rows (omega arith) alike is.trees;
    named = is.named;
    placed = is.placed;
  }
