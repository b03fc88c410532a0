-- The map with which a store begins is a page store's of this program, whatever was found.
use Rattle.std.proofs.Common.{◌≡◌, ℕ, zero, suc, ◌+◌, ◌*◌, ◌≤◌, ◌<◌, max, replicate, ◌==◌, ◌&&◌, Bool, true, false, if◌then◌else◌, List, [], ◌∷◌, length, length-set, take, Option, Some, None, refl, sym, ◌∙◌, ap, subst, arith}
use Rattle.std.specs.List.{starts_with}
use Rattle.std.specs.Prelude.{All, nat_eq, nat_le, slice_index, slice_set}
use Rattle.std.proofs.lemmas.Bool.{eqb-true}
use Rattle.std.proofs.lemmas.List.{length-replicate, get_or-set_same, get_or-set_other, take-set-le}
use Rattle.std.proofs.lemmas.List.Elements.{All-nil, All-cons, All-head, All-tail}
use Rattle.disk_face.specs.Files.{Files}
use Rattle.page_spec.specs.Bytes.{u16_at, u32_at}
use Rattle.page_spec.specs.Header.{HeaderFields, database_text, fields_of, page_size_in, pages_in, spelled_page_size, is_page_size, is_database, has_versions, is_utf8, is_without_auto_vacuum, has_usable_bytes, has_schema_format, IsHeader}
use Rattle.page_spec.specs.PageMap.{PageMap, page_at, page_size_of}
use Rattle.crash_spec.specs.Recovered.{pages_from, recovered, size_of_first}
use Rattle.crash_spec.proofs.NamedPages.{pages_alike}
use Rattle.opening_spec.proofs.Beginning.{map_is_recovered}
use Rattle.recover.specs.NewPages.{first_then_zeros, new_first_page, new_pages, migrated, with_versions}
use Rattle.recover.specs.Seeing.{is_new_in, is_ours_in, first_in, size_in, map_found}
use Rattle.recover.specs.declared.setup.StoreKind.TheVariants.{Pages}
use Rattle.recover.proofs.NewPages.{first_sized, first_long, new_length}
use Rattle.recover.proofs.Page1.{database_is_long, le_true}
use Rattle.recover.proofs.SeenFiles.{legal_size}
use Rattle.store.specs.Opening.{AreOpened, are_pages, wrong_count, fault_by, named_in, byte_in, map_opened}
use Rattle.store.specs.declared.open_fault.OpenFault.TheVariants.{NotPages}
use Rattle.reopening.specs.Reopening.{IsReadableStore, HasOwnVersions}
use Rattle.reopening.proofs.Fine.{HaveNone, none_of, found_first, found_long, header_is}
use Rattle.reopening.proofs.FirstBytes.{fields_alike, header_alike}
use Rattle.reopening.proofs.Stamps.{IsOwnFirst}

-- a page store that was found has 16 pages, by both counts, and no tree
counts_are : (pages named byte : ℕ) → fault_by false pages named byte ≡ None → (pages ≡ 16) × (named ≡ 16) × (byte ≡ 0)
counts_are pages named byte none = by (are_pages pages named byte) refl none
  where
    parts : (a b c : Bool) → (a && b && c) ≡ true → (a ≡ true) × (b ≡ true) × (c ≡ true)
    parts true true true is = (refl, refl, refl)
    parts true true false is = cc
    parts true false c is = cc
    parts false b c is = cc

    by : (are : Bool) → are_pages pages named byte ≡ are → (if are then None else Some (NotPages (wrong_count pages named) byte)) ≡ None → (pages ≡ 16) × (named ≡ 16) × (byte ≡ 0)
    by true is none = let all = parts (pages == 16) (named == 16) (byte == 0) is in (eqb-true pages 16 all.0, eqb-true named 16 all.1, eqb-true byte 0 all.2)
    by false is none = cc

each_of : (size : ℕ) (pages : PageMap) → ((k : ℕ) → k < length pages → length (page_at pages (suc k)) ≡ size) → All (λ page. length page ≡ size) pages
each_of size [] each = All-nil (λ (page : List ℕ). length page ≡ size)
each_of size (page ∷ pages) each = All-cons (λ (page : List ℕ). length page ≡ size) page pages (each 0 (omega arith)) (each_of size pages (λ k less. each (suc k) (omega arith)))

module _ (hot : Option Bool) (files : Files) (o : AreOpened hot files) (old : is_new_in files ≡ false) where
  none : HaveNone files
  none = none_of files o.look.fine

  counts : (length (map_found files) ≡ 16) × (named_in files ≡ 16) × (byte_in files ≡ 0)
  counts = by (is_new_in files) old o.pages
    where
      by : (new : Bool) → new ≡ false → fault_by new (length (map_found files)) (named_in files) (byte_in files) ≡ None → (length (map_found files) ≡ 16) × (named_in files ≡ 16) × (byte_in files ≡ 0)
      by true is none = cc
      by false is none = counts_are (length (map_found files)) (named_in files) (byte_in files) none

  first_alike : take 100 (page_at (map_found files) 1) ≡ take 100 (first_in files)
  first_alike = found_first files none old (omega (arith, counts.0))

  same_fields : fields_of (page_at (map_found files) 1) ≡ fields_of (first_in files)
  same_fields = fields_alike (page_at (map_found files) 1) (first_in files) first_alike

  pub size_is : size_of_first (map_found files) ≡ size_in files
  size_is = ap page_size_in same_fields

  -- what was found is a readable page store
  pub found_store : IsReadableStore (map_found files)
  found_store = record {
    count = counts.0;
    each = subst (λ (n : ℕ). All (λ (page : List ℕ). length page ≡ n) (map_found files)) (sym size_is) (each_of (size_in files) (map_found files) (found_long files none old));
    header = header_alike (first_in files) (page_at (map_found files) 1) (sym first_alike) (header_is files none old);
    no_tree = counts.2;
  }

  -- whose page 1 names its pages for a file as long as these have it, or as the map
  pub found_named : pages_in (page_at (map_found files) 1) (max (max (length files.main) (length (map_found files) * size_in files)) (16 * size_of_first (map_found files))) ≡ 16
  found_named =
      pages_alike (page_at (map_found files) 1) (first_in files) (max (max (length files.main) (length (map_found files) * size_in files)) (16 * size_of_first (map_found files))) same_fields
      ∙ ap (λ (n : ℕ). pages_in (first_in files) n) (same_room (length files.main) (length (map_found files)) (size_in files) (size_of_first (map_found files)) counts.0 size_is) ∙ counts.1
    where
      same_room : (long count size named : ℕ) → count ≡ 16 → named ≡ size → max (max long (count * size)) (16 * named) ≡ max long (count * size)
      same_room long count size named sixteen same = rw (sixteen, same) (omega arith)

  pub found_own : is_ours_in files ≡ true → HasOwnVersions (map_found files)
  found_own ours =
      let both = parts (fields_of (first_in files)).write_version (fields_of (first_in files)).read_version ours in
      (ap (λ (f : HeaderFields). f.write_version) same_fields ∙ both.0, ap (λ (f : HeaderFields). f.read_version) same_fields ∙ both.1)
    where
      parts : (a b : ℕ) → (a == 3 && b == 3) ≡ true → (a ≡ 3) × (b ≡ 3)
      parts a b is = by (a == 3) (b == 3) refl refl is
        where
          by : (x y : Bool) → (a == 3) ≡ x → (b == 3) ≡ y → (x && y) ≡ true → (a ≡ 3) × (b ≡ 3)
          by true true one two is = (eqb-true a 3 one, eqb-true b 3 two)
          by true false one two is = cc
          by false y one two is = cc

-- with this program's versions a page keeps all else
module _ (page : List ℕ) (long : 100 ≤ length page) where
  byte_still : (k : ℕ) → (k ≡ 18 → ⊥) → (k ≡ 19 → ⊥) → slice_index (with_versions page) k ≡ slice_index page k
  byte_still k one two = get_or-set_other (slice_set page 18 3) 19 k 3 0 two ∙ get_or-set_other page 18 k 3 0 one

  write_is : slice_index (with_versions page) 18 ≡ 3
  write_is = get_or-set_other (slice_set page 18 3) 19 18 3 0 (λ is. omega arith) ∙ get_or-set_same page 18 3 0 (omega (arith, long))

  read_is : slice_index (with_versions page) 19 ≡ 3
  read_is = get_or-set_same (slice_set page 18 3) 19 3 0 (omega (arith, length-set page 18 3, long))

  long_still : length (with_versions page) ≡ length page
  long_still = length-set (slice_set page 18 3) 19 3 ∙ length-set page 18 3

  text_still : starts_with nat_eq (with_versions page) database_text ≡ starts_with nat_eq page database_text
  text_still =
      let front : take 16 (with_versions page) ≡ take 16 page = take-set-le 16 (slice_set page 18 3) 19 3 (omega arith) ∙ take-set-le 16 page 18 3 (omega arith) in
      rw front refl

  u16_still : u16_at (with_versions page) 16 ≡ u16_at page 16
  unfolding u16_at
  u16_still = rw (byte_still 16 (λ is. omega arith) (λ is. omega arith), byte_still 17 (λ is. omega arith) (λ is. omega arith)) refl

  u32_still : (at : ℕ) → 20 ≤ at → u32_at (with_versions page) at ≡ u32_at page at
  unfolding u32_at
  u32_still at far =
      rw (
        byte_still at (λ is. omega arith) (λ is. omega arith),
        byte_still (at + 1) (λ is. omega arith) (λ is. omega arith),
        byte_still (at + 2) (λ is. omega arith) (λ is. omega arith),
        byte_still (at + 3) (λ is. omega arith) (λ is. omega arith),
      ) refl

  database_still : is_database page ≡ true → is_database (with_versions page) ≡ true
  unfolding is_database
  database_still is =
      rw (
        long_still,
        text_still,
        byte_still 21 (λ is. omega arith) (λ is. omega arith),
        byte_still 22 (λ is. omega arith) (λ is. omega arith),
        byte_still 23 (λ is. omega arith) (λ is. omega arith),
      ) is

  pub versions_header : IsHeader page → IsHeader (with_versions page)
  unfolding fields_of has_versions is_utf8 is_without_auto_vacuum has_usable_bytes has_schema_format
  versions_header h = record {
    database = database_still h.database;
    page_size = subst (λ (n : ℕ). is_page_size (spelled_page_size n) ≡ true) (sym u16_still) h.page_size;
    versions = rw (write_is, read_is) refl;
    utf8 = rw (u32_still 56 (omega arith)) h.utf8;
    without_auto_vacuum = rw (u32_still 52 (omega arith)) h.without_auto_vacuum;
    usable_bytes = rw (byte_still 20 (λ is. omega arith) (λ is. omega arith), u16_still) h.usable_bytes;
    schema_format = rw (u32_still 44 (omega arith)) h.schema_format;
  }

  pub versions_sized : page_size_in (fields_of (with_versions page)) ≡ page_size_in (fields_of page)
  unfolding fields_of
  versions_sized = ap spelled_page_size u16_still

  pub versions_pages : (n : ℕ) → pages_in (with_versions page) n ≡ pages_in page n
  unfolding fields_of pages_in
  versions_pages n = rw (u16_still, u32_still 24 (omega arith), u32_still 28 (omega arith), u32_still 92 (omega arith)) refl

  pub versions_own : ((fields_of (with_versions page)).write_version ≡ 3) × ((fields_of (with_versions page)).read_version ≡ 3)
  unfolding fields_of
  versions_own = (write_is, read_is)

-- so a readable page store stays one, and has them
migrated_first : (pages : PageMap) → 1 ≤ length pages → page_at (migrated pages) 1 ≡ with_versions (page_at pages 1)
migrated_first [] some = absurd (omega arith)
migrated_first (page ∷ rest) some = refl

migrated_each : (size : ℕ) (pages : PageMap) → All (λ page. length page ≡ size) pages → All (λ page. length page ≡ size) (migrated pages)
migrated_each size [] each = each
migrated_each size (page ∷ rest) each =
    All-cons (λ (page : List ℕ). length page ≡ size) _ rest
    (length-set (slice_set page 18 3) 19 3 ∙ length-set page 18 3 ∙ All-head (λ (page : List ℕ). length page ≡ size) page rest each)
    (All-tail (λ (page : List ℕ). length page ≡ size) page rest each)

migrated_count : (pages : PageMap) → length (migrated pages) ≡ length pages
migrated_count [] = refl
migrated_count (page ∷ rest) = refl

module _ (pages : PageMap) (s : IsReadableStore pages) where
  first_is : page_at (migrated pages) 1 ≡ with_versions (page_at pages 1)
  first_is = let count = s.count in migrated_first pages (omega arith)

  first_hundred : 100 ≤ length (page_at pages 1)
  first_hundred = database_is_long (page_at pages 1) s.header.database

  pub size_still : size_of_first (migrated pages) ≡ size_of_first pages
  size_still = ap (λ (page : List ℕ). page_size_in (fields_of page)) first_is ∙ versions_sized (page_at pages 1) first_hundred

  pub migrated_store : IsReadableStore (migrated pages)
  migrated_store = record {
    count = migrated_count pages ∙ s.count;
    each = subst (λ (n : ℕ). All (λ (page : List ℕ). length page ≡ n) (migrated pages)) (sym size_still) (migrated_each (size_of_first pages) pages s.each);
    header = subst IsHeader (sym first_is) (versions_header (page_at pages 1) first_hundred s.header);
    no_tree = ap (λ (page : List ℕ). slice_index page 100) first_is ∙ byte_still (page_at pages 1) first_hundred 100 (λ is. omega arith) (λ is. omega arith) ∙ s.no_tree;
  }

  pub migrated_named : (n : ℕ) → pages_in (page_at (migrated pages) 1) n ≡ pages_in (page_at pages 1) n
  migrated_named n = ap (λ (page : List ℕ). pages_in page n) first_is ∙ versions_pages (page_at pages 1) first_hundred n

  pub migrated_own : HasOwnVersions (migrated pages)
  migrated_own =
      let own = versions_own (page_at pages 1) first_hundred in
      (ap (λ (page : List ℕ). (fields_of page).write_version) first_is ∙ own.0, ap (λ (page : List ℕ). (fields_of page).read_version) first_is ∙ own.1)

-- and so is a new one
new_first_is : (size : ℕ) → page_at (new_pages Pages size) 1 ≡ new_first_page Pages size
unfolding new_pages
new_first_is size = refl

database_of : (first : List ℕ) → nat_le 100 (length first) ≡ true → starts_with nat_eq first database_text ≡ true
    → (slice_index first 21 == 64) ≡ true → (slice_index first 22 == 32) ≡ true → (slice_index first 23 == 32) ≡ true → is_database first ≡ true
unfolding is_database
database_of first long text one two three = rw (long, text, one, two, three) refl

module _ (size : ℕ) (legal : is_page_size size ≡ true) where
  new_wide : (512 ≤ size) × (size ≤ 65536)
  new_wide = legal_size size legal

  new_header_is : IsHeader (new_first_page Pages size)
  unfolding fields_of has_versions is_utf8 is_without_auto_vacuum has_usable_bytes has_schema_format new_first_page u32_at
  new_header_is = record {
    database = database_of (new_first_page Pages size) (ap (λ (n : ℕ). nat_le 100 n) (first_long Pages size (omega (arith, new_wide.0))) ∙ le_true 100 size (omega (arith, new_wide.0))) refl refl refl refl;
    page_size = ap is_page_size (first_sized Pages size legal) ∙ legal;
    versions = refl;
    utf8 = refl;
    without_auto_vacuum = refl;
    usable_bytes = ap (λ (n : ℕ). nat_le 480 n) (first_sized Pages size legal) ∙ le_true 480 size (omega (arith, new_wide.0));
    schema_format = refl;
  }

  new_own_is : ((fields_of (new_first_page Pages size)).write_version ≡ 3) × ((fields_of (new_first_page Pages size)).read_version ≡ 3)
  unfolding fields_of new_first_page
  new_own_is = (refl, refl)

-- so the pages of a new database are a readable page store of this program
each_from : (size : ℕ) (page : ℕ → List ℕ) → ((n : ℕ) → length (page n) ≡ size) → (first count : ℕ) → All (λ page. length page ≡ size) (pages_from page first count)
each_from size page each first zero = All-nil (λ (page : List ℕ). length page ≡ size)
each_from size page each first (suc count) =
    All-cons (λ (page : List ℕ). length page ≡ size) (page first) (pages_from page (first + 1) count) (each first) (each_from size page each (first + 1) count)

zeros_long : (first : List ℕ) (n : ℕ) → length (first_then_zeros first n) ≡ length first
zeros_long first n = by (n == 1)
  where
    by : (is : Bool) → length (if is then first else replicate (length first) 0) ≡ length first
    by true = refl
    by false = length-replicate (length first) 0

all_long : (size : ℕ) → All (λ page. length page ≡ length (new_first_page Pages size)) (new_pages Pages size)
unfolding new_pages
all_long size = each_from (length (new_first_page Pages size)) (first_then_zeros (new_first_page Pages size)) (zeros_long (new_first_page Pages size)) 1 16

no_tree_yet : (size : ℕ) → slice_index (new_first_page Pages size) 100 ≡ 0
unfolding new_first_page
no_tree_yet size = refl

module _ (size : ℕ) (legal : is_page_size size ≡ true) where
  pub new_sized : size_of_first (new_pages Pages size) ≡ size
  new_sized = ap (λ (page : List ℕ). page_size_in (fields_of page)) (new_first_is size) ∙ first_sized Pages size legal

  pub new_store : IsReadableStore (new_pages Pages size)
  new_store = record {
    count = new_length Pages size;
    each = subst (λ (n : ℕ). All (λ (page : List ℕ). length page ≡ n) (new_pages Pages size))
        (let wide = new_wide size legal in first_long Pages size (omega (arith, wide.0)) ∙ sym new_sized) (all_long size);
    header = subst IsHeader (sym (new_first_is size)) (new_header_is size legal);
    no_tree = ap (λ (page : List ℕ). slice_index page 100) (new_first_is size) ∙ no_tree_yet size;
  }

  pub new_own : HasOwnVersions (new_pages Pages size)
  new_own =
      let own = new_own_is size legal in
      (ap (λ (page : List ℕ). (fields_of page).write_version) (new_first_is size) ∙ own.0, ap (λ (page : List ℕ). (fields_of page).read_version) (new_first_is size) ∙ own.1)

-- page 1 of a readable page store with this program's versions
pub own_of : (pages : PageMap) → IsReadableStore pages → HasOwnVersions pages → IsOwnFirst (page_size_of pages) (page_at pages 1)
own_of pages s own = record {
  header = s.header;
  write_version = own.0;
  read_version = own.1;
  sized = sym (first_each pages (let count = s.count in omega arith) s.each);
}
  where
    first_each : (all : PageMap) → 1 ≤ length all → All (λ page. length page ≡ size_of_first pages) all → length (page_at all 1) ≡ size_of_first pages
    first_each [] some each = absurd (omega arith)
    first_each (page ∷ rest) some each = All-head (λ (page : List ℕ). length page ≡ size_of_first pages) page rest each

-- So page 1 of the map with which a store begins is one of a store of this program.
pub opened_own : (new_size : ℕ) (hot : Option Bool) (files : Files) → is_page_size new_size ≡ true → AreOpened hot files
    → IsOwnFirst (page_size_of (map_opened new_size files)) (page_at (map_opened new_size files) 1)
opened_own new_size hot files legal o = by (is_new_in files) (is_ours_in files) refl refl
  where
    found_is : recovered files ≡ map_found files
    found_is = map_is_recovered 0 (record { first = files; steps = [] })

    Own : PageMap → Type 0
    Own pages = IsOwnFirst (page_size_of pages) (page_at pages 1)

    new_own : Own (new_pages Pages new_size)
    new_own =
        let is = new_first_is new_size in
        let own = new_own_is new_size legal in
        let wide = new_wide new_size legal in
        subst (λ (page : List ℕ). IsOwnFirst (length page) page) (sym is) (record {
          header = new_header_is new_size legal;
          write_version = own.0;
          read_version = own.1;
          sized = first_sized Pages new_size legal ∙ sym (first_long Pages new_size (omega (arith, wide.0)));
        })

    by : (new ours : Bool) → is_new_in files ≡ new → is_ours_in files ≡ ours → Own (if new then new_pages Pages new_size else (if ours then recovered files else migrated (recovered files)))
    by true ours is own = new_own
    by false true is own = subst Own (sym found_is) (own_of (map_found files) (found_store hot files o is) (found_own hot files o is own))
    by false false is own =
        subst (λ (pages : PageMap). Own (migrated pages)) (sym found_is)
        (own_of (migrated (map_found files)) (migrated_store (map_found files) (found_store hot files o is)) (migrated_own (map_found files) (found_store hot files o is)))
