-- The map with which an opened store begins is a page store's, and what such a store tells of its logs and of itself.
use Rattle.std.proofs.Common.{◌≡◌, inl, ℕ, ◌≤◌, ◌%◌, ◌==◌, Bool, true, false, ◌&&◌, if◌then◌else◌, List, [], ◌∷◌, length, Option, Some, None, refl, sym, ◌∙◌, ap, subst, arith}
use Rattle.std.specs.Prelude.{All, Contains, slice_index, slice_set}
use Rattle.std.proofs.lemmas.Bool.{eqb-true}
use Rattle.std.proofs.lemmas.List.{get_or-set_other}
use Rattle.std.proofs.lemmas.List.Elements.{All-head}
use Rattle.disk_face.specs.Files.{Files}
use Rattle.disk_face.specs.Steps.{History}
use Rattle.page_spec.specs.PageMap.{PageMap, page_at, page_size_of, page_sizes}
use Rattle.log_spec.specs.LogHeader.{last_generation}
use Rattle.crash_spec.specs.Recovered.{recovered}
use Rattle.opening_spec.proofs.Beginning.{map_is_recovered}
use Rattle.engine_spec.specs.Good.{HasSizes}
use Rattle.engine_spec.specs.State.{EngineState}
use Rattle.engine_spec.specs.TwoLogs.{AreLogs}
use Rattle.recover.specs.NewPages.{new_pages, new_first_page, migrated}
use Rattle.recover.specs.Seeing.{is_new_in, is_ours_in, map_found}
use Rattle.recover.specs.declared.setup.StoreKind.TheVariants.{Pages}
use Rattle.store_spec.specs.Store.{StoreData, two_logs, store_state}
use Rattle.store.specs.declared.open_fault.OpenFault.TheVariants.{NotPages}
use Rattle.store.specs.Opening.{AreOpened, IsBeginning, are_pages, wrong_count, fault_by, named_in, byte_in, map_opened, size_opened, no_readers}
use Rattle.store.proofs.Beginning.{generation_of_one, first_kept, kept_is}

-- a new page store has no tree
new_no_tree : (size : ℕ) → slice_index (page_at (new_pages Pages size) 1) 100 ≡ 0
unfolding new_pages new_first_page
new_no_tree size = refl

-- a page store that was found has none
found_no_tree : (pages named byte : ℕ) → fault_by false pages named byte ≡ None → byte ≡ 0
found_no_tree pages named byte none = by (are_pages pages named byte) refl none
  where
    last : (a b c : Bool) → (a && b && c) ≡ true → c ≡ true
    last true true true is = refl
    last true true false is = cc
    last true false c is = cc
    last false b c is = cc

    by : (are : Bool) → are_pages pages named byte ≡ are → (if are then None else Some (NotPages (wrong_count pages named) byte)) ≡ None → byte ≡ 0
    by true is none = eqb-true byte 0 (last (pages == 16) (named == 16) (byte == 0) is)
    by false is none = cc

-- this program's versions change bytes 18 and 19 alone
migrated_no_tree : (pages : PageMap) → slice_index (page_at (migrated pages) 1) 100 ≡ slice_index (page_at pages 1) 100
migrated_no_tree [] = refl
migrated_no_tree (page ∷ rest) = get_or-set_other (slice_set page 18 3) 19 100 3 0 (λ is. omega arith) ∙ get_or-set_other page 18 100 3 0 (λ is. omega arith)

-- no page 1 with which a store begins has a tree
pub opened_no_tree : (new_size : ℕ) (hot : Option Bool) (files : Files) → AreOpened hot files → slice_index (page_at (map_opened new_size files) 1) 100 ≡ 0
opened_no_tree new_size hot files opened = by (is_new_in files) (is_ours_in files) opened.pages
  where
    -- what is recovered is the map that was found, also where a disk tells these files and no step
    still : recovered files ≡ map_found files
    still = map_is_recovered 0 (record { first = files; steps = [] })

    byte_still : slice_index (page_at (recovered files) 1) 100 ≡ byte_in files
    byte_still = ap (λ (pages : PageMap). slice_index (page_at pages 1) 100) still

    by : (new ours : Bool) → fault_by new (length (map_found files)) (named_in files) (byte_in files) ≡ None
        → slice_index (page_at (if new then new_pages Pages new_size else (if ours then recovered files else migrated (recovered files))) 1) 100 ≡ 0
    by true ours none = new_no_tree new_size
    by false true none = byte_still ∙ found_no_tree (length (map_found files)) (named_in files) (byte_in files) none
    by false false none = migrated_no_tree (recovered files) ∙ byte_still ∙ found_no_tree (length (map_found files)) (named_in files) (byte_in files) none

-- The pages of a page store: 16 of one legal size, and no tree on page 1.
pub record ArePages (bytes : ℕ) (pages : PageMap) : Type 0 where
  pub count : length pages ≡ 16
  pub size_is : page_size_of pages ≡ bytes
  pub size : Contains page_sizes (page_size_of pages)
  pub each : All (λ page. length page ≡ page_size_of pages) pages
  pub no_tree : slice_index (page_at pages 1) 100 ≡ 0

-- the first page has the size of all
first_size : (pages : PageMap) (size : ℕ) → HasSizes pages 16 size → page_size_of pages ≡ size
first_size [] size sizes = absurd (omega (arith, sizes.count))
first_size (page ∷ rest) size sizes = All-head (λ (page : List ℕ). length page ≡ size) page rest sizes.each

-- so the map with which a store begins is a page store's, where it has these sizes
pub opened_with_sizes : (new_size count bytes : ℕ) (hot : Option Bool) (files : Files) → AreOpened hot files
    → count ≡ 16 → HasSizes (map_opened new_size files) count bytes → Contains page_sizes bytes
    → ArePages bytes (map_opened new_size files)
opened_with_sizes new_size count bytes hot files opened sixteen sizes legal =
    let is = first_size (map_opened new_size files) bytes (record { count = sizes.count ∙ sixteen; each = sizes.each }) in
    record {
      count = sizes.count ∙ sixteen;
      size_is = is;
      size = subst (λ (n : ℕ). Contains page_sizes n) (sym is) legal;
      each = subst (λ (n : ℕ). All (λ page. length page ≡ n) (map_opened new_size files)) (sym is) sizes.each;
      no_tree = opened_no_tree new_size hot files opened;
    }

pub opened_is_store : (new_size : ℕ) (hot : Option Bool) (files : Files) → AreOpened hot files
    → HasSizes (map_opened new_size files) 16 (size_opened new_size files) → Contains page_sizes (size_opened new_size files)
    → ArePages (size_opened new_size files) (map_opened new_size files)
opened_is_store new_size hot files opened sizes legal = opened_with_sizes new_size 16 (size_opened new_size files) hot files opened refl sizes legal

-- The two logs of a store as it begins, with this limit on the frames of a log: none has a frame, and log 1 is current.
pub record BeginsLogs (most : ℕ) (kept : StoreData) : Type 0 where
  pub current : (two_logs kept).current ≡ 1
  pub since : (two_logs kept).since ≡ 0
  pub other_since : (two_logs kept).other_since ≡ 0
  pub done : (two_logs kept).done ≡ true
  pub copied : (two_logs kept).copied ≡ 0
  pub limit : (two_logs kept).limit ≡ most
  pub generation : (two_logs kept).generation ≡ kept.pair.one.header.generation
  pub least : 1 ≤ (two_logs kept).generation
  pub last : (two_logs kept).generation ≤ last_generation
  pub odd : (two_logs kept).generation % 2 ≡ 1
  pub are : AreLogs (two_logs kept) kept.history

pub begins_logs : (bytes used most : ℕ) (kept : StoreData) → IsBeginning bytes used most kept → BeginsLogs most kept
begins_logs bytes used most kept b = subst (BeginsLogs most) (sym (kept_is 16 bytes used most kept b)) first
  where
    first : BeginsLogs most (first_kept 16 bytes used most b.pair.one b.pair.two)
    first =
        let generation = generation_of_one b.pair.one.generation b.pair.legal.0.1 in
        record {
          current = refl;
          since = refl;
          other_since = refl;
          done = refl;
          copied = refl;
          limit = refl;
          generation = refl;
          least = generation.0;
          last = generation.1;
          odd = generation.2;
          are = record {
            current = inl refl;
            least = generation.0;
            most = generation.1;
            odd = ((λ odd. refl), (λ one. generation.2));
            since = omega arith;
            other_since = omega arith;
          };
        }

-- What a store tells as it begins, over a disk with this past and count of faults, without a reader.
pub record BeginsState (bytes used : ℕ) (told : Option History) (count : ℕ) (kept : StoreData) (state : EngineState) : Type 0 where
  pub history_is : state.history ≡ []
  pub own : state.own ≡ []
  pub size : state.size ≡ 16
  pub stopped : state.stopped ≡ None
  pub faults : state.faults ≡ count
  pub page_size : state.page_size ≡ bytes
  pub usable : state.usable ≡ used
  pub always_begins : state.always_begins ≡ true
  pub alone : state.alone ≡ true
  pub logs : state.logs ≡ Some (two_logs kept)
  pub readers : state.readers ≡ no_readers
  pub disk : state.disk ≡ told

pub begins_state : (bytes used most : ℕ) (told : Option History) (faults : ℕ) (kept : StoreData) → IsBeginning bytes used most kept
    → BeginsState bytes used told faults kept (store_state told faults kept no_readers)
begins_state bytes used most told faults kept b =
    subst (λ (kept : StoreData). BeginsState bytes used told faults kept (store_state told faults kept no_readers)) (sym (kept_is 16 bytes used most kept b))
    (record {
      history_is = refl;
      own = refl;
      size = refl;
      stopped = refl;
      faults = refl;
      page_size = refl;
      usable = refl;
      always_begins = refl;
      alone = refl;
      logs = refl;
      readers = refl;
      disk = refl;
    })
