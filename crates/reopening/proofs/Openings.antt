-- What a crash leaves of an opening is opened again: it recovers to the map before, or to the one with which the store begins.
use Rattle.std.proofs.Common.{◌≡◌, ◌≢◌, inl, inr, ℕ, ◌*◌, ◌≤◌, ◌==◌, ◌&&◌, ◌||◌, not, max, Bool, true, false, if◌then◌else◌, List, [], ◌∷◌, length, Option, Some, None, refl, sym, ◌∙◌, ap, subst, arith}
use Rattle.std.specs.Prelude.{IfSome, is_none, nat_lt}
use Rattle.std.proofs.lemmas.Bool.{eqb-true}
use Rattle.disk_face.specs.declared.disk.File.TheVariants.{Main, Log1, Log2}
use Rattle.disk_face.specs.Files.{Files}
use Rattle.disk_face.specs.Steps.{History, reads}
use Rattle.page_spec.specs.Bytes.{u16_at, u32_at}
use Rattle.page_spec.specs.Header.{fields_of, pages_in, is_page_size, spelled_page_size}
use Rattle.page_spec.specs.PageMap.{PageMap, page_at}
use Rattle.log_spec.specs.LogHeader.{log_fields, last_generation, is_signed, foreign_at}
use Rattle.log_spec.specs.Accept.{Frame, last_size}
use Rattle.log_spec.specs.Frames.{is_ours}
use Rattle.log_spec.proofs.AcceptedIs.{accepted_is}
use Rattle.db_header.specs.Header.{refusal}
use Rattle.wal_frames.specs.Front.{front_of, signed_front}
use Rattle.wal_frames.specs.declared.header.Front.TheVariants.{Nothing}
use Rattle.crash_spec.specs.Known.{IsWithoutChance}
use Rattle.crash_spec.specs.Logs.{NoneForeign, HaveSize}
use Rattle.crash_spec.specs.Opening.{opening_at}
use Rattle.crash_spec.specs.Recovered.{overlaid, recovered, size_after, size_of_first}
use Rattle.crash_spec.proofs.NamedPages.{still_named}
use Rattle.opening_spec.specs.Begins.{view_at}
use Rattle.opening_spec.specs.Found.{older_in, newer_in, page_in}
use Rattle.opening_spec.specs.States.{KeepsTo, LeavesEither}
use Rattle.opening_spec.proofs.Beginning.{map_is_recovered}
use Rattle.recover.specs.NewPages.{new_pages, migrated}
use Rattle.recover.specs.Seeing.{one_in, two_in, is_new_in, is_ours_in, is_some_list, first_in, size_in, map_found, fault_of, header_fault, wal_fault, room_fault, missing_fault, size_fault, is_held, first_missing, of_header, of_missing, generation_opened, is_log_mode, is_front_ours}
use Rattle.recover.specs.declared.setup.StoreKind.TheVariants.{Pages}
use Rattle.recover.proofs.NewPages.{new_names, new_length}
use Rattle.recover.proofs.SeenFiles.{legal_size}
use Rattle.store.specs.Opening.{AreOpened, fault_by, named_in, byte_in, is_mixed_by, map_opened, size_opened}
use Rattle.reopening.specs.Reopening.{IsReadableStore, IsStoreMap}
use Rattle.reopening.proofs.Fine.{none_of, none_sized}
use Rattle.reopening.proofs.FirstBytes.{le_true}
use Rattle.reopening.proofs.FirstMap.{found_store, found_own, found_named, size_is, migrated_store, migrated_own, migrated_named, size_still, new_store, new_own, new_sized}
use Rattle.reopening.proofs.Fronts.{front_familiar, not_legacy, not_foreign, size_fits, none_either}
use Rattle.reopening.proofs.PagesHeld.{length_pages}
use Rattle.reopening.proofs.Reopened.{reopened}
use Rattle.reopening.proofs.StoresLeft.{map_opens}

-- Files without a page are those of a new database, and are opened.

-- what frames make that end a commit has a page
sized_some : (frames : List Frame) (below : ℕ) → (frames ≢ [] → last_size frames ≢ 0) → size_after frames below ≡ 0 → (frames ≡ []) × (below ≡ 0)
sized_some [] below ends is = (refl, is)
sized_some (frame ∷ rest) below ends is = absurd (ends (λ none. cc) is)

pub no_frames : (files : Files) → recovered files ≡ [] → ((one_in files).frames ≡ []) × ((two_in files).frames ≡ [])
no_frames files is =
    by (nat_lt (log_fields files.log1).generation (log_fields files.log2).generation)
    (sym (length_pages (λ number. page_in (size_in files) files (one_in files) (two_in files) number) 1 count) ∙ ap (λ (pages : PageMap). length pages) empty)
  where
    one : List Frame
    one = (one_in files).frames

    two : List Frame
    two = (two_in files).frames

    below : ℕ
    below = pages_in (first_in files) (length files.main)

    count : ℕ
    count = size_after (newer_in files (one_in files) (two_in files)) (size_after (older_in files (one_in files) (two_in files)) below)

    empty : map_found files ≡ []
    empty = sym (map_is_recovered 0 (record { first = files; steps = [] })) ∙ is

    ends1 : one ≢ [] → last_size one ≢ 0
    ends1 = (accepted_is 1 files.log1).committed.committed

    ends2 : two ≢ [] → last_size two ≢ 0
    ends2 = (accepted_is 2 files.log2).committed.committed

    by : (first : Bool) → size_after (if first then two else one) (size_after (if first then one else two) below) ≡ 0 → (one ≡ []) × (two ≡ [])
    by true none = let newer = sized_some two (size_after one below) ends2 none in ((sized_some one below ends1 newer.1).0, newer.0)
    by false none = let newer = sized_some one (size_after two below) ends1 none in (newer.0, (sized_some two below ends2 newer.1).0)

are_new : (n : ℕ) (one two : List Frame) → n ≡ 0 → one ≡ [] → two ≡ [] → (n == 0 && not (is_some_list one || is_some_list two)) ≡ true
are_new n one two empty none neither = rw (empty, none, neither) refl

module _ (files : Files) (empty : length files.main ≡ 0) (none : (one_in files).frames ≡ []) (neither : (two_in files).frames ≡ []) (fronts : NoneForeign files) (room : generation_opened files ≤ last_generation) where
  new_now : is_new_in files ≡ true
  new_now = are_new (length files.main) (one_in files).frames (two_in files).frames empty none neither

  new_header : header_fault files ≡ None
  new_header = ap (λ (new : Bool). if new then None else of_header (refusal (first_in files) (length files.main))) new_now

  new_missing : missing_fault files ≡ None
  new_missing = ap (λ (new : Bool). if new then None else of_missing (first_missing (is_held files) 1 (max 1 (length (map_found files))))) new_now

  new_room : room_fault files ≡ None
  new_room = let is = le_true (generation_opened files) last_generation room in rw is refl

  new_fault : fault_of files false ≡ None
  unfolding fault_of
  new_fault =
      let one = front_familiar 1 files.log1 (λ is. fronts Log1 tt is) in
      let two = front_familiar 2 files.log2 (λ is. fronts Log2 tt is) in
      let legacy : wal_fault files ≡ None = none_either (is_log_mode files) _ (not_legacy files.log1 (front_of 1 files.log1) one) in
      let foreign1 = not_foreign files.log1 (front_of 1 files.log1) Log1 one in
      let foreign2 = not_foreign files.log2 (front_of 2 files.log2) Log2 two in
      let size1 : size_fault (front_of 1 files.log1) (one_in files).frames (size_in files) Log1 ≡ None =
      size_fits files.log1 (front_of 1 files.log1) (one_in files).frames (size_in files) Log1 one (λ some. absurd (some none)) in
      let size2 : size_fault (front_of 2 files.log2) (two_in files).frames (size_in files) Log2 ≡ None =
      size_fits files.log2 (front_of 2 files.log2) (two_in files).frames (size_in files) Log2 two (λ some. absurd (some neither)) in
      rw (new_header, legacy, foreign1, foreign2, size1, size2, new_room, new_missing) refl

  pub new_opened : (hot : Option Bool) → (hot ≡ Some true → ⊥) → AreOpened hot files
  new_opened hot cold = record {
    look = record { asked = by hot cold; fine = new_fault };
    pages = ap (λ (new : Bool). fault_by new (length (map_found files)) (named_in files) (byte_in files)) new_now;
    settles = ap (λ (new : Bool). is_mixed_by new (is_ours_in files) (front_of 2 files.log2)) new_now;
  }
    where
      by : (hot : Option Bool) → (hot ≡ Some true → ⊥) → IfSome hot (λ hot. fault_of files hot ≡ None)
      by None cold = tt
      by (Some true) cold = absurd (cold refl)
      by (Some false) cold = new_fault

-- what a new database has
new_parts : (n : ℕ) (one two : List Frame) → (n == 0 && not (is_some_list one || is_some_list two)) ≡ true → (n ≡ 0) × (one ≡ []) × (two ≡ [])
new_parts n [] [] is = (eqb-true n 0 (first (n == 0) is), refl, refl)
  where
    first : (b : Bool) → (b && true) ≡ true → b ≡ true
    first true is = refl
    first false is = is
new_parts n [] (frame ∷ rest) is = absurd (never (n == 0) is)
  where
    never : (b : Bool) → (b && false) ≡ true → ⊥
    never true is = cc
    never false is = cc
new_parts n (frame ∷ rest) two is = absurd (never (n == 0) is)
  where
    never : (b : Bool) → (b && false) ≡ true → ⊥
    never true is = cc
    never false is = cc

nothing_yet : overlaid [] [] [] ≡ []
unfolding fields_of pages_in u16_at u32_at spelled_page_size
nothing_yet = refl

no_map : (first : Bool) (main : List ℕ) (one two : List Frame) → length main ≡ 0 → one ≡ [] → two ≡ [] → overlaid main (if first then one else two) (if first then two else one) ≡ []
no_map true [] one two empty none neither = rw (none, neither) nothing_yet
no_map false [] one two empty none neither = rw (none, neither) nothing_yet
no_map first (byte ∷ rest) one two empty none neither = absurd (omega arith)

-- a log with a header of ours begins with one
begins_ours : (log : ℕ) (bytes : List ℕ) → is_ours log bytes ≡ true → is_front_ours (front_of log bytes) ≡ true
unfolding front_of
begins_ours log bytes is = by (is_signed bytes) (foreign_at log (log_fields bytes)) is
  where
    by : (signed : Bool) (at : Option ℕ) → (signed && is_none at) ≡ true → is_front_ours (if signed then signed_front bytes at else Nothing) ≡ true
    by true None is = refl
    by true (Some at) is = cc
    by false at is = cc

module _ (new_size : ℕ) (legal : is_page_size new_size ≡ true) (start : Option Bool) (told : History) (o : AreOpened start (reads told)) where
  abbrev files : Files
  files = reads told

  abbrev size : ℕ
  size = size_opened new_size files

  -- the logs had the page size
  had : HaveSize size files
  had = by (is_new_in files) refl
    where
      by : (new : Bool) → is_new_in files ≡ new → HaveSize (if new then new_size else size_in files) files
      by false is = none_sized files (none_of files o.look.fine)
      by true is =
          let parts = new_parts (length files.main) (one_in files).frames (two_in files).frames is in
          none parts.1 parts.2
        where
          none : (one_in files).frames ≡ [] → (two_in files).frames ≡ [] → HaveSize new_size files
          none one two Main log some = absurd log
          none one two Log1 log some = absurd (some one)
          none one two Log2 log some = absurd (some two)

  module _ (image : Files) (fronts : NoneForeign image) (sizes : HaveSize size image) (room : generation_opened image ≤ last_generation) (hot : Option Bool) (cold : hot ≡ Some true → ⊥) where
    -- Main is no longer than the map, or than it was
    abbrev Within : PageMap → Type 0
    Within map = length image.main ≤ max (length files.main) (length map * size)

    -- where there was nothing
    new_before : is_new_in files ≡ true → recovered image ≡ map_found files → Within (map_found files) → AreOpened hot image
    new_before new is within =
        let parts = new_parts (length files.main) (one_in files).frames (two_in files).frames new in
        let nothing : map_found files ≡ [] = no_map (nat_lt (log_fields files.log1).generation (log_fields files.log2).generation) files.main (one_in files).frames (two_in files).frames parts.0 parts.1 parts.2 in
        let bare = no_frames image (is ∙ nothing) in
        new_opened image (short (length image.main) (length files.main) (length (map_found files)) size within parts.0 (ap (λ (map : PageMap). length map) nothing)) bare.0 bare.1 fronts room hot cold
      where
        short : (long main count size : ℕ) → long ≤ max main (count * size) → main ≡ 0 → count ≡ 0 → long ≡ 0
        short long main count size within empty none =
            let zero_is : 0 * size ≡ 0 = grind arith in
            let all : count * size ≡ 0 = ap (λ (n : ℕ). n * size) none ∙ zero_is in
            omega (arith, within, empty, all)

    new_later : is_new_in files ≡ true → recovered image ≡ new_pages Pages new_size → AreOpened hot image
    new_later new is =
        map_opens (length image.main) new_size (new_pages Pages new_size) image hot cold (record {
          readable = new_store new_size legal;
          own = new_own new_size legal;
          sized = new_sized new_size legal;
          named = new_names Pages new_size _ ∙ new_length Pages new_size;
        }) (omega arith) is fronts (subst (λ (n : ℕ). HaveSize n image) (ap (λ (b : Bool). if b then new_size else size_in files) new) sizes) room

    module _ (old : is_new_in files ≡ false) where
      abbrev long : ℕ
      long = max (length files.main) (length (map_found files) * size_in files)

      same_size : size ≡ size_in files
      same_size = ap (λ (b : Bool). if b then new_size else size_in files) old

      sized_now : HaveSize (size_in files) image
      sized_now = subst (λ (n : ℕ). HaveSize n image) same_size sizes

      within_long : Within (map_found files) → length image.main ≤ long
      within_long within = subst (λ (n : ℕ). length image.main ≤ max (length files.main) (length (map_found files) * n)) same_size within

      store : IsReadableStore (map_found files)
      store = found_store start files o old

      -- the map that was found, where it has this program's versions
      own_map : is_ours_in files ≡ true → IsStoreMap long (size_in files) (map_found files)
      own_map ours = record {
        readable = store;
        own = found_own start files o old ours;
        sized = size_is start files o old;
        named = found_named start files o old;
      }

      -- and with these
      migrated_map : IsStoreMap long (size_in files) (migrated (map_found files))
      migrated_map =
          let still = size_still (map_found files) store in
          record {
            readable = migrated_store (map_found files) store;
            own = migrated_own (map_found files) store;
            sized = still ∙ size_is start files o old;
            named =
                migrated_named (map_found files) store (max long (16 * size_of_first (migrated (map_found files))))
                ∙ ap (λ (n : ℕ). pages_in (page_at (map_found files) 1) (max long (16 * n))) still ∙ found_named start files o old;
          }

      -- where it hasn't, log 2 has no header of ours
      other_before : is_ours_in files ≡ false → recovered image ≡ map_found files → KeepsTo (opening_at told) size (is_ours_in files) (map_found files) image → AreOpened hot image
      other_before other is keeps =
          reopened image (map_found files) hot cold (record {
            is = is;
            store = store;
            named = shorter;
            fronts = fronts;
            sizes = subst (λ (n : ℕ). HaveSize n image) (sym (size_is start files o old)) sized_now;
            versions = inr (unless (is_ours 2 image.log2) refl);
            room = room;
          })
        where
          shorter : pages_in (page_at (map_found files) 1) (max (length image.main) (16 * size_of_first (map_found files))) ≡ 16
          shorter =
              let wide = legal_size (size_of_first (map_found files)) store.header.page_size in
              let within = within_long keeps.0 in
              still_named (page_at (map_found files) 1) (max (length image.main) (16 * size_of_first (map_found files))) (max long (16 * size_of_first (map_found files))) 16
              (omega (arith, wide.0)) (omega (arith, within)) (omega arith) (found_named start files o old)

          apart : is_ours 2 files.log2 ≡ true → ⊥
          apart ours = by (is_new_in files) (is_ours_in files) (is_front_ours (front_of 2 files.log2)) old other (begins_ours 2 files.log2 ours) o.settles
            where
              by : (new own front : Bool) → new ≡ false → own ≡ false → front ≡ true → (not new && not own && front) ≡ false → ⊥
              by true own front a b c is = cc
              by false true front a b c is = cc
              by false false true a b c is = cc
              by false false false a b c is = cc

          unless : (ours : Bool) → is_ours 2 image.log2 ≡ ours → ours ≡ false
          unless false is = refl
          unless true is = elim (keeps.1 is) [
            | inl own ↦ absurd (let never = sym own ∙ other in cc)
            | inr there ↦ absurd (apart there)
          ]

    -- the map before
    before : recovered image ≡ map_found files → KeepsTo (opening_at told) size (is_ours_in files) (map_found files) image → AreOpened hot image
    before is keeps = by (is_new_in files) (is_ours_in files) refl refl
      where
        by : (new ours : Bool) → is_new_in files ≡ new → is_ours_in files ≡ ours → AreOpened hot image
        by true ours new own = new_before new is keeps.0
        by false true old own = map_opens (long old) (size_in files) (map_found files) image hot cold (own_map old own) (within_long old keeps.0) is fronts (sized_now old) room
        by false false old other = other_before old other is keeps

    -- the map with which the store begins
    later : recovered image ≡ map_opened new_size files → Within (map_opened new_size files) → AreOpened hot image
    later is within = by (is_new_in files) (is_ours_in files) refl refl is within
      where
        found_is : recovered files ≡ map_found files
        found_is = map_is_recovered 0 (record { first = files; steps = [] })

        by : (new ours : Bool) → is_new_in files ≡ new → is_ours_in files ≡ ours
            → recovered image ≡ (if new then new_pages Pages new_size else (if ours then recovered files else migrated (recovered files)))
            → Within (if new then new_pages Pages new_size else (if ours then recovered files else migrated (recovered files))) → AreOpened hot image
        by true ours new own is within = new_later new is
        by false true old own is within =
            map_opens (long old) (size_in files) (map_found files) image hot cold (own_map old own)
            (within_long old (subst Within found_is within)) (is ∙ found_is) fronts (sized_now old) room
        by false false old other is within =
            map_opens (long old) (size_in files) (migrated (map_found files)) image hot cold (migrated_map old)
            (within_long old (subst (λ (n : ℕ). length image.main ≤ max (length files.main) (n * size)) (counted (map_found files)) (subst (λ (map : PageMap). Within (migrated map)) found_is within)))
            (is ∙ ap migrated found_is) fronts (sized_now old) room
          where
            counted : (map : PageMap) → length (migrated map) ≡ length map
            counted [] = refl
            counted (page ∷ rest) = refl

  -- So what a crash leaves of an opening is opened again, once it recovers to one of both.
  pub settling_opens : (now : History) (image : Files) → LeavesEither (view_at size told) (map_opened new_size files) now image → IsWithoutChance (opening_at told) now image
      → generation_opened image ≤ last_generation → (hot : Option Bool) → (hot ≡ Some true → ⊥) → AreOpened hot image
  settling_opens now image leaves chance room hot cold =
      let (which, logs) = leaves chance in
      elim which [
        | inl (is, keeps) ↦ before image logs.0 (logs.1 had) room hot cold is keeps
        | inr (is, keeps) ↦ later image logs.0 (logs.1 had) room hot cold is keeps.0
      ]
