-- What was seen of the files is what the writes of an opening go by.
use Rattle.std.proofs.Common.{◌≡◌, ◌⊎◌, ℕ, zero, suc, ◌+◌, ◌*◌, ◌%◌, ◌^◌, ◌≤◌, ◌<◌, ◌==◌, Bool, true, false, ◌&&◌, ◌||◌, not, if◌then◌else◌, inl, inr, List, [], ◌∷◌, ◌++◌, length, take, max, Option, Some, None, refl, sym, ◌∙◌, ap, subst, arith}
use Rattle.std.specs.Prelude.{IfSome, Contains, nat_eq, is_none, slice_index_or, Result}
use Rattle.std.proofs.lemmas.Bool.Decides.{nat_tests}
use Rattle.disk_face.specs.declared.Failed.{Failed}
use Rattle.disk_face.specs.declared.disk.File.TheVariants.{Main}
use Rattle.disk_face.specs.Files.{Files}
use Rattle.disk_face.specs.Steps.{History, reads}
use Rattle.disk_face.specs.Told.{IsInside}
use Rattle.page_spec.specs.Header.{fields_of, pages_in, is_page_size, page_sizes}
use Rattle.page_spec.specs.PageMap.{PageMap, page_at}
use Rattle.log_spec.specs.LogHeader.{log_fields, is_signed, foreign_at, is_generation}
use Rattle.log_spec.specs.Accept.{Frame, page_numbers}
use Rattle.log_spec.specs.Frames.{accepted_frames}
use Rattle.crash_spec.specs.Opening.{Since}
use Rattle.crash_spec.specs.Passes.{Passes}
use Rattle.crash_spec.specs.Recovered.{main_page, page_after_frames, pages_from, size_after}
use Rattle.crash_spec.proofs.Overlaid.{held_or_not}
use Rattle.crash_spec.proofs.Pieces.{contains_none}
use Rattle.crash_spec.proofs.Rebased.{rebased_reads}
use Rattle.wal_frames.specs.Front.{front_of, signed_front, header_in, IsOursFront, IsLegalFront}
use Rattle.wal_frames.specs.declared.header.Front.{Front}
use Rattle.wal_frames.specs.declared.header.Front.TheVariants.{Nothing, Foreign, Ours}
use Rattle.log_pair.specs.Pair.{PairView}
use Rattle.opening_spec.specs.Begins.{salt_in}
use Rattle.opening_spec.specs.Found.{OpeningView, FoundLog, IsFirst, older_in, newer_in, map_in}
use Rattle.opening_spec.specs.States.{IsSyncing, LeavesOpening}
use Rattle.opening_spec.proofs.Laid.{header-take, page_1_is}
use Rattle.recover.specs.declared.place.Place.{Place}
use Rattle.recover.specs.declared.place.Place.TheVariants.{InMain, InLog}
use Rattle.recover.specs.declared.setup.StoreKind.{StoreKind}
use Rattle.recover.specs.Headers.{last_salt, generation_in, first_of}
use Rattle.recover.specs.NewPages.{new_pages, migrated}
use Rattle.recover.specs.Places.{AreSeen, FitsPlace, IsPlaceOf}
use Rattle.recover.specs.Ready.{IsViewOf, LeavesSettling, ReadyWith, first_map}
use Rattle.recover.specs.Seeing.{SeenView, IsSeen, IsWholeSeen, one_in, two_in, is_some_list, has_frames, first_in, size_in, map_found, founds}
use Rattle.recover.proofs.First.{first_is}
use Rattle.recover.proofs.Migrating.{length_from, pages_of_fields}
use Rattle.recover.proofs.NewPages.{one_of}
use Rattle.recover.proofs.Readying.{lift_opening}

-- what a log begins with, and what is found there
salt_is : (log : ℕ) (bytes : List ℕ) → salt_in log bytes ≡ last_salt (front_of log bytes) % 2 ^ 32
unfolding front_of header_in
salt_is log bytes = by (is_signed bytes) (foreign_at log (log_fields bytes))
  where
    by : (signed : Bool) (foreign : Option ℕ) → (if (signed && is_none foreign) then (log_fields bytes).salt1 % 2 ^ 32 else 0) ≡ last_salt (if signed then signed_front bytes foreign else Nothing) % 2 ^ 32
    by true None = refl
    by true (Some at) = refl
    by false foreign = refl

bare_front : (log : ℕ) (bytes : List ℕ) → IsOursFront (front_of log bytes) ⊎ (accepted_frames log bytes ≡ [])
unfolding front_of accepted_frames
bare_front log bytes = by (is_signed bytes) (foreign_at log (log_fields bytes)) _
  where
    by : (signed : Bool) (foreign : Option ℕ) (frames : List Frame) → IsOursFront (if signed then signed_front bytes foreign else Nothing) ⊎ ((if (signed && is_none foreign) then frames else []) ≡ [])
    by true None frames = inl tt
    by true (Some at) frames = inr refl
    by false foreign frames = inr refl

told_generation : (log : ℕ) (bytes : List ℕ) → IsOursFront (front_of log bytes) → (log_fields bytes).generation ≡ generation_in (front_of log bytes)
unfolding front_of header_in
told_generation log bytes = by (is_signed bytes) (foreign_at log (log_fields bytes))
  where
    by : (signed : Bool) (foreign : Option ℕ) → IsOursFront (if signed then signed_front bytes foreign else Nothing) → (log_fields bytes).generation ≡ generation_in (if signed then signed_front bytes foreign else Nothing)
    by true None ours = refl
    by true (Some at) ours = absurd ours
    by false foreign ours = absurd ours

some_generation : (front : Front) → IsLegalFront 2 front → IsOursFront front → 1 ≤ generation_in front
unfolding is_generation
some_generation Nothing legal ours = absurd ours
some_generation (Foreign version at) legal ours = absurd ours
some_generation (Ours header) legal ours = let is = legal.1 in grind (arith, nat_tests)

-- a legal page size
abbrev Fits : ℕ → Type 0
Fits n = (512 ≤ n) × (n ≤ 65536)

same_size : (m n : ℕ) → nat_eq m n ≡ true → n ≡ m
same_size m n is = grind (arith, nat_tests)

pub legal_size : (n : ℕ) → is_page_size n ≡ true → Fits n
unfolding is_page_size
legal_size n is = elim (one_of (nat_eq n 512) _ is) [
  | inl at ↦ subst Fits (same_size n 512 at) (omega arith, omega arith)
  | inr is ↦ elim (one_of (nat_eq n 1024) _ is) [
    | inl at ↦ subst Fits (same_size n 1024 at) (omega arith, omega arith)
    | inr is ↦ elim (one_of (nat_eq n 2048) _ is) [
      | inl at ↦ subst Fits (same_size n 2048 at) (omega arith, omega arith)
      | inr is ↦ elim (one_of (nat_eq n 4096) _ is) [
        | inl at ↦ subst Fits (same_size n 4096 at) (omega arith, omega arith)
        | inr is ↦ elim (one_of (nat_eq n 8192) _ is) [
          | inl at ↦ subst Fits (same_size n 8192 at) (omega arith, omega arith)
          | inr is ↦ elim (one_of (nat_eq n 16384) _ is) [
            | inl at ↦ subst Fits (same_size n 16384 at) (omega arith, omega arith)
            | inr is ↦ elim (one_of (nat_eq n 32768) _ is) [
              | inl at ↦ subst Fits (same_size n 32768 at) (omega arith, omega arith)
              | inr is ↦ elim (one_of (nat_eq n 65536) _ is) [
                | inl at ↦ subst Fits (same_size n 65536 at) (omega arith, omega arith)
                | inr is ↦ cc
              ]
            ]
          ]
        ]
      ]
    ]
  ]
]

-- it is one of the list
pub is_legal : (n : ℕ) → is_page_size n ≡ true → Contains page_sizes n
unfolding is_page_size
is_legal n is = elim (one_of (nat_eq n 512) _ is) [
  | inl at ↦ (0, omega arith, same_size n 512 at)
  | inr is ↦ elim (one_of (nat_eq n 1024) _ is) [
    | inl at ↦ (1, omega arith, same_size n 1024 at)
    | inr is ↦ elim (one_of (nat_eq n 2048) _ is) [
      | inl at ↦ (2, omega arith, same_size n 2048 at)
      | inr is ↦ elim (one_of (nat_eq n 4096) _ is) [
        | inl at ↦ (3, omega arith, same_size n 4096 at)
        | inr is ↦ elim (one_of (nat_eq n 8192) _ is) [
          | inl at ↦ (4, omega arith, same_size n 8192 at)
          | inr is ↦ elim (one_of (nat_eq n 16384) _ is) [
            | inl at ↦ (5, omega arith, same_size n 16384 at)
            | inr is ↦ elim (one_of (nat_eq n 32768) _ is) [
              | inl at ↦ (6, omega arith, same_size n 32768 at)
              | inr is ↦ elim (one_of (nat_eq n 65536) _ is) [
                | inl at ↦ (7, omega arith, same_size n 65536 at)
                | inr is ↦ cc
              ]
            ]
          ]
        ]
      ]
    ]
  ]
]

no_list : (xs ys : List Frame) → (is_some_list xs || is_some_list ys) ≡ false → (xs ≡ []) × (ys ≡ [])
no_list [] [] is = (refl, refl)
no_list [] (y ∷ ys) is = cc
no_list (x ∷ xs) ys is = cc

both : (a b : Bool) → (a && b) ≡ true → (a ≡ true) × (b ≡ true)
both true b is = (refl, is)
both false b is = cc

not_true : (b : Bool) → not b ≡ true → b ≡ false
not_true true is = cc
not_true false is = refl

no_bytes : (bytes : List ℕ) → (length bytes == 0) ≡ true → bytes ≡ []
no_bytes [] is = refl
no_bytes (b ∷ bytes) is = absurd (not_zero (length bytes) is)
  where
    not_zero : (n : ℕ) → (suc n == 0) ≡ true → ⊥
    not_zero n is = grind (arith, nat_tests)

module _ (new_size : ℕ) (files : Files) (seen : SeenView) (s : IsSeen new_size files seen) where
  salt1 : (one_in files).salt ≡ last_salt seen.one % 2 ^ 32
  salt1 = salt_is 1 files.log1 ∙ ap (λ (front : Front). last_salt front % 2 ^ 32) (sym s.one)

  salt2 : (two_in files).salt ≡ last_salt seen.two % 2 ^ 32
  salt2 = salt_is 2 files.log2 ∙ ap (λ (front : Front). last_salt front % 2 ^ 32) (sym s.two)

  bare_frames : seen.some_frames ≡ false → ((one_in files).frames ≡ []) × ((two_in files).frames ≡ [])
  bare_frames none = no_list (one_in files).frames (two_in files).frames (sym s.some ∙ none)

  pub new_is : seen.is_new ≡ true → (files.main ≡ []) × ((one_in files).frames ≡ []) × ((two_in files).frames ≡ [])
  new_is new =
      let parts = both (length files.main == 0) (not (has_frames files)) (sym s.new ∙ new) in
      let bare = no_list (one_in files).frames (two_in files).frames (not_true (has_frames files) parts.1) in
      (no_bytes files.main parts.0, bare.0, bare.1)

  is_first : IsLegalFront 2 seen.two → IsFirst files (first_of seen.one seen.two) (one_in files) (two_in files)
  is_first legal =
      first_is files (one_in files) (two_in files) seen.one seen.two
      (subst (λ (front : Front). IsOursFront front ⊎ ((one_in files).frames ≡ [])) (sym s.one) (bare_front 1 files.log1))
      (subst (λ (front : Front). IsOursFront front ⊎ ((two_in files).frames ≡ [])) (sym s.two) (bare_front 2 files.log2))
      (subst (λ (front : Front). IsOursFront front → (log_fields files.log1).generation ≡ generation_in front) (sym s.one) (told_generation 1 files.log1))
      (subst (λ (front : Front). IsOursFront front → (log_fields files.log2).generation ≡ generation_in front) (sym s.two) (told_generation 2 files.log2))
      (some_generation seen.two legal)

  module _ (there : seen.is_new ≡ false) where
    abbrev older : List Frame
    older = older_in files (one_in files) (two_in files)

    abbrev newer : List Frame
    newer = newer_in files (one_in files) (two_in files)

    abbrev total : ℕ
    total = size_after newer (size_after older (pages_in (first_in files) (length files.main)))

    counts : length seen.places ≡ length (map_found files)
    counts = s.count ∙ ap (λ (b : Bool). if b then 0 else length (map_found files)) there

    size_is : size_in files ≡ seen.page_size
    size_is = sym (s.page_size ∙ ap (λ (b : Bool). if b then new_size else size_in files) there)

    -- page 1 of the map has the fields that the first bytes have
    first_fields : 100 ≤ seen.page_size → 1 ≤ length (map_found files) → fields_of (page_at (map_found files) 1) ≡ fields_of (first_in files)
    first_fields big some =
        ap (λ (bytes : List ℕ). fields_of bytes) (head total (omega (arith, length_from (λ n. page_after_frames newer n (page_after_frames older n (main_page (size_in files) files.main n))) 1 total)))
        ∙ ap (λ (bytes : List ℕ). fields_of (page_after_frames newer 1 (page_after_frames older 1 bytes))) (page_1_is (size_in files) files.main)
        ∙ alike
      where
        head : (count : ℕ) → 1 ≤ count → page_at (pages_from (λ n. page_after_frames newer n (page_after_frames older n (main_page (size_in files) files.main n))) 1 count) 1 ≡ page_after_frames newer 1 (page_after_frames older 1 (main_page (size_in files) files.main 1))
        head zero from = absurd (omega arith)
        head (suc n) from = refl

        below : fields_of (take (size_in files) files.main) ≡ fields_of (take 100 files.main)
        below = header-take (size_in files) files.main (omega (arith, size_is)) ∙ sym (header-take 100 files.main (omega arith))

        alike : fields_of (page_after_frames newer 1 (page_after_frames older 1 (take (size_in files) files.main))) ≡ fields_of (first_in files)
        alike = elim (held_or_not newer 1) [
          | inl held ↦ ap (λ (bytes : List ℕ). fields_of bytes) (held (page_after_frames older 1 (take (size_in files) files.main)) (page_after_frames older 1 (take 100 files.main)))
          | inr (none, leaves) ↦ elim (held_or_not older 1) [
            | inl held ↦ ap (λ (bytes : List ℕ). fields_of (page_after_frames newer 1 bytes)) (held (take (size_in files) files.main) (take 100 files.main))
            | inr (neither, keeps) ↦
                ap (λ (bytes : List ℕ). fields_of (page_after_frames newer 1 bytes)) (keeps (take (size_in files) files.main)) ∙ ap (λ (bytes : List ℕ). fields_of bytes) (leaves (take (size_in files) files.main))
                ∙ below
                ∙ sym (ap (λ (bytes : List ℕ). fields_of (page_after_frames newer 1 bytes)) (keeps (take 100 files.main)) ∙ ap (λ (bytes : List ℕ). fields_of bytes) (leaves (take 100 files.main)))
          ]
        ]

    are_seen : (view : OpeningView) → view.size ≡ seen.page_size → view.long ≡ length files.main → map_found files ≡ view.map → 100 ≤ seen.page_size → seen.named ≡ length seen.places
        → AreSeen view (one_in files) (two_in files) seen.places files
    are_seen view sized long is big named =
        let count : length seen.places ≡ length view.map = counts ∙ ap (λ (m : PageMap). length m) is in
        let some : 1 ≤ length (map_found files) = omega (arith, s.some_page there, counts) in
        let whole : max (length files.main) (length (map_found files) * seen.page_size) ≡ max view.long (length view.map * view.size) =
        ap (λ (n : ℕ). max n (length (map_found files) * seen.page_size)) (sym long)
        ∙ ap (λ (n : ℕ). max view.long (length (map_found files) * n)) (sym sized)
        ∙ ap (λ (m : PageMap). max view.long (length m * view.size)) is in
        record {
          standing = s.standing view sized;
          count = count;
          some = omega (arith, s.some_page there, count);
          names = inr (
              ap (λ (m : PageMap). pages_in (page_at m 1) (max view.long (length view.map * view.size))) (sym is)
              ∙ pages_of_fields (page_at (map_found files) 1) (first_in files) (max view.long (length view.map * view.size)) (first_fields big some)
              ∙ ap (λ (n : ℕ). pages_in (first_in files) n) (sym whole)
              ∙ sym (s.named there) ∙ named ∙ count);
          long = sym long;
        }

-- without frames all pages stand in Main
all_in_main : (told : History) (new_size : ℕ) (seen : SeenView) → IsSeen new_size (reads told) seen → seen.some_frames ≡ false → length seen.places * seen.page_size ≤ length (reads told).main
all_in_main told new_size seen s none = by (length seen.places) refl
  where
    in_main : (number : ℕ) (place : Place) → FitsPlace (reads told) seen.page_size number place
        → IsPlaceOf (record { opening = record { start = told; before = []; pieces = [] }; size = seen.page_size; long = 0; map = []; own = true }) (one_in (reads told)) (two_in (reads told)) (reads told) number place
        → number * seen.page_size ≤ length (reads told).main
    in_main number InMain fits is = fits
    in_main number (InLog file at) fits is =
        let bare = bare_frames new_size (reads told) seen s none in
        absurd (contains_none number (subst (λ (numbers : List ℕ). Contains numbers number)
        (ap (λ (fs : List Frame). page_numbers fs ++ page_numbers (two_in (reads told)).frames) bare.0 ∙ ap (λ (fs : List Frame). page_numbers fs) bare.1) is.1))

    by : (n : ℕ) → length seen.places ≡ n → length seen.places * seen.page_size ≤ length (reads told).main
    by zero is = let nothing : length seen.places * seen.page_size ≡ 0 = ap (λ (n : ℕ). n * seen.page_size) is ∙ none_of seen.page_size in omega (arith, nothing)
      where
        none_of : (n : ℕ) → 0 * n ≡ 0
        none_of n = grind arith
    by (suc k) is =
        let less : k < length seen.places = omega (arith, is) in
        let all : k + 1 ≡ length seen.places = omega (arith, is) in
        subst (λ (n : ℕ). n * seen.page_size ≤ length (reads told).main) all
        (in_main (k + 1) (slice_index_or seen.places k InMain) (s.fits k InMain less)
        (s.standing (record { opening = record { start = told; before = []; pieces = [] }; size = seen.page_size; long = 0; map = []; own = true }) refl k InMain less))

pub whole_told : (new_size size count : ℕ) (seen : SeenView) (told : Option History) → size ≡ seen.page_size → count ≡ length seen.places → IfSome told (λ told. IsSeen new_size (reads told) seen) → seen.some_frames ≡ false
    → IsInside told Main (count * size) 0
whole_told new_size size count seen None sized counted s none = tt
whole_told new_size size count seen (Some told) sized counted s none =
    let all = all_in_main told new_size seen s none in
    let same : count * size ≡ length seen.places * seen.page_size = ap (λ (n : ℕ). n * size) counted ∙ ap (λ (n : ℕ). length seen.places * n) sized in
    omega (arith, all, same)

-- the map that is recovered is the view's
map_now : (view : OpeningView) (one two : FoundLog) (told : History) → Since view.opening.start (IsSyncing view one two []) (Some told) → map_in (reads told) one two ≡ view.map
map_now view one two told (since, grew, syncing) =
    ap (λ (files : Files). map_in files one two) (ap reads grew ∙ rebased_reads view.opening.start since) ∙ syncing.opened.is

-- what each of the three ways says
abbrev pub NewSays : StoreKind → (front1 front2 : Front) → (size : ℕ) → Result PairView Failed → Option History → Option History → Type 0
NewSays kind front1 front2 size result old new =
    (view : OpeningView) (has1 has2 : FoundLog) → Since view.opening.start (IsSyncing view has1 has2 []) old → size ≡ view.size
    → has1.frames ≡ [] → has2.frames ≡ [] → IfSome old (λ told. (reads told).main ≡ [])
    → has1.salt ≡ last_salt front1 % 2 ^ 32 → has2.salt ≡ last_salt front2 % 2 ^ 32 → has1.most ≡ 0 → has2.most ≡ 0
    → Passes view.opening (LeavesSettling view (new_pages kind view.size)) (ReadyWith result view (new_pages kind view.size)) old new

abbrev pub OursSays : (front1 front2 : Front) → List Place → Bool → (size : ℕ) → Result PairView Failed → Option History → Option History → Type 0
OursSays front1 front2 places some_frames size result old new =
    (view : OpeningView) (has1 has2 : FoundLog) → Since view.opening.start (IsSyncing view has1 has2 []) old → size ≡ view.size
    → (some_frames ≡ false → (has1.frames ≡ []) × (has2.frames ≡ [])) → (some_frames ≡ true → IfSome old (λ told. AreSeen view has1 has2 places (reads told)))
    → IfSome old (λ told. IsFirst (reads told) (first_of front1 front2) has1 has2) → 1 ≤ length view.map → view.own ≡ true
    → has1.salt ≡ last_salt front1 % 2 ^ 32 → has2.salt ≡ last_salt front2 % 2 ^ 32 → has1.most ≡ 0 → has2.most ≡ 0
    → Passes view.opening (LeavesOpening view) (ReadyWith result view view.map) old new

abbrev pub MigratedSays : (front1 front2 : Front) → List Place → Bool → (size : ℕ) → Result PairView Failed → Option History → Option History → Type 0
MigratedSays front1 front2 places some_frames size result old new =
    (view : OpeningView) (has1 has2 : FoundLog) → Since view.opening.start (IsSyncing view has1 has2 []) old → size ≡ view.size
    → has2.frames ≡ [] → (some_frames ≡ false → has1.frames ≡ []) → IfSome old (λ told. AreSeen view has1 has2 places (reads told))
    → 1 ≤ length view.map → has1.salt ≡ last_salt front1 % 2 ^ 32 → has2.salt ≡ last_salt front2 % 2 ^ 32 → has1.most ≡ 0 → has2.most ≡ 0
    → Passes view.opening (LeavesSettling view (migrated view.map)) (ReadyWith result view (migrated view.map)) old new

-- where the disk doesn't tell
untold : (view other : OpeningView) (Leaves Others : History → Files → Type 0) (P Q : History → Type 0) (new : Option History) → Passes view.opening Leaves P None new → Passes other.opening Others Q None new
untold view other Leaves Others P Q None passes = record { each_moment = tt; holds = tt }
untold view other Leaves Others P Q (Some new) passes = absurd passes.each_moment

module _ (kind : StoreKind) (new_size size : ℕ) (seen : SeenView) (whole : IsWholeSeen seen) (result : Result PairView Failed) (sized : size ≡ seen.page_size) where
  abbrev Settled : OpeningView → PageMap → Option History → Option History → Type 0
  Settled view later old new = Passes view.opening (LeavesSettling view later) (ReadyWith result view later) old new

  pub new_told : (old new : Option History) → seen.is_new ≡ true → NewSays kind seen.one seen.two size result old new → IfSome old (λ told. IsSeen new_size (reads told) seen)
      → (view : OpeningView) (one two : FoundLog) → Since view.opening.start (IsSyncing view one two []) old → IfSome old (λ told. IsViewOf seen (reads told) view one two)
      → Settled view (first_map kind seen view.size view.map) old new
  new_told old new fresh says s view one two h of =
      subst (λ (b : Bool). Settled view (if b then new_pages kind view.size else (if seen.is_ours then view.map else migrated view.map)) old new) (sym fresh) (by old s h of says)
    where
      by : (old : Option History) → IfSome old (λ told. IsSeen new_size (reads told) seen) → Since view.opening.start (IsSyncing view one two []) old → IfSome old (λ told. IsViewOf seen (reads told) view one two)
          → NewSays kind seen.one seen.two size result old new → Settled view (new_pages kind view.size) old new
      by None s h of says =
          let other : OpeningView = record { opening = view.opening; size = size; long = view.long; map = view.map; own = true } in
          untold other view (LeavesSettling other (new_pages kind size)) (LeavesSettling view (new_pages kind view.size)) (ReadyWith result other (new_pages kind size)) (ReadyWith result view (new_pages kind view.size)) new
          (says (record { opening = view.opening; size = size; long = view.long; map = view.map; own = true }) (record { frames = []; salt = last_salt seen.one % 2 ^ 32; most = 0 }) (record { frames = []; salt = last_salt seen.two % 2 ^ 32; most = 0 })
          tt refl refl refl tt refl refl refl refl)
      by (Some told) s h of says =
          let is = new_is new_size (reads told) seen s fresh in
          says view one two h (sized ∙ sym of.size) (ap (λ (has : FoundLog). has.frames) of.has_one ∙ is.1) (ap (λ (has : FoundLog). has.frames) of.has_two ∙ is.2) is.0
          (ap (λ (has : FoundLog). has.salt) of.has_one ∙ salt1 new_size (reads told) seen s) (ap (λ (has : FoundLog). has.salt) of.has_two ∙ salt2 new_size (reads told) seen s)
          (ap (λ (has : FoundLog). has.most) of.has_one) (ap (λ (has : FoundLog). has.most) of.has_two)

  seen_now : (told : History) → seen.is_new ≡ false → seen.named ≡ length seen.places → IsSeen new_size (reads told) seen → (view : OpeningView) (one two : FoundLog) → Since view.opening.start (IsSyncing view one two []) (Some told)
      → IsViewOf seen (reads told) view one two → AreSeen view one two seen.places (reads told)
  seen_now told there named s view one two h of =
      let fits = legal_size seen.page_size whole.page_size in
      let here = are_seen new_size (reads told) seen s there view of.size of.long
      (ap (λ (has : FoundLog). map_in (reads told) has (two_in (reads told))) (sym of.has_one) ∙ ap (λ (has : FoundLog). map_in (reads told) one has) (sym of.has_two) ∙ map_now view one two told h) (omega (arith, fits.0)) named in
      subst (λ (has : FoundLog). AreSeen view has two seen.places (reads told)) (sym of.has_one)
      (subst (λ (has : FoundLog). AreSeen view (one_in (reads told)) has seen.places (reads told)) (sym of.has_two) here)

  pub ours_told : (old new : Option History) → seen.is_new ≡ false → seen.is_ours ≡ true → seen.named ≡ length seen.places → OursSays seen.one seen.two seen.places seen.some_frames size result old new
      → IfSome old (λ told. IsSeen new_size (reads told) seen)
      → (view : OpeningView) (one two : FoundLog) → Since view.opening.start (IsSyncing view one two []) old → IfSome old (λ told. IsViewOf seen (reads told) view one two)
      → Settled view (first_map kind seen view.size view.map) old new
  ours_told old new there ours named says s view one two h of =
      subst (λ (b : Bool). Settled view (if b then new_pages kind view.size else (if seen.is_ours then view.map else migrated view.map)) old new) (sym there)
      (subst (λ (b : Bool). Settled view (if b then view.map else migrated view.map) old new) (sym ours)
      (lift_opening view view.map (ReadyWith result view view.map) old new (by old s h of says)))
    where
      by : (old : Option History) → IfSome old (λ told. IsSeen new_size (reads told) seen) → Since view.opening.start (IsSyncing view one two []) old → IfSome old (λ told. IsViewOf seen (reads told) view one two)
          → OursSays seen.one seen.two seen.places seen.some_frames size result old new → Passes view.opening (LeavesOpening view) (ReadyWith result view view.map) old new
      by None s h of says =
          let other : OpeningView = record { opening = view.opening; size = size; long = view.long; map = [] ∷ []; own = true } in
          untold other view (LeavesOpening other) (LeavesOpening view) (ReadyWith result other ([] ∷ [])) (ReadyWith result view view.map) new
          (says (record { opening = view.opening; size = size; long = view.long; map = [] ∷ []; own = true }) (record { frames = []; salt = last_salt seen.one % 2 ^ 32; most = 0 }) (record { frames = []; salt = last_salt seen.two % 2 ^ 32; most = 0 })
          tt refl (λ none. (refl, refl)) (λ some. tt) tt (omega arith) refl refl refl refl refl)
      by (Some told) s h of says =
          let has = seen_now told there named s view one two h of in
          says view one two h (sized ∙ sym of.size)
          (λ none. let bare = bare_frames new_size (reads told) seen s none in (ap (λ (has : FoundLog). has.frames) of.has_one ∙ bare.0, ap (λ (has : FoundLog). has.frames) of.has_two ∙ bare.1))
          (λ some. has)
          (subst (λ (has : FoundLog). IsFirst (reads told) (first_of seen.one seen.two) has two) (sym of.has_one)
          (subst (λ (has : FoundLog). IsFirst (reads told) (first_of seen.one seen.two) (one_in (reads told)) has) (sym of.has_two) (is_first new_size (reads told) seen s whole.two)))
          has.some (of.own there ours)
          (ap (λ (has : FoundLog). has.salt) of.has_one ∙ salt1 new_size (reads told) seen s) (ap (λ (has : FoundLog). has.salt) of.has_two ∙ salt2 new_size (reads told) seen s)
          (ap (λ (has : FoundLog). has.most) of.has_one) (ap (λ (has : FoundLog). has.most) of.has_two)

  pub migrated_told : (old new : Option History) → seen.is_new ≡ false → seen.is_ours ≡ false → seen.named ≡ length seen.places → MigratedSays seen.one seen.two seen.places seen.some_frames size result old new
      → IfSome old (λ told. IsSeen new_size (reads told) seen)
      → (view : OpeningView) (one two : FoundLog) → Since view.opening.start (IsSyncing view one two []) old → IfSome old (λ told. IsViewOf seen (reads told) view one two)
      → Settled view (first_map kind seen view.size view.map) old new
  migrated_told old new there ours named says s view one two h of =
      subst (λ (b : Bool). Settled view (if b then new_pages kind view.size else (if seen.is_ours then view.map else migrated view.map)) old new) (sym there)
      (subst (λ (b : Bool). Settled view (if b then view.map else migrated view.map) old new) (sym ours) (by old s h of says))
    where
      makes_commit : founds seen ≡ true
      makes_commit = ap (λ (b : Bool). b || not seen.is_ours) there ∙ ap not ours

      by : (old : Option History) → IfSome old (λ told. IsSeen new_size (reads told) seen) → Since view.opening.start (IsSyncing view one two []) old → IfSome old (λ told. IsViewOf seen (reads told) view one two)
          → MigratedSays seen.one seen.two seen.places seen.some_frames size result old new → Settled view (migrated view.map) old new
      by None s h of says =
          let other : OpeningView = record { opening = view.opening; size = size; long = view.long; map = [] ∷ []; own = true } in
          untold other view (LeavesSettling other (migrated ([] ∷ []))) (LeavesSettling view (migrated view.map)) (ReadyWith result other (migrated ([] ∷ []))) (ReadyWith result view (migrated view.map)) new
          (says (record { opening = view.opening; size = size; long = view.long; map = [] ∷ []; own = true }) (record { frames = []; salt = last_salt seen.one % 2 ^ 32; most = 0 }) (record { frames = []; salt = last_salt seen.two % 2 ^ 32; most = 0 })
          tt refl refl (λ none. refl) tt (omega arith) refl refl refl refl)
      by (Some told) s h of says =
          let has = seen_now told there named s view one two h of in
          says view one two h (sized ∙ sym of.size) (of.bare makes_commit)
          (λ none. ap (λ (has : FoundLog). has.frames) of.has_one ∙ (bare_frames new_size (reads told) seen s none).0)
          has has.some
          (ap (λ (has : FoundLog). has.salt) of.has_one ∙ salt1 new_size (reads told) seen s) (ap (λ (has : FoundLog). has.salt) of.has_two ∙ salt2 new_size (reads told) seen s)
          (ap (λ (has : FoundLog). has.most) of.has_one) (ap (λ (has : FoundLog). has.most) of.has_two)

pub some_told : (new_size : ℕ) (seen : SeenView) (told : Option History) → seen.is_new ≡ false → IfSome told (λ told. IsSeen new_size (reads told) seen) → IfSome told (λ told. 1 ≤ length seen.places)
some_told new_size seen None there s = tt
some_told new_size seen (Some told) there s = s.some_page there
