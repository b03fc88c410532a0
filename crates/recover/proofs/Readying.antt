-- Both logs got their new headers: the files are ready for a store.
use Rattle.std.proofs.Common.{◌≡◌, ℕ, zero, suc, ◌+◌, ◌*◌, ◌%◌, ◌^◌, ◌≤◌, Bool, true, false, if◌then◌else◌, inl, inr, List, [], ◌∷◌, length, take, max, Option, Some, None, refl, sym, ◌∙◌, ap, subst, arith}
use Rattle.std.specs.Prelude.{IfSome, nat_lt}
use Rattle.std.proofs.lemmas.Bool.Decides.{nat_tests}
use Rattle.disk_face.specs.declared.disk.File.{File}
use Rattle.disk_face.specs.declared.disk.File.TheVariants.{Main, Log1, Log2}
use Rattle.disk_face.specs.Told.{IsInside}
use Rattle.disk_face.specs.Files.{Files}
use Rattle.disk_face.specs.Steps.{History, reads}
use Rattle.page_spec.specs.Bytes.{u16_at, u32_at}
use Rattle.page_spec.specs.Header.{fields_of, page_size_in, pages_in, spelled_page_size}
use Rattle.page_spec.specs.PageMap.{PageMap}
use Rattle.log_spec.specs.LogHeader.{LogFields, log_fields}
use Rattle.log_spec.specs.Accept.{Frame}
use Rattle.crash_spec.specs.Marks.{IsLog, other_of}
use Rattle.crash_spec.specs.Opening.{Opening, Since}
use Rattle.crash_spec.specs.Passes.{Passes, WhereDone}
use Rattle.crash_spec.specs.Recovered.{overlaid}
use Rattle.crash_spec.proofs.Passing.{passes_join, passes_weaker}
use Rattle.wal_frames.specs.Front.{fields_for}
use Rattle.wal_frames.specs.declared.header.LogHeader.{LogHeader}
use Rattle.wal_frames.specs.declared.header.Front.{Front}
use Rattle.wal_frames.specs.declared.header.Front.TheVariants.{Ours}
use Rattle.log_pair.specs.Pair.{PairView, new_pair}
use Rattle.log_pair.proofs.Standing.{stands_sealed}
use Rattle.opening_spec.specs.Found.{OpeningView, FoundLog, IsFirst, IsNextHeader, found_log, next_log}
use Rattle.opening_spec.specs.States.{IsSyncing, AreSynced, IsResetting, IsSettled, MayBeOurs, LeavesMap, LeavesOpening, LeavesEither, header1_of, header2_of}
use Rattle.opening_spec.proofs.Settling.{bare_passes}
use Rattle.opening_spec.proofs.Syncing.{sync_still}
use Rattle.recover.specs.Headers.{generation_in, first_of}
use Rattle.recover.specs.Seeing.{next_odd}
use Rattle.recover.specs.Founding.{HasFounded, HasMigrated, later_view, with_first}
use Rattle.recover.specs.NewPages.{migrated}
use Rattle.recover.specs.Places.{AreSeen}
use Rattle.recover.specs.declared.place.Place.{Place}
use Rattle.recover.specs.Ready.{IsReady, LeavesSettling, store_view}

pub lift_opening : (view : OpeningView) (later : PageMap) (P : History → Type 0) (old new : Option History) → Passes view.opening (LeavesOpening view) P old new → Passes view.opening (LeavesSettling view later) P old new
lift_opening view later P old new passes = passes_weaker view.opening (LeavesOpening view) (LeavesSettling view later) P P (λ told image leaves. images told image leaves) (λ told p. p) old new passes
  where
    images : (told : History) (image : Files) → LeavesOpening view told image → LeavesSettling view later told image
    images told image (inl leaves) = inl (λ chance. (inl (leaves chance).0, (leaves chance).1))
    images told image (inr rest) = inr rest

pub settling_join : (view : OpeningView) (later : PageMap) (P Q : History → Type 0) (old mid new : Option History) → Passes view.opening (LeavesSettling view later) P old mid → Passes view.opening (LeavesEither view later) Q mid new
    → Passes view.opening (LeavesSettling view later) Q old new
settling_join view later P Q old mid new first second =
    passes_join view.opening (LeavesSettling view later) P Q old mid new first
    (passes_weaker view.opening (LeavesEither view later) (LeavesSettling view later) Q Q (λ told image leaves. inl leaves) (λ told q. q) mid new second)

pub has_frames : (view : OpeningView) (later : PageMap) (main : List ℕ) (one two : FoundLog) (told : Option History) → Since view.opening.start (HasFounded view later main one two) told
    → (frames : List Frame) × Since view.opening.start (IsResetting (later_view view later main) Log2 (with_first one frames) two None) told
has_frames view later main one two None h = ([], tt)
has_frames view later main one two (Some told) (since, grew, has) = (has.frames, (since, grew, has.resetting))

as_store : (view : OpeningView) (later : PageMap) (main : List ℕ) (header older : LogFields) (told : History) → IsSettled (later_view view later main) header older told → IsSettled (store_view view later) header older told
as_store view later main header older told s = record {
  one = s.one;
  two = s.two;
  last1 = s.last1;
  last2 = s.last2;
  written = record {
    log1 = s.written.log1;
    log2 = s.written.log2;
    whole1 = s.written.whole1;
    whole2 = s.written.whole2;
    main = s.written.main;
    fits = s.written.fits;
    is = s.written.is;
    bare = s.written.bare;
    sizes = s.written.sizes;
    keeps = (s.written.keeps.0, λ is. inl refl);
  };
  log1 = record { on = s.log1.on; sure = s.log1.sure };
  log2 = record { on = s.log2.on; sure = s.log2.sure };
}

-- a store of the same map
as_own : (view : OpeningView) (header older : LogFields) (told : History) → IsSettled view header older told → IsSettled (store_view view view.map) header older told
as_own view header older told s = record {
  one = s.one;
  two = s.two;
  last1 = s.last1;
  last2 = s.last2;
  written = record {
    log1 = s.written.log1;
    log2 = s.written.log2;
    whole1 = s.written.whole1;
    whole2 = s.written.whole2;
    main = s.written.main;
    fits = s.written.fits;
    is = s.written.is;
    bare = s.written.bare;
    sizes = s.written.sizes;
    keeps = (s.written.keeps.0, λ is. inl refl);
  };
  log1 = record { on = s.log1.on; sure = s.log1.sure };
  log2 = record { on = s.log2.on; sure = s.log2.sure };
}

-- both logs get their new headers, log 2 first
abbrev pub ResetsBoth : Bool → (here there : List ℕ) → Option History → Option History → Type 0
ResetsBoth ok here there old new =
    (view : OpeningView) (one two : FoundLog) → Since view.opening.start (IsResetting view Log2 one two None) old → MayBeOurs view
    → IsNextHeader Log2 (found_log Log2 one two) here → IsNextHeader (other_of Log2) (found_log (other_of Log2) one two) there
    → Passes view.opening (LeavesMap view) (WhereDone ok (IsSettled view (header1_of Log2 (log_fields here) (log_fields there)) (header2_of Log2 (log_fields here) (log_fields there)))) old new

next_with : (has : FoundLog) (frames : List Frame) (bytes : List ℕ) → IsNextHeader Log1 has bytes → IsNextHeader Log1 (with_first has frames) bytes
next_with has frames bytes next = record { is_log = tt; long = next.long; ours = next.ours; salt = next.salt; few = next.few; risen = next.risen }

pub resets_later : (ok : Bool) (view : OpeningView) (later : PageMap) (main here there : List ℕ) (one two : FoundLog) (old new : Option History) → ResetsBoth ok here there old new
    → Since view.opening.start (HasFounded view later main one two) old → IsNextHeader Log2 two here → IsNextHeader Log1 one there
    → Passes view.opening (LeavesEither view later) (WhereDone ok (IsSettled (store_view view later) (log_fields there) (log_fields here))) old new
resets_later ok view later main here there one two old new resets h next2 next1 =
    let has = has_frames view later main one two old h in
    passes_weaker view.opening (LeavesMap (later_view view later main)) (LeavesEither view later) (WhereDone ok (IsSettled (later_view view later main) (log_fields there) (log_fields here)))
    (WhereDone ok (IsSettled (store_view view later) (log_fields there) (log_fields here)))
    (λ told image leaves chance. (inr (leaves chance).0, (leaves chance).1)) (λ told s. state ok told s) old new
    (resets (later_view view later main) (with_first one has.0) two has.1 (inl refl) next2 (next_with one has.0 there next1))
  where
    state : (ok : Bool) (told : History) → WhereDone ok (IsSettled (later_view view later main) (log_fields there) (log_fields here)) told → WhereDone ok (IsSettled (store_view view later) (log_fields there) (log_fields here)) told
    state true told s = as_store view later main (log_fields there) (log_fields here) told s
    state false told s = tt

-- where no log has a frame
pub bare_then : (view : OpeningView) (one two : FoundLog) (told : Option History) → one.frames ≡ [] → two.frames ≡ [] → Since view.opening.start (AreSynced view one two) told → Since view.opening.start (IsResetting view Log1 one two None) told
bare_then view one two told none neither h = (bare_passes view Log1 one two told tt none neither h).holds

-- nothing at all is no map
nothing : overlaid [] [] [] ≡ []
unfolding fields_of pages_in u16_at u32_at spelled_page_size
nothing = refl

-- a store may begin
pub ready : (view : OpeningView) (later : PageMap) (one two : LogHeader) (pair : PairView) (header older : LogFields) (told : History) → pair ≡ new_pair 1 one two → fields_for one ≡ header → fields_for two ≡ older → 1 ≤ length later
    → IsSettled (store_view view later) header older told → IsReady view later pair told
ready view later one two pair header older told is first second some s =
    subst (λ (p : PairView). IsReady view later p told) (sym is)
    (by (subst (λ (h : LogFields). IsSettled (store_view view later) (fields_for one) h told) (sym second) (subst (λ (h : LogFields). IsSettled (store_view view later) h older told) (sym first) s)))
  where
    sized : {header older : LogFields} → IsSettled (store_view view later) header older told → page_size_in (fields_of (take 100 (reads told).main)) ≡ view.size
    sized s = elim s.written.fits [
      | inl empty ↦ absurd (let none = ap (λ (map : PageMap). length map) (sym s.written.bare ∙ ap (λ (bytes : List ℕ). overlaid bytes [] []) empty ∙ nothing) in omega (arith, none))
      | inr (big, is) ↦ is
    ]

    by : IsSettled (store_view view later) (fields_for one) (fields_for two) told → IsReady view later (new_pair 1 one two) told
    by s = record {
      settled = s;
      sized = sized s;
      stands = stands_sealed view.opening (new_pair 1 one two) [] told s.log1.on refl refl refl;
    }

-- the first header of log 1 is newer than what log 2 has
pub two_is_first : (one two : Front) (header : LogHeader) → header.generation ≡ next_odd (max (generation_in one) (generation_in two)) → first_of (Ours header) two ≡ Log2
two_is_first one two header is = ap (λ (b : Bool). if b then Log1 else Log2) (below (generation_in one) (generation_in two) header.generation is)
  where
    below : (m n g : ℕ) → g ≡ next_odd (max m n) → nat_lt g n ≡ false
    below m n g is = grind (arith, nat_tests)

pub new_ready : (view : OpeningView) (later : PageMap) (one two : LogHeader) (pair : PairView) (header older : LogFields) (old new : Option History) → pair ≡ new_pair 1 one two → fields_for one ≡ header → fields_for two ≡ older → 1 ≤ length later
    → Passes view.opening (LeavesSettling view later) (IsSettled (store_view view later) header older) old new → Passes view.opening (LeavesSettling view later) (IsReady view later pair) old new
new_ready view later one two pair header older old new is fields1 fields2 some passes =
    passes_weaker view.opening (LeavesSettling view later) (LeavesSettling view later) (IsSettled (store_view view later) header older) (IsReady view later pair) (λ told image leaves. leaves)
    (λ told s. ready view later one two pair header older told is fields1 fields2 some s) old new passes

pub next_both : (first : File) (one two : FoundLog) (here there : List ℕ) → first ≡ Log2 → IsNextHeader first (found_log first one two) here × IsNextHeader (other_of first) (found_log (other_of first) one two) there
    → IsNextHeader Log2 two here × IsNextHeader Log1 one there
next_both first one two here there at next =
    subst (λ (f : File). IsNextHeader f (found_log f one two) here × IsNextHeader (other_of f) (found_log (other_of f) one two) there) at next

-- where the map stays
pub same_ready : (view : OpeningView) (one two : LogHeader) (pair : PairView) (header older : LogFields) (old new : Option History) → pair ≡ new_pair 1 one two → fields_for one ≡ header → fields_for two ≡ older → 1 ≤ length view.map
    → Passes view.opening (LeavesOpening view) (IsSettled view header older) old new → Passes view.opening (LeavesOpening view) (IsReady view view.map pair) old new
same_ready view one two pair header older old new is fields1 fields2 some passes =
    passes_weaker view.opening (LeavesOpening view) (LeavesOpening view) (IsSettled view header older) (IsReady view view.map pair) (λ told image leaves. leaves)
    (λ told s. ready view view.map one two pair header older told is fields1 fields2 some (as_own view header older told s)) old new passes

-- the salt that log 1 has after its first header
pub salt_then : (has : FoundLog) (header : LogHeader) (bytes : List ℕ) → IsNextHeader Log1 has bytes → log_fields bytes ≡ fields_for header → (next_log has).salt ≡ header.salt1 % 2 ^ 32
salt_then has header bytes next fields = same (has.salt + 1) header.salt1 (sym next.salt ∙ ap (λ (f : LogFields). f.salt1) fields)
  where
    same : (n salt : ℕ) → n % 2 ^ 32 ≡ salt → n % 2 ^ 32 ≡ salt % 2 ^ 32
    same n salt is = omega arith

pub room_for : (has : FoundLog) (n : ℕ) → has.most ≡ n → n ≤ 1 → has.most ≤ 1
room_for has n is few = omega arith

-- one of both logs may be begun anew first
pub first_found : (one two : FoundLog) (told : Option History) → (first : File) × IsLog first × IfSome told (λ told. IsFirst (reads told) first one two)
first_found one two None = (Log1, tt, tt)
first_found one two (Some told) = by (nat_lt (log_fields (reads told).log1).generation (log_fields (reads told).log2).generation) refl
  where
    by : (below : Bool) → nat_lt (log_fields (reads told).log1).generation (log_fields (reads told).log2).generation ≡ below → (first : File) × IsLog first × IsFirst (reads told) first one two
    by true is = (Log1, tt, record { is_log = tt; below = inr (sym (ap (λ (b : Bool). if b then two.frames else one.frames) is)) })
    by false is = (Log2, tt, record { is_log = tt; below = inr (sym (ap (λ (b : Bool). if b then two.frames else one.frames) is)) })

-- where log 2 has no frame, log 1 may be the first
pub log1_resets : (view : OpeningView) (later : PageMap) (first : File) (one two : FoundLog) (old new : Option History) → two.frames ≡ [] → Passes view.opening (LeavesMap view) (IsResetting view first one two None) old new
    → Passes view.opening (LeavesEither view later) (IsResetting view Log1 one two None) old new
log1_resets view later first one two old new none passes =
    passes_weaker view.opening (LeavesMap view) (LeavesEither view later) (IsResetting view first one two None) (IsResetting view Log1 one two None) (λ told image leaves chance. (inl (leaves chance).0, (leaves chance).1))
    (λ told r. record { written = r.written; may = ap (λ (fs : List Frame). overlaid (reads told).main [] fs) none ∙ r.written.bare; other = tt }) old new passes

pub map_not : (view : OpeningView) (later : PageMap) (P : History → Type 0) (old new : Option History) → Passes view.opening (LeavesMap view) P old new → Passes view.opening (LeavesEither view later) (λ told. Unit {0}) old new
map_not view later P old new passes =
    passes_weaker view.opening (LeavesMap view) (LeavesEither view later) P (λ told. Unit {0}) (λ told image leaves chance. (inl (leaves chance).0, (leaves chance).1)) (λ told p. tt) old new passes

-- what doesn't go by the files is said still
pub said_on : (X : Type 0) (opening : Opening) (Leaves : History → Files → Type 0) (P : History → Type 0) (old new : Option History) → Passes opening Leaves P old new → IfSome old (λ told. X) → IfSome new (λ told. X)
said_on X opening Leaves P None None passes x = tt
said_on X opening Leaves P None (Some new) passes x = absurd passes.each_moment
said_on X opening Leaves P (Some old) None passes x = tt
said_on X opening Leaves P (Some old) (Some new) passes x = x

pub counted_now : (view : OpeningView) (one two : FoundLog) (places : List Place) (told : Option History) → IfSome told (λ told. AreSeen view one two places (reads told)) → IfSome told (λ told. length view.map ≡ length places)
counted_now view one two places None seen = tt
counted_now view one two places (Some told) seen = sym seen.count

pub some_now : (view : OpeningView) (one two : FoundLog) (places : List Place) (told : Option History) → IfSome told (λ told. AreSeen view one two places (reads told)) → IfSome told (λ told. 1 ≤ length view.map)
some_now view one two places None seen = tt
some_now view one two places (Some told) seen = seen.some

pub both_known : (view : OpeningView) (n size count : ℕ) (told : Option History) → size ≡ view.size → count ≡ max n 1 → IfSome told (λ told. length view.map ≡ n) → IfSome told (λ told. 1 ≤ length view.map) → IsInside told Main (n * size) 0
    → IfSome told (λ told. (length view.map ≡ count) × (count * view.size ≤ length (reads told).main))
both_known view n size count None sized is counts some inside = tt
both_known view n size count (Some told) sized is counts some inside =
    let all : count ≡ n = omega (arith, is, counts, some) in
    let same : count * view.size ≡ n * size = ap (λ (k : ℕ). k * view.size) all ∙ ap (λ (k : ℕ). n * k) (sym sized) in
    (counts ∙ sym all, omega (arith, same))

-- Main has page 1
pub whole_first : (n size : ℕ) (told : Option History) → IfSome told (λ told. 1 ≤ n) → IsInside told Main (n * size) 0 → IsInside told Main 0 size
whole_first n size None some inside = tt
whole_first zero size (Some told) some inside = absurd (omega arith)
whole_first (suc n) size (Some told) some inside = let more : suc n * size ≡ size + n * size = grind arith in omega arith

-- the whole state of a migrated database
pub resets_migrated : (ok : Bool) (view : OpeningView) (here there : List ℕ) (one two : FoundLog) (old new : Option History) → ResetsBoth ok here there old new
    → Since view.opening.start (HasMigrated view one two) old → IsNextHeader Log2 two here → IsNextHeader Log1 one there
    → Passes view.opening (LeavesEither view (migrated view.map)) (WhereDone ok (IsSettled (store_view view (migrated view.map)) (log_fields there) (log_fields here))) old new
resets_migrated ok view here there one two old new resets h next2 next1 =
    let has = on_main old h in
    resets_later ok view (migrated view.map) has.0 here there one two old new resets has.1 next2 next1
  where
    on_main : (told : Option History) → Since view.opening.start (HasMigrated view one two) told → (main : List ℕ) × Since view.opening.start (HasFounded view (migrated view.map) main one two) told
    on_main None h = ([], tt)
    on_main (Some told) (since, grew, has) = (has.0, (since, grew, has.1))

pub migrated_some : (map : PageMap) → 1 ≤ length map → 1 ≤ length (migrated map)
migrated_some [] some = absurd (omega arith)
migrated_some (page ∷ rest) some = omega arith

-- nothing was done
pub nothing_done : (view : OpeningView) (later : PageMap) (P : History → Type 0) (one two : FoundLog) → ((told : History) → P told) → (old : Option History) → Since view.opening.start (IsSyncing view one two []) old
    → Passes view.opening (LeavesSettling view later) P old old
nothing_done view later P one two all old h =
    passes_weaker view.opening (LeavesSettling view later) (LeavesSettling view later) (IsSyncing view one two []) P (λ told image leaves. leaves) (λ told s. all told) old old
    (lift_opening view later (IsSyncing view one two []) old old (sync_still view one two [] old h))
