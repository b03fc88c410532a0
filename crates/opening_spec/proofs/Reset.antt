-- A log gets a new header, while Main alone, or with the other log, is the map.
use Rattle.std.proofs.Common.{◌≡◌, ◌⊎◌, ℕ, ◌+◌, ◌≤◌, Bool, true, false, if◌then◌else◌, inl, inr, List, [], ◌∷◌, length, take, drop, refl, sym, ◌∙◌, ap, subst, arith}
use Rattle.std.specs.Prelude.{All, Contains, nat_lt}
use Rattle.std.proofs.lemmas.List.{take_at, take_all}
use Rattle.std.proofs.lemmas.List.Elements.{All-cons, All-filter}
use Rattle.disk_face.specs.declared.disk.File.{File}
use Rattle.disk_face.specs.declared.disk.File.TheVariants.{Main, Log1, Log2}
use Rattle.disk_face.specs.declared.step.Piece.{Piece}
use Rattle.disk_face.specs.declared.step.Step.{Step}
use Rattle.disk_face.specs.declared.step.Step.TheVariants.{Wrote, Synced}
use Rattle.disk_face.specs.Files.{Files, content, overwritten}
use Rattle.disk_face.specs.Steps.{History, reads, further}
use Rattle.disk_face.specs.Image.{unsure, MayLeave}
use Rattle.disk_face.proofs.Contents.{content-put, length-overwritten}
use Rattle.disk_face.proofs.Images.{synced_is_sure}
use Rattle.page_spec.specs.Header.{fields_of, page_size_in}
use Rattle.log_spec.specs.LogHeader.{LogFields, log_fields, header_size}
use Rattle.log_spec.specs.Accept.{Frame}
use Rattle.log_spec.specs.Frames.{accepted_frames, end_of}
use Rattle.log_spec.proofs.HeaderLaws.{fields_front, ours_front}
use Rattle.crash_spec.specs.Marks.{IsLog, number_of, other_of, marks}
use Rattle.crash_spec.specs.Known.{known_pieces, outlasts}
use Rattle.crash_spec.specs.Logs.{IsWhole, IsOneOf, IsFresh, IsBehind, IsOursAt, NoneForeign}
use Rattle.crash_spec.specs.Recovered.{overlaid}
use Rattle.crash_spec.proofs.Elsewhere.{content_elsewhere, sure_elsewhere, on_elsewhere, whole_elsewhere, whole_synced, whole_file}
use Rattle.crash_spec.proofs.Headers.{only_header, none_foreign}
use Rattle.crash_spec.proofs.LogImages.{accepted_front}
use Rattle.crash_spec.proofs.MarkLaws.{marked_frames}
use Rattle.crash_spec.proofs.Salts.{next_is_fresh, behind_next}
use Rattle.crash_spec.proofs.StoreSteps.{log_apart, other_twice, other_is_log}
use Rattle.crash_spec.proofs.Switching.{empty_either, recovered_alone, torn_log, torn_same, torn_known, WritesFront}
use Rattle.opening_spec.specs.Found.{FoundLog, IsFound, OpeningView, IsNextHeader, older_in, newer_in, map_in, found_log, frames_in, one_after, two_after, next_log}
use Rattle.opening_spec.specs.States.{AreWritten, IsReset, MayReset, MayBeOurs, KeepsTo, LeavesMap}
use Rattle.opening_spec.proofs.FoundLaws.{found_elsewhere, found_frames}
use Rattle.opening_spec.proofs.Sizes.{both_sized, other_sized, kept_image}
use Rattle.opening_spec.proofs.Synced.{recovered_by}

-- with an empty log the order of the logs doesn't matter
either : (first : Bool) (main : List ℕ) (frames : List Frame) → overlaid main (if first then [] else frames) (if first then frames else []) ≡ overlaid main [] frames
either true main frames = refl
either false main frames = empty_either main frames

either' : (first : Bool) (main : List ℕ) (frames : List Frame) → overlaid main (if first then frames else []) (if first then [] else frames) ≡ overlaid main [] frames
either' true main frames = empty_either main frames
either' false main frames = refl

ours_both : (known : List Piece) (log : File) → IsLog log → All (IsOursAt log) known → All (IsOursAt (other_of log)) known → All (IsOursAt Log1) known × All (IsOursAt Log2) known
ours_both known Main is here there = absurd is
ours_both known Log1 is here there = (here, there)
ours_both known Log2 is here there = (there, here)

module _ (view : OpeningView) (one two : FoundLog) (told : History) (w : AreWritten view one two told) where
  found_in : (log : File) → IsLog log → IsFound view.opening told log (found_log log one two)
  found_in Main is = absurd is
  found_in Log1 is = w.log1
  found_in Log2 is = w.log2

  whole_in : (log : File) → IsLog log → IsWhole view.opening told log
  whole_in Main is = absurd is
  whole_in Log1 is = w.whole1
  whole_in Log2 is = w.whole2

  frames_are : (log : File) → IsLog log → (found_log log one two).frames ≡ frames_in log one two
  frames_are Main is = absurd is
  frames_are Log1 is = refl
  frames_are Log2 is = refl

  -- of files with the same Main, whose log is new and whose other log is as it was
  kept_now : (files : Files) (log : File) → IsLog log → (log ≡ Log2 → MayBeOurs view) → files.main ≡ (reads told).main → content files (other_of log) ≡ content (reads told) (other_of log)
      → KeepsTo view.opening view.size view.own view.map files
  kept_now files Main is owns main same = absurd is
  kept_now files Log1 is owns main same = kept_image view.opening view.size view.own view.map (reads told) files (omega (arith, ap (λ (bytes : List ℕ). length bytes) main)) same w.keeps
  kept_now files Log2 is owns main same = (omega (arith, w.keeps.0, ap (λ (bytes : List ℕ). length bytes) main), λ ours. owns refl)

  module _ (log : File) (new_bytes : List ℕ) (next : IsNextHeader log (found_log log one two) new_bytes) (may : MayReset view log one two told) (owns : log ≡ Log2 → MayBeOurs view) where
    abbrev new_piece : Piece
    new_piece = record { file = log; at = 0; bytes = new_bytes }

    -- of a log that is as it was, the frames are those that were found
    as_before : (found : List ℕ) → All (Contains (new_piece ∷ known_pieces view.opening told)) (marks log found) → found ≡ content (reads told) log
        → accepted_frames (number_of log) found ≡ (found_log log one two).frames
    as_before found known_all same =
        elim (found_in log next.is_log).accepted [
          | inl is ↦ ap (λ (xs : List ℕ). accepted_frames (number_of log) xs) same ∙ is
          | inr (header, on) ↦
              elim (accepted_front (new_piece ∷ known_pieces view.opening told) log header (found_log log one two).frames [] (content (reads told) log) found on.ours on.same_header on.committed on.long
              tt (λ n less. absurd (omega arith))
              (All-cons (IsOneOf log header (end_of (found_log log one two).frames) []) new_piece (known_pieces view.opening told) (λ file behind salts. absurd (omega arith)) on.fresh)
              (ap (λ (xs : List ℕ). take (end_of (found_log log one two).frames) xs) same)
              (marked_frames (Contains (new_piece ∷ known_pieces view.opening told)) log found known_all)) [
                | inl is ↦ is
                | inr (some, is) ↦ absurd (some refl)
              ]
        ]

    new_is_fresh : IsFresh (new_piece ∷ known_pieces view.opening told) log (log_fields new_bytes) header_size []
    new_is_fresh =
        All-cons (IsOneOf log (log_fields new_bytes) header_size []) new_piece (known_pieces view.opening told) (λ file far salts. absurd (omega arith))
        (next_is_fresh (known_pieces view.opening told) log (found_log log one two).salt (found_log log one two).most (log_fields new_bytes) (found_in log next.is_log).behind next.few next.salt)

    -- while the header is written
    pub reset_images : (step : Step) (left : List ℕ) → WritesFront view.opening told log new_bytes left step
        → (image : Files) → MayLeave view.opening.before (further step told) image → LeavesMap view (further step told) image
    reset_images step left writes image leaves chance =
        let is_other = other_is_log log next.is_log in
        let apart = writes.elsewhere (other_of log) (log_apart log next.is_log).0 in
        let main_apart = writes.elsewhere Main (log_apart log next.is_log).1 in
        let found : List ℕ = content image log in
        let whole = whole_in log next.is_log in
        let main_is : image.main ≡ (reads told).main =
        whole_file view.opening (further step told) Main image (whole_elsewhere view.opening Main step told main_apart w.main) leaves ∙ content_elsewhere Main step told main_apart in
        let other_whole = whole_elsewhere view.opening (other_of log) step told apart (whole_in (other_of log) is_other) in
        let other_found = found_elsewhere view.opening told (other_of log) (found_log (other_of log) one two) step apart (found_in (other_of log) is_other) in
        let other_is : content image (other_of log) ≡ content (reads told) (other_of log) =
        whole_file view.opening (further step told) (other_of log) image other_whole leaves ∙ content_elsewhere (other_of log) step told apart in
        let other_frames : accepted_frames (number_of (other_of log)) (content image (other_of log)) ≡ frames_in (other_of log) one two =
        found_frames view.opening (further step told) (other_of log) (found_log (other_of log) one two) other_found other_whole image leaves chance ∙ frames_are (other_of log) is_other in
        let known_all = torn_known view.opening told log new_bytes left step writes whole image leaves next.is_log chance in
        let same_frames : found ≡ content (reads told) log → accepted_frames (number_of log) found ≡ frames_in log one two =
        λ same. as_before found known_all same ∙ frames_are log next.is_log in
        let ours_here : All (IsOursAt log) (known_pieces view.opening (further step told)) =
        subst (λ (known : List Piece). All (IsOursAt log) known) (sym writes.known)
        (All-cons (IsOursAt log) new_piece (known_pieces view.opening told) (λ is at signed. next.ours) (found_in log next.is_log).ours) in
        let both_ours = ours_both (known_pieces view.opening (further step told)) log next.is_log ours_here other_found.ours in
        let foreign : NoneForeign image = none_foreign view.opening (further step told) image both_ours.0 both_ours.1 chance in
        let keeps : KeepsTo view.opening view.size view.own view.map image = kept_now image log next.is_log owns main_is other_is in
        elim (torn_log (known_pieces view.opening told) log new_bytes (content (reads told) log) found (found_in log next.is_log).only next.long next.ours new_is_fresh
        (torn_same view.opening told log new_bytes left step writes whole image leaves) known_all) [
          | inl same ↦
              let frames = both_frames image log next.is_log (same_frames same) other_frames in
              let files = both_files image (reads told) log next.is_log same other_is in (
                (recovered_by image one two frames.0 frames.1 ∙ same_map image (reads told) files.0 files.1 main_is ∙ w.is, keeps),
                (foreign, λ had. both_sized view.size one two image (reads told) files.0 files.1 frames.0 frames.1 (w.sizes had)),
              )
          | inr none ↦ (
            (
              recovered_alone (other_of log) image (frames_in (other_of log) one two) is_other
                  (subst (λ (file : File). accepted_frames (number_of file) (content image file) ≡ []) (sym (other_twice log)) none) other_frames
                  ∙ ap (λ (main : List ℕ). overlaid main [] (frames_in (other_of log) one two)) main_is
                  ∙ may,
              keeps,
            ),
            (foreign, λ had. other_sized view.size log one two image (reads told) next.is_log none other_is other_frames (w.sizes had)),
          )
        ]
      where
        both_frames : (image : Files) (log : File) → IsLog log → accepted_frames (number_of log) (content image log) ≡ frames_in log one two
            → accepted_frames (number_of (other_of log)) (content image (other_of log)) ≡ frames_in (other_of log) one two
            → (accepted_frames 1 image.log1 ≡ one.frames) × (accepted_frames 2 image.log2 ≡ two.frames)
        both_frames image Main is here there = absurd is
        both_frames image Log1 is here there = (here, there)
        both_frames image Log2 is here there = (there, here)

        both_files : (image read : Files) (log : File) → IsLog log → content image log ≡ content read log → content image (other_of log) ≡ content read (other_of log)
            → (image.log1 ≡ read.log1) × (image.log2 ≡ read.log2)
        both_files image read Main is here there = absurd is
        both_files image read Log1 is here there = (here, there)
        both_files image read Log2 is here there = (there, here)

        same_map : (image read : Files) → image.log1 ≡ read.log1 → image.log2 ≡ read.log2 → image.main ≡ read.main → map_in image one two ≡ map_in read one two
        same_map image read is1 is2 main = rw (is1, is2, main) refl

    abbrev synced : History
    synced = further (Synced log) (further (Wrote new_piece) told)

    read_after : content (reads synced) log ≡ overwritten 0 new_bytes (content (reads told) log)
    read_after = content-put log 0 new_bytes (reads told)

    -- once it is on the medium, the log is ready
    pub reset_ready : IsReset view log (log_fields new_bytes) synced
    reset_ready =
        let a : List ℕ = content (reads told) log in
        let front : take header_size (overwritten 0 new_bytes a) ≡ new_bytes = take_at new_bytes (drop (0 + length new_bytes) a) header_size next.long in
        let long : header_size ≤ length (overwritten 0 new_bytes a) = omega (arith, length-overwritten 0 new_bytes a (omega arith), next.long) in
        let same : take header_size new_bytes ≡ take header_size (content (reads synced) log) = take_all header_size new_bytes (omega (arith, next.long)) ∙ sym front ∙ ap (λ (xs : List ℕ). take header_size xs) (sym read_after) in
        let far : header_size ≤ length (content (reads synced) log) = omega (arith, ap (λ (xs : List ℕ). length xs) read_after) in
        record {
          on = record {
            is_log = next.is_log;
            ours = ours_front (number_of log) new_bytes (content (reads synced) log) (omega (arith, next.long)) far same next.ours;
            same_header = sym (fields_front new_bytes (content (reads synced) log) same);
            committed = record { there = refl; valid = tt; committed = λ some. absurd (some refl) };
            long = far;
            sure = λ place near. synced_is_sure log (unsure view.opening.before (Wrote new_piece ∷ told.steps)) place;
            valid = tt;
            one_commit = λ n less. absurd (omega arith);
            fresh = All-filter (outlasts log (reads (further (Wrote new_piece) told))) (IsOneOf log (log_fields new_bytes) header_size []) (known_pieces view.opening (further (Wrote new_piece) told)) new_is_fresh;
          };
          sure = λ place. synced_is_sure log (unsure view.opening.before (Wrote new_piece ∷ told.steps)) place;
        }

    found_after : IsFound view.opening synced log (next_log (found_log log one two))
    found_after = record {
      is_log = next.is_log;
      accepted = inr (log_fields new_bytes, reset_ready.on);
      only = only_header view.opening (further (Wrote new_piece) told) log;
      behind = All-filter (outlasts log (reads (further (Wrote new_piece) told))) (IsBehind log (next_log (found_log log one two)).salt (next_log (found_log log one two)).most)
          (known_pieces view.opening (further (Wrote new_piece) told))
          (All-cons (IsBehind log (next_log (found_log log one two)).salt (next_log (found_log log one two)).most) new_piece (known_pieces view.opening told) (λ is far. absurd (omega arith))
          (behind_next (known_pieces view.opening told) log (found_log log one two).salt (found_log log one two).most (found_in log next.is_log).behind));
      ours = All-filter (outlasts log (reads (further (Wrote new_piece) told))) (IsOursAt log) (known_pieces view.opening (further (Wrote new_piece) told))
          (All-cons (IsOursAt log) new_piece (known_pieces view.opening told) (λ is at signed. next.ours) (found_in log next.is_log).ours);
    }

    other_after : IsFound view.opening synced (other_of log) (found_log (other_of log) one two)
    other_after =
        found_elsewhere view.opening (further (Wrote new_piece) told) (other_of log) (found_log (other_of log) one two) (Synced log) tt
        (found_elsewhere view.opening told (other_of log) (found_log (other_of log) one two) (Wrote new_piece) (log_apart log next.is_log).0 (found_in (other_of log) (other_is_log log next.is_log)))

    other_whole : IsWhole view.opening synced (other_of log)
    other_whole =
        whole_elsewhere view.opening (other_of log) (Synced log) (further (Wrote new_piece) told) tt
        (whole_elsewhere view.opening (other_of log) (Wrote new_piece) told (log_apart log next.is_log).0 (whole_in (other_of log) (other_is_log log next.is_log)))

    main_after : (reads synced).main ≡ (reads told).main
    main_after = content_elsewhere Main (Wrote new_piece) told (log_apart log next.is_log).1

    main_whole : IsWhole view.opening synced Main
    main_whole =
        whole_elsewhere view.opening Main (Synced log) (further (Wrote new_piece) told) tt
        (whole_elsewhere view.opening Main (Wrote new_piece) told (log_apart log next.is_log).1 w.main)

    other_same : content (reads synced) (other_of log) ≡ content (reads told) (other_of log)
    other_same = content_elsewhere (other_of log) (Wrote new_piece) told (log_apart log next.is_log).0

    -- and the map is the same
    pub reset_written : AreWritten view (one_after log one) (two_after log two) synced
    reset_written = all_after log next.is_log owns found_after other_after (whole_synced view.opening log (further (Wrote new_piece) told)) other_whole may other_same
      where
        all_after : (file : File) → IsLog file → (file ≡ Log2 → MayBeOurs view) → IsFound view.opening synced file (next_log (found_log file one two)) → IsFound view.opening synced (other_of file) (found_log (other_of file) one two)
            → IsWhole view.opening synced file → IsWhole view.opening synced (other_of file) → overlaid (reads told).main [] (frames_in (other_of file) one two) ≡ view.map
            → content (reads synced) (other_of file) ≡ content (reads told) (other_of file) → AreWritten view (one_after file one) (two_after file two) synced
        all_after Main is own here there whole whole' alone same = absurd is
        all_after Log1 is own here there whole whole' alone same = record {
          log1 = here;
          log2 = there;
          whole1 = whole;
          whole2 = whole';
          main = main_whole;
          fits = subst (λ (main : List ℕ). (main ≡ []) ⊎ ((100 ≤ view.size) × (page_size_in (fields_of (take 100 main)) ≡ view.size))) (sym main_after) w.fits;
          is = ap (λ (main : List ℕ). overlaid main (older_in (reads synced) (next_log one) two) (newer_in (reads synced) (next_log one) two)) main_after
              ∙ either (nat_lt (log_fields (reads synced).log1).generation (log_fields (reads synced).log2).generation) (reads told).main two.frames ∙ alone;
          bare = ap (λ (main : List ℕ). overlaid main [] []) main_after ∙ w.bare;
          sizes = λ had. (
            λ some. absurd (some refl),
            λ some. ap (λ (bytes : List ℕ). (log_fields bytes).page_size) same ∙ (w.sizes had).1 some,
          );
          keeps = kept_now (reads synced) Log1 is own main_after same;
        }
        all_after Log2 is own here there whole whole' alone same = record {
          log1 = there;
          log2 = here;
          whole1 = whole';
          whole2 = whole;
          main = main_whole;
          fits = subst (λ (main : List ℕ). (main ≡ []) ⊎ ((100 ≤ view.size) × (page_size_in (fields_of (take 100 main)) ≡ view.size))) (sym main_after) w.fits;
          is = ap (λ (main : List ℕ). overlaid main (older_in (reads synced) one (next_log two)) (newer_in (reads synced) one (next_log two))) main_after
              ∙ either' (nat_lt (log_fields (reads synced).log1).generation (log_fields (reads synced).log2).generation) (reads told).main one.frames ∙ alone;
          bare = ap (λ (main : List ℕ). overlaid main [] []) main_after ∙ w.bare;
          sizes = λ had. (
            λ some. ap (λ (bytes : List ℕ). (log_fields bytes).page_size) same ∙ (w.sizes had).0 some,
            λ some. absurd (some refl),
          );
          keeps = kept_now (reads synced) Log2 is own main_after same;
        }

    -- with the other log as it was
    pub other_ready : (header : LogFields) → IsReset view (other_of log) header told → IsReset view (other_of log) header synced
    other_ready header ready =
        let apart = (log_apart log next.is_log).0 in
        record {
          on = on_elsewhere view.opening (further (Wrote new_piece) told) (other_of log) header [] [] (Synced log)
              (on_elsewhere view.opening told (other_of log) header [] [] (Wrote new_piece) ready.on apart) tt;
          sure = λ place. sure_elsewhere view.opening.before (other_of log) (Synced log) (further (Wrote new_piece) told) place tt (sure_elsewhere view.opening.before (other_of log) (Wrote new_piece) told place apart (ready.sure place));
        }

-- all is on the medium: a crash leaves what is there
pub written_images : (view : OpeningView) (one two : FoundLog) (told : History) → AreWritten view one two told → (image : Files) → MayLeave view.opening.before told image → LeavesMap view told image
written_images view one two told w image left chance =
    let is1 : image.log1 ≡ (reads told).log1 = whole_file view.opening told Log1 image w.whole1 left in
    let is2 : image.log2 ≡ (reads told).log2 = whole_file view.opening told Log2 image w.whole2 left in
    let main : image.main ≡ (reads told).main = whole_file view.opening told Main image w.main left in
    let frames1 = found_frames view.opening told Log1 one w.log1 w.whole1 image left chance in
    let frames2 = found_frames view.opening told Log2 two w.log2 w.whole2 image left chance in (
      (
        recovered_by image one two frames1 frames2 ∙ same_maps image (reads told) is1 is2 main ∙ w.is,
        kept_image view.opening view.size view.own view.map (reads told) image (left Main).no_longer is2 w.keeps,
      ),
      (
        none_foreign view.opening told image w.log1.ours w.log2.ours chance,
        λ had. both_sized view.size one two image (reads told) is1 is2 frames1 frames2 (w.sizes had),
      ),
    )
  where
    same_maps : (image read : Files) → image.log1 ≡ read.log1 → image.log2 ≡ read.log2 → image.main ≡ read.main → map_in image one two ≡ map_in read one two
    same_maps image read is1 is2 main = rw (is1, is2, main) refl
