-- The first commit of a new or migrated database.
use Rattle.std.proofs.Common.{◌≡◌, ◌≢◌, ℕ, ◌+◌, ◌*◌, ◌%◌, ◌^◌, ◌≤◌, ◌<◌, Bool, true, false, if◌then◌else◌, inl, inr, List, [], ◌∷◌, ◌++◌, length, max, None, refl, sym, ◌∙◌, ap, subst, arith}
use Rattle.std.specs.Prelude.{All, nat_lt}
use Rattle.std.proofs.lemmas.List.Elements.{All-cons, All-filter}
use Rattle.disk_face.specs.declared.disk.File.TheVariants.{Main, Log1, Log2}
use Rattle.disk_face.specs.declared.step.Piece.{Piece}
use Rattle.disk_face.specs.declared.step.Step.TheVariants.{Wrote, Refused, Synced}
use Rattle.disk_face.specs.Files.{Files, overwritten}
use Rattle.disk_face.specs.Steps.{History, reads, further}
use Rattle.disk_face.specs.Image.{MayLeave}
use Rattle.page_spec.specs.PageMap.{PageMap}
use Rattle.log_spec.specs.LogHeader.{LogFields, log_fields, header_size, header_bytes}
use Rattle.log_spec.specs.Accept.{Frame, IsValidFrame, AreCommitted, sum_of_frames, last_size}
use Rattle.log_spec.specs.Frames.{accepted_frames, end_of}
use Rattle.crash_spec.specs.Known.{known_pieces, outlasts}
use Rattle.crash_spec.specs.Logs.{IsOnlyHeader, HasHeader, AreBehind, IsBehind, IsOursAt}
use Rattle.crash_spec.specs.Recovered.{overlaid}
use Rattle.crash_spec.specs.Store.{named_size}
use Rattle.crash_spec.proofs.Elsewhere.{whole_elsewhere, whole_synced, whole_file}
use Rattle.crash_spec.proofs.Headers.{only_header, none_foreign}
use Rattle.crash_spec.proofs.LogImages.{image_frames, image_header}
use Rattle.crash_spec.proofs.LogSteps.{on_written, on_refused, on_more, on_synced}
use Rattle.crash_spec.proofs.Overwritten.{overwritten-front}
use Rattle.crash_spec.proofs.Salts.{behind_more}
use Rattle.crash_spec.proofs.Switching.{recovered_alone, empty_either}
use Rattle.opening_spec.specs.Found.{OpeningView, FoundLog}
use Rattle.opening_spec.specs.States.{AreSynced, HasReset, IsFounding, LeavesEither}
use Rattle.opening_spec.proofs.FoundLaws.{found_elsewhere, found_frames}
use Rattle.opening_spec.proofs.Sizes.{first_sized, kept_image}

pub founding_begins : (view : OpeningView) (later : PageMap) (header : LogFields) (one two : FoundLog) (told : History) → HasReset view Log1 header one two None told → two.frames ≡ []
    → header.salt1 ≡ (one.salt + 1) % 2 ^ 32 → 100 ≤ view.size → header.page_size ≡ view.size
    → length (reads told).main ≤ max (length (reads view.opening.start).main) (length later * view.size) → IsFounding view later header [] (record { frames = []; salt = (one.salt + 1) % 2 ^ 32; most = one.most + 1 }) two told
founding_begins view later header one two told has none salt some paged room = record {
  log1 = has.ready.on;
  only = has.written.log1.only;
  behind = has.written.log1.behind;
  ours = has.written.log1.ours;
  salt = salt;
  paged = paged;
  log2 = has.written.log2;
  none = none;
  whole2 = has.written.whole2;
  main = has.written.main;
  is = has.written.bare;
  lies = λ ends. absurd (ends refl);
  sized = λ ends. absurd (ends refl);
  some_size = some;
  keeps = has.written.keeps;
  room = room;
}

pub founding_images : (view : OpeningView) (later : PageMap) (header : LogFields) (pending : List Frame) (one two : FoundLog) (told : History) → IsFounding view later header pending one two told
    → (image : Files) → MayLeave view.opening.before told image → LeavesEither view later told image
founding_images view later header pending one two told f image left chance =
    let main : image.main ≡ (reads told).main = whole_file view.opening told Main image f.main left in
    let other : accepted_frames 2 image.log2 ≡ [] = found_frames view.opening told Log2 two f.log2 f.whole2 image left chance ∙ f.none in (
      elim (image_frames view.opening told Log1 header [] pending f.log1 image left chance) [
        | inl old ↦ inl (
          recovered_alone Log1 image [] tt other old ∙ ap (λ (bytes : List ℕ). overlaid bytes [] []) main ∙ f.is,
          kept_image view.opening view.size view.own view.map (reads told) image (left Main).no_longer (whole_file view.opening told Log2 image f.whole2 left) f.keeps,
        )
        | inr (ends, new) ↦ inr (
          recovered_alone Log1 image pending tt other new ∙ ap (λ (bytes : List ℕ). overlaid bytes [] pending) main ∙ f.lies ends,
          (omega (arith, (left Main).no_longer, f.room), λ is. inl refl),
        )
      ],
      (
        none_foreign view.opening told image f.ours f.log2.ours chance,
        λ had. first_sized view.size image
            (ap (λ (fields : LogFields). fields.page_size) (image_header view.opening told Log1 header [] pending f.log1 image left) ∙ f.paged) other,
      ),
    )

-- one frame more is handed to a write
module _ (view : OpeningView) (later : PageMap) (header : LogFields) (pending : List Frame) (one two : FoundLog) (told : History) (f : IsFounding view later header pending one two told) (frame : Frame)
    (valid : IsValidFrame header (sum_of_frames header header.sum pending) frame) (open_end : last_size pending ≡ 0) (small : one.salt < 2 ^ 32)
    (reached : end_of pending ≤ length (reads told).log1)
    (lies : last_size (pending ++ frame ∷ []) ≢ 0 → (overlaid (reads told).main [] (pending ++ frame ∷ []) ≡ later) × (named_size (reads told).main [] (pending ++ frame ∷ []) ≡ view.size)) where
  abbrev piece : Piece
  piece = record { file = Log1; at = end_of pending; bytes = frame }

  more_behind : AreBehind (piece ∷ known_pieces view.opening told) Log1 one.salt one.most
  more_behind = behind_more (known_pieces view.opening told) Log1 one.salt one.most piece small (valid.same_salt1 ∙ f.salt) f.behind

  ours_more : All (IsOursAt Log1) (piece ∷ known_pieces view.opening told)
  ours_more = All-cons (IsOursAt Log1) piece (known_pieces view.opening told) (λ is at signed. absurd (omega arith)) f.ours

  front_after : (left : List ℕ) → header_bytes (overwritten (end_of pending) left (reads told).log1) ≡ header_bytes (reads told).log1
  front_after left = overwritten-front header_size (end_of pending) left (reads told).log1 (omega arith) reached

  only_more : (left : List ℕ) → IsOnlyHeader (piece ∷ known_pieces view.opening told) Log1 (header_bytes (overwritten (end_of pending) left (reads told).log1))
  only_more left =
      subst (λ (bytes : List ℕ). IsOnlyHeader (piece ∷ known_pieces view.opening told) Log1 bytes) (sym (front_after left))
      (All-cons (HasHeader Log1 (header_bytes (reads told).log1)) piece (known_pieces view.opening told) (λ is at signed. absurd (omega arith)) f.only)

  pub founding_wrote : IsFounding view later header (pending ++ frame ∷ []) one two (further (Wrote piece) told)
  founding_wrote = record {
    log1 = on_written view.opening told Log1 header [] pending frame f.log1 valid open_end reached;
    only = only_more frame;
    behind = more_behind;
    ours = ours_more;
    salt = f.salt;
    paged = f.paged;
    log2 = found_elsewhere view.opening told Log2 two (Wrote piece) refl f.log2;
    none = f.none;
    whole2 = whole_elsewhere view.opening Log2 (Wrote piece) told refl f.whole2;
    main = whole_elsewhere view.opening Main (Wrote piece) told refl f.main;
    is = f.is;
    lies = λ ends. (lies ends).0;
    sized = λ ends. (lies ends).1;
    some_size = f.some_size;
    keeps = f.keeps;
    room = f.room;
  }

  pub founding_refused : (left : List ℕ) → IsFounding view later header (pending ++ frame ∷ []) one two (further (Refused piece left) told)
  founding_refused left = record {
    log1 = on_refused view.opening told Log1 header [] pending frame f.log1 valid open_end reached left;
    only = only_more left;
    behind = more_behind;
    ours = ours_more;
    salt = f.salt;
    paged = f.paged;
    log2 = found_elsewhere view.opening told Log2 two (Refused piece left) refl f.log2;
    none = f.none;
    whole2 = whole_elsewhere view.opening Log2 (Refused piece left) told refl f.whole2;
    main = whole_elsewhere view.opening Main (Refused piece left) told refl f.main;
    is = f.is;
    lies = λ ends. (lies ends).0;
    sized = λ ends. (lies ends).1;
    some_size = f.some_size;
    keeps = f.keeps;
    room = f.room;
  }

  -- nobody tried to write it
  pub founding_kept : IsFounding view later header (pending ++ frame ∷ []) one two told
  founding_kept = record {
    log1 = on_more view.opening told Log1 header [] pending frame f.log1 valid open_end reached;
    only = f.only;
    behind = f.behind;
    ours = f.ours;
    salt = f.salt;
    paged = f.paged;
    log2 = f.log2;
    none = f.none;
    whole2 = f.whole2;
    main = f.main;
    is = f.is;
    lies = λ ends. (lies ends).0;
    sized = λ ends. (lies ends).1;
    some_size = f.some_size;
    keeps = f.keeps;
    room = f.room;
  }

-- The commit is on the medium: its pages may be written to Main.
pub founded : (view : OpeningView) (later : PageMap) (header : LogFields) (pending : List Frame) (one two : FoundLog) (told : History) → IsFounding view later header pending one two told
    → last_size pending ≢ 0 → AreCommitted (reads told).log1 pending → end_of pending ≤ length (reads told).log1
    → AreSynced (record view { map = later; own = true }) (record { frames = pending; salt = one.salt; most = one.most }) two (further (Synced Log1) told)
founded view later header pending one two told f ends committed long = record {
  opened = record {
    log1 = record {
      is_log = tt;
      accepted = inr (header, on_synced view.opening told Log1 header [] pending f.log1 committed long);
      only = only_header view.opening told Log1;
      behind = All-filter (outlasts Log1 (reads told)) (IsBehind Log1 one.salt one.most) (known_pieces view.opening told) f.behind;
      ours = All-filter (outlasts Log1 (reads told)) (IsOursAt Log1) (known_pieces view.opening told) f.ours;
    };
    log2 = found_elsewhere view.opening told Log2 two (Synced Log1) tt f.log2;
    main = λ place inside none. whole_elsewhere view.opening Main (Synced Log1) told tt f.main place inside;
    fits = inr (f.some_size, either_size first ∙ f.sized ends);
    is = either_map first ∙ f.lies ends;
    sizes = λ had. (
      λ some. ap (λ (fields : LogFields). fields.page_size) f.log1.same_header ∙ f.paged,
      λ some. absurd (some f.none),
    );
    keeps = (f.room, λ is. inl refl);
  };
  whole1 = whole_synced view.opening Log1 told;
  whole2 = whole_elsewhere view.opening Log2 (Synced Log1) told tt f.whole2;
}
  where
    first : Bool
    first = nat_lt (log_fields (reads told).log1).generation (log_fields (reads told).log2).generation

    either_map : (first : Bool) → overlaid (reads told).main (if first then pending else two.frames) (if first then two.frames else pending) ≡ overlaid (reads told).main [] pending
    either_map true = ap (λ (fs : List Frame). overlaid (reads told).main pending fs) f.none ∙ empty_either (reads told).main pending
    either_map false = ap (λ (fs : List Frame). overlaid (reads told).main fs pending) f.none

    either_size : (first : Bool) → named_size (reads told).main (if first then pending else two.frames) (if first then two.frames else pending) ≡ named_size (reads told).main [] pending
    either_size true = ap (λ (fs : List Frame). named_size (reads told).main pending fs) f.none
    either_size false = ap (λ (fs : List Frame). named_size (reads told).main fs pending) f.none
