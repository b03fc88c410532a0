-- A store stands on its disk after a step of a checkpoint as before it.
use Rattle.std.proofs.Common.{◌≡◌, ◌∙◌, inl, inr, ℕ, ◌≤◌, arith, ◌==◌, if◌then◌else◌, Bool, true, false, List, [], ◌∷◌, ◌++◌, length, take, drop, sym, ap, subst, Option, Some, None}
use Rattle.std.specs.Prelude.{MatchOption}
use Rattle.std.proofs.lemmas.Bool.{true≢false}
use Rattle.std.proofs.lemmas.List.Elements.{All-cons, All-nil}
use Rattle.disk_face.specs.declared.disk.File.{File}
use Rattle.disk_face.specs.declared.disk.File.TheVariants.{Log1, Log2}
use Rattle.disk_face.specs.declared.step.Step.{Step}
use Rattle.disk_face.specs.Files.{content}
use Rattle.disk_face.specs.Steps.{History, reads, further}
use Rattle.page_spec.specs.PageMap.{PageMap}
use Rattle.log_spec.specs.LogHeader.{header_size, header_bytes}
use Rattle.log_spec.specs.Accept.{Frame, AreThere, AreValidFrames, page_numbers}
use Rattle.log_spec.specs.Frames.{frame_size, end_of}
use Rattle.crash_spec.specs.Elsewhere.{IsElsewhere}
use Rattle.crash_spec.specs.Known.{known_pieces}
use Rattle.crash_spec.specs.Logs.{IsOnlyHeader}
use Rattle.crash_spec.specs.Opening.{Opening}
use Rattle.crash_spec.specs.Recovered.{main_page, page_after_frames, overlaid, NamesPages}
use Rattle.crash_spec.specs.Store.{StoreView, Holds, named_size}
use Rattle.crash_spec.proofs.Elsewhere.{content_elsewhere, on_elsewhere, whole_elsewhere, only_elsewhere, behind_elsewhere, ours_elsewhere}
use Rattle.crash_spec.proofs.NamedPages.{EndsBy, main_within}
use Rattle.wal_frames.specs.Found.{log_file}
use Rattle.wal_rules.specs.declared.state.LogState.{LogState}
use Rattle.log_pair.specs.Pair.{log_of, other_number, current_file, current_header}
use Rattle.log_pair.specs.Appending.{LogStands, HasFrames}
use Rattle.log_pair.specs.Switch.{other_file}
use Rattle.log_commit.specs.Commit.{map_under}
use Rattle.log_commit.specs.Fronts.{HasFront}
use Rattle.store_spec.specs.Store.{StoreData, frames_in, frames_read, current_read, other_read, newest_in, map_over, view_of}
use Rattle.store_spec.specs.Standing.{AreThereBoth, AreFronts, IsStoreOn, StandsOn}
use Rattle.store_spec.specs.Steps.{stepped}
use Rattle.store_spec.proofs.Copied.{StepsOn}

pub log_elsewhere : (log : ℕ) (step : Step) → IsElsewhere Log1 step → IsElsewhere Log2 step → IsElsewhere (log_file log) step
log_elsewhere log step one two = by (log == 1)
  where
    by : (first : Bool) → IsElsewhere (if first then Log1 else Log2) step
    by true = one
    by false = two

match_goes : {A : Type 0} (found : Option A) (none none' : Type 0) (some some' : A → Type 0) → (none → none') → ((a : A) → some a → some' a)
    → MatchOption found none some → MatchOption found none' some'
match_goes None none none' some some' left right is = left is
match_goes (Some a) none none' some some' left right is = right a is

module _ (kept : StoreData) (state : LogState) (told : History) (step : Step) (s : StepsOn kept state told step) where
  abbrev later : History
  later = further step told

  log_apart : (log : ℕ) → IsElsewhere (log_file log) step
  log_apart log = log_elsewhere log step s.log1 s.log2

  log_same : (log : ℕ) → content (reads later) (log_file log) ≡ content (reads told) (log_file log)
  log_same log = content_elsewhere (log_file log) step told (log_apart log)

  pub read_same : (log : ℕ) → frames_read kept.pair log (reads (further step told)) ≡ frames_read kept.pair log (reads told)
  read_same log = ap (λ (bytes : List ℕ). frames_in (frame_size (log_of kept.pair log).header) (log_of kept.pair log).frames (drop header_size bytes)) (log_same log)

  -- the maps over the other log's frames
  pub newest_same : named_size (reads told).main (other_read kept.pair (reads told)) (current_read kept.pair (reads told)) ≡ kept.page_size
      → newest_in kept.pair (reads (further step told)) ≡ newest_in kept.pair (reads told)
  newest_same sized =
      (λ i. overlaid (reads later).main (read_same (other_number kept.pair.current) i) (read_same kept.pair.current i))
      ∙ (s.maps (current_read kept.pair (reads told)) sized).0

  pub over_same : (mark : ℕ) → named_size (reads told).main (other_read kept.pair (reads told)) (take mark (current_read kept.pair (reads told))) ≡ kept.page_size
      → map_over kept.pair mark (reads (further step told)) ≡ map_over kept.pair mark (reads told)
  over_same mark sized =
      (λ i. overlaid (reads later).main (read_same (other_number kept.pair.current) i) (take mark (read_same kept.pair.current i)))
      ∙ (s.maps (take mark (current_read kept.pair (reads told))) sized).0

  pub over_named : (mark : ℕ) → named_size (reads told).main (other_read kept.pair (reads told)) (take mark (current_read kept.pair (reads told))) ≡ kept.page_size
      → named_size (reads (further step told)).main (other_read kept.pair (reads (further step told))) (take mark (current_read kept.pair (reads (further step told)))) ≡ kept.page_size
  over_named mark sized =
      (λ i. named_size (reads later).main (read_same (other_number kept.pair.current) i) (take mark (read_same kept.pair.current i)))
      ∙ (s.maps (take mark (current_read kept.pair (reads told))) sized).1

  has_stays : (log : ℕ) → HasFrames (Some told) (log_file log) (log_of kept.pair log).header (frames_read kept.pair log (reads told))
      → HasFrames (Some later) (log_file log) (log_of kept.pair log).header (frames_read kept.pair log (reads later))
  has_stays log (valid, there) = (
    subst (λ (frames : List Frame). AreValidFrames (log_of kept.pair log).header (log_of kept.pair log).header.sum frames) (sym (read_same log)) valid,
    subst (λ (frames : List Frame). AreThere (content (reads later) (log_file log)) frames) (sym (read_same log))
        (subst (λ (bytes : List ℕ). AreThere bytes (frames_read kept.pair log (reads told))) (sym (log_same log)) there),
  )

  pub there_stays : AreThereBoth kept told → AreThereBoth (stepped kept state) (further step told)
  there_stays there = record {
    current = has_stays kept.pair.current there.current;
    other = has_stays (other_number kept.pair.current) there.other;
    current_pages = ap (λ (frames : List Frame). page_numbers frames) (read_same kept.pair.current) ∙ there.current_pages;
    other_pages = ap (λ (frames : List Frame). page_numbers frames) (read_same (other_number kept.pair.current)) ∙ there.other_pages;
    copied = λ number one low.
        subst (λ (frames : List Frame). page_after_frames frames number (main_page kept.page_size (reads later).main number) ≡ main_page kept.page_size (reads later).main number)
        (sym (read_same (other_number kept.pair.current))) (s.copied there.copied number one low);
  }

  view_same : (pending : List Frame) (over : PageMap) → newest_in kept.pair (reads later) ≡ newest_in kept.pair (reads told)
      → view_of kept (reads told) pending over ≡ view_of (stepped kept state) (reads later) pending over
  view_same pending over same = λ i. record {
    current = current_file kept.pair;
    header = current_header kept.pair;
    older = (log_of kept.pair (other_number kept.pair.current)).header;
    frames = sym (read_same kept.pair.current) i;
    pending = pending;
    other = sym (read_same (other_number kept.pair.current)) i;
    size = kept.page_size;
    map = sym same i;
    later = over;
  }

  stands_stays : (opening : Opening) (frames : List Frame) → LogStands opening kept.pair frames [] told → LogStands opening kept.pair frames [] later
  stands_stays opening frames stands = record {
    on = on_elsewhere opening told (current_file kept.pair) (current_header kept.pair) frames [] step stands.on (log_apart kept.pair.current);
    there = subst (λ (bytes : List ℕ). AreThere bytes (frames ++ [])) (sym (log_same kept.pair.current)) stands.there;
    long = subst (λ (bytes : List ℕ). end_of (frames ++ []) ≤ length bytes) (sym (log_same kept.pair.current)) stands.long;
    counted = stands.counted;
    appended = stands.appended;
    summed = stands.summed;
  }

  front_stays : (opening : Opening) (log : File) (salt most : ℕ) → IsElsewhere log step → HasFront opening told log salt most → HasFront opening later log salt most
  front_stays opening log salt most apart front = record {
    only =
        subst (λ (bytes : List ℕ). IsOnlyHeader (known_pieces opening later) log (header_bytes bytes)) (sym (content_elsewhere log step told apart))
        (only_elsewhere opening log (header_bytes (content (reads told) log)) step told apart front.only);
    behind = behind_elsewhere opening log salt most step told apart front.behind;
    ours = ours_elsewhere opening log step told apart front.ours;
  }

  fronts_stay : (opening : Opening) → AreFronts opening kept told → AreFronts opening (stepped kept state) later
  fronts_stay opening fronts = record {
    most1 = fronts.most1;
    most2 = fronts.most2;
    few = fronts.few;
    sizes = fronts.sizes;
    log1 = front_stays opening Log1 kept.pair.one.header.salt1 fronts.most1 s.log1 fronts.log1;
    log2 = front_stays opening Log2 kept.pair.two.header.salt1 fronts.most2 s.log2 fronts.log2;
  }

  -- Main stays as long as it is
  pub long_same : length (reads (further step told)).main ≡ length (reads told).main
  long_same =
      let longer = s.longer in
      let shorter : length (reads (further step told)).main ≤ length (reads told).main =
      main_within (length (reads told).main) told.first told.steps (step ∷ [])
      (All-cons (EndsBy (length (reads told).main)) step [] s.ends (All-nil (EndsBy (length (reads told).main)))) (omega arith) in
      omega (arith, longer, shorter)

  store_stays : (opening : Opening) → IsStoreOn opening kept told → IsStoreOn opening (stepped kept state) later
  store_stays opening on =
      let same : newest_in kept.pair (reads later) ≡ newest_in kept.pair (reads told) = newest_same on.holds.sized in
      record {
        pending = on.pending;
        later = on.later;
        there = there_stays on.there;
        holds = subst (λ (view : StoreView). Holds opening view later) (view_same on.pending on.later same) (s.holds opening on.pending on.later on.holds);
        running = match_goes kept.stop _ _ _ _
            (λ running. record {
              none = running.none;
              stands = subst (λ (frames : List Frame). LogStands opening kept.pair frames [] later) (sym (read_same kept.pair.current))
                  (stands_stays opening (current_read kept.pair (reads told)) running.stands);
              whole = whole_elsewhere opening (current_file kept.pair) step told (log_apart kept.pair.current) running.whole;
            })
            (λ stop is. is ∙ ap (λ (pages : PageMap). map_under pages stop.images stop.size) (sym same))
            on.running;
        other_whole = whole_elsewhere opening (other_file kept.pair) step told (log_apart (other_number kept.pair.current)) on.other_whole;
        main_whole = s.whole opening;
        fronts = fronts_stay opening on.fronts;
        names = subst (λ (pages : PageMap). NamesPages (length (reads later).main) kept.page_size pages) (sym same)
            (subst (λ (long : ℕ). NamesPages long kept.page_size (newest_in kept.pair (reads told))) (sym long_same) on.names);
        later_names = on.later_names;
      }

  pub standing_stays : (opening : Opening) → StandsOn opening kept told → StandsOn opening (stepped kept state) (further step told)
  standing_stays opening (inl on) = inl (store_stays opening on)
  standing_stays opening (inr torn) = absurd (true≢false (sym torn.done ∙ s.unfinished))
