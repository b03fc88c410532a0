-- After an opening the files hold a store with the map that was recovered.
use Rattle.std.proofs.Common.{◌≡◌, ℕ, ◌≤◌, ◌<◌, List, [], take, Option, Some, None, refl, sym, arith}
use Rattle.std.specs.Prelude.{Contains}
use Rattle.std.proofs.lemmas.List.Elements.{All-cons}
use Rattle.disk_face.specs.declared.disk.File.{File}
use Rattle.disk_face.specs.declared.disk.File.TheVariants.{Main, Log1, Log2}
use Rattle.disk_face.specs.Steps.{History, reads}
use Rattle.page_spec.specs.Header.{fields_of, page_size_in}
use Rattle.page_spec.specs.PageMap.{PageMap}
use Rattle.log_spec.specs.LogHeader.{LogFields, log_fields, header_size}
use Rattle.log_spec.specs.Accept.{Frame, page_numbers}
use Rattle.crash_spec.specs.Marks.{IsLog, other_of}
use Rattle.crash_spec.specs.Opening.{Since}
use Rattle.crash_spec.specs.Known.{known_pieces}
use Rattle.crash_spec.specs.Logs.{IsOneOf}
use Rattle.crash_spec.specs.Passes.{Passes}
use Rattle.crash_spec.specs.Store.{HoldsStore, MaySwitch}
use Rattle.crash_spec.proofs.Passing.{passes_join, passes_weaker}
use Rattle.crash_spec.proofs.Salts.{next_is_fresh}
use Rattle.opening_spec.specs.Found.{OpeningView, FoundLog, IsNextHeader, found_log, next_log, one_after, two_after}
use Rattle.opening_spec.specs.States.{IsResetting, HasReset, IsSettled, IsLastHeader, LeavesMap, header1_of, header2_of}

pub holds_store : (view : OpeningView) (told : History) (header older : LogFields) (later : PageMap) → IsSettled view header older told
    → older.generation < header.generation → 100 ≤ view.size → page_size_in (fields_of (take 100 (reads told).main)) ≡ view.size
    → HoldsStore view.opening Log1 header older [] [] [] view.size view.map later told
holds_store view told header older later s rising some sized = record {
  on = record {
    newest = s.log1.on;
    oldest = s.log2.on;
    rising = rising;
    main = λ place inside none. s.written.main place inside;
    some_size = some;
  };
  sized = sized;
  sized_later = λ more. absurd (more refl);
  is = sym s.written.bare;
  is_later = λ more. absurd (more refl);
}

-- The second log may get its header once the first one has one.
pub next_resetting : (view : OpeningView) (log : File) (header : LogFields) (one two : FoundLog) (told : History) → IsLog log → HasReset view log header one two None told
    → IsResetting view (other_of log) (one_after log one) (two_after log two) (Some header) told
next_resetting view Main header one two told is has = absurd is
next_resetting view Log1 header one two told is has = record { written = has.written; may = has.written.bare; other = has.ready }
next_resetting view Log2 header one two told is has = record { written = has.written; may = has.written.bare; other = has.ready }

pub next_header : (log : File) (one two : FoundLog) (bytes : List ℕ) → IsLog log → IsNextHeader (other_of log) (found_log (other_of log) one two) bytes
    → IsNextHeader (other_of log) (found_log (other_of log) (one_after log one) (two_after log two)) bytes
next_header Main one two bytes is next = absurd is
next_header Log1 one two bytes is next = next
next_header Log2 one two bytes is next = next

-- a log's next header is its last one then
last_is : (log : File) (has : FoundLog) (bytes : List ℕ) → IsNextHeader log has bytes → IsLastHeader (next_log has) (log_fields bytes)
last_is log has bytes next = record { salt = next.salt; few = next.risen }

pub both_settled : (view : OpeningView) (log : File) (here there : List ℕ) (one two : FoundLog) (told : History) → IsNextHeader log (found_log log one two) here → IsNextHeader (other_of log) (found_log (other_of log) one two) there
    → HasReset view (other_of log) (log_fields there) (one_after log one) (two_after log two) (Some (log_fields here)) told
    → IsSettled view (header1_of log (log_fields here) (log_fields there)) (header2_of log (log_fields here) (log_fields there)) told
both_settled view Main here there one two told next after has = absurd next.is_log
both_settled view Log1 here there one two told next after has =
    record { one = next_log one; two = next_log two; last1 = last_is Log1 one here next; last2 = last_is Log2 two there after; written = has.written; log1 = has.other; log2 = has.ready }
both_settled view Log2 here there one two told next after has =
    record { one = next_log one; two = next_log two; last1 = last_is Log1 one there after; last2 = last_is Log2 two here next; written = has.written; log1 = has.ready; log2 = has.other }

module _ (view : OpeningView) (log : File) (one two : FoundLog) (here there : List ℕ) (next : IsNextHeader log (found_log log one two) here) where
  abbrev First : History → Type 0
  First told = HasReset view log (log_fields here) one two None told

  abbrev Second : History → Type 0
  Second told = HasReset view (other_of log) (log_fields there) (one_after log one) (two_after log two) (Some (log_fields here)) told

  since_next : (told : Option History) → Since view.opening.start First told → Since view.opening.start (IsResetting view (other_of log) (one_after log one) (two_after log two) (Some (log_fields here))) told
  since_next None h = tt
  since_next (Some told) (since, is, has) = (since, is, next_resetting view log (log_fields here) one two _ next.is_log has)

  pub reset_both : IsNextHeader (other_of log) (found_log (other_of log) one two) there → (old mid new : Option History) → Passes view.opening (LeavesMap view) First old mid
      → (Since view.opening.start (IsResetting view (other_of log) (one_after log one) (two_after log two) (Some (log_fields here))) mid → Passes view.opening (LeavesMap view) Second mid new)
      → Passes view.opening (LeavesMap view) (IsSettled view (header1_of log (log_fields here) (log_fields there)) (header2_of log (log_fields here) (log_fields there))) old new
  reset_both after old mid new first second =
      passes_weaker view.opening (LeavesMap view) (LeavesMap view) Second (IsSettled view (header1_of log (log_fields here) (log_fields there)) (header2_of log (log_fields here) (log_fields there)))
      (λ told image leaves. leaves) (λ told has. both_settled view log here there one two told next after has) old new
      (passes_join view.opening (LeavesMap view) First Second old mid new first (second (since_next mid first.holds)))

  pub second_not : (old mid new : Option History) → Passes view.opening (LeavesMap view) First old mid
      → (Since view.opening.start (IsResetting view (other_of log) (one_after log one) (two_after log two) (Some (log_fields here))) mid → Passes view.opening (LeavesMap view) (λ told. Unit {0}) mid new)
      → Passes view.opening (LeavesMap view) (λ told. Unit {0}) old new
  second_not old mid new first second = passes_join view.opening (LeavesMap view) First (λ told. Unit {0}) old mid new first (second (since_next mid first.holds))

-- What a first switch asks of the files holds after an opening, once page 1 is among the frames of log 1.
pub may_switch : (view : OpeningView) (told : History) (header older : LogFields) (s : IsSettled view header older told) (frames : List Frame) (new_bytes : List ℕ) → Contains (page_numbers frames) 1 → IsNextHeader Log2 s.two new_bytes
    → MaySwitch view.opening told Log1 frames [] view.size new_bytes
may_switch view told header older s frames new_bytes first next = record {
  main = s.written.main;
  other_log = λ place inside. s.log2.sure place;
  only = s.written.log2.only;
  copied = λ number from. refl;
  page_1 = first;
  long = next.long;
  ours = next.ours;
  fresh = All-cons (IsOneOf Log2 (log_fields new_bytes) header_size []) (record { file = Log2; at = 0; bytes = new_bytes }) (known_pieces view.opening told) (λ file far salts. absurd (omega arith))
      (next_is_fresh (known_pieces view.opening told) Log2 s.two.salt s.two.most (log_fields new_bytes) s.written.log2.behind next.few next.salt);
}
