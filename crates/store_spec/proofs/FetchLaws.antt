-- A page that was read where a pin's map has it is that page.
use Rattle.std.proofs.Common.{◌≡◌, ◌∙◌, ◌⊎◌, inl, inr, ℕ, ◌+◌, ◌-◌, ◌*◌, ◌≤◌, ◌<◌, ◌==◌, if◌then◌else◌, Bool, true, false, List, [], length, take, drop, refl, sym, ap, subst, arith, Option, Some, None, get_or}
use Rattle.std.specs.Prelude.{Contains, IfSome}
use Rattle.std.proofs.lemmas.Bool.Decides.{Decides-eqb}
use Rattle.std.proofs.lemmas.List.{length-map, take_all}
use Rattle.disk_face.specs.declared.disk.File.TheVariants.{Main}
use Rattle.disk_face.specs.declared.step.Step.{Step}
use Rattle.disk_face.specs.Files.{Files, content}
use Rattle.disk_face.specs.Steps.{History, reads}
use Rattle.disk_face.specs.Told.{IsInside}
use Rattle.page_spec.specs.PageMap.{PageMap, page_at, Agree}
use Rattle.log_spec.specs.Accept.{Frame, AreThere, AreValidFrames, page_number, page_numbers}
use Rattle.log_spec.specs.Frames.{frame_place, frame_size}
use Rattle.crash_spec.specs.Opening.{grown, rebased}
use Rattle.crash_spec.specs.Recovered.{main_page, page_after_frames, overlaid}
use Rattle.crash_spec.specs.Store.{named_size}
use Rattle.crash_spec.proofs.Rebased.{rebased_reads}
use Rattle.engine_spec.specs.declared.commits.Mode.TheVariants.{Concurrent}
use Rattle.engine_spec.specs.declared.commits.Commit.{Commit}
use Rattle.engine_spec.specs.declared.pins.Pin.{Pin}
use Rattle.engine_spec.specs.declared.pins.Readers.{Readers}
use Rattle.engine_spec.specs.Good.{HasSizes}
use Rattle.engine_spec.specs.TwoLogs.{holders, readers_of, frames_of}
use Rattle.wal_frames.specs.Found.{log_file}
use Rattle.wal_index.specs.Index.{log_in}
use Rattle.wal_index.specs.Frames.{IsFrameOf, IsLastFrame}
use Rattle.log_pair.specs.Pair.{log_of, other_number, current_header}
use Rattle.log_pair.specs.Appending.{HasFrames, IsPageOf}
use Rattle.checkpoint.proofs.Stepping.{frame_inside}
use Rattle.store_spec.specs.Store.{StoreData, frames_read, current_read, other_read, newest_in, map_over, map_below, pin_map_in, since_of, two_logs, newest_told, pin_told}
use Rattle.store_spec.specs.Pins.{PinHolds, IsFront, IsOfCurrent, IsOfOther, mark_at, part_of}
use Rattle.store_spec.specs.Standing.{IsWholeStore, IsReadable, IsLiveStore, AreThereBoth, StandsOn}
use Rattle.store_spec.specs.Named.{AreNamed}
use Rattle.store_spec.specs.Reading.{current_pages, other_pages, FindsBelow, FindsOver, FindsIn, FindsPage, IsFetched, named_by_pin, PinIsNamed}
use Rattle.store_spec.proofs.Reading.{no_frame, last_frame, page_of_overlaid}
use Rattle.store_spec.proofs.Taken.{counted_log, other_which}
use Rattle.store_spec.proofs.PinLaws.{is_counted, holders_are}

-- what is known of a log by what reads give
record IsReadLog (kept : StoreData) (log : ℕ) (files : Files) : Type 0 where
  valid : AreValidFrames (log_of kept.pair log).header (log_of kept.pair log).header.sum (frames_read kept.pair log files)
  there : AreThere (content files (log_file log)) (frames_read kept.pair log files)
  pages : page_numbers (frames_read kept.pair log files) ≡ (log_in kept.index log).pages

both_read : (told : History) (kept : StoreData) (readers : Readers) (pins : List Pin) → IsLiveStore (Some told) kept readers pins
    → IsReadLog kept kept.pair.current (reads told) × IsReadLog kept (other_number kept.pair.current) (reads told)
both_read told kept readers pins live = by live.opened.0 live.opened.1 (there live.opened.2)
  where
    there : StandsOn live.opening kept (rebased live.opening.start live.opened.0) → AreThereBoth kept (rebased live.opening.start live.opened.0)
    there (inl on) = on.there
    there (inr torn) = torn.there

    by : (since : List Step) → told ≡ grown since live.opening.start → AreThereBoth kept (rebased live.opening.start since)
        → IsReadLog kept kept.pair.current (reads told) × IsReadLog kept (other_number kept.pair.current) (reads told)
    by since is there =
        let same : reads (rebased live.opening.start since) ≡ reads told = sym (rebased_reads live.opening.start since) ∙ ap reads (sym is) in (
          subst (λ (files : Files). IsReadLog kept kept.pair.current files) same
              (record { valid = there.current.0; there = there.current.1; pages = there.current_pages }),
          subst (λ (files : Files). IsReadLog kept (other_number kept.pair.current) files) same
              (record { valid = there.other.0; there = there.other.1; pages = there.other_pages }),
        )

-- a log's frames as the index has them
module _ (kept : StoreData) (log : ℕ) (told : History) (is : IsReadLog kept log (reads told)) (page : ℕ) where
  abbrev frames : List Frame
  frames = frames_read kept.pair log (reads told)

  counted : length (log_in kept.index log).pages ≡ length (frames_read kept.pair log (reads told))
  counted = sym (ap (λ (pages : List ℕ). length pages) is.pages) ∙ length-map (frames_read kept.pair log (reads told)) page_number

  last_here : (mark frame : ℕ) (bytes below : List ℕ) → IsLastFrame (log_in kept.index log).pages page mark frame
      → ((fs : List Frame) → frame ≤ length fs → HasFrames (Some told) (log_file log) (log_of kept.pair log).header fs → IsPageOf (Some told) fs frame bytes)
      → bytes ≡ page_after_frames (take mark frames) page below
  last_here mark frame bytes below last fetched =
      let there = last.is.there in
      last_frame told frames page mark frame bytes below (subst (λ (pages : List ℕ). IsLastFrame pages page mark frame) (sym is.pages) last)
      (fetched frames (omega (arith, there, counted)) (is.valid, is.there))

  all_here : (frame : ℕ) (bytes below : List ℕ) → IsLastFrame (log_in kept.index log).pages page (length (log_in kept.index log).pages) frame
      → ((fs : List Frame) → frame ≤ length fs → HasFrames (Some told) (log_file log) (log_of kept.pair log).header fs → IsPageOf (Some told) fs frame bytes)
      → bytes ≡ page_after_frames frames page below
  all_here frame bytes below last fetched =
      last_here (length (log_in kept.index log).pages) frame bytes below last fetched
      ∙ ap (λ (fs : List Frame). page_after_frames fs page below) (take_all (length (log_in kept.index log).pages) frames (omega (arith, counted)))

  none_here : (mark : ℕ) (below : List ℕ) → ((other : ℕ) → other ≤ mark → IsFrameOf (log_in kept.index log).pages page other → ⊥)
      → page_after_frames (take mark frames) page below ≡ below
  none_here mark below none =
      no_frame frames page mark below
      (λ other marked of. none other marked (subst (λ (pages : List ℕ). IsFrameOf pages page other) is.pages of))

  none_at_all : (below : List ℕ) → ((other : ℕ) → other ≤ length (log_in kept.index log).pages → IsFrameOf (log_in kept.index log).pages page other → ⊥)
      → page_after_frames frames page below ≡ below
  none_at_all below none =
      sym (ap (λ (fs : List Frame). page_after_frames fs page below) (take_all (length (log_in kept.index log).pages) frames (omega (arith, counted))))
      ∙ none_here (length (log_in kept.index log).pages) below none

-- what was read of Main
main_here : (size page : ℕ) (main bytes : List ℕ) → bytes ≡ take (length bytes) (drop ((page - 1) * size) main) → length bytes ≡ size → bytes ≡ main_page size main page
main_here size page main bytes read long = read ∙ ap (λ (n : ℕ). take n (drop ((page - 1) * size) main)) long

module _ (told : History) (kept : StoreData) (one : IsReadLog kept kept.pair.current (reads told)) (other : IsReadLog kept (other_number kept.pair.current) (reads told))
    (mark page : ℕ) (from : 1 ≤ page) (bytes : List ℕ) where
  -- over the other log
  over_fetched : (found : Option (ℕ × ℕ)) → named_size (reads told).main (other_read kept.pair (reads told)) (take mark (current_read kept.pair (reads told))) ≡ kept.page_size
      → page ≤ length (map_over kept.pair mark (reads told)) → FindsOver kept mark page found → IsFetched (Some told) kept page found bytes
      → bytes ≡ page_at (map_over kept.pair mark (reads told)) page
  over_fetched found named within finds fetched =
      by found finds fetched
      ∙ sym (page_of_overlaid kept.page_size (reads told).main (other_read kept.pair (reads told)) (take mark (current_read kept.pair (reads told))) page named from within)
    where
      main : List ℕ
      main = main_page kept.page_size (reads told).main page

      by : (found : Option (ℕ × ℕ)) → FindsOver kept mark page found → IsFetched (Some told) kept page found bytes
          → bytes ≡ page_after_frames (take mark (current_read kept.pair (reads told))) page
          (page_after_frames (other_read kept.pair (reads told)) page (main_page kept.page_size (reads told).main page))
      by None (none, neither) (read, long) =
          main_here kept.page_size page (reads told).main bytes read long
          ∙ sym (none_here kept kept.pair.current told one page mark (page_after_frames (other_read kept.pair (reads told)) page main) none
          ∙ none_at_all kept (other_number kept.pair.current) told other page main neither)
      by (Some (log, frame)) (inl (is, last)) fetched =
          last_here kept kept.pair.current told one page mark frame bytes (page_after_frames (other_read kept.pair (reads told)) page main) last
          (subst (λ (n : ℕ). (fs : List Frame) → frame ≤ length fs → HasFrames (Some told) (log_file n) (log_of kept.pair n).header fs → IsPageOf (Some told) fs frame bytes) is fetched)
      by (Some (log, frame)) (inr (none, is, last)) fetched =
          all_here kept (other_number kept.pair.current) told other page frame bytes main last
          (subst (λ (n : ℕ). (fs : List Frame) → frame ≤ length fs → HasFrames (Some told) (log_file n) (log_of kept.pair n).header fs → IsPageOf (Some told) fs frame bytes) is fetched)
          ∙ sym (none_here kept kept.pair.current told one page mark (page_after_frames (other_read kept.pair (reads told)) page main) none)

  -- on the other log alone
  below_fetched : (found : Option (ℕ × ℕ)) → named_size (reads told).main [] (take mark (other_read kept.pair (reads told))) ≡ kept.page_size
      → page ≤ length (map_below kept.pair mark (reads told)) → FindsBelow kept mark page found → IsFetched (Some told) kept page found bytes
      → bytes ≡ page_at (map_below kept.pair mark (reads told)) page
  below_fetched found named within finds fetched =
      by found finds fetched ∙ sym (page_of_overlaid kept.page_size (reads told).main [] (take mark (other_read kept.pair (reads told))) page named from within)
    where
      main : List ℕ
      main = main_page kept.page_size (reads told).main page

      by : (found : Option (ℕ × ℕ)) → FindsBelow kept mark page found → IsFetched (Some told) kept page found bytes
          → bytes ≡ page_after_frames (take mark (other_read kept.pair (reads told))) page (main_page kept.page_size (reads told).main page)
      by None none (read, long) =
          main_here kept.page_size page (reads told).main bytes read long ∙ sym (none_here kept (other_number kept.pair.current) told other page mark main none)
      by (Some (log, frame)) (is, last) fetched =
          last_here kept (other_number kept.pair.current) told other page mark frame bytes main last
          (subst (λ (n : ℕ). (fs : List Frame) → frame ≤ length fs → HasFrames (Some told) (log_file n) (log_of kept.pair n).header fs → IsPageOf (Some told) fs frame bytes) is fetched)

-- the bytes that were fetched are the page of a pin's map
pin_fetched : (told : History) (kept : StoreData) (pin : Pin) (page : ℕ) (found : Option (ℕ × ℕ)) (bytes : List ℕ)
    → IsReadLog kept kept.pair.current (reads told) → IsReadLog kept (other_number kept.pair.current) (reads told)
    → PinIsNamed (Some told) kept pin → 1 ≤ page → page ≤ length (pin_map_in kept.pair pin (reads told)) → FindsPage kept pin page found → IsFetched (Some told) kept page found bytes
    → bytes ≡ page_at (pin_map_in kept.pair pin (reads told)) page
pin_fetched told kept pin page found bytes one other named from within finds fetched = by (pin.generation == (current_header kept.pair).generation) named within finds
  where
    by : (b : Bool)
        → (if b then named_size (reads told).main (other_read kept.pair (reads told)) (take pin.mark (current_read kept.pair (reads told)))
        else named_size (reads told).main [] (take pin.mark (other_read kept.pair (reads told)))) ≡ kept.page_size
        → page ≤ length (if b then map_over kept.pair pin.mark (reads told) else map_below kept.pair pin.mark (reads told))
        → FindsIn kept pin.mark page found b
        → bytes ≡ page_at (if b then map_over kept.pair pin.mark (reads told) else map_below kept.pair pin.mark (reads told)) page
    by true named within finds = over_fetched told kept one other pin.mark page from bytes found named within finds fetched
    by false named within finds = below_fetched told kept one other pin.mark page from bytes found named within finds fetched

-- What was read where a pin's map has the page is the page.
pub fetched : (told : Option History) (kept : StoreData) (readers : Readers) (pins : List Pin) (pin : Pin) (page : ℕ) (found : Option (ℕ × ℕ)) (bytes : List ℕ)
    → IsLiveStore told kept readers pins → PinHolds told kept pin → PinIsNamed told kept pin → 1 ≤ page → page ≤ pin.size → FindsPage kept pin page found
    → IsFetched told kept page found bytes → IfSome (pin_told kept told pin) (λ pages. bytes ≡ page_at pages page)
fetched None kept readers pins pin page found bytes live holds named from within finds has = tt
fetched (Some told) kept readers pins pin page found bytes live holds named from within finds has =
    let both = both_read told kept readers pins live in
    let sizes : HasSizes (pin_map_in kept.pair pin (reads told)) pin.size kept.page_size = holds.sizes in
    pin_fetched told kept pin page found bytes both.0 both.1 named from (omega (arith, within, sizes.count)) finds has

-- each pin of a live store names the page size
pub pin_named : (told : Option History) (kept : StoreData) (readers : Readers) (pins : List Pin) (place : ℕ) (default : Pin) → IsLiveStore told kept readers pins
    → AreNamed told kept readers → place < length pins → PinIsNamed told kept (get_or pins place default)
pin_named None kept readers pins place default live named within = tt
pin_named (Some told) kept readers pins place default live named within = by (live.hold place default within).place
  where
    pin : Pin
    pin = get_or pins place default

    over : ℕ → ℕ
    over mark = named_size (reads told).main (other_read kept.pair (reads told)) (take mark (current_read kept.pair (reads told)))

    below : ℕ → ℕ
    below mark = named_size (reads told).main [] (take mark (other_read kept.pair (reads told)))

    by : IsOfCurrent kept (get_or pins place default) ⊎ IsOfOther kept (get_or pins place default)
        → named_by_pin kept (get_or pins place default) (reads told) ≡ kept.page_size
    by (inl of) =
        ap (λ (b : Bool). if b then over pin.mark else below pin.mark) ((Decides-eqb pin.generation (current_header kept.pair).generation).1 of.generation)
        ∙ ap over of.mark ∙ named.fronts pin.n of.front
    by (inr of) = apart (pin.generation == (current_header kept.pair).generation) (Decides-eqb pin.generation (current_header kept.pair).generation).0
      where
        some : 0 < holders (two_logs kept) readers
        some =
            let held : 0 < readers_of readers (part_of (other_number kept.pair.current)) =
            is_counted readers pins (part_of (other_number kept.pair.current)) place default live.counted within of.lock in
            omega (arith, held, holders_are kept readers live.whole)

        apart : (b : Bool) → (b ≡ true → pin.generation ≡ (current_header kept.pair).generation) → (if b then over pin.mark else below pin.mark) ≡ kept.page_size
        apart true same = absurd (omega (arith, same refl, of.generation))
        apart false same = ap below of.mark ∙ named.older some pin.n of.front

-- The same of the newest map, with all frames of the current log.
pub fetched_newest : (told : Option History) (kept : StoreData) (readers : Readers) (pins : List Pin) (page : ℕ) (found : Option (ℕ × ℕ)) (bytes : List ℕ)
    → IsLiveStore told kept readers pins → AreNamed told kept readers → 1 ≤ page → page ≤ kept.size → FindsOver kept (length (current_pages kept)) page found
    → IsFetched told kept page found bytes → IfSome (newest_told kept told) (λ pages. bytes ≡ page_at pages page)
fetched_newest None kept readers pins page found bytes live named from within finds fetched = tt
fetched_newest (Some told) kept readers pins page found bytes live named from within finds fetched =
    let sizes : HasSizes (newest_in kept.pair (reads told)) kept.size kept.page_size = live.sizes in
    over_fetched told kept both.0 both.1 (length (current_pages kept)) page from bytes found named_all
    (omega (arith, within, sizes.count, ap (λ (pages : PageMap). length pages) same)) finds fetched
    ∙ ap (λ (pages : PageMap). page_at pages page) same
  where
    both : IsReadLog kept kept.pair.current (reads told) × IsReadLog kept (other_number kept.pair.current) (reads told)
    both = both_read told kept readers pins live

    same : map_over kept.pair (length (current_pages kept)) (reads told) ≡ newest_in kept.pair (reads told)
    same =
        ap (λ (fs : List Frame). overlaid (reads told).main (other_read kept.pair (reads told)) fs)
        (take_all (length (current_pages kept)) (current_read kept.pair (reads told)) (omega (arith, counted kept kept.pair.current told both.0 page)))

    front : IsFront kept (length kept.history)
    front = record { least = live.whole.index.are.since; most = omega arith; held = inr (inr refl) }

    mark : mark_at kept.history (since_of kept) (length kept.history) ≡ length (current_pages kept)
    mark =
        ap (λ (commits : List Commit). length (frames_of (drop (since_of kept) commits))) (take_all (length kept.history) kept.history (omega arith))
        ∙ sym (ap (λ (pages : List ℕ). length pages) live.whole.index.current.pages)

    named_all : named_size (reads told).main (other_read kept.pair (reads told)) (take (length (current_pages kept)) (current_read kept.pair (reads told))) ≡ kept.page_size
    named_all =
        subst (λ (n : ℕ). named_size (reads told).main (other_read kept.pair (reads told)) (take n (current_read kept.pair (reads told))) ≡ kept.page_size) mark
        (named.fronts (length kept.history) front)

-- A frame that was found is one of its log, and lies inside the log's file.
found_in : (told : Option History) (kept : StoreData) (log page mark frame : ℕ) → IsWholeStore kept → IsReadable kept told → (log ≡ 1) ⊎ (log ≡ 2)
    → IsLastFrame (log_in kept.index log).pages page mark frame
    → ((log ≡ 1) ⊎ (log ≡ 2)) × ((1 ≤ frame) × (frame ≤ (log_of kept.pair log).frames))
    × IsInside told (log_file log) (frame_place (log_of kept.pair log).header (frame - 1)) (frame_size (log_of kept.pair log).header)
found_in told kept log page mark frame whole readable which last = (which, (last.is.counted, within), inside which)
  where
    within : frame ≤ (log_of kept.pair log).frames
    within = let there = last.is.there in omega (arith, there, (counted_log kept whole log which).counted)

    inside : (log ≡ 1) ⊎ (log ≡ 2) → IsInside told (log_file log) (frame_place (log_of kept.pair log).header (frame - 1)) (frame_size (log_of kept.pair log).header)
    inside which =
        frame_inside told (log_file log) (log_of kept.pair log).header (log_of kept.pair log).frames frame last.is.counted within
        (elim which [
          | inl one ↦
              subst (λ (n : ℕ). IsInside told (log_file n) (frame_place (log_of kept.pair n).header (log_of kept.pair n).frames) 0) (sym one) readable.log1
          | inr two ↦
              subst (λ (n : ℕ). IsInside told (log_file n) (frame_place (log_of kept.pair n).header (log_of kept.pair n).frames) 0) (sym two) readable.log2
        ])

abbrev pub IsReachedFrame : Option History → StoreData → (log frame : ℕ) → Type 0
IsReachedFrame told kept log frame =
    ((log ≡ 1) ⊎ (log ≡ 2)) × ((1 ≤ frame) × (frame ≤ (log_of kept.pair log).frames))
    × IsInside told (log_file log) (frame_place (log_of kept.pair log).header (frame - 1)) (frame_size (log_of kept.pair log).header)

pub over_reached : (told : Option History) (kept : StoreData) (mark page log frame : ℕ) → IsWholeStore kept → IsReadable kept told → FindsOver kept mark page (Some (log, frame))
    → IsReachedFrame told kept log frame
over_reached told kept mark page log frame whole readable (inl (is, last)) =
    subst (λ (n : ℕ). IsReachedFrame told kept n frame) (sym is)
    (found_in told kept kept.pair.current page mark frame whole readable whole.pair.which last)
over_reached told kept mark page log frame whole readable (inr (none, is, last)) =
    subst (λ (n : ℕ). IsReachedFrame told kept n frame) (sym is)
    (found_in told kept (other_number kept.pair.current) page (length (other_pages kept)) frame whole readable (other_which kept whole) last)

pub found_reached : (told : Option History) (kept : StoreData) (pin : Pin) (page log frame : ℕ) → IsWholeStore kept → IsReadable kept told → FindsPage kept pin page (Some (log, frame))
    → IsReachedFrame told kept log frame
found_reached told kept pin page log frame whole readable finds = by (pin.generation == (current_header kept.pair).generation) finds
  where
    by : (b : Bool) → FindsIn kept pin.mark page (Some (log, frame)) b → IsReachedFrame told kept log frame
    by true finds = over_reached told kept pin.mark page log frame whole readable finds
    by false (is, last) =
        subst (λ (n : ℕ). IsReachedFrame told kept n frame) (sym is)
        (found_in told kept (other_number kept.pair.current) page pin.mark frame whole readable (other_which kept whole) last)

-- A page of Main up to the newest map's last one lies inside the file; and a pin's map has no page that the newest one hasn't.
pub main_reached : (told : Option History) (kept : StoreData) (page : ℕ) → IsReadable kept told → 1 ≤ page → page ≤ kept.size → IsInside told Main ((page - 1) * kept.page_size) kept.page_size
main_reached None kept page readable from within = tt
main_reached (Some told) kept page readable from within =
    let long : kept.size * kept.page_size + 0 ≤ length (reads told).main = readable.main in
    omega (arith, long, up kept.page_size page kept.size from within)
  where
    up : (size page count : ℕ) → 1 ≤ page → page ≤ count → (page - 1) * size + size ≤ count * size
    up size page count from within = below size (page - 1) count (omega arith)
      where
        below : (size before count : ℕ) → before + 1 ≤ count → before * size + size ≤ count * size
        below size before count less = grind arith

no_longer : (told : History) (kept : StoreData) (readers : Readers) (pins : List Pin) (pin : Pin) → IsLiveStore (Some told) kept readers pins → PinHolds (Some told) kept pin → pin.size ≤ kept.size
no_longer told kept readers pins pin live holds =
    let sizes : HasSizes (pin_map_in kept.pair pin (reads told)) pin.size kept.page_size = holds.sizes in
    let newest : HasSizes (newest_in kept.pair (reads told)) kept.size kept.page_size = live.sizes in
    let agree : Agree (pin_map_in kept.pair pin (reads told)) (newest_in kept.pair (reads told)) [] =
    holds.agrees Concurrent [] (λ q held. absurd (nothing q held)) (λ plain. absurd cc) in
    omega (arith, sizes.count, newest.count, agree.no_shorter)
  where
    nothing : (q : ℕ) → Contains [] q → ⊥
    nothing q held = let less = held.1 in omega arith

pub pin_reached : (told : Option History) (kept : StoreData) (readers : Readers) (pins : List Pin) (pin : Pin) (page : ℕ) → IsLiveStore told kept readers pins → PinHolds told kept pin
    → 1 ≤ page → page ≤ pin.size → IsInside told Main ((page - 1) * kept.page_size) kept.page_size
pin_reached None kept readers pins pin page live holds from within = tt
pin_reached (Some told) kept readers pins pin page live holds from within =
    main_reached (Some told) kept page live.readable from (omega (arith, within, no_longer told kept readers pins pin live holds))
