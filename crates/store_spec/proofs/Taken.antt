-- What a step of a checkpoint did, by its answer: nothing, or one step of the disk.
use Rattle.std.proofs.Common.{◌≡◌, ◌∙◌, ◌⊎◌, inl, inr, ℕ, zero, suc, ◌+◌, ◌-◌, ◌*◌, ◌≤◌, ◌<◌, ◌==◌, if◌then◌else◌, Bool, true, false, List, [], ◌∷◌, length, refl, sym, ap, subst, arith, length-drop, mul-le-mul_right, Option, Some}
use Rattle.std.specs.Prelude.{Contains, IfSome, slice_get, Result, Ok, Err}
use Rattle.std.proofs.lemmas.List.{length-map}
use Rattle.std.proofs.lemmas.List.Elements.{All-get_or}
use Rattle.disk_face.specs.declared.Failed.{Failed}
use Rattle.disk_face.specs.declared.disk.File.TheVariants.{Main}
use Rattle.disk_face.specs.declared.step.Step.{Step}
use Rattle.disk_face.specs.declared.step.Step.TheVariants.{Wrote, Refused, Synced}
use Rattle.disk_face.specs.Files.{Files, content}
use Rattle.disk_face.specs.Steps.{History, reads, after}
use Rattle.log_spec.specs.Checksum.{Sum}
use Rattle.log_spec.specs.LogHeader.{LogFields}
use Rattle.log_spec.specs.Accept.{Frame, AreThere, AreValidFrames, sum_after, page_number, page_of, page_numbers}
use Rattle.crash_spec.specs.Opening.{Opening, grown, rebased}
use Rattle.crash_spec.specs.Recovered.{page_after_frames}
use Rattle.crash_spec.proofs.Rebased.{rebased_reads}
use Rattle.engine_spec.specs.declared.pins.Pin.{Pin}
use Rattle.engine_spec.specs.declared.pins.Ckpt.{Ckpt}
use Rattle.engine_spec.specs.declared.pins.Ckpt.TheVariants.{Copied, Finished, Idle, Held}
use Rattle.engine_spec.specs.declared.pins.Readers.{Readers}
use Rattle.wal_frames.specs.Found.{log_file}
use Rattle.wal_index.specs.Index.{log_in}
use Rattle.wal_index.specs.Frames.{IsLastFrame, IsNextPage}
use Rattle.wal_rules.specs.declared.state.LogState.{LogState}
use Rattle.log_pair.specs.Pair.{log_of, other_number}
use Rattle.log_pair.specs.Appending.{HasFrames, IsPageOf}
use Rattle.log_pair.specs.Switch.{other_file}
use Rattle.checkpoint.specs.Steps.{log_behind, pages_behind, readers_behind, page_piece, CopiesPage, DoesStep, FailsIn}
use Rattle.store_spec.specs.Store.{StoreData, other_read}
use Rattle.store_spec.specs.Standing.{IsWholeStore, IsCountedLog, IsLiveStore, AreThereBoth, StandsOn}
use Rattle.store_spec.specs.Steps.{HasTakenStep}
use Rattle.store_spec.proofs.Reading.{last_of_all}
use Rattle.store_spec.proofs.Copied.{StepsOn, IsCopyable, steps_copied, steps_refused, steps_synced}

-- the log behind, by the state and by the pair
pub behind_is : (kept : StoreData) → IsWholeStore kept → log_behind kept.state ≡ other_number kept.pair.current
behind_is kept whole =
    elim whole.pair.which [
      | inl one ↦ ap (λ (n : ℕ). 3 - n) (whole.current ∙ one) ∙ sym (ap other_number one)
      | inr two ↦ ap (λ (n : ℕ). 3 - n) (whole.current ∙ two) ∙ sym (ap other_number two)
    ]

pub pages_are : (kept : StoreData) → IsWholeStore kept → pages_behind kept.index kept.state ≡ (log_in kept.index (other_number kept.pair.current)).pages
pages_are kept whole = ap (λ (log : ℕ). (log_in kept.index log).pages) (behind_is kept whole)

-- both logs have pages of the store's size
pub size_of_log : (kept : StoreData) → IsWholeStore kept → (log : ℕ) → (log_of kept.pair log).header.page_size ≡ kept.page_size
size_of_log kept whole log = by (log == 1) ∙ sym (by (kept.pair.current == 1)) ∙ whole.page_size
  where
    by : (first : Bool) → (if first then kept.pair.one else kept.pair.two).header.page_size ≡ kept.pair.one.header.page_size
    by true = refl
    by false = whole.pair.same_size

-- and are counted by the index
pub counted_log : (kept : StoreData) → IsWholeStore kept → (log : ℕ) → (log ≡ 1) ⊎ (log ≡ 2) → IsCountedLog kept log
counted_log kept whole log (inl one) = subst (λ (n : ℕ). IsCountedLog kept n) (sym one) whole.log1
counted_log kept whole log (inr two) = subst (λ (n : ℕ). IsCountedLog kept n) (sym two) whole.log2

pub other_which : (kept : StoreData) → IsWholeStore kept → (other_number kept.pair.current ≡ 1) ⊎ (other_number kept.pair.current ≡ 2)
other_which kept whole =
    elim whole.pair.which [
      | inl one ↦ inr (ap other_number one)
      | inr two ↦ inl (ap other_number two)
    ]

-- what is known of the other log and of Main by what reads give
record Base (kept : StoreData) (files : Files) : Type 0 where
  valid : AreValidFrames (log_of kept.pair (other_number kept.pair.current)).header (log_of kept.pair (other_number kept.pair.current)).header.sum (other_read kept.pair files)
  there : AreThere (content files (other_file kept.pair)) (other_read kept.pair files)
  pages : page_numbers (other_read kept.pair files) ≡ (log_in kept.index (other_number kept.pair.current)).pages
  reach : kept.size * kept.page_size ≤ length files.main

both_there : (opening : Opening) (kept : StoreData) (told : History) → StandsOn opening kept told → AreThereBoth kept told
both_there opening kept told (inl on) = on.there
both_there opening kept told (inr torn) = torn.there

base : (told : History) (kept : StoreData) (readers : Readers) (pins : List Pin) → IsLiveStore (Some told) kept readers pins → Base kept (reads told)
base told kept readers pins live = by live.opened.0 live.opened.1 (both_there live.opening kept (rebased live.opening.start live.opened.0) live.opened.2)
  where
    by : (since : List Step) → told ≡ grown since live.opening.start → AreThereBoth kept (rebased live.opening.start since) → Base kept (reads told)
    by since is there =
        let same : reads (rebased live.opening.start since) ≡ reads told = sym (rebased_reads live.opening.start since) ∙ ap reads (sym is) in
        let main = live.readable.main in
        record {
          valid = (subst (λ (files : Files). AreValidFrames (log_of kept.pair (other_number kept.pair.current)).header (log_of kept.pair (other_number kept.pair.current)).header.sum (other_read kept.pair files)) same there.other.0);
          there = (subst (λ (files : Files). AreThere (content files (other_file kept.pair)) (other_read kept.pair files)) same there.other.1);
          pages = (subst (λ (files : Files). page_numbers (other_read kept.pair files) ≡ (log_in kept.index (other_number kept.pair.current)).pages) same there.other_pages);
          reach = omega (arith, main);
        }

-- the page of a valid frame has the page size
page_long : (header : LogFields) (sum : Sum) (frames : List Frame) (place : ℕ) (bytes : List ℕ) → AreValidFrames header sum frames → place < length frames
    → IfSome (slice_get frames place) (λ frame. bytes ≡ page_of frame) → length bytes ≡ header.page_size
page_long header sum [] place bytes valid within is = absurd (omega arith)
page_long header sum (frame ∷ rest) zero bytes valid within is =
    let whole = valid.0.whole in
    ap (λ (xs : List ℕ). length xs) is ∙ length-drop 24 frame ∙ omega arith
page_long header sum (frame ∷ rest) (suc place) bytes valid within is = page_long header (sum_after header sum frame) rest place bytes valid.1 (omega arith) is

page_end : (number size : ℕ) → 1 ≤ number → (number - 1) * size + size ≡ number * size
page_end zero size some = absurd (omega arith)
page_end (suc number) size some = by number (suc number - 1) (omega arith)
  where
    by : (n m : ℕ) → m ≡ n → m * size + size ≡ suc n * size
    by n m is = ap (λ (k : ℕ). k * size + size) is ∙ grind arith

-- Nothing changed; or nobody held what a copy would change, and the disk made one step.
pub data Taken (kept : StoreData) (readers : Readers) (state : LogState) (old new : Option History) : Type 0 where
  Stays : state ≡ kept.state → new ≡ old → Taken kept readers state old new
  Goes : (step : Step) → new ≡ after step old → kept.state.done ≡ false → readers_behind kept.state readers ≡ 0 → state.current ≡ kept.state.current
      → ((told here : History) → old ≡ Some told → reads here ≡ reads told → StepsOn kept state here step) → Taken kept readers state old new

module _ (kept : StoreData) (readers : Readers) (pins : List Pin) where
  -- the next page of the other log may be copied
  copyable : (told here : History) (page : ℕ) → IsLiveStore (Some told) kept readers pins → reads here ≡ reads told → kept.state.done ≡ false
      → IsNextPage (pages_behind kept.index kept.state) kept.state.copied page → IsCopyable kept (reads here) page
  copyable told here page live same unfinished next =
      subst (λ (files : Files). IsCopyable kept files page) (sym same) (record {
        unfinished = unfinished;
        next = subst (λ (pages : List ℕ). IsNextPage pages kept.state.copied page) listed next;
        some = let usable = live.whole.usable in omega (arith, usable.0, usable.1);
        reached = (let whole = reach page (omega (arith, inside.0)) inside.1 b.reach in omega (arith, whole));
        inside = reach page (omega (arith, inside.0)) inside.1 b.reach;
      })
    where
      b : Base kept (reads told)
      b = base told kept readers pins live

      listed : pages_behind kept.index kept.state ≡ page_numbers (other_read kept.pair (reads told))
      listed = pages_are kept live.whole ∙ sym b.pages

      held : Contains (log_in kept.index (other_number kept.pair.current)).pages page
      held = subst (λ (pages : List ℕ). Contains pages page) (pages_are kept live.whole) next.there

      inside : (1 ≤ page) × (page ≤ kept.size)
      inside =
          subst (λ (n : ℕ). (1 ≤ n) × (n ≤ kept.size)) held.2
          (All-get_or (λ (n : ℕ). (1 ≤ n) × (n ≤ kept.size)) (log_in kept.index (other_number kept.pair.current)).pages held.0 page held.1
          (counted_log kept live.whole (other_number kept.pair.current) (other_which kept live.whole)).pages)

      reach : (page : ℕ) → 1 ≤ page → page ≤ kept.size → kept.size * kept.page_size ≤ length (reads told).main
          → (page - 1) * kept.page_size + kept.page_size ≤ length (reads told).main
      reach page from within long =
          let low : page * kept.page_size ≤ kept.size * kept.page_size = mul-le-mul_right kept.page_size within in
          omega (arith, low, long, page_end page kept.page_size from)

  -- the page was copied
  copies : (told here : History) (page : ℕ) (bytes : List ℕ) (new : Option History) → IsLiveStore (Some told) kept readers pins → reads here ≡ reads told → kept.state.done ≡ false
      → IsNextPage (pages_behind kept.index kept.state) kept.state.copied page
      → CopiesPage (log_behind kept.state) (log_of kept.pair (log_behind kept.state)) (pages_behind kept.index kept.state) page bytes (Some told) new
      → StepsOn kept (record kept.state { copied = page }) here (Wrote (page_piece page (length bytes) bytes))
  copies told here page bytes new live same unfinished next does =
      subst (λ (n : ℕ). StepsOn kept (record kept.state { copied = page }) here (Wrote (page_piece page n bytes))) (sym long)
      (steps_copied kept here page (copyable told here page live same unfinished next) bytes long
      (λ below. subst (λ (files : Files). page_after_frames (other_read kept.pair files) page below ≡ bytes) (sym same)
      (sym (last_of_all told frames page does.frame bytes below last is_page))))
    where
      b : Base kept (reads told)
      b = base told kept readers pins live

      frames : List Frame
      frames = other_read kept.pair (reads told)

      listed : pages_behind kept.index kept.state ≡ page_numbers frames
      listed = pages_are kept live.whole ∙ sym b.pages

      counted : length (page_numbers frames) ≡ length frames
      counted = length-map frames page_number

      last : IsLastFrame (page_numbers frames) page (length frames) does.frame
      last =
          subst (λ (n : ℕ). IsLastFrame (page_numbers frames) page n does.frame) counted
          (subst (λ (pages : List ℕ). IsLastFrame pages page (length pages) does.frame) listed does.last)

      has : HasFrames (Some told) (log_file (other_number kept.pair.current)) (log_of kept.pair (other_number kept.pair.current)).header frames
      has = (b.valid, b.there)

      is_page : IsPageOf (Some told) frames does.frame bytes
      is_page =
          let there : does.frame ≤ length (page_numbers frames) = last.is.there in
          does.copied frames (omega (arith, counted, there))
          (subst (λ (log : ℕ). HasFrames (Some told) (log_file log) (log_of kept.pair log).header frames) (sym (behind_is kept live.whole)) has)

      long : length bytes ≡ kept.page_size
      long =
          let there : does.frame ≤ length (page_numbers frames) = last.is.there in
          let some : 1 ≤ does.frame = last.is.counted in
          page_long (log_of kept.pair (other_number kept.pair.current)).header (log_of kept.pair (other_number kept.pair.current)).header.sum frames (does.frame - 1) bytes b.valid
          (omega (arith, counted, there, some)) is_page
          ∙ size_of_log kept live.whole (other_number kept.pair.current)

  -- by the answer
  by_answer : (answer : Ckpt) (state : LogState) (bytes : List ℕ) (old new : Option History) → IsLiveStore old kept readers pins
      → DoesStep kept.pair (pages_behind kept.index kept.state) kept.state readers answer state bytes old new → Taken kept readers state old new
  by_answer Idle state bytes old new live does = Stays does.1 does.2
  by_answer (Held count) state bytes old new live does = Stays does.3 does.4
  by_answer (Copied page) state bytes old new live does =
      Goes (Wrote (page_piece page (length bytes) bytes)) does.4.written does.0 does.1 (ap (λ (s : LogState). s.current) does.3) (λ told here is same.
      subst (λ (s : LogState). StepsOn kept s here (Wrote (page_piece page (length bytes) bytes))) (sym does.3)
      (copies told here page bytes new (subst (λ (o : Option History). IsLiveStore o kept readers pins) is live) same does.0 does.2
      (subst (λ (o : Option History). CopiesPage (log_behind kept.state) (log_of kept.pair (log_behind kept.state)) (pages_behind kept.index kept.state) page bytes o new) is does.4)))
  by_answer Finished state bytes old new live does =
      Goes (Synced Main) does.4 does.0 does.1 (ap (λ (s : LogState). s.current) does.3) (λ told here is same.
      let now : IsLiveStore (Some told) kept readers pins = subst (λ (o : Option History). IsLiveStore o kept readers pins) is live in
      let listed : pages_behind kept.index kept.state ≡ page_numbers (other_read kept.pair (reads here)) =
      pages_are kept live.whole ∙ sym (base told kept readers pins now).pages ∙ sym (ap (λ (files : Files). page_numbers (other_read kept.pair files)) same) in
      subst (λ (s : LogState). StepsOn kept s here (Synced Main)) (sym does.3)
      (steps_synced kept here does.0 (λ page held. does.2 page (subst (λ (pages : List ℕ). Contains pages page) (sym listed) held))))

  -- where it failed
  by_failure : (state : LogState) (old new : Option History) → IsLiveStore old kept readers pins → state ≡ kept.state
      → FailsIn (pages_behind kept.index kept.state) kept.state kept.page_size old new
      → (kept.state.done ≡ false) × (readers_behind kept.state readers ≡ 0) → Taken kept readers state old new
  by_failure state old new live is (inl still) unheld = Stays is still
  by_failure state old new live is (inr (page, next, tried, long, inl still)) unheld = Stays is still
  by_failure state old new live is (inr (page, next, tried, long, inr (left, within, refused))) unheld =
      Goes (Refused (page_piece page kept.page_size tried) left) refused unheld.0 unheld.1 (ap (λ (s : LogState). s.current) is) (λ told here at same.
      subst (λ (s : LogState). StepsOn kept s here (Refused (page_piece page kept.page_size tried) left)) (sym is)
      (steps_refused kept here page (copyable told here page (subst (λ (o : Option History). IsLiveStore o kept readers pins) at live) same unheld.0 next) tried left long within))

  pub taken : (result : Result Ckpt Failed) (state : LogState) (old new : Option History) → IsLiveStore old kept readers pins
      → HasTakenStep kept readers result state old new → Taken kept readers state old new
  taken (Ok answer) state old new live has = by_answer answer state has.does.0 old new live has.does.1
  taken (Err why) state old new live has = by_failure state old new live has.refused has.fails has.unheld
