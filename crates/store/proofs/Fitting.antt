-- What is asked where the frames of a commit are written and entered, of a store that is ready, and what entering it makes of the store.
use Rattle.std.proofs.Common.{◌≡◌, ◌∙◌, ◌⊎◌, inl, inr, ℕ, ◌+◌, ◌<◌, ◌≤◌, if◌then◌else◌, List, [], ◌∷◌, ◌++◌, length, sym, ap, subst, arith, Option, None, All}
use Rattle.std.specs.Option.{option_map}
use Rattle.std.proofs.lemmas.List.{length-map}
use Rattle.std.proofs.lemmas.List.Elements.{All-cons, All-map}
use Rattle.disk_face.specs.declared.disk.File.TheVariants.{Log1, Log2}
use Rattle.disk_face.specs.declared.tells.DiskTells.{Ghosts as DiskGhosts}
use Rattle.disk_face.specs.Steps.{History}
use Rattle.disk_face.specs.Told.{IsInside}
use Rattle.log_spec.specs.Frames.{frame_place}
use Rattle.log_spec.specs.LogHeader.{LogFields}
use Rattle.engine_spec.specs.declared.commits.Commit.{Commit}
use Rattle.engine_spec.specs.declared.commits.PageImage.{PageImage}
use Rattle.engine_spec.specs.declared.commits.Who.{Who}
use Rattle.engine_spec.specs.declared.pins.Pin.{Pin}
use Rattle.engine_spec.specs.declared.pins.Readers.{Readers}
use Rattle.engine_spec.specs.Events.{IsClear}
use Rattle.engine_spec.specs.TwoLogs.{current_frames, to_write}
use Rattle.wal_frames.specs.Found.{log_file}
use Rattle.wal_index.specs.Index.{Indexed, IndexedLog, log_in, SameOther}
use Rattle.log_pair.specs.Pair.{PairView, IsPair, IsLegalLog, log_of, other_number, written_frames}
use Rattle.log_pair.specs.Appending.{IsReached}
use Rattle.laying.specs.Order.{in_order, page_numbers}
use Rattle.laying.proofs.Orders.{all_in_order, ordered_length}
use Rattle.page_face.specs.declared.prepared.Prepared.{Prepared}
use Rattle.page_face.specs.Prepared.{IsFit, submitted}
use Rattle.store_spec.specs.Store.{StoreData, two_logs}
use Rattle.store_spec.specs.Standing.{IsWholeStore, IsReadable}
use Rattle.store_spec.specs.Steps.{IsSameLog, HasIndexed, committed}
use Rattle.store_spec.proofs.CommitAnswers.{IsReadied}
use Rattle.store_spec.proofs.Pinning.{frames_count}
use Rattle.store_spec.proofs.Runs.{counted_of}
use Rattle.store_spec.proofs.Writing.{IsPairOf}
use Rattle.store.specs.declared.plan.Plan.{Plan}
use Rattle.store.specs.declared.store.Store.{Store}
use Rattle.store.specs.Kept.{kept_of, stop_of, bare, bare_log, IsAble}
use Rattle.store.specs.Planning.{IsPlanOf, HasPlanRoom}
use Rattle.store.specs.Committing.{IsIndexed}
use Rattle.store.specs.CommittedFrom.{Before, state_before}
use Rattle.store.specs.Writing.{HasEntered}
use Rattle.store.proofs.Bare.{bare_in, bare_pages, index_bare}

-- a pair that goes on is legal, where its frames can be counted
pub legal_on : (old new : PairView) → IsPair old → IsPairOf old new → written_frames new ≤ 4294967295 → IsPair new
legal_on old new legal same few = record {
  which = subst (λ (n : ℕ). (n ≡ 1) ⊎ (n ≡ 2)) (sym same.current) legal.which;
  one = subst (λ (header : LogFields). IsLegalLog 1 (record { header = header; frames = new.one.frames })) (sym same.one) (record { page_size = legal.one.page_size; generation = legal.one.generation });
  two = subst (λ (header : LogFields). IsLegalLog 2 (record { header = header; frames = new.two.frames })) (sym same.two) (record { page_size = legal.two.page_size; generation = legal.two.generation });
  same_size = (λ i. (same.two i).page_size) ∙ legal.same_size ∙ sym (λ i. (same.one i).page_size);
  counted = omega (arith, few);
}

abbrev IsThere : Option History → StoreData → ℕ → Type 0
IsThere told kept log = IsInside told (log_file log) (frame_place (log_of kept.pair log).header ((log_of kept.pair log).frames + kept.pair.appended)) 0

-- the current log reaches the place of the next frame
pub reached : (told : Option History) (kept : StoreData) → IsWholeStore kept → IsReadable kept told → kept.stop ≡ None → IsReached told kept.pair
reached told kept whole readable none = by whole.pair.which
  where
    nothing : (frames : ℕ) → frames ≡ frames + kept.pair.appended
    nothing frames = let sealed = whole.sealed none in omega (arith, sealed)

    by : (kept.pair.current ≡ 1) ⊎ (kept.pair.current ≡ 2) → IsReached told kept.pair
    by (inl one) = subst (IsThere told kept) (sym one) (subst (λ (n : ℕ). IsInside told Log1 (frame_place kept.pair.one.header n) 0) (nothing kept.pair.one.frames) readable.log1)
    by (inr two) = subst (IsThere told kept) (sym two) (subst (λ (n : ℕ). IsInside told Log2 (frame_place kept.pair.two.header n) 0) (nothing kept.pair.two.frames) readable.log2)

-- the frames fit into the log
pub frames_fit : {M : Type 0} (before : Before) (ready : StoreData) (readers : Readers) (mid : Option History) (prepared : Prepared M) (who : Who) (count : ℕ) → IsReadied before.kept ready readers before.told mid
    → IsWholeStore ready → IsClear (state_before before readers) (submitted prepared who) → count ≤ length prepared.changed → (log_of ready.pair ready.pair.current).frames + (count + 1) ≤ 4294967295
frames_fit before ready readers mid prepared who count is whole clear few =
    let most : length (current_frames (to_write (two_logs before.kept) readers before.kept.history) before.kept.history) + length prepared.changed + length prepared.fresh + length prepared.freed + 2 ≤ 4294967295 = clear.fits.frames in
    let same : (log_of ready.pair ready.pair.current).frames ≡ length (current_frames (to_write (two_logs before.kept) readers before.kept.history) before.kept.history) =
    frames_count ready whole ∙ (λ i. length (current_frames (is.logs i) (is.history i))) in
    omega (arith, most, same, few)

pub images_fit : {M : Type 0} (before : Before) (readers : Readers) (pin : Pin) (prepared : Prepared M) (size : ℕ) → IsFit (state_before before readers) pin prepared → size ≡ before.kept.page_size
    → All (λ image. (1 ≤ image.page) × (length image.bytes ≡ size)) prepared.changed
images_fit before readers pin prepared size fit sized = λ k d within. ((fit.in_range k d within).0, fit.whole k d within ∙ sym sized)

-- the numbers of the pages that are written
pub wrote_count : (changed : List PageImage) (plan : Plan) → IsPlanOf changed plan → length plan.wrote ≡ length plan.order.items + 1
wrote_count changed plan is =
    let count : length (page_numbers (in_order changed plan.order.items)) ≡ length plan.order.items =
    length-map (in_order changed plan.order.items) (λ (image : PageImage). image.page) ∙ ordered_length changed plan.order.items in
    omega (arith, ap length is.wrote, count)

pub wrote_numbered : (changed : List PageImage) (plan : Plan) → IsPlanOf changed plan → All (λ image. 1 ≤ image.page) changed → All (λ page. 0 < page) plan.wrote
wrote_numbered changed plan is least =
    subst (All (λ (page : ℕ). 0 < page)) (sym is.wrote)
    (All-cons (λ (page : ℕ). 0 < page) 1 (page_numbers (in_order changed plan.order.items)) (omega arith)
    (mapped (in_order changed plan.order.items) (all_in_order (λ (image : PageImage). 0 < image.page) changed plan.order.items least is.order.places)))
  where
    mapped : (list : List PageImage) → All (λ image. 0 < image.page) list → All (λ page. 0 < page) (page_numbers list)
    mapped list all = All-map (λ (page : ℕ). 0 < page) (λ (image : PageImage). image.page) list all

-- fields of two logs whose room is not counted
entered_field : (P : IndexedLog → IndexedLog → Type 0) (old new : Indexed) (log : ℕ) → P (bare_log (log_in old log)) (bare_log (log_in new log)) → P (log_in (bare old) log) (log_in (bare new) log)
entered_field P old new log has =
    subst (λ (l : IndexedLog). P l (log_in (bare new) log)) (sym (bare_in old log)) (subst (λ (l : IndexedLog). P (bare_log (log_in old log)) l) (sym (bare_in new log)) has)

same_bare : (a b : IndexedLog) → b ≡ a → IsSameLog (bare_log a) (bare_log b)
same_bare a b is = record { pages = ap (λ (l : IndexedLog). l.pages) is; numbers = ap (λ (l : IndexedLog). l.numbers) is; ends = ap (λ (l : IndexedLog). l.ends) is; tails = ap (λ (l : IndexedLog). l.tails) is }

other_stays : (old new : Indexed) (log : ℕ) → (log ≡ 1) ⊎ (log ≡ 2) → SameOther old log new → IsSameLog (log_in (bare old) (other_number log)) (log_in (bare new) (other_number log))
other_stays old new log (inl one) same =
    subst (λ (n : ℕ). IsSameLog (log_in (bare old) (other_number n)) (log_in (bare new) (other_number n))) (sym one) (same_bare old.log2 new.log2 (subst (λ (n : ℕ). SameOther old n new) one same))
other_stays old new log (inr two) same =
    subst (λ (n : ℕ). IsSameLog (log_in (bare old) (other_number n)) (log_in (bare new) (other_number n))) (sym two) (same_bare old.log1 new.log1 (subst (λ (n : ℕ). SameOther old n new) two same))

-- The frames were written, and nothing but disk and pair has changed.
module _ {D W M : Type 0} (mid X : Store D W M) (whole : IsWholeStore (kept_of mid)) (becomes : X ≡ record mid { disk = X.disk; pair = X.pair }) (current : X.pair.current ≡ mid.pair.current) where
  pub indexed_now : IsIndexed X.index X.pair.current X.commits.commits
  indexed_now =
      subst (λ (index : Indexed). IsIndexed index X.pair.current X.commits.commits) (sym (ap (λ (s : Store D W M). s.index) becomes))
      (subst (λ (history : List Commit). IsIndexed mid.index X.pair.current history) (sym (ap (λ (s : Store D W M). s.commits.commits) becomes))
      (record { logs = two_logs (kept_of mid); is = index_bare mid.index (two_logs (kept_of mid)) mid.commits.commits whole.index; same = sym current }))

  pub enter_fits : (count more : ℕ) → (log_of mid.pair mid.pair.current).frames + (count + 1) ≤ 4294967295 → more ≡ count + 1 → length (log_in X.index X.pair.current).pages + more ≤ 4294967295
  enter_fits count more fits is =
      let counted : length (log_in X.index X.pair.current).pages ≡ (log_of mid.pair mid.pair.current).frames =
      (λ i. length (log_in (ap (λ (s : Store D W M). s.index) becomes i) (current i)).pages)
      ∙ sym (ap length (bare_pages mid.index mid.pair.current)) ∙ (counted_of (kept_of mid) mid.pair.current whole whole.pair.which).counted in
      omega (arith, fits, is, counted)

  pub room_now : (count more : ℕ) → more ≡ count + 1 → HasPlanRoom mid (count + 1) → HasPlanRoom X more
  room_now count more is room =
      subst (HasPlanRoom X) (sym is) (subst (λ (s : Store D W M). HasPlanRoom s (count + 1)) (sym becomes)
      (record { log1 = room.log1; log2 = room.log2; seals1 = room.seals1; seals2 = room.seals2; commits = room.commits; pages = room.pages; bytes = room.bytes }))

module _ {D W M : Type 0} (disk : DiskGhosts D) (loans : W → List ℕ) (mid X new : Store D W M) (commit : Commit) (becomes : X ≡ record mid { disk = X.disk; pair = X.pair })
    (same : new ≡ record X { index = new.index; commits = new.commits }) where
  abbrev S : Type 0
  S = Store D W M

  pub has_indexed : (mid.pair.current ≡ 1) ⊎ (mid.pair.current ≡ 2) → X.pair.current ≡ mid.pair.current
      → HasEntered X.index X.pair.current commit.wrote (length X.commits.commits + 1) commit.tail new.index → HasIndexed (kept_of mid) commit (bare new.index)
  has_indexed which current entered = at
      (subst (λ (n : ℕ). HasEntered mid.index mid.pair.current commit.wrote (n + 1) commit.tail new.index) (ap (λ (s : S). length s.commits.commits) becomes)
      (subst (λ (n : ℕ). HasEntered mid.index n commit.wrote (length X.commits.commits + 1) commit.tail new.index) current
      (subst (λ (index : Indexed). HasEntered index X.pair.current commit.wrote (length X.commits.commits + 1) commit.tail new.index) (ap (λ (s : S). s.index) becomes) entered)))
    where
      at : HasEntered mid.index mid.pair.current commit.wrote (length mid.commits.commits + 1) commit.tail new.index → HasIndexed (kept_of mid) commit (bare new.index)
      at entered = record {
        pages = entered_field (λ a b. b.pages ≡ a.pages ++ commit.wrote) mid.index new.index mid.pair.current entered.frames;
        numbers = entered_field (λ a b. b.numbers ≡ a.numbers ++ (length mid.commits.commits + 1) ∷ []) mid.index new.index mid.pair.current entered.numbers;
        ends = entered_field (λ a b. b.ends ≡ a.ends ++ length (a.pages ++ commit.wrote) ∷ []) mid.index new.index mid.pair.current entered.ends;
        tails = entered_field (λ a b. b.tails ≡ (if commit.tail then a.tails ++ (length mid.commits.commits + 1) ∷ [] else a.tails)) mid.index new.index mid.pair.current entered.tails;
        other = other_stays mid.index new.index mid.pair.current which entered.other;
      }

  pub makes : new.commits.commits ≡ X.commits.commits ++ commit ∷ [] → kept_of new ≡ committed (kept_of mid) new.pair (bare new.index) commit
  makes history = λ i. record {
    page_size = (ap (λ (s : S). s.page_size) same ∙ ap (λ (s : S). s.page_size) becomes) i;
    usable = (ap (λ (s : S). s.usable) same ∙ ap (λ (s : S). s.usable) becomes) i;
    size = (ap (λ (s : S). s.size) same ∙ ap (λ (s : S). s.size) becomes) i;
    limit = (ap (λ (s : S). s.limit) same ∙ ap (λ (s : S). s.limit) becomes) i;
    pair = new.pair;
    index = bare new.index;
    state = (ap (λ (s : S). s.state) same ∙ ap (λ (s : S). s.state) becomes) i;
    history = (history ∙ ap (λ (s : S). s.commits.commits ++ commit ∷ []) becomes) i;
    stop = (ap (λ (s : S). option_map (stop_of s.page_size s.spare) s.stop) same ∙ ap (λ (s : S). option_map (stop_of s.page_size s.spare) s.stop) becomes) i;
  }

  pub able_now : IsAble disk X → IsAble disk new
  able_now able = subst (IsAble disk) (sym same) (record { attached = able.attached; room = able.room; none_kept = able.none_kept })

  pub pair_now : new.pair ≡ X.pair
  pair_now = ap (λ (s : S). s.pair) same

  pub disk_now : new.disk ≡ X.disk
  disk_now = ap (λ (s : S). s.disk) same

  pub names_now : disk.loans X.disk ≡ disk.loans mid.disk → X.salts ≡ mid.salts → disk.loans new.disk ++ loans new.salts ≡ disk.loans mid.disk ++ loans mid.salts
  names_now held salts =
      (λ i. disk.loans (disk_now i) ++ loans (ap (λ (s : S). s.salts) same i)) ∙ (λ i. held i ++ loans (salts i))
