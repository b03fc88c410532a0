-- What an act leaves of a transaction, and what a refused or accepted COMMIT means for the list of seats.
use Rattle.std.proofs.Common.{◌≡◌, ◌≢◌, inl, inr, ℕ, ◌≤◌, List, [], ◌∷◌, ◌++◌, length, replicate, Option, Some, None, Result, Ok, Err, Bool, true, cond, ◌&&◌, is_some, refl, sym, subst, ap, ◌∙◌, arith}
use Rattle.std.specs.Prelude.{IfSome, IfOk, OnOk, OnErr, false}
use Rattle.std.specs.declared.alloc.AllocError.{AllocError}
use Rattle.std.proofs.lemmas.List.{length-replicate}
use Rattle.page_spec.specs.PageMap.{PageMap, page_size_of}
use Rattle.engine_spec.specs.declared.pins.Pin.{Pin}
use Rattle.page_lines.specs.declared.lines.Told.{Told}
use Rattle.page_lines.specs.declared.lines.Act.TheVariants as act
use Rattle.engine_spec.specs.declared.commits.PageImage.{PageImage}
use Rattle.engine_spec.specs.declared.commits.Mode.TheVariants.{Concurrent}
use Rattle.engine_spec.specs.declared.commits.CommitFault.{CommitFault}
use Rattle.engine_spec.specs.declared.commits.CommitFault.TheVariants.{Stopped, BusySnapshot, SizeLimit, Memory, Disk, Corrupt}
use Rattle.engine_spec.specs.declared.commits.Receipt.{Receipt}
use Rattle.engine_spec.specs.declared.commits.Receipt.TheVariants.{At, ReadOnly}
use Rattle.page_lines.specs.PageLines.{ReadPage, WritePage, read_text, write_text, Fills, AreImages, IsPageStore, PageLinesLead}
use Rattle.engine_spec.specs.Change.{image_of}
use Rattle.engine_spec.specs.Good.{Good, HasSizes}
use Rattle.crash_spec.specs.Opening.{Opening}
use Rattle.engine_spec.specs.declared.pins.Lock.{Lock}
use Rattle.engine_spec.specs.State.{EngineState, Later, During}
use Rattle.engine_spec.specs.TwoLogs.{one_fewer, change_readers}
use Rattle.engine_spec.specs.Written.{Submitted}
use Rattle.disk_face.specs.Faults.{one_more}
use Rattle.engine_spec.specs.Events.{AcceptsCommit, RefusesCommit, Ends, with_readers}
use Rattle.page_lines.specs.declared.lines.Told.TheVariants.{Done}
use Rattle.page_face.specs.declared.means.Means.{Ghosts as Meaning}
use Rattle.page_face.specs.declared.prepared.Prepared.{Prepared}
use Rattle.page_face.specs.Prepared.{IsGood}
use Rattle.page_face.specs.declared.engine_tells.EngineTells.{Ghosts}
use Rattle.page_face.specs.Calls.{Stays, HasBegun, HasEnded, CommitKeepsRuns}
use Rattle.engine_spec.proofs.Here.{during_here}
use Rattle.engine_spec.proofs.Laying.{page_at-length}
use Rattle.page_lines.proofs.GoodLines.{good_lines}
use Rattle.page_lines.proofs.Transactions.{with_image-are, fills_read, fills_write, texts-push}
use Rattle.acts.specs.declared.seats.Seat.{Seat}
use Rattle.acts.specs.declared.seats.State.{State}
use Rattle.acts.specs.declared.seats.State.TheVariants.{Open, Out}
use Rattle.acts.specs.declared.seats.Transaction.{Transaction}
use Rattle.acts.specs.Pagers.{Between, RefusesLines, Acts, ReadActs, ReadOpen, CommitActs, CommitOpen, IsSoundTransaction, after_own, after_fetch, after_write, submitted_of, told_of_refusal, with_state}
use Rattle.acts.specs.Turns.{Moves, StandsRefused, SwapsPins, told_or_want}

-- A read of an own page leaves a transaction sound.
pub sound_own : (page_size : ℕ) (old new : Transaction) (page : ℕ) → new ≡ after_own old page
    → IsSoundTransaction page_size old → IsSoundTransaction page_size new
sound_own page_size old new page is sound = subst (IsSoundTransaction page_size) (sym is) (record {
  pages = sound.pages;
  images = sound.images;
  statements = sound.statements ++ ReadPage page ∷ [];
  texts = ap (λ (texts : List (List ℕ)). texts ++ read_text page ∷ []) sound.texts ∙ sym (texts-push sound.statements (ReadPage page));
  fills = fills_read page_size sound.statements old.changed page sound.fills;
})

-- So does a read of the snapshot.
pub sound_fetch : (page_size now : ℕ) (old new : Transaction) (page : ℕ) → now ≡ page_size → new ≡ after_fetch old page
    → IsSoundTransaction page_size old → IsSoundTransaction now new
sound_fetch page_size now old new page same is sound =
    subst (λ (size : ℕ). IsSoundTransaction size new) (sym same) (subst (IsSoundTransaction page_size) (sym is) (record {
      pages = sound.pages;
      images = sound.images;
      statements = sound.statements ++ ReadPage page ∷ [];
      texts = ap (λ (texts : List (List ℕ)). texts ++ read_text page ∷ []) sound.texts ∙ sym (texts-push sound.statements (ReadPage page));
      fills = fills_read page_size sound.statements old.changed page sound.fills;
    }))

pub after_write_sound : (page_size : ℕ) (old : Transaction) (page byte : ℕ) → 2 ≤ page → page ≤ 16
    → IsSoundTransaction page_size old → IsSoundTransaction page_size (after_write page_size old page byte)
after_write_sound page_size old page byte low high sound = record {
  pages = sound.pages;
  images = with_image-are old.changed page (replicate page_size byte) page_size low high (length-replicate page_size byte) sound.images;
  statements = sound.statements ++ WritePage page byte ∷ [];
  texts = ap (λ (texts : List (List ℕ)). texts ++ write_text page byte ∷ []) sound.texts ∙ sym (texts-push sound.statements (WritePage page byte));
  fills = fills_write page_size sound.statements old.changed page byte sound.fills;
}

-- So does a write, whether it was done or memory ran out.
pub sound_write : {T : Type 0} (done : Result T AllocError) (page_size size : ℕ) (old new : Transaction) (page byte : ℕ) → (2 ≤ page) × (page ≤ 16)
    → size ≡ page_size → OnOk done (new ≡ after_write size old page byte) → OnErr done (new ≡ old)
    → IsSoundTransaction page_size old → IsSoundTransaction page_size new
sound_write (Ok done) page_size size old new page byte range equal is same sound =
    subst (IsSoundTransaction page_size) (sym (is ∙ ap (λ (size : ℕ). after_write size old page byte) equal))
    (after_write_sound page_size old page byte range.0 range.1 sound)
sound_write (Err why) page_size size old new page byte range equal is same sound = subst (IsSoundTransaction page_size) (sym same) sound

-- READ in an open transaction, as an act
pub read_acts : (engine : Between) (session ordinal page : ℕ) (told : Result Told AllocError) (old : Transaction) (new : State)
    → IfOk told (λ told. (before after : List Seat) (session ordinal : ℕ) → Moves before session ordinal (Open old) new after
    → ReadOpen engine session page before after told old (image_of old.changed page))
    → IfOk told (λ told. (before after : List Seat) → Moves before session ordinal (Open old) new after
    → Acts engine before (act.Read session page) told after)
read_acts engine session ordinal page (Ok told) old new reads = λ before after moves.
    subst (λ (state : State). ReadActs engine session page before after told state) (sym moves.state) (reads before after session ordinal moves)
read_acts engine session ordinal page (Err why) old new reads = tt

-- COMMIT in an open transaction, as an act
pub commit_acts : (engine : Between) (session ordinal : ℕ) (told : Result Told AllocError) (old : Transaction) (new : State)
    → IfOk told (λ told. (before after : List Seat) → Moves before session ordinal (Open old) new after → CommitOpen engine session before after old told)
    → IfOk told (λ told. (before after : List Seat) → Moves before session ordinal (Open old) new after → Acts engine before (act.Commit session) told after)
commit_acts engine session ordinal (Ok told) old new commits = λ before after moves.
    subst (λ (state : State). CommitActs engine session before after told state) (sym moves.state) (commits before after moves)
commit_acts engine session ordinal (Err why) old new commits = tt

-- what holds of what an option has
pub some_by : {A : Type 0} (found : Option A) (P : A → Type 0) → ((x : A) → found ≡ Some x → P x) → IfSome found P
some_by None P each = tt
some_by (Some x) P each = each x refl

-- a sound transaction is good over the map of its pin
pub good : (snapshot : PageMap) (old : Transaction) (page_size : ℕ) (fresh : List PageImage) (freed : List ℕ) → fresh ≡ []
    → HasSizes snapshot old.pin.size page_size → IsSoundTransaction page_size old
    → Good IsPageStore PageLinesLead snapshot old.reads
    (record { mode = Concurrent; base = old.pin.size; changed = old.changed; fresh = fresh; freed = freed; tail = false }) old.said
good snapshot old page_size fresh freed none sizes sound =
    let some : 1 ≤ length snapshot = (let count = sizes.count in let pages = sound.pages in omega arith) in
    let same : page_size_of snapshot ≡ page_size = page_at-length snapshot page_size 1 sizes.each (omega arith) some in
    good_lines snapshot old.reads
    (record { mode = Concurrent; base = old.pin.size; changed = old.changed; fresh = fresh; freed = freed; tail = false })
    sound.statements old.said refl none refl
    (subst (λ (size : ℕ). AreImages size old.changed) (sym same) sound.images)
    (subst (λ (size : ℕ). Fills size sound.statements old.changed) (sym same) sound.fills) sound.texts

-- what a transaction of a session that has begun so many hands in
asked_by : ℕ → ℕ → Transaction → Submitted
asked_by session ordinal transaction = record {
  snap = transaction.pin.n;
  reads = transaction.reads;
  change = record { mode = Concurrent; base = transaction.pin.size; changed = transaction.changed; fresh = []; freed = []; tail = false };
  said = transaction.said;
  wrote = transaction.wrote;
  session = session;
  ordinal = ordinal;
}

-- the same in the words of the list of seats
asked_is : (before : List Seat) (session ordinal : ℕ) (old : Transaction) (new : State) (after : List Seat)
    → Moves before session ordinal (Open old) new after → asked_by session ordinal old ≡ submitted_of before session old
unfolding asked_by
asked_is before session ordinal old new after moves =
    ap (λ (k : ℕ). asked_by session k old) (sym moves.begun)

-- COMMIT that was refused, as an act
refused : (engine : Between) (session ordinal : ℕ) (old : Transaction) (why : CommitFault) (new : State) (told : Result Told AllocError)
    → During engine.old (λ mid. RefusesLines engine.opened mid (record {
      snap = old.pin.n;
      reads = old.reads;
      change = record { mode = Concurrent; base = old.pin.size; changed = old.changed; fresh = []; freed = []; tail = false };
      said = old.said;
      wrote = old.wrote;
      session = session;
      ordinal = ordinal;
    }) why engine.new)
    → StandsRefused why old new told
    → IfOk told (λ told. (before after : List Seat) → Moves before session ordinal (Open old) new after
    → CommitOpen engine session before after old told)
unfolding asked_by
refused engine session ordinal old why new told found is =
    subst (λ (told : Result Told AllocError). IfOk told (λ told. (before after : List Seat) → Moves before session ordinal (Open old) new after
    → CommitOpen engine session before after old told)) (sym is.0) (by_told (told_of_refusal why) refl)
  where
    by_told : (answer : Option Told) → told_of_refusal why ≡ answer
        → IfOk (told_or_want answer) (λ told. (before after : List Seat) → Moves before session ordinal (Open old) new after → CommitOpen engine session before after old told)
    by_told None none = tt
    by_told (Some answer) same = λ before after moves. inr (
      why,
      same,
      subst (λ (asked : Submitted). During engine.old (λ mid. RefusesLines engine.opened mid asked why engine.new))
          (asked_is before session ordinal old new after moves) found,
      moves.put ∙ ap (λ (state : State). with_state before session state) is.1,
    )

pub refused_acts : (engine : Between) (session ordinal : ℕ) (old back : Transaction) (why : CommitFault) (new : State) (told : Result Told AllocError)
    (fresh : List PageImage) (freed : List ℕ) → fresh ≡ [] → freed ≡ []
    → During engine.old (λ mid. RefusesLines engine.opened mid (record {
      snap = old.pin.n;
      reads = old.reads;
      change = record { mode = Concurrent; base = old.pin.size; changed = old.changed; fresh = fresh; freed = freed; tail = false };
      said = old.said;
      wrote = old.wrote;
      session = session;
      ordinal = ordinal;
    }) why engine.new)
    → back ≡ old → StandsRefused why back new told
    → IfOk told (λ told. (before after : List Seat) → Moves before session ordinal (Open old) new after
    → CommitOpen engine session before after old told)
refused_acts engine session ordinal old back why new told fresh freed none none_freed found same is =
    refused engine session ordinal old why new told
    (subst (λ (freed : List ℕ). During engine.old (λ mid. RefusesLines engine.opened mid (record {
      snap = old.pin.n;
      reads = old.reads;
      change = record { mode = Concurrent; base = old.pin.size; changed = old.changed; fresh = []; freed = freed; tail = false };
      said = old.said;
      wrote = old.wrote;
      session = session;
      ordinal = ordinal;
    }) why engine.new)) none_freed
    (subst (λ (fresh : List PageImage). During engine.old (λ mid. RefusesLines engine.opened mid (record {
      snap = old.pin.n;
      reads = old.reads;
      change = record { mode = Concurrent; base = old.pin.size; changed = old.changed; fresh = fresh; freed = freed; tail = false };
      said = old.said;
      wrote = old.wrote;
      session = session;
      ordinal = ordinal;
    }) why engine.new)) none found))
    (subst (λ (one : Transaction). StandsRefused why one new told) same is)

-- what a commit leaves of the sizes, of who may commit and of who may begin
pub record Leaves (old new : EngineState) : Type 0 where
  pub pages : old.size ≤ new.size
  pub page_size : new.page_size ≡ old.page_size
  pub always_begins : new.always_begins ≡ old.always_begins
  pub alone : new.alone ≡ old.alone

leaves_twice : (old mid new : EngineState) → Leaves old mid → Leaves mid new → Leaves old new
leaves_twice old mid new first then = record {
  pages = (let a = first.pages in let b = then.pages in omega arith);
  page_size = then.page_size ∙ first.page_size;
  always_begins = then.always_begins ∙ first.always_begins;
  alone = then.alone ∙ first.alone;
}

leaves_later : (old new : EngineState) → Later old new → Leaves old new
leaves_later old new later =
    record { pages = later.size; page_size = later.page_size; always_begins = later.always_begins; alone = later.alone }

leaves_same : (old new : EngineState) → new ≡ old → Leaves old new
leaves_same old new same =
    subst (Leaves old) (sym same) (record { pages = omega arith; page_size = refl; always_begins = refl; alone = refl })

leaves_readers : (old new : EngineState) (change : ℕ → ℕ) (lock : Lock) → new ≡ with_readers change lock old → Leaves old new
leaves_readers old new change lock is = subst (Leaves old) (sym is) (by_test (old.always_begins && is_some old.logs))
  where
    by_test : (test : Bool) → Leaves old (cond test (record old { readers = change_readers change old.readers lock }) old)
    by_test true = record { pages = omega arith; page_size = refl; always_begins = refl; alone = refl }
    by_test false = leaves_same old old refl

leaves_accepts : (opened : Opening → Type 0) (old new : EngineState) (asked : Submitted) (receipt : Receipt)
    → AcceptsCommit opened old asked receipt new → Leaves old new
leaves_accepts opened old new asked (ReadOnly n) accepts = leaves_same old new accepts.2
leaves_accepts opened old new asked (At number) accepts =
    let size = ap (λ (seen : EngineState). seen.size) accepts.after_is in
    record {
      pages = omega (arith, size);
      page_size = ap (λ (seen : EngineState). seen.page_size) accepts.after_is;
      always_begins = ap (λ (seen : EngineState). seen.always_begins) accepts.after_is;
      alone = ap (λ (seen : EngineState). seen.alone) accepts.after_is;
    }

-- A commit keeps the pins, and the end of the transaction takes its own.
pub done_stays : {E M : Type 0} (told : Ghosts E M) (old mid new : E) (asked : Submitted) (receipt : Receipt) (pin : Pin)
    → Stays told old mid → HasEnded told mid pin new → ((first : PageMap) → told.stands_from old first → told.stands_from mid first)
    → During (told.state old) (λ at. AcceptsCommit (told.opened old) at asked receipt (told.state mid))
    → SwapsPins told old (pin ∷ []) new []
done_stays told old mid new asked receipt pin stays ended runs found =
    let leaves = leaves_twice (told.state old) (told.state mid) (told.state new)
    (leaves_twice (told.state old) found.0 (told.state mid) (leaves_later (told.state old) found.0 found.1)
    (leaves_accepts (told.opened old) found.0 (told.state mid) asked receipt found.2))
    (leaves_readers (told.state mid) (told.state new) one_fewer pin.lock ended.event) in
    record {
      holds = λ front back lives. ended.pins.taken front back (stays.pins.hold (front ++ (pin ∷ back)) lives);
      maps = λ front back other lives there stay.
          ended.pins.maps other (front ++ back, ended.pins.taken front back (stays.pins.hold (front ++ (pin ∷ back)) lives), stay)
          ∙ stays.pins.maps other (front ++ (pin ∷ back), lives, there);
      runs = λ first stands. ended.runs first (runs first stands);
      opened = λ one is. ended.opened one (stays.opened one is);
      loans = ended.loans ∙ stays.loans;
      always_begins = leaves.always_begins;
      alone = leaves.alone;
      pages = leaves.pages;
      page_size = leaves.page_size;
    }

-- BEGIN adds its pin.
pub begun_stays : {E M : Type 0} (told : Ghosts E M) (old : E) (pin : Pin) (new : E) → HasBegun told old pin new
    → SwapsPins told old [] new (pin ∷ [])
begun_stays told old pin new begun =
    let event = begun.event in
    let leaves = leaves_twice (told.state old) event.2.0 (told.state new)
    (leaves_twice (told.state old) event.0 event.2.0 (leaves_later (told.state old) event.0 event.1)
    (leaves_readers event.0 event.2.0 one_more pin.lock event.2.1.after_is))
    (leaves_later event.2.0 (told.state new) event.2.2) in
    record {
      holds = λ front back lives. begun.pins.added front back lives;
      maps = λ front back other lives was is. begun.pins.maps other (front ++ back, lives, was);
      runs = begun.runs;
      opened = begun.opened;
      loans = begun.loans;
      always_begins = leaves.always_begins;
      alone = leaves.alone;
      pages = leaves.pages;
      page_size = leaves.page_size;
    }

-- A run goes on where its change is good.
pub commit_runs : {E M : Type 0} (means : Meaning M) (told : Ghosts E M) (old : E) (pin : Pin) (prepared : Prepared M) (receipt : Receipt) (new : E)
    → ((first : PageMap) → told.stands_from old first
    → IfSome (told.map_at old pin) (λ snapshot. IsGood (means.sound first) (means.leads first) snapshot prepared))
    → CommitKeepsRuns means told old pin prepared (Ok receipt) new
    → (first : PageMap) → told.stands_from old first → told.stands_from new first
commit_runs means told old pin prepared (At number) new is_good runs = λ first stands. runs first stands (is_good first stands)
commit_runs means told old pin prepared (ReadOnly n) new is_good runs = runs

-- A change that makes and frees no page meets no page of the freelist.
pub refuses_lines : (opened : Opening → Type 0) (stands : Type 0) (before : EngineState) (asked : Submitted) (why : CommitFault)
    (after : EngineState) → asked.change.fresh ≡ [] → asked.change.freed ≡ [] → RefusesCommit opened stands before asked why after
    → RefusesLines opened before asked why after × ((page : ℕ) → why ≢ Corrupt page)
refuses_lines opened stands before asked (Stopped log at) after fresh freed refuses = (refuses, λ page e. absurd cc)
refuses_lines opened stands before asked (BusySnapshot page number) after fresh freed refuses = (refuses, λ page e. absurd cc)
refuses_lines opened stands before asked (SizeLimit pages frames) after fresh freed refuses = (refuses, λ page e. absurd cc)
refuses_lines opened stands before asked Memory after fresh freed refuses = (refuses, λ page e. absurd cc)
refuses_lines opened stands before asked Disk after fresh freed refuses = (refuses, λ page e. absurd cc)
refuses_lines opened stands before asked (Corrupt page) after fresh freed refuses =
    elim (refuses.1.needed) [ inl some ↦ absurd (some freed) | inr some ↦ absurd (some fresh) ]

pub refuses_during : (opened : Opening → Type 0) (stands : Type 0) (before : EngineState) (asked : Submitted) (why : CommitFault)
    (after : EngineState) → asked.change.fresh ≡ [] → asked.change.freed ≡ []
    → During before (λ mid. RefusesCommit opened stands mid asked why after)
    → During before (λ mid. RefusesLines opened mid asked why after) × ((page : ℕ) → why ≢ Corrupt page)
refuses_during opened stands before asked why after fresh freed (mid, later, refuses) =
    let both = refuses_lines opened stands mid asked why after fresh freed refuses in
    ((mid, later, both.0), both.1)

-- COMMIT that was answered well, as an act
pub done_acts : (engine : Between) (session ordinal : ℕ) (old : Transaction) (new : State) (receipt : Receipt) (done : EngineState)
    (fresh : List PageImage) (freed : List ℕ) → fresh ≡ [] → freed ≡ [] → new ≡ Out
    → During engine.old (λ mid. AcceptsCommit engine.opened mid (record {
      snap = old.pin.n;
      reads = old.reads;
      change = record { mode = Concurrent; base = old.pin.size; changed = old.changed; fresh = fresh; freed = freed; tail = false };
      said = old.said;
      wrote = old.wrote;
      session = session;
      ordinal = ordinal;
    }) receipt done)
    → Ends done old.pin engine.new
    → (before after : List Seat) → Moves before session ordinal (Open old) new after
    → CommitOpen engine session before after old (Done receipt)
unfolding asked_by
done_acts engine session ordinal old new receipt done fresh freed none none_freed out found ends before after moves =
    let asked : (fresh : List PageImage) (freed : List ℕ) → Submitted = λ fresh freed. record {
      snap = old.pin.n;
      reads = old.reads;
      change = record { mode = Concurrent; base = old.pin.size; changed = old.changed; fresh = fresh; freed = freed; tail = false };
      said = old.said;
      wrote = old.wrote;
      session = session;
      ordinal = ordinal;
    } in
    let bare : asked fresh freed ≡ submitted_of before session old =
    ap (λ (fresh : List PageImage). asked fresh freed) none ∙ (ap (asked []) none_freed ∙ asked_is before session ordinal old new after moves) in inl (
      receipt,
      refl,
      (
        found.0,
        found.1,
        (done, subst (λ (one : Submitted). AcceptsCommit engine.opened found.0 one receipt done) bare found.2, ends),
      ),
      moves.put ∙ ap (λ (state : State). with_state before session state) out,
    )

-- An engine that tells what it told changed at no moment of the call.
pub still : (old new : EngineState) → new ≡ old → During old (λ mid. new ≡ mid)
still old new same = during_here old (λ mid. new ≡ mid) same
