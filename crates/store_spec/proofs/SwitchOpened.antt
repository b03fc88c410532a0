-- Since an opening the files hold the store that has gone over to its other log, or the one that failed in that.
use Rattle.std.proofs.Common.{◌≡◌, ◌∙◌, ℕ, ◌+◌, ◌%◌, ◌^◌, ◌≤◌, ◌==◌, Bool, true, false, if◌then◌else◌, List, [], length, take, refl, sym, ap, subst, inl, inr, arith, All, Contains, Option, Some, None}
use Rattle.std.specs.Prelude.{IfSome, MatchOption, ◌⊎◌}
use Rattle.std.specs.List.{concat}
use Rattle.disk_face.specs.declared.disk.File.{File}
use Rattle.disk_face.specs.declared.disk.File.TheVariants.{Log1, Log2}
use Rattle.disk_face.specs.declared.step.Step.TheVariants.{Wrote, Synced}
use Rattle.disk_face.specs.Files.{Files}
use Rattle.page_spec.specs.PageMap.{PageMap}
use Rattle.disk_face.specs.Steps.{History, reads, further}
use Rattle.log_spec.specs.Checksum.{Sum}
use Rattle.log_spec.specs.LogHeader.{LogFields, IsOurs}
use Rattle.log_spec.specs.Accept.{Frame, AreThere, last_size, page_numbers}
use Rattle.log_spec.specs.Written.{IsHeaderOf}
use Rattle.crash_spec.specs.Elsewhere.{IsElsewhere}
use Rattle.crash_spec.specs.Marks.{number_of}
use Rattle.crash_spec.specs.Known.{known_pieces}
use Rattle.crash_spec.specs.Logs.{IsWhole, IsOnDisk, IsOwnAt}
use Rattle.crash_spec.specs.Opening.{Opening, Since, rebased}
use Rattle.crash_spec.specs.Recovered.{main_page, page_after_frames, NamesPages}
use Rattle.crash_spec.specs.Store.{StoreView, Holds, IsCopied, named_size}
use Rattle.crash_spec.proofs.Elsewhere.{whole_elsewhere, whole_synced}
use Rattle.crash_spec.proofs.Rebased.{rebased_reads}
use Rattle.engine_spec.specs.declared.pins.Readers.{Readers}
use Rattle.wal_frames.specs.Found.{log_file}
use Rattle.wal_index.specs.Index.{Indexed, log_in}
use Rattle.log_pair.specs.Pair.{PairView, LogView, log_of, other_number, current_file, current_header, switched_pair}
use Rattle.log_pair.specs.Appending.{LogStands, HasFrames}
use Rattle.log_pair.specs.Switch.{Switches, MayBeTorn, front_piece, next_header, other_file, switched_view}
use Rattle.log_pair.proofs.GoingOver.{switched_stands}
use Rattle.log_commit.specs.Commit.{map_under}
use Rattle.log_commit.specs.Fronts.{HasFront}
use Rattle.log_commit.proofs.FrontLaws.{begun, front_begun, front_beside_begun, since_begun}
use Rattle.log_commit.proofs.SinceSteps.{since_both}
use Rattle.store_spec.specs.Store.{StoreData, KeptStop, current_read, other_read, newest_in, view_of}
use Rattle.store_spec.specs.Steps.{HasCleared, HasSwitched, gone_over, stopped}
use Rattle.store_spec.specs.Standing.{IsWholeStore, AreThereBoth, AreFronts, IsRunning, IsStoreOn, IsTornOn, StandsOn, IsOpenedAt}
use Rattle.store_spec.proofs.OwnFronts.{not_main, own_of, own_since, own_header, size_of_either, switch_goes}
use Rattle.store_spec.proofs.Switching.{IsAllowed, other_file_is, other_number_is, on_of, running_of, has_first, goes_over}
use Rattle.store_spec.proofs.Switched.{FrontAlone, BothTold, other_apart, put_front, switch_keeps, current_alone, other_alone, newest_alone, other_of_other, new_header_is, new_none, back_log_is, back_file_is, old_all, newest_over}

-- what a switch needs of the files for the newest map to stay
pub record IsReady (kept : StoreData) (files : Files) : Type 0 where
  pub first : Contains (page_numbers (current_read kept.pair files)) 1
  pub copied : IsCopied kept.page_size files.main (other_read kept.pair files)
  pub sized : named_size files.main (other_read kept.pair files) (current_read kept.pair files) ≡ kept.page_size
  pub current_pages : page_numbers (current_read kept.pair files) ≡ (log_in kept.index kept.pair.current).pages
  pub other_pages : page_numbers (other_read kept.pair files) ≡ (log_in kept.index (other_number kept.pair.current)).pages

pub ready_on : (opening : Opening) (kept : StoreData) (readers : Readers) (told : History) → IsWholeStore kept → IsAllowed kept readers → IsStoreOn opening kept told → IsReady kept (reads told)
ready_on opening kept readers told whole allowed on = record {
  first = has_first opening kept readers told whole allowed on;
  copied = λ number from. on.there.copied number from (inr allowed.done);
  sized = on.holds.sized;
  current_pages = on.there.current_pages;
  other_pages = on.there.other_pages;
}

-- what holds since an opening, made weaker
pub since_weaker : (start : History) (P Q : History → Type 0) (told : Option History) → ((told : History) → P told → Q told) → Since start P told → Since start Q told
since_weaker start P Q None law h = tt
since_weaker start P Q (Some told) law (since, is, holds) = (since, is, law (rebased start since) holds)

module _ (opening : Opening) (kept : StoreData) (readers : Readers) (told : History) (whole : IsWholeStore kept) (allowed : IsAllowed kept readers) (on : IsStoreOn opening kept told)
    (none : kept.stop ≡ None) where
  -- The other log has its next header on the medium.
  module _ (salt2 : ℕ) (sum : Sum) (bytes : List ℕ) (index : Indexed) (cleared : HasCleared kept index)
      (is : IsHeaderOf (other_number kept.pair.current) (next_header kept.pair salt2 sum) bytes) where
    abbrev header : LogFields
    header = next_header kept.pair salt2 sum

    abbrev over : PairView
    over = switched_pair kept.pair header

    abbrev later : History
    later = begun told (other_file kept.pair) bytes

    alone : FrontAlone kept.pair (reads told) (reads later)
    alone = put_front kept.pair bytes (reads told) (omega (arith, is.whole))

    ready : IsReady kept (reads told)
    ready = ready_on opening kept readers told whole allowed on

    newest_same : newest_in over (reads later) ≡ newest_in kept.pair (reads told)
    newest_same = newest_over kept.pair header whole.pair.which kept.page_size (reads told) (reads later) alone ready.first ready.copied ready.sized

    frames_same : other_read over (reads later) ≡ current_read kept.pair (reads told)
    frames_same = old_all kept.pair header whole.pair.which (reads later) ∙ current_alone kept.pair (reads told) (reads later) alone

    view_is : switched_view (view_of kept (reads told) on.pending on.later) header ≡ view_of (gone_over kept over index) (reads later) [] on.later
    view_is = λ i. record {
      current = other_file_is kept.pair i;
      header = sym (new_header_is kept.pair header) i;
      older = sym (ap (λ (log : LogView). log.header) (back_log_is kept.pair header whole.pair.which)) i;
      frames = sym (new_none kept.pair header (reads later)) i;
      pending = [];
      other = sym frames_same i;
      size = kept.page_size;
      map = sym newest_same i;
      later = on.later;
    }

    there_then : AreThereBoth (gone_over kept over index) later
    there_then = record {
      current = subst (λ (frames : List Frame). HasFrames (Some later) (other_file kept.pair) (current_header over) frames) (sym (new_none kept.pair header (reads later))) (tt, refl);
      other =
          subst (λ (file : File). HasFrames (Some later) file (log_of over (other_number (other_number kept.pair.current))).header (other_read over (reads later))) (sym (back_file_is kept.pair header whole.pair.which))
          (subst (λ (log : LogView). HasFrames (Some later) (current_file kept.pair) log.header (other_read over (reads later))) (sym (back_log_is kept.pair header whole.pair.which))
          (subst (λ (frames : List Frame). HasFrames (Some later) (current_file kept.pair) (current_header kept.pair) frames) (sym frames_same) (
            on.there.current.0,
            subst (λ (bytes : List ℕ). AreThere bytes (current_read kept.pair (reads told))) (sym alone.current) on.there.current.1,
          )));
      current_pages = ap page_numbers (new_none kept.pair header (reads later)) ∙ sym cleared.pages;
      other_pages = ap page_numbers frames_same ∙ on.there.current_pages ∙ sym cleared.current.pages
          ∙ sym (ap (λ (log : ℕ). (log_in index log).pages) (other_of_other kept.pair.current whole.pair.which));
      copied = λ number from is. absurd (none_yet number from is);
    }
      where
        none_yet : (number : ℕ) → 1 ≤ number → (number ≤ 0) ⊎ (false ≡ true) → ⊥
        none_yet number from (inl low) = omega arith
        none_yet number from (inr never) = cc

    fronts_then : AreFronts opening (gone_over kept over index) later
    fronts_then =
        let sides = by (kept.pair.current == 1) (subst (λ (n : ℕ). IsOurs n bytes) (sym (other_number_is kept.pair)) is.ours) refl in
        record {
          most1 = sides.0;
          most2 = sides.1;
          few = (omega (arith, sides.2, ap (λ (h : LogFields). h.generation) (new_header_is kept.pair header)), omega (arith, sides.3, ap (λ (h : LogFields). h.generation) (new_header_is kept.pair header)));
          sizes = sizes_then (kept.pair.current == 1) (size_of_either opening kept told on.fronts kept.pair.current);
          log1 = sides.4;
          log2 = sides.5;
        }
      where
        new : LogView
        new = record { header = header; frames = 0 }

        sizes_then : (first : Bool) → header.page_size ≡ kept.page_size
            → ((if (if first then 2 else 1) == 1 then new else kept.pair.one).header.page_size ≡ kept.page_size)
            × ((if (if first then 2 else 1) == 1 then kept.pair.two else new).header.page_size ≡ kept.page_size)
        sizes_then true is = (on.fronts.sizes.0, is)
        sizes_then false is = (is, on.fronts.sizes.1)

        by : (first : Bool) → IsOurs (number_of (log_file (if first then 2 else 1))) bytes
            → header.salt1 ≡ ((log_of kept.pair (if first then 2 else 1)).header.salt1 + 1) % 2 ^ 32
            → (m1 : ℕ) × (m2 : ℕ) × (m1 ≤ (current_header kept.pair).generation + 1) × (m2 ≤ (current_header kept.pair).generation + 1)
            × HasFront opening (begun told (log_file (if first then 2 else 1)) bytes) Log1 (if (if first then 2 else 1) == 1 then new else kept.pair.one).header.salt1 m1
            × HasFront opening (begun told (log_file (if first then 2 else 1)) bytes) Log2 (if (if first then 2 else 1) == 1 then kept.pair.two else new).header.salt1 m2
        by true ours salt = (
          on.fronts.most1,
          on.fronts.most2 + 1,
          let few = on.fronts.few.0 in omega arith,
          let few = on.fronts.few.1 in omega arith,
          front_beside_begun opening told Log2 Log1 kept.pair.one.header.salt1 on.fronts.most1 bytes refl on.fronts.log1,
          subst (λ (s : ℕ). HasFront opening (begun told Log2 bytes) Log2 s (on.fronts.most2 + 1)) (sym salt) (front_begun opening told Log2 kept.pair.two.header.salt1 on.fronts.most2 bytes ours on.fronts.log2),
        )
        by false ours salt = (
          on.fronts.most1 + 1,
          on.fronts.most2,
          let few = on.fronts.few.0 in omega arith,
          let few = on.fronts.few.1 in omega arith,
          subst (λ (s : ℕ). HasFront opening (begun told Log1 bytes) Log1 s (on.fronts.most1 + 1)) (sym salt) (front_begun opening told Log1 kept.pair.one.header.salt1 on.fronts.most1 bytes ours on.fronts.log1),
          front_beside_begun opening told Log1 Log2 kept.pair.two.header.salt1 on.fronts.most2 bytes refl on.fronts.log2,
        )

    current_is_elsewhere : IsElsewhere (current_file kept.pair) (Wrote (front_piece (other_file kept.pair) bytes))
    current_is_elsewhere = (other_apart kept.pair).0

    pub store_over : Holds opening (switched_view (view_of kept (reads told) on.pending on.later) header) later → IsStoreOn opening (gone_over kept over index) later
    store_over holds = record {
      pending = [];
      later = on.later;
      there = there_then;
      holds = subst (λ (view : StoreView). Holds opening view later) view_is holds;
      running = subst (λ s. MatchOption s (IsRunning opening (gone_over kept over index) [] later) (λ stop. on.later ≡ map_under (newest_in over (reads later)) stop.images stop.size)) (sym none) (record {
        none = refl;
        stands = subst (λ (frames : List Frame). LogStands opening over frames [] later) (sym (new_none kept.pair header (reads later)))
            (switched_stands opening kept.pair header later (whole.sealed none)
            (subst (λ (file : File). IsOnDisk opening later file header [] []) (other_file_is kept.pair) holds.on.newest));
        whole = whole_synced opening (other_file kept.pair) (further (Wrote (front_piece (other_file kept.pair) bytes)) told);
      });
      other_whole = subst (IsWhole opening later) (sym (back_file_is kept.pair header whole.pair.which))
          (whole_elsewhere opening (current_file kept.pair) (Synced (other_file kept.pair)) (further (Wrote (front_piece (other_file kept.pair) bytes)) told) tt
          (whole_elsewhere opening (current_file kept.pair) (Wrote (front_piece (other_file kept.pair) bytes)) told current_is_elsewhere (running_of opening kept told none on).whole));
      main_whole = λ done. absurd cc;
      fronts = fronts_then;
      names = subst (λ (pages : PageMap). NamesPages (length (reads later).main) kept.page_size pages) (sym newest_same)
          (subst (λ (main : List ℕ). NamesPages (length main) kept.page_size (newest_in kept.pair (reads told))) (sym alone.main) on.names);
      later_names = λ some. absurd (some refl);
    }

  -- Or that failed.
  module _ (later : History) (stop : KeptStop) (alone : FrontAlone kept.pair (reads told) (reads later)) where
    there_torn : AreThereBoth (stopped kept kept.pair stop) later
    there_torn = record {
      current = subst (λ (frames : List Frame). HasFrames (Some later) (current_file kept.pair) (current_header kept.pair) frames) (sym (current_alone kept.pair (reads told) (reads later) alone)) (
        on.there.current.0,
        subst (λ (bytes : List ℕ). AreThere bytes (current_read kept.pair (reads told))) (sym alone.current) on.there.current.1,
      );
      other = subst (λ (frames : List Frame). HasFrames (Some later) (other_file kept.pair) (log_of kept.pair (other_number kept.pair.current)).header frames) (sym (other_alone kept.pair (reads told) (reads later) alone)) (
        on.there.other.0,
        subst (λ (bytes : List ℕ). take (length (concat (other_read kept.pair (reads told)))) bytes ≡ concat (other_read kept.pair (reads told))) (sym alone.behind) on.there.other.1,
      );
      current_pages = ap page_numbers (current_alone kept.pair (reads told) (reads later) alone) ∙ on.there.current_pages;
      other_pages = ap page_numbers (other_alone kept.pair (reads told) (reads later) alone) ∙ on.there.other_pages;
      copied = λ number from is.
          subst (λ (frames : List Frame). page_after_frames frames number (main_page kept.page_size (reads later).main number) ≡ main_page kept.page_size (reads later).main number)
          (sym (other_alone kept.pair (reads told) (reads later) alone))
          (subst (λ (main : List ℕ). page_after_frames (other_read kept.pair (reads told)) number (main_page kept.page_size main number) ≡ main_page kept.page_size main number)
          (sym alone.main) (on.there.copied number from is));
    }

    pub store_torn : MayBeTorn opening (view_of kept (reads told) on.pending on.later) later → All (IsOwnAt kept.page_size) (known_pieces opening later)
        → IsTornOn opening (stopped kept kept.pair stop) later
    store_torn torn own = record {
      some_size = on.holds.on.some_size;
      sized =
          (λ i. named_size (alone.main i) (other_alone kept.pair (reads told) (reads later) alone i) (current_alone kept.pair (reads told) (reads later) alone i))
          ∙ on.holds.sized;
      own = own;
      names = subst (λ (pages : PageMap). NamesPages (length (reads later).main) kept.page_size pages) (sym (newest_alone kept.pair (reads told) (reads later) alone))
          (subst (λ (main : List ℕ). NamesPages (length main) kept.page_size (newest_in kept.pair (reads told))) (sym alone.main) on.names);
      there = there_torn;
      torn = record {
        newest = subst (λ (frames : List Frame). IsOnDisk opening later (current_file kept.pair) (current_header kept.pair) frames []) (sym (current_alone kept.pair (reads told) (reads later) alone)) torn.newest;
        main = torn.main;
        leaves = λ image leaves chance. elim (torn.leaves image leaves chance) [
          | inl same ↦ inl (same ∙ sym (newest_alone kept.pair (reads told) (reads later) alone))
          | inr (some, same) ↦ absurd (some (ap last_size (running_of opening kept told none on).none))
        ];
      };
      stopped = refl;
      done = allowed.done;
    }

module _ (kept : StoreData) (readers : Readers) (none : kept.stop ≡ None) (whole : IsWholeStore kept) (allowed : IsAllowed kept readers) (opening : Opening) where
  -- Where it was done, the files hold the store that has gone over.
  pub opened_over : (pair : PairView) (salt2 : ℕ) (index : Indexed) (old new : Option History) → HasCleared kept index → HasSwitched kept true pair salt2 old new
      → IsOpenedAt opening kept old → IsOpenedAt opening (gone_over kept pair index) new
  opened_over pair salt2 index old new cleared has opened =
      subst (λ (p : PairView). IsOpenedAt opening (gone_over kept p index) new) (sym has.switches.becomes) (by old has.switches opened)
    where
      by : (old : Option History) → Switches true kept.pair pair salt2 old new has.bytes has.sum → IsOpenedAt opening kept old
          → IsOpenedAt opening (gone_over kept (switched_pair kept.pair (next_header kept.pair salt2 has.sum)) index) new
      by None switches opened = subst (IsOpenedAt opening (gone_over kept (switched_pair kept.pair (next_header kept.pair salt2 has.sum)) index)) (sym switches.steps) tt
      by (Some told) switches (since, is, stands) =
          let before : History = rebased opening.start since in
          let on = on_of opening kept before none stands in
          let view : StoreView = view_of kept (reads before) on.pending on.later in
          let Then : History → Type 0 = Holds opening (switched_view view (next_header kept.pair salt2 has.sum)) in
          let Steps : History → Type 0 = λ later. later ≡ begun before (other_file kept.pair) has.bytes in
          since_weaker opening.start (λ later. Then later × Steps later)
          (StandsOn opening (gone_over kept (switched_pair kept.pair (next_header kept.pair salt2 has.sum)) index)) new
          (λ later (holds, same). inl (subst (IsStoreOn opening (gone_over kept (switched_pair kept.pair (next_header kept.pair salt2 has.sum)) index)) (sym same)
          (store_over opening kept readers before whole allowed on none salt2 has.sum has.bytes index cleared switches.is (subst Then same holds))))
          (since_both opening.start Then Steps new (goes_over kept readers none whole allowed true pair salt2 has.bytes has.sum new opening told switches since is on).holds
          (since_begun opening (λ t. t ≡ before) Steps (other_file kept.pair) has.bytes (Some told) new switches.steps
          (λ t same. ap (λ (t : History). begun t (other_file kept.pair) has.bytes) same) (since, is, refl)))

  -- Where it failed, the other log's front may be torn, and nothing is written any more.
  pub opened_torn : (pair : PairView) (salt2 : ℕ) (stop : KeptStop) (old new : Option History) → HasSwitched kept false pair salt2 old new
      → IsOpenedAt opening kept old → IsOpenedAt opening (stopped kept pair stop) new
  opened_torn pair salt2 stop old new has opened =
      subst (λ (p : PairView). IsOpenedAt opening (stopped kept p stop) new) (sym has.switches.becomes)
      (by old new has.switches (switch_keeps false kept.pair has.bytes old new has.switches.is.whole has.switches.steps) opened)
    where
      by : (old new : Option History) → Switches false kept.pair pair salt2 old new has.bytes has.sum → BothTold (FrontAlone kept.pair) old new → IsOpenedAt opening kept old
          → IsOpenedAt opening (stopped kept kept.pair stop) new
      by None None switches front opened = tt
      by None (Some now) switches front opened = absurd front
      by (Some told) None switches front opened = absurd front
      by (Some told) (Some now) switches front (since, is, stands) =
          let before : History = rebased opening.start since in
          let on = on_of opening kept before none stands in
          let own : Since opening.start (λ t. All (IsOwnAt kept.page_size) (known_pieces opening t)) (Some now) =
          own_since opening kept.page_size 0 (Some told) (Some now)
          (switch_goes kept.page_size 0 (front_piece (other_file kept.pair) has.bytes) false (Some told) (Some now) (not_main (other_number kept.pair.current))
          (own_header kept salt2 has.sum has.bytes (size_of_either opening kept before on.fronts kept.pair.current) switches.is (other_number_is kept.pair)) switches.steps)
          (since, is, own_of opening kept before stands) in
          let (steps, grew, torn) = since_both opening.start (MayBeTorn opening (view_of kept (reads before) on.pending on.later))
          (λ t. All (IsOwnAt kept.page_size) (known_pieces opening t)) (Some now)
          (goes_over kept readers none whole allowed false pair salt2 has.bytes has.sum (Some now) opening told switches since is on).holds own in (
            steps,
            grew,
            inr (store_torn opening kept readers before whole allowed on none (rebased opening.start steps) stop
                (subst (λ (files : Files). FrontAlone kept.pair files (reads (rebased opening.start steps))) (ap reads is ∙ rebased_reads opening.start since)
                (subst (λ (files : Files). FrontAlone kept.pair (reads told) files) (ap reads grew ∙ rebased_reads opening.start steps) front))
                torn.0 torn.1),
          )

  -- the newest map is that of a store that may go over
  pub files_ready : (told : Option History) → IsOpenedAt opening kept told → IfSome told (λ told. IsReady kept (reads told))
  files_ready None opened = tt
  files_ready (Some told) (since, is, stands) =
      subst (IsReady kept) (sym (ap reads is ∙ rebased_reads opening.start since))
      (ready_on opening kept readers (rebased opening.start since) whole allowed (on_of opening kept (rebased opening.start since) none stands))
