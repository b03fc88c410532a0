-- A page that the other log holds is written to Main, a write of it is refused, or Main is synced: what that leaves of what stands on the logs.
use Rattle.std.proofs.Common.{◌≡◌, ◌≢◌, ◌∙◌, ◌⊎◌, inl, inr, ℕ, suc, ◌+◌, ◌-◌, ◌*◌, ◌≤◌, ◌==◌, if◌then◌else◌, Bool, true, false, List, [], ◌∷◌, length, take, drop, refl, sym, ap, subst, arith}
use Rattle.std.specs.Prelude.{Contains}
use Rattle.std.proofs.lemmas.Bool.{cases_lt, true≢false}
use Rattle.std.proofs.lemmas.Bool.Decides.{Decides-eqb}
use Rattle.disk_face.specs.declared.disk.File.TheVariants.{Main, Log1, Log2}
use Rattle.disk_face.specs.declared.step.Step.{Step}
use Rattle.disk_face.specs.declared.step.Step.TheVariants.{Wrote, Refused, Synced}
use Rattle.disk_face.specs.Files.{Files, overwritten}
use Rattle.disk_face.specs.Steps.{History, reads, further}
use Rattle.disk_face.proofs.Contents.{overwritten-reads}
use Rattle.page_spec.specs.Header.{fields_of, page_size_in}
use Rattle.page_spec.specs.PageMap.{PageMap}
use Rattle.log_spec.specs.Accept.{Frame, page_number, page_of, page_numbers}
use Rattle.crash_spec.specs.Elsewhere.{IsElsewhere}
use Rattle.crash_spec.specs.Opening.{Opening}
use Rattle.crash_spec.specs.Logs.{IsWhole}
use Rattle.crash_spec.specs.Recovered.{main_page, page_after_frames, overlaid, size_after}
use Rattle.crash_spec.specs.Store.{Holds, named_size}
use Rattle.crash_spec.proofs.Copying.{page_stays, first_stays, copy_holds, refused_holds, synced_holds}
use Rattle.crash_spec.proofs.Elsewhere.{whole_synced}
use Rattle.crash_spec.proofs.NamedPages.{EndsBy}
use Rattle.crash_spec.proofs.Overlaid.{overlaid_outside, firsts_outside}
use Rattle.crash_spec.proofs.Overwritten.{overwritten-length}
use Rattle.wal_index.specs.Frames.{IsNextPage}
use Rattle.wal_rules.specs.declared.state.LogState.{LogState}
use Rattle.checkpoint.specs.Steps.{page_piece}
use Rattle.store_spec.specs.Store.{StoreData, other_read, view_of}
use Rattle.store_spec.specs.Standing.{AreCopied}

-- a page that frames don't hold is what lies below them
pub not_held : (frames : List Frame) (number : ℕ) (below : List ℕ) → (Contains (page_numbers frames) number → ⊥) → page_after_frames frames number below ≡ below
not_held [] number below none = refl
not_held (frame ∷ rest) number below none =
    by (page_number frame == number) (Decides-eqb (page_number frame) number).0 (not_held rest number below (λ held. none (suc held.0, omega (arith, held.1), held.2)))
  where
    by : (same : Bool) → (same ≡ true → page_number frame ≡ number) → page_after_frames rest number below ≡ below
        → page_after_frames rest number (if same then page_of frame else below) ≡ below
    by true is others = absurd (none (0, omega arith, is refl))
    by false is others = others

-- where there is a frame, the size is that of a commit, and not that of the file
size_of_held : (frames : List Frame) (number : ℕ) → Contains (page_numbers frames) number → (m n : ℕ) → size_after frames m ≡ size_after frames n
size_of_held [] number held m n = let none = held.1 in absurd (omega arith)
size_of_held (frame ∷ rest) number held m n = refl

-- Whatever is written at the place of a page that the older frames hold, the map over them is the same.
module _ (size number : ℕ) (from : 1 ≤ number) (some : 100 ≤ size) (main left : List ℕ) (within : length left ≤ size) (reached : (number - 1) * size ≤ length main)
    (older newer : List Frame) (held : Contains (page_numbers older) number) (sized : named_size main older newer ≡ size) where
  abbrev written : List ℕ
  written = overwritten ((number - 1) * size) left main

  first_apart : (Contains (page_numbers older) 1 → ⊥) → 1 ≢ number
  first_apart none is = none (subst (λ (n : ℕ). Contains (page_numbers older) n) (sym is) held)

  pub map_stays : overlaid written older newer ≡ overlaid main older newer
  map_stays =
      sym (overlaid_outside size main written older newer (λ first. ap (λ (n : ℕ). size_after newer n) (size_of_held older number held _ _))
      (λ page one none beside. sym (page_stays size number from some main left within reached page one (λ is. none (subst (λ (n : ℕ). Contains (page_numbers older) n) (sym is) held))))
      (λ none beside. sym (first_stays size number from some main left within reached (first_apart none)))
      sized)

  pub name_stays : named_size written older newer ≡ size
  name_stays =
      ap (λ (first : List ℕ). page_size_in (fields_of first))
      (firsts_outside written main older newer (λ none beside. first_stays size number from some main left within reached (first_apart none)))
      ∙ sized

-- a step that writes to Main alone, or syncs it, in a store's history: what it keeps of the maps, and which state it leaves the logs in
pub record StepsOn (kept : StoreData) (state : LogState) (told : History) (step : Step) : Type 0 where
  pub unfinished : kept.state.done ≡ false
  pub current : state.current ≡ kept.state.current
  pub log1 : IsElsewhere Log1 step
  pub log2 : IsElsewhere Log2 step
  pub longer : length (reads told).main ≤ length (reads (further step told)).main
  pub ends : EndsBy (length (reads told).main) step
  pub maps : (newer : List Frame) → named_size (reads told).main (other_read kept.pair (reads told)) newer ≡ kept.page_size
      → (overlaid (reads (further step told)).main (other_read kept.pair (reads told)) newer ≡ overlaid (reads told).main (other_read kept.pair (reads told)) newer)
      × (named_size (reads (further step told)).main (other_read kept.pair (reads told)) newer ≡ kept.page_size)
  pub copied : AreCopied kept (reads told) → (number : ℕ) → 1 ≤ number → (number ≤ state.copied) ⊎ (state.done ≡ true)
      → page_after_frames (other_read kept.pair (reads told)) number (main_page kept.page_size (reads (further step told)).main number)
      ≡ main_page kept.page_size (reads (further step told)).main number
  pub holds : (opening : Opening) (pending : List Frame) (later : PageMap) → Holds opening (view_of kept (reads told) pending later) told
      → Holds opening (view_of kept (reads told) pending later) (further step told)
  pub whole : (opening : Opening) → state.done ≡ true → IsWhole opening (further step told) Main

-- the next page that may be copied from the other log
pub record IsCopyable (kept : StoreData) (files : Files) (page : ℕ) : Type 0 where
  pub unfinished : kept.state.done ≡ false
  pub next : IsNextPage (page_numbers (other_read kept.pair files)) kept.state.copied page
  pub some : 100 ≤ kept.page_size
  pub reached : (page - 1) * kept.page_size ≤ length files.main
  pub inside : (page - 1) * kept.page_size + kept.page_size ≤ length files.main

module _ (kept : StoreData) (told : History) (page : ℕ) (may : IsCopyable kept (reads told) page) where
  abbrev size : ℕ
  size = kept.page_size

  abbrev other : List Frame
  other = other_read kept.pair (reads told)

  abbrev main : List ℕ
  main = (reads told).main

  from : 1 ≤ page
  from = let above = may.next.above in omega arith

  abbrev main_with : List ℕ → List ℕ
  main_with left = overwritten ((page - 1) * size) left main

  -- a page below it that was copied stays so
  below_copied : (left : List ℕ) → length left ≤ size → AreCopied kept (reads told) → (number : ℕ) → 1 ≤ number → number ≤ kept.state.copied
      → page_after_frames other number (main_page size (main_with left) number) ≡ main_page size (main_with left) number
  below_copied left within copied number one low =
      let above = may.next.above in
      let stays : main_page size (main_with left) number ≡ main_page size main number =
      page_stays size page from may.some main left within may.reached number one (λ is. omega (arith, is, above, low)) in
      subst (λ (xs : List ℕ). page_after_frames other number xs ≡ xs) (sym stays) (copied number one (inl low))

  -- the page is copied
  pub steps_copied : (bytes : List ℕ) → length bytes ≡ kept.page_size → ((below : List ℕ) → page_after_frames (other_read kept.pair (reads told)) page below ≡ bytes)
      → StepsOn kept (record kept.state { copied = page }) told (Wrote (page_piece page kept.page_size bytes))
  steps_copied bytes long is = record {
    unfinished = may.unfinished;
    current = refl;
    log1 = refl;
    log2 = refl;
    longer = overwritten-length ((page - 1) * size) bytes main may.reached;
    ends = λ is. (let whole = may.inside in omega (arith, whole, long));
    maps = λ newer sized. (
      map_stays size page from may.some main bytes (omega arith) may.reached other newer may.next.there sized,
      name_stays size page from may.some main bytes (omega arith) may.reached other newer may.next.there sized,
    );
    copied = λ copied number one low. each copied number one low;
    holds = λ opening pending later h.
        copy_holds opening told _ _ _ _ pending other size _ later h page may.next.there from bytes long may.reached;
    whole = λ opening done. absurd (true≢false (sym done ∙ may.unfinished));
  }
    where
      here : main_page size (main_with bytes) page ≡ bytes
      here = ap (λ (n : ℕ). take n (drop ((page - 1) * size) (main_with bytes))) (sym long) ∙ overwritten-reads ((page - 1) * size) bytes main may.reached

      each : AreCopied kept (reads told) → (number : ℕ) → 1 ≤ number → (number ≤ page) ⊎ (kept.state.done ≡ true)
          → page_after_frames other number (main_page size (main_with bytes) number) ≡ main_page size (main_with bytes) number
      each copied number one (inr done) = absurd (true≢false (sym done ∙ may.unfinished))
      each copied number one (inl low) =
          elim (cases_lt number page) [
            | inr same ↦
                let number_is : page ≡ number = omega arith in
                subst (λ (n : ℕ). page_after_frames other n (main_page size (main_with bytes) n) ≡ main_page size (main_with bytes) n) number_is
                (is (main_page size (main_with bytes) page) ∙ sym here)
            | inl less ↦
                elim (cases_lt kept.state.copied number) [
                  | inl above ↦ not_held other number (main_page size (main_with bytes) number) (λ held. let no = may.next.least number held above in omega arith)
                  | inr old ↦ below_copied bytes (omega arith) copied number one old
                ]
          ]

  -- a write of it was refused
  pub steps_refused : (tried left : List ℕ) → length tried ≡ kept.page_size → length left ≤ length tried
      → StepsOn kept kept.state told (Refused (page_piece page kept.page_size tried) left)
  steps_refused tried left long within = record {
    unfinished = may.unfinished;
    current = refl;
    log1 = refl;
    log2 = refl;
    longer = overwritten-length ((page - 1) * size) left main may.reached;
    ends = λ is. (let whole = may.inside in omega (arith, whole, long, within));
    maps = λ newer sized. (
      map_stays size page from may.some main left (omega arith) may.reached other newer may.next.there sized,
      name_stays size page from may.some main left (omega arith) may.reached other newer may.next.there sized,
    );
    copied = λ copied number one low. each copied number one low;
    holds = λ opening pending later h.
        refused_holds opening told _ _ _ _ pending other size _ later h page may.next.there from tried long may.reached left within;
    whole = λ opening done. absurd (true≢false (sym done ∙ may.unfinished));
  }
    where
      each : AreCopied kept (reads told) → (number : ℕ) → 1 ≤ number → (number ≤ kept.state.copied) ⊎ (kept.state.done ≡ true)
          → page_after_frames other number (main_page size (main_with left) number) ≡ main_page size (main_with left) number
      each copied number one (inr done) = absurd (true≢false (sym done ∙ may.unfinished))
      each copied number one (inl low) = below_copied left (omega arith) copied number one low

-- all were copied, and Main is synced
pub steps_synced : (kept : StoreData) (told : History) → kept.state.done ≡ false
    → ((page : ℕ) → Contains (page_numbers (other_read kept.pair (reads told))) page → page ≤ kept.state.copied)
    → StepsOn kept (record kept.state { done = true }) told (Synced Main)
steps_synced kept told unfinished all = record {
  unfinished = unfinished;
  current = refl;
  log1 = tt;
  log2 = tt;
  longer = omega arith;
  ends = tt;
  maps = λ newer sized. (refl, sized);
  copied = λ copied number one low.
      elim (cases_lt kept.state.copied number) [
        | inl above ↦
            not_held (other_read kept.pair (reads told)) number (main_page kept.page_size (reads told).main number) (λ held. let no = all number held in omega arith)
        | inr old ↦ copied number one (inl old)
      ];
  holds = λ opening pending later h. synced_holds opening told _ _ _ _ pending _ _ _ later Main h;
  whole = λ opening done. whole_synced opening Main told;
}
