-- Files whose versions aren't this program's, with a header of ours in log 2, are refused; and what an opening settles may be settled.
use Rattle.std.specs.Prelude.{drop, is_none}
use Rattle.std.proofs.Common.{◌≡◌, inl, inr, ℕ, ◌*◌, ◌==◌, max, Bool, true, false, ◌&&◌, ◌||◌, not, if◌then◌else◌, List, [], ◌∷◌, length, Option, Some, None, refl, sym, ◌∙◌, ap}
use Rattle.disk_face.specs.Files.{Files}
use Rattle.page_spec.specs.Header.{pages_in}
use Rattle.log_spec.specs.Accept.{Frame}
use Rattle.log_spec.specs.Frames.{accepted_frames, up_to_commit, valid_frames}
use Rattle.log_spec.specs.LogHeader.{log_fields, header_size, is_signed, foreign_at}
use Rattle.wal_frames.specs.Front.{front_of, signed_front}
use Rattle.wal_frames.specs.declared.header.Front.TheVariants.{Nothing}
use Rattle.recover.specs.Seeing.{SeenView, IsSeen, is_front_ours, is_some_list, one_in, two_in, is_new_in, is_ours_in, size_in, first_in, map_found}
use Rattle.store.specs.Opening.{AreFine, AreOpened, MaySettle, fault_by, fault_seen, pages_fault, byte_in, is_mixed_by, is_mixed_seen, is_mixed}

-- what was seen of the files shows whether they are a page store
pub fault_is : (new_size : ℕ) (files : Files) (seen : SeenView) → IsSeen new_size files seen → fault_seen seen ≡ pages_fault files
fault_is new_size files seen s = by seen.is_new refl
  where
    by : (new : Bool) → seen.is_new ≡ new → fault_seen seen ≡ pages_fault files
    by true is =
        ap (λ (new : Bool). fault_by new (length seen.places) seen.named seen.byte) is
        ∙ ap (λ (new : Bool). fault_by new (length (map_found files)) (pages_in (first_in files) (max (length files.main) (length (map_found files) * size_in files))) (byte_in files)) (sym is ∙ s.new)
    by false is =
        ap (λ (new : Bool). fault_by new (length seen.places) seen.named seen.byte) is
        ∙ ap (λ (n : ℕ). fault_by false n seen.named seen.byte) (s.count ∙ ap (λ (new : Bool). if new then 0 else length (map_found files)) is)
        ∙ ap (λ (n : ℕ). fault_by false (length (map_found files)) n seen.byte)
        (s.named is ∙ ap (λ (n : ℕ). pages_in (first_in files) (max (length files.main) (length (map_found files) * n))) (s.page_size ∙ ap (λ (new : Bool). if new then new_size else size_in files) is))
        ∙ ap (λ (n : ℕ). fault_by false (length (map_found files)) (pages_in (first_in files) (max (length files.main) (length (map_found files) * size_in files))) n) (s.byte is)
        ∙ ap (λ (new : Bool). fault_by new (length (map_found files)) (pages_in (first_in files) (max (length files.main) (length (map_found files) * size_in files))) (byte_in files)) (sym is ∙ s.new)

-- and whether its versions and log 2 go together
pub mixed_is : (new_size : ℕ) (files : Files) (seen : SeenView) → IsSeen new_size files seen → is_mixed_seen seen ≡ is_mixed files
mixed_is new_size files seen s = by seen.is_new refl
  where
    by : (new : Bool) → seen.is_new ≡ new → is_mixed_seen seen ≡ is_mixed files
    by true is =
        ap (λ (new : Bool). is_mixed_by new seen.is_ours seen.two) is
        ∙ ap (λ (new : Bool). is_mixed_by new (is_ours_in files) (front_of 2 files.log2)) (sym is ∙ s.new)
    by false is =
        ap (λ (ours : Bool). is_mixed_by seen.is_new ours seen.two) (s.ours is)
        ∙ ap (λ front. is_mixed_by seen.is_new (is_ours_in files) front) s.two
        ∙ ap (λ (new : Bool). is_mixed_by new (is_ours_in files) (front_of 2 files.log2)) s.new

-- no new database is so
old_of : (new ours own : Bool) → (not new && not ours && own) ≡ true → new ≡ false
old_of true ours own is = cc
old_of false ours own is = refl

-- such files are refused by the count of their pages and byte 100
pub mixed_refused : (new_size : ℕ) (files : Files) (seen : SeenView) → IsSeen new_size files seen → fault_seen seen ≡ None → is_mixed_seen seen ≡ true
    → (pages_fault files ≡ None) × (is_mixed files ≡ true) × (length seen.places ≡ length (map_found files)) × (seen.byte ≡ byte_in files)
mixed_refused new_size files seen s none mixed =
    let old = old_of seen.is_new seen.is_ours (is_front_ours seen.two) mixed in (
      sym (fault_is new_size files seen s) ∙ none,
      sym (mixed_is new_size files seen s) ∙ mixed,
      s.count ∙ ap (λ (new : Bool). if new then 0 else length (map_found files)) old,
      s.byte old,
    )

-- other files are opened
pub opened_of : (new_size : ℕ) (hot : Option Bool) (files : Files) (seen : SeenView) → IsSeen new_size files seen → AreFine hot files → fault_seen seen ≡ None → is_mixed_seen seen ≡ false
    → AreOpened hot files
opened_of new_size hot files seen s fine none apart = record {
  look = fine;
  pages = sym (fault_is new_size files seen s) ∙ none;
  settles = sym (mixed_is new_size files seen s) ∙ apart;
}

-- a log that doesn't begin with a header of ours has no accepted frame
pub no_header : (log : ℕ) (bytes : List ℕ) → is_front_ours (front_of log bytes) ≡ false → accepted_frames log bytes ≡ []
unfolding front_of accepted_frames
no_header log bytes none = by (is_signed bytes) (foreign_at log (log_fields bytes)) refl refl none
  where
    frames : List Frame
    frames = up_to_commit (valid_frames (length bytes) (log_fields bytes) (log_fields bytes).sum (drop header_size bytes))

    taken : Bool → List Frame
    taken own = if own then frames else []

    by : (s : Bool) (at : Option ℕ) → is_signed bytes ≡ s → foreign_at log (log_fields bytes) ≡ at → is_front_ours (if s then signed_front bytes at else Nothing) ≡ false
        → taken (is_signed bytes && is_none (foreign_at log (log_fields bytes))) ≡ []
    by true None is own none = cc
    by true (Some at) is own none = ap (λ (s : Bool). taken (s && is_none (foreign_at log (log_fields bytes)))) is ∙ ap (λ (o : Option ℕ). taken (true && is_none o)) own
    by false at is own none = ap (λ (s : Bool). taken (s && is_none (foreign_at log (log_fields bytes)))) is

-- What is opened may be settled: nothing is there yet, the versions are this program's, or log 2 has no header of ours.
pub opened_settles : (hot : Option Bool) (files : Files) → AreOpened hot files → MaySettle files
opened_settles hot files opened = by (is_new_in files) (is_ours_in files) refl refl opened.settles
  where
    none : (empty : Bool) (one two : List Frame) → (empty && not (is_some_list one || is_some_list two)) ≡ true → two ≡ []
    none true [] [] is = refl
    none true [] (frame ∷ two) is = cc
    none true (frame ∷ one) two is = cc
    none false one two is = cc

    by : (new ours : Bool) → is_new_in files ≡ new → is_ours_in files ≡ ours → is_mixed_by new ours (front_of 2 files.log2) ≡ false → MaySettle files
    by true ours is own apart = inr (none (length files.main == 0) (one_in files).frames (two_in files).frames is)
    by false true is own apart = inl own
    by false false is own apart = inr (no_header 2 files.log2 apart)
