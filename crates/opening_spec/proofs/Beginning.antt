-- As an opening begins its first state holds.
use Rattle.std.proofs.Common.{◌≡◌, ℕ, ◌+◌, ◌%◌, ◌^◌, ◌≤◌, ◌<◌, ◌==◌, Bool, true, false, if◌then◌else◌, List, [], ◌∷◌, ◌++◌, length, take, max, Some, refl, sym, ◌∙◌, subst, arith, inl, inr}
use Rattle.std.specs.Prelude.{All, ◌||◌}
use Rattle.std.proofs.lemmas.Bool.Decides.{Decides-eqb}
use Rattle.std.proofs.lemmas.List.{take-take, length-take}
use Rattle.std.proofs.lemmas.List.Elements.{All-nil, All-cons, All-weaker, All-append}
use Rattle.disk_face.specs.declared.disk.File.{File}
use Rattle.disk_face.specs.declared.disk.File.TheVariants.{Log1, Log2}
use Rattle.disk_face.specs.declared.step.Piece.{Piece}
use Rattle.disk_face.specs.Files.{Files, content}
use Rattle.disk_face.specs.Steps.{History, reads}
use Rattle.page_spec.specs.Bytes.{u32_at}
use Rattle.log_spec.specs.Checksum.{Sum}
use Rattle.log_spec.specs.LogHeader.{LogFields, log_fields, is_signed, header_size, header_bytes, IsOurs}
use Rattle.log_spec.specs.Accept.{Frame, AreValidFrames, sum_after}
use Rattle.log_spec.specs.Frames.{accepted_frames, is_ours}
use Rattle.log_spec.proofs.AcceptedIs.{accepted_is}
use Rattle.log_spec.proofs.HeaderLaws.{signed-take, signed_long, ours_front}
use Rattle.crash_spec.specs.Marks.{IsLog, number_of, header_piece, accepted_pieces, pieces_from, marks}
use Rattle.crash_spec.specs.Opening.{Since, opening_at, rebased}
use Rattle.crash_spec.specs.Logs.{IsWhole, HasHeader, IsOnlyHeader, IsBehind, AreBehind, IsOursAt, NoneForeign}
use Rattle.crash_spec.specs.Recovered.{recovered}
use Rattle.crash_spec.proofs.Pieces.{pieces_behind, contains_none}
use Rattle.opening_spec.specs.States.{IsSyncing, is_on_medium}
use Rattle.opening_spec.specs.Begins.{salt_in, found_in, view_at, MayOpen}
use Rattle.opening_spec.proofs.Synced.{recovered_by}

-- what holds of a log's header and of its accepted frames holds of all its marks
all_marks : (P : Piece → Type 0) (log : File) (bytes : List ℕ) → (is_signed bytes ≡ true → P (header_piece log bytes)) → All P (accepted_pieces log bytes) → All P (marks log bytes)
unfolding marks
all_marks P log bytes header frames = by (is_signed bytes) header
  where
    by : (signed : Bool) → (signed ≡ true → P (header_piece log bytes)) → All P ((if signed then header_piece log bytes ∷ [] else []) ++ accepted_pieces log bytes)
    by true header = All-cons P (header_piece log bytes) (accepted_pieces log bytes) (header refl) frames
    by false header = frames

-- pieces of one log are of that log
pieces_of_file : (file : File) (at : ℕ) (frames : List Frame) → All (λ piece. piece.file ≡ file) (pieces_from file at frames)
pieces_of_file file at [] = All-nil (λ (piece : Piece). piece.file ≡ file)
pieces_of_file file at (frame ∷ rest) = All-cons (λ (piece : Piece). piece.file ≡ file) _ _ refl (pieces_of_file file (at + length frame) rest)

-- and frames of one header have its first salt
pieces_salted : (file : File) (at : ℕ) (header : LogFields) (sum : Sum) (frames : List Frame) → AreValidFrames header sum frames → All (λ piece. u32_at piece.bytes 8 ≡ header.salt1) (pieces_from file at frames)
pieces_salted file at header sum [] valid = All-nil (λ (piece : Piece). u32_at piece.bytes 8 ≡ header.salt1)
pieces_salted file at header sum (frame ∷ rest) (valid, others) =
    All-cons (λ (piece : Piece). u32_at piece.bytes 8 ≡ header.salt1) _ _ valid.same_salt1 (pieces_salted file (at + length frame) header (sum_after header sum frame) rest others)

not_ours_none : (log : ℕ) (bytes : List ℕ) → is_ours log bytes ≡ false → accepted_frames log bytes ≡ []
unfolding accepted_frames
not_ours_none log bytes is = rw is refl

same_rest : (m n : ℕ) → m ≡ n → (m + 0) % 2 ^ 32 ≡ n % 2 ^ 32
same_rest m n is = omega arith

-- what holds of no piece of another log holds of all marks of that one
marks_there : (P : Piece → Type 0) (other : File) (files : Files) → ((piece : Piece) → piece.file ≡ other → P piece) → All P (marks other (content files other))
marks_there P other files apart =
    all_marks P other (content files other) (λ signed. apart (header_piece other (content files other)) refl)
    (All-weaker (λ piece. piece.file ≡ other) P apart _ (pieces_of_file other header_size (accepted_frames (number_of other) (content files other))))

module _ (files : Files) where
  only_here : (log : File) → IsOnlyHeader (marks log (content files log)) log (header_bytes (content files log))
  only_here log =
      all_marks (HasHeader log (header_bytes (content files log))) log (content files log)
      (λ signed is at here. take-take header_size header_size (content files log) (omega arith))
      (All-weaker (λ piece. header_size ≤ piece.at) (HasHeader log (header_bytes (content files log))) (λ piece far is at signed. absurd (omega arith)) _
      (pieces_behind log header_size (accepted_frames (number_of log) (content files log))))

  frames_behind : (log : File) (ours : Bool) → is_ours (number_of log) (content files log) ≡ ours
      → All (IsBehind log (salt_in (number_of log) (content files log)) 0) (accepted_pieces log (content files log))
  frames_behind log true is =
      let salt : salt_in (number_of log) (content files log) ≡ (log_fields (content files log)).salt1 % 2 ^ 32 = rw is refl in
      All-weaker (λ piece. u32_at piece.bytes 8 ≡ (log_fields (content files log)).salt1) (IsBehind log (salt_in (number_of log) (content files log)) 0)
      (λ piece same file far. (0, omega arith, same_rest (u32_at piece.bytes 8) (log_fields (content files log)).salt1 same ∙ sym salt)) _
      (pieces_salted log header_size (log_fields (content files log)) (log_fields (content files log)).sum (accepted_frames (number_of log) (content files log))
      (accepted_is (number_of log) (content files log)).committed.valid)
  frames_behind log false is =
      subst (λ (frames : List Frame). All (IsBehind log (salt_in (number_of log) (content files log)) 0) (pieces_from log header_size frames))
      (sym (not_ours_none (number_of log) (content files log) is)) (All-nil (IsBehind log (salt_in (number_of log) (content files log)) 0))

  behind_here : (log : File) → AreBehind (marks log (content files log)) log (found_in log files).salt 0
  behind_here log =
      all_marks (IsBehind log (found_in log files).salt 0) log (content files log) (λ signed is far. absurd (omega arith))
      (frames_behind log (is_ours (number_of log) (content files log)) refl)

  ours_here : (log : File) → IsLog log → NoneForeign files → All (IsOursAt log) (marks log (content files log))
  ours_here log is fronts =
      all_marks (IsOursAt log) log (content files log) (λ signed same at here. own (content files log) here (fronts log is))
      (All-weaker (λ piece. header_size ≤ piece.at) (IsOursAt log) (λ piece far same at signed. absurd (omega arith)) _
      (pieces_behind log header_size (accepted_frames (number_of log) (content files log))))
    where
      own : (bytes : List ℕ) → is_signed (take header_size bytes) ≡ true → (is_signed bytes ≡ true → IsOurs (number_of log) bytes) → IsOurs (number_of log) (take header_size bytes)
      own bytes signed ours =
          let short = signed_long (take header_size bytes) signed in
          let long : header_size ≤ length bytes = omega (arith, length-take header_size bytes) in
          ours_front (number_of log) bytes (take header_size bytes) long short (sym (take-take header_size header_size bytes (omega arith)))
          (ours (sym (signed-take bytes long) ∙ signed))

one_not_two : Log2 ≡ Log1 → ⊥
one_not_two is = cc

two_not_one : Log1 ≡ Log2 → ⊥
two_not_one is = cc

-- what holds of all marks of log 1, and of all pieces of log 2
all_known1 : (P : Piece → Type 0) (files : Files) → All P (marks Log1 files.log1) → ((piece : Piece) → (piece.file ≡ Log1 → ⊥) → P piece) → All P (marks Log1 files.log1 ++ marks Log2 files.log2)
all_known1 P files here apart =
    All-append P (marks Log1 files.log1) (marks Log2 files.log2) here (marks_there P Log2 files (λ piece of. apart piece (λ is. one_not_two (sym of ∙ is))))

all_known2 : (P : Piece → Type 0) (files : Files) → All P (marks Log2 files.log2) → ((piece : Piece) → (piece.file ≡ Log2 → ⊥) → P piece) → All P (marks Log1 files.log1 ++ marks Log2 files.log2)
all_known2 P files here apart =
    All-append P (marks Log1 files.log1) (marks Log2 files.log2) (marks_there P Log1 files (λ piece of. apart piece (λ is. two_not_one (sym of ∙ is)))) here

empty_is_whole : (told : History) (log : File) → is_on_medium log (rebased told []) ≡ true → IsWhole (opening_at told) (rebased told []) log
empty_is_whole told log on place inside = absurd (none (length (content (reads told) log)) on inside)
  where
    none : (n : ℕ) → (n == 0 || false) ≡ true → place < n → ⊥
    none n is less = let zero_is : n ≡ 0 = (Decides-eqb n 0).0 (or_false (n == 0) is) in omega arith
      where
        or_false : (b : Bool) → (b || false) ≡ true → b ≡ true
        or_false true is = refl
        or_false false is = is

pub begins : (size : ℕ) (told : History) → MayOpen size told
    → IsSyncing (view_at size told) (found_in Log1 (reads told)) (found_in Log2 (reads told)) [] (rebased told [])
begins size told may =
    let files : Files = reads told in
    let header1 : List ℕ = header_bytes files.log1 in
    let header2 : List ℕ = header_bytes files.log2 in
    record {
      opened = record {
        log1 = record {
          is_log = tt;
          accepted = inl refl;
          only = all_known1 (HasHeader Log1 header1) files (only_here files Log1) (λ piece other is. absurd (other is));
          behind = all_known1 (IsBehind Log1 (found_in Log1 files).salt 0) files (behind_here files Log1) (λ piece other is. absurd (other is));
          ours = all_known1 (IsOursAt Log1) files (ours_here files Log1 tt may.fronts) (λ piece other is. absurd (other is));
        };
        log2 = record {
          is_log = tt;
          accepted = inl refl;
          only = all_known2 (HasHeader Log2 header2) files (only_here files Log2) (λ piece other is. absurd (other is));
          behind = all_known2 (IsBehind Log2 (found_in Log2 files).salt 0) files (behind_here files Log2) (λ piece other is. absurd (other is));
          ours = all_known2 (IsOursAt Log2) files (ours_here files Log2 tt may.fronts) (λ piece other is. absurd (other is));
        };
        main = may.main;
        fits = may.fits;
        is = refl;
        sizes = λ had. (had Log1 tt, had Log2 tt);
        keeps = (omega arith, λ is. inr is);
      };
      fewer = λ image left chance. (left, chance);
      whole = λ log c. absurd (contains_none log c);
      each = λ log on. empty_is_whole told log on;
    }

-- so a disk that is opened now is in that state
pub since_begins : (size : ℕ) (told : History) → MayOpen size told
    → Since told (IsSyncing (view_at size told) (found_in Log1 (reads told)) (found_in Log2 (reads told)) []) (Some told)
since_begins size told may = ([], refl, begins size told may)

-- and its map is the recovered one
pub map_is_recovered : (size : ℕ) (told : History) → recovered (reads told) ≡ (view_at size told).map
map_is_recovered size told = recovered_by (reads told) (found_in Log1 (reads told)) (found_in Log2 (reads told)) refl refl
