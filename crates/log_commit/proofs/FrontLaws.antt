-- What is known of a log's front, from step to step.
use Rattle.std.proofs.Common.{◌≡◌, ◌∙◌, ℕ, ◌+◌, ◌%◌, ◌^◌, ◌<◌, ◌≤◌, false, List, [], ◌∷◌, ◌++◌, length, take, drop, length-append, refl, sym, ap, subst, arith, Option}
use Rattle.std.specs.Prelude.{All}
use Rattle.std.proofs.lemmas.List.{take-append-le, take-take, length-take}
use Rattle.std.proofs.lemmas.List.Elements.{All-head, All-tail, All-cons, All-filter}
use Rattle.disk_face.specs.declared.disk.File.{File}
use Rattle.disk_face.specs.declared.disk.File.TheVariants.{Main}
use Rattle.disk_face.specs.declared.step.Piece.{Piece}
use Rattle.disk_face.specs.declared.step.Step.{Step}
use Rattle.disk_face.specs.declared.step.Step.TheVariants.{Wrote, Refused, Synced}
use Rattle.disk_face.specs.Files.{content, overwritten, put}
use Rattle.disk_face.specs.Image.{same_file}
use Rattle.disk_face.specs.Steps.{History, reads, after, further}
use Rattle.disk_face.proofs.Contents.{content-put}
use Rattle.page_spec.specs.Bytes.{u32_at}
use Rattle.log_spec.specs.LogHeader.{LogFields, log_fields, IsOurs, header_size, header_bytes}
use Rattle.crash_spec.specs.Elsewhere.{IsElsewhere}
use Rattle.crash_spec.specs.Known.{known_pieces, outlasts}
use Rattle.crash_spec.specs.Logs.{IsWhole, IsFresh, IsOneOf, HasHeader, IsBehind, IsOursAt, IsOnlyHeader}
use Rattle.crash_spec.specs.Marks.{IsLog, number_of}
use Rattle.crash_spec.specs.Opening.{Opening, Since, grown}
use Rattle.crash_spec.proofs.Elsewhere.{content_elsewhere, only_elsewhere, behind_elsewhere, ours_elsewhere}
use Rattle.crash_spec.proofs.Headers.{only_header}
use Rattle.crash_spec.proofs.Salts.{behind_next, behind_more, next_is_fresh}
use Rattle.crash_spec.proofs.StoreSteps.{main_apart}
use Rattle.log_pair.specs.Switch.{front_piece}
use Rattle.log_commit.specs.GoesBy.{GoesBy}
use Rattle.log_commit.specs.Commit.{IsCommitStep}
use Rattle.log_commit.specs.Fronts.{HasFront}
use Rattle.log_commit.proofs.SinceSteps.{since_after, since_goes, whole_goes, commits_elsewhere}

-- a step that writes nothing to the log leaves its front, be it a sync of the log itself
pub front_elsewhere : (opening : Opening) (told : History) (log : File) (salt most : ℕ) (step : Step) → IsElsewhere log step
    → HasFront opening told log salt most → HasFront opening (further step told) log salt most
front_elsewhere opening told log salt most step apart front = record {
  only = subst (λ (bytes : List ℕ). IsOnlyHeader (known_pieces opening (further step told)) log (header_bytes bytes)) (sym (content_elsewhere log step told apart))
      (only_elsewhere opening log (header_bytes (content (reads told) log)) step told apart front.only);
  behind = behind_elsewhere opening log salt most step told apart front.behind;
  ours = ours_elsewhere opening log step told apart front.ours;
}

-- so do such steps, one after the other
pub front_goes : (opening : Opening) (told : History) (log : File) (salt most : ℕ) (more : List Step) → All (IsElsewhere log) more
    → HasFront opening told log salt most → HasFront opening (grown more told) log salt most
front_goes opening told log salt most [] apart front = front
front_goes opening told log salt most (step ∷ more) apart front =
    front_elsewhere opening (grown more told) log salt most step (All-head (IsElsewhere log) step more apart)
    (front_goes opening told log salt most more (All-tail (IsElsewhere log) step more apart) front)

-- a piece of Main that was written, or whose write was refused, and a sync of any file
pub front_main : (opening : Opening) (told : History) (log : File) (salt most : ℕ) (piece : Piece) → IsLog log → piece.file ≡ Main
    → HasFront opening told log salt most → HasFront opening (further (Wrote piece) told) log salt most
front_main opening told log salt most piece is main front =
    front_elsewhere opening told log salt most (Wrote piece) (ap (λ (f : File). same_file f log) main ∙ main_apart log is) front

pub front_main_refused : (opening : Opening) (told : History) (log : File) (salt most : ℕ) (piece : Piece) (left : List ℕ) → IsLog log → piece.file ≡ Main
    → HasFront opening told log salt most → HasFront opening (further (Refused piece left) told) log salt most
front_main_refused opening told log salt most piece left is main front =
    front_elsewhere opening told log salt most (Refused piece left) (ap (λ (f : File). same_file f log) main ∙ main_apart log is) front

pub front_synced : (opening : Opening) (told : History) (log : File) (salt most : ℕ) (file : File)
    → HasFront opening told log salt most → HasFront opening (further (Synced file) told) log salt most
front_synced opening told log salt most file front = front_elsewhere opening told log salt most (Synced file) tt front

-- the steps of a commit to the other log
pub front_beside : (opening : Opening) (told : History) (file log : File) (header : LogFields) (salt most : ℕ) (more : List Step) → same_file file log ≡ false
    → All (IsCommitStep file header) more → HasFront opening told log salt most → HasFront opening (grown more told) log salt most
front_beside opening told file log header salt most more apart all front =
    front_goes opening told log salt most more (commits_elsewhere file log header more apart all) front

-- what is written behind a front leaves it, in bytes that reach so far
front_kept : (n at : ℕ) (bytes before : List ℕ) → n ≤ at → n ≤ length before → take n (overwritten at bytes before) ≡ take n before
front_kept n at bytes before behind long =
    take-append-le n (take at before ++ bytes) (drop (at + length bytes) before) (omega (arith, length-append (take at before) bytes, length-take at before))
    ∙ take-append-le n (take at before) bytes (omega (arith, length-take at before))
    ∙ take-take n at before behind

long_kept : (n at : ℕ) (bytes before : List ℕ) → n ≤ at → n ≤ length before → n ≤ length (overwritten at bytes before)
long_kept n at bytes before behind long =
    omega (arith, length-append (take at before ++ bytes) (drop (at + length bytes) before), length-append (take at before) bytes, length-take at before)

-- a piece of the log with the salts of its header, handed to a write that has left these bytes
module _ (opening : Opening) (told : History) (log : File) (header : LogFields) (salt most : ℕ) (piece : Piece) (left : List ℕ) (salted : header.salt1 ≡ salt)
    (small : salt < 2 ^ 32) (long : header_size ≤ length (content (reads told) log)) (is : piece.file ≡ log) (far : header_size ≤ piece.at)
    (salt1 : u32_at piece.bytes 8 ≡ header.salt1) (front : HasFront opening told log salt most) where
  abbrev content_then : List ℕ
  content_then = content (put piece.file piece.at left (reads told)) log

  reads_then : content_then ≡ overwritten piece.at left (content (reads told) log)
  reads_then = ap (λ (f : File). content (put f piece.at left (reads told)) log) is ∙ content-put log piece.at left (reads told)

  long_then : header_size ≤ length content_then
  long_then = subst (λ (bytes : List ℕ). header_size ≤ length bytes) (sym reads_then) (long_kept header_size piece.at left (content (reads told) log) far long)

  only_then : IsOnlyHeader (piece ∷ known_pieces opening told) log (header_bytes content_then)
  only_then =
      subst (λ (bytes : List ℕ). IsOnlyHeader (piece ∷ known_pieces opening told) log bytes)
      (sym (ap header_bytes reads_then ∙ front_kept header_size piece.at left (content (reads told) log) far long))
      (All-cons (HasHeader log (header_bytes (content (reads told) log))) piece (known_pieces opening told) (λ file at signed. absurd (omega (arith, far, at))) front.only)

  ours_then : All (IsOursAt log) (piece ∷ known_pieces opening told)
  ours_then = All-cons (IsOursAt log) piece (known_pieces opening told) (λ file at signed. absurd (omega (arith, far, at))) front.ours

  behind_then : All (IsBehind log salt most) (piece ∷ known_pieces opening told)
  behind_then = behind_more (known_pieces opening told) log salt most piece small (salt1 ∙ salted) front.behind

-- a step of a commit to this log, which reaches behind its header and goes on to do so
pub front_commit_step : (opening : Opening) (told : History) (log : File) (header : LogFields) (salt most : ℕ) (step : Step) → header.salt1 ≡ salt → salt < 2 ^ 32
    → header_size ≤ length (content (reads told) log) → IsCommitStep log header step → HasFront opening told log salt most
    → HasFront opening (further step told) log salt most × (header_size ≤ length (content (reads (further step told)) log))
front_commit_step opening told log header salt most (Wrote piece) salted small long (is, far, salts) front = (
  record {
    only = only_then opening told log header salt most piece piece.bytes salted small long is far salts.0 front;
    behind = behind_then opening told log header salt most piece piece.bytes salted small long is far salts.0 front;
    ours = ours_then opening told log header salt most piece piece.bytes salted small long is far salts.0 front;
  },
  long_then opening told log header salt most piece piece.bytes salted small long is far salts.0 front,
)
front_commit_step opening told log header salt most (Refused piece left) salted small long (is, far, salts, within) front = (
  record {
    only = only_then opening told log header salt most piece left salted small long is far salts.0 front;
    behind = behind_then opening told log header salt most piece left salted small long is far salts.0 front;
    ours = ours_then opening told log header salt most piece left salted small long is far salts.0 front;
  },
  long_then opening told log header salt most piece left salted small long is far salts.0 front,
)
front_commit_step opening told log header salt most (Synced other) salted small long is front = (front_synced opening told log salt most other front, long)

-- and all of them
pub front_commits : (opening : Opening) (told : History) (log : File) (header : LogFields) (salt most : ℕ) (more : List Step) → header.salt1 ≡ salt → salt < 2 ^ 32
    → header_size ≤ length (content (reads told) log) → All (IsCommitStep log header) more → HasFront opening told log salt most
    → HasFront opening (grown more told) log salt most × (header_size ≤ length (content (reads (grown more told)) log))
front_commits opening told log header salt most [] salted small long all front = (front, long)
front_commits opening told log header salt most (step ∷ more) salted small long all front =
    let before = front_commits opening told log header salt most more salted small long (All-tail (IsCommitStep log header) step more all) front in
    front_commit_step opening (grown more told) log header salt most step salted small before.1 (All-head (IsCommitStep log header) step more all) before.0

-- no known piece behind the front has the salts of the next header, so that a store may go over to the log
pub front_fresh : (opening : Opening) (told : History) (log : File) (salt most : ℕ) (bytes : List ℕ) → most + 1 < 2 ^ 32 → (log_fields bytes).salt1 ≡ (salt + 1) % 2 ^ 32
    → HasFront opening told log salt most → IsFresh (front_piece log bytes ∷ known_pieces opening told) log (log_fields bytes) header_size []
front_fresh opening told log salt most bytes few next front =
    All-cons (IsOneOf log (log_fields bytes) header_size []) (front_piece log bytes) (known_pieces opening told) (λ file far salts. absurd (omega arith))
    (next_is_fresh (known_pieces opening told) log salt most (log_fields bytes) front.behind few next)

-- a log that has its next header on the medium
abbrev pub begun : History → File → List ℕ → History
begun told log bytes = further (Synced log) (further (Wrote (front_piece log bytes)) told)

pub front_begun : (opening : Opening) (told : History) (log : File) (salt most : ℕ) (bytes : List ℕ) → IsOurs (number_of log) bytes
    → HasFront opening told log salt most → HasFront opening (begun told log bytes) log ((salt + 1) % 2 ^ 32) (most + 1)
front_begun opening told log salt most bytes own front =
    let piece : Piece = front_piece log bytes in
    let written : History = further (Wrote piece) told in
    let next : ℕ = (salt + 1) % 2 ^ 32 in
    record {
      only = only_header opening written log;
      behind = All-filter (outlasts log (reads written)) (IsBehind log next (most + 1)) (piece ∷ known_pieces opening told)
          (All-cons (IsBehind log next (most + 1)) piece (known_pieces opening told) (λ file far. absurd (omega arith))
          (behind_next (known_pieces opening told) log salt most front.behind));
      ours = All-filter (outlasts log (reads written)) (IsOursAt log) (piece ∷ known_pieces opening told)
          (All-cons (IsOursAt log) piece (known_pieces opening told) (λ file at signed. own) front.ours);
    }

-- and what is known of the other one meanwhile
pub front_beside_begun : (opening : Opening) (told : History) (file log : File) (salt most : ℕ) (bytes : List ℕ) → same_file file log ≡ false
    → HasFront opening told log salt most → HasFront opening (begun told file bytes) log salt most
front_beside_begun opening told file log salt most bytes apart front =
    front_synced opening (further (Wrote (front_piece file bytes)) told) log salt most file
    (front_elsewhere opening told log salt most (Wrote (front_piece file bytes)) apart front)

-- the same since an opening
pub since_begun : (opening : Opening) (P Q : History → Type 0) (log : File) (bytes : List ℕ) (old new : Option History)
    → new ≡ after (Synced log) (after (Wrote (front_piece log bytes)) old) → ((told : History) → P told → Q (begun told log bytes))
    → Since opening.start P old → Since opening.start Q new
since_begun opening P Q log bytes old new is law h =
    since_after opening.start (λ mid. (told : History) × P told × (mid ≡ further (Wrote (front_piece log bytes)) told)) Q (Synced log)
    (after (Wrote (front_piece log bytes)) old) new is
    (λ mid (told, holds, same). subst (λ (m : History). Q (further (Synced log) m)) (sym same) (law told holds))
    (since_after opening.start P (λ mid. (told : History) × P told × (mid ≡ further (Wrote (front_piece log bytes)) told)) (Wrote (front_piece log bytes)) old
    (after (Wrote (front_piece log bytes)) old) refl (λ told holds. (told, holds, refl)) h)

-- what is known of both logs after a commit's steps, done or not
pub since_commit_fronts : (opening : Opening) (P : History → Type 0) (file other : File) (header : LogFields) (salt most salt_there most_there : ℕ) (old new : Option History)
    → GoesBy (IsCommitStep file header) old new → header.salt1 ≡ salt → salt < 2 ^ 32 → same_file file other ≡ false
    → ((told : History) → P told → (header_size ≤ length (content (reads told) file)) × HasFront opening told file salt most × HasFront opening told other salt_there most_there)
    → Since opening.start P old → Since opening.start (λ told. HasFront opening told file salt most × HasFront opening told other salt_there most_there) new
since_commit_fronts opening P file other header salt most salt_there most_there old new goes salted small apart has h =
    since_goes opening.start P (λ told. HasFront opening told file salt most × HasFront opening told other salt_there most_there) (IsCommitStep file header) old new goes
    (λ told more all holds.
    let now = has told holds in (
      (front_commits opening told file header salt most more salted small now.0 all now.1).0,
      front_beside opening told file other header salt_there most_there more apart all now.2,
    )) h

-- and what is on the medium of any other file
pub since_commit_whole : (opening : Opening) (file other : File) (header : LogFields) (old new : Option History) → GoesBy (IsCommitStep file header) old new
    → same_file file other ≡ false → Since opening.start (λ told. IsWhole opening told other) old → Since opening.start (λ told. IsWhole opening told other) new
since_commit_whole opening file other header old new goes apart h =
    since_goes opening.start (λ told. IsWhole opening told other) (λ told. IsWhole opening told other) (IsCommitStep file header) old new goes
    (λ told more all whole. whole_goes opening other told more (commits_elsewhere file other header more apart all) whole) h
