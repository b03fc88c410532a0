-- Laws of images: what a crash may leave, from step to step and file by file.
use Rattle.std.proofs.Common.{◌≡◌, ℕ, zero, suc, ◌+◌, ◌<◌, ◌≤◌, Bool, true, false, not, cond, List, [], ◌∷◌, ◌++◌, length, take, refl, sym, ◌∙◌, ap, arith}
use Rattle.std.proofs.lemmas.Grind.{same_number_lists}
use Rattle.std.proofs.lemmas.Bool.{true≢false}
use Rattle.std.proofs.lemmas.List.{length-take, get_or-take}
use Rattle.std.proofs.lemmas.List.Elements.{All-nil, All-cons, All-filter}
use Rattle.disk_face.specs.declared.disk.File.{File}
use Rattle.disk_face.specs.declared.disk.File.TheVariants.{Main, Log1, Log2}
use Rattle.disk_face.specs.declared.step.Step.{Step}
use Rattle.disk_face.specs.declared.step.Step.TheVariants.{Wrote, Refused, Synced}
use Rattle.disk_face.specs.Files.{Files, content, put}
use Rattle.disk_face.specs.Steps.{History, now, reads, further}
use Rattle.disk_face.specs.Image.{Range, range_of, same_file, of_others, unsure, IsOutside, IsSure, IsFileImage, IsImage, MayLeave}

pub same_file-refl : (file : File) → same_file file file ≡ true
same_file-refl Main = refl
same_file-refl Log1 = refl
same_file-refl Log2 = refl

pub same_file-true : (one other : File) → same_file one other ≡ true → one ≡ other
same_file-true Main Main h = refl
same_file-true Main Log1 h = cc
same_file-true Main Log2 h = cc
same_file-true Log1 Main h = cc
same_file-true Log1 Log1 h = refl
same_file-true Log1 Log2 h = cc
same_file-true Log2 Main h = cc
same_file-true Log2 Log1 h = cc
same_file-true Log2 Log2 h = refl

-- the disk as it reads is one of its images
pub reads_may_stay : (before : List Range) (told : History) → MayLeave before told (reads told)
reads_may_stay before told file = record { no_longer = omega arith; reaches = λ place inside sure. inside; sure = λ place inside sure. refl }

-- where a front of a file is sure, an image has it
pub front_is_sure : (ranges : List Range) (file : File) (read image : List ℕ) (count : ℕ) → count ≤ length read
    → ((place : ℕ) → place < count → IsSure ranges file place) → IsFileImage ranges file read image → take count image ≡ take count read
front_is_sure ranges file read image zero within sure is = refl
front_is_sure ranges file read image (suc last) within sure is =
    let long : last < length image = is.reaches last (omega arith) (sure last (omega arith)) in
    same_number_lists (take (suc last) image) (take (suc last) read) (omega (arith, length-take (suc last) image, length-take (suc last) read))
    (λ place inside. let below : place < suc last = omega (arith, length-take (suc last) image) in
    get_or-take (suc last) image place 0 below ∙ is.sure place (omega arith) (sure place below) ∙ sym (get_or-take (suc last) read place 0 below))

-- a file of which all is sure is left as reads give it, whatever is unsure of the others
pub file_is_sure : (ranges : List Range) (file : File) (read image : Files) → ((place : ℕ) → place < length (content read file) → IsSure ranges file place)
    → IsImage ranges read image → content image file ≡ content read file
file_is_sure ranges file read image sure is =
    let long : length (content read file) ≤ length (content image file) = reaches_end (length (content read file)) (omega arith) in
    same_number_lists (content image file) (content read file) (omega (arith, (is file).no_longer))
    (λ place inside. let below : place < length (content read file) = omega (arith, (is file).no_longer) in (is file).sure place below (sure place below))
  where
    reaches_end : (count : ℕ) → count ≤ length (content read file) → count ≤ length (content image file)
    reaches_end zero within = omega arith
    reaches_end (suc last) within = let inside = (is file).reaches last (omega arith) (sure last (omega arith)) in omega arith

-- where all is on the medium, a crash leaves what reads give
pub settled : (read image : Files) → IsImage [] read image → image ≡ read
settled read image is = λ i. record {
  main = settled_file Main i;
  log1 = settled_file Log1 i;
  log2 = settled_file Log2 i;
}
  where
    settled_file : (file : File) → content image file ≡ content read file
    settled_file file = file_is_sure [] file read image (λ place inside. All-nil (IsOutside file place)) is

-- a sync makes nothing unsure
pub sure_synced : (synced file : File) (ranges : List Range) (place : ℕ) → IsSure ranges file place → IsSure (of_others synced ranges) file place
sure_synced synced file ranges place sure = All-filter (λ range. not (same_file range.file synced)) (IsOutside file place) ranges sure

-- what a crash may leave after a sync it might have left before it
pub synced_leaves_fewer : (before : List Range) (synced : File) (told : History) (image : Files) → MayLeave before (further (Synced synced) told) image → MayLeave before told image
synced_leaves_fewer before synced told image left file = record {
  no_longer = (left file).no_longer;
  reaches = λ place inside sure. (left file).reaches place inside (sure_synced synced file (unsure before told.steps) place sure);
  sure = λ place inside sure. (left file).sure place inside (sure_synced synced file (unsure before told.steps) place sure);
}

-- a range of another file leaves a file sure
pub sure_apart : (range : Range) (ranges : List Range) (file : File) (place : ℕ) → same_file range.file file ≡ false → IsSure ranges file place → IsSure (range ∷ ranges) file place
sure_apart range ranges file place apart sure =
    All-cons (IsOutside file place) range ranges
    (λ one from below. true≢false (sym (same_file-refl file) ∙ ap (λ name. same_file name file) (sym one) ∙ apart)) sure

-- a range of the file leaves the places outside it sure
pub sure_outside : (range : Range) (ranges : List Range) (file : File) (place : ℕ) → (range.from ≤ place → place < range.from + range.count → ⊥)
    → IsSure ranges file place → IsSure (range ∷ ranges) file place
sure_outside range ranges file place outside sure = All-cons (IsOutside file place) range ranges (λ one from below. outside from below) sure

kept_is_sure : (same : Bool) (file : File) (range : Range) (rest : List Range) (place : ℕ) → same_file range.file file ≡ same → IsSure rest file place
    → IsSure (cond (not same) (range ∷ rest) rest) file place
kept_is_sure true file range rest place is sure = sure
kept_is_sure false file range rest place is sure = sure_apart range rest file place is sure

-- no place of a file is unsure after a sync of it
pub synced_is_sure : (file : File) (ranges : List Range) (place : ℕ) → IsSure (of_others file ranges) file place
synced_is_sure file [] place = All-nil (IsOutside file place)
synced_is_sure file (range ∷ ranges) place = kept_is_sure (same_file range.file file) file range (of_others file ranges) place refl (synced_is_sure file ranges place)

-- after a sync of a file a crash leaves it as reads give it
pub synced_file_stays : (before : List Range) (file : File) (told : History) (image : Files) → MayLeave before (further (Synced file) told) image
    → content image file ≡ content (reads told) file
synced_file_stays before file told image left =
    file_is_sure (of_others file (unsure before told.steps)) file (reads told) image (λ place inside. synced_is_sure file (unsure before told.steps) place) left

-- what reads give and what is unsure, over two lists of steps
pub now-append : (first : Files) (later earlier : List Step) → now first (later ++ earlier) ≡ now (now first earlier) later
now-append first [] earlier = refl
now-append first (Wrote piece ∷ later) earlier = ap (put piece.file piece.at piece.bytes) (now-append first later earlier)
now-append first (Refused piece left ∷ later) earlier = ap (put piece.file piece.at left) (now-append first later earlier)
now-append first (Synced file ∷ later) earlier = now-append first later earlier

pub unsure-append : (before : List Range) (later earlier : List Step) → unsure before (later ++ earlier) ≡ unsure (unsure before earlier) later
unsure-append before [] earlier = refl
unsure-append before (Wrote piece ∷ later) earlier = ap (λ ranges. range_of piece ∷ ranges) (unsure-append before later earlier)
unsure-append before (Refused piece left ∷ later) earlier = ap (λ ranges. range_of piece ∷ ranges) (unsure-append before later earlier)
unsure-append before (Synced file ∷ later) earlier = ap (of_others file) (unsure-append before later earlier)
