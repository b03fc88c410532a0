-- As an opening begins, the disk as it reads is one of the images, and it meets the premise on chance: each mark is known.
use Rattle.std.proofs.Common.{[], List, ◌++◌}
use Rattle.std.specs.Prelude.{Contains}
use Rattle.std.proofs.lemmas.List.Elements.{All-weaker, All-contains_itself, Contains-append_left, Contains-append_right}
use Rattle.disk_face.specs.declared.disk.File.TheVariants.{Main, Log1, Log2}
use Rattle.disk_face.specs.declared.step.Piece.{Piece}
use Rattle.disk_face.specs.Steps.{History, reads}
use Rattle.disk_face.specs.Image.{MayLeave}
use Rattle.disk_face.proofs.Images.{reads_may_stay}
use Rattle.crash_spec.specs.Marks.{marks}
use Rattle.crash_spec.specs.Opening.{opening_at, rebased}
use Rattle.crash_spec.specs.Known.{IsWithoutChance}

pub opened_is_left : (told : History) → MayLeave (opening_at told).before (rebased told []) (reads told)
opened_is_left told = reads_may_stay (opening_at told).before (rebased told [])

pub opened_without_chance : (told : History) → IsWithoutChance (opening_at told) (rebased told []) (reads told)
opened_without_chance told Main is = absurd is
opened_without_chance told Log1 is =
    let one : List Piece = marks Log1 (reads told).log1 in
    let two : List Piece = marks Log2 (reads told).log2 in
    All-weaker (Contains one) (Contains (one ++ two)) (λ piece c. Contains-append_left one two piece c) one (All-contains_itself one)
opened_without_chance told Log2 is =
    let one : List Piece = marks Log1 (reads told).log1 in
    let two : List Piece = marks Log2 (reads told).log2 in
    All-weaker (Contains two) (Contains (one ++ two)) (λ piece c. Contains-append_right one two piece c) two (All-contains_itself two)
