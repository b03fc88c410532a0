-- A commit has gone over to the other log: its new header is on the medium.
use Rattle.std.proofs.Common.{◌≡◌, ℕ, ◌+◌, ◌≤◌, ◌<◌, false, List, [], length, take, drop, refl, sym, ◌∙◌, ap, subst, arith}
use Rattle.std.proofs.lemmas.List.{take_at, take_all}
use Rattle.std.proofs.lemmas.List.Elements.{All-filter}
use Rattle.disk_face.specs.declared.disk.File.{File}
use Rattle.disk_face.specs.declared.disk.File.TheVariants.{Main}
use Rattle.disk_face.specs.declared.step.Piece.{Piece}
use Rattle.disk_face.specs.declared.step.Step.TheVariants.{Wrote, Synced}
use Rattle.disk_face.specs.Files.{content, overwritten}
use Rattle.disk_face.specs.Steps.{History, reads, further}
use Rattle.crash_spec.specs.Marks.{other_of}
use Rattle.disk_face.specs.Image.{unsure, same_file}
use Rattle.disk_face.proofs.Contents.{content-put, length-overwritten}
use Rattle.disk_face.proofs.Images.{synced_is_sure}
use Rattle.log_spec.specs.LogHeader.{LogFields, log_fields}
use Rattle.crash_spec.specs.Opening.{Opening}
use Rattle.log_spec.specs.LogHeader.{header_size}
use Rattle.log_spec.specs.Accept.{Frame}
use Rattle.crash_spec.specs.Marks.{number_of}
use Rattle.crash_spec.specs.Known.{known_pieces, outlasts}
use Rattle.crash_spec.specs.Logs.{IsOnDisk, IsOneOf}
use Rattle.crash_spec.specs.Recovered.{overlaid}
use Rattle.crash_spec.specs.Store.{AreOnDisk, named_size, MaySwitch}
use Rattle.log_spec.proofs.HeaderLaws.{fields_front, ours_front}
use Rattle.crash_spec.proofs.Elsewhere.{on_elsewhere, content_elsewhere, sure_elsewhere}
use Rattle.crash_spec.proofs.StoreSteps.{log_apart, other_twice, apart_back}
use Rattle.crash_spec.proofs.Switching.{copied_away, empty_either}

module _ (opening : Opening) (told : History) (current : File) (header older : LogFields) (frames other : List Frame) (size : ℕ) (new_bytes : List ℕ)
    (on : AreOnDisk opening told current header older frames [] other size) (may : MaySwitch opening told current frames other size new_bytes)
    (rising : header.generation < (log_fields new_bytes).generation) where
  abbrev new_piece : Piece
  new_piece = record { file = other_of current; at = 0; bytes = new_bytes }

  abbrev written : History
  written = further (Wrote new_piece) told

  abbrev synced : History
  synced = further (Synced (other_of current)) (further (Wrote new_piece) told)

  new_log : IsOnDisk opening synced (other_of current) (log_fields new_bytes) [] []
  new_log =
      let a : List ℕ = content (reads told) (other_of current) in
      let reached = on.oldest.long in
      let is : content (reads synced) (other_of current) ≡ overwritten 0 new_bytes a = content-put (other_of current) 0 new_bytes (reads told) in
      let front : take header_size (overwritten 0 new_bytes a) ≡ new_bytes = take_at new_bytes (drop (0 + length new_bytes) a) header_size may.long in
      let long : header_size ≤ length (overwritten 0 new_bytes a) = omega (arith, length-overwritten 0 new_bytes a (omega arith)) in
      let same : take header_size new_bytes ≡ take header_size (content (reads synced) (other_of current)) = take_all header_size new_bytes (omega (arith, may.long)) ∙ sym front ∙ ap (λ (xs : List ℕ). take header_size xs) (sym is) in
      let far : header_size ≤ length (content (reads synced) (other_of current)) = omega (arith, ap (λ (xs : List ℕ). length xs) is) in
      record {
        is_log = on.oldest.is_log;
        ours = ours_front (number_of (other_of current)) new_bytes (content (reads synced) (other_of current)) (omega (arith, may.long)) far same may.ours;
        same_header = sym (fields_front new_bytes (content (reads synced) (other_of current)) same);
        committed = record { there = refl; valid = tt; committed = λ some. absurd (some refl) };
        long = far;
        sure = λ place near. synced_is_sure (other_of current) (unsure opening.before written.steps) place;
        valid = tt;
        one_commit = λ n less. absurd (omega arith);
        fresh = All-filter (outlasts (other_of current) (reads written)) (IsOneOf (other_of current) (log_fields new_bytes) header_size []) (known_pieces opening written) may.fresh;
      }

  old_log : IsOnDisk opening synced current header frames []
  old_log =
      on_elsewhere opening written current header frames [] (Synced (other_of current))
      (on_elsewhere opening told current header frames [] (Wrote new_piece) on.newest (apart_back current on.newest.is_log)) tt

  pub switched : AreOnDisk opening synced (other_of current) (log_fields new_bytes) header [] [] frames size
  switched =
      let apart : same_file (other_of current) Main ≡ false = (log_apart (other_of current) on.oldest.is_log).1 in
      record {
        newest = new_log;
        oldest = subst (λ (log : File). IsOnDisk opening synced log header frames []) (sym (other_twice current)) old_log;
        rising = rising;
        main = λ place inside none.
            let same = content_elsewhere Main (Wrote new_piece) told apart in
            sure_elsewhere opening.before Main (Synced (other_of current)) written place tt
            (sure_elsewhere opening.before Main (Wrote new_piece) told place apart (may.main place (omega (arith, ap (λ (xs : List ℕ). length xs) same))));
        some_size = on.some_size;
      }

  -- and the map is the same
  pub switched_map : named_size (reads told).main other frames ≡ size → overlaid (reads synced).main frames [] ≡ overlaid (reads told).main other frames
  switched_map sized =
      let apart : same_file (other_of current) Main ≡ false = (log_apart (other_of current) on.oldest.is_log).1 in
      ap (λ (main : List ℕ). overlaid main frames []) (content_elsewhere Main (Wrote new_piece) told apart) ∙ empty_either (reads told).main frames ∙ copied_away size (reads told).main other frames may.page_1 may.copied sized
