-- A log as an opening finds it, from step to step, and what a crash leaves of it.
use Rattle.std.proofs.Common.{◌≡◌, ℕ, List, [], inl, inr, refl, sym, ◌∙◌, ap, subst}
use Rattle.disk_face.specs.declared.disk.File.{File}
use Rattle.disk_face.specs.declared.step.Step.{Step}
use Rattle.disk_face.specs.Files.{Files, content}
use Rattle.disk_face.specs.Steps.{History, reads, further}
use Rattle.disk_face.specs.Image.{MayLeave}
use Rattle.log_spec.specs.LogHeader.{header_bytes}
use Rattle.log_spec.specs.Frames.{accepted_frames}
use Rattle.crash_spec.specs.Marks.{number_of}
use Rattle.crash_spec.specs.Opening.{Opening}
use Rattle.crash_spec.specs.Elsewhere.{IsElsewhere}
use Rattle.crash_spec.specs.Known.{known_pieces, IsWithoutChance}
use Rattle.crash_spec.specs.Logs.{IsWhole, IsOnlyHeader}
use Rattle.crash_spec.proofs.Elsewhere.{content_elsewhere, on_elsewhere, only_elsewhere, behind_elsewhere, ours_elsewhere, whole_file}
use Rattle.crash_spec.proofs.LogImages.{image_frames}
use Rattle.opening_spec.specs.Found.{FoundLog, IsFound}

pub found_elsewhere : (opening : Opening) (told : History) (log : File) (has : FoundLog) (step : Step) → IsElsewhere log step → IsFound opening told log has
    → IsFound opening (further step told) log has
found_elsewhere opening told log has step apart found =
    let same = content_elsewhere log step told apart in
    record {
      is_log = found.is_log;
      accepted = elim found.accepted [
        | inl is ↦ inl (ap (λ (bytes : List ℕ). accepted_frames (number_of log) bytes) same ∙ is)
        | inr (header, on) ↦ inr (header, on_elsewhere opening told log header has.frames [] step on apart)
      ];
      only = subst (λ (bytes : List ℕ). IsOnlyHeader (known_pieces opening (further step told)) log (header_bytes bytes)) (sym same)
          (only_elsewhere opening log (header_bytes (content (reads told) log)) step told apart found.only);
      behind = behind_elsewhere opening log has.salt has.most step told apart found.behind;
      ours = ours_elsewhere opening log step told apart found.ours;
    }

-- Of a log of which all is on the medium a crash leaves the frames, by the premise on chance.
pub found_frames : (opening : Opening) (told : History) (log : File) (has : FoundLog) → IsFound opening told log has → IsWhole opening told log
    → (image : Files) → MayLeave opening.before told image → IsWithoutChance opening told image → accepted_frames (number_of log) (content image log) ≡ has.frames
found_frames opening told log has found whole image left chance =
    elim found.accepted [
      | inl is ↦ ap (λ (bytes : List ℕ). accepted_frames (number_of log) bytes) (whole_file opening told log image whole left) ∙ is
      | inr (header, on) ↦ elim (image_frames opening told log header has.frames [] on image left chance) [ inl same ↦ same | inr (some, same) ↦ absurd (some refl) ]
    ]
