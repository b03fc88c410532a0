-- How a store's files go on from step to step.
use Rattle.std.proofs.Common.{◌≡◌, ℕ, false, List, [], length, refl, ap, arith}
use Rattle.disk_face.specs.declared.disk.File.{File}
use Rattle.disk_face.specs.declared.disk.File.TheVariants.{Main, Log1, Log2}
use Rattle.disk_face.specs.declared.step.Step.{Step}
use Rattle.disk_face.specs.Steps.{History, further}
use Rattle.crash_spec.specs.Marks.{IsLog, other_of}
use Rattle.disk_face.specs.Image.{same_file}
use Rattle.crash_spec.specs.Opening.{Opening}
use Rattle.log_spec.specs.LogHeader.{LogFields}
use Rattle.log_spec.specs.Accept.{Frame, page_numbers}
use Rattle.crash_spec.specs.Elsewhere.{IsElsewhere}
use Rattle.crash_spec.specs.Logs.{IsOnDisk}
use Rattle.crash_spec.specs.Store.{AreOnDisk, MainIsSure}
use Rattle.crash_spec.proofs.Elsewhere.{content_elsewhere, sure_elsewhere, on_elsewhere}

pub main_elsewhere : (opening : Opening) (told : History) (size : ℕ) (covered : List ℕ) (step : Step) → IsElsewhere Main step → MainIsSure opening told size covered
    → MainIsSure opening (further step told) size covered
main_elsewhere opening told size covered step apart sure place inside none =
    let same = content_elsewhere Main step told apart in
    sure_elsewhere opening.before Main step told place apart (sure place (omega (arith, ap (λ (bytes : List ℕ). length bytes) same)) none)

-- a step on the current log alone, by what it makes of that log
pub are_on_current : (opening : Opening) (told : History) (current : File) (header older : LogFields) (frames pending other : List Frame) (size : ℕ) (step : Step)
    (frames' pending' : List Frame)
    → AreOnDisk opening told current header older frames pending other size → IsElsewhere (other_of current) step → IsElsewhere Main step
    → IsOnDisk opening (further step told) current header frames' pending'
    → AreOnDisk opening (further step told) current header older frames' pending' other size
are_on_current opening told current header older frames pending other size step frames' pending' on apart main newest = record {
  newest = newest;
  oldest = on_elsewhere opening told (other_of current) older other [] step on.oldest apart;
  rising = on.rising;
  main = main_elsewhere opening told size (page_numbers other) step main on.main;
  some_size = on.some_size;
}

-- a write to one log is elsewhere to the other one, and to Main
pub log_apart : (log : File) → IsLog log → (same_file log (other_of log) ≡ false) × (same_file log Main ≡ false)
log_apart Main is = absurd is
log_apart Log1 is = (refl, refl)
log_apart Log2 is = (refl, refl)

pub other_twice : (log : File) → other_of (other_of log) ≡ log
other_twice Main = refl
other_twice Log1 = refl
other_twice Log2 = refl

pub other_is_log : (log : File) → IsLog log → IsLog (other_of log)
other_is_log Main is = is
other_is_log Log1 is = tt
other_is_log Log2 is = tt

pub apart_back : (log : File) → IsLog log → same_file (other_of log) log ≡ false
apart_back Main is = absurd is
apart_back Log1 is = refl
apart_back Log2 is = refl

-- a write to Main is elsewhere to a log
pub main_apart : (log : File) → IsLog log → same_file Main log ≡ false
main_apart Main is = absurd is
main_apart Log1 is = refl
main_apart Log2 is = refl
