-- The parts of a transaction's change stay in order where one of them changes.
use Rattle.std.proofs.Common.{◌≡◌, ◌∙◌, ℕ, ◌+◌, ◌<◌, ◌≤◌, ◌^◌, Bool, List, length, replicate, Option, Result, Ok, Err, sym, subst, arith}
use Rattle.std.specs.Prelude.{OnOk, OnErr}
use Rattle.engine_spec.specs.declared.commits.Mode.{Mode}
use Rattle.engine_spec.specs.PageSet.{with_page}
use Rattle.engine_spec.proofs.PageSets.{with_keeps}
use Rattle.overlay.specs.declared.overlay.Mark.{Mark}
use Rattle.overlay.specs.Images.{TwoImages, with_put, image_put_since}
use Rattle.overlay.specs.FreedPages.{TwoSets}
use Rattle.overlay.specs.Parts.{change_now, AreParts}
use Rattle.overlay.proofs.InOrder.{changed_in_order, fresh_in_order, new_in_order, freed_in_order}

-- what holds of a value after a call, by what the call was answered
pub after : {A B X : Type 0} (P : X → Type 0) (result : Result A B) (value ok err : X) → OnOk result (value ≡ ok) → OnErr result (value ≡ err)
    → P ok → P err → P value
after P (Ok done) value ok err one two good bad = subst P (sym one) good
after P (Err why) value ok err one two good bad = subst P (sym two) bad

module _ (mode : Mode) (base : ℕ) (changed fresh : TwoImages) (freed : TwoSets) (tail : Bool) (mark : Option Mark) (made : ℕ) (reads : List ℕ)
    (parts : AreParts mode base changed fresh freed tail mark made reads) where
  -- a page was read
  pub parts_read : (page : ℕ) → AreParts mode base changed fresh freed tail mark made (with_page reads page)
  parts_read page = record {
    now = parts.now;
    at_mark = parts.at_mark;
    count = parts.count;
    first = λ plain. with_keeps reads page 1 (parts.first plain);
  }

  -- a page of the snapshot is put
  pub parts_changed : (page : ℕ) (bytes : List ℕ) (then_tail : Bool) → 1 ≤ page → page ≤ base
      → AreParts mode base (image_put_since changed page bytes) fresh freed then_tail mark made reads
  parts_changed page bytes then_tail some within = record {
    now = changed_in_order (change_now mode base changed fresh freed tail) page bytes then_tail some within parts.now;
    at_mark = parts.at_mark;
    count = parts.count;
    first = parts.first;
  }

  -- a new page is put
  pub parts_fresh : (page : ℕ) (bytes : List ℕ) → base < page → page ≤ base + length fresh.now
      → AreParts mode base changed (image_put_since fresh page bytes) freed tail mark made reads
  parts_fresh page bytes past within =
      let put = fresh_in_order (change_now mode base changed fresh freed tail) page bytes past within parts.now in
      record { now = put.0; at_mark = parts.at_mark; count = parts.count ∙ sym put.1; first = parts.first }

  -- a page is made
  pub parts_new : (size : ℕ) → base + length fresh.now + 1 < 2 ^ 32
      → AreParts mode base changed (image_put_since fresh (base + length fresh.now + 1) (replicate size 0)) freed tail mark (made + 1) reads
  parts_new size few =
      let new = new_in_order (change_now mode base changed fresh freed tail) size few parts.now in
      let count = parts.count in
      let more = new.1 in
      record { now = new.0; at_mark = parts.at_mark; count = omega arith; first = parts.first }

  -- whatever its number and its bytes are called
  pub parts_made : (fresh_then : TwoImages) (last size : ℕ) (zeros : List ℕ) → last ≡ base + length fresh.now → zeros ≡ replicate size 0
      → fresh_then ≡ image_put_since fresh (last + 1) zeros → base + length fresh.now + 1 < 2 ^ 32
      → AreParts mode base changed fresh_then freed tail mark (made + 1) reads
  parts_made fresh_then last size zeros last_is zeros_are is few =
      subst (λ (then : TwoImages). AreParts mode base changed then freed tail mark (made + 1) reads) (sym is)
      (subst (λ (n : ℕ). AreParts mode base changed (image_put_since fresh (n + 1) zeros) freed tail mark (made + 1) reads) (sym last_is)
      (subst (λ (bytes : List ℕ). AreParts mode base changed (image_put_since fresh (base + length fresh.now + 1) bytes)
      freed tail mark (made + 1) reads) (sym zeros_are) (parts_new size few)))

  -- the count of new pages stays where one is put
  pub count_fresh : (page : ℕ) (bytes : List ℕ) → base < page → page ≤ base + length fresh.now
      → length (with_put fresh.now page bytes) ≡ length fresh.now
  count_fresh page bytes past within = (fresh_in_order (change_now mode base changed fresh freed tail) page bytes past within parts.now).1

  -- a page is given up
  pub parts_freed : (page : ℕ) → 2 ≤ page → page ≤ base + length fresh.now
      → AreParts mode base changed fresh (record freed { now = with_page freed.now page }) tail mark made reads
  parts_freed page some within = record {
    now = freed_in_order (change_now mode base changed fresh freed tail) page some within parts.now;
    at_mark = parts.at_mark;
    count = parts.count;
    first = parts.first;
  }
