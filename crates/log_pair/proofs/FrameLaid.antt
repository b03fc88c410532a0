-- A frame as it is laid, field by field.
use Rattle.std.proofs.Common.{◌≡◌, ℕ, ◌+◌, ◌-◌, ◌<◌, List, ◌++◌, length, take, drop, refl, sym, ◌∙◌, ap, arith}
use Rattle.std.proofs.lemmas.List.{length-take-le, length-drop, length-append, drop_at, append-nil, drop_all}
use borrow.Rule.Slice.PartMut.{put_mid, post_of}
use Rattle.page_spec.specs.Bytes.{u32_at, DiffersOnlyWithin}
use Rattle.page_spec.proofs.BytesLaws.{u32_at-below, take-below, drop-above, differs-trans}
use Rattle.log_spec.specs.Checksum.{Sum as Words, checksum}
use Rattle.log_spec.specs.Accept.{sum_after}
use Rattle.wal_frames.specs.Front.{fields_for}
use Rattle.wal_frames.proofs.FrameParts.{big_told}
use Rattle.wal_frames.specs.declared.header.LogHeader.{LogHeader}
use Rattle.log_spec.specs.Written.{IsFrameOf}

-- the states of a frame's bytes: with its page, with a page number, a size and two salts, and with the checksum
module _ (header : LogHeader) (sum : Words) (page size : ℕ) (bytes start paged one two three four five new : List ℕ) (middle after : Words)
    (pasted : paged ≡ put_mid 24 (length start - 24) start bytes)
    (whole : length start ≡ 24 + header.page_size) (some : 0 < page) (bytes_whole : length bytes ≡ header.page_size)
    (d1 : DiffersOnlyWithin paged one 0 4) (v1 : u32_at one 0 ≡ page)
    (d2 : DiffersOnlyWithin one two 4 8) (v2 : u32_at two 4 ≡ size)
    (d3 : DiffersOnlyWithin two three 8 12) (v3 : u32_at three 8 ≡ header.salt1)
    (d4 : DiffersOnlyWithin three four 12 16) (v4 : u32_at four 12 ≡ header.salt2)
    (head : middle ≡ checksum header.big sum (take 8 four)) (rest : after ≡ checksum header.big middle bytes)
    (d5 : DiffersOnlyWithin four five 16 20) (v5 : u32_at five 16 ≡ after.0)
    (d6 : DiffersOnlyWithin five new 20 24) (v6 : u32_at new 20 ≡ after.1) where
  paged_long : length paged ≡ 24 + header.page_size
  paged_long =
      ap (λ (xs : List ℕ). length xs) pasted
      ∙ omega (arith, length-append (take 24 start) (bytes ++ post_of 24 (length start - 24) start), length-append bytes (post_of 24 (length start - 24) start), length-take-le 24 start (omega arith), length-drop (length start - 24) (drop 24 start), length-drop 24 start)

  paged_rest : drop 24 paged ≡ bytes
  paged_rest =
      ap (λ (xs : List ℕ). drop 24 xs) pasted
      ∙ drop_at (take 24 start) (bytes ++ post_of 24 (length start - 24) start) 24 (length-take-le 24 start (omega arith))
      ∙ ap (λ (xs : List ℕ). bytes ++ xs) (drop_all (length start - 24) (drop 24 start) (omega (arith, length-drop 24 start)))
      ∙ append-nil bytes

  behind_1 : DiffersOnlyWithin one new 4 24
  behind_1 =
      differs-trans d2 (differs-trans d3 (differs-trans d4 (differs-trans d5 d6 16 24 (omega arith) (omega arith) (omega arith) (omega arith)) 12 24 (omega arith) (omega arith) (omega arith) (omega arith)) 8 24 (omega arith) (omega arith) (omega arith) (omega arith)) 4 24 (omega arith) (omega arith) (omega arith) (omega arith)

  behind_2 : DiffersOnlyWithin two new 8 24
  behind_2 =
      differs-trans d3 (differs-trans d4 (differs-trans d5 d6 16 24 (omega arith) (omega arith) (omega arith) (omega arith)) 12 24 (omega arith) (omega arith) (omega arith) (omega arith)) 8 24 (omega arith) (omega arith) (omega arith) (omega arith)

  behind_3 : DiffersOnlyWithin three new 12 24
  behind_3 = differs-trans d4 (differs-trans d5 d6 16 24 (omega arith) (omega arith) (omega arith) (omega arith)) 12 24 (omega arith) (omega arith) (omega arith) (omega arith)

  behind_4 : DiffersOnlyWithin four new 16 24
  behind_4 = differs-trans d5 d6 16 24 (omega arith) (omega arith) (omega arith) (omega arith)

  all : DiffersOnlyWithin paged new 0 24
  all = differs-trans d1 behind_1 0 24 (omega arith) (omega arith) (omega arith) (omega arith)

  holds_page : drop 24 new ≡ bytes
  holds_page = drop-above all 24 (omega arith) ∙ paged_rest

  pub laid_sum : after ≡ sum_after (fields_for header) sum new
  laid_sum =
      rw (big_told header) (rest ∙ ap (λ (w : Words). checksum header.big w bytes) (head ∙ ap (λ (xs : List ℕ). checksum header.big sum xs) (sym (take-below behind_4 8 (omega arith))))
      ∙ ap (λ (xs : List ℕ). checksum header.big (checksum header.big sum (take 8 new)) xs) (sym holds_page))

  pair : {a b : ℕ} → a ≡ after.0 → b ≡ after.1 → (a, b) ≡ after
  pair p q = rw (p, q) refl

  pub laid : IsFrameOf (fields_for header) sum page size bytes new
  laid =
      let number : u32_at new 0 ≡ page = u32_at-below behind_1 0 (omega arith) ∙ v1 in
      record {
        valid = record {
          whole = all.same_length ∙ paged_long;
          numbered = λ none. omega arith;
          same_salt1 = u32_at-below behind_3 8 (omega arith) ∙ v3;
          same_salt2 = u32_at-below behind_4 12 (omega arith) ∙ v4;
          summed = pair (u32_at-below d6 16 (omega arith) ∙ v5) v6 ∙ laid_sum;
        };
        numbered = number;
        sized = u32_at-below behind_2 4 (omega arith) ∙ v2;
        holds = holds_page;
      }
