-- Bytes put over some of page 1, one piece after another.
use Rattle.std.proofs.Common.{◌≡◌, ◌∙◌, ℕ, ◌+◌, ◌-◌, ◌≤◌, Bool, cond, List, ◌++◌, length, take, drop, sym, ap, arith, length-append, length-take, length-drop, drop-drop, append-nil, append_assoc}
use Rattle.std.proofs.Math.Seq.{take-append-add, drop-append-add}
use Rattle.std.proofs.lemmas.List.{take-append-drop, take_all, drop_all}
use borrow.Rule.Slice.PartMut.{put_mid}
use Rattle.engine_spec.specs.declared.commits.Mode.{Mode}
use Rattle.engine_spec.specs.declared.commits.Mode.TheVariants.{Plain, Concurrent}
use Rattle.engine_spec.specs.Change.{laid_first, schema_fields, stamped, next_counter, u32_bytes}

-- bytes put in the middle of some
pub put_is : (at count : ℕ) (old new put : List ℕ) → new ≡ put → put_mid at count old new ≡ take at old ++ (put ++ drop (at + count) old)
put_is at count old new put is =
    ap (λ (rest : List ℕ). take at old ++ (new ++ rest)) (drop-drop count at old)
    ∙ ap (λ (some : List ℕ). take at old ++ (some ++ drop (at + count) old)) is

-- bytes in three pieces
pub three_pieces : (at count : ℕ) (bytes : List ℕ) → bytes ≡ take at bytes ++ (take count (drop at bytes) ++ drop (at + count) bytes)
three_pieces at count bytes =
    sym (ap (λ (rest : List ℕ). take at bytes ++ (take count (drop at bytes) ++ rest)) (sym (drop-drop count at bytes))
    ∙ ap (λ (rest : List ℕ). take at bytes ++ rest) (take-append-drop count (drop at bytes))
    ∙ take-append-drop at bytes)

-- the front of some bytes that reaches past the first of two pieces, and the rest of it
take_past : (xs ys : List ℕ) (n k : ℕ) → n ≡ length xs + k → take n (xs ++ ys) ≡ xs ++ take k ys
take_past xs ys n k is = ap (λ (m : ℕ). take m (xs ++ ys)) is ∙ take-append-add xs ys k

drop_past : (xs ys : List ℕ) (n k : ℕ) → n ≡ length xs + k → drop n (xs ++ ys) ≡ drop k ys
drop_past xs ys n k is = ap (λ (m : ℕ). drop m (xs ++ ys)) is ∙ drop-append-add xs ys k

-- all from an offset on, put over all from there on
pub put_end : (at : ℕ) (old new put from : List ℕ) → at ≤ length old → length from ≡ length old → new ≡ put
    → put ≡ take (length from - at) (drop at from) → put_mid at (length old - at) old new ≡ take at old ++ drop at from
put_end at old new put from within same is taken =
    put_is at (length old - at) old new put is
    ∙ ap (λ (rest : List ℕ). take at old ++ (put ++ rest)) (drop_all (at + (length old - at)) old (omega arith))
    ∙ ap (λ (rest : List ℕ). take at old ++ rest) (append-nil put ∙ taken ∙ take_all (length from - at) (drop at from) (omega (arith, length-drop at from)))

fields_length : (mode : Mode) (old new : List ℕ) → 60 ≤ length old → 60 ≤ length new → length (schema_fields mode old new) ≡ 28
fields_length Plain old new long long' = length-take 28 (drop 32 new) ∙ omega (arith, length-drop 32 new)
fields_length Concurrent old new long long' = length-take 28 (drop 32 old) ∙ omega (arith, length-drop 32 old)

-- the schema fields and what follows the header, one after the other
pub laid_first_is : (mode : Mode) (tail : Bool) (old new mid last : List ℕ) → 100 ≤ length old → length new ≡ length old
    → mid ≡ take 32 old ++ (schema_fields mode old new ++ drop 60 old) → last ≡ take 100 mid ++ cond tail (drop 100 new) (drop 100 mid)
    → last ≡ laid_first mode tail old new
laid_first_is mode tail old new mid last long same is_mid is_last =
    let fields : List ℕ = schema_fields mode old new in
    let count : length (take 32 old ++ fields) ≡ 60 =
    length-append (take 32 old) fields ∙ omega (arith, length-take 32 old, fields_length mode old new (omega arith) (omega arith)) in
    let joined : mid ≡ (take 32 old ++ fields) ++ drop 60 old = is_mid ∙ sym (append_assoc (take 32 old) fields (drop 60 old)) in
    let front : take 100 mid ≡ take 32 old ++ (fields ++ take 40 (drop 60 old)) =
    ap (take 100) joined ∙ take_past (take 32 old ++ fields) (drop 60 old) 100 40 (omega arith)
    ∙ append_assoc (take 32 old) fields (take 40 (drop 60 old)) in
    let rest : drop 100 mid ≡ drop 100 old =
    ap (drop 100) joined ∙ drop_past (take 32 old ++ fields) (drop 60 old) 100 40 (omega arith) ∙ drop-drop 40 60 old in
    let end : List ℕ = cond tail (drop 100 new) (drop 100 old) in
    is_last
    ∙ ap (λ (some : List ℕ). take 100 mid ++ cond tail (drop 100 new) some) rest
    ∙ ap (λ (some : List ℕ). some ++ end) front
    ∙ append_assoc (take 32 old) (fields ++ take 40 (drop 60 old)) end
    ∙ ap (λ (some : List ℕ). take 32 old ++ some) (append_assoc fields (take 40 (drop 60 old)) end)

-- the three numbers that every commit sets, one after another
pub stamped_is : (size counter : ℕ) (old one two three : List ℕ) → 100 ≤ length old → counter ≡ next_counter old
    → one ≡ take 24 old ++ (u32_bytes counter ++ drop 28 old) → two ≡ take 28 one ++ (u32_bytes size ++ drop 32 one)
    → three ≡ take 92 two ++ (u32_bytes counter ++ drop 96 two) → three ≡ stamped size old
stamped_is size counter old one two three long is_counter is_one is_two is_three =
    let word : List ℕ = u32_bytes counter in
    let count : List ℕ = u32_bytes size in
    let a : List ℕ = take 24 old ++ word in
    let in_a : length a ≡ 28 = length-append (take 24 old) word ∙ omega (arith, length-take 24 old) in
    let one_is : one ≡ a ++ drop 28 old = is_one ∙ sym (append_assoc (take 24 old) word (drop 28 old)) in
    let one_front : take 28 one ≡ a = ap (take 28) one_is ∙ take_past a (drop 28 old) 28 0 (omega arith) ∙ append-nil a in
    let one_rest : drop 32 one ≡ drop 32 old = ap (drop 32) one_is ∙ drop_past a (drop 28 old) 32 4 (omega arith) ∙ drop-drop 4 28 old in
    let b : List ℕ = a ++ count in
    let in_b : length b ≡ 32 = length-append a count ∙ omega arith in
    let two_is : two ≡ b ++ drop 32 old =
    is_two ∙ ap (λ (some : List ℕ). some ++ (count ++ drop 32 one)) one_front ∙ ap (λ (some : List ℕ). a ++ (count ++ some)) one_rest
    ∙ sym (append_assoc a count (drop 32 old)) in
    let two_front : take 92 two ≡ b ++ take 60 (drop 32 old) = ap (take 92) two_is ∙ take_past b (drop 32 old) 92 60 (omega arith) in
    let two_rest : drop 96 two ≡ drop 96 old = ap (drop 96) two_is ∙ drop_past b (drop 32 old) 96 64 (omega arith) ∙ drop-drop 64 32 old in
    is_three
    ∙ ap (λ (some : List ℕ). some ++ (word ++ drop 96 two)) two_front
    ∙ ap (λ (some : List ℕ). (b ++ take 60 (drop 32 old)) ++ (word ++ some)) two_rest
    ∙ joined (take 24 old) word count (take 60 (drop 32 old)) (drop 96 old)
    ∙ ap (λ (n : ℕ). take 24 old ++ (u32_bytes n ++ (count ++ (take 60 (drop 32 old) ++ (u32_bytes n ++ drop 96 old))))) is_counter
  where
    joined : (a b c d e : List ℕ) → (((a ++ b) ++ c) ++ d) ++ (b ++ e) ≡ a ++ (b ++ (c ++ (d ++ (b ++ e))))
    joined a b c d e = simp append_assoc
