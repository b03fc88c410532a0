use Rattle.std.proofs.Common.{◌∙◌, arith, drop, ℕ, List, set}
use Rattle.std.proofs.lemmas.List.{length-take-le, take_at}
use Rattle.page_spec.specs.Bytes.{DiffersOnlyWithin}
use Rattle.page_spec.proofs.BytesLaws.{take-below, u16_at-below, differs-trans, differs-set}
use Rattle.db_header.proofs.write.write_start.Goals as goal

pub copy_from_slice-requires : goal.copy_from_slice-requires
copy_from_slice-requires c = length-take-le 16 c.args.to.now (omega arith)

-- the six bytes from 18 on are written after the page size
six : (bytes : List ℕ) (a b c d e f : ℕ) → DiffersOnlyWithin bytes (set (set (set (set (set (set bytes 18 a) 19 b) 20 c) 21 d) 22 e) 23 f) 18 24
six bytes a b c d e f =
    let at_19 = differs-trans (differs-set bytes 18 a) (differs-set (set bytes 18 a) 19 b) 18 24 (omega arith) (omega arith) (omega arith) (omega arith) in
    let at_20 = differs-trans at_19 (differs-set (set (set bytes 18 a) 19 b) 20 c) 18 24 (omega arith) (omega arith) (omega arith) (omega arith) in
    let at_21 = differs-trans at_20 (differs-set (set (set (set bytes 18 a) 19 b) 20 c) 21 d) 18 24 (omega arith) (omega arith) (omega arith) (omega arith) in
    let at_22 = differs-trans at_21 (differs-set (set (set (set (set bytes 18 a) 19 b) 20 c) 21 d) 22 e) 18 24 (omega arith) (omega arith) (omega arith) (omega arith) in
    differs-trans at_22 (differs-set (set (set (set (set (set bytes 18 a) 19 b) 20 c) 21 d) 22 e) 23 f) 18 24 (omega arith) (omega arith) (omega arith) (omega arith)

pub returns-clause-text : goal.returns-clause-text
returns-clause-text c =
    take-below (six c.put_u16.new.to c.args.header.now.versions.0 c.args.header.now.versions.1 c.args.header.now.reserved 64 32 32) 16 (omega arith)
    ∙ take-below c.put_u16.ensures.others 16 (omega arith)
    ∙ take_at c.copy_from_slice.new.self (drop 16 c.args.to.now) 16 (c.copy_from_slice.ensures.len ∙ length-take-le 16 c.args.to.now (omega arith))
    ∙ c.copy_from_slice.ensures.after

pub returns-clause-page_size : goal.returns-clause-page_size
returns-clause-page_size c =
    let same = u16_at-below (six c.put_u16.new.to c.args.header.now.versions.0 c.args.header.now.versions.1 c.args.header.now.reserved 64 32 32) 16 (omega arith) in
    rw (same, c.put_u16.ensures.value) c.stored_page_size.ensures
