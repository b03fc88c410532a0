use Rattle.std.proofs.Common.{◌∙◌, arith}
use Rattle.page_spec.proofs.BytesLaws.{u32_at-below, differs-trans}
use Rattle.db_header.proofs.write.write_numbers.Goals as goal

pub returns-clause-change : goal.returns-clause-change
returns-clause-change c =
    let after_5 = c.put_u32-6.ensures.others in
    let after_4 = differs-trans c.put_u32-5.ensures.others after_5 40 48 (omega arith) (omega arith) (omega arith) (omega arith) in
    let after_3 = differs-trans c.put_u32-4.ensures.others after_4 36 48 (omega arith) (omega arith) (omega arith) (omega arith) in
    let after_2 = differs-trans c.put_u32-3.ensures.others after_3 32 48 (omega arith) (omega arith) (omega arith) (omega arith) in
    let after_1 = differs-trans c.put_u32-2.ensures.others after_2 28 48 (omega arith) (omega arith) (omega arith) (omega arith) in
    u32_at-below after_1 24 (omega arith) ∙ c.put_u32.ensures.value

pub returns-clause-pages : goal.returns-clause-pages
returns-clause-pages c =
    let after_5 = c.put_u32-6.ensures.others in
    let after_4 = differs-trans c.put_u32-5.ensures.others after_5 40 48 (omega arith) (omega arith) (omega arith) (omega arith) in
    let after_3 = differs-trans c.put_u32-4.ensures.others after_4 36 48 (omega arith) (omega arith) (omega arith) (omega arith) in
    let after_2 = differs-trans c.put_u32-3.ensures.others after_3 32 48 (omega arith) (omega arith) (omega arith) (omega arith) in
    u32_at-below after_2 28 (omega arith) ∙ c.put_u32-2.ensures.value

pub returns-clause-trunk : goal.returns-clause-trunk
returns-clause-trunk c =
    let after_5 = c.put_u32-6.ensures.others in
    let after_4 = differs-trans c.put_u32-5.ensures.others after_5 40 48 (omega arith) (omega arith) (omega arith) (omega arith) in
    let after_3 = differs-trans c.put_u32-4.ensures.others after_4 36 48 (omega arith) (omega arith) (omega arith) (omega arith) in
    u32_at-below after_3 32 (omega arith) ∙ c.put_u32-3.ensures.value

pub returns-clause-free : goal.returns-clause-free
returns-clause-free c =
    let after_5 = c.put_u32-6.ensures.others in
    let after_4 = differs-trans c.put_u32-5.ensures.others after_5 40 48 (omega arith) (omega arith) (omega arith) (omega arith) in
    u32_at-below after_4 36 (omega arith) ∙ c.put_u32-4.ensures.value

pub returns-clause-cookie : goal.returns-clause-cookie
returns-clause-cookie c =
    let after_5 = c.put_u32-6.ensures.others in
    u32_at-below after_5 40 (omega arith) ∙ c.put_u32-5.ensures.value
