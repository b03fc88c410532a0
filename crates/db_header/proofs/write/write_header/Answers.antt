use Rattle.std.proofs.Common.{◌∙◌, arith}
use Rattle.page_spec.proofs.BytesLaws.{take-below, u16_at-below, u32_at-below, differs-trans, slice_range-above, slice_range-below, drop-above}
use Rattle.db_header.proofs.Written.{Written, tells_written}
use Rattle.db_header.proofs.write.write_header.Goals as goal

pub returns-clause-encoding : goal.returns-clause-encoding
returns-clause-encoding c = u32_at-below c.put_u32-3.ensures.others 56 (omega arith) ∙ c.put_u32-2.ensures.value

pub returns-clause-unlisted : goal.returns-clause-unlisted
returns-clause-unlisted c =
    let start = c.write_start.ensures.others in
    let numbers = c.write_numbers.ensures.others in
    let before = differs-trans start numbers 0 48 (omega arith) (omega arith) (omega arith) (omega arith) in
    let tail = differs-trans c.put_u32-2.ensures.others c.put_u32-3.ensures.others 56 96 (omega arith) (omega arith) (omega arith) (omega arith) in
    let after = differs-trans c.put_u32.ensures.others tail 52 96 (omega arith) (omega arith) (omega arith) (omega arith) in
    let middle = differs-trans c.put_u32.ensures.others c.put_u32-2.ensures.others 52 60 (omega arith) (omega arith) (omega arith) (omega arith) in
    let most = differs-trans before middle 0 60 (omega arith) (omega arith) (omega arith) (omega arith) in
    let whole = differs-trans before after 0 96 (omega arith) (omega arith) (omega arith) (omega arith) in
    record {
      same_length = whole.same_length;
      cache_size = slice_range-below after 48 52 (omega arith) ∙ slice_range-above before 48 52 (omega arith);
      other_numbers = slice_range-below c.put_u32-3.ensures.others 60 92 (omega arith) ∙ slice_range-above most 60 92 (omega arith);
      rest = drop-above whole 96 (omega arith);
    }

pub returns-clause-reads_back : goal.returns-clause-reads_back
returns-clause-reads_back c =
    let start = c.write_start.ensures in
    let numbers = c.write_numbers.ensures in
    let last = c.put_u32-3.ensures.others in
    let tail = differs-trans c.put_u32-2.ensures.others last 56 96 (omega arith) (omega arith) (omega arith) (omega arith) in
    let after = differs-trans c.put_u32.ensures.others tail 52 96 (omega arith) (omega arith) (omega arith) (omega arith) in
    let rest = differs-trans numbers.others after 24 96 (omega arith) (omega arith) (omega arith) (omega arith) in
    let whole = differs-trans start.others rest 0 96 (omega arith) (omega arith) (omega arith) (omega arith) in
    let written : Written c.put_u32-3.new.to c.args.header.now = record {
      long = omega (arith, whole.same_length);
      text = take-below rest 16 (omega arith) ∙ start.text;
      largest = rest.before 21 (omega arith) ∙ start.largest;
      least = rest.before 22 (omega arith) ∙ start.least;
      leaf = rest.before 23 (omega arith) ∙ start.leaf;
      page_size = rw (u16_at-below rest 16 (omega arith)) start.page_size;
      write_version = rest.before 18 (omega arith) ∙ start.write_version;
      read_version = rest.before 19 (omega arith) ∙ start.read_version;
      reserved = rest.before 20 (omega arith) ∙ start.reserved;
      change = u32_at-below after 24 (omega arith) ∙ numbers.change;
      pages = u32_at-below after 28 (omega arith) ∙ numbers.pages;
      trunk = u32_at-below after 32 (omega arith) ∙ numbers.trunk;
      free = u32_at-below after 36 (omega arith) ∙ numbers.free;
      cookie = u32_at-below after 40 (omega arith) ∙ numbers.cookie;
      format = u32_at-below after 44 (omega arith) ∙ numbers.format;
      largest_root = u32_at-below tail 52 (omega arith) ∙ c.put_u32.ensures.value;
      encoding = u32_at-below last 56 (omega arith) ∙ c.put_u32-2.ensures.value;
      valid_for = c.put_u32-3.ensures.value;
    } in
    tells_written c.put_u32-3.new.to c.args.header.now written c.requires.told c.requires.some
