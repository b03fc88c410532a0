-- The facts of the tests passed so far, then the lemma for the place at which the function returns.
use Rattle.std.proofs.Common.{◌≡◌, arith, refl, sym, ◌∙◌}
use Rattle.std.proofs.lemmas.Bool.{false_from_ne_true}
use Rattle.page_spec.specs.Bytes.{u16_at}
use Rattle.page_spec.specs.Header.{is_page_size, spelled_page_size}
use Rattle.db_header.proofs.Order.{PassesSize, PassesVersions, PassesEncoding, PassesVacuum, PassesUsable, PassesFormat, refused_text, refused_size, refused_versions, refused_encoding, refused_vacuum, refused_usable, refused_format, refused_limit, accepted, page_size_read, refused_iff, accepted_iff, told_passes, text_encoding_read, usable_from, unusable_from}
use Rattle.db_header.proofs.read.read_header.Goals as goal

pub returns-then-not-is_database-clause-cases : goal.returns-then-not-is_database-clause-cases
returns-then-not-is_database-clause-cases c =
    refused_text c.args.first.now c.args.file_size (sym c.is_database.ensures.value ∙ c.if-not-is_database.true)

pub returns-in_default-clause-cases : goal.returns-in_default-clause-cases
returns-in_default-clause-cases c =
    let database = sym c.is_database.ensures.value ∙ c.if-not-is_database.false in
    let fails = false_from_ne_true (is_page_size (spelled_page_size (u16_at c.args.first.now 16)))
    (λ legal. let is = c.in_default.ensures.legal.1 (rw c.get_u16-stored.ensures legal) in cc) in
    rw c.get_u16-stored.ensures (refused_size c.args.first.now c.args.file_size database fails)

pub returns-then-not-has_versions-clause-cases : goal.returns-then-not-has_versions-clause-cases
returns-then-not-has_versions-clause-cases c =
    let size : PassesSize c.args.first.now =
    record {
      database = sym c.is_database.ensures.value ∙ c.if-not-is_database.false;
      page_size = rw c.get_u16-stored.ensures at (c.in-Some.ensures.legal.0 refl);
    } in
    refused_versions c.args.first.now c.args.file_size size
    (λ are. let is = c.has_versions.ensures.1 are in cc)

pub returns-then-encoding-gt1-clause-cases : goal.returns-then-encoding-gt1-clause-cases
returns-then-encoding-gt1-clause-cases c =
    let size : PassesSize c.args.first.now =
    record {
      database = sym c.is_database.ensures.value ∙ c.if-not-is_database.false;
      page_size = rw c.get_u16-stored.ensures at (c.in-Some.ensures.legal.0 refl);
    } in
    let versions : PassesVersions c.args.first.now =
    record {
      before = size;
      same = (c.has_versions.ensures.0 c.if-not-has_versions.false).0;
      least = (c.has_versions.ensures.0 c.if-not-has_versions.false).1;
      greatest = (c.has_versions.ensures.0 c.if-not-has_versions.false).2;
    } in
    rw c.get_u32-encoding.ensures (refused_encoding c.args.first.now c.args.file_size versions (omega arith))

pub returns-then-largest_root-ne0-clause-cases : goal.returns-then-largest_root-ne0-clause-cases
returns-then-largest_root-ne0-clause-cases c =
    let size : PassesSize c.args.first.now =
    record {
      database = sym c.is_database.ensures.value ∙ c.if-not-is_database.false;
      page_size = rw c.get_u16-stored.ensures at (c.in-Some.ensures.legal.0 refl);
    } in
    let versions : PassesVersions c.args.first.now =
    record {
      before = size;
      same = (c.has_versions.ensures.0 c.if-not-has_versions.false).0;
      least = (c.has_versions.ensures.0 c.if-not-has_versions.false).1;
      greatest = (c.has_versions.ensures.0 c.if-not-has_versions.false).2;
    } in
    let encoding : PassesEncoding c.args.first.now = record { before = versions; encoding = omega arith } in
    rw c.get_u32-largest_root.ensures (refused_vacuum c.args.first.now c.args.file_size encoding (omega arith))

pub returns-then-from-page_size-clause-cases : goal.returns-then-from-page_size-clause-cases
returns-then-from-page_size-clause-cases c =
    let size : PassesSize c.args.first.now =
    record {
      database = sym c.is_database.ensures.value ∙ c.if-not-is_database.false;
      page_size = rw c.get_u16-stored.ensures at (c.in-Some.ensures.legal.0 refl);
    } in
    let versions : PassesVersions c.args.first.now =
    record {
      before = size;
      same = (c.has_versions.ensures.0 c.if-not-has_versions.false).0;
      least = (c.has_versions.ensures.0 c.if-not-has_versions.false).1;
      greatest = (c.has_versions.ensures.0 c.if-not-has_versions.false).2;
    } in
    let encoding : PassesEncoding c.args.first.now = record { before = versions; encoding = omega arith } in
    let vacuum : PassesVacuum c.args.first.now = record { before = encoding; largest_root = omega arith } in
    let spelled : c.in-Some.page_size ≡ spelled_page_size (u16_at c.args.first.now 16) = rw c.get_u16-stored.ensures at c.in-Some.ensures.size in
    refused_usable c.args.first.now c.args.file_size vacuum (unusable_from c.from.ensures spelled c.if-from-page_size.true)

pub returns-then-format-gt4-clause-cases : goal.returns-then-format-gt4-clause-cases
returns-then-format-gt4-clause-cases c =
    let size : PassesSize c.args.first.now =
    record {
      database = sym c.is_database.ensures.value ∙ c.if-not-is_database.false;
      page_size = rw c.get_u16-stored.ensures at (c.in-Some.ensures.legal.0 refl);
    } in
    let versions : PassesVersions c.args.first.now =
    record {
      before = size;
      same = (c.has_versions.ensures.0 c.if-not-has_versions.false).0;
      least = (c.has_versions.ensures.0 c.if-not-has_versions.false).1;
      greatest = (c.has_versions.ensures.0 c.if-not-has_versions.false).2;
    } in
    let encoding : PassesEncoding c.args.first.now = record { before = versions; encoding = omega arith } in
    let vacuum : PassesVacuum c.args.first.now = record { before = encoding; largest_root = omega arith } in
    let spelled : c.in-Some.page_size ≡ spelled_page_size (u16_at c.args.first.now 16) = rw c.get_u16-stored.ensures at c.in-Some.ensures.size in
    let usable : PassesUsable c.args.first.now = record { before = vacuum; usable = usable_from c.from.ensures spelled c.if-from-page_size.false } in
    rw c.get_u32-format.ensures (refused_format c.args.first.now c.args.file_size usable (omega arith))

pub count_pages-pages-requires-clause-size : goal.count_pages-pages-requires-clause-size
count_pages-pages-requires-clause-size c =
    let spelled : c.in-Some.page_size ≡ spelled_page_size (u16_at c.args.first.now 16) = rw c.get_u16-stored.ensures at c.in-Some.ensures.size in
    spelled ∙ sym (page_size_read c.args.first.now)

pub returns-then-pages-from-gt-MOST_BYTES-clause-cases : goal.returns-then-pages-from-gt-MOST_BYTES-clause-cases
returns-then-pages-from-gt-MOST_BYTES-clause-cases c =
    let size : PassesSize c.args.first.now =
    record {
      database = sym c.is_database.ensures.value ∙ c.if-not-is_database.false;
      page_size = rw c.get_u16-stored.ensures at (c.in-Some.ensures.legal.0 refl);
    } in
    let versions : PassesVersions c.args.first.now =
    record {
      before = size;
      same = (c.has_versions.ensures.0 c.if-not-has_versions.false).0;
      least = (c.has_versions.ensures.0 c.if-not-has_versions.false).1;
      greatest = (c.has_versions.ensures.0 c.if-not-has_versions.false).2;
    } in
    let encoding : PassesEncoding c.args.first.now = record { before = versions; encoding = omega arith } in
    let vacuum : PassesVacuum c.args.first.now = record { before = encoding; largest_root = omega arith } in
    let spelled : c.in-Some.page_size ≡ spelled_page_size (u16_at c.args.first.now 16) = rw c.get_u16-stored.ensures at c.in-Some.ensures.size in
    let usable : PassesUsable c.args.first.now = record { before = vacuum; usable = usable_from c.from.ensures spelled c.if-from-page_size.false } in
    let format : PassesFormat c.args.first.now = record { before = usable; format = omega arith } in
    let is = spelled ∙ sym (page_size_read c.args.first.now) in
    let over = rw (c.from-2.ensures, is, c.count_pages-pages.ensures.value) at c.if-pages-from-gt-MOST_BYTES.true in
    rw c.count_pages-pages.ensures.value (refused_limit c.args.first.now c.args.file_size format over)

pub returns-clause-cases : goal.returns-clause-cases
returns-clause-cases c =
    let size : PassesSize c.args.first.now =
    record {
      database = sym c.is_database.ensures.value ∙ c.if-not-is_database.false;
      page_size = rw c.get_u16-stored.ensures at (c.in-Some.ensures.legal.0 refl);
    } in
    let versions : PassesVersions c.args.first.now =
    record {
      before = size;
      same = (c.has_versions.ensures.0 c.if-not-has_versions.false).0;
      least = (c.has_versions.ensures.0 c.if-not-has_versions.false).1;
      greatest = (c.has_versions.ensures.0 c.if-not-has_versions.false).2;
    } in
    let encoding : PassesEncoding c.args.first.now = record { before = versions; encoding = omega arith } in
    let vacuum : PassesVacuum c.args.first.now = record { before = encoding; largest_root = omega arith } in
    let spelled : c.in-Some.page_size ≡ spelled_page_size (u16_at c.args.first.now 16) = rw c.get_u16-stored.ensures at c.in-Some.ensures.size in
    let usable : PassesUsable c.args.first.now = record { before = vacuum; usable = usable_from c.from.ensures spelled c.if-from-page_size.false } in
    let format : PassesFormat c.args.first.now = record { before = usable; format = omega arith } in
    let is = spelled ∙ sym (page_size_read c.args.first.now) in
    let within = rw (c.from-2.ensures, is, c.count_pages-pages.ensures.value) at c.if-pages-from-gt-MOST_BYTES.false in
    record {
      accepted = accepted c.args.first.now c.args.file_size format within;
      told = sym (c.told_header.ensures.value c.args.file_size is c.count_pages-pages.ensures.value
          (text_encoding_read c.args.first.now encoding.encoding));
    }

pub returns-clause-told : goal.returns-clause-told
returns-clause-told c =
    let size : PassesSize c.args.first.now =
    record {
      database = sym c.is_database.ensures.value ∙ c.if-not-is_database.false;
      page_size = rw c.get_u16-stored.ensures at (c.in-Some.ensures.legal.0 refl);
    } in
    let versions : PassesVersions c.args.first.now =
    record {
      before = size;
      same = (c.has_versions.ensures.0 c.if-not-has_versions.false).0;
      least = (c.has_versions.ensures.0 c.if-not-has_versions.false).1;
      greatest = (c.has_versions.ensures.0 c.if-not-has_versions.false).2;
    } in
    let encoding : PassesEncoding c.args.first.now = record { before = versions; encoding = omega arith } in
    let vacuum : PassesVacuum c.args.first.now = record { before = encoding; largest_root = omega arith } in
    let spelled : c.in-Some.page_size ≡ spelled_page_size (u16_at c.args.first.now 16) = rw c.get_u16-stored.ensures at c.in-Some.ensures.size in
    let usable : PassesUsable c.args.first.now = record { before = vacuum; usable = usable_from c.from.ensures spelled c.if-from-page_size.false } in
    let format : PassesFormat c.args.first.now = record { before = usable; format = omega arith } in
    let is = spelled ∙ sym (page_size_read c.args.first.now) in
    let within = rw (c.from-2.ensures, is, c.count_pages-pages.ensures.value) at c.if-pages-from-gt-MOST_BYTES.false in
    let told = c.told_header.ensures.value c.args.file_size is c.count_pages-pages.ensures.value
    (text_encoding_read c.args.first.now encoding.encoding) in
    rw told (told_passes c.args.first.now c.args.file_size format within)

pub returns-clause-accepted : goal.returns-clause-accepted
returns-clause-accepted c =
    let size : PassesSize c.args.first.now =
    record {
      database = sym c.is_database.ensures.value ∙ c.if-not-is_database.false;
      page_size = rw c.get_u16-stored.ensures at (c.in-Some.ensures.legal.0 refl);
    } in
    let versions : PassesVersions c.args.first.now =
    record {
      before = size;
      same = (c.has_versions.ensures.0 c.if-not-has_versions.false).0;
      least = (c.has_versions.ensures.0 c.if-not-has_versions.false).1;
      greatest = (c.has_versions.ensures.0 c.if-not-has_versions.false).2;
    } in
    let encoding : PassesEncoding c.args.first.now = record { before = versions; encoding = omega arith } in
    let vacuum : PassesVacuum c.args.first.now = record { before = encoding; largest_root = omega arith } in
    let spelled : c.in-Some.page_size ≡ spelled_page_size (u16_at c.args.first.now 16) = rw c.get_u16-stored.ensures at c.in-Some.ensures.size in
    let usable : PassesUsable c.args.first.now = record { before = vacuum; usable = usable_from c.from.ensures spelled c.if-from-page_size.false } in
    let format : PassesFormat c.args.first.now = record { before = usable; format = omega arith } in
    let is = spelled ∙ sym (page_size_read c.args.first.now) in
    let within = rw (c.from-2.ensures, is, c.count_pages-pages.ensures.value) at c.if-pages-from-gt-MOST_BYTES.false in
    accepted_iff c.args.first.now c.args.file_size format within

pub returns-then-not-is_database-clause-accepted : goal.returns-then-not-is_database-clause-accepted
returns-then-not-is_database-clause-accepted c = refused_iff c.args.first.now c.args.file_size _ (returns-then-not-is_database-clause-cases c)

pub returns-in_default-clause-accepted : goal.returns-in_default-clause-accepted
returns-in_default-clause-accepted c = refused_iff c.args.first.now c.args.file_size _ (returns-in_default-clause-cases c)

pub returns-then-not-has_versions-clause-accepted : goal.returns-then-not-has_versions-clause-accepted
returns-then-not-has_versions-clause-accepted c = refused_iff c.args.first.now c.args.file_size _ (returns-then-not-has_versions-clause-cases c)

pub returns-then-encoding-gt1-clause-accepted : goal.returns-then-encoding-gt1-clause-accepted
returns-then-encoding-gt1-clause-accepted c = refused_iff c.args.first.now c.args.file_size _ (returns-then-encoding-gt1-clause-cases c)

pub returns-then-largest_root-ne0-clause-accepted : goal.returns-then-largest_root-ne0-clause-accepted
returns-then-largest_root-ne0-clause-accepted c = refused_iff c.args.first.now c.args.file_size _ (returns-then-largest_root-ne0-clause-cases c)

pub returns-then-from-page_size-clause-accepted : goal.returns-then-from-page_size-clause-accepted
returns-then-from-page_size-clause-accepted c = refused_iff c.args.first.now c.args.file_size _ (returns-then-from-page_size-clause-cases c)

pub returns-then-format-gt4-clause-accepted : goal.returns-then-format-gt4-clause-accepted
returns-then-format-gt4-clause-accepted c = refused_iff c.args.first.now c.args.file_size _ (returns-then-format-gt4-clause-cases c)

pub returns-then-pages-from-gt-MOST_BYTES-clause-accepted : goal.returns-then-pages-from-gt-MOST_BYTES-clause-accepted
returns-then-pages-from-gt-MOST_BYTES-clause-accepted c = refused_iff c.args.first.now c.args.file_size _ (returns-then-pages-from-gt-MOST_BYTES-clause-cases c)
