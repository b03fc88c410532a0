-- What the header of page 1 tells is what the recovered page 1 has.
use Rattle.std.proofs.Common.{◌≡◌, ℕ, List, length, sym, ◌∙◌, ap}
use Rattle.disk_face.specs.Files.{Files}
use Rattle.page_spec.specs.Header.{HeaderFields, fields_of, page_size_in, pages_in}
use Rattle.db_header.specs.Header.{header_of}
use Rattle.db_header.specs.declared.header.Header.{Header}
use Rattle.wal_frames.specs.declared.found.Accepted.{Accepted}
use Rattle.recover.specs.declared.scan.First.{First}
use Rattle.recover.specs.Seeing.{first_in, size_in}
use Rattle.recover.specs.Looking.{AreScanned, AreLegal, TellsFirst, bytes_at, place_in}
use Rattle.recover.proofs.Page1.{fields_alike, same_pages_in}
use Rattle.recover.proofs.Page1Read.{same_first}

told_size : (bytes : List ℕ) (n : ℕ) (header : Header) → header_of bytes n ≡ header → page_size_in (fields_of bytes) ≡ header.page_size
unfolding header_of
told_size bytes n header is = ap (λ (h : Header). h.page_size) is

told_reserved : (bytes : List ℕ) (n : ℕ) (header : Header) → header_of bytes n ≡ header → (fields_of bytes).reserved ≡ header.reserved
unfolding header_of
told_reserved bytes n header is = ap (λ (h : Header). h.reserved) is

told_pages : (bytes : List ℕ) (n : ℕ) (header : Header) → header_of bytes n ≡ header → pages_in bytes n ≡ header.pages
unfolding header_of
told_pages bytes n header is = ap (λ (h : Header). h.pages) is

told_write : (bytes : List ℕ) (n : ℕ) (header : Header) → header_of bytes n ≡ header → (fields_of bytes).write_version ≡ header.versions.0
unfolding header_of
told_write bytes n header is = ap (λ (h : Header). h.versions.0) is

told_read : (bytes : List ℕ) (n : ℕ) (header : Header) → header_of bytes n ≡ header → (fields_of bytes).read_version ≡ header.versions.1
unfolding header_of
told_read bytes n header is = ap (λ (h : Header). h.versions.1) is

module _ (files : Files) (one two : Accepted) (first : First) (scanned : AreScanned files one two) (legal : AreLegal one two)
    (tells : TellsFirst (bytes_at files (place_in one two 1)) (length files.main) first) where
  abbrev bytes : List ℕ
  bytes = bytes_at files (place_in one two 1)

  pub fields_same : fields_of bytes ≡ fields_of (first_in files)
  fields_same = fields_alike bytes (first_in files) (same_first files one two scanned legal)

  is_told : header_of bytes (length files.main) ≡ first.header
  is_told = tells.header.told

  pub page_size_is : first.header.page_size ≡ size_in files
  page_size_is = sym (told_size bytes (length files.main) first.header is_told) ∙ ap (λ (fields : HeaderFields). page_size_in fields) fields_same

  pub reserved_is : first.header.reserved ≡ (fields_of (first_in files)).reserved
  reserved_is = sym (told_reserved bytes (length files.main) first.header is_told) ∙ ap (λ (fields : HeaderFields). fields.reserved) fields_same

  pub write_is : first.header.versions.0 ≡ (fields_of (first_in files)).write_version
  write_is = sym (told_write bytes (length files.main) first.header is_told) ∙ ap (λ (fields : HeaderFields). fields.write_version) fields_same

  pub read_is : first.header.versions.1 ≡ (fields_of (first_in files)).read_version
  read_is = sym (told_read bytes (length files.main) first.header is_told) ∙ ap (λ (fields : HeaderFields). fields.read_version) fields_same

  pub pages_is : first.header.pages ≡ pages_in (first_in files) (length files.main)
  pages_is = sym (told_pages bytes (length files.main) first.header is_told) ∙ same_pages_in bytes (first_in files) (length files.main) fields_same
