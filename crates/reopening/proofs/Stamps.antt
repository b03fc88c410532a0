-- Page 1 with new header fields, as each commit leaves it: the header stays one of this program's stores.
use Rattle.std.proofs.Common.{◌≡◌, ◌∙◌, ℕ, ◌≤◌, true, List, ◌++◌, length, take, drop, refl, sym, ap, subst, arith, length-take}
use Rattle.std.specs.List.{starts_with}
use Rattle.std.specs.Prelude.{nat_le, nat_eq}
use Rattle.std.proofs.lemmas.List.{take-append-le, take-take}
use Rattle.page_spec.specs.Bytes.{u16_at, u32_at}
use Rattle.page_spec.specs.Header.{database_text, fields_of, is_database, page_size_in, spelled_page_size, is_page_size, has_versions, is_utf8, is_without_auto_vacuum, has_usable_bytes, has_schema_format, IsHeader}
use Rattle.engine_spec.specs.Change.{between, next_counter, stamped, u32_bytes}
use Rattle.engine_spec.proofs.Laying.{stamped-length}
use Rattle.engine_spec.proofs.Stamped.{low, at_middle}
use Rattle.recover.proofs.Page1.{database_is_long, le_true}

-- Page 1 of a store of this program: the header of a readable database with this page size and this program's versions.
pub record IsOwnFirst (size : ℕ) (first : List ℕ) : Type 0 where
  pub header : IsHeader first
  pub write_version : (fields_of first).write_version ≡ 3
  pub read_version : (fields_of first).read_version ≡ 3
  pub sized : page_size_in (fields_of first) ≡ size

module _ (size : ℕ) (first : List ℕ) (long : 100 ≤ length first) where
  -- the fields that stay
  same_page_size : u16_at (stamped size first) 16 ≡ u16_at first 16
  unfolding u16_at
  same_page_size = rw (low size first long 16 (omega arith), low size first long 17 (omega arith)) refl

  same_root : u32_at (stamped size first) 52 ≡ u32_at first 52
  unfolding u32_at
  same_root = rw (at_middle size first long 20 (omega arith), at_middle size first long 21 (omega arith), at_middle size first long 22 (omega arith), at_middle size first long 23 (omega arith)) refl

  same_encoding : u32_at (stamped size first) 56 ≡ u32_at first 56
  unfolding u32_at
  same_encoding = rw (at_middle size first long 24 (omega arith), at_middle size first long 25 (omega arith), at_middle size first long 26 (omega arith), at_middle size first long 27 (omega arith)) refl

  same_format : u32_at (stamped size first) 44 ≡ u32_at first 44
  unfolding u32_at
  same_format = rw (at_middle size first long 12 (omega arith), at_middle size first long 13 (omega arith), at_middle size first long 14 (omega arith), at_middle size first long 15 (omega arith)) refl

  same_text : starts_with nat_eq (stamped size first) database_text ≡ starts_with nat_eq first database_text
  same_text =
      let front : take 16 (stamped size first) ≡ take 16 first =
      take-append-le 16 (take 24 first) (u32_bytes (next_counter first) ++ (u32_bytes size ++ (between 32 92 first ++ (u32_bytes (next_counter first) ++ drop 96 first)))) (omega (arith, length-take 24 first))
      ∙ take-take 16 24 first (omega arith) in
      rw front refl

  same_database : is_database first ≡ true → is_database (stamped size first) ≡ true
  unfolding is_database
  same_database database =
      let one : nat_le 100 (length (stamped size first)) ≡ nat_le 100 (length first) =
      le_true 100 (length (stamped size first)) (omega (arith, stamped-length size first long)) ∙ sym (le_true 100 (length first) long) in
      rw (one, same_text, low size first long 21 (omega arith), low size first long 22 (omega arith), low size first long 23 (omega arith)) database

-- a header of this program's stores stays one
pub stamped_own : (bytes size : ℕ) (first : List ℕ) → IsOwnFirst bytes first → IsOwnFirst bytes (stamped size first)
unfolding fields_of has_versions is_utf8 is_without_auto_vacuum has_usable_bytes has_schema_format
stamped_own bytes size first own =
    let long = database_is_long first own.header.database in
    let paged = same_page_size size first long in
    record {
      header = record {
        database = same_database size first long own.header.database;
        page_size = subst (λ (n : ℕ). is_page_size (spelled_page_size n) ≡ true) (sym paged) own.header.page_size;
        versions = rw (low size first long 18 (omega arith), low size first long 19 (omega arith)) own.header.versions;
        utf8 = rw (same_encoding size first long) own.header.utf8;
        without_auto_vacuum = rw (same_root size first long) own.header.without_auto_vacuum;
        usable_bytes = rw (low size first long 20 (omega arith), paged) own.header.usable_bytes;
        schema_format = rw (same_format size first long) own.header.schema_format;
      };
      write_version = low size first long 18 (omega arith) ∙ own.write_version;
      read_version = low size first long 19 (omega arith) ∙ own.read_version;
      sized = ap spelled_page_size paged ∙ own.sized;
    }
