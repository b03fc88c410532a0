-- What the statements of a transaction of page lines are told alone, with one statement more, and on each map that agrees with the
-- snapshot on the pages that were read.
use Rattle.std.proofs.Common.{◌≡◌, ℕ, ◌≤◌, List, [], ◌∷◌, ◌++◌, length, map, replicate, Option, Some, None, refl, sym, subst, ap, ◌∙◌, arith}
use Rattle.std.specs.Prelude.{slice_index, unwrap_or, true, false}
use Rattle.std.proofs.lemmas.List.{append-nil, append_assoc, length-replicate, map-append}
use Rattle.std.proofs.lemmas.Bool.{ne_eqb}
use Rattle.page_spec.specs.PageMap.{PageMap, page_at, page_size_of, Agree}
use Rattle.page_lines.specs.declared.lines.Told.{Told}
use Rattle.page_lines.specs.declared.lines.Told.TheVariants as told
use Rattle.engine_spec.specs.PageSet.{with_page}
use Rattle.page_lines.specs.PageLines.{Statement, ReadPage, WritePage, statement_text, read_text, write_text, page_after, with_image, Fills, AreImages, IsPageStore}
use Rattle.engine_spec.specs.Change.{image_of}
use Rattle.page_lines.specs.World.{World, PageTransaction, map_number, shown, reads_with}
use Rattle.page_lines.specs.Exchanges.{AcceptedStatement}
use Rattle.page_lines.specs.Serial.{told_alone, statements_in, IsToldAlone}
use Rattle.engine_spec.proofs.Laying.{page_at-length, agree_fewer}
use Rattle.engine_spec.proofs.PageSets.{with_has, with_keeps}
use Rattle.page_lines.proofs.Transactions.{none_are, fills_none, fills_read, fills_write, texts-push, with_image-are}

-- the answers to some statements and then to others
pub told_alone-append : (pages : PageMap) (before some others : List Statement)
    → told_alone pages before (some ++ others) ≡ told_alone pages before some ++ told_alone pages (before ++ some) others
told_alone-append pages before [] others =
    ap (λ (all : List Statement). told_alone pages all others) (sym (append-nil before))
told_alone-append pages before (ReadPage page ∷ some) others =
    ap (λ (rest : List Told). told.Byte (slice_index (page_after page before (page_at pages page)) 0) ∷ rest)
    (told_alone-append pages (before ++ ReadPage page ∷ []) some others
    ∙ ap (λ (all : List Statement). told_alone pages (before ++ ReadPage page ∷ []) some ++ told_alone pages all others)
    (append_assoc before (ReadPage page ∷ []) some))
told_alone-append pages before (WritePage page byte ∷ some) others =
    ap (λ (rest : List Told). told.Ok ∷ rest)
    (told_alone-append pages (before ++ WritePage page byte ∷ []) some others
    ∙ ap (λ (all : List Statement). told_alone pages (before ++ WritePage page byte ∷ []) some ++ told_alone pages all others)
    (append_assoc before (WritePage page byte ∷ []) some))

-- A page store whose pages have s bytes.
pub record IsStore (s : ℕ) (pages : PageMap) : Type 0 where
  pub store : IsPageStore pages
  pub size : page_size_of pages ≡ s

-- each page that page lines speak of has s bytes
pub page-long : (s : ℕ) (pages : PageMap) (q : ℕ) → IsStore s pages → 2 ≤ q → q ≤ 16 → length (page_at pages q) ≡ s
page-long s pages q sound low high =
    page_at-length pages (page_size_of pages) q sound.store.each (omega arith) (omega (arith, sound.store.count)) ∙ sound.size

-- one more at the end
pub statements-push : (done : List AcceptedStatement) (one : AcceptedStatement) → statements_in (done ++ one ∷ []) ≡ statements_in done ++ one.statement ∷ []
statements-push done one = map-append (λ (it : AcceptedStatement). it.statement) done (one ∷ [])

pub answers-push : (done : List AcceptedStatement) (one : AcceptedStatement)
    → map (λ (it : AcceptedStatement). it.told) (done ++ one ∷ []) ≡ map (λ (it : AcceptedStatement). it.told) done ++ one.told ∷ []
answers-push done one = map-append (λ (it : AcceptedStatement). it.told) done (one ∷ [])

-- told alone, with a statement more that was told what it is told after the others
pub alone-push : (pages : PageMap) (done : List AcceptedStatement) (one : AcceptedStatement) → IsToldAlone pages done
    → one.told ∷ [] ≡ told_alone pages (statements_in done) (one.statement ∷ []) → IsToldAlone pages (done ++ one ∷ [])
alone-push pages done one alone last =
    answers-push done one
    ∙ (ap (λ (answers : List Told). answers ++ one.told ∷ []) alone
    ∙ (ap (λ (answers : List Told). told_alone pages [] (statements_in done) ++ answers) last
    ∙ (sym (told_alone-append pages [] (statements_in done) (one.statement ∷ []))
    ∙ ap (told_alone pages []) (sym (statements-push done one)))))

-- A transaction is tied to what it did: it keeps the texts of its statements, its images are what they wrote, and it was told what it
-- is told alone on each map that agrees with its snapshot on the pages that it read.
pub record IsTied (s : ℕ) (snapshot : PageMap) (transaction : PageTransaction) (done : List AcceptedStatement) : Type 0 where
  pub texts : transaction.said ≡ map statement_text (statements_in done)
  pub images : AreImages s transaction.changed
  pub fills : Fills s (statements_in done) transaction.changed
  pub alone : (pages : PageMap) → IsStore s pages → Agree snapshot pages transaction.reads → IsToldAlone pages done

-- a transaction that has done nothing
pub tied_none : (s n : ℕ) (snapshot : PageMap)
    → IsTied s snapshot (record { snap = n; reads = []; changed = []; said = []; wrote = false }) []
tied_none s n snapshot = record {
  texts = refl;
  images = none_are s;
  fills = fills_none s;
  alone = λ pages sound agree. refl;
}

-- what agrees on the pages read with one more agrees on those before
agree_before : (snapshot pages : PageMap) (transaction : PageTransaction) (page : ℕ) (image : Option (List ℕ))
    → image_of transaction.changed page ≡ image → Agree snapshot pages (reads_with transaction page)
    → Agree snapshot pages transaction.reads
agree_before snapshot pages transaction page None is agree =
    let all : Agree snapshot pages (with_page transaction.reads page) = rw is at agree in
    agree_fewer snapshot pages (with_page transaction.reads page) transaction.reads (with_keeps transaction.reads page) all
agree_before snapshot pages transaction page (Some bytes) is agree =
    let all : Agree snapshot pages transaction.reads = rw is at agree in all

-- and what a transaction sees of the page is what it would see there
same_seen : (snapshot pages : PageMap) (transaction : PageTransaction) (page : ℕ) (image : Option (List ℕ)) → 2 ≤ page
    → image_of transaction.changed page ≡ image → Agree snapshot pages (reads_with transaction page)
    → unwrap_or (image_of transaction.changed page) (page_at snapshot page)
    ≡ unwrap_or (image_of transaction.changed page) (page_at pages page)
same_seen snapshot pages transaction page None low is agree =
    let all : Agree snapshot pages (with_page transaction.reads page) = rw is at agree in
    let same : page_at snapshot page ≡ page_at pages page =
    rw (ne_eqb page 1 (λ e. omega arith)) at (all.same page (with_has transaction.reads page)) in
    rw is same
same_seen snapshot pages transaction page (Some bytes) low is agree = rw is refl

-- a transaction with one read more
pub tied_read : (s : ℕ) (world : World) (transaction : PageTransaction) (page : ℕ) (done : List AcceptedStatement) → 2 ≤ page → page ≤ 16
    → IsTied s (map_number world transaction.snap) transaction done
    → IsTied s (map_number world transaction.snap) (record transaction {
      reads = reads_with transaction page;
      said = transaction.said ++ read_text page ∷ [];
    }) (done ++ record { statement = ReadPage page; told = told.Byte (slice_index (shown world transaction page) 0) } ∷ [])
tied_read s world transaction page done low high tied =
    let snapshot = map_number world transaction.snap in
    let statements = statements_in done in
    let one : AcceptedStatement = record { statement = ReadPage page; told = told.Byte (slice_index (shown world transaction page) 0) } in
    record {
      texts = ap (λ (texts : List (List ℕ)). texts ++ read_text page ∷ []) tied.texts
          ∙ (sym (texts-push statements (ReadPage page)) ∙ ap (map statement_text) (sym (statements-push done one)));
      images = tied.images;
      fills = subst (λ (all : List Statement). Fills s all transaction.changed) (sym (statements-push done one))
          (fills_read s statements transaction.changed page tied.fills);
      alone = λ pages sound agree.
          let image = image_of transaction.changed page in
          let seen : shown world transaction page ≡ page_after page statements (page_at pages page) =
          same_seen snapshot pages transaction page image low refl agree
          ∙ sym (tied.fills page (page_at pages page) (page-long s pages page sound low high)) in
          alone-push pages done one (tied.alone pages sound (agree_before snapshot pages transaction page image refl agree))
          (ap (λ (bytes : List ℕ). told.Byte (slice_index bytes 0) ∷ []) seen);
    }

-- a transaction with one write more, of a page of s bytes
pub tied_write : (s size : ℕ) (snapshot : PageMap) (transaction : PageTransaction) (page byte : ℕ) (done : List AcceptedStatement) → 2 ≤ page → page ≤ 16
    → size ≡ s → IsTied s snapshot transaction done
    → IsTied s snapshot (record transaction {
      changed = with_image transaction.changed page (replicate size byte);
      said = transaction.said ++ write_text page byte ∷ [];
      wrote = true;
    }) (done ++ record { statement = WritePage page byte; told = told.Ok } ∷ [])
tied_write s size snapshot transaction page byte done low high is tied =
    let statements = statements_in done in
    let one : AcceptedStatement = record { statement = WritePage page byte; told = told.Ok } in
    record {
      texts = ap (λ (texts : List (List ℕ)). texts ++ write_text page byte ∷ []) tied.texts
          ∙ (sym (texts-push statements (WritePage page byte)) ∙ ap (map statement_text) (sym (statements-push done one)));
      images = with_image-are transaction.changed page (replicate size byte) s low high (length-replicate size byte ∙ is) tied.images;
      fills = subst (λ (all : List Statement). Fills s all (with_image transaction.changed page (replicate size byte))) (sym (statements-push done one))
          (subst (λ (n : ℕ). Fills s (statements ++ WritePage page byte ∷ []) (with_image transaction.changed page (replicate n byte)))
          (sym is) (fills_write s statements transaction.changed page byte tied.fills));
      alone = λ pages sound agree. alone-push pages done one (tied.alone pages sound agree) refl;
    }
