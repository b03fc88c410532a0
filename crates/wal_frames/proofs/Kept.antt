-- What the scan keeps, whatever the disk tells of its bytes.
use Rattle.std.proofs.Common.{◌≡◌, ◌≢◌, ℕ, zero, suc, ◌+◌, ◌≤◌, ◌<◌, List, [], ◌∷◌, ◌++◌, length, take, inr, refl, sym, ◌∙◌, ap, arith, length-append}
use Rattle.std.specs.Prelude.{All}
use Rattle.std.proofs.lemmas.List.{length-take-le}
use Rattle.std.proofs.lemmas.List.Elements.{All-nil, All-cons, All-append, All-take}
use Rattle.log_spec.specs.Checksum.{Sum as Words}
use Rattle.wal_frames.specs.Front.{words_of, IsLegalFront}
use Rattle.wal_frames.specs.Found.{IsLegal}
use Rattle.wal_frames.specs.declared.header.LogHeader.{LogHeader}
use Rattle.wal_frames.specs.declared.header.Front.TheVariants.{Ours}
use Rattle.wal_frames.specs.declared.found.Accepted.{Accepted}

-- the pages read so far, how many of them are kept, and the size and the checksum behind these
pub record Keeps (pages : List ℕ) (kept size : ℕ) (sum first : Words) : Type 0 where
  pub numbered : All (λ page. page ≢ 0) pages
  pub within : kept ≤ length pages
  pub none : kept ≡ 0 → (size ≡ 0) × (sum ≡ first)
  pub some : 0 < kept → size ≢ 0

pub keeps_none : (sum : Words) → Keeps [] 0 0 sum sum
keeps_none sum = record {
  numbered = All-nil (λ (page : ℕ). page ≢ 0);
  within = omega arith;
  none = λ none. (refl, refl);
  some = λ some. absurd (omega arith);
}

pub keeps_more : (pages : List ℕ) (kept size : ℕ) (sum first : Words) (page : ℕ) → page ≢ 0 → Keeps pages kept size sum first → Keeps (pages ++ page ∷ []) kept size sum first
keeps_more pages kept size sum first page numbered keeps = record {
  numbered = All-append (λ (page : ℕ). page ≢ 0) pages (page ∷ []) keeps.numbered (All-cons (λ (page : ℕ). page ≢ 0) page [] numbered (All-nil (λ (page : ℕ). page ≢ 0)));
  within = omega (arith, keeps.within, length-append pages (page ∷ []));
  none = keeps.none;
  some = keeps.some;
}

pub keeps_commit : (pages : List ℕ) (kept size : ℕ) (sum first : Words) (page count size' : ℕ) (sum' : Words) → page ≢ 0 → size' ≢ 0 → count ≡ length pages + 1
    → Keeps pages kept size sum first → Keeps (pages ++ page ∷ []) count size' sum' first
keeps_commit pages kept size sum first page count size' sum' numbered some is keeps = record {
  numbered = All-append (λ (page : ℕ). page ≢ 0) pages (page ∷ []) keeps.numbered (All-cons (λ (page : ℕ). page ≢ 0) page [] numbered (All-nil (λ (page : ℕ). page ≢ 0)));
  within = omega (arith, is, length-append pages (page ∷ []));
  none = λ none. absurd (omega (arith, is));
  some = λ more. some;
}

no_pages : (pages : List ℕ) → length pages ≡ 0 → pages ≡ []
no_pages [] none = refl
no_pages (page ∷ rest) none = absurd (omega arith)

-- what was found is legal
pub legal_found : (log : ℕ) (header : LogHeader) (pages : List ℕ) (kept size : ℕ) (found : Accepted) → IsLegalFront log (Ours header)
    → Keeps pages kept size (words_of found.sum) (words_of header.sum) → found.front ≡ Ours header → found.pages.items ≡ take kept pages → found.size ≡ size → IsLegal log found
legal_found log header pages kept size found legal keeps front items is =
    let long : length found.pages.items ≡ kept = ap (λ (xs : List ℕ). length xs) items ∙ length-take-le kept pages keeps.within in
    let empty : found.pages.items ≡ [] → kept ≡ 0 = λ none. sym long ∙ ap (λ (xs : List ℕ). length xs) none in
    record {
      front = rw front legal;
      bare = inr (rw front tt);
      numbered = rw items (All-take (λ (page : ℕ). page ≢ 0) kept pages keeps.numbered);
      sized = (λ none. no_pages found.pages.items (long ∙ kept_none kept (λ some. keeps.some some (sym is ∙ none))), λ none. is ∙ (keeps.none (empty none)).0);
      summed = λ none. (keeps.none (empty none)).1 ∙ rw front refl;
    }
  where
    kept_none : (n : ℕ) → (0 < n → ⊥) → n ≡ 0
    kept_none zero not = refl
    kept_none (suc n) not = absurd (not (omega arith))
