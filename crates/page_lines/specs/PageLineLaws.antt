-- Page lines as the meaning of statements: none lead from a store to itself, and what some and then others lead to, all lead to.
use Rattle.std.specs.Prelude.{◌≡◌, ℕ, ◌==◌, if◌then◌else◌, List, [], ◌∷◌, ◌++◌, length, map, replicate, refl}
use Rattle.std.proofs.Common.{ap, ◌∙◌, sym}
use Rattle.std.proofs.lemmas.List.{map-append}
use Rattle.page_spec.specs.PageMap.{PageMap, page_at}
use Rattle.page_lines.specs.PageLines.{Statement, ReadPage, WritePage, statement_text, page_after, PageLinesLead}

-- the bytes of a page after some statements and then others
pub page_after-append : (page : ℕ) (some others : List Statement) (bytes : List ℕ)
    → page_after page (some ++ others) bytes ≡ page_after page others (page_after page some bytes)
page_after-append page [] others bytes = refl
page_after-append page (ReadPage other ∷ some) others bytes = page_after-append page some others bytes
page_after-append page (WritePage other byte ∷ some) others bytes =
    page_after-append page some others (if other == page then replicate (length bytes) byte else bytes)

-- no statements lead from a map to itself
pub rests : (pages : PageMap) → PageLinesLead pages [] pages
rests pages = record { statements = []; texts = refl; pages = λ page low high. refl }

-- some statements and then others lead to where the others lead from where some do
pub joins : (before between after : PageMap) (some others : List (List ℕ)) → PageLinesLead before some between
    → PageLinesLead between others after → PageLinesLead before (some ++ others) after
joins before between after some others first second = record {
  statements = first.statements ++ second.statements;
  texts = ap (λ (texts : List (List ℕ)). texts ++ others) first.texts
      ∙ (ap (λ (texts : List (List ℕ)). map statement_text first.statements ++ texts) second.texts
      ∙ sym (map-append statement_text first.statements second.statements));
  pages = λ page low high. second.pages page low high
      ∙ (ap (page_after page second.statements) (first.pages page low high)
      ∙ sym (page_after-append page first.statements second.statements (page_at before page)));
}
