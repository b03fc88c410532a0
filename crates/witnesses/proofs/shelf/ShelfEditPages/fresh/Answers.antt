use Rattle.std.proofs.Common.{◌≡◌, ℕ, ◌+◌, ◌≤◌, [], ◌∷◌, ◌++◌, length, ap, ◌∙◌, refl, ◌*◌, inl, inr, arith}
use Rattle.std.proofs.lemmas.Bool.{cases_lt}
use Rattle.std.proofs.lemmas.List.{length_push}
use Rattle.std.proofs.lemmas.List.Elements.{All-contains}
use Rattle.page_spec.specs.PageMap.{PageMap, page_at}
use Rattle.page_spec.specs.View.{but_freelist}
use Rattle.witnesses.proofs.Shelves.{page_at-push}
use Rattle.witnesses.proofs.shelf.ShelfEditPages.fresh.Goals as goal

pub returns-in-Ok-push : goal.returns-in-Ok-push
returns-in-Ok-push c =
    let pages = c.args.self.now.pages in
    let given = c.args.self.now.given in
    let page = c.len.result + 1 in
    let more : c.push.new.self ≡ pages ++ c.in-Ok.blank ∷ [] = c.in-Ok-push.ensures.ok in
    let last : c.len.result ≡ length pages = c.len.ensures in
    let longer : length c.push.new.self ≡ length pages + 1 = ap length more ∙ length_push pages c.in-Ok.blank in
    let some = c.args.self.now.some in
    let few = c.if-page-gt2097152.false in
    let small : page * 512 ≤ 1073741824 = omega (arith, few) in
    record {
      made = record {
        above = omega (arith, last, some);
        last = longer ∙ omega (arith, last);
        fits = λ past. (omega (arith, last), small);
        taken = λ world told neat. record {
          was_free = inl (omega (arith, last));
          taken = λ free. elim free [
            | inl past ↦ omega (arith, last, longer)
            | inr there ↦
                (let bound = All-contains (λ (q : ℕ). q ≤ length pages) given page c.args.self.now.held there in omega (arith, last, bound))
          ];
          stay = λ number apart free. elim free [
            | inl past ↦ inl (omega (arith, last, longer))
            | inr there ↦ inr there
          ];
          none_more = λ number free. elim free [
            | inl past ↦ inl (omega (arith, last, longer))
            | inr there ↦ inr there
          ];
          each = λ number low unfree. elim (cases_lt (length pages) number) [
            | inl past ↦ absurd (unfree (inl past))
            | inr within ↦ ap (λ (map : PageMap). page_at map number) more ∙ page_at-push pages c.in-Ok.blank number within
          ];
          first = ap but_freelist (ap (λ (map : PageMap). page_at map 1) more ∙ page_at-push pages c.in-Ok.blank 1 c.args.self.now.some);
          neat = tt;
          spared = λ none. absurd none;
          grown = λ none. omega (arith, last);
          no_more_spare = λ none. none;
        };
      };
      barred = tt;
      changed = λ world told neat number has. inl refl;
      read = λ world told neat number there. inl there;
      edits = record {
        narrows = λ world told. told;
        last = omega (arith, longer);
        has = λ number has. has;
        reads = λ number there. there;
        ready = tt;
        page_size = refl;
        usable = refl;
        faults = omega arith;
        loans = refl;
        follows = tt;
      };
    }
