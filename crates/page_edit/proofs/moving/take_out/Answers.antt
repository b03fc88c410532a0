use Rattle.std.proofs.Common.{◌≡◌, ℕ, ◌+◌, ◌<◌, List, length, remove, ◌∙◌, ap, subst, refl, arith}
use Rattle.page_spec.specs.Bytes.{u16_at}
use Rattle.node_spec.specs.Layout.{content_start}
use Rattle.page_edit.specs.declared.form.Form.{Form}
use Rattle.page_edit.specs.Forms.{Holds, HasTexts, DropsPointer}
use Rattle.page_edit.proofs.Lists.{texts_of-remove}
use Rattle.page_edit.proofs.Packs.{dropped}
use Rattle.page_edit.proofs.moving.take_out.Goals as goal

holds_less : (form : Form) (k count : ℕ) (old new : List ℕ) (texts : List (List ℕ)) → HasTexts form old texts
    → DropsPointer old new form.at form.pointers count k → (new_count : ℕ) → new_count + 1 ≡ count → new_count ≡ u16_at new (form.at + 3)
    → count ≡ u16_at old (form.at + 3) → k < count → Holds form new (remove texts k)
holds_less form k count old new texts shown drops new_count less is was place =
    let h = shown.is_page.holds in
    let len : count ≡ length shown.pieces = was ∙ h.count in
    record {
      content = content_start old form.at;
      pieces = remove shown.pieces k;
      has = dropped form.u form.at form.pointers (content_start old form.at) k form.kind old new shown.pieces h (omega arith)
          (subst (λ n. DropsPointer old new form.at form.pointers n k) len drops) (omega (arith, is, less, len));
      texts_are = texts_of-remove shown.pieces k ∙ ap (λ xs. remove xs k) shown.texts_are;
    }

pub pack_cells-requires : goal.pack_cells-requires
pack_cells-requires c = record {
  holds = (
    remove c.requires.shown.0 c.args.k,
    holds_less c.args.form c.args.k c.from-count.result c.args.bytes.now c.drop_pointer.new.bytes c.requires.shown.0 c.requires.shown.1
        c.drop_pointer.ensures.drops _ c.drop_pointer.ensures.count refl (omega (arith, c.from-count.ensures, c.get_u16.ensures)) (omega (arith, c.from-count.ensures, c.get_u16.ensures, c.requires.place)),
  );
}

pub returns-clause-shows : goal.returns-clause-shows
returns-clause-shows c = λ texts shown.
    c.pack_cells.ensures.shows (remove texts c.args.k)
    (holds_less c.args.form c.args.k c.from-count.result c.args.bytes.now c.drop_pointer.new.bytes texts shown
    c.drop_pointer.ensures.drops _ c.drop_pointer.ensures.count refl (omega (arith, c.from-count.ensures, c.get_u16.ensures)) (omega (arith, c.from-count.ensures, c.get_u16.ensures, c.requires.place)))
