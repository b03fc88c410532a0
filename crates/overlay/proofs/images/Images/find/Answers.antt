use Rattle.std.proofs.Common.{◌≡◌, ◌∙◌, ℕ, List, Option, Some, None, sym, subst, ap}
use Rattle.std.specs.Prelude.{MatchOption}
use Rattle.engine_spec.specs.declared.commits.PageImage.{PageImage}
use Rattle.engine_spec.specs.Change.{image_of}
use Rattle.overlay.specs.Images.{TwoImages}
use Rattle.overlay.specs.Runs.{items_in}
use Rattle.overlay.proofs.ImageLaws.{merged_has, merged_below}
use Rattle.overlay.proofs.images.Images.find.Goals as goal

pub returns-in-Some : goal.returns-in-Some
returns-in-Some c =
    subst (λ (images : TwoImages). image_of images.now c.args.page ≡ Some c.in-Some.bytes.now) c.self.view_is
    (merged_has (items_in c.self.inside.kept) c.self.inside.since.items c.args.page c.in-Some.bytes.now
    (ap (λ (all : List PageImage). image_of all c.args.page) (sym c.as_slice.ensures.value) ∙ c.in-Some.ensures))

pub returns-in-None : goal.returns-in-None
returns-in-None c =
    let same : image_of c.args.self.now.now c.args.page ≡ image_of c.as_slice-in-None.result.now c.args.page =
    ap (λ (images : TwoImages). image_of images.now c.args.page) (sym c.self.view_is)
    ∙ (merged_below (items_in c.self.inside.kept) c.self.inside.since.items c.args.page
    (ap (λ (all : List PageImage). image_of all c.args.page) (sym c.as_slice.ensures.value) ∙ c.in-None.ensures)
    ∙ ap (λ (all : List PageImage). image_of all c.args.page) (sym c.as_slice-in-None.ensures)) in
    subst (λ (held : Option (List ℕ)). MatchOption c.bytes_of-in-None.result (held ≡ None) (λ bytes. held ≡ Some bytes.now)) (sym same)
    c.bytes_of-in-None.ensures
