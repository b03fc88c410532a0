use Rattle.std.proofs.Common.{◌∙◌, ap, subst}
use Rattle.wal_index.specs.Frames.{FindsNext}
use Rattle.wal_index.proofs.frames.LogFrames.find_next.Goals as goal

pub returns : goal.returns
returns c = subst (λ pages. FindsNext pages c.args.after c.next_of.result) (c.deref.ensures.value ∙ ap (λ frames. frames.pages) c.self.view_is) c.next_of.ensures
