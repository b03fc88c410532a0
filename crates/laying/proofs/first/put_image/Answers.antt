use Rattle.std.proofs.Common.{length}
use Rattle.laying.proofs.Pages.{image_whole}
use Rattle.laying.proofs.first.put_image.Goals as goal

pub put_bytes-requires-clause-same : goal.put_bytes-requires-clause-same
put_bytes-requires-clause-same c =
    image_whole c.args.changed.now 1 c.in-Some.new.now (length c.args.first.now) c.requires.whole c.in-Some.ensures
