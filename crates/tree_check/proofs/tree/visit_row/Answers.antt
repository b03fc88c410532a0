use Rattle.std.proofs.Common.{◌≡◌, w64, to_z, of_z, ◌-◌, true, [], ◌∷◌, length, ◌∙◌, arith}
use Rattle.std.proofs.lemmas.Int.{to_z-of_z, ints}
use Rattle.std.proofs.lemmas.Result.{on_ok_weaker, IfErr-weaker}
use Rattle.check_spec.specs.Walk.{Place, link_places, payload_places}
use Rattle.tree_check.proofs.Joining.{first_bars, memory_bars}
use Rattle.tree_check.proofs.Paying.{row_visited, row_bars}
use Rattle.tree_check.proofs.tree.visit_row.Goals as goal

pub row_root-requires : goal.row_root-requires
row_root-requires g c = record {
  short = λ kept.
      let shows = c.requires.cell in
      let content = c.in-Ok.ensures.content shows.0 shows.1 in
      omega (arith, content.kept kept, c.is_short-keep.ensures.short kept, shows.1.tells.payload);
}

pub returns-in-Err-clause-cause : goal.returns-in-Err-clause-cause
returns-in-Err-clause-cause g c = λ told shows.
    first_bars g.P.PagesTells c.args.pages.now c.visit_content.new.pages c.args.walk.now (link_places told.overflow (told.payload - length told.local)) (Place.AtRow told ∷ [])
    c.in-Err.why c.requires.suits c.in-Err.ensures.reading (c.in-Err.ensures.cause told shows)

pub returns-in-Err-row_root-clause-cause : goal.returns-in-Err-row_root-clause-cause
returns-in-Err-row_root-clause-cause g c = λ told shows.
    memory_bars g.P.PagesTells c.args.pages.now c.visit_content.new.pages c.args.walk.now (payload_places true told) c.in-Err-row_root.why c.in-Err-row_root.ensures.cause

pub returns-in-Ok-row_root-clause-visited : goal.returns-in-Ok-row_root-clause-visited
returns-in-Ok-row_root-clause-visited g c =
    on_ok_weaker c.name_root.result
    (λ named told shows.
    row_visited g.P.PagesTells c.args.pages.now c.visit_content.new.pages c.args.walk.now c.visit_content.new.walk c.name_root.new.walk c.is_short-keep.result told
    c.in-Ok-row_root.root c.requires.suits c.in-Ok.ensures.reading
    (λ kept. omega (arith, c.is_short-keep.ensures.short kept, shows.tells.payload))
    (c.in-Ok.ensures.content told shows) c.in-Ok-row_root.ensures.root named)
    c.name_root.ensures.named

pub returns-in-Ok-row_root-clause-cause : goal.returns-in-Ok-row_root-clause-cause
returns-in-Ok-row_root-clause-cause g c =
    IfErr-weaker c.name_root.result _ _
    (λ why bars told shows.
    let rowid : to_z w64 (of_z w64 c.args.cell.now.rowid) ≡ told.rowid = to_z-of_z w64 c.args.cell.now.rowid (omega (arith, ints)) ∙ shows.tells.rowid in
    row_bars g.P.PagesTells c.args.pages.now c.visit_content.new.pages c.args.walk.now c.visit_content.new.walk c.is_short-keep.result told c.in-Ok-row_root.root
    (to_z w64 (of_z w64 c.args.cell.now.rowid)) why c.requires.suits c.in-Ok.ensures.reading
    (λ long. omega (arith, c.is_short-keep.ensures.long long, shows.tells.payload))
    (c.in-Ok.ensures.content told shows) c.in-Ok-row_root.ensures.root rowid bars)
    c.name_root.ensures.cause
