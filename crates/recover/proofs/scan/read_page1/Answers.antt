use Rattle.std.proofs.Common.{sym, ◌∙◌, subst}
use Rattle.std.specs.Prelude.{IfSome}
use Rattle.disk_face.specs.Steps.{reads}
use Rattle.recover.specs.declared.place.Place.{Place}
use Rattle.recover.specs.Looking.{FitsFirst, TellsFirst, bytes_at, IsFirstFault}
use Rattle.recover.proofs.Page1Read.{new_told, fits_told, page1_told, fault_told}
use Rattle.recover.proofs.scan.read_page1.Goals as goal

pub returns-then-is_new-clause-told : goal.returns-then-is_new-clause-told
returns-then-is_new-clause-told g c = new_told (g.D.DiskTells.told c.args.disk.now) c.args.one.now c.args.two.now c.args.main c.requires.scanned c.requires.sized (sym c.is_new.ensures ∙ c.if-is_new.true)

pub read_first-requires-clause-fits : goal.read_first-requires-clause-fits
read_first-requires-clause-fits g c =
    subst (λ (place : Place). IfSome (g.D.DiskTells.told c.args.disk.now) (λ told. FitsFirst (reads told) place)) (sym c.first_place.ensures) (fits_told (g.D.DiskTells.told c.args.disk.now) c.args.one.now c.args.two.now c.requires.logs c.requires.scanned)

pub returns-in-Ok-clause-told : goal.returns-in-Ok-clause-told
returns-in-Ok-clause-told g c =
    page1_told (g.D.DiskTells.told c.args.disk.now) c.args.one.now c.args.two.now c.args.main c.in-Ok.first c.requires.scanned c.requires.sized (sym c.is_new.ensures ∙ c.if-is_new.false)
    (subst (λ (place : Place). IfSome (g.D.DiskTells.told c.args.disk.now) (λ told. TellsFirst (bytes_at (reads told) place) c.args.main c.in-Ok.first)) c.first_place.ensures c.in-Ok.ensures.told)

pub returns-in-Err-clause-refused : goal.returns-in-Err-clause-refused
returns-in-Err-clause-refused g c =
    fault_told (g.D.DiskTells.told c.args.disk.now) c.args.one.now c.args.two.now c.args.main c.in-Err.fault c.requires.logs c.requires.scanned c.requires.sized (sym c.is_new.ensures ∙ c.if-is_new.false)
    (subst (λ (place : Place). IsFirstFault (g.D.DiskTells.told c.args.disk.now) place c.args.main c.in-Err.fault) c.first_place.ensures c.in-Err.ensures.refused)
