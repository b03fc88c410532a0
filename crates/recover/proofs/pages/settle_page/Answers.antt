use Rattle.std.proofs.Common.{◌≤◌, length, subst, refl}
use Rattle.std.specs.Prelude.{IfSome}
use Rattle.disk_face.specs.Steps.{reads}
use Rattle.recover.specs.declared.place.Place.{Place}
use Rattle.recover.specs.Places.{FitsPlace, IsPlaceOf}
use Rattle.recover.proofs.Placing.{place_passed, only_same, same_at, reaches_whole}
use Rattle.recover.proofs.pages.settle_page.Goals as goal

pub returns-in-InMain-clause-moments : goal.returns-in-InMain-clause-moments
returns-in-InMain-clause-moments g c view one two h sized is =
    place_passed view one two c.args.number (length c.args.buf.now) (g.D.DiskTells.told c.args.disk.now) sized c.requires.number
    (subst (λ (place : Place). IfSome (g.D.DiskTells.told c.args.disk.now) (λ told. FitsPlace (reads told) (length c.args.buf.now) c.args.number place)) c.in-InMain.is c.requires.fits)
    (subst (λ (place : Place). IfSome (g.D.DiskTells.told c.args.disk.now) (λ told. IsPlaceOf view one two (reads told) c.args.number place × (c.args.number ≤ length view.map))) c.in-InMain.is is) h

pub returns-in-InMain-clause-only : goal.returns-in-InMain-clause-only
returns-in-InMain-clause-only g c = only_same _ _ (same_at _ _ refl)

pub returns-in-InMain-clause-reached : goal.returns-in-InMain-clause-reached
returns-in-InMain-clause-reached g c =
    reaches_whole c.args.number (length c.args.buf.now) (g.D.DiskTells.told c.args.disk.now)
    (subst (λ (place : Place). IfSome (g.D.DiskTells.told c.args.disk.now) (λ told. FitsPlace (reads told) (length c.args.buf.now) c.args.number place)) c.in-InMain.is c.requires.fits)

pub returns-in-InLog-clause-moments : goal.returns-in-InLog-clause-moments
returns-in-InLog-clause-moments g c view one two h sized is =
    c.copy_page.ensures.moments view one two h sized
    (subst (λ (place : Place). IfSome (g.D.DiskTells.told c.args.disk.now) (λ told. IsPlaceOf view one two (reads told) c.args.number place × (c.args.number ≤ length view.map))) c.in-InLog.is is)
