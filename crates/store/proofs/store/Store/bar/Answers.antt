use Rattle.std.proofs.Common.{◌≡◌, refl, sym, subst, Option, Some}
use Rattle.std.specs.Option.{option_map}
use Rattle.store.proofs.store.Store.bar.Goals as goal
use Rattle.engine_spec.specs.State.{Stop}
use Rattle.store_spec.specs.Store.{stop_told}
use Rattle.store.specs.declared.store.Halt.{Halt}
use Rattle.store.specs.Kept.{kept_of, stop_of}

pub returns-in-Some : goal.returns-in-Some
returns-in-Some g c who =
    subst (λ (stop : Option Halt). (x : Stop) × (option_map (stop_told (kept_of c.args.self.now) (g.D.DiskTells.told c.args.self.now.disk)) (option_map (stop_of c.args.self.now.page_size c.args.self.now.spare) stop) ≡ Some x)
    × (x.log ≡ c.in-Some.halt.log) × (x.at ≡ c.in-Some.halt.at)) (sym c.in-Some.is)
    (stop_told (kept_of c.args.self.now) (g.D.DiskTells.told c.args.self.now.disk) (stop_of c.args.self.now.page_size c.args.self.now.spare c.in-Some.halt), refl, refl, refl)
