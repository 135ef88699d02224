use Rattle.std.proofs.Common.{refl, sym, ap, ◌∙◌}
use Rattle.grid_json.specs.Loading.{place_in}
use Rattle.grid_json.proofs.BusPlaces.{level_same, no_level}
use Rattle.grid_json.proofs.bus_load.bus_of.Goals as goal

pub returns-in-Some : goal.returns-in-Some
returns-in-Some c = c.bus_in.ensures ∙ ap (λ z. place_in z c.args.bus.now) (level_same c.args.structure.now c.args.level.now c.in-Some.home (sym c.in-Some.ensures.place))

pub returns-in-None : goal.returns-in-None
returns-in-None c = rw (no_level c.args.structure.now c.args.level.now (sym c.in-None.ensures.place)) refl
