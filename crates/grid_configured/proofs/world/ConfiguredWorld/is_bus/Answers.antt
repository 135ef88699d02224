use Rattle.grid_configured.proofs.WorldReadings.{some_inside, some_bus, none_bus}
use Rattle.grid_configured.proofs.world.ConfiguredWorld.is_bus.Goals as goal

pub bus_total-requires : goal.bus_total-requires
bus_total-requires c =
    some_inside c.self.inside.network c.self.inside.world c.args.self.now c.self.view_is c.self.invariant c.structure.result.now c.structure.ensures c.args.id.now c.site.result c.site.ensures c.in-Some.site c.in-Some.is

pub returns-in-Some : goal.returns-in-Some
returns-in-Some c =
    some_bus c.self.inside.network c.self.inside.world c.args.self.now c.self.view_is c.self.invariant c.structure.result.now c.structure.ensures c.args.id.now c.site.result c.site.ensures c.in-Some.site c.from.result c.bus_total.result c.in-Some.is c.from.ensures c.bus_total.ensures

pub returns-in-None : goal.returns-in-None
returns-in-None c =
    none_bus c.self.inside.network c.self.inside.world c.args.self.now c.self.view_is c.self.invariant c.structure.result.now c.structure.ensures c.args.id.now c.site.result c.site.ensures c.in-None.is
