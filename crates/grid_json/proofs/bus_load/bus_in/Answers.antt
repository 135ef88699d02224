use Rattle.std.proofs.Common.{sym, ◌∙◌}
use Rattle.grid_json.proofs.BusPlaces.{found_nowhere, found_elsewhere, found_busbar, found_other}
use Rattle.grid_json.proofs.bus_load.bus_in.Goals as goal

pub returns-in-None : goal.returns-in-None
returns-in-None c = found_nowhere c.args.structure.now c.keeps.ensures c.args.home c.args.bus.now c.in-None.ensures

pub returns-then-site-home : goal.returns-then-site-home
returns-then-site-home c = found_elsewhere c.args.structure.now c.keeps.ensures c.args.home c.args.bus.now c.in-Some.site c.in-Some.ensures c.if-site-home.true

pub returns-then-has_busbar : goal.returns-then-has_busbar
returns-then-has_busbar c =
    found_busbar c.args.structure.now c.keeps.ensures c.args.home c.args.bus.now c.in-Some.site c.level.result.now c.in-Some.ensures c.if-site-home.false c.level.ensures (sym c.has_busbar.ensures ∙ c.if-has_busbar.true)

pub returns-else-has_busbar : goal.returns-else-has_busbar
returns-else-has_busbar c = found_other c.args.structure.now c.keeps.ensures c.args.home c.args.bus.now c.in-Some.site c.level.result.now c.in-Some.ensures c.level.ensures (sym c.has_busbar.ensures ∙ c.if-has_busbar.false)
