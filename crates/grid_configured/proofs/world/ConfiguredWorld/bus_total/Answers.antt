use Rattle.std.proofs.Common.{sym, ap, ◌∙◌, length}
use Rattle.grid_configured.specs.Histories.{ConfiguredHistory}
use Rattle.grid_configured.proofs.WorldReadings.{total_of}
use Rattle.grid_configured.proofs.world.ConfiguredWorld.bus_total.Goals as goal

pub returns : goal.returns
returns c =
    total_of c.args.self.now.network c.slice.result.now c.args.place c.len.result c.index-slice-place.result (c.slice.ensures ∙ ap (λ (h : ConfiguredHistory). h.network.levels) c.self.view_is) c.requires c.index-slice-place.is
    (c.len.ensures ∙ ap (λ l. length l.buses) (sym c.index-slice-place.is))
