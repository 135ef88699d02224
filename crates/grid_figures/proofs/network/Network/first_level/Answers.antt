use Rattle.std.proofs.Common.{sym, length, subst}
use Rattle.grid_figures.specs.Networks.{IsNext, has_buses}
use Rattle.grid_figures.proofs.FirstLevels.{first_of_both}
use Rattle.grid_figures.proofs.network.Network.first_level.Goals as goal

pub returns : goal.returns
returns c =
    let kept = c.args.self.now.kept.now in
    let levels = c.args.levels.now in
    subst (IsNext (has_buses kept levels) (length kept) 0) (sym c.min.ensures)
    (first_of_both kept levels c.requires.rising (length kept) c.first_free-free.result c.first_filled-filled.result c.first_free-free.ensures c.first_filled-filled.ensures)
