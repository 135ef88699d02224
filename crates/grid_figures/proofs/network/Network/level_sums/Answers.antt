use Rattle.std.proofs.Common.{sym, ap, ◌∙◌, []}
use Rattle.std.proofs.lemmas.List.{get_or_default}
use Rattle.grid_figures.specs.declared.outage.ChangedSums.{ChangedSums}
use Rattle.grid_figures.specs.Layouts.{no_part}
use Rattle.grid_figures.proofs.ChangedLevels.{first_by_place, sums_changed, sums_kept}
use Rattle.grid_figures.proofs.network.Network.level_sums.Goals as goal

pub returns-in-Some : goal.returns-in-Some
returns-in-Some c =
    let levels = c.args.levels.now in
    let place = c.in-Some.place in
    let found = c.in-Some.ensures in
    c.slice.ensures ∙ ap (λ (z : ChangedSums). z.sums) (get_or_default levels place c.index-levels-place.result no_part found.0)
    ∙ sym (sums_changed c.args.self.now.kept.now levels c.args.level place (first_by_place levels c.requires.rising place found.0 c.args.level found.1))

pub returns-in-None : goal.returns-in-None
returns-in-None c =
    let kept = c.args.self.now.kept.now in
    c.slice-in-None.ensures ∙ get_or_default kept c.args.level c.index-self-level.result [] c.requires.there
    ∙ sym (sums_kept kept c.args.levels.now c.args.level c.in-None.ensures)
