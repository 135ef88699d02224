use Rattle.std.proofs.Common.{sym, ◌∙◌}
use Rattle.grid_busview.specs.Labelled.{bus_by}
use Rattle.grid_busview.proofs.LabelBuses.{groups_as}
use Rattle.grid_busview.proofs.view.buses.Goals as goal

pub returns : goal.returns
returns c =
    let level = c.args.level.now in
    let labels = c.args.labels.now in
    let led = c.in_ok-led.led in
    c.from_vec.ensures ∙ c.in_ok-put_terminals.ensures ∙ sym (groups_as level labels led.counts c.in_ok-led.ensures.counts (bus_by level c.args.powers.now))
