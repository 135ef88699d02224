use Rattle.std.proofs.Common.{ap, ◌∙◌, length, arith, Some, None}
use Rattle.std.specs.Prelude.{slice_set}
use Rattle.grid_structure.specs.Sites.{levels}
use Rattle.grid_structure.proofs.Places.{length-slice_set}
use Rattle.grid_outages.specs.Changes.{shown_levels, shown_rows}
use Rattle.grid_outages.proofs.OutageChanges.{opened_shows}
use Rattle.grid_outages.proofs.ShownLevels.{set_over}
use Rattle.grid_outages.proofs.outage.open_switch.Goals as goal

pub with_open-requires : goal.with_open-requires
with_open-requires c = omega (arith, c.requires.place, ap length c.in_ok-taken.ensures.opened)

pub put-requires : goal.put-requires
put-requires c = omega (arith, c.requires.level, c.requires.shows.long, ap length c.in_ok-taken.ensures.left, length-slice_set c.args.changes.now c.args.at.level None)

pub returns : goal.returns
returns c =
    let net = c.args.structure.now in
    let changes = c.args.changes.now in
    let k = c.args.at.level in
    let taken = c.in_ok-taken.taken in
    let box = c.with_open.result in
    opened_shows (levels net) c.args.states.now.opened changes c.put.new.self (shown_levels changes (levels net)) (shown_rows changes c.args.states.now.opened) c.requires.shows k c.requires.level taken.value.level c.in_ok-taken.ensures.level taken.value.opened c.args.at.place c.in_ok-taken.ensures.opened (record {
      box = box;
      level_is = c.with_open.ensures.level;
      opened_is = c.with_open.ensures.opened;
      is = c.in_ok-put.ensures.ok ∙ ap (λ z. slice_set z k (Some box)) c.in_ok-taken.ensures.left ∙ set_over changes k None (Some box);
    })
