use Rattle.std.proofs.Common.{sym, ap, ◌∙◌, length, arith, refl, Some, None}
use Rattle.std.specs.Prelude.{slice_set}
use Rattle.grid_structure.specs.Sites.{levels, site}
use Rattle.grid_structure.proofs.Places.{length-slice_set}
use Rattle.grid_outages.specs.Changes.{shown_levels, shown_rows}
use Rattle.grid_outages.specs.Steps.{cleared_side}
use Rattle.grid_outages.proofs.OutageChanges.{at_site, no_site, site_inside, cleared_shows, none_cleared, side_cleared, shows_as}
use Rattle.grid_outages.proofs.ShownLevels.{set_over}
use Rattle.grid_outages.proofs.outage.clear_side.Goals as goal

pub returns-in-None : goal.returns-in-None
returns-in-None c =
    let net = c.args.structure.now in
    let ls = shown_levels c.args.changes.now (levels net) in
    let rows = shown_rows c.args.changes.now c.args.states.now.opened in
    let id = c.args.at.0.now in
    let side = c.args.at.1 in
    let none = no_site (site net id side) (sym c.in-None.is ∙ c.site.ensures) in
    shows_as (levels net) c.args.states.now.opened c.args.changes.now ls (cleared_side net id side ls) rows rows c.requires (sym (none_cleared net id side ls none)) refl

pub take_standing-requires-clause-place : goal.take_standing-requires-clause-place
take_standing-requires-clause-place c =
    let net = c.args.structure.now in
    site_inside net c.args.at.0.now c.args.at.1 c.in-Some.site.level c.in-Some.site.node (at_site (site net c.args.at.0.now c.args.at.1) c.in-Some.site (sym c.in-Some.is ∙ c.site.ensures))

pub put-requires : goal.put-requires
put-requires c =
    let net = c.args.structure.now in
    omega (arith, c.requires.long, ap length c.in_ok-taken.ensures.left, length-slice_set c.args.changes.now c.in-Some.site.level None, site_inside net c.args.at.0.now c.args.at.1 c.in-Some.site.level c.in-Some.site.node (at_site (site net c.args.at.0.now c.args.at.1) c.in-Some.site (sym c.in-Some.is ∙ c.site.ensures)))

pub returns : goal.returns
returns c =
    let net = c.args.structure.now in
    let changes = c.args.changes.now in
    let id = c.args.at.0.now in
    let side = c.args.at.1 in
    let ls = shown_levels changes (levels net) in
    let rows = shown_rows changes c.args.states.now.opened in
    let k = c.in-Some.site.level in
    let found = at_site (site net id side) c.in-Some.site (sym c.in-Some.is ∙ c.site.ensures) in
    let inside = site_inside net id side k c.in-Some.site.node found in
    let taken = c.in_ok-taken.taken in
    let box = c.in_ok-cleared.cleared in
    let new = c.put.new.self in
    let done = cleared_shows (levels net) c.args.states.now.opened changes new ls rows c.requires k inside taken.value.level c.in_ok-taken.ensures.level id taken.value.opened c.in_ok-taken.ensures.opened (record {
      box = box;
      level_is = c.in_ok-cleared.ensures.level;
      opened_is = c.in_ok-cleared.ensures.opened;
      is = c.in_ok-put.ensures.ok ∙ ap (λ z. slice_set z k (Some box)) c.in_ok-taken.ensures.left ∙ set_over changes k None (Some box);
    }) in
    shows_as (levels net) c.args.states.now.opened new _ (cleared_side net id side ls) rows rows done (sym (side_cleared net id side k c.in-Some.site.node ls found)) refl
