use Rattle.std.proofs.Common.{sym, ap, ◌∙◌, ℕ, length, map}
use Rattle.std.specs.Prelude.{flat_map}
use Rattle.grid_graph.specs.Components.{places}
use Rattle.grid_structure.specs.Sites.{levels}
use Rattle.grid_core.proofs.Ranges.{rows_of_levels}
use Rattle.grid_core.proofs.VariantViews.{flags_fit}
use Rattle.grid_outages.specs.Changes.{level_sums, sums_before, link_pairs}
use Rattle.grid_outages.specs.Effects.{firsts_under, figures_with}
use Rattle.grid_outages.proofs.Looks.{looked_placed}
use Rattle.grid_screen.specs.Findings.{state_in}
use Rattle.grid_outages.proofs.KeptSums.{kept_long}
use Rattle.grid_screen.proofs.Outcomes.{screens}
use Rattle.grid_screen.proofs.find.outage_without.Goals as goal

pub find_changes-requires-clause-rows : goal.find_changes-requires-clause-rows
find_changes-requires-clause-rows c = rows_of_levels c.args.case.now.structure c.args.case.now.states.opened c.requires.fits

pub find_changes-requires-clause-flags : goal.find_changes-requires-clause-flags
find_changes-requires-clause-flags c = flags_fit c.args.case.now.structure c.args.case.now.states.opened c.requires.fits

pub outage_of-requires-clause-kept : goal.outage_of-requires-clause-kept
outage_of-requires-clause-kept c = c.requires.kept.whole

pub outage_of-requires-clause-changes : goal.outage_of-requires-clause-changes
outage_of-requires-clause-changes c =
    let case = c.args.case.now in
    let stands = c.in_ok-changes.ensures in
    record {
      long = stands.long ∙ sym (ap length c.requires.kept.sums ∙ kept_long case.powers.listed (levels case.structure) case.states.opened);
      placed = λ k. looked_placed case.powers.listed _ (stands.looked k);
    }

pub returns : goal.returns
unfolding firsts_under figures_with
returns c =
    let case = c.args.case.now in
    let net = case.structure in
    let kept = c.args.kept.now in
    let changes = c.in_ok-changes.changes in
    let sums = level_sums case.powers.listed (levels net) case.states.opened in
    let is_kept = c.requires.kept.sums in
    let n = kept_long case.powers.listed (levels net) case.states.opened in
    record {
      fits = c.in_ok-outage.ensures.fits;
      figures = λ retained. c.in_ok-outage.ensures.effect ∙ (screens (state_in case retained) c.args.ids.now changes (firsts_under kept.sums changes) (sums_before kept.sums changes (length kept.sums)) (flat_map (link_pairs (firsts_under kept.sums changes) changes) kept.links) c.keeps.ensures c.in_ok-changes.ensures
          (ap (λ z. map (λ (place : ℕ). length (sums_before z changes place)) (places (length z))) is_kept ∙ ap (λ z. map (λ (place : ℕ). length (sums_before sums changes place)) (places z)) n)
          (ap (λ z. sums_before z changes (length z)) is_kept ∙ ap (sums_before sums changes) n)
          (ap (flat_map (link_pairs (firsts_under kept.sums changes) changes)) c.requires.kept.links)).is;
    }
