use Rattle.std.proofs.Common.{◌∙◌, List, length, arith, rules, subst}
use Rattle.std.proofs.lemmas.Int.{to_z-of_z}
use mir.Syntax.{w128}
use mir.Val.{SFits}
use Rattle.grid_figures.specs.declared.outage.ChangedSums.{ChangedSums}
use Rattle.grid_figures.specs.Networks.{AreTotals}
use Rattle.grid_figures.specs.Outages.{sums_before, sums_under, pairs_under}
use Rattle.grid_figures.proofs.Fields.{figures_from}
use Rattle.grid_figures.proofs.network.Network.figures_after.Goals as goal

pub components_of-requires-clause-few : goal.components_of-requires-clause-few
components_of-requires-clause-few c =
    let kept = c.args.self.now.kept.now in
    let P : List ChangedSums → Type 0 = λ z. AreTotals (sums_before kept z (length kept)) c.in_ok-totals.totals in
    let right = subst P c.slice.ensures c.in_ok-totals.ensures in
    let buses = right.buses in
    let few = c.requires.seen.few in
    omega (arith, buses, few)

pub components_of-requires-clause-classes : goal.components_of-requires-clause-classes
components_of-requires-clause-classes c =
    let kept = c.args.self.now.kept.now in
    let P : List ChangedSums → Type 0 = λ z. AreTotals (sums_before kept z (length kept)) c.in_ok-totals.totals in
    let right = subst P c.slice.ensures c.in_ok-totals.ensures in
    let buses = right.buses in
    let classes = c.requires.seen.classes in
    omega (arith, buses, classes)

pub returns : goal.returns
returns c =
    let kept = c.args.self.now.kept.now in
    let outage = c.args.outage.now in
    let sums = sums_under kept outage in
    let totals = c.in_ok-totals.totals in
    let P : List ChangedSums → Type 0 = λ z. AreTotals (sums_before kept z (length kept)) totals in
    let right : AreTotals sums totals = subst P c.slice.ensures c.in_ok-totals.ensures in
    let main = c.main_under-main.result in
    let own = c.main_under-main.ensures in
    let seen = c.requires.seen in
    let buses = right.buses in let few = seen.few in let classes = seen.classes in
    let load_fits : SFits w128 main.sums.load = search rules in
    let generation_fits : SFits w128 main.sums.generation = search rules in
    let total_load_fits : SFits w128 totals.load = search rules in
    let total_generation_fits : SFits w128 totals.generation = search rules in
    figures_from sums (pairs_under kept c.args.self.now.links.now outage) _ (record {
      buses = buses;
      components = omega (arith, buses, few, classes, c.components_of.ensures);
      main = own.count;
      load = to_z-of_z w128 main.sums.load load_fits ∙ own.load;
      generation = to_z-of_z w128 main.sums.generation generation_fits ∙ own.generation;
      total_load = to_z-of_z w128 totals.load total_load_fits ∙ right.load;
      total_generation = to_z-of_z w128 totals.generation total_generation_fits ∙ right.generation;
    })
