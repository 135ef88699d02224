use Rattle.std.proofs.Common.{◌≡◌, sym, ap, ◌∙◌, ℕ, List, [], length, map, get_or, arith, subst}
use Rattle.std.specs.Prelude.{All}
use Rattle.std.specs.List.{AllZip}
use Rattle.std.proofs.lemmas.Result.{IfOk-weaker}
use Rattle.grid_graph.specs.Graph.{EndsBelow}
use Rattle.grid_unions.specs.Sweep.{IsFitting, IsFoundOf}
use Rattle.grid_unions.specs.declared.summed.Sums.{Sums}
use Rattle.grid_unions.specs.declared.sweeps.Change.{Change}
use Rattle.grid_unions.specs.declared.sweeps.Found.{Found}
use Rattle.grid_figures.specs.Layouts.{first_part, HaveSeats, IsChangeOf, seats_of}
use Rattle.grid_figures.specs.Seen.{IsSeenUnder}
use Rattle.grid_figures.proofs.OutageGraphs.{parts_few, links_seated, links_below, own_seated, AreChanges, changes_fit, all_seen}
use Rattle.grid_figures.proofs.after.find_each.Goals as goal

pub seat_links-requires-clause-seats : goal.seat_links-requires-clause-seats
seat_links-requires-clause-seats c =
    let layout = c.args.layout.now in
    let P : List ℕ → Type 0 = λ z. HaveSeats z 0 [] c.args.links.now in
    subst P (sym c.deref.ensures.value) (links_seated c.args.kept.now c.args.links.now c.args.outages.now layout.starts.items layout.weights.items c.requires.layout c.requires.links c.requires.outages)

pub list_changes-requires-clause-rising : goal.list_changes-requires-clause-rising
list_changes-requires-clause-rising c = λ k d lt. (c.requires.outages k d lt).rising

pub list_changes-requires-clause-parts : goal.list_changes-requires-clause-parts
list_changes-requires-clause-parts c =
    let layout = c.args.layout.now in
    let long = parts_few c.args.kept.now c.args.links.now c.args.outages.now layout.starts.items layout.weights.items c.requires.layout c.requires.links c.requires.outages in
    omega (arith, long, c.deref-2.type_inv.0, ap length c.deref-2.ensures.value)

pub list_changes-requires-clause-seats : goal.list_changes-requires-clause-seats
list_changes-requires-clause-seats c = λ i d lt. (let layout = c.args.layout.now in
    let outages = c.args.outages.now in
    let P : List ℕ → Type 0 = λ z. HaveSeats z (first_part (length c.args.kept.now) outages i) (get_or outages i d).levels (get_or outages i d).own in
    subst P (sym c.deref-2.ensures.value) (own_seated c.args.kept.now c.args.links.now outages layout.starts.items layout.weights.items c.requires.layout c.requires.links c.requires.outages i d lt))

pub sweep-requires-clause-some : goal.sweep-requires-clause-some
sweep-requires-clause-some c =
    let some = c.requires.layout.some in
    omega (arith, some, ap length c.deref-3.ensures.value)

pub sweep-requires-clause-few : goal.sweep-requires-clause-few
sweep-requires-clause-few c =
    let few = c.requires.layout.few in
    omega (arith, few, ap length c.deref-3.ensures.value)

pub sweep-requires-clause-ends : goal.sweep-requires-clause-ends
sweep-requires-clause-ends c =
    let layout = c.args.layout.now in
    let links = c.args.links.now in
    let common : c.slice.result.now ≡ map (seats_of layout.starts.items 0 []) links = c.slice.ensures ∙ c.in_ok-common.ensures ∙ ap (λ z. map (seats_of z 0 []) links) c.deref.ensures.value in
    let below = links_below c.args.kept.now links c.args.outages.now layout.starts.items layout.weights.items c.requires.layout c.requires.links c.requires.outages in
    let P : List (ℕ × ℕ) → List Sums → Type 0 = λ z w. EndsBelow z (length w) in
    subst (P c.slice.result.now) (sym c.deref-3.ensures.value) (subst (λ z. P z layout.weights.items) (sym common) below)

pub sweep-requires-clause-changes : goal.sweep-requires-clause-changes
sweep-requires-clause-changes c =
    let layout = c.args.layout.now in
    let links = c.args.links.now in
    let outages = c.args.outages.now in
    let kept = c.args.kept.now in
    let starts = layout.starts.items in
    let weights = layout.weights.items in
    let changes = c.in_ok-changes.changes.items in
    let common : c.slice.result.now ≡ map (seats_of starts 0 []) links = c.slice.ensures ∙ c.in_ok-common.ensures ∙ ap (λ z. map (seats_of z 0 []) links) c.deref.ensures.value in
    let made : AreChanges kept links outages starts weights c.requires.layout c.requires.links c.requires.outages changes = record {
      long = c.in_ok-changes.ensures.long;
      each = λ i d e lt. (let Q : List ℕ → Type 0 = λ z. IsChangeOf z (first_part (length kept) outages i) (get_or outages i d) (get_or changes i e) in
          subst Q c.deref-2.ensures.value (c.in_ok-changes.ensures.each i d e lt));
    } in
    let fit = changes_fit kept links outages starts weights c.requires.layout c.requires.links c.requires.outages changes made in
    let P : List Sums → List (ℕ × ℕ) → List Change → Type 0 = λ w z x. All (IsFitting (length w) z) x in
    subst (λ z. P z c.slice.result.now c.deref-4.result.now) (sym c.deref-3.ensures.value)
    (subst (λ z. P weights z c.deref-4.result.now) (sym common) (subst (P weights (map (seats_of starts 0 []) links)) (sym c.deref-4.ensures.value) fit))

pub returns : goal.returns
returns c =
    let layout = c.args.layout.now in
    let links = c.args.links.now in
    let outages = c.args.outages.now in
    let kept = c.args.kept.now in
    let starts = layout.starts.items in
    let weights = layout.weights.items in
    let changes = c.in_ok-changes.changes.items in
    let common : c.slice.result.now ≡ map (seats_of starts 0 []) links = c.slice.ensures ∙ c.in_ok-common.ensures ∙ ap (λ z. map (seats_of z 0 []) links) c.deref.ensures.value in
    let made : AreChanges kept links outages starts weights c.requires.layout c.requires.links c.requires.outages changes = record {
      long = c.in_ok-changes.ensures.long;
      each = λ i d e lt. (let Q : List ℕ → Type 0 = λ z. IsChangeOf z (first_part (length kept) outages i) (get_or outages i d) (get_or changes i e) in
          subst Q c.deref-2.ensures.value (c.in_ok-changes.ensures.each i d e lt));
    } in
    let T : List Found → List Sums → List (ℕ × ℕ) → List Change → Type 0 = λ f w z x. AllZip (IsFoundOf w z) x f in
    IfOk-weaker c.sweep.result (λ found. T found.items c.deref-3.result.now c.slice.result.now c.deref-4.result.now) (λ found. AllZip (IsSeenUnder kept links (length weights)) outages found.items)
    (λ found f. all_seen kept links outages starts weights c.requires.layout c.requires.links c.requires.outages changes made found.items
    (subst (T found.items weights (map (seats_of starts 0 []) links)) c.deref-4.ensures.value
    (subst (λ z. T found.items weights z c.deref-4.result.now) common
    (subst (λ z. T found.items z c.slice.result.now c.deref-4.result.now) c.deref-3.ensures.value f))))
    c.sweep.ensures
