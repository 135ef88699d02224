use Rattle.std.proofs.Common.{◌≡◌, sym, ap, ◌∙◌, subst, ℕ, ◌<◌, Bool, true, List, length, get_or, map, arith}
use Rattle.std.specs.Prelude.{flat_map, slice_get}
use Rattle.grid_graph.specs.Graph.{graph, EndsBelow}
use Rattle.grid_graph.proofs.Below.{pairs_below}
use Rattle.grid_graph.proofs.Labels.{label_below}
use Rattle.grid_queue.specs.Parents.{AreLabelsOf}
use Rattle.grid_islands.specs.declared.kept.KeptLevel.{KeptLevel}
use Rattle.grid_islands.specs.declared.spots.BranchBuses.{BranchBuses}
use Rattle.grid_islands.specs.Rejoining.{is_marked, AreOthersMarked}
use Rattle.grid_islands.specs.Spots.{buses_of_spots, pairs_of_buses}
use Rattle.grid_islands.proofs.MovedEnds.{old_long, new_long, others_marked}
use Rattle.grid_islands.proofs.kept.KeptBuses.follow.Goals as goal
use Rattle.grid_islands.proofs.kept.KeptBuses.follow.Goals.{After-follow_level}

-- the ends as they are written
written : (c : After-follow_level) → c.follow_level.new.ends ≡ map (buses_of_spots c.args.firsts.now c.args.self.now.levels) c.args.self.now.spots.branches
written c =
    let before = c.requires.before.0 in
    let moved = c.requires.before.1 in
    let f = buses_of_spots c.args.firsts.now in
    c.follow_level.ensures before (λ other ne. ap (λ (z : List KeptLevel). slice_get z other) c.slice-2.ensures ∙ moved.others other ne) moved.were
    ∙ ap (λ z. map (f z) c.args.self.now.spots.branches) c.slice-2.ensures

pub mark_level-requires-clause-linked : goal.mark_level-requires-clause-linked
mark_level-requires-clause-linked c = c.requires.spots.linked

pub mark_level-requires-clause-below : goal.mark_level-requires-clause-below
mark_level-requires-clause-below c place end found =
    omega (arith, c.requires.spots.below place end found, ap length c.slice.ensures, old_long c.args.level c.requires.before.0 c.args.self.now c.args.firsts.now (length c.args.labels.items) c.args.ends.now c.args.ends.now c.requires.before.1)

pub follow_level-requires-clause-fit : goal.follow_level-requires-clause-fit
follow_level-requires-clause-fit c = rw c.slice-2.ensures c.requires.fit

pub follow_level-requires-clause-long : goal.follow_level-requires-clause-long
follow_level-requires-clause-long c = old_long c.args.level c.requires.before.0 c.args.self.now c.args.firsts.now (length c.args.labels.items) c.args.ends.now c.args.ends.now c.requires.before.1

pub mark_level-requires-2-clause-linked : goal.mark_level-requires-2-clause-linked
mark_level-requires-2-clause-linked c = c.requires.spots.linked

pub mark_level-requires-2-clause-below : goal.mark_level-requires-2-clause-below
mark_level-requires-2-clause-below c place end found =
    omega (
      arith,
      c.requires.spots.below place end found,
      ap length c.slice-3.ensures,
      new_long c.args.level c.requires.before.0 c.args.self.now c.args.firsts.now (length c.args.labels.items) c.args.ends.now c.follow_level.new.ends c.requires.before.1 (written (goal.at.mark_level-requires-2-clause-below c).After-follow_level),
    )

pub rejoin-requires-clause-long : goal.rejoin-requires-clause-long
rejoin-requires-clause-long c = omega (arith, c.mark_level-2.ensures.long, c.mark_level.ensures.long, c.in_ok-marks.ensures, c.len.ensures, c.args.labels.ok)

pub rejoin-requires-clause-ends : goal.rejoin-requires-clause-ends
rejoin-requires-clause-ends c =
    let P : List BranchBuses → Type 0 = λ z. EndsBelow (flat_map pairs_of_buses z) (length c.args.labels.items) in
    subst P (sym (c.slice-4.ensures ∙ written (goal.at.rejoin-requires-clause-ends c).After-follow_level)) c.requires.before.1.below

pub rejoin-requires-clause-labels : goal.rejoin-requires-clause-labels
rejoin-requires-clause-labels c = (c.args.ends.now, c.requires.labels)

pub returns-clause-ends : goal.returns-clause-ends
returns-clause-ends c = written (goal.at.returns-clause-ends c).After-follow_level

pub returns-clause-labels : goal.returns-clause-labels
returns-clause-labels c =
    let labels = c.args.labels.items in
    let n = length labels in
    let old = c.args.ends.now in
    let new = c.follow_level.new.ends in
    let moved = c.requires.before.1 in
    let marks = c.mark_level-2.new.marks.items in
    let m : ℕ → Bool = is_marked labels marks in
    let is_new = written (goal.at.returns-clause-labels c).After-follow_level in
    let net = graph n (flat_map pairs_of_buses old) in
    let fits : (x : ℕ) → x < n → get_or labels x 0 < length c.in_ok-marks.marks.items =
    λ x lt. omega (arith, label_below net labels x (pairs_below n (flat_map pairs_of_buses old) c.requires.labels.ends) c.requires.labels.least lt, c.in_ok-marks.ensures, c.len.ensures, c.args.labels.ok) in
    let fits_later : (x : ℕ) → x < n → get_or labels x 0 < length c.mark_level.new.marks.items = λ x lt. omega (arith, fits x lt, c.mark_level.ensures.long) in
    let same = c.deref.ensures.value in
    let same_later = c.deref-2.ensures.value in
    let later : (x : ℕ) → is_marked c.deref-2.result.now marks x ≡ true → m x ≡ true = λ x h. ap (λ z. is_marked z marks x) (sym same_later) ∙ h in
    let between : (x : ℕ) → is_marked c.deref.result.now c.mark_level.new.marks.items x ≡ true → is_marked c.deref-2.result.now c.mark_level.new.marks.items x ≡ true =
    λ x h. ap (λ z. is_marked z c.mark_level.new.marks.items x) (same_later ∙ sym same) ∙ h in
    let others : AreOthersMarked m old new = others_marked c.args.level c.requires.before.0 c.args.self.now c.args.firsts.now n old new moved is_new m c.requires.spots c.requires.inside
    (record {
      each = λ branch own has at bus other i. later bus
          (c.mark_level-2.ensures.kept bus
          (between bus (c.mark_level.ensures.marked (rw (c.slice.ensures, same) c.requires.labels.ends) (rw same fits) branch own has (ap (λ z. slice_get z branch) c.slice.ensures ∙ at) bus other i)));
    })
    (record {
      each = λ branch own has at bus other i. later bus
          (c.mark_level-2.ensures.marked (rw (c.slice-3.ensures ∙ is_new, same_later) moved.below) (rw same_later fits_later) branch own has (ap (λ z. slice_get z branch) c.slice-3.ensures ∙ at) bus other i);
    }) in
    let P : List BranchBuses → Type 0 = λ z. AreOthersMarked m old z in
    let Q : List BranchBuses → Type 0 = λ z. AreLabelsOf (graph n (flat_map pairs_of_buses z)) c.rejoin.result.items in
    subst Q c.slice-4.ensures (c.rejoin.ensures old c.requires.labels (subst P (sym c.slice-4.ensures) others))
