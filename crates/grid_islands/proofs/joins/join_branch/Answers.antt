use Rattle.std.proofs.Common.{◌≡◌, refl, sym, ap, ◌∙◌, subst, ℕ, List, ◌++◌, length, append_assoc, Option, Some}
use Rattle.std.proofs.lemmas.List.{append-nil}
use Rattle.std.specs.Prelude.{None}
use Rattle.grid_graph.specs.Graph.{graph, EndsBelow}
use Rattle.grid_queue.specs.Parents.{AreLabelsOf}
use Rattle.grid_islands.specs.declared.spots.BranchBuses.{BranchBuses}
use Rattle.grid_islands.specs.Islands.{pair_between}
use Rattle.grid_islands.specs.Spots.{pairs_of_buses, with_pairs}
use Rattle.grid_islands.proofs.BranchPairs.{three_among, none_between}
use Rattle.grid_islands.proofs.PairEnds.{ends_front, ends_back}
use Rattle.grid_islands.proofs.joins.join_branch.Goals as goal

three : (b : BranchBuses) → pairs_of_buses b ≡ pair_between b.first b.second ++ (pair_between b.first b.third ++ pair_between b.second b.third)
unfolding pairs_of_buses
three b = three_among b.first b.second b.third

module _ (b : BranchBuses) (count now : ℕ) (all : EndsBelow (pairs_of_buses b) count) (same : now ≡ count) where
  below : EndsBelow (pair_between b.first b.second ++ (pair_between b.first b.third ++ pair_between b.second b.third)) now
  below = rw same (let P : List (ℕ × ℕ) → Type 0 = λ ps. EndsBelow ps count in subst P (three b) all)

  first_below : EndsBelow (pair_between b.first b.second) now
  first_below = ends_front (pair_between b.first b.second) (pair_between b.first b.third ++ pair_between b.second b.third) now below

  rest_below : EndsBelow (pair_between b.first b.third ++ pair_between b.second b.third) now
  rest_below = ends_back (pair_between b.first b.second) (pair_between b.first b.third ++ pair_between b.second b.third) now below

  second_below : EndsBelow (pair_between b.first b.third) now
  second_below = ends_front (pair_between b.first b.third) (pair_between b.second b.third) now rest_below

  third_below : EndsBelow (pair_between b.second b.third) now
  third_below = ends_back (pair_between b.first b.third) (pair_between b.second b.third) now rest_below

pub join_between-requires : goal.join_between-requires
join_between-requires c = first_below c.args.branch.now (length c.args.joiner.now) (length c.args.joiner.now) c.requires refl

-- with the third end as it was read
at_third : (o : Option ℕ) (third count : ℕ) (first : Option ℕ) → o ≡ Some third → EndsBelow (pair_between first o) count → EndsBelow (pair_between first (Some third)) count
at_third o third count first e below = let P : Option ℕ → Type 0 = λ z. EndsBelow (pair_between first z) count in subst P e below

pub join_between-requires-in-Some : goal.join_between-requires-in-Some
join_between-requires-in-Some c =
    let b = c.args.branch.now in
    let n = length c.join_between.new.joiner in
    at_third b.third c.in-Some.third n b.first c.in-Some.is (second_below b (length c.args.joiner.now) n c.requires c.join_between.ensures.long)

pub join_between-requires-in-Some-2 : goal.join_between-requires-in-Some-2
join_between-requires-in-Some-2 c =
    let b = c.args.branch.now in
    let n = length c.join_between-in-Some.new.joiner in
    at_third b.third c.in-Some.third n b.second c.in-Some.is (third_below b (length c.args.joiner.now) n c.requires (c.join_between-in-Some.ensures.long ∙ c.join_between.ensures.long))

-- a third end that there is not is in no pair
no_third : (b : BranchBuses) → b.third ≡ None → pairs_of_buses b ≡ pair_between b.first b.second
no_third b e = three b ∙ rw (e, none_between b.first, none_between b.second) (append-nil (pair_between b.first b.second))

pub returns-in-Some-clause-labels : goal.returns-in-Some-clause-labels
returns-in-Some-clause-labels c net is =
    let b = c.args.branch.now in
    let third = c.in-Some.third in
    let one = pair_between b.first b.second in
    let two = pair_between b.first (Some third) in
    let three_more = pair_between b.second (Some third) in
    let once = with_pairs net one in
    let twice = with_pairs once two in
    let made = c.join_between-in-Some-2.ensures.labels twice (c.join_between-in-Some.ensures.labels once (c.join_between.ensures.labels net is)) in
    let parts : pairs_of_buses b ≡ one ++ (two ++ three_more) = three b ∙ ap (λ z. one ++ (pair_between b.first z ++ pair_between b.second z)) c.in-Some.is in
    let same : ((net.pairs ++ one) ++ two) ++ three_more ≡ net.pairs ++ pairs_of_buses b =
    append_assoc (net.pairs ++ one) two three_more ∙ append_assoc net.pairs one (two ++ three_more) ∙ ap (λ z. net.pairs ++ z) (sym parts) in
    let P : List (ℕ × ℕ) → Type 0 = λ ps. AreLabelsOf (graph net.nodes ps) c.join_between-in-Some-2.new.joiner in
    subst P same made

pub returns-in-None-clause-labels : goal.returns-in-None-clause-labels
returns-in-None-clause-labels c net is =
    let P : List (ℕ × ℕ) → Type 0 = λ ps. AreLabelsOf (graph net.nodes ps) c.join_between.new.joiner in
    subst P (ap (λ z. net.pairs ++ z) (sym (no_third c.args.branch.now c.in-None.is))) (c.join_between.ensures.labels net is)
