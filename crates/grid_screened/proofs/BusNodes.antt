-- The nodes of a level that stand in a bus: what stands at them is the sum of the buses, and fewer edges and terminals
-- leave no more of them.
use Rattle.std.proofs.Common.{◌≡◌, refl, sym, ap, ◌∙◌, subst, ℕ, ◌+◌, ◌<◌, ◌≤◌, ℤ, pos, Bool, true, false, cond, ◌&&◌, List, [], ◌∷◌, map, length, arith, inl, inr}
use Rattle.std.specs.Prelude.{◌+ℤ◌, eqb, nat_lt, nat_le, filter, zip, count_by}
use Rattle.std.specs.List.{list_any, list_all}
use Rattle.std.specs.List.Sorted.{IsStrictlyIncreasing}
use Rattle.std.proofs.lemmas.Bool.{or_cases, or_left, or_right, and_parts, and_from, false≢true, ltb-true, leb-true, le-leb}
use Rattle.std.proofs.lemmas.Int.{ints}
use Rattle.std.proofs.lemmas.List.Sums.{sum_by-cons}
use Rattle.grid_lemmas.proofs.Bools.{same_test}
use Rattle.grid_graph.specs.Joined.{neighbours, joined, least_nodes, group_of, is_least}
use Rattle.grid_graph.proofs.Reach.{In, any_of, joined_refl, joined_trans, joined_symm}
use Rattle.grid_graph.proofs.Least.{In_filter, filter_In}
use Rattle.grid_graph.proofs.GroupLeaders.{leads_alone, led_by}
use Rattle.grid_level.specs.declared.Placed.{Placed}
use Rattle.grid_level.specs.declared.Stand.{Stand}
use Rattle.grid_level.specs.VoltageLevel.{VoltageLevel}
use Rattle.grid_level.specs.Passing.{bus, nodes, passing, placed_among, is_rising, is_busbar, is_branch_end}
use Rattle.grid_level.proofs.Places.{rising_is_rising}
use Rattle.grid_groups.proofs.Indices.{rises}
use Rattle.grid_groups.specs.Groups.{group_under, leaders}
use Rattle.grid_connect.proofs.ClearPaths.{level_holds}
use Rattle.grid_busview.specs.declared.ViewBus.{ViewBus}
use Rattle.grid_busview.specs.Views.{is_load, is_generation, fed_among, watts_over, is_bus, is_valid, is_feeder, bus_of, bus_leasts, bus_view_of}
use Rattle.grid_outages.proofs.Members.{Among, any_found}
use Rattle.grid_screen.proofs.PairClosures.{among_in, IsClosed, within_alike, joined_next, next_first, next_second}
use Rattle.grid_screened.proofs.ListSums.{sum_of, fold_sum, sum_alike, sum-map, sum-filter, passing_only, AreApart, set_by_set}

-- ---- rising lists

all_left : (t p : ℕ → Bool) (ns : List ℕ) → list_all t ns ≡ true → list_all t (filter p ns) ≡ true
all_left t p [] h = refl
all_left t p (n ∷ ns) h = by (p n) (all_left t p ns (and_parts (t n) (list_all t ns) h).1)
  where
    by : (s : Bool) → list_all t (filter p ns) ≡ true → list_all t (cond s (n ∷ filter p ns) (filter p ns)) ≡ true
    by true again = and_from (t n) (list_all t (filter p ns)) (and_parts (t n) (list_all t ns) h).0 again
    by false again = again

rises_left : (p : ℕ → Bool) (ns : List ℕ) → is_rising ns ≡ true → is_rising (filter p ns) ≡ true
unfolding is_rising
rises_left p [] h = refl
rises_left p (n ∷ ns) h = by (p n) (rises_left p ns (and_parts (list_all (nat_lt n) ns) (is_rising ns) h).1)
  where
    by : (s : Bool) → is_rising (filter p ns) ≡ true → is_rising (cond s (n ∷ filter p ns) (filter p ns)) ≡ true
    by true again = and_from (list_all (nat_lt n) (filter p ns)) (is_rising (filter p ns)) (all_left (nat_lt n) p ns (and_parts (list_all (nat_lt n) ns) (is_rising ns) h).0) again
    by false again = again

all_of : (t : ℕ → Bool) (ns : List ℕ) (n : ℕ) → list_all t ns ≡ true → Among n ns → t n ≡ true
all_of t [] n h i = absurd i
all_of t (m ∷ ns) n h (inl e) = ap t e ∙ (and_parts (t m) (list_all t ns) h).0
all_of t (m ∷ ns) n h (inr i) = all_of t ns n (and_parts (t m) (list_all t ns) h).1 i

increasing : (ns : List ℕ) → is_rising ns ≡ true → IsStrictlyIncreasing ns
increasing ns rise k lt = rises ns k (k + 1) rise (omega arith) lt

-- ---- nodes in buses

-- the node is in the group of a least node
abbrev pub in_group : VoltageLevel → ℕ → ℕ → Bool
in_group level least node = list_any (eqb node) (group_under bus level least)

-- a bus holds the node
abbrev pub in_bus : VoltageLevel → ℕ → Bool
in_bus level node = list_any (λ least. in_group level least node) (bus_leasts level)

-- ---- the sum of the buses

-- the watts of what two tests pass, of a list of terminals with their watts
fed_sum : (at test : Placed → Bool) (w : Placed → ℤ) (ps : List Placed)
    → sum_of (λ (pair : Placed × ℤ). pair.1) (filter (λ pair. test pair.0) (filter (λ pair. at pair.0) (zip ps (map w ps)))) ≡ sum_of w (filter at (filter test ps))
fed_sum at test w [] = refl
fed_sum at test w (p ∷ ps) = by (at p) (test p) refl refl (fed_sum at test w ps)
  where
    fed : List (Placed × ℤ)
    fed = filter (λ (pair : Placed × ℤ). at pair.0) (zip ps (map w ps))

    few : List Placed
    few = filter test ps

    by : (s t : Bool) → at p ≡ s → test p ≡ t → sum_of (λ (pair : Placed × ℤ). pair.1) (filter (λ pair. test pair.0) fed) ≡ sum_of w (filter at few)
        → sum_of (λ (pair : Placed × ℤ). pair.1) (filter (λ pair. test pair.0) (cond s ((p, w p) ∷ fed) fed)) ≡ sum_of w (filter at (cond t (p ∷ few) few))
    by true true d e again = rw (d, e) (ap (λ z. w p +ℤ z) again)
    by true false d e again = rw e again
    by false true d e again = rw d again
    by false false d e again = again

group_node : (level : VoltageLevel) (least node : ℕ) → in_group level least node ≡ true → In node (nodes level) × (joined (nodes level) (passing bus level) least node ≡ true)
unfolding group_under group_of
group_node level least node h = filter_In (joined (nodes level) (passing bus level) least) node (nodes level) h

in_group_from : (level : VoltageLevel) (least node : ℕ) → In node (nodes level) → joined (nodes level) (passing bus level) least node ≡ true → in_group level least node ≡ true
unfolding group_under group_of
in_group_from level least node i h = In_filter (joined (nodes level) (passing bus level) least) node (nodes level) i h

leader_of_bus : (level : VoltageLevel) (least : ℕ) → Among least (bus_leasts level) → In least (least_nodes (nodes level) (passing bus level)) × (is_bus level least ≡ true)
unfolding bus_leasts leaders
leader_of_bus level least i = filter_In (is_bus level) least (least_nodes (nodes level) (passing bus level)) (among_in least (filter (is_bus level) (least_nodes (nodes level) (passing bus level))) i)

bus_from : (level : VoltageLevel) (least node : ℕ) → In least (least_nodes (nodes level) (passing bus level)) → is_bus level least ≡ true → in_group level least node ≡ true → in_bus level node ≡ true
unfolding bus_leasts leaders
bus_from level least node i valid h =
    any_of (λ k. in_group level k node) (filter (is_bus level) (least_nodes (nodes level) (passing bus level))) least (In_filter (is_bus level) least (least_nodes (nodes level) (passing bus level)) i valid) h

nodes_rise : (level : VoltageLevel) → is_rising (nodes level) ≡ true
unfolding nodes
nodes_rise level = rising_is_rising _

leasts_rise : (level : VoltageLevel) → is_rising (bus_leasts level) ≡ true
unfolding bus_leasts leaders least_nodes
leasts_rise level =
    rises_left (is_bus level) (least_nodes (nodes level) (passing bus level)) (rises_left (is_least (nodes level) (passing bus level)) (nodes level) (nodes_rise level))

module _ (level : VoltageLevel) (test : Stand → Bool) (w : Placed → ℤ) where
  abbrev tested : List Placed
  tested = filter (λ (p : Placed). test p.stand) level.placed

  abbrev group_has : ℕ → Placed → Bool
  group_has least p = in_group level least p.node

  bus_sum : (least : ℕ) → watts_over test (fed_among level (map w level.placed) (group_under bus level least)) ≡ sum_of w (filter (group_has least) tested)
  unfolding watts_over fed_among
  bus_sum least =
      let z = fold_sum (λ (pair : Placed × ℤ). pair.1) (pos 0) (filter (λ (pair : Placed × ℤ). test pair.0.stand) (filter (λ (pair : Placed × ℤ). in_group level least pair.0.node) (zip level.placed (map w level.placed)))) in
      omega (arith, ints, z, fed_sum (λ p. in_group level least p.node) (λ p. test p.stand) w level.placed)

  -- a node is in one bus at most
  apart : (ks : List ℕ) → is_rising ks ≡ true → ((k : ℕ) → Among k ks → In k (least_nodes (nodes level) (passing bus level))) → AreApart group_has w tested ks
  unfolding is_rising
  apart [] rise led = tt
  apart (k ∷ ks) rise led =
      let parts = and_parts (list_all (nat_lt k) ks) (is_rising ks) rise in
      (λ p i h. alone p h (list_any (λ j. group_has j p) ks) refl, apart ks parts.1 (λ j i. led j (inr i)))
    where
      alone : (p : Placed) → group_has k p ≡ true → (t : Bool) → list_any (λ j. group_has j p) ks ≡ t → t ≡ false
      alone p h false e = refl
      alone p h true e =
          let parts = and_parts (list_all (nat_lt k) ks) (is_rising ks) rise in
          let other = any_found (λ j. group_has j p) ks e in
          let here = group_node level k p.node h in
          let there = group_node level other.0 p.node other.2 in
          let same = leads_alone (nodes level) (passing bus level) k other.0 p.node (level_holds bus level) here.0 (led k (inl refl), here.1) (led other.0 (inr other.1), there.1) in
          let above : k < other.0 = ltb-true k other.0 (all_of (nat_lt k) ks other.0 parts.0 other.1) in
          absurd (omega (arith, same, above))

  -- what the buses have is what stands at their nodes
  pub buses_sum : sum_of (λ least. watts_over test (fed_among level (map w level.placed) (group_under bus level least))) (bus_leasts level)
      ≡ sum_of (passing_only (λ p. test p.stand) (passing_only (λ p. in_bus level p.node) w)) level.placed
  buses_sum =
      sum_alike (λ least. watts_over test (fed_among level (map w level.placed) (group_under bus level least))) (λ least. sum_of w (filter (group_has least) tested)) (bus_leasts level) (λ least i. bus_sum least)
      ∙ set_by_set group_has w tested (bus_leasts level) (apart (bus_leasts level) (leasts_rise level) (λ k i. (leader_of_bus level k i).0))
      ∙ sum-filter (λ p. in_bus level p.node) w tested
      ∙ sum-filter (λ p. test p.stand) (passing_only (λ p. in_bus level p.node) w) level.placed

pub load_sum : (level : VoltageLevel) (w : Placed → ℤ) → sum_of (λ (b : ViewBus). b.load) (bus_view_of level (map w level.placed)).buses ≡ sum_of (passing_only (λ p. is_load p.stand) (passing_only (λ p. in_bus level p.node) w)) level.placed
unfolding bus_view_of bus_of bus_leasts
load_sum level w = sum-map (λ (b : ViewBus). b.load) (bus_of level (map w level.placed)) (bus_leasts level) ∙ buses_sum level is_load w

pub generation_sum : (level : VoltageLevel) (w : Placed → ℤ) → sum_of (λ (b : ViewBus). b.generation) (bus_view_of level (map w level.placed)).buses ≡ sum_of (passing_only (λ p. is_generation p.stand) (passing_only (λ p. in_bus level p.node) w)) level.placed
unfolding bus_view_of bus_of bus_leasts
generation_sum level w = sum-map (λ (b : ViewBus). b.generation) (bus_of level (map w level.placed)) (bus_leasts level) ∙ buses_sum level is_generation w

-- ---- fewer edges and terminals

module _ {X : Type 0} where
  -- what a test and others pass is no more than what another test passes
  fewer : (q keep f g : X → Bool) (xs : List X) → ((x : X) → f x ≡ true → g x ≡ true) → count_by q (filter f (filter keep xs)) ≤ count_by q (filter g xs)
  fewer q keep f g [] h = omega arith
  fewer q keep f g (x ∷ xs) h = by (keep x) (f x) (g x) refl (h x) (fewer q keep f g xs h)
    where
      front : ℕ
      front = cond (q x) 1 0

      one : (ys : List X) → count_by q (x ∷ ys) ≡ front + count_by q ys
      one ys = sum_by-cons (λ z. cond (q z) 1 0) x ys

      by : (r s t : Bool) → f x ≡ s → (s ≡ true → t ≡ true) → count_by q (filter f (filter keep xs)) ≤ count_by q (filter g xs)
          → count_by q (filter f (cond r (x ∷ filter keep xs) (filter keep xs))) ≤ count_by q (cond t (x ∷ filter g xs) (filter g xs))
      by true true true e k again = rw e (omega (arith, one (filter f (filter keep xs)), one (filter g xs), again))
      by true true false e k again = absurd (false≢true (k refl))
      by true false true e k again = rw e (omega (arith, one (filter g xs), again))
      by true false false e k again = rw e again
      by false s true e k again = omega (arith, one (filter g xs), again)
      by false s false e k again = again

at_least : (n a b : ℕ) → a ≤ b → nat_le n a ≡ true → nat_le n b ≡ true
at_least n a b le h = le-leb n b (let few : n ≤ a = leb-true n a h in omega (arith, le, few))

still_valid : (ps qs : List Placed) → ((q : Placed → Bool) → count_by q ps ≤ count_by q qs) → is_valid ps ≡ true → is_valid qs ≡ true
unfolding is_valid
still_valid ps qs le h =
    let bars = λ (p : Placed). is_busbar p.stand in
    let feeders = λ (p : Placed). is_feeder p.stand in
    let ends = λ (p : Placed). is_branch_end p.stand in
    elim (or_cases (nat_le 1 (count_by bars ps) && nat_le 1 (count_by feeders ps)) (nat_le 1 (count_by ends ps) && nat_le 2 (count_by feeders ps)) h) [
      | inl e ↦ (let two = and_parts (nat_le 1 (count_by bars ps)) (nat_le 1 (count_by feeders ps)) e in
          or_left _ _ (and_from (nat_le 1 (count_by bars qs)) (nat_le 1 (count_by feeders qs)) (at_least 1 _ _ (le bars) two.0) (at_least 1 _ _ (le feeders) two.1)))
      | inr e ↦ (let two = and_parts (nat_le 1 (count_by ends ps)) (nat_le 2 (count_by feeders ps)) e in
          or_right _ _ (and_from (nat_le 1 (count_by ends qs)) (nat_le 2 (count_by feeders qs)) (at_least 1 _ _ (le ends) two.0) (at_least 2 _ _ (le feeders) two.1)))
    ]

-- of a level, some nodes, edges that pass and terminals are left
pub record IsLeft (before after : VoltageLevel) : Type 0 where
  pub nodes_left : (n : ℕ) → In n (nodes after) → In n (nodes before)
  pub passing_left : (pair : ℕ × ℕ) → Among pair (passing bus after) → Among pair (passing bus before)
  pub keep : Placed → Bool
  pub placed_left : after.placed ≡ filter keep before.placed

module _ (before after : VoltageLevel) (left : IsLeft before after) where
  abbrev was : ℕ → ℕ → Bool
  was a b = joined (nodes before) (passing bus before) a b

  -- what is joined still was joined
  was_joined : (a b : ℕ) → In a (nodes before) → joined (nodes after) (passing bus after) a b ≡ true → was a b ≡ true
  unfolding joined
  was_joined a b i h =
      sym (within_alike (was a) (passing bus after) (length (nodes after)) a b closed h) ∙ joined_refl (nodes before) (passing bus before) a
    where
      forth : (c d : ℕ) → In d (neighbours (passing bus before) c) → was a c ≡ true → In c (nodes before) → was a d ≡ true
      forth c d near h j = joined_next (nodes before) (passing bus before) (level_holds bus before) a c d i h j near

      closed : IsClosed (was a) (passing bus after)
      closed pair k =
          let there = left.passing_left pair k in
          let holds = level_holds bus before in
          let ahead = next_first pair (passing bus before) there in
          let back = next_second pair (passing bus before) there in
          same_test (was a pair.0) (was a pair.1) (λ e. forth pair.0 pair.1 ahead e (holds.across pair.1 pair.0 back)) (λ e. forth pair.1 pair.0 back e (holds.across pair.0 pair.1 ahead))

  -- a node that stands in a bus stood in one
  pub was_in_bus : (node : ℕ) → in_bus after node ≡ true → in_bus before node ≡ true
  unfolding is_bus placed_among least_nodes
  was_in_bus node h =
      let ns = nodes before in
      let pairs = passing bus before in
      let holds = level_holds bus before in
      let held = any_found (λ least. in_group after least node) (bus_leasts after) h in
      let least = held.0 in
      let led = leader_of_bus after least held.1 in
      let here = group_node after least node held.2 in
      let led_in = filter_In (is_least (nodes after) (passing bus after)) least (nodes after) led.0 in
      let there = left.nodes_left node here.0 in
      let first = left.nodes_left least led_in.0 in
      let leader = led_by ns pairs node (increasing ns (nodes_rise before)) holds there in
      let top = filter_In (is_least ns pairs) leader.0 ns leader.1 in
      let to_least = joined_trans ns pairs holds leader.0 node least top.0 leader.2 (joined_symm ns pairs holds least node there (was_joined least node first here.1)) in
      let inside : (n : ℕ) → in_group after least n ≡ true → in_group before leader.0 n ≡ true =
      λ n k. (let in_it = group_node after least n k in
      in_group_from before leader.0 n (left.nodes_left n in_it.0) (joined_trans ns pairs holds leader.0 least n top.0 to_least (was_joined least n first in_it.1))) in
      let valid = still_valid (filter (λ p. in_group after least p.node) after.placed) (filter (λ p. in_group before leader.0 p.node) before.placed)
      (λ q. subst (λ (z : List Placed). count_by q (filter (λ p. in_group after least p.node) z) ≤ count_by q (filter (λ p. in_group before leader.0 p.node) before.placed)) (sym left.placed_left)
      (fewer q left.keep (λ p. in_group after least p.node) (λ p. in_group before leader.0 p.node) before.placed (λ p. inside p.node))) led.1 in
      bus_from before leader.0 node leader.1 valid (in_group_from before leader.0 node there leader.2)
