-- What a walk has hit is the zone.
use Rattle.std.proofs.Common.{◌≡◌, refl, sym, ap, ◌∙◌, subst, ℕ, zero, suc, ◌+◌, ◌<◌, ◌≤◌, Bool, true, false, cond, not, ◌&&◌, List, [], ◌∷◌, ◌++◌, map, length, inl, inr, ◌⊎◌, arith, Some, None, Option}
use Rattle.std.specs.Prelude.{slice_get, filter, find, ◌==◌, nat_le}
use Rattle.std.specs.Option.{option_map, option_to_list}
use Rattle.std.specs.List.{flat_map, enumerate_from}
use Rattle.std.proofs.lemmas.Bool.{and_parts, eqb-true, eq-eqb, leb-true, true≢false, false≢true}
use Rattle.grid_lemmas.proofs.Bools.{same_test}
use Rattle.grid_lemmas.proofs.Lists.{all_at, map_got}
use Rattle.grid_ids.specs.Name.{same_id, has_id}
use Rattle.grid_ids.proofs.Alike.{same_is}
use Rattle.grid_level.specs.declared.Placed.{Placed}
use Rattle.grid_level.specs.declared.Switch.{Switch}
use Rattle.grid_level.specs.VoltageLevel.{VoltageLevel}
use Rattle.grid_level.specs.Kept.{KeepsLimits, among}
use Rattle.grid_level.specs.LevelEdits.{max_node}
use Rattle.grid_level.specs.Passing.{switch_edge, internal_edge, ends, nodes, with_opened, positioned}
use Rattle.grid_level.specs.Sound.{level_passes}
use Rattle.grid_states.specs.Rows.{row_at}
use Rattle.grid_structure.specs.declared.NamedBranch.{NamedBranch}
use Rattle.grid_structure.specs.declared.Site.{Site}
use Rattle.grid_structure.specs.declared.SwitchAt.{SwitchAt}
use Rattle.grid_structure.specs.Network.{Network}
use Rattle.grid_structure.specs.Sites.{levels, branches, site, find_switch, first_found, terminal_spot}
use Rattle.grid_structure.specs.Soundness.{IsSound}
use Rattle.grid_outages.specs.Changes.{level_without, branches_without}
use Rattle.grid_screen.specs.Grounds.{Ground, IsGround, fault_flags}
use Rattle.grid_screen.specs.Zones.{site_at, sites_at, network_sites, sites_of, sites_by, sites_of_equipment, passes_fault, passing_fault, level_ties, each_two, branch_ties, fault_ties, is_hit, zone_over}
use Rattle.grid_screen.specs.Walks.{Touches, hits, IsNode, HasEdges, HasEnds, IsEnd, IsSettled, site_of_side}
use Rattle.grid_outages.proofs.Members.{Among, among_got, got_among, among_left, among_right, among_parts, among_map, map_among, filter_among, among_flat, flat_among, among_enumerate, enumerate_among, any_among, any_found, filter_agrees}
use Rattle.grid_screen.proofs.JoinedSites.{AreAmong, hit_start, hit_tie, hit_least}
use Rattle.grid_screen.proofs.FaultEdges as passed
use Rattle.grid_screen.proofs.Sitings.{standing_at, site_is_node, three_sides, first_is_node, second_is_node, two_sites, switch_there}
use Rattle.grid_screen.proofs.BranchEnds.{is_end, branch_of_end, end_site}
use Rattle.grid_screen.proofs.WalkResults.{map_back}
use Rattle.grid_screen.proofs.Stands.{one_of_three}
use Rattle.grid_screen.proofs.OutageSteps.{found_alike}

-- ---- sites of a network

among_number : (n : ℕ) (ns : List ℕ) → among ns n ≡ true → Among n ns
among_number n ns h = let f = any_found (λ m. m == n) ns h in subst (λ (z : ℕ). Among z ns) (eqb-true f.0 n f.2) f.1

number_among : (n : ℕ) (ns : List ℕ) → Among n ns → among ns n ≡ true
number_among n ns i = any_among (λ m. m == n) n ns i (eq-eqb n n refl)

pub node_among : (net : Network) (s : Site) → IsNode net s → Among s (network_sites net)
unfolding network_sites
node_among net s h =
    let here : 0 + s.level ≡ s.level = omega arith in
    let at = subst (λ (z : ℕ). Among {X = ℕ × VoltageLevel} (z, h.level) (enumerate_from 0 (levels net))) here (among_enumerate (levels net) 0 s.level h.level h.at) in
    among_flat (λ (at : ℕ × VoltageLevel). map (site_at at.0) (nodes at.1)) s (s.level, h.level) (enumerate_from 0 (levels net)) at
    (among_map (site_at s.level) s.node (nodes h.level) (among_number s.node (nodes h.level) h.node))

pub among_node : (net : Network) (s : Site) → Among s (network_sites net) → IsNode net s
unfolding network_sites
among_node net s i =
    let at = flat_among (λ (at : ℕ × VoltageLevel). map (site_at at.0) (nodes at.1)) s (enumerate_from 0 (levels net)) i in
    let place = enumerate_among (levels net) 0 at.0 at.1 in
    let node = map_among (site_at at.0.0) s (nodes at.0.1) at.2 in
    let level : s.level ≡ place.0 = omega (arith, ap (λ (z : Site). z.level) node.2, place.1) in
    record {
      level = at.0.1;
      at = ap (slice_get (levels net)) level ∙ place.2;
      node = ap (among (nodes at.0.1)) (ap (λ (z : Site). z.node) node.2) ∙ number_among node.0 (nodes at.0.1) node.1;
    }

keeps_at : (net : Network) (k : ℕ) (l : VoltageLevel) → IsSound net → slice_get (levels net) k ≡ Some l → KeepsLimits l
keeps_at net k l sound at = passed.keeps_of l (all_at level_passes (levels net) k l sound.each_level at)

small_node : (net : Network) (s : Site) → IsSound net → IsNode net s → s.node < 65536
small_node net s sound h =
    let keeps = keeps_at net s.level h.level sound h.at in
    let got = got_among s.node (nodes h.level) (among_number s.node (nodes h.level) h.node) in
    let most : nat_le s.node max_node ≡ true = all_at (λ n. nat_le n max_node) (nodes h.level) got.0 s.node keeps.nodes_in_range got.1 in
    let le = leb-true s.node max_node most in
    omega (arith, le)

-- ---- sites of an equipment

some_here : (o : Option (ℕ × ℕ)) (s : Site) → Among s (option_to_list (option_map terminal_spot o)) → o ≡ Some (s.level, s.node)
some_here (Some spot) s (inl e) = ap (λ (a : Site). Some (a.level, a.node)) (sym e)
some_here (Some spot) s (inr i) = absurd i
some_here None s i = absurd i

-- a site of an equipment is that of one of its sides
pub side_of_site : (net : Network) (id : List ℕ) (s : Site) → Among s (sites_of_equipment net id) → (side : ℕ) × (site net id side ≡ Some (s.level, s.node))
unfolding site_of_side
side_of_site net id s i =
    elim (among_parts s (site_of_side net id 1 ++ site_of_side net id 2) (site_of_side net id 3) (subst (Among s) (three_sides net id) i)) [
      | inl h ↦ elim (among_parts s (site_of_side net id 1) (site_of_side net id 2) h) [
        | inl a ↦ (1, some_here (site net id 1) s a)
        | inr a ↦ (2, some_here (site net id 2) s a)
      ]
      | inr a ↦ (3, some_here (site net id 3) s a)
    ]

here_some : (net : Network) (id : List ℕ) (side k n : ℕ) → site net id side ≡ Some (k, n) → Among (site_at k n) (site_of_side net id side)
unfolding site_of_side
here_some net id side k n e = subst (λ (z : Option (ℕ × ℕ)). Among (site_at k n) (option_to_list (option_map terminal_spot z))) (sym e) (inl refl)

pub site_of_one : (net : Network) (id : List ℕ) (side k n : ℕ) → 1 ≤ side → side ≤ 3 → site net id side ≡ Some (k, n) → Among (site_at k n) (sites_of_equipment net id)
site_of_one net id side k n low high e = subst (Among (site_at k n)) (sym (three_sides net id)) (by (side == 1) (side == 2) refl refl)
  where
    at : (m : ℕ) → side ≡ m → Among (site_at k n) (site_of_side net id m)
    at m same = here_some net id m k n (ap (site net id) (sym same) ∙ e)

    unlike : (m : ℕ) → (side == m) ≡ false → side ≡ m → ⊥
    unlike m f same = true≢false (sym (eq-eqb side m same) ∙ f)

    by : (t u : Bool) → (side == 1) ≡ t → (side == 2) ≡ u → Among (site_at k n) ((site_of_side net id 1 ++ site_of_side net id 2) ++ site_of_side net id 3)
    by true u p q = among_left (site_at k n) _ _ (among_left (site_at k n) _ _ (at 1 (eqb-true side 1 p)))
    by false true p q = among_left (site_at k n) _ _ (among_right (site_at k n) (site_of_side net id 1) _ (at 2 (eqb-true side 2 q)))
    by false false p q =
        let third : side ≡ 3 = omega (arith, low, high, unlike 1 p, unlike 2 q) in
        among_right (site_at k n) (site_of_side net id 1 ++ site_of_side net id 2) _ (at 3 third)

-- each id's sites are nodes
pub starts_are_nodes : (net : Network) (ids : List (List ℕ)) → IsSound net → (s : Site) → Among s (flat_map (sites_of net) ids) → IsNode net s
unfolding sites_of
starts_are_nodes net ids sound s i = let id = flat_among (sites_of net) s ids i in by id.0 (find_switch net id.0) refl id.2
  where
    by : (id : List ℕ) (o : Option (ℕ × ℕ)) → find_switch net id ≡ o → Among s (sites_by net id o) → IsNode net s
    by id None e j = let side = side_of_site net id s j in site_is_node net id side.0 s.level s.node sound side.1
    by id (Some (k, p)) e j =
        let at = switch_there net id k p e in
        let place : SwitchAt = record { level = k; place = p } in
        let switch = inside at.level.switches p at.inside in
        let two = subst (Among s) (two_sites net place at.level switch.0 sound at.there switch.1) j in
        pick s (site_at k switch.0.node1) (site_at k switch.0.node2) two (first_is_node net place at.level switch.0 sound at.there switch.1) (second_is_node net place at.level switch.0 sound at.there switch.1)
      where
        inside : (ss : List Switch) (n : ℕ) → n < length ss → (x : Switch) × (slice_get ss n ≡ Some x)
        inside [] n lt = absurd (omega arith)
        inside (x ∷ ss) zero lt = (x, refl)
        inside (x ∷ ss) (suc n) lt = inside ss n (omega arith)

        pick : (q a b : Site) → Among q (a ∷ b ∷ []) → IsNode net a → IsNode net b → IsNode net q
        pick q a b (inl e) u v = subst (IsNode net) (sym e) u
        pick q a b (inr (inl e)) u v = subst (IsNode net) (sym e) v
        pick q a b (inr (inr h)) u v = absurd h

-- ---- each two

pub two_among : {X : Type 0} (xs : List X) (tie : X × X) → Among tie (each_two xs) → Among tie.0 xs × Among tie.1 xs
unfolding each_two
two_among [] tie i = absurd i
two_among {X} (x ∷ xs) tie i = elim (among_parts tie (map (λ y. (x, y)) xs) (each_two xs) i) [
  | inl h ↦ (let y = map_among (λ y. (x, y)) tie xs h in (inl (ap (λ (z : X × X). z.0) y.2), inr (subst (λ (z : X). Among z xs) (sym (ap (λ (z : X × X). z.1) y.2)) y.1)))
  | inr h ↦ (let r = two_among xs tie h in (inr r.0, inr r.1))
]

-- two that stand in a list are one, or a pair in one order
pub among_two : {X : Type 0} (xs : List X) (a b : X) → Among a xs → Among b xs → (a ≡ b) ⊎ (Among (a, b) (each_two xs) ⊎ Among (b, a) (each_two xs))
unfolding each_two
among_two [] a b i j = absurd i
among_two {X} (x ∷ xs) a b (inl e) (inl f) = inl (e ∙ sym f)
among_two {X} (x ∷ xs) a b (inl e) (inr j) = inr (inl (among_left (a, b) (map (λ y. (x, y)) xs) (each_two xs) (subst (λ (z : X). Among {X = X × X} (z, b) (map (λ y. (x, y)) xs)) (sym e) (among_map (λ y. (x, y)) b xs j))))
among_two {X} (x ∷ xs) a b (inr i) (inl f) = inr (inr (among_left (b, a) (map (λ y. (x, y)) xs) (each_two xs) (subst (λ (z : X). Among {X = X × X} (z, a) (map (λ y. (x, y)) xs)) (sym f) (among_map (λ y. (x, y)) a xs i))))
among_two (x ∷ xs) a b (inr i) (inr j) = elim (among_two xs a b i j) [
  | inl e ↦ inl e
  | inr (inl h) ↦ inr (inl (among_right (a, b) (map (λ y. (x, y)) xs) (each_two xs) h))
  | inr (inr h) ↦ inr (inr (among_right (b, a) (map (λ y. (x, y)) xs) (each_two xs) h))
]

-- ---- without some equipment

find_kept : {X : Type 0} (test keep : X → Bool) (xs : List X) → ((x : X) → test x ≡ true → keep x ≡ true) → find test (filter keep xs) ≡ find test xs
find_kept test keep [] h = refl
find_kept {X} test keep (x ∷ xs) h = by (test x) (keep x) refl refl (find_kept test keep xs h)
  where
    by : (t k : Bool) → test x ≡ t → keep x ≡ k → find test (filter keep xs) ≡ find test xs → find test (cond k (x ∷ filter keep xs) (filter keep xs)) ≡ cond t (Some x) (find test xs)
    by true true e f again = rw e refl
    by true false e f again = absurd (true≢false (sym (h x e) ∙ f))
    by false true e f again = rw e again
    by false false e f again = again

site_same : (net past : Network) (removed : List (List ℕ)) (id : List ℕ) (side : ℕ) → levels past ≡ map (level_without removed) (levels net) → has_id removed id ≡ false → site past id side ≡ site net id side
unfolding site level_without
site_same net past removed id side left gone =
    ap (first_found 0 test) left ∙ found_alike test (level_without removed) 0 (levels net) (λ l. ap (option_map (λ (p : Placed). p.node)) (find_kept own keep l.placed stays))
  where
    own : Placed → Bool
    own p = same_id id p.terminal.equipment && (p.terminal.side == side)

    keep : Placed → Bool
    keep p = not (has_id removed p.terminal.equipment)

    test : VoltageLevel → Option ℕ
    test l = option_map (λ (p : Placed). p.node) (find own l.placed)

    stays : (p : Placed) → own p ≡ true → keep p ≡ true
    stays p h =
        let same = same_is id p.terminal.equipment (and_parts (same_id id p.terminal.equipment) (p.terminal.side == side) h).0 in
        ap not (ap (has_id removed) (sym same) ∙ gone)

pub sites_same : (net past : Network) (removed : List (List ℕ)) (id : List ℕ) → levels past ≡ map (level_without removed) (levels net) → has_id removed id ≡ false → sites_of_equipment past id ≡ sites_of_equipment net id
unfolding site_of_side
sites_same net past removed id left gone =
    let side = λ (n : ℕ). ap (λ z. option_to_list (option_map terminal_spot z)) (site_same net past removed id n left gone) in
    three_sides past id ∙ ap (λ z. (z ++ site_of_side past id 2) ++ site_of_side past id 3) (side 1) ∙ ap (λ z. (site_of_side net id 1 ++ z) ++ site_of_side past id 3) (side 2)
    ∙ ap (λ z. (site_of_side net id 1 ++ site_of_side net id 2) ++ z) (side 3) ∙ sym (three_sides net id)

passing_same : (stuck other removed : List (List ℕ)) (l : VoltageLevel) (row : List Bool) → ((q : List ℕ) → has_id stuck q ≡ has_id other q) → passing_fault stuck (positioned (level_without removed l) row) ≡ passing_fault other (positioned l row)
unfolding passing_fault positioned level_without passes_fault
passing_same stuck other removed l row known =
    ap (λ z. map (λ s. ends (switch_edge s)) z ++ map (λ i. ends (internal_edge i)) l.internals)
    (filter_agrees (passes_fault stuck) (passes_fault other) (with_opened l.switches row) (λ s i. rw (known s.id) refl))

-- ---- the state before the fault

-- a network whose levels stand before the fault, with the branches that are left, and the ids that are stuck
pub record IsPast (g : Ground) (b : IsGround g) (past : Network) (stuck : List (List ℕ)) : Type 0 where
  pub sound : IsSound past
  pub levels_are : levels past ≡ g.present
  pub branches_are : branches past ≡ branches_without b.removed (branches g.net)
  pub known : (q : List ℕ) → has_id stuck q ≡ has_id g.stuck q

module _ (g : Ground) (b : IsGround g) (past : Network) (stuck : List (List ℕ)) (is_past : IsPast g b past stuck) where
  ties : List (Site × Site)
  ties = fault_ties past g.opened stuck

  left : levels past ≡ map (level_without b.removed) (levels g.net)
  left = is_past.levels_are ∙ b.left

  branch_left : (x : NamedBranch) → Among x (branches past) → has_id b.removed x.id ≡ false
  unfolding branches_without
  branch_left x i =
      let both = filter_among (λ (y : NamedBranch). not (has_id b.removed y.id)) x (branches g.net) (subst (Among x) is_past.branches_are i) in
      is_false (has_id b.removed x.id) both.1
    where
      is_false : (t : Bool) → not t ≡ true → t ≡ false
      is_false true e = absurd (false≢true e)
      is_false false e = refl

  branch_sites_same : (x : NamedBranch) → Among x (branches past) → sites_of_equipment past x.id ≡ sites_of_equipment g.net x.id
  branch_sites_same x i = sites_same g.net past b.removed x.id left (branch_left x i)

  -- a link is of an edge over which a fault passes, or of two ends of a branch
  record IsEdge (tie : Site × Site) : Type 0 where
    place : ℕ
    level : VoltageLevel
    at : slice_get (levels g.net) place ≡ Some level
    index : ℕ
    pair : ℕ × ℕ
    passes : slice_get (passing_fault g.stuck (positioned level (row_at g.opened place))) index ≡ Some pair
    is : tie ≡ sites_at place pair

  tie_cases : (tie : Site × Site) → Among tie ties → IsEdge tie ⊎ ((x : NamedBranch) × Among x (branches past) × Among tie (each_two (sites_of_equipment past x.id)))
  unfolding ties fault_ties level_ties branch_ties
  tie_cases tie i = elim (among_parts tie (flat_map (level_ties stuck g.opened) (enumerate_from 0 (levels past))) (flat_map (branch_ties past) (branches past)) i) [
    | inl h ↦ inl (edge h)
    | inr h ↦ inr (flat_among (branch_ties past) tie (branches past) h)
  ]
    where
      edge : Among tie (flat_map (level_ties stuck g.opened) (enumerate_from 0 (levels past))) → IsEdge tie
      edge h =
          let at = flat_among (level_ties stuck g.opened) tie (enumerate_from 0 (levels past)) h in
          let place = enumerate_among (levels past) 0 at.0 at.1 in
          let number : at.0.0 ≡ place.0 = omega (arith, place.1) in
          let pair = map_among (sites_at at.0.0) tie (passing_fault stuck (positioned at.0.1 (row_at g.opened at.0.0))) at.2 in
          let back = map_back (level_without b.removed) (levels g.net) place.0 at.0.1 (ap (λ (z : List VoltageLevel). slice_get z place.0) (sym left) ∙ place.2) in
          let same = ap (λ (z : VoltageLevel). passing_fault stuck (positioned z (row_at g.opened at.0.0))) (sym back.2) ∙ passing_same stuck g.stuck b.removed back.0 (row_at g.opened at.0.0) is_past.known in
          let got = got_among pair.0 (passing_fault g.stuck (positioned back.0 (row_at g.opened at.0.0))) (subst (Among pair.0) same pair.1) in
          record {
            place = at.0.0;
            level = back.0;
            at = ap (slice_get (levels g.net)) number ∙ back.1;
            index = got.0;
            pair = pair.0;
            passes = got.1;
            is = pair.2;
          }

  edge_tie : (k i : ℕ) (l : VoltageLevel) (pair : ℕ × ℕ) → slice_get (levels g.net) k ≡ Some l → slice_get (passing_fault g.stuck (positioned l (row_at g.opened k))) i ≡ Some pair → Among (sites_at k pair) ties
  unfolding ties fault_ties level_ties
  edge_tie k i l pair at got =
      let same = passing_same stuck g.stuck b.removed l (row_at g.opened k) is_past.known in
      let there = subst (Among pair) (sym same) (among_got (passing_fault g.stuck (positioned l (row_at g.opened k))) i pair got) in
      let level = ap (λ (z : List VoltageLevel). slice_get z k) left ∙ map_got (level_without b.removed) (levels g.net) k l at in
      let here : 0 + k ≡ k = omega arith in
      let placed = subst (λ (z : ℕ). Among {X = ℕ × VoltageLevel} (z, level_without b.removed l) (enumerate_from 0 (levels past))) here (among_enumerate (levels past) 0 k (level_without b.removed l) level) in
      among_left (sites_at k pair) (flat_map (level_ties stuck g.opened) (enumerate_from 0 (levels past))) _
      (among_flat (level_ties stuck g.opened) (sites_at k pair) (k, level_without b.removed l) (enumerate_from 0 (levels past)) placed
      (among_map (sites_at k) pair (passing_fault stuck (positioned (level_without b.removed l) (row_at g.opened k))) there))

  branch_tie : (x : NamedBranch) (tie : Site × Site) → Among x (branches past) → Among tie (each_two (sites_of_equipment past x.id)) → Among tie ties
  unfolding ties fault_ties branch_ties
  branch_tie x tie i h = among_right tie (flat_map (level_ties stuck g.opened) (enumerate_from 0 (levels past))) (flat_map (branch_ties past) (branches past)) (among_flat (branch_ties past) tie x (branches past) i h)

  -- an end of a branch stands at each of the branch's sites
  end_there : (x : NamedBranch) (s : Site) → Among x (branches past) → Among s (sites_of_equipment past x.id) → (p : Placed) × IsEnd g s p × (p.terminal.equipment ≡ x.id)
  end_there x s i j =
      let side = side_of_site past x.id s j in
      let there = standing_at past x.id side.0 s.level s.node side.1 in
      let ends = is_end past s.level there.index there.level there.item x is_past.sound there.at there.stands i there.own in
      (there.item, record { level = there.level; at = ap (λ (z : List VoltageLevel). slice_get z s.level) (sym is_past.levels_are) ∙ there.at; index = there.index; stands = there.stands; ends = ends; node = there.node }, there.own)

  -- the branch of an end, and its site there
  end_branch : (s : Site) (p : Placed) → IsEnd g s p → (x : NamedBranch) × Among x (branches past) × (p.terminal.equipment ≡ x.id) × Among s (sites_of_equipment past x.id)
  end_branch s p end =
      let at = ap (λ (z : List VoltageLevel). slice_get z s.level) is_past.levels_are ∙ end.at in
      let x = branch_of_end past s.level end.index end.level p is_past.sound at end.stands end.ends in
      let is = end_site past s.level end.index end.level p is_past.sound at end.stands end.ends in
      let range = one_of_three past s.level end.index end.level p is_past.sound at end.stands in
      let here = site_of_one past p.terminal.equipment p.terminal.side s.level p.node range.0 range.1 is in
      (x.0, x.1, x.2, subst (λ (z : List ℕ). Among s (sites_of_equipment past z)) x.2 (subst (λ (z : ℕ). Among (site_at s.level z) (sites_of_equipment past p.terminal.equipment)) end.node here))

  -- a set with edges and ends has both ends of each link or neither
  ties_held : (set : Site → Bool) → HasEdges g set → HasEnds g set → (tie : Site × Site) → Among tie ties → set tie.0 ≡ set tie.1
  ties_held set edges ends tie i = elim (tie_cases tie i) [
    | inl e ↦ ap (λ (z : Site × Site). set z.0) e.is ∙ edges e.place e.index e.level e.pair e.at e.passes ∙ ap (λ (z : Site × Site). set z.1) (sym e.is)
    | inr r ↦ (let both = two_among (sites_of_equipment past r.0.id) tie r.2 in same_test (set tie.0) (set tie.1) (over r.0 tie.0 tie.1 r.1 both.0 both.1) (over r.0 tie.1 tie.0 r.1 both.1 both.0))
  ]
    where
      over : (x : NamedBranch) (s t : Site) → Among x (branches past) → Among s (sites_of_equipment past x.id) → Among t (sites_of_equipment past x.id) → set s ≡ true → set t ≡ true
      over x s t i j k h =
          let p = end_there x s i j in
          let got = got_among t (sites_of_equipment g.net p.0.terminal.equipment)
          (subst (λ (z : List ℕ). Among t (sites_of_equipment g.net z)) (sym p.2) (subst (Among t) (branch_sites_same x i) k)) in
          ends s p.0 p.1 h got.0 t got.1

  module _ (starts : List Site) (begun : (s : Site) → Among s starts → IsNode g.net s) where
    fit : AreAmong (network_sites g.net) ties starts
    fit = record {
      small = λ s i. small_node g.net s b.sound (among_node g.net s i);
      ends = λ tie i. elim (tie_cases tie i) [
        | inl e ↦ edge_nodes tie e
        | inr r ↦ (let both = two_among (sites_of_equipment past r.0.id) tie r.2 in (branch_node r.0 tie.0 r.1 both.0, branch_node r.0 tie.1 r.1 both.1))
      ];
      begun = λ s i. node_among g.net s (begun s i);
    }
      where
        branch_node : (x : NamedBranch) (s : Site) → Among x (branches past) → Among s (sites_of_equipment past x.id) → Among s (network_sites g.net)
        branch_node x s i j =
            let side = side_of_site g.net x.id s (subst (Among s) (branch_sites_same x i) j) in
            node_among g.net s (site_is_node g.net x.id side.0 s.level s.node b.sound side.1)

        edge_nodes : (tie : Site × Site) → IsEdge tie → Among tie.0 (network_sites g.net) × Among tie.1 (network_sites g.net)
        edge_nodes tie e =
            let row = row_at g.opened e.place in
            let keeps = keeps_at g.net e.place e.level b.sound e.at in
            let passes = subst (Among e.pair) (passed.fault_passing g.stuck e.level row (b.flags e.place e.level e.at)) (among_got (passing_fault g.stuck (positioned e.level row)) e.index e.pair e.passes) in
            let both = passed.pair_nodes e.level (fault_flags g.stuck e.level.switches row) _ keeps refl e.pair passes in
            let first : IsNode g.net (site_at e.place e.pair.0) = record { level = e.level; at = e.at; node = both.0 } in
            let second : IsNode g.net (site_at e.place e.pair.1) = record { level = e.level; at = e.at; node = both.1 } in (
              subst (λ (z : Site × Site). Among z.0 (network_sites g.net)) (sym e.is) (node_among g.net (site_at e.place e.pair.0) first),
              subst (λ (z : Site × Site). Among z.1 (network_sites g.net)) (sym e.is) (node_among g.net (site_at e.place e.pair.1) second),
            )

    zone : Site → Bool
    zone = is_hit (network_sites g.net) ties starts

    zone_edges : HasEdges g zone
    unfolding zone
    zone_edges k i l pair at got = hit_tie (network_sites g.net) ties starts fit (sites_at k pair) (edge_tie k i l pair at got)

    zone_ends : HasEnds g zone
    unfolding zone
    zone_ends s p end h i t got =
        let x = end_branch s p end in
        let there = subst (Among t) (sym (branch_sites_same x.0 x.1)) (subst (λ (z : List ℕ). Among t (sites_of_equipment g.net z)) x.2 (among_got (sites_of_equipment g.net p.terminal.equipment) i t got)) in
        elim (among_two (sites_of_equipment past x.0.id) s t x.3 there) [
          | inl e ↦ ap zone (sym e) ∙ h
          | inr (inl j) ↦ sym (hit_tie (network_sites g.net) ties starts fit (s, t) (branch_tie x.0 (s, t) x.1 j)) ∙ h
          | inr (inr j) ↦ hit_tie (network_sites g.net) ties starts fit (t, s) (branch_tie x.0 (t, s) x.1 j) ∙ h
        ]

    -- the sites that the walk has hit are the zone
    pub zone_is : (touched : Touches) → IsSettled g starts touched → filter (hits touched) (network_sites g.net) ≡ zone_over g.net (fault_ties past g.opened stuck) starts
    unfolding zone zone_over ties
    zone_is touched done = filter_agrees (hits touched) (is_hit (network_sites g.net) ties starts) (network_sites g.net) both
      where
        both : (s : Site) → Among s (network_sites g.net) → hits touched s ≡ is_hit (network_sites g.net) ties starts s
        both s i = same_test (hits touched s) (is_hit (network_sites g.net) ties starts s)
            (done.least zone zone_edges zone_ends (λ j q e. hit_start (network_sites g.net) ties starts fit q (among_got starts j q e)) s (among_node g.net s i))
            (hit_least (network_sites g.net) ties starts fit (hits touched) (ties_held (hits touched) done.edges done.ends) (λ q j. let got = got_among q starts j in done.here got.0 q got.1) s i)

    -- each set with the starts, and with both ends of each link or neither, has the zone
    pub zone_least : (set : Site → Bool) → ((tie : Site × Site) → Among tie (fault_ties past g.opened stuck) → set tie.0 ≡ set tie.1) → ((s : Site) → Among s starts → set s ≡ true)
        → (s : Site) → Among s (zone_over g.net (fault_ties past g.opened stuck) starts) → set s ≡ true
    unfolding ties zone_over
    zone_least set both has_starts s i =
        let inside = filter_among (is_hit (network_sites g.net) (fault_ties past g.opened stuck) starts) s (network_sites g.net) i in
        hit_least (network_sites g.net) (fault_ties past g.opened stuck) starts fit set both has_starts s inside.0 inside.1

    pub zone_held : (tie : Site × Site) → Among tie (fault_ties past g.opened stuck) → is_hit (network_sites g.net) (fault_ties past g.opened stuck) starts tie.0 ≡ is_hit (network_sites g.net) (fault_ties past g.opened stuck) starts tie.1
    unfolding ties
    zone_held tie i = hit_tie (network_sites g.net) (fault_ties past g.opened stuck) starts fit tie i

    pub zone_begun : (s : Site) → Among s starts → is_hit (network_sites g.net) (fault_ties past g.opened stuck) starts s ≡ true
    unfolding ties
    zone_begun s i = hit_start (network_sites g.net) (fault_ties past g.opened stuck) starts fit s i

    -- an edge over which a fault passes has both its nodes in the zone or neither
    pub zone_across : (k i : ℕ) (l : VoltageLevel) (pair : ℕ × ℕ) → slice_get (levels g.net) k ≡ Some l → slice_get (passing_fault g.stuck (positioned l (row_at g.opened k))) i ≡ Some pair
        → is_hit (network_sites g.net) (fault_ties past g.opened stuck) starts (site_at k pair.0) ≡ is_hit (network_sites g.net) (fault_ties past g.opened stuck) starts (site_at k pair.1)
    unfolding ties
    zone_across k i l pair at got = hit_tie (network_sites g.net) (fault_ties past g.opened stuck) starts fit (sites_at k pair) (edge_tie k i l pair at got)

    -- which are nodes
    pub across_nodes : (k i : ℕ) (l : VoltageLevel) (pair : ℕ × ℕ) → slice_get (levels g.net) k ≡ Some l → slice_get (passing_fault g.stuck (positioned l (row_at g.opened k))) i ≡ Some pair
        → IsNode g.net (site_at k pair.0) × IsNode g.net (site_at k pair.1)
    across_nodes k i l pair at got =
        let both = fit.ends (sites_at k pair) (edge_tie k i l pair at got) in
        (among_node g.net (site_at k pair.0) both.0, among_node g.net (site_at k pair.1) both.1)
