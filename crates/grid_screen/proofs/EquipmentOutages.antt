-- The terminals and branches that are left where some equipment is out, and the pairs that the branches make then.
use Rattle.std.proofs.Common.{◌≡◌, refl, sym, ap, ◌∙◌, subst, ℕ, ℤ, pos, zero, suc, ◌+◌, ◌<◌, Bool, true, false, cond, not, ◌&&◌, List, [], ◌∷◌, ◌++◌, length, get_or, map, arith, Option, Some, None}
use Rattle.std.specs.Prelude.{eqb, flat_map, filter, position, slice_get, is_some, nat_lt, nat_le, option_and_then, ◌==◌}
use Rattle.std.specs.List.{enumerate_from, list_any, list_all}
use Rattle.std.specs.Option.{option_map}
use Rattle.std.proofs.lemmas.Bool.{and_parts, or_left, or_right, false≢true, ltb-true, ne_eqb, eq-eqb}
use Rattle.std.proofs.lemmas.List.{get_or-map, append-nil}
use Rattle.std.proofs.lemmas.Grind.{flat_map-append}
use Rattle.grid_lemmas.proofs.Lists.{all_at, map_got, map_twice, position_map}
use Rattle.grid_graph.specs.Components.{places}
use Rattle.grid_graph.proofs.Counts.{at_place}
use Rattle.grid_ids.specs.Name.{same_id, has_id}
use Rattle.grid_level.specs.declared.Placed.{Placed}
use Rattle.grid_level.specs.VoltageLevel.{VoltageLevel}
use Rattle.grid_level.specs.LevelEdits.{max_node}
use Rattle.grid_level.specs.Passing.{nodes, positioned, placed_at, stands_at, is_rising, named, edges, ends, both}
use Rattle.grid_level.specs.Sound.{level_passes}
use Rattle.grid_level.proofs.LevelEdits as on_level
use Rattle.grid_powers.specs.Listed.{Listed}
use Rattle.grid_states.specs.Rows.{row_at}
use Rattle.grid_structure.specs.declared.NamedBranch.{NamedBranch}
use Rattle.grid_structure.specs.declared.End.{End}
use Rattle.grid_structure.specs.Network.{Network}
use Rattle.grid_structure.specs.Sites.{levels, branches, branch_ends, find_level}
use Rattle.grid_structure.specs.Soundness.{IsSound, sides_from}
use Rattle.grid_structure.proofs.Found.{some_find}
use Rattle.grid_busview.specs.Views.{node_buses_of}
use Rattle.grid_islands.specs.Islands.{NetworkBus, holds, bus_at, pair_between, pairs_among, branch_pairs, bus_pairs}
use Rattle.grid_islands.specs.Numbering.{number_of_node, node_within}
use Rattle.grid_islands.proofs.LevelNumbers.{level_at, level_within}
use Rattle.grid_unions.specs.declared.summed.Sums.{Sums}
use Rattle.grid_outages.specs.declared.screening.EndBus.{EndBus}
use Rattle.grid_outages.specs.declared.screening.Link.{Link}
use Rattle.grid_outages.specs.Changes.{Changes, change_at, buses_over, level_sums, level_places, sums_before, spot_at, spot_of, link_between, links_among, branch_links, network_links, level_without, branches_without, place_among, place_in, number_at, link_pairs}
use Rattle.grid_outages.specs.Steps.{Stands}
use Rattle.grid_screen.proofs.Buses.{bus_number, same_level, same_row, own_level, own_row, looked_at}
use Rattle.grid_outages.proofs.ShownLevels.{Change}
use Rattle.grid_screen.proofs.Stands.{Ended, AllStand, all_stand, ends_alike, branches_alike}
use Rattle.std.proofs.lemmas.Option.{slice_get_within}

-- ---- the terminals that are left

abbrev pub stays : List (List ℕ) → Placed → Bool
stays removed p = not (has_id removed p.terminal.equipment)

any_left : {X : Type 0} (t u : X → Bool) (xs : List X) (j : ℕ) (x : X) → slice_get xs j ≡ Some x → u x ≡ true → t x ≡ true → list_any t (filter u xs) ≡ true
any_left t u [] j x at keep h = cc
any_left t u (y ∷ xs) zero x at keep h =
    let same : y ≡ x = cc in
    let kept : u y ≡ true = ap u same ∙ keep in
    rw kept (or_left (t y) _ (ap t same ∙ h))
any_left {X} t u (y ∷ xs) (suc j) x at keep h = by (u y) (any_left t u xs j x at keep h)
  where
    by : (b : Bool) → list_any t (filter u xs) ≡ true → list_any t (cond b (y ∷ filter u xs) (filter u xs)) ≡ true
    by true again = or_right (t y) _ again
    by false again = again

all_kept : {X : Type 0} (u : X → Bool) (xs : List X) → list_all u (filter u xs) ≡ true
all_kept u [] = refl
all_kept {X} u (x ∷ xs) = by (u x) refl (all_kept u xs)
  where
    by : (b : Bool) → u x ≡ b → list_all u (filter u xs) ≡ true → list_all u (cond b (x ∷ filter u xs) (filter u xs)) ≡ true
    by true e again = rw e again
    by false e again = again

none_above : (u : Placed → Bool) (n : ℕ) (ps : List Placed) → list_all (nat_lt n) (map (λ (p : Placed). p.node) ps) ≡ true → list_any (λ (p : Placed). p.node == n) (filter u ps) ≡ false
none_above u n [] h = refl
none_above u n (p ∷ ps) h =
    let parts = and_parts (nat_lt n p.node) (list_all (nat_lt n) (map (λ (p : Placed). p.node) ps)) h in
    by (u p) (ltb-true n p.node parts.0) (none_above u n ps parts.1)
  where
    by : (b : Bool) → n < p.node → list_any (λ (p : Placed). p.node == n) (filter u ps) ≡ false → list_any (λ (p : Placed). p.node == n) (cond b (p ∷ filter u ps) (filter u ps)) ≡ false
    by true lt again = rw (ne_eqb p.node n (λ e. omega (arith, e, lt))) again
    by false lt again = again

below_any : (n : ℕ) (ps : List Placed) (j : ℕ) (p : Placed) → list_all (nat_lt n) (map (λ (p : Placed). p.node) ps) ≡ true → slice_get ps j ≡ Some p → n < p.node
below_any n [] j p h at = cc
below_any n (q ∷ ps) zero p h at = let same : q ≡ p = cc in subst (λ (z : Placed). n < z.node) same (ltb-true n q.node (and_parts (nat_lt n q.node) (list_all (nat_lt n) (map (λ (p : Placed). p.node) ps)) h).0)
below_any n (q ∷ ps) (suc j) p h at = below_any n ps j p (and_parts (nat_lt n q.node) (list_all (nat_lt n) (map (λ (p : Placed). p.node) ps)) h).1 at

-- where a terminal goes, none stands at its node
none_stands : (u : Placed → Bool) (ps : List Placed) (j : ℕ) (p : Placed) → is_rising (map (λ (p : Placed). p.node) ps) ≡ true → slice_get ps j ≡ Some p → u p ≡ false → list_any (λ (q : Placed). q.node == p.node) (filter u ps) ≡ false
unfolding is_rising
none_stands u [] j p r at gone = cc
none_stands u (q ∷ ps) zero p r at gone =
    let same : q ≡ p = cc in
    let parts = and_parts (list_all (nat_lt q.node) (map (λ (p : Placed). p.node) ps)) (is_rising (map (λ (p : Placed). p.node) ps)) r in
    let out : u q ≡ false = ap u same ∙ gone in
    rw out (none_above u p.node ps (subst (λ (z : Placed). list_all (nat_lt z.node) (map (λ (p : Placed). p.node) ps) ≡ true) same parts.0))
none_stands u (q ∷ ps) (suc j) p r at gone =
    let parts = and_parts (list_all (nat_lt q.node) (map (λ (p : Placed). p.node) ps)) (is_rising (map (λ (p : Placed). p.node) ps)) r in
    by (u q) (below_any q.node ps j p parts.0 at) (none_stands u ps j p parts.1 at gone)
  where
    by : (b : Bool) → q.node < p.node → list_any (λ (q : Placed). q.node == p.node) (filter u ps) ≡ false → list_any (λ (q : Placed). q.node == p.node) (cond b (q ∷ filter u ps) (filter u ps)) ≡ false
    by true lt again = rw (ne_eqb q.node p.node (λ e. omega (arith, e, lt))) again
    by false lt again = again

pub stays_placed : (removed : List (List ℕ)) (l : VoltageLevel) (j : ℕ) (p : Placed) → slice_get l.placed j ≡ Some p → has_id removed p.terminal.equipment ≡ false → is_some (placed_at (level_without removed l) p.node) ≡ true
unfolding placed_at stands_at level_without
stays_placed removed l j p at h =
    some_find (λ (q : Placed). q.node == p.node) (filter (stays removed) l.placed) ∙ any_left (λ (q : Placed). q.node == p.node) (stays removed) l.placed j p at (ap not h) (eq-eqb p.node p.node refl)

pub goes_placed : (removed : List (List ℕ)) (l : VoltageLevel) (j : ℕ) (p : Placed) → is_rising (map (λ (p : Placed). p.node) l.placed) ≡ true → slice_get l.placed j ≡ Some p → has_id removed p.terminal.equipment ≡ true → is_some (placed_at (level_without removed l) p.node) ≡ false
unfolding placed_at stands_at level_without
goes_placed removed l j p r at h = some_find (λ (q : Placed). q.node == p.node) (filter (stays removed) l.placed) ∙ none_stands (stays removed) l.placed j p r at (ap not h)

-- a level that is the same has no terminal that goes
same_has_none : (removed : List (List ℕ)) (l : VoltageLevel) (j : ℕ) (p : Placed) → l ≡ level_without removed l → slice_get l.placed j ≡ Some p → has_id removed p.terminal.equipment ≡ false
unfolding level_without
same_has_none removed l j p same at =
    let lists : l.placed ≡ filter (stays removed) l.placed = ap (λ (z : VoltageLevel). z.placed) same in
    flip (has_id removed p.terminal.equipment) (all_at (stays removed) l.placed j p (subst (λ z. list_all (stays removed) z ≡ true) (sym lists) (all_kept (stays removed) l.placed)) at)
  where
    flip : (b : Bool) → not b ≡ true → b ≡ false
    flip true e = absurd (false≢true e)
    flip false e = refl

-- a terminal's node is one that a level can have
node_small : (l : VoltageLevel) (j : ℕ) (p : Placed) → level_passes l ≡ true → slice_get l.placed j ≡ Some p → nat_le p.node max_node ≡ true
unfolding named
node_small l j p h at =
    let range = (on_level.passes_of l h).within.in_range in
    let parts = on_level.all_parts (λ n. nat_le n max_node) (flat_map (λ e. both (ends e)) (edges l)) (map (λ (p : Placed). p.node) l.placed) range in
    mapped l.placed j parts.1 at
  where
    mapped : (ps : List Placed) (j : ℕ) → list_all (λ n. nat_le n max_node) (map (λ (p : Placed). p.node) ps) ≡ true → slice_get ps j ≡ Some p → nat_le p.node max_node ≡ true
    mapped [] j h at = cc
    mapped (q ∷ ps) zero h at = let same : q ≡ p = cc in subst (λ (z : Placed). nat_le z.node max_node ≡ true) same (and_parts (nat_le q.node max_node) (list_all (λ n. nat_le n max_node) (map (λ (p : Placed). p.node) ps)) h).0
    mapped (q ∷ ps) (suc j) h at = mapped ps j (and_parts (nat_le q.node max_node) (list_all (λ n. nat_le n max_node) (map (λ (p : Placed). p.node) ps)) h).1 at

-- ---- links

-- what a test of spots makes of two ends is what it makes of their link
module _ (now : EndBus → Option ℕ) where
  abbrev pub now_of : Option EndBus → Option ℕ
  now_of o = option_and_then now o

  abbrev pub pairs_of_link : Link → List (ℕ × ℕ)
  pairs_of_link link = pair_between (now link.first) (now link.second)

  nothing_between : (o : Option ℕ) → pair_between o None ≡ []
  unfolding pair_between
  nothing_between None = refl
  nothing_between (Some x) = refl

  one_link : (a b : Option EndBus) → flat_map pairs_of_link (link_between a b) ≡ pair_between (now_of a) (now_of b)
  unfolding link_between pair_between
  one_link None b = refl
  one_link (Some x) None = sym (nothing_between (now x))
  one_link (Some x) (Some y) = append-nil (pair_between (now x) (now y))

  links_with : (a : Option EndBus) (os : List (Option EndBus)) → flat_map pairs_of_link (flat_map (link_between a) os) ≡ flat_map (pair_between (now_of a)) (map now_of os)
  links_with a [] = refl
  links_with a (b ∷ os) = flat_map-append pairs_of_link (link_between a b) (flat_map (link_between a) os) ∙ rw (one_link a b, links_with a os) refl

  pub among_links : (os : List (Option EndBus)) → flat_map pairs_of_link (links_among os) ≡ pairs_among (map now_of os)
  unfolding links_among pairs_among
  among_links [] = refl
  among_links (a ∷ os) = flat_map-append pairs_of_link (flat_map (link_between a) os) (links_among os) ∙ rw (links_with a os, among_links os) refl

flat_twice : {X Y Z : Type 0} (h : Y → List Z) (g : X → List Y) (xs : List X) → flat_map h (flat_map g xs) ≡ flat_map (λ x. flat_map h (g x)) xs
flat_twice h g [] = refl
flat_twice h g (x ∷ xs) = flat_map-append h (g x) (flat_map g xs) ∙ ap (λ z. flat_map h (g x) ++ z) (flat_twice h g xs)

-- no pair where there is no end
abbrev no_end : End → Option ℕ
no_end end = None

no_pairs : (ends : List End) → pairs_among (map no_end ends) ≡ []
unfolding pairs_among pair_between
no_pairs [] = refl
no_pairs (end ∷ ends) = rw (none_with ends, no_pairs ends) refl
  where
    none_with : (ends : List End) → flat_map (pair_between None) (map no_end ends) ≡ []
    none_with [] = refl
    none_with (x ∷ ends) = none_with ends

-- what is made of the branches that are left
left_branches : {X : Type 0} (f : NamedBranch → List X) (removed : List (List ℕ)) (bs : List NamedBranch) → flat_map f (branches_without removed bs) ≡ flat_map (λ (b : NamedBranch). cond (has_id removed b.id) [] (f b)) bs
unfolding branches_without
left_branches f removed [] = refl
left_branches {X} f removed (b ∷ bs) = by (has_id removed b.id) (left_branches f removed bs)
  where
    rest : List NamedBranch
    rest = filter (λ (b : NamedBranch). not (has_id removed b.id)) bs

    by : (t : Bool) → flat_map f rest ≡ flat_map (λ (b : NamedBranch). cond (has_id removed b.id) [] (f b)) bs
        → flat_map f (cond (not t) (b ∷ rest) rest) ≡ cond t [] (f b) ++ flat_map (λ (b : NamedBranch). cond (has_id removed b.id) [] (f b)) bs
    by true again = again
    by false again = ap (λ z. f b ++ z) again

-- ---- lists by place

-- ---- the pairs of the branches that are left

module _ (net new : Network) (sound : IsSound net) (removed : List (List ℕ)) (listed : Listed) (flags : List (List Bool)) (changes : Changes) (rows : List (List Bool)) (left : levels new ≡ map (level_without removed) (levels net))
    (fewer : branches new ≡ branches_without removed (branches net)) (s : Stands listed (levels net) flags changes (levels new) rows) where
  abbrev pub sums_kept : List (List Sums)
  sums_kept = level_sums listed (levels net) flags

  abbrev pub first_of : ℕ → ℕ
  first_of place = length (sums_before sums_kept changes place)

  abbrev pub firsts : List ℕ
  firsts = map first_of (places (length (levels net)))

  abbrev pub buses_left : List NetworkBus
  buses_left = buses_over listed (levels new) rows

  abbrev pub spots : List (List (Option ℕ))
  spots = level_places (levels net) flags

  abbrev now : EndBus → Option ℕ
  now spot = number_at firsts changes spot

  found_now : (id : List ℕ) → find_level new id ≡ find_level net id
  unfolding find_level level_without
  found_now id = ap (position (λ (l : VoltageLevel). same_id id l.id)) left ∙ position_map (λ (l : VoltageLevel). same_id id l.id) (level_without removed) (levels net)

  spots_at : (k : ℕ) (l : VoltageLevel) → slice_get (levels net) k ≡ Some l → get_or spots k [] ≡ (node_buses_of (positioned l (row_at flags k))).places
  unfolding level_places
  spots_at k l at =
      get_or-map (λ (at : ℕ × VoltageLevel). (node_buses_of (positioned at.1 (row_at flags at.0))).places) (enumerate_from 0 (levels net)) k (k, l) [] (level_within (levels net) k l at)
      ∙ ap (λ (at : ℕ × VoltageLevel). (node_buses_of (positioned at.1 (row_at flags at.0))).places) (level_at (levels net) k l (k, l) at)

  level_now : (k : ℕ) (l : VoltageLevel) → slice_get (levels net) k ≡ Some l → slice_get (levels new) k ≡ Some (level_without removed l)
  level_now k l at = ap (λ z. slice_get z k) left ∙ map_got (level_without removed) (levels net) k l at

  within : (n : ℕ) (node : ℤ) → node ≡ pos n → nat_le n max_node ≡ true → node_within node ≡ Some n
  unfolding node_within
  within n node e h = ap node_within e ∙ ap (λ t. cond t (Some n) None) h

  -- one end
  module _ (id : List ℕ) (end : End) (e : Ended net id end) where
    abbrev spot : EndBus
    spot = spot_at e.place end.node (number_of_node (nodes e.level) (get_or spots e.place []) end.node)

    spot_is : spot_of net spots end ≡ Some spot
    unfolding spot_of
    spot_is = rw (e.found, e.at) refl

    abbrev then : VoltageLevel
    then = level_without removed e.level

    small : nat_le e.item.node max_node ≡ true
    small = node_small e.level e.index e.item (all_at level_passes (levels net) e.place e.level sound.each_level e.at) e.stands

    rise : is_rising (map (λ (p : Placed). p.node) e.level.placed) ≡ true
    rise = (on_level.passes_of e.level (all_at level_passes (levels net) e.place e.level sound.each_level e.at)).within.rise

    -- where it is left
    left_place : has_id removed id ≡ false → (o : Change) → change_at changes e.place ≡ o → place_in o spot ≡ number_of_node (nodes then) (node_buses_of (positioned then (row_at rows e.place))).places end.node
    unfolding place_among
    left_place h None q =
        let same : e.level ≡ then = same_level listed (levels net) flags changes (levels new) rows s e.place e.level then q e.at (level_now e.place e.level e.at) in
        ap (λ z. number_of_node (nodes e.level) z end.node) (spots_at e.place e.level e.at)
        ∙ ap (λ (z : VoltageLevel). number_of_node (nodes z) (node_buses_of (positioned z (row_at flags e.place))).places end.node) same
        ∙ ap (λ z. number_of_node (nodes then) (node_buses_of (positioned then z)).places end.node) (sym (same_row listed (levels net) flags changes (levels new) rows s e.place q))
    left_place h (Some c) q =
        let same : c.value.level ≡ then = own_level listed (levels net) flags changes (levels new) rows s e.place then c q (level_now e.place e.level e.at) in
        let there : is_some (placed_at c.value.level e.item.node) ≡ true = ap (λ (z : VoltageLevel). is_some (placed_at z e.item.node)) same ∙ stays_placed removed e.level e.index e.item e.stands (ap (has_id removed) e.own ∙ h) in
        ap (λ z. place_among c.value z end.node) (within e.item.node end.node e.node small)
        ∙ ap (λ t. cond t (number_of_node (nodes c.value.level) c.value.places end.node) None) there
        ∙ ap (λ z. number_of_node (nodes c.value.level) z end.node) (looked_at listed (levels net) flags changes (levels new) rows s e.place c q).places
        ∙ ap (λ (z : VoltageLevel). number_of_node (nodes z) (node_buses_of (positioned z c.value.opened)).places end.node) same
        ∙ ap (λ z. number_of_node (nodes then) (node_buses_of (positioned then z)).places end.node) (sym (own_row listed (levels net) flags changes (levels new) rows s e.place c q))

    inside : e.place < length (levels net)
    inside = slice_get_within (levels net) e.place e.level e.at

    pub left_end : has_id removed id ≡ false → now_of now (spot_of net spots end) ≡ bus_at new buses_left end
    unfolding bus_at number_at
    left_end h =
        ap (now_of now) spot_is
        ∙ ap (λ n. option_map (λ p. n + p) (place_in (change_at changes e.place) spot)) (at_place (length (levels net)) first_of firsts e.place refl inside)
        ∙ ap (option_map (λ p. first_of e.place + p)) (left_place h (change_at changes e.place) refl)
        ∙ sym (ap (λ o. option_and_then (λ level. position (λ b. eqb b.0 level && holds b.1.nodes end.node) buses_left) o) (found_now end.level ∙ e.found)
        ∙ bus_number listed (levels net) flags changes (levels new) rows s e.place then end.node inside (level_now e.place e.level e.at))

    -- where it goes
    gone_place : has_id removed id ≡ true → (o : Change) → change_at changes e.place ≡ o → place_in o spot ≡ None
    unfolding place_among
    gone_place h None q =
        let same : e.level ≡ then = same_level listed (levels net) flags changes (levels new) rows s e.place e.level then q e.at (level_now e.place e.level e.at) in
        absurd (false≢true (sym (ap (has_id removed) (sym e.own) ∙ same_has_none removed e.level e.index e.item same e.stands) ∙ h))
    gone_place h (Some c) q =
        let same : c.value.level ≡ then = own_level listed (levels net) flags changes (levels new) rows s e.place then c q (level_now e.place e.level e.at) in
        let there : is_some (placed_at c.value.level e.item.node) ≡ false = ap (λ (z : VoltageLevel). is_some (placed_at z e.item.node)) same ∙ goes_placed removed e.level e.index e.item rise e.stands (ap (has_id removed) e.own ∙ h) in
        ap (λ z. place_among c.value z end.node) (within e.item.node end.node e.node small) ∙ ap (λ t. cond t (number_of_node (nodes c.value.level) c.value.places end.node) None) there

    pub gone_end : has_id removed id ≡ true → now_of now (spot_of net spots end) ≡ None
    unfolding number_at
    gone_end h = ap (now_of now) spot_is ∙ ap (option_map (λ p. get_or firsts e.place 0 + p)) (gone_place h (change_at changes e.place) refl)

  branch_left : (b : NamedBranch) → AllStand net (sides_from b.id 1 (branch_ends b.shape)) → flat_map (link_pairs firsts changes) (branch_links net spots b.shape) ≡ cond (has_id removed b.id) [] (branch_pairs new buses_left b)
  unfolding branch_links branch_pairs link_pairs
  branch_left b stand =
      among_links now (map (spot_of net spots) (branch_ends b.shape)) ∙ ap pairs_among (map_twice (now_of now) (spot_of net spots) (branch_ends b.shape)) ∙ by (has_id removed b.id) refl
    where
      at_end : End → Option ℕ
      at_end end = now_of now (spot_of net spots end)

      by : (t : Bool) → has_id removed b.id ≡ t → pairs_among (map at_end (branch_ends b.shape)) ≡ cond t [] (pairs_among (map (bus_at new buses_left) (branch_ends b.shape)))
      by true h = ap pairs_among (ends_alike net b.id at_end no_end 1 (branch_ends b.shape) sound stand (λ end e. gone_end b.id end e h)) ∙ no_pairs (branch_ends b.shape)
      by false h = ap pairs_among (ends_alike net b.id at_end (bus_at new buses_left) 1 (branch_ends b.shape) sound stand (λ end e. left_end b.id end e h))

  pub pairs_left : flat_map (link_pairs firsts changes) (network_links net spots) ≡ bus_pairs new buses_left
  unfolding network_links bus_pairs
  pairs_left =
      flat_twice (link_pairs firsts changes) (λ (b : NamedBranch). branch_links net spots b.shape) (branches net)
      ∙ branches_alike net (λ b. flat_map (link_pairs firsts changes) (branch_links net spots b.shape)) (λ b. cond (has_id removed b.id) [] (branch_pairs new buses_left b)) (branches net) (all_stand net sound) branch_left
      ∙ sym (ap (flat_map (branch_pairs new buses_left)) fewer ∙ left_branches (branch_pairs new buses_left) removed (branches net))
