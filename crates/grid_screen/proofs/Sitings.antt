-- What stands at the sites of ids.
use Rattle.std.proofs.Common.{◌≡◌, refl, sym, ap, ◌∙◌, ℕ, suc, ◌+◌, Bool, true, false, cond, List, [], ◌∷◌, ◌++◌, arith, Some, None, Option}
use Rattle.std.specs.Prelude.{slice_get, find, map, ◌==◌, ◌&&◌}
use Rattle.std.specs.Option.{option_map, option_to_list}
use Rattle.std.specs.List.{filter_map}
use Rattle.std.proofs.lemmas.Bool.{and_parts, eqb-true}
use Rattle.grid_ids.specs.Name.{same_id}
use Rattle.grid_ids.proofs.Alike.{same_is}
use Rattle.grid_lemmas.proofs.Lists.{all_at, get_front, map_got}
use Rattle.grid_level.specs.declared.Placed.{Placed}
use Rattle.grid_level.specs.declared.Switch.{Switch}
use Rattle.grid_level.specs.VoltageLevel.{VoltageLevel}
use Rattle.grid_level.specs.Kept.{among, ends_among}
use Rattle.grid_level.specs.Passing.{switch_edge, internal_edge, edges, ends, nodes}
use Rattle.grid_level.specs.Sound.{level_passes}
use Rattle.grid_structure.specs.declared.Site.{Site}
use Rattle.grid_structure.specs.declared.SwitchAt.{SwitchAt}
use Rattle.grid_structure.specs.Network.{Network}
use Rattle.grid_structure.specs.Sites.{levels, site, find_switch, first_found, terminal_spot, switch_spot}
use Rattle.grid_structure.specs.Soundness.{IsSound}
use Rattle.grid_screen.specs.Zones.{site_at, sites_of_switch, sites_of_equipment}
use Rattle.grid_screen.specs.Walks.{IsNode, IsSwitchOf, switch_place, site_of_side}
use Rattle.grid_outages.proofs.OutageChanges.{switch_in}
use Rattle.grid_screen.proofs.FaultEdges.{keeps_of}
use Rattle.grid_screen.proofs.WalkSteps.{got_below}

-- ---- the first that is found

pub found_there : {A B : Type 0} (test : A → Option B) (c : ℕ) (xs : List A) (k : ℕ) (y : B) → first_found c test xs ≡ Some (k, y) → (j : ℕ) × (x : A) × (k ≡ c + j) × (slice_get xs j ≡ Some x) × (test x ≡ Some y)
found_there test c [] k y e = cc
found_there {A} {B} test c (x ∷ xs) k y e = by (test x) refl e (found_there test (c + 1) xs k y)
  where
    by : (o : Option B) → test x ≡ o → ◌≡◌ {A = Option (ℕ × B)} (elim o [ Some z ↦ Some (c, z) | None ↦ first_found (c + 1) test xs ]) (Some (k, y))
        → (first_found (c + 1) test xs ≡ Some (k, y) → (j : ℕ) × (x' : A) × (k ≡ (c + 1) + j) × (slice_get xs j ≡ Some x') × (test x' ≡ Some y))
        → (j : ℕ) × (x' : A) × (k ≡ c + j) × (slice_get (x ∷ xs) j ≡ Some x') × (test x' ≡ Some y)
    by (Some z) is e again =
        let pairs : ◌≡◌ {A = ℕ × B} (c, z) (k, y) = cc in
        let number : c ≡ k = ap (λ (w : ℕ × B). w.0) pairs in
        (0, x, omega (arith, number), refl, is ∙ ap (λ (w : ℕ × B). Some w.1) pairs)
    by None is e again = let r = again e in (suc r.0, r.1, omega (arith, r.2), r.3, r.4)

pub find_there : {X : Type 0} (p : X → Bool) (xs : List X) (x : X) → find p xs ≡ Some x → (k : ℕ) × (slice_get xs k ≡ Some x) × (p x ≡ true)
find_there p [] x e = cc
find_there {X} p (y ∷ ys) x e = by (p y) refl e (find_there p ys x)
  where
    by : (t : Bool) → p y ≡ t → cond t (Some y) (find p ys) ≡ Some x → (find p ys ≡ Some x → (k : ℕ) × (slice_get ys k ≡ Some x) × (p x ≡ true)) → (k : ℕ) × (slice_get (y ∷ ys) k ≡ Some x) × (p x ≡ true)
    by true is e again = let same : y ≡ x = cc in (0, e, ap p (sym same) ∙ is)
    by false is e again = let r = again e in (suc r.0, r.1, r.2)

-- ---- the terminal at a site

pub record Standing (net : Network) (id : List ℕ) (side k n : ℕ) : Type 0 where
  pub level : VoltageLevel
  pub at : slice_get (levels net) k ≡ Some level
  pub index : ℕ
  pub item : Placed
  pub stands : slice_get level.placed index ≡ Some item
  pub own : item.terminal.equipment ≡ id
  pub of_side : item.terminal.side ≡ side
  pub node : item.node ≡ n

some_node : (o : Option Placed) (n : ℕ) → option_map (λ (p : Placed). p.node) o ≡ Some n → (p : Placed) × (o ≡ Some p) × (p.node ≡ n)
some_node (Some p) n e = (p, refl, cc)
some_node None n e = cc

pub standing_at : (net : Network) (id : List ℕ) (side k n : ℕ) → site net id side ≡ Some (k, n) → Standing net id side k n
unfolding site
standing_at net id side k n e =
    let first = found_there (λ (l : VoltageLevel). option_map (λ (p : Placed). p.node) (find (λ (p : Placed). same_id id p.terminal.equipment && (p.terminal.side == side)) l.placed)) 0 (levels net) k n e in
    let p = some_node (find (λ (p : Placed). same_id id p.terminal.equipment && (p.terminal.side == side)) first.1.placed) n first.4 in
    let found = find_there (λ (p : Placed). same_id id p.terminal.equipment && (p.terminal.side == side)) first.1.placed p.0 p.1 in
    let parts = and_parts (same_id id p.0.terminal.equipment) (p.0.terminal.side == side) found.2 in
    let place : k ≡ first.0 = omega (arith, first.2) in
    record {
      level = first.1;
      at = ap (slice_get (levels net)) place ∙ first.3;
      index = found.0;
      item = p.0;
      stands = found.1;
      own = sym (same_is id p.0.terminal.equipment parts.0);
      of_side = eqb-true p.0.terminal.side side parts.1;
      node = p.2;
    }

-- a site is a node of its level
pub site_is_node : (net : Network) (id : List ℕ) (side k n : ℕ) → IsSound net → site net id side ≡ Some (k, n) → IsNode net (site_at k n)
site_is_node net id side k n sound e =
    let s = standing_at net id side k n e in
    let keeps = keeps_of s.level (all_at level_passes (levels net) k s.level sound.each_level s.at) in
    record {
      level = s.level;
      at = s.at;
      node = ap (among (nodes s.level)) (sym s.node) ∙ all_at (λ (p : Placed). among (nodes s.level) p.node) s.level.placed s.index s.item keeps.placed_are_nodes s.stands;
    }

-- ---- by sides

pub three_sides : (net : Network) (id : List ℕ) → sites_of_equipment net id ≡ (site_of_side net id 1 ++ site_of_side net id 2) ++ site_of_side net id 3
unfolding sites_of_equipment site_of_side
three_sides net id = by (option_map terminal_spot (site net id 1)) (option_map terminal_spot (site net id 2)) (option_map terminal_spot (site net id 3))
  where
    by : (a b c : Option Site) → filter_map (λ (o : Option Site). o) (a ∷ b ∷ c ∷ []) ≡ (option_to_list a ++ option_to_list b) ++ option_to_list c
    by (Some a) (Some b) (Some c) = refl
    by (Some a) (Some b) None = refl
    by (Some a) None (Some c) = refl
    by (Some a) None None = refl
    by None (Some b) (Some c) = refl
    by None (Some b) None = refl
    by None None (Some c) = refl
    by None None None = refl

-- ---- the sites of a switch

module _ (net : Network) (at : SwitchAt) (level : VoltageLevel) (s : Switch) (sound : IsSound net) (there : slice_get (levels net) at.level ≡ Some level) (is : slice_get level.switches at.place ≡ Some s) where
  both_nodes : (among (nodes level) s.node1 && among (nodes level) s.node2) ≡ true
  unfolding edges ends
  both_nodes =
      let keeps = keeps_of level (all_at level_passes (levels net) at.level level sound.each_level there) in
      let edge = get_front (map switch_edge level.switches) (map internal_edge level.internals) at.place (got_below (map switch_edge level.switches) at.place (switch_edge s) (map_got switch_edge level.switches at.place s is)) ∙ map_got switch_edge level.switches at.place s is in
      all_at (ends_among (nodes level)) (map switch_edge level.switches ++ map internal_edge level.internals) at.place (switch_edge s) keeps.ends_are_nodes edge

  pub first_is_node : IsNode net (site_at at.level s.node1)
  first_is_node = record { level = level; at = there; node = (and_parts (among (nodes level) s.node1) (among (nodes level) s.node2) both_nodes).0 }

  pub second_is_node : IsNode net (site_at at.level s.node2)
  second_is_node = record { level = level; at = there; node = (and_parts (among (nodes level) s.node1) (among (nodes level) s.node2) both_nodes).1 }

  pub two_sites : sites_of_switch net (switch_place at) ≡ (site_at at.level s.node1 ∷ []) ++ (site_at at.level s.node2 ∷ [])
  unfolding sites_of_switch
  two_sites = rw (there, is) refl

pub switch_there : (net : Network) (id : List ℕ) (k p : ℕ) → find_switch net id ≡ Some (k, p) → IsSwitchOf net (record { level = k; place = p })
switch_there net id k p e = let s = switch_in net id k p e in record { level = s.level; there = s.at; inside = s.inside }

pub some_switch : (o : Option (ℕ × ℕ)) (at : SwitchAt) → Some at ≡ option_map switch_spot o → o ≡ Some (at.level, at.place)
some_switch (Some spot) at e = let is : at ≡ switch_spot spot = cc in ap (λ (a : SwitchAt). Some (a.level, a.place)) (sym is)
some_switch None at e = cc

pub no_switch : (o : Option (ℕ × ℕ)) → None ≡ option_map switch_spot o → o ≡ None
no_switch (Some spot) e = cc
no_switch None e = refl
