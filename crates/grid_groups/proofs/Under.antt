-- What one label per node tells of a level as it stands under a rule.
use Rattle.std.proofs.Common.{◌≡◌, refl, sym, ap, ◌∙◌, subst, ℕ, zero, suc, ◌<◌, ◌≤◌, Bool, not, ◌&&◌, List, [], ◌∷◌, length, get_or, arith}
use Rattle.std.specs.Prelude.{eqb, map, filter}
use Rattle.std.specs.List.{list_any, zip}
use Rattle.grid_graph.specs.Joined.{least_nodes, group_of}
use Rattle.grid_graph.specs.Graph.{labels_of}
use Rattle.grid_graph.proofs.Reach.{In}
use Rattle.grid_graph.proofs.RenamedNodes.{EndsIn}
use Rattle.grid_level.specs.declared.Placed.{Placed}
use Rattle.grid_level.specs.VoltageLevel.{VoltageLevel}
use Rattle.grid_level.specs.Passing.{Rule, bus, breaker, nodes, passing, positioned, stood}
use Rattle.grid_level.specs.Kept.{KeepsLimits}
use Rattle.grid_groups.specs.declared.grouping.Group.{Group}
use Rattle.grid_groups.specs.Groups.{group_under, leaders, leader_of}
use Rattle.grid_groups.specs.Labels.{graph_among, graph_under, passing_where, labels_where, places_with, items_at, label_of, labels_placed, leading, group_at, groups_by}
use Rattle.grid_groups.proofs.Lists.{items_passing, map_items, both_made, all_made}
use Rattle.grid_groups.proofs.TerminalNodes.{placed_node}
use Rattle.grid_groups.proofs.PassingEdges.{nodes-positioned, nodes-stood, passing_bus, passing_breaker, passing_ends}
use Rattle.grid_groups.proofs.Bridge.{labels_long, label_below, label_rooted, group_items, placed_label, leading_items, leading_is, leader_is}

-- a level as it stands: its nodes and terminals are the same, and what passes joins its nodes
pub record Stands (rule : Rule) (level stands : VoltageLevel) : Type 0 where
  pub same_nodes : nodes stands ≡ nodes level
  pub same_placed : stands.placed ≡ level.placed
  pub ends_in : EndsIn (nodes level) (passing rule stands)

-- where the switches pass that the flags name
pub labels-where : (rule : Rule) (level stands : VoltageLevel) (passes : List Bool) (labels : List ℕ) → nodes stands ≡ nodes level → passing rule stands ≡ passing_where level passes → labels ≡ labels_where level passes
    → labels ≡ labels_of (graph_under rule stands)
unfolding labels_where graph_under
labels-where rule level stands passes labels same pairs e =
    e ∙ ap (λ z. labels_of (graph_among (nodes level) z)) (sym pairs) ∙ ap (λ z. labels_of (graph_among z (passing rule stands))) (sym same)

node_as : {X : Type 0} (label : ℕ → ℕ) (node_of : X → ℕ) (xs : List X) (k : ℕ) (d : X) → k < length xs → get_or (map label (map node_of xs)) k 0 ≡ label (node_of (get_or xs k d))
node_as label node_of [] k d lt = absurd (omega arith)
node_as label node_of (x ∷ xs) zero d lt = refl
node_as label node_of (x ∷ xs) (suc k) d lt = node_as label node_of xs k d (omega arith)

map_map : (f : ℕ → ℕ) (g : Placed → ℕ) (ps : List Placed) → map (λ p. f (g p)) ps ≡ map f (map g ps)
map_map f g [] = refl
map_map f g (p ∷ ps) = ap (λ z. f (g p) ∷ z) (map_map f g ps)

long_map : {X : Type 0} (f : X → ℕ) (xs : List X) → length (map f xs) ≡ length xs
long_map f [] = refl
long_map f (x ∷ xs) = ap suc (long_map f xs)

get_map : {X : Type 0} (f : X → ℕ) (xs : List X) (k : ℕ) (d : X) → k < length xs → get_or (map f xs) k 0 ≡ f (get_or xs k d)
get_map f [] k d lt = absurd (omega arith)
get_map f (x ∷ xs) zero d lt = refl
get_map f (x ∷ xs) (suc k) d lt = get_map f xs k d (omega arith)

nodes_In : (ns : List ℕ) (ps : List Placed) → ((i : ℕ) (d : Placed) → i < length ps → In (get_or ps i d).node ns) → (k : ℕ) → k < length (map (λ p. p.node) ps) → In (get_or (map (λ p. p.node) ps) k 0) ns
nodes_In ns [] h k lt = absurd (omega arith)
nodes_In ns (p ∷ ps) h zero lt = h 0 p (omega arith)
nodes_In ns (p ∷ ps) h (suc k) lt = nodes_In ns ps (λ i d less. h (suc i) d (omega arith)) k (omega arith)

module _ (rule : Rule) (level stands : VoltageLevel) (labels : List ℕ) (keeps : KeepsLimits level) (s : Stands rule level stands) (labelled : labels ≡ labels_of (graph_under rule stands)) where
  pub among : labels ≡ labels_of (graph_among (nodes level) (passing rule stands))
  unfolding graph_under
  among = labelled ∙ ap (λ z. labels_of (graph_among z (passing rule stands))) s.same_nodes

  pub long : length labels ≡ length (nodes level)
  long = labels_long (nodes level) (passing rule stands) keeps.nodes_rise s.ends_in labels among

  pub below : (k : ℕ) → k < length labels → get_or labels k 0 < length labels
  below k lt =
      let r = label_below (nodes level) (passing rule stands) keeps.nodes_rise s.ends_in labels among k (omega (arith, lt, long)) in
      omega (arith, r, long)

  pub rooted : (k : ℕ) → k < length labels → (get_or labels k 0 ≤ k) × (get_or labels (get_or labels k 0) 0 ≡ get_or labels k 0)
  rooted k lt = label_rooted (nodes level) (passing rule stands) keeps.nodes_rise s.ends_in labels among k (omega (arith, lt, long))

  -- the least node joined to a node
  pub leader_as : (n : ℕ) → In n (nodes level) → get_or (nodes level) (label_of (nodes level) labels n) 0 ≡ leader_of rule stands n
  unfolding leader_of group_under
  leader_as n i =
      leader_is (nodes level) (passing rule stands) keeps.nodes_rise s.ends_in labels among n i
      ∙ ap (λ z. get_or (group_of z (passing rule stands) n) 0 0) (sym s.same_nodes)

  module _ (l : ℕ) (lt : l < length (nodes level)) (leads : get_or labels l 0 ≡ l) where
    pub nodes_as : items_at (nodes level) (places_with labels l) ≡ group_under rule stands (get_or (nodes level) l 0)
    unfolding group_under
    nodes_as =
        group_items (nodes level) (passing rule stands) keeps.nodes_rise s.ends_in labels among l lt leads
        ∙ ap (λ z. group_of z (passing rule stands) (get_or (nodes level) l 0)) (sym s.same_nodes)

    -- of a list that goes along with the terminals, the items at the group's nodes
    pub fed_as : {X : Type 0} (node_of : X → ℕ) (xs : List X) → map node_of xs ≡ map (λ p. p.node) level.placed
        → items_at xs (places_with (labels_placed level labels) l) ≡ filter (λ x. list_any (eqb (node_of x)) (group_under rule stands (get_or (nodes level) l 0))) xs
    unfolding places_with labels_placed group_under
    fed_as {X} node_of xs along =
        let ns = nodes level in
        let label : ℕ → ℕ = label_of ns labels in
        let keys : List ℕ = map (λ p. label p.node) level.placed in
        let keyed : keys ≡ map label (map node_of xs) = map_map label (λ p. p.node) level.placed ∙ ap (map label) (sym along) in
        let as_long : length keys ≡ length xs = ap length keyed ∙ long_map label (map node_of xs) ∙ long_map node_of xs in
        let group = group_of ns (passing rule stands) (get_or ns l 0) in
        let at_node : (k : ℕ) (d : X) → k < length xs → In (node_of (get_or xs k d)) ns = λ k d less.
        let P : ℕ → Type 0 = λ z. In z ns in
        let Q : List ℕ → Type 0 = λ z. (j : ℕ) → j < length z → In (get_or z j 0) ns in
        subst P (get_map node_of xs k d less) (subst Q (sym along) (nodes_In ns level.placed (placed_node level keeps)) k (omega (arith, less, long_map node_of xs))) in
        items_passing xs (λ x. list_any (eqb (node_of x)) group) (λ k. eqb (get_or keys k 0) l) (length keys) as_long
        (λ k d less.
        ap (λ z. eqb (get_or z k 0) l) keyed ∙ ap (λ z. eqb z l) (node_as label node_of xs k d less)
        ∙ placed_label ns (passing rule stands) keeps.nodes_rise s.ends_in labels among l (node_of (get_or xs k d)) lt leads (at_node k d less))
        ∙ ap (λ z. filter (λ x. list_any (eqb (node_of x)) (group_of z (passing rule stands) (get_or ns l 0))) xs) (sym s.same_nodes)

  leading_as : map (λ k. get_or (nodes level) k 0) (leading labels) ≡ leaders rule stands
  unfolding leaders
  leading_as =
      map_items (nodes level) (leading labels) (λ i d less. (leading_is (nodes level) (passing rule stands) keeps.nodes_rise s.ends_in labels among i d less).0)
      ∙ leading_items (nodes level) (passing rule stands) keeps.nodes_rise s.ends_in labels among
      ∙ ap (λ z. least_nodes z (passing rule stands)) (sym s.same_nodes)

  -- what is made of the groups by labels is what is made of the least nodes
  pub made_as : {Y : Type 0} (f : Group → Y) (g : ℕ → Y) → ((l : ℕ) → l < length (nodes level) → get_or labels l 0 ≡ l → f (group_at level labels l) ≡ g (get_or (nodes level) l 0))
      → map f (groups_by level labels) ≡ map g (leaders rule stands)
  unfolding groups_by
  made_as f g each =
      all_made f g (group_at level labels) (λ k. get_or (nodes level) k 0) (leading labels)
      (λ i d less. let at = leading_is (nodes level) (passing rule stands) keeps.nodes_rise s.ends_in labels among i d less in each (get_or (leading labels) i d) at.0 at.1)
      ∙ ap (map g) leading_as

  pub passed_as : {Y : Type 0} (f : Group → Y) (g : ℕ → Y) (u : Group → Bool) (v : ℕ → Bool)
      → ((l : ℕ) → l < length (nodes level) → get_or labels l 0 ≡ l → (u (group_at level labels l) ≡ v (get_or (nodes level) l 0)) × (f (group_at level labels l) ≡ g (get_or (nodes level) l 0)))
      → map f (filter u (groups_by level labels)) ≡ map g (filter v (leaders rule stands))
  unfolding groups_by
  passed_as f g u v each =
      both_made f g u v (group_at level labels) (λ k. get_or (nodes level) k 0) (leading labels)
      (λ i d less. let at = leading_is (nodes level) (passing rule stands) keeps.nodes_rise s.ends_in labels among i d less in each (get_or (leading labels) i d) at.0 at.1)
      ∙ ap (λ z. map g (filter v z)) leading_as

-- ---- under present flags

pub bus_stands : (level : VoltageLevel) (opened : List Bool) → KeepsLimits level → length opened ≡ length level.switches → Stands bus level (positioned level opened)
unfolding positioned
bus_stands level opened keeps e =
    let P : List (ℕ × ℕ) → Type 0 = λ z. EndsIn (nodes level) z in
    record {
      same_nodes = nodes-positioned level opened;
      same_placed = refl;
      ends_in = subst P (sym (passing_bus level opened e)) (passing_ends level (map not opened) keeps.ends_are_nodes);
    }

pub breaker_stands : (level : VoltageLevel) (opened retained : List Bool) → KeepsLimits level → length opened ≡ length level.switches → length retained ≡ length level.switches → Stands breaker level (stood level opened retained)
unfolding stood
breaker_stands level opened retained keeps e f =
    let P : List (ℕ × ℕ) → Type 0 = λ z. EndsIn (nodes level) z in
    record {
      same_nodes = nodes-stood level opened retained;
      same_placed = refl;
      ends_in = subst P (sym (passing_breaker level opened retained e f)) (passing_ends level (map (λ pair. not pair.0 && not pair.1) (zip opened retained)) keeps.ends_are_nodes);
    }

pub bus_labels : (level : VoltageLevel) (opened : List Bool) (labels : List ℕ) → length opened ≡ length level.switches → labels ≡ labels_where level (map not opened) → labels ≡ labels_of (graph_under bus (positioned level opened))
bus_labels level opened labels e = labels-where bus level (positioned level opened) (map not opened) labels (nodes-positioned level opened) (passing_bus level opened e)

pub breaker_labels : (level : VoltageLevel) (opened retained : List Bool) (labels : List ℕ) → length opened ≡ length level.switches → length retained ≡ length level.switches
    → labels ≡ labels_where level (map (λ pair. not pair.0 && not pair.1) (zip opened retained)) → labels ≡ labels_of (graph_under breaker (stood level opened retained))
breaker_labels level opened retained labels e f =
    labels-where breaker level (stood level opened retained) (map (λ pair. not pair.0 && not pair.1) (zip opened retained)) labels (nodes-stood level opened retained) (passing_breaker level opened retained e f)
