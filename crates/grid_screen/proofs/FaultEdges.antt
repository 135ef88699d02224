-- The edges of a level over which a fault passes, by their flags; and which nodes have one label then.
use Rattle.std.proofs.Common.{◌≡◌, refl, sym, ap, ◌∙◌, subst, ℕ, suc, ◌<◌, Bool, true, false, cond, List, [], ◌∷◌, ◌++◌, map, length, get_or, inl, inr, arith}
use Rattle.std.specs.Prelude.{filter, eqb}
use Rattle.std.specs.List.{zip}
use Rattle.std.proofs.lemmas.Bool.{eqb-true, eq-eqb}
use Rattle.grid_graph.specs.Joined.{within, joined}
use Rattle.grid_graph.specs.Graph.{labels_of}
use Rattle.grid_graph.proofs.Reach.{In, some_member, within_step, within_here, within_le}
use Rattle.grid_graph.proofs.RenamedNodes.{EndsIn}
use Rattle.grid_level.specs.declared.Switch.{Switch}
use Rattle.grid_level.specs.VoltageLevel.{VoltageLevel}
use Rattle.grid_level.specs.Kept.{KeepsLimits, among}
use Rattle.grid_level.specs.Passing.{switch_edge, internal_edge, ends, nodes, named, switch_ends, with_opened, positioned}
use Rattle.grid_level.specs.Sound.{level_passes}
use Rattle.grid_level.specs.Uses.{tally}
use Rattle.grid_level.proofs.LevelEdits as on_level
use Rattle.grid_level.proofs.LevelReaders.{keeps_limits}
use Rattle.grid_groups.specs.Labels.{graph_among, passing_where, labels_where, label_of, index_in}
use Rattle.grid_groups.proofs.Bridge as bridge
use Rattle.grid_groups.proofs.Indices.{among_In, In_among, index_below, at_index}
use Rattle.grid_groups.proofs.PassingEdges.{marked, passing_ends}
use Rattle.grid_screen.specs.Zones.{passes_fault, passing_fault}
use Rattle.grid_screen.specs.Grounds.{fault_flags}
use Rattle.grid_outages.proofs.Members.{Among}
use Rattle.grid_screen.proofs.PairClosures.{IsClosed, within_alike, next_first}

-- ---- what passes

switches_marked : (stuck : List (List ℕ)) (ss : List Switch) (opened : List Bool) → length opened ≡ length ss
    → map (λ s. ends (switch_edge s)) (filter (passes_fault stuck) (with_opened ss opened)) ≡ marked ss (fault_flags stuck ss opened)
unfolding with_opened fault_flags ends
switches_marked stuck [] [] e = refl
switches_marked stuck [] (o ∷ opened) e = refl
switches_marked stuck (s ∷ ss) [] e = absurd (omega (arith, e))
switches_marked stuck (s ∷ ss) (o ∷ opened) e = by (passes_fault stuck (record s { opened = o })) (switches_marked stuck ss opened (omega (arith, e)))
  where
    rest : List Switch
    rest = filter (passes_fault stuck) (with_opened ss opened)

    by : (t : Bool) → map (λ x. ends (switch_edge x)) rest ≡ marked ss (fault_flags stuck ss opened)
        → map (λ x. ends (switch_edge x)) (cond t (record s { opened = o } ∷ rest) rest)
        ≡ map (λ (pair : Switch × Bool). ends (switch_edge pair.0)) (cond t ((s, t) ∷ filter (λ (pair : Switch × Bool). pair.1) (zip ss (fault_flags stuck ss opened))) (filter (λ (pair : Switch × Bool). pair.1) (zip ss (fault_flags stuck ss opened))))
    by true again = ap (λ z. (s.node1, s.node2) ∷ z) again
    by false again = again

pub flags_long : (stuck : List (List ℕ)) (ss : List Switch) (opened : List Bool) → length opened ≡ length ss → length (fault_flags stuck ss opened) ≡ length ss
unfolding fault_flags
flags_long stuck [] opened e = refl
flags_long stuck (s ∷ ss) [] e = absurd (omega (arith, e))
flags_long stuck (s ∷ ss) (o ∷ opened) e = ap suc (flags_long stuck ss opened (omega (arith, e)))

pub fault_passing : (stuck : List (List ℕ)) (level : VoltageLevel) (opened : List Bool) → length opened ≡ length level.switches
    → passing_fault stuck (positioned level opened) ≡ passing_where level (fault_flags stuck level.switches opened)
unfolding passing_fault passing_where positioned
fault_passing stuck level opened e = ap (λ z. z ++ map (λ i. ends (internal_edge i)) level.internals) (switches_marked stuck level.switches opened e)

-- ---- nodes

ends_among : (ns : List ℕ) (ps : List (ℕ × ℕ)) → EndsIn ns ps → (pair : ℕ × ℕ) → Among pair ps → In pair.0 ns × In pair.1 ns
ends_among ns [] h pair i = absurd i
ends_among ns (p ∷ ps) h pair (inl e) = (subst (λ (z : ℕ × ℕ). In z.0 ns) (sym e) h.0, subst (λ (z : ℕ × ℕ). In z.1 ns) (sym e) h.1)
ends_among ns (p ∷ ps) h pair (inr i) = ends_among ns ps h.2 pair i

-- a level that passes keeps its limits
pub keeps_of : (level : VoltageLevel) → level_passes level ≡ true → KeepsLimits level
keeps_of level h = keeps_limits level (tally (named level)) {pairs = map switch_ends level.switches} (record { counted = refl; listed = refl; within = (on_level.passes_of level h).within })

-- ---- one label

-- labels of a level's nodes that these pairs join
module _ (level : VoltageLevel) (flags : List Bool) (labels : List ℕ) (keeps : KeepsLimits level) (labelled : labels ≡ labels_where level flags) where
  pairs : List (ℕ × ℕ)
  pairs = passing_where level flags

  ends_in : EndsIn (nodes level) (passing_where level flags)
  ends_in = passing_ends level flags keeps.ends_are_nodes

  by_index : labels ≡ labels_of (graph_among (nodes level) (passing_where level flags))
  unfolding labels_where
  by_index = labelled

  pub long : length labels ≡ length (nodes level)
  long = bridge.labels_long (nodes level) (passing_where level flags) keeps.nodes_rise ends_in labels by_index

  pub each_below : (k : ℕ) → k < length labels → get_or labels k 0 < length (nodes level)
  each_below k lt = bridge.label_below (nodes level) (passing_where level flags) keeps.nodes_rise ends_in labels by_index k (omega (arith, lt, long))

  pub below : (node : ℕ) → among (nodes level) node ≡ true → label_of (nodes level) labels node < length labels
  unfolding label_of
  below node i =
      let at = index_below node (nodes level) (among_In node (nodes level) i) in
      let lt = bridge.label_below (nodes level) (passing_where level flags) keeps.nodes_rise ends_in labels by_index (index_in (nodes level) node) at in
      omega (arith, lt, long)

  same : (a b : ℕ) → among (nodes level) a ≡ true → among (nodes level) b ≡ true → eqb (label_of (nodes level) labels b) (label_of (nodes level) labels a) ≡ joined (nodes level) (passing_where level flags) a b
  unfolding label_of
  same a b i j =
      let ns = nodes level in
      let u = among_In a ns i in
      let v = among_In b ns j in
      bridge.same_label ns (passing_where level flags) keeps.nodes_rise ends_in labels by_index (index_in ns a) (index_in ns b) (index_below a ns u) (index_below b ns v)
      ∙ ap (λ z. joined ns (passing_where level flags) z (get_or ns (index_in ns b) 0)) (at_index a ns u)
      ∙ ap (joined ns (passing_where level flags) a) (at_index b ns v)

  -- nodes with one label are in the same sets that have both ends of each pair or neither
  pub same_set : (set : ℕ → Bool) → IsClosed set (passing_where level flags) → (a b : ℕ) → among (nodes level) a ≡ true → among (nodes level) b ≡ true → label_of (nodes level) labels b ≡ label_of (nodes level) labels a → set a ≡ set b
  unfolding joined
  same_set set closed a b i j e =
      within_alike set (passing_where level flags) (length (nodes level)) a b closed (sym (same a b i j) ∙ eq-eqb (label_of (nodes level) labels b) (label_of (nodes level) labels a) e)

  -- the ends of a pair are nodes, and have one label
  pub pair_nodes : (pair : ℕ × ℕ) → Among pair (passing_where level flags) → (among (nodes level) pair.0 ≡ true) × (among (nodes level) pair.1 ≡ true)
  pair_nodes pair i = let both = ends_among (nodes level) (passing_where level flags) ends_in pair i in (In_among pair.0 (nodes level) both.0, In_among pair.1 (nodes level) both.1)

  pub pair_label : (pair : ℕ × ℕ) → Among pair (passing_where level flags) → label_of (nodes level) labels pair.0 ≡ label_of (nodes level) labels pair.1
  unfolding joined
  pair_label pair i =
      let ns = nodes level in
      let both = pair_nodes pair i in
      let some = some_member pair.0 ns (among_In pair.0 ns both.0) in
      let one : within (passing_where level flags) 1 pair.0 pair.1 ≡ true = within_step (passing_where level flags) 0 pair.0 pair.1 pair.1 (next_first pair (passing_where level flags) i) (within_here (passing_where level flags) 0 pair.1) in
      sym (eqb-true (label_of ns labels pair.1) (label_of ns labels pair.0) (same pair.0 pair.1 both.0 both.1 ∙ within_le (passing_where level flags) 1 (length ns) pair.0 pair.1 (omega (arith, some)) one))
