-- What a change touches covers what it costs.
use Rattle.std.proofs.Common.{◌≡◌, refl, sym, ap, ◌∙◌, subst, ℕ, suc, ◌+◌, ◌<◌, ◌≤◌, Bool, true, false, cond, ◌||◌, List, [], ◌∷◌, length, get_or, arith}
use Rattle.std.specs.Prelude.{count_by, filter}
use Rattle.std.specs.List.{range_with_len}
use Rattle.std.proofs.lemmas.List.Sums.{length-filter}
use Rattle.grid_lemmas.proofs.Bools.{or_right}
use Rattle.grid_graph.specs.Components.{places}
use Rattle.grid_graph.specs.Graph.{Graph, joined_in}
use Rattle.grid_graph.specs.Joined.{joined}
use Rattle.grid_graph.proofs.Counts.{count_le}
use Rattle.grid_graph.proofs.Reach.{In}
use Rattle.grid_graph.proofs.RenamedNodes.{EndsIn}
use Rattle.grid_level.specs.declared.Switch.{Switch}
use Rattle.grid_level.specs.VoltageLevel.{VoltageLevel}
use Rattle.grid_level.specs.Passing.{Rule, bus, nodes, passing, joined_under, stood}
use Rattle.grid_level.specs.Kept.{KeepsLimits}
use Rattle.grid_groups.specs.Labels.{index_in, graph_among, graph_under}
use Rattle.grid_groups.proofs.Bridge.{joined_by_index}
use Rattle.grid_groups.proofs.Indices.{index_below, at_index}
use Rattle.grid_groups.proofs.PassingEdges.{nodes-stood, passing_bus-stood}
use Rattle.grid_groups.proofs.Under.{Stands, bus_stands}
use Rattle.grid_queue.specs.Walks.{count_joined_either}
use Rattle.grid_bench.specs.Costs.{count_touched, is_at_end, touched_by}

left_or : (a b : Bool) → a ≡ true → (a || b) ≡ true
left_or true b h = refl
left_or false b h = absurd (cc)

pub before_touched : (before after : Graph) (a b : ℕ) → count_joined_either before a b ≤ count_touched before after a b
unfolding count_joined_either count_touched
before_touched before after a b =
    count_le before.nodes (λ x. joined_in before a x || joined_in before b x)
    (λ x. (joined_in before a x || joined_in before b x) || (joined_in after a x || joined_in after b x))
    (λ x lt h. left_or (joined_in before a x || joined_in before b x) (joined_in after a x || joined_in after b x) h)

pub after_touched : (before after : Graph) (a b : ℕ) → after.nodes ≡ before.nodes → count_joined_either after a b ≤ count_touched before after a b
unfolding count_joined_either count_touched
after_touched before after a b same =
    let P : ℕ → Type 0 = λ z. count_by (λ x. joined_in after a x || joined_in after b x) (places z)
    ≤ count_by (λ x. (joined_in before a x || joined_in before b x) || (joined_in after a x || joined_in after b x)) (places before.nodes) in
    subst P (sym same)
    (count_le before.nodes (λ x. joined_in after a x || joined_in after b x)
    (λ x. (joined_in before a x || joined_in before b x) || (joined_in after a x || joined_in after b x))
    (λ x lt h. or_right (joined_in before a x || joined_in before b x) (joined_in after a x || joined_in after b x) h))

-- ---- nodes by their numbers

one_along : (s t : Bool) (x y : ℕ) (a b : List ℕ) → s ≡ t → length a ≡ length b → length (cond s (x ∷ a) a) ≡ length (cond t (y ∷ b) b)
one_along true true x y a b h e = ap suc e
one_along false false x y a b h e = e
one_along true false x y a b h e = absurd (cc)
one_along false true x y a b h e = absurd (cc)

passed_along : (p q : ℕ → Bool) (ns : List ℕ) (a : ℕ) → ((k : ℕ) → k < length ns → p (a + k) ≡ q (get_or ns k 0)) → length (filter p (range_with_len a (length ns))) ≡ length (filter q ns)
passed_along p q [] a h = refl
passed_along p q (n ∷ ns) a h =
    let here : a + 0 ≡ a = omega arith in
    one_along (p a) (q n) a n (filter p (range_with_len (a + 1) (length ns))) (filter q ns) (ap p (sym here) ∙ h 0 (omega arith))
    (passed_along p q ns (a + 1) (λ k lt. let next : a + 1 + k ≡ a + suc k = omega arith in ap p next ∙ h (suc k) (omega (arith, lt))))

-- as many indices pass as numbers
count_along : (p q : ℕ → Bool) (ns : List ℕ) → ((k : ℕ) → k < length ns → p k ≡ q (get_or ns k 0)) → count_by p (places (length ns)) ≡ count_by q ns
unfolding places
count_along p q ns h =
    sym (length-filter p (range_with_len 0 (length ns)))
    ∙ passed_along p q ns 0 (λ k lt. let same : 0 + k ≡ k = omega arith in ap p same ∙ h k lt)
    ∙ length-filter q ns

either : (a b c d : Bool) → a ≡ c → b ≡ d → (a || b) ≡ (c || d)
either a b c d e f = ap (λ z. z || b) e ∙ ap (λ z. c || z) f

pub bus_stood : (level : VoltageLevel) (opened retained : List Bool) → KeepsLimits level → length opened ≡ length level.switches → Stands bus level (stood level opened retained)
unfolding stood
bus_stood level opened retained keeps e =
    let P : List (ℕ × ℕ) → Type 0 = λ z. EndsIn (nodes level) z in
    record {
      same_nodes = nodes-stood level opened retained;
      same_placed = refl;
      ends_in = subst P (sym (passing_bus-stood level opened retained)) (bus_stands level opened keeps e).ends_in;
    }

module _ (rule : Rule) (level : VoltageLevel) (keeps : KeepsLimits level) where
  joined_at : (now : VoltageLevel) (n k : ℕ) → Stands rule level now → In n (nodes level) → k < length (nodes level) → joined_in (graph_under rule now) (index_in (nodes level) n) k ≡ joined_under rule now n (get_or (nodes level) k 0)
  unfolding graph_under joined_under
  joined_at now n k s i lt =
      let ns = nodes level in
      ap (λ z. joined_in (graph_among z (passing rule now)) (index_in ns n) k) s.same_nodes
      ∙ joined_by_index ns (passing rule now) keeps.nodes_rise s.ends_in (index_in ns n) k (index_below n ns i) lt
      ∙ ap (λ z. joined ns (passing rule now) z (get_or ns k 0)) (at_index n ns i)
      ∙ ap (λ z. joined z (passing rule now) n (get_or ns k 0)) (sym s.same_nodes)

  at_end : (now : VoltageLevel) (s : Switch) (k : ℕ) → Stands rule level now → In s.node1 (nodes level) → In s.node2 (nodes level) → k < length (nodes level)
      → (joined_in (graph_under rule now) (index_in (nodes level) s.node1) k || joined_in (graph_under rule now) (index_in (nodes level) s.node2) k) ≡ is_at_end rule now s (get_or (nodes level) k 0)
  unfolding is_at_end
  at_end now s k stands i j lt =
      let n = get_or (nodes level) k 0 in
      either (joined_in (graph_under rule now) (index_in (nodes level) s.node1) k) (joined_in (graph_under rule now) (index_in (nodes level) s.node2) k)
      (joined_under rule now s.node1 n) (joined_under rule now s.node2 n) (joined_at now s.node1 k stands i lt) (joined_at now s.node2 k stands j lt)

  pub touched_nodes : (before after : VoltageLevel) (s : Switch) → Stands rule level before → Stands rule level after → In s.node1 (nodes level) → In s.node2 (nodes level)
      → count_touched (graph_under rule before) (graph_under rule after) (index_in (nodes level) s.node1) (index_in (nodes level) s.node2) ≡ touched_by rule before after s
  unfolding count_touched touched_by graph_under graph_among
  touched_nodes before after s stands then i j =
      let ns = nodes level in
      let a = index_in ns s.node1 in
      let b = index_in ns s.node2 in
      let was = graph_under rule before in
      let will = graph_under rule after in
      let p : ℕ → Bool = λ k. (joined_in was a k || joined_in was b k) || (joined_in will a k || joined_in will b k) in
      let q : ℕ → Bool = λ n. is_at_end rule before s n || is_at_end rule after s n in
      ap (λ z. count_by p (places (length z))) stands.same_nodes
      ∙ count_along p q ns
      (λ k lt. either (joined_in was a k || joined_in was b k) (joined_in will a k || joined_in will b k) (is_at_end rule before s (get_or ns k 0)) (is_at_end rule after s (get_or ns k 0))
      (at_end before s k stands i j lt) (at_end after s k then i j lt))
      ∙ ap (count_by q) (sym stands.same_nodes)
