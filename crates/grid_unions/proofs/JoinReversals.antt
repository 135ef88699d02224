-- Joins that come one after the other, and are taken back.
use Rattle.std.proofs.Common.{◌≡◌, refl, sym, ap, ◌∙◌, subst, ℕ, ◌+◌, ◌-◌, ◌<◌, ◌≤◌, Option, Some, None, List, [], ◌∷◌, ◌++◌, length, drop, reverse, map, arith, length-drop, drop-drop}
use Rattle.std.proofs.lemmas.List.{reverse-append}
use Rattle.grid_graph.specs.Graph.{Graph, graph, least_joined}
use Rattle.grid_unions.specs.declared.join.Join.{Join}
use Rattle.grid_unions.specs.Trees.{Trees, hung, count_least, IsForest}
use Rattle.std.specs.Prelude.{eqb}
use Rattle.grid_graph.proofs.Counts.{count_all}
use Rattle.grid_unions.specs.Unions.{pair_of, before_join, CanTakeBack, AreRight}
use Rattle.grid_unions.proofs.Trees.{AreApart, forest_same, forest_hung, is_hung, hung_back}

abbrev pub graph_of : ℕ → List Join → Graph
graph_of count joins = graph count (map pair_of joins)

abbrev pub join_of : ℕ → ℕ → Option ℕ → ℕ → ℕ → Join
join_of a b hung first greatest = record { a = a; b = b; hung = hung; first = first; greatest = greatest }

pub right_forest : (count : ℕ) (joins : List Join) (forest : Trees) → AreRight count joins forest → IsForest (graph_of count joins) forest
right_forest count [] forest r = r
right_forest count (join ∷ older) forest r = r.0

pub right_same : (count a b first greatest : ℕ) (joins : List Join) (forest : Trees) → AreRight count joins forest → a < count → b < count
    → least_joined (graph_of count joins) a ≡ least_joined (graph_of count joins) b → AreRight count (join_of a b None first greatest ∷ joins) forest
right_same count a b first greatest joins forest r lt less e = (forest_same (graph_of count joins) a b forest (right_forest count joins forest r) lt less e, (tt, r))

pub right_hung : (count a b low top first greatest : ℕ) (joins : List Join) (forest : Trees) → AreRight count joins forest → AreApart (graph_of count joins) forest a b low top
    → AreRight count (join_of a b (Some low) first greatest ∷ joins) (hung forest low top)
right_hung count a b low top first greatest joins forest r h =
    let net : Graph = graph_of count joins in
    let s = right_forest count joins forest r in
    let P : Trees → Type 0 = AreRight count joins in
    (forest_hung net a b low top forest s h, (is_hung net a b low top forest s h, subst P (sym (hung_back net a b low top forest s h)) r))

pub reverse_push : (joins : List Join) (join : Join) → reverse (joins ++ join ∷ []) ≡ join ∷ reverse joins
reverse_push joins join = reverse-append joins (join ∷ [])

-- ---- the joins as they are kept, the newest last

pub reversed : (joins more : List Join) (join : Join) → more ≡ joins ++ join ∷ [] → reverse more ≡ join ∷ reverse joins
reversed joins more join e = ap reverse e ∙ reverse_push joins join

pub pairs_more : (joins more : List Join) (join : Join) → more ≡ joins ++ join ∷ [] → map pair_of (reverse more) ≡ pair_of join ∷ map pair_of (reverse joins)
pairs_more joins more join e = ap (map pair_of) (reversed joins more join e)

pub kept_same : (count a b first greatest : ℕ) (joins more : List Join) (forest : Trees) → more ≡ joins ++ join_of a b None first greatest ∷ [] → AreRight count (reverse joins) forest → a < count → b < count
    → least_joined (graph_of count (reverse joins)) a ≡ least_joined (graph_of count (reverse joins)) b → AreRight count (reverse more) forest
kept_same count a b first greatest joins more forest e r lt less same =
    let P : List Join → Type 0 = λ js. AreRight count js forest in
    subst P (sym (reversed joins more (join_of a b None first greatest) e)) (right_same count a b first greatest (reverse joins) forest r lt less same)

pub kept_hung : (count a b low top first greatest : ℕ) (joins more : List Join) (forest : Trees) → more ≡ joins ++ join_of a b (Some low) first greatest ∷ [] → AreRight count (reverse joins) forest
    → AreApart (graph_of count (reverse joins)) forest a b low top → AreRight count (reverse more) (hung forest low top)
kept_hung count a b low top first greatest joins more forest e r h =
    let P : List Join → Type 0 = λ js. AreRight count js (hung forest low top) in
    subst P (sym (reversed joins more (join_of a b (Some low) first greatest) e)) (right_hung count a b low top first greatest (reverse joins) forest r h)

-- what stands before the newest join
pub before_newest : (count : ℕ) (joins less : List Join) (join : Join) (forest : Trees) → joins ≡ less ++ join ∷ [] → AreRight count (reverse joins) forest
    → CanTakeBack forest join.hung × AreRight count (reverse less) (before_join forest join.hung)
before_newest count joins less join forest e r =
    let P : List Join → Type 0 = λ js. AreRight count js forest in
    (subst P (reversed less joins join e) r).1

pub roots_few : (count : ℕ) (joins : List Join) (forest : Trees) → AreRight count joins forest → forest.roots ≤ count
unfolding count_least
roots_few count joins forest r =
    let f = right_forest count joins forest r in
    omega (arith, f.roots, count_all count (λ x. eqb (least_joined (graph_of count joins) x) x))

-- ---- the newest pairs are taken back

-- the pairs are the older ones of some
pub record AreOlder (old now : Graph) : Type 0 where
  pub fewer : length now.pairs ≤ length old.pairs
  pub same : now ≡ graph old.nodes (drop (length old.pairs - length now.pairs) old.pairs)

pub none_older : (old : Graph) → AreOlder old old
none_older old =
    let none : length old.pairs - length old.pairs ≡ 0 = omega arith in
    record { fewer = omega arith; same = rw none refl }

pub one_older : (old now new : Graph) → AreOlder old now → 0 < length now.pairs → new ≡ graph now.nodes (drop 1 now.pairs) → AreOlder old new
one_older old now new h some e =
    let pairs : new.pairs ≡ drop 1 now.pairs = ap (λ g. g.pairs) e in
    let nodes : new.nodes ≡ now.nodes = ap (λ g. g.nodes) e in
    let few : length new.pairs + 1 ≡ length now.pairs = omega (arith, ap length pairs, length-drop 1 now.pairs, some) in
    let before : now.pairs ≡ drop (length old.pairs - length now.pairs) old.pairs = ap (λ g. g.pairs) h.same in
    let all : now.nodes ≡ old.nodes = ap (λ g. g.nodes) h.same in
    let step : (length old.pairs - length now.pairs) + 1 ≡ length old.pairs - length new.pairs = omega (arith, few, h.fewer) in
    let twice : drop 1 (drop (length old.pairs - length now.pairs) old.pairs) ≡ drop (length old.pairs - length new.pairs) old.pairs =
    drop-drop 1 (length old.pairs - length now.pairs) old.pairs ∙ ap (λ k. drop k old.pairs) step in
    record {
      fewer = omega (arith, few, h.fewer);
      same = (let rest : new.pairs ≡ drop (length old.pairs - length new.pairs) old.pairs = pairs ∙ ap (drop 1) before ∙ twice in
          let whole : new.nodes ≡ old.nodes = nodes ∙ all in cc);
    }
