-- The plan that is computed is the least of all closable paths.
use Rattle.std.proofs.Common.{◌≡◌, refl, sym, ◌∙◌, subst, ℕ, Bool, true, false, cond, ◌&&◌, List, [], ◌∷◌, length, inl, inr, ◌⊎◌}
use Rattle.std.specs.Prelude.{Option, Some, None, eqb, map}
use Rattle.std.specs.List.{list_any, list_all, flat_map}
use Rattle.std.proofs.lemmas.Bool.{and_parts, eq-eqb}
use Rattle.std.proofs.lemmas.List.Folds.{list_any-append}
use Rattle.grid_lemmas.proofs.Bools.{not_if, not_true, or_left, or_right}
use Rattle.grid_level.specs.VoltageLevel.{VoltageLevel}
use Rattle.grid_level.specs.Passing.{Edge, edges, ends, both, rising, named, nodes, is_connected, carries_busbar}
use Rattle.grid_graph.proofs.Reach.{In, In_left}
use Rattle.grid_level.proofs.LevelReaders.{among_rising}
use Rattle.grid_groups.proofs.Indices.{among_In, In_among}
use Rattle.grid_paths.specs.Paths.{has_node, is_path, last_node, least_path, paths_from}
use Rattle.grid_connect.specs.Plans.{all_ends, is_open, may_be_closed, is_closable, closable_paths, plan_along, connect_plan_of}
use Rattle.grid_connect.specs.Laws.{IsConnectPlan}
use Rattle.grid_connect.specs.declared.ConnectPlan.TheVariants.{AlreadyConnected}
use Rattle.grid_paths.proofs.Least.{Member, Member-filter, filter-Member, LeastOf, least_path_least, IsEnd, is_path-listed}

-- ---- the ends of edges are nodes

pub In_rising : (q : ℕ) (xs : List ℕ) → In q xs → In q (rising xs)
In_rising q xs i = among_In q (rising xs) (among_rising xs q ∙ In_among q xs i)

both_ends : (c : ℕ) (pair : ℕ × ℕ) → (c ≡ pair.0) ⊎ (c ≡ pair.1) → In c (both pair)
unfolding both
both_ends c pair (inl e) = or_left _ _ (eq-eqb c pair.0 e)
both_ends c pair (inr e) = or_right (eqb c pair.0) _ (or_left _ _ (eq-eqb c pair.1 e))

In_flat : (es : List Edge) (c : ℕ) (pair : ℕ × ℕ) → Member pair (map ends es) → (c ≡ pair.0) ⊎ (c ≡ pair.1) → In c (flat_map (λ e. both (ends e)) es)
In_flat [] c pair m h = absurd m
In_flat (e ∷ es) c pair (inl g) h = In_left c (both (ends e)) (flat_map (λ d. both (ends d)) es) (subst (λ z. In c (both z)) (sym g) (both_ends c pair h))
In_flat (e ∷ es) c pair (inr m) h = list_any-append (eqb c) (both (ends e)) (flat_map (λ d. both (ends d)) es) ∙ or_right (list_any (eqb c) (both (ends e))) _ (In_flat es c pair m h)

pub ends_are_nodes : (level : VoltageLevel) (n : ℕ) → IsEnd (all_ends level) n → has_node (nodes level) n ≡ true
unfolding nodes named all_ends has_node
ends_are_nodes level n e = In_rising n _ (In_left n (flat_map (λ d. both (ends d)) (edges level)) _ (In_flat (edges level) n e.0 e.1 e.2))

-- ---- the closable paths

path_of : (level : VoltageLevel) (a : ℕ) (path : List ℕ) → is_closable level a path ≡ true → is_path (all_ends level) a path ≡ true
unfolding is_closable
path_of level a path h =
    let first = is_path (all_ends level) a path in
    let second = carries_busbar level (last_node (all_ends level) a path) in
    (and_parts first second (and_parts (first && second) (list_all (may_be_closed level) path) h).0).0

pub closable-Member : (level : VoltageLevel) (a : ℕ) (path : List ℕ) → is_closable level a path ≡ true → Member path (closable_paths level a)
unfolding closable_paths
closable-Member level a path h =
    Member-filter (is_closable level a) (paths_from (all_ends level) (length (nodes level)) a) path
    (is_path-listed (nodes level) (all_ends level) (ends_are_nodes level) path a (path_of level a path h)) h

pub Member-closable : (level : VoltageLevel) (a : ℕ) (path : List ℕ) → Member path (closable_paths level a) → is_closable level a path ≡ true
unfolding closable_paths
Member-closable level a path m = filter-Member (is_closable level a) (paths_from (all_ends level) (length (nodes level)) a) path m

-- ---- the plan

along_is_plan : (level : VoltageLevel) (a : ℕ) (o : Option (List ℕ)) → is_connected level a ≡ false
    → LeastOf (is_open level) (closable_paths level a) o → IsConnectPlan level a (plan_along (is_open level) o)
unfolding plan_along
along_is_plan level a None e none = (
  not_true _ e,
  λ path. not_if _ (λ h.
      let P : List (List ℕ) → Type 0 = λ z. Member path z in absurd (subst P none (closable-Member level a path h))),
)
along_is_plan level a (Some path) e least = (
  not_true _ e,
  (
    path,
    record {
      closable = Member-closable level a path least.0;
      least = λ other h. not_true _ (least.1 other (closable-Member level a other h));
    },
    refl,
  ),
)

chosen_is_plan : (level : VoltageLevel) (a : ℕ) (t : Bool) → is_connected level a ≡ t
    → IsConnectPlan level a (cond t AlreadyConnected (plan_along (is_open level) (least_path (is_open level) (closable_paths level a))))
chosen_is_plan level a true e = e
chosen_is_plan level a false e = along_is_plan level a _ e (least_path_least (is_open level) (closable_paths level a))

-- what is computed is the plan, over all lists of places
pub connect_plan-IsConnectPlan : (level : VoltageLevel) (a : ℕ) → IsConnectPlan level a (connect_plan_of level a)
unfolding connect_plan_of
connect_plan-IsConnectPlan level a = chosen_is_plan level a (is_connected level a) refl
