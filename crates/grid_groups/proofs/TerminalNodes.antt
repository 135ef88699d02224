-- The terminals of a level: few, and each at a node.
use Rattle.std.proofs.Common.{◌≡◌, refl, sym, ap, subst, ℕ, zero, suc, ◌<◌, ◌≤◌, true, false, List, [], ◌∷◌, length, get_or, inl, inr, arith}
use Rattle.std.specs.Prelude.{eqb, nat_lt, map, All}
use Rattle.std.specs.List.{list_any, list_all, IsDistinct, AllByRecursion}
use Rattle.std.proofs.lemmas.Bool.{and_parts, ltb-true, ne_eqb, or_cases, eqb-true, false≢true}
use Rattle.std.proofs.lemmas.Map.Made.{length-le_from_is_member}
use Rattle.std.proofs.lemmas.Map.Keys.{IsDistinct-cons}
use Rattle.grid_graph.proofs.Reach.{In, eqb_laws, empty_distinct}
use Rattle.grid_level.specs.declared.Placed.{Placed}
use Rattle.grid_level.specs.VoltageLevel.{VoltageLevel}
use Rattle.grid_level.specs.Passing.{nodes, is_rising}
use Rattle.grid_level.specs.Kept.{KeepsLimits, among}
use Rattle.grid_groups.specs.Labels.{index_in, label_of, labels_placed, places_with, leading, group_of, group_at, groups_by, HasPlacesOf}
use Rattle.grid_groups.proofs.Indices.{among_In, index_below}
use Rattle.grid_groups.proofs.Lists.{get_or_any}
use Rattle.grid_groups.specs.declared.grouping.Group.{Group}
use Rattle.grid_groups.proofs.Steps.{all_at, places_within}

long_mapped : (f : Placed → ℕ) (ps : List Placed) → length (map f ps) ≡ length ps
long_mapped f [] = refl
long_mapped f (p ∷ ps) = ap suc (long_mapped f ps)

-- what holds of each item's image holds of each item of the mapped list
map_all : {X : Type 0} (P : ℕ → Type 0) (f : X → ℕ) (xs : List X) → ((i : ℕ) (d : X) → i < length xs → P (f (get_or xs i d))) → (k : ℕ) → k < length (map f xs) → P (get_or (map f xs) k 0)
map_all P f [] h k lt = absurd (omega arith)
map_all P f (x ∷ xs) h zero lt = h 0 x (omega arith)
map_all P f (x ∷ xs) h (suc k) lt = map_all P f xs (λ i d less. h (suc i) d (omega arith)) k (omega arith)

pub placed_node : (level : VoltageLevel) → KeepsLimits level → (i : ℕ) (d : Placed) → i < length level.placed → In (get_or level.placed i d).node (nodes level)
placed_node level keeps i d lt =
    among_In (get_or level.placed i d).node (nodes level)
    (all_at (λ p. among (nodes level) p.node) level.placed i (get_or level.placed i d) keeps.placed_are_nodes lt (get_or_any level.placed i d (get_or level.placed i d) lt))

pub labels_below : (level : VoltageLevel) (labels : List ℕ) → KeepsLimits level → length labels ≡ length (nodes level) → ((k : ℕ) → k < length labels → get_or labels k 0 < length labels)
    → (k : ℕ) → k < length (labels_placed level labels) → get_or (labels_placed level labels) k 0 < length (nodes level)
unfolding labels_placed label_of
labels_below level labels keeps long below =
    map_all (λ n. n < length (nodes level)) (λ p. label_of (nodes level) labels p.node) level.placed
    (λ i d lt.
    let at = index_below (get_or level.placed i d).node (nodes level) (placed_node level keeps i d lt) in
    let less = below (index_in (nodes level) (get_or level.placed i d).node) (omega (arith, at, long)) in
    omega (arith, less, long))

all_differ : (n : ℕ) (ns : List ℕ) → list_all (nat_lt n) ns ≡ true → AllByRecursion (λ m. eqb n m ≡ false) ns
all_differ n [] h = tt
all_differ n (m ∷ ns) h =
    let parts = and_parts (nat_lt n m) (list_all (nat_lt n) ns) h in
    let less = ltb-true n m parts.0 in
    (ne_eqb n m (λ e. omega (arith, e, less)), all_differ n ns parts.1)

rising_distinct : (ns : List ℕ) → is_rising ns ≡ true → IsDistinct eqb ns
unfolding is_rising
rising_distinct [] h = empty_distinct
rising_distinct (n ∷ ns) h =
    let parts = and_parts (list_all (nat_lt n) ns) (is_rising ns) h in
    IsDistinct-cons eqb n ns (all_differ n ns parts.0) (rising_distinct ns parts.1)

mapped_In : (ns : List ℕ) (ps : List Placed) (q : ℕ) → list_all (λ p. among ns p.node) ps ≡ true → In q (map (λ p. p.node) ps) → In q ns
mapped_In ns [] q h i = absurd (false≢true i)
mapped_In ns (p ∷ ps) q h i =
    let parts = and_parts (among ns p.node) (list_all (λ p. among ns p.node) ps) h in
    elim (or_cases (eqb q p.node) (list_any (eqb q) (map (λ p. p.node) ps)) i) [
      | inl e ↦ (let P : ℕ → Type 0 = λ z. In z ns in subst P (sym (eqb-true q p.node e)) (among_In p.node ns parts.0))
      | inr j ↦ mapped_In ns ps q parts.1 j
    ]

-- no node carries two
pub few_placed : (level : VoltageLevel) → KeepsLimits level → length level.placed ≤ 1024
few_placed level keeps =
    let ns = map (λ (p : Placed). p.node) level.placed in
    let most = length-le_from_is_member eqb_laws ns (nodes level) (rising_distinct ns keeps.placed_rise) (λ q i. mapped_In (nodes level) level.placed q keeps.placed_are_nodes i) in
    omega (arith, most, long_mapped (λ p. p.node) level.placed, keeps.few_nodes)

pub few_labels : (level : VoltageLevel) (labels : List ℕ) → KeepsLimits level → length (labels_placed level labels) ≤ 1024
unfolding labels_placed
few_labels level labels keeps = omega (arith, long_mapped (λ p. label_of (nodes level) labels p.node) level.placed, few_placed level keeps)

all_mapped : {X Y : Type 0} (P : Y → Type 0) (f : X → Y) (xs : List X) → ((x : X) → P (f x)) → (i : ℕ) (d : Y) → i < length (map f xs) → P (get_or (map f xs) i d)
all_mapped P f [] h i d lt = absurd (omega arith)
all_mapped P f (x ∷ xs) h zero d lt = h x
all_mapped P f (x ∷ xs) h (suc i) d lt = all_mapped P f xs h i d (omega arith)

-- the places in the groups are those of terminals
pub groups_within : (level : VoltageLevel) (labels : List ℕ) (groups : List Group) → groups ≡ groups_by level labels → All (HasPlacesOf level) groups
unfolding groups_by group_at group_of labels_placed
groups_within level labels groups e =
    let P : List Group → Type 0 = λ z. All (HasPlacesOf level) z in
    let keys = labels_placed level labels in
    subst P (sym e)
    (all_mapped (HasPlacesOf level) (group_at level labels) (leading labels)
    (λ l. places_within keys (places_with keys l) l (length level.placed) refl (long_mapped (λ p. label_of (nodes level) labels p.node) level.placed)))
