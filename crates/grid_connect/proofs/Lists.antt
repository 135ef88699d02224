-- The lists that the code makes.
use Rattle.std.proofs.Common.{◌≡◌, refl, sym, ap, ◌∙◌, subst, ℕ, zero, suc, ◌+◌, ◌≤◌, Bool, true, false, cond, ◌&&◌, ◌||◌, List, [], ◌∷◌, ◌++◌, length, inl, inr, arith, take, replicate}
use Rattle.std.proofs.Math.ListN.{get_or-replicate, length-replicate, get_or-eq_default}
use Rattle.std.proofs.lemmas.Bool.{cases_eq, cases_lt, eq-eqb, ne_eqb, and_parts}
use Rattle.std.specs.Prelude.{eqb, slice_get, map, filter}
use Rattle.std.specs.List.{list_any, list_all, slice_index_or}
use Rattle.std.proofs.lemmas.List.{map-append, take_all}
use Rattle.std.proofs.lemmas.List.Folds.{list_any-append}
use Rattle.grid_graph.proofs.Reach.{In}
use Rattle.grid_level.specs.declared.Switch.{Switch}
use Rattle.grid_level.specs.declared.Internal.{Internal}
use Rattle.grid_level.specs.declared.Placed.{Placed}
use Rattle.grid_level.specs.VoltageLevel.{VoltageLevel}
use Rattle.grid_level.specs.Passing.{switch_edge, internal_edge, edges, ends, nodes, positioned, with_opened, is_operable, is_busbar, stands_at, carries_busbar}
use Rattle.grid_level.specs.Kept.{KeepsLimits, among, ends_among}
use Rattle.grid_groups.specs.Labels.{index_in}
use Rattle.grid_groups.proofs.Indices.{among_In, index_below, index_apart}
use Rattle.grid_groups.proofs.PassingEdges.{nodes-positioned}
use Rattle.grid_paths.specs.Routes.{PathEdge, is_goal, EndsBelow}
use Rattle.grid_connect.specs.Plans.{opened_at, is_open}
use Rattle.grid_connect.specs.Indexed.{path_edge, switch_path_edge, internal_path_edge, path_edges_of, switch_path_edges, AreBusbars}

-- ---- edges

placed_by : (ns : List ℕ) (sw : List Switch) (flags : List Bool) → length flags ≡ length sw → map (path_edge ns) (map switch_edge (with_opened sw flags)) ≡ switch_path_edges ns sw flags
unfolding switch_path_edges with_opened path_edge is_operable
placed_by ns [] [] e = refl
placed_by ns [] (g ∷ flags) e = refl
placed_by ns (t ∷ sw) [] e = absurd (omega (arith, e))
placed_by ns (t ∷ sw) (g ∷ flags) e = ap (λ z. switch_path_edge ns t g ∷ z) (placed_by ns sw flags (omega (arith, e)))

internals_by : (ns : List ℕ) (ins : List Internal) → map (path_edge ns) (map internal_edge ins) ≡ map (internal_path_edge ns) ins
unfolding path_edge
internals_by ns [] = refl
internals_by ns (i ∷ ins) = ap (λ z. internal_path_edge ns i ∷ z) (internals_by ns ins)

pub made_edges : (level : VoltageLevel) (flags : List Bool) → length flags ≡ length level.switches
    → path_edges_of (positioned level flags) ≡ switch_path_edges (nodes level) level.switches flags ++ map (internal_path_edge (nodes level)) level.internals
unfolding path_edges_of positioned edges
made_edges level flags e =
    let ns = nodes level in
    let es = map switch_edge (with_opened level.switches flags) ++ map internal_edge level.internals in
    ap (λ z. map (path_edge z) es) (nodes-positioned level flags)
    ∙ map-append (path_edge ns) (map switch_edge (with_opened level.switches flags)) (map internal_edge level.internals)
    ∙ ap (λ z. z ++ map (path_edge ns) (map internal_edge level.internals)) (placed_by ns level.switches flags e)
    ∙ ap (λ z. switch_path_edges ns level.switches flags ++ z) (internals_by ns level.internals)

-- the ends are indices
edges_below : (ns : List ℕ) (ss : List Switch) (flags : List Bool) (is : List Internal) → length flags ≡ length ss
    → list_all (ends_among ns) (map switch_edge ss ++ map internal_edge is) ≡ true → EndsBelow (switch_path_edges ns ss flags ++ map (internal_path_edge ns) is) (length ns)
unfolding switch_path_edges ends
edges_below ns [] flags [] e h k d lt = absurd (omega arith)
edges_below ns [] flags (i ∷ is) e h zero d lt =
    let parts = and_parts (among ns i.node1) (among ns i.node2) (and_parts (among ns i.node1 && among ns i.node2) (list_all (ends_among ns) (map internal_edge is)) h).0 in
    (index_below i.node1 ns (among_In i.node1 ns parts.0), index_below i.node2 ns (among_In i.node2 ns parts.1))
edges_below ns [] flags (i ∷ is) e h (suc k) d lt =
    edges_below ns [] flags is e (and_parts (among ns i.node1 && among ns i.node2) (list_all (ends_among ns) (map internal_edge is)) h).1 k d (omega arith)
edges_below ns (s ∷ ss) [] is e h k d lt = absurd (omega (arith, e))
edges_below ns (s ∷ ss) (f ∷ flags) is e h zero d lt =
    let parts = and_parts (among ns s.node1) (among ns s.node2) (and_parts (among ns s.node1 && among ns s.node2) (list_all (ends_among ns) (map switch_edge ss ++ map internal_edge is)) h).0 in
    (index_below s.node1 ns (among_In s.node1 ns parts.0), index_below s.node2 ns (among_In s.node2 ns parts.1))
edges_below ns (s ∷ ss) (f ∷ flags) is e h (suc k) d lt =
    edges_below ns ss flags is (omega (arith, e)) (and_parts (among ns s.node1 && among ns s.node2) (list_all (ends_among ns) (map switch_edge ss ++ map internal_edge is)) h).1 k d (omega arith)

pub ends_below : (level : VoltageLevel) (flags : List Bool) (edges : List PathEdge) → KeepsLimits level → length flags ≡ length level.switches → edges ≡ path_edges_of (positioned level flags)
    → EndsBelow edges (length (nodes level))
unfolding edges
ends_below level flags made keeps e h =
    let P : List PathEdge → Type 0 = λ z. EndsBelow z (length (nodes level)) in
    subst P (sym (h ∙ made_edges level flags e)) (edges_below (nodes level) level.switches flags level.internals e keeps.ends_are_nodes)

-- ---- busbars

pub bars_positioned : (level : VoltageLevel) (flags : List Bool) (marks : List Bool) → AreBusbars level marks → AreBusbars (positioned level flags) marks
unfolding carries_busbar positioned
bars_positioned level flags marks h n i =
    let P : List ℕ → Type 0 = λ z. among z n ≡ true → is_goal marks (index_in z n) ≡ carries_busbar level n in
    subst P (sym (nodes-positioned level flags)) (h n) i

or_false : (t : Bool) → t ≡ t || false
or_false true = refl
or_false false = refl

pub marks_none : (n u : ℕ) → is_goal (replicate n false) u ≡ false
marks_none n u = elim (cases_lt u n) [ inl h ↦ get_or-replicate n u false false h | inr h ↦ get_or-eq_default (replicate n false) false (rw (length-replicate n false) h) ]

same_index : (ns : List ℕ) (x y : ℕ) → In x ns → In y ns → eqb (index_in ns x) (index_in ns y) ≡ eqb x y
same_index ns x y i j = elim (cases_eq x y) [
  | inl e ↦ eq-eqb (index_in ns x) (index_in ns y) (ap (index_in ns) e) ∙ sym (eq-eqb x y e)
  | inr ne ↦ ne_eqb (index_in ns x) (index_in ns y) (λ e. ne ((index_apart ns).apart x y i j e)) ∙ sym (ne_eqb x y ne)
]

-- so far
abbrev pub BusbarsTo : List ℕ → List Placed → List Bool → Type 0
BusbarsTo ns all marks = (n : ℕ) → among ns n ≡ true → is_goal marks (index_in ns n) ≡ list_any (λ p. stands_at n p && is_busbar p.stand) all

pub bars_none : (ns : List ℕ) (marks : List Bool) (count : ℕ) (all : List Placed) → marks ≡ replicate count false → BusbarsTo ns (take 0 all) marks
bars_none ns marks count all e n i = ap (λ z. is_goal z (index_in ns n)) e ∙ marks_none count (index_in ns n)

pub bars_more : (ns : List ℕ) (before : List Placed) (p : Placed) (old new : List Bool) → In p.node ns → ((k : ℕ) → is_goal new k ≡ is_goal old k || (eqb (index_in ns p.node) k && is_busbar p.stand)) → BusbarsTo ns before old
    → BusbarsTo ns (before ++ p ∷ []) new
unfolding stands_at
bars_more ns before p old new inside marks so_far n j =
    let test : Placed → Bool = λ q. eqb q.node n && is_busbar q.stand in
    let k = index_in ns n in
    marks k
    ∙ ap (λ t. is_goal old k || (t && is_busbar p.stand)) (same_index ns p.node n inside (among_In n ns j))
    ∙ ap (λ t. t || test p) (so_far n j)
    ∙ ap (λ t. list_any test before || t) (or_false (test p))
    ∙ sym (list_any-append test before (p ∷ []))

pub bars_end : (level : VoltageLevel) (marks : List Bool) (all : List Placed) (i : ℕ) → all ≡ level.placed → length all ≤ i → BusbarsTo (nodes level) (take i all) marks → AreBusbars level marks
unfolding carries_busbar
bars_end level marks all i e lt h n j = h n j ∙ ap (list_any (λ p. stands_at n p && is_busbar p.stand)) (take_all i all lt ∙ e)

-- ---- open switches

open_by : (sw : List Switch) (flags : List Bool) (p : ℕ) → length flags ≡ length sw → opened_at (slice_get (with_opened sw flags) p) ≡ slice_index_or flags p false
unfolding with_opened opened_at
open_by [] [] p e = refl
open_by [] (g ∷ flags) p e = absurd (omega (arith, e))
open_by (t ∷ sw) [] p e = absurd (omega (arith, e))
open_by (t ∷ sw) (g ∷ flags) zero e = refl
open_by (t ∷ sw) (g ∷ flags) (suc p) e = open_by sw flags p (omega (arith, e))

open_positioned : (level : VoltageLevel) (flags : List Bool) (p : ℕ) → length flags ≡ length level.switches → is_open (positioned level flags) p ≡ slice_index_or flags p false
unfolding is_open positioned
open_positioned level flags p e = open_by level.switches flags p e

filter_same : (p q : ℕ → Bool) → ((n : ℕ) → p n ≡ q n) → (xs : List ℕ) → filter p xs ≡ filter q xs
filter_same p q h [] = refl
filter_same p q h (x ∷ xs) = ap (λ t. cond t (x ∷ filter p xs) (filter p xs)) (h x) ∙ ap (λ z. cond (q x) (x ∷ z) z) (filter_same p q h xs)

pub opens_positioned : (level : VoltageLevel) (flags : List Bool) (path : List ℕ) → length flags ≡ length level.switches
    → filter (is_open (positioned level flags)) path ≡ filter (λ p. slice_index_or flags p false) path
opens_positioned level flags path e = filter_same (is_open (positioned level flags)) (λ p. slice_index_or flags p false) (λ n. open_positioned level flags n e) path
