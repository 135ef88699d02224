-- Walks over the pairs that a rule lets pass are paths over edges that it lets pass.
use Rattle.std.proofs.Common.{◌≡◌, refl, sym, ap, ◌∙◌, subst, ℕ, zero, suc, Bool, true, false, cond, List, [], ◌∷◌, ◌++◌, inl, inr}
use Rattle.std.specs.Prelude.{Option, Some, None, slice_get, map, filter}
use Rattle.std.specs.List.{list_all, flat_map}
use Rattle.std.proofs.lemmas.Bool.{false≢true, and_parts, and_from}
use Rattle.grid_graph.specs.Joined.{end_across, neighbours}
use Rattle.grid_graph.proofs.Reach.{In, In_left, In_right, In_parts, across_from, across_first as end_first, across_second as end_second, Walk}
use Rattle.grid_level.specs.declared.Switch.{Switch}
use Rattle.grid_level.specs.declared.Internal.{Internal}
use Rattle.grid_level.specs.VoltageLevel.{VoltageLevel}
use Rattle.grid_level.specs.Passing.{Rule, switch_edge, internal_edge, edges, ends, passing, switch_passes}
use Rattle.grid_paths.specs.Paths.{across, visited, last_in}
use Rattle.grid_paths.proofs.Least.{some_same, some_none, first_edge, begins, got_Member, IsEnd}
use Rattle.grid_paths.proofs.RouteCosts.{across_ends, across_first, across_second}
use Rattle.grid_paths.proofs.Shortest.{visits_on}
use Rattle.grid_connect.specs.Plans.{all_ends}

-- what a rule lets pass at a place of an edge
unfoldable pub lets_at : Rule → Option Switch → Bool
lets_at rule (Some s) = switch_passes rule s
lets_at rule None = true

unfoldable pub lets : Rule → VoltageLevel → ℕ → Bool
lets rule level place = lets_at rule (slice_get level.switches place)

abbrev pub pairs_of : Rule → List Switch → List Internal → List (ℕ × ℕ)
pairs_of rule sw ins = map (λ s. ends (switch_edge s)) (filter (switch_passes rule) sw) ++ map (λ i. ends (internal_edge i)) ins

abbrev pub ends_all : List Switch → List Internal → List (ℕ × ℕ)
ends_all sw ins = map ends (map switch_edge sw ++ map internal_edge ins)

pub record Found (rule : Rule) (sw : List Switch) (ins : List Internal) (a c : ℕ) : Type 0 where
  pub place : ℕ
  pub pair : ℕ × ℕ
  pub at : slice_get (ends_all sw ins) place ≡ Some pair
  pub over : across a pair ≡ Some c
  pub passes : lets_at rule (slice_get sw place) ≡ true

over_end : (a c : ℕ) (pair : ℕ × ℕ) → In c (end_across a pair) → across a pair ≡ Some c
over_end a c pair i = elim (across_from a c pair i) [ inl h ↦ across_first a c pair h.0 (sym h.1) | inr h ↦ across_second a c pair h.0 (sym h.1) ]

end_over : (a c : ℕ) (pair : ℕ × ℕ) → across a pair ≡ Some c → In c (end_across a pair)
end_over a c pair e = elim (across_ends a c pair e) [
  | inl h ↦ (let P : ℕ → Type 0 = λ z. In z (end_across a pair) in subst P h.1 (end_first a pair h.0))
  | inr h ↦ (let P : ℕ → Type 0 = λ z. In z (end_across a pair) in subst P h.1 (end_second a pair h.0))
]

find_internal : (rule : Rule) (ins : List Internal) (a c : ℕ) → In c (neighbours (map (λ i. ends (internal_edge i)) ins) a) → Found rule [] ins a c
unfolding neighbours lets_at
find_internal rule [] a c h = absurd (false≢true h)
find_internal rule (i ∷ ins) a c h = elim (In_parts c (end_across a (ends (internal_edge i))) (flat_map (end_across a) (map (λ i. ends (internal_edge i)) ins)) h) [
  | inl g ↦ record { place = 0; pair = ends (internal_edge i); at = refl; over = over_end a c (ends (internal_edge i)) g; passes = refl }
  | inr g ↦ (let f = find_internal rule ins a c g in record { place = suc f.place; pair = f.pair; at = f.at; over = f.over; passes = refl })
]

later : (rule : Rule) (s : Switch) (sw : List Switch) (ins : List Internal) (a c : ℕ) → Found rule sw ins a c → Found rule (s ∷ sw) ins a c
later rule s sw ins a c f = record { place = suc f.place; pair = f.pair; at = f.at; over = f.over; passes = f.passes }

find_by : (rule : Rule) (s : Switch) (sw : List Switch) (ins : List Internal) (a c : ℕ) (t : Bool) → switch_passes rule s ≡ t → (In c (neighbours (pairs_of rule sw ins) a) → Found rule sw ins a c)
    → In c (neighbours (map (λ s. ends (switch_edge s)) (cond t (s ∷ filter (switch_passes rule) sw) (filter (switch_passes rule) sw)) ++ map (λ i. ends (internal_edge i)) ins) a) → Found rule (s ∷ sw) ins a c
unfolding neighbours lets_at
find_by rule s sw ins a c true e f h = elim (In_parts c (end_across a (ends (switch_edge s))) (flat_map (end_across a) (pairs_of rule sw ins)) h) [
  | inl g ↦ record { place = 0; pair = ends (switch_edge s); at = refl; over = over_end a c (ends (switch_edge s)) g; passes = e }
  | inr g ↦ later rule s sw ins a c (f g)
]
find_by rule s sw ins a c false e f h = later rule s sw ins a c (f h)

pub find_place : (rule : Rule) (sw : List Switch) (ins : List Internal) (a c : ℕ) → In c (neighbours (pairs_of rule sw ins) a) → Found rule sw ins a c
find_place rule [] ins a c h = find_internal rule ins a c h
find_place rule (s ∷ sw) ins a c h = find_by rule s sw ins a c (switch_passes rule s) refl (find_place rule sw ins a c) h

in_internal : (ins : List Internal) (a c place : ℕ) (pair : ℕ × ℕ) → slice_get (map ends (map internal_edge ins)) place ≡ Some pair → across a pair ≡ Some c
    → In c (neighbours (map (λ i. ends (internal_edge i)) ins) a)
unfolding neighbours
in_internal [] a c place pair e f = absurd (some_none pair e)
in_internal (i ∷ ins) a c zero pair e f =
    let P : ℕ × ℕ → Type 0 = λ z. In c (end_across a z) in
    In_left c (end_across a (ends (internal_edge i))) (flat_map (end_across a) (map (λ i. ends (internal_edge i)) ins)) (subst P (sym (some_same (ends (internal_edge i)) pair e)) (end_over a c pair f))
in_internal (i ∷ ins) a c (suc place) pair e f = In_right c (end_across a (ends (internal_edge i))) (flat_map (end_across a) (map (λ i. ends (internal_edge i)) ins)) (in_internal ins a c place pair e f)

kept_by : (rule : Rule) (s : Switch) (sw : List Switch) (ins : List Internal) (a c : ℕ) (t : Bool) → In c (neighbours (pairs_of rule sw ins) a)
    → In c (neighbours (map (λ s. ends (switch_edge s)) (cond t (s ∷ filter (switch_passes rule) sw) (filter (switch_passes rule) sw)) ++ map (λ i. ends (internal_edge i)) ins) a)
unfolding neighbours
kept_by rule s sw ins a c true h = In_right c (end_across a (ends (switch_edge s))) (flat_map (end_across a) (pairs_of rule sw ins)) h
kept_by rule s sw ins a c false h = h

here_by : (rule : Rule) (s : Switch) (sw : List Switch) (ins : List Internal) (a c : ℕ) (t : Bool) → t ≡ true → In c (end_across a (ends (switch_edge s)))
    → In c (neighbours (map (λ s. ends (switch_edge s)) (cond t (s ∷ filter (switch_passes rule) sw) (filter (switch_passes rule) sw)) ++ map (λ i. ends (internal_edge i)) ins) a)
unfolding neighbours
here_by rule s sw ins a c true e h = In_left c (end_across a (ends (switch_edge s))) (flat_map (end_across a) (pairs_of rule sw ins)) h
here_by rule s sw ins a c false e h = absurd (false≢true e)

pub place_gives : (rule : Rule) (sw : List Switch) (ins : List Internal) (a c place : ℕ) (pair : ℕ × ℕ) → slice_get (ends_all sw ins) place ≡ Some pair → across a pair ≡ Some c
    → lets_at rule (slice_get sw place) ≡ true → In c (neighbours (pairs_of rule sw ins) a)
unfolding lets_at
place_gives rule [] ins a c place pair e f p = in_internal ins a c place pair e f
place_gives rule (s ∷ sw) ins a c zero pair e f p =
    let P : ℕ × ℕ → Type 0 = λ z. In c (end_across a z) in
    here_by rule s sw ins a c (switch_passes rule s) p (subst P (sym (some_same (ends (switch_edge s)) pair e)) (end_over a c pair f))
place_gives rule (s ∷ sw) ins a c (suc place) pair e f p = kept_by rule s sw ins a c (switch_passes rule s) (place_gives rule sw ins a c place pair e f p)

-- ---- walks and paths

pub record Along (rule : Rule) (level : VoltageLevel) (a : ℕ) (visits : List ℕ) : Type 0 where
  pub path : List ℕ
  pub goes : visited (all_ends level) a path ≡ Some (a ∷ visits)
  pub lets : list_all (lets rule level) path ≡ true

pub along_walk : (rule : Rule) (level : VoltageLevel) (a b : ℕ) (visits : List ℕ) → Walk (passing rule level) a b visits → Along rule level a visits × (last_in a visits ≡ b)
unfolding Walk visited passing edges all_ends lets last_in
along_walk rule level a b [] w = (record { path = []; goes = refl; lets = refl }, w)
along_walk rule level a b (c ∷ rest) w =
    let f = find_place rule level.switches level.internals a c w.0 in
    let r = along_walk rule level c b rest w.1 in (
      record {
        path = f.place ∷ r.0.path;
        goes = visits_on (all_ends level) a f.place c r.0.path (c ∷ rest) f.pair f.at f.over r.0.goes;
        lets = and_from (lets rule level f.place) (list_all (lets rule level) r.0.path) f.passes r.0.lets;
      },
      r.1,
    )

pub walk_along : (rule : Rule) (level : VoltageLevel) (path : List ℕ) (a : ℕ) (visits : List ℕ) → visited (all_ends level) a path ≡ Some (a ∷ visits) → list_all (lets rule level) path ≡ true
    → Walk (passing rule level) a (last_in a visits) visits
unfolding Walk visited passing edges all_ends lets last_in
walk_along rule level [] a visits e p =
    let same : a ∷ [] ≡ a ∷ visits = some_same (a ∷ []) (a ∷ visits) e in
    let tail : [] ≡ visits = cc in
    let P : List ℕ → Type 0 = λ z. Walk (passing rule level) a (last_in a z) z in subst P tail refl
walk_along rule level (place ∷ rest) a visits e p =
    let f = first_edge (all_ends level) a place rest (a ∷ visits) e in
    let b = begins (all_ends level) f.next rest f.onward f.goes in
    let whole : a ∷ visits ≡ a ∷ f.next ∷ b.0 = f.all ∙ ap (λ z. a ∷ z) b.1 in
    let tail : visits ≡ f.next ∷ b.0 = cc in
    let parts = and_parts (lets rule level place) (list_all (lets rule level) rest) p in
    let P : List ℕ → Type 0 = λ z. Walk (passing rule level) a (last_in a z) z in
    subst P (sym tail) (place_gives rule level.switches level.internals a f.next place f.pair f.at f.over parts.0, walk_along rule level rest f.next b.0 (f.goes ∙ ap Some b.1) parts.1)

pub neighbour_end : (rule : Rule) (level : VoltageLevel) (a c : ℕ) → In c (neighbours (passing rule level) a) → IsEnd (all_ends level) c
unfolding passing edges all_ends
neighbour_end rule level a c i =
    let f = find_place rule level.switches level.internals a c i in
    (f.pair, got_Member (all_ends level) f.place f.pair f.at, elim (across_ends a c f.pair f.over) [ inl h ↦ inr (sym h.1) | inr h ↦ inl (sym h.1) ])
