-- A level with named switches in another position.
use Rattle.std.proofs.Common.{◌≡◌, refl, sym, ap, ◌∙◌, subst, ℕ, zero, suc, ◌+◌, Bool, true, false, cond, not, ◌||◌, List, [], ◌∷◌, ◌++◌, inl, inr, ◌⊎◌, arith}
use Rattle.std.specs.Prelude.{Some, eqb, slice_get, map, filter}
use Rattle.std.specs.List.{list_any, list_all, flat_map}
use Rattle.std.proofs.lemmas.Bool.{false≢true, and_from, cases_Bool, eq-eqb}
use Rattle.grid_lemmas.proofs.Bools.{not_false}
use Rattle.grid_graph.proofs.Reach.{In}
use Rattle.grid_level.specs.declared.Switch.{Switch}
use Rattle.grid_level.specs.VoltageLevel.{VoltageLevel}
use Rattle.grid_level.specs.Passing.{Edge, switch_edge, internal_edge, edges, ends, both, rising, named, nodes, is_connected, carries_busbar}
use Rattle.grid_paths.specs.Paths.{has_node, visited, last_in}
use Rattle.grid_connect.specs.Plans.{all_ends, opened_at, is_open, may_be_closed, is_closable}
use Rattle.grid_connect.specs.Effects.{moved, with_moved, Connects}
use Rattle.grid_connect.proofs.ClearPaths.{all_from, clear_connected, parts_of, closable_of, counted_none, closed_may}
use Rattle.grid_connect.proofs.LeastPaths.{plan_with, LeastClosable}

-- ---- what stays

end_stays : (t o : Bool) (s : Switch) → ends (switch_edge (cond t (record s { opened = o }) s)) ≡ ends (switch_edge s)
unfolding ends
end_stays true o s = refl
end_stays false o s = refl

ends_stay : (places : List ℕ) (o : Bool) (k : ℕ) (sw : List Switch) (rest : List Edge) → map ends (map switch_edge (moved places o k sw) ++ rest) ≡ map ends (map switch_edge sw ++ rest)
unfolding moved
ends_stay places o k [] rest = refl
ends_stay places o k (s ∷ sw) rest =
    ap (λ z. z ∷ map ends (map switch_edge (moved places o (k + 1) sw) ++ rest)) (end_stays (has_node places k) o s)
    ∙ ap (λ z. ends (switch_edge s) ∷ z) (ends_stay places o (k + 1) sw rest)

pub all_ends_stay : (places : List ℕ) (o : Bool) (level : VoltageLevel) → all_ends (with_moved places o level) ≡ all_ends level
unfolding all_ends edges with_moved
all_ends_stay places o level = ends_stay places o 0 level.switches (map internal_edge level.internals)

both_of : (es : List Edge) → flat_map (λ e. both (ends e)) es ≡ flat_map both (map ends es)
both_of [] = refl
both_of (e ∷ es) = ap (λ z. both (ends e) ++ z) (both_of es)

pub nodes_stay : (places : List ℕ) (o : Bool) (level : VoltageLevel) → nodes (with_moved places o level) ≡ nodes level
unfolding nodes named all_ends with_moved
nodes_stay places o level =
    let e : flat_map (λ e. both (ends e)) (edges (with_moved places o level)) ≡ flat_map (λ e. both (ends e)) (edges level) =
    both_of (edges (with_moved places o level)) ∙ ap (flat_map both) (all_ends_stay places o level) ∙ sym (both_of (edges level)) in
    ap (λ z. rising (z ++ map (λ p. p.node) level.placed)) e

pub carries_stays : (places : List ℕ) (o : Bool) (level : VoltageLevel) (n : ℕ) → carries_busbar (with_moved places o level) n ≡ carries_busbar level n
unfolding carries_busbar with_moved
carries_stays places o level n = refl

-- ---- closing

shut_by : (t : Bool) (s : Switch) → (t ≡ true) ⊎ (s.opened ≡ false) → opened_at (Some (cond t (record s { opened = false }) s)) ≡ false
unfolding opened_at
shut_by true s h = refl
shut_by false s (inl e) = absurd (false≢true e)
shut_by false s (inr e) = e

shut_at : (places : List ℕ) (k : ℕ) (sw : List Switch) (p : ℕ) → (has_node places (k + p) ≡ true) ⊎ (opened_at (slice_get sw p) ≡ false) → opened_at (slice_get (moved places false k sw) p) ≡ false
unfolding moved opened_at
shut_at places k [] p h = refl
shut_at places k (s ∷ sw) zero h =
    let e : k + 0 ≡ k = omega arith in
    let P : ℕ → Type 0 = λ z. (has_node places z ≡ true) ⊎ (s.opened ≡ false) in
    shut_by (has_node places k) s (subst P e h)
shut_at places k (s ∷ sw) (suc p) h =
    let e : k + suc p ≡ k + 1 + p = omega arith in
    let P : ℕ → Type 0 = λ z. (has_node places z ≡ true) ⊎ (opened_at (slice_get sw p) ≡ false) in
    shut_at places (k + 1) sw p (subst P e h)

kept_there : (t : Bool) (x m : ℕ) (kept : List ℕ) → has_node kept m ≡ true → has_node (cond t (x ∷ kept) kept) m ≡ true
unfolding has_node
kept_there true x m kept h = by (eqb m x)
  where
    by : (t : Bool) → t || list_any (eqb m) kept ≡ true
    by true = refl
    by false = h
kept_there false x m kept h = h

kept_here : (t : Bool) (x : ℕ) (kept : List ℕ) → t ≡ true → has_node (cond t (x ∷ kept) kept) x ≡ true
unfolding has_node
kept_here true x kept h = rw (eq-eqb x x refl) refl
kept_here false x kept h = absurd (false≢true h)

all_shut : (level : VoltageLevel) (places path : List ℕ) → ((m : ℕ) → has_node (filter (is_open level) path) m ≡ true → has_node places m ≡ true)
    → list_all (λ p. not (is_open (with_moved places false level) p)) path ≡ true
unfolding is_open with_moved
all_shut level places [] h = refl
all_shut level places (p ∷ rest) h =
    and_from (not (is_open (with_moved places false level) p)) (list_all (λ p. not (is_open (with_moved places false level) p)) rest)
    (not_false _ (shut_at places 0 level.switches p (here (cases_Bool (is_open level p)))))
    (all_shut level places rest (λ m k. h m (kept_there (is_open level p) p m (filter (is_open level) rest) k)))
  where
    here : (is_open level p ≡ true) ⊎ (is_open level p ≡ false) → (has_node places (0 + p) ≡ true) ⊎ (opened_at (slice_get level.switches p) ≡ false)
    here (inl e) = inl (let z : p ≡ 0 + p = omega arith in let P : ℕ → Type 0 = λ n. has_node places n ≡ true in subst P z (h p (kept_here (is_open level p) p (filter (is_open level) rest) e)))
    here (inr e) = inr e

-- once the open switches of a closable path are closed, the node is connected
pub closing_connects : (level : VoltageLevel) (a : ℕ) (path : List ℕ) → In a (nodes level) → is_closable level a path ≡ true → is_connected (with_moved (filter (is_open level) path) false level) a ≡ true
unfolding may_be_closed is_open
closing_connects level a path i c =
    let places = filter (is_open level) path in
    let level' = with_moved places false level in
    let p = parts_of level a path c in
    let shut = all_shut level places path (λ m h. h) in
    let P : List ℕ → Type 0 = λ z. In a z in
    let Q : List (ℕ × ℕ) → Type 0 = λ z. visited z a path ≡ Some (a ∷ p.visits) in
    clear_connected level' a (subst P (sym (nodes_stay places false level)) i) (record {
      path = path;
      closable = closable_of level' a (last_in a p.visits) path p.visits (subst Q (sym (all_ends_stay places false level)) p.goes) p.differ refl
          (carries_stays places false level (last_in a p.visits) ∙ p.carries)
          (all_from (λ n. not (is_open level' n)) (may_be_closed level') (λ n k. closed_may (slice_get level'.switches n) k) path shut);
      none = counted_none (is_open level') path shut;
    })

connects_by : (level : VoltageLevel) (a : ℕ) (opens : List ℕ) → is_connected (with_moved opens false level) a ≡ true → Connects level a (plan_with opens)
unfolding plan_with
connects_by level a [] h = tt
connects_by level a (p ∷ ps) h = (omega arith, h)

pub plan_connects : (level : VoltageLevel) (a : ℕ) (path : List ℕ) → In a (nodes level) → LeastClosable level a path → Connects level a (plan_with (filter (is_open level) path))
plan_connects level a path i l = connects_by level a (filter (is_open level) path) (closing_connects level a path i l.closable)
