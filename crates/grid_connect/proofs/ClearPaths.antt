-- A node is connected where a closable path without open switches leads from it.
use Rattle.std.proofs.Common.{◌≡◌, refl, sym, ap, ◌∙◌, subst, ℕ, ◌+◌, Bool, true, false, cond, not, ◌&&◌, ◌||◌, List, [], ◌∷◌, length, arith}
use Rattle.std.specs.Prelude.{Option, Some, None, eqb, slice_get, unwrap_or, count_by}
use Rattle.std.specs.List.{list_all, IsDistinct, AllByRecursion}
use Rattle.std.proofs.lemmas.Bool.{false≢true, and_parts, and_from, not-true}
use Rattle.std.proofs.lemmas.Map.Keys.{IsDistinct-head, IsDistinct-tail}
use Rattle.grid_lemmas.proofs.Bools.{not_false}
use Rattle.grid_lemmas.proofs.Counts.{count_cons}
use Rattle.grid_graph.specs.Joined.{joined}
use Rattle.grid_graph.proofs.Reach.{In, In_here, In_there, any_from, any_of, within_Walk, Walk_within, simple_from, Holds, within_saturates, visited_in}
use Rattle.grid_level.specs.declared.Switch.{Switch}
use Rattle.grid_level.specs.VoltageLevel.{VoltageLevel}
use Rattle.grid_level.specs.Passing.{Rule, bus, nodes, passing, passes_closed, switch_passes, joined_under, is_connected, carries_busbar, is_operable}
use Rattle.grid_paths.specs.Paths.{has_node, all_differ, visited, differ_if_some, is_path, last_in, last_node}
use Rattle.grid_paths.proofs.Least.{begins}
use Rattle.grid_connect.specs.Plans.{all_ends, opened_at, is_open, closable_at, may_be_closed, is_closable}
use Rattle.grid_connect.proofs.Bridge.{lets_at, lets, along_walk, walk_along, neighbour_end}
use Rattle.grid_connect.proofs.ConnectPlans.{ends_are_nodes}

-- ---- tests over lists of places

pub all_from : (p q : ℕ → Bool) → ((n : ℕ) → p n ≡ true → q n ≡ true) → (xs : List ℕ) → list_all p xs ≡ true → list_all q xs ≡ true
all_from p q f [] h = refl
all_from p q f (x ∷ xs) h = let parts = and_parts (p x) (list_all p xs) h in and_from (q x) (list_all q xs) (f x parts.0) (all_from p q f xs parts.1)

none_by : (t : Bool) (n : ℕ) → cond t 1 0 + n ≡ 0 → (t ≡ false) × (n ≡ 0)
none_by true n h = absurd (omega (arith, h))
none_by false n h = (refl, omega (arith, h))

pub none_counted : (p : ℕ → Bool) (xs : List ℕ) → count_by p xs ≡ 0 → list_all (λ n. not (p n)) xs ≡ true
none_counted p [] h = refl
none_counted p (x ∷ xs) h =
    let parts = none_by (p x) (count_by p xs) (sym (count_cons p x xs) ∙ h) in
    and_from (not (p x)) (list_all (λ n. not (p n)) xs) (not_false (p x) parts.0) (none_counted p xs parts.1)

pub counted_none : (p : ℕ → Bool) (xs : List ℕ) → list_all (λ n. not (p n)) xs ≡ true → count_by p xs ≡ 0
counted_none p [] h = refl
counted_none p (x ∷ xs) h =
    let parts = and_parts (not (p x)) (list_all (λ n. not (p n)) xs) h in
    count_cons p x xs ∙ ap (λ t. cond t 1 0 + count_by p xs) (not-true (p x) parts.0) ∙ (let r = counted_none p xs parts.1 in omega (arith, r))

-- ---- what the bus rule lets pass is closed

closed_by : (o b : Bool) → not o && b ≡ true → not o ≡ true
closed_by true b h = h
closed_by false b h = refl

pub may_by : (o b : Bool) → not o ≡ true → not o || b ≡ true
may_by true b h = absurd (false≢true h)
may_by false b h = refl

lets_closed : (o : Option Switch) → lets_at bus o ≡ true → not (opened_at o) ≡ true
unfolding lets_at switch_passes passes_closed opened_at
lets_closed (Some s) h = closed_by s.opened true h
lets_closed None h = refl

closed_lets : (o : Option Switch) → not (opened_at o) ≡ true → lets_at bus o ≡ true
unfolding lets_at switch_passes passes_closed opened_at
closed_lets (Some s) h = and_from (not s.opened) true h refl
closed_lets None h = refl

pub closed_may : (o : Option Switch) → not (opened_at o) ≡ true → closable_at o ≡ true
unfolding closable_at opened_at
closed_may (Some s) h = may_by s.opened (is_operable s) h
closed_may None h = refl

-- ---- distinct visits

absent_has : (n : ℕ) (ns : List ℕ) → AllByRecursion (λ y. eqb n y ≡ false) ns → has_node ns n ≡ false
unfolding has_node
absent_has n [] h = refl
absent_has n (m ∷ ns) h = rw h.0 (absent_has n ns h.1)

pub differ_of : (ns : List ℕ) → IsDistinct eqb ns → all_differ ns ≡ true
unfolding all_differ
differ_of [] h = refl
differ_of (n ∷ ns) h = and_from (not (has_node ns n)) (all_differ ns) (not_false (has_node ns n) (absent_has n ns (IsDistinct-head eqb n ns h))) (differ_of ns (IsDistinct-tail eqb n ns h))

last_is : (a : ℕ) (visits : List ℕ) → In (last_in a visits) (a ∷ visits)
unfolding last_in
last_is a [] = In_here a []
last_is a (v ∷ vs) = In_there (last_in v vs) a (v ∷ vs) (last_is v vs)

-- ---- the nodes hold the pairs of each rule

pub has_In : (ns : List ℕ) (n : ℕ) → has_node ns n ≡ true → In n ns
unfolding has_node
has_In ns n h = h

pub level_holds : (rule : Rule) (level : VoltageLevel) → Holds (nodes level) (passing rule level)
level_holds rule level = record { across = λ a c i. has_In (nodes level) c (ends_are_nodes level c (neighbour_end rule level a c i)) }

-- ---- both ways

pub record Clear (level : VoltageLevel) (a : ℕ) : Type 0 where
  pub path : List ℕ
  pub closable : is_closable level a path ≡ true
  pub none : count_by (is_open level) path ≡ 0

pub closable_of : (level : VoltageLevel) (a b : ℕ) (path visits : List ℕ) → visited (all_ends level) a path ≡ Some (a ∷ visits) → all_differ (a ∷ visits) ≡ true → last_in a visits ≡ b
    → carries_busbar level b ≡ true → list_all (may_be_closed level) path ≡ true → is_closable level a path ≡ true
unfolding is_closable is_path last_node differ_if_some last_in
closable_of level a b path visits e d l c m = rw (e, d, l, c, m) refl

clear_at : (level : VoltageLevel) (a b : ℕ) → carries_busbar level b ≡ true → joined_under bus level a b ≡ true → Clear level a
unfolding joined_under joined lets may_be_closed is_open
clear_at level a b carries h =
    let w = Walk_within (passing bus level) (length (nodes level)) a b h in
    let s = simple_from (passing bus level) a b w.0 w.1 in
    let r = along_walk bus level a b s.0 s.1.walk in
    let closed : list_all (λ p. not (is_open level p)) r.0.path ≡ true = all_from (lets bus level) (λ p. not (is_open level p)) (λ p k. lets_closed (slice_get level.switches p) k) r.0.path r.0.lets in
    record {
      path = r.0.path;
      closable = closable_of level a b r.0.path s.0 r.0.goes (differ_of (a ∷ s.0) s.1.distinct) r.1 carries
          (all_from (λ p. not (is_open level p)) (may_be_closed level) (λ p k. closed_may (slice_get level.switches p) k) r.0.path closed);
      none = counted_none (is_open level) r.0.path closed;
    }

pub connected_clear : (level : VoltageLevel) (a : ℕ) → is_connected level a ≡ true → Clear level a
unfolding is_connected
connected_clear level a h =
    let r = any_from (λ b. carries_busbar level b && joined_under bus level a b) (nodes level) h in
    let parts = and_parts (carries_busbar level r.0) (joined_under bus level a r.0) r.2 in
    clear_at level a r.0 parts.0 parts.1

pub record Parts (level : VoltageLevel) (a : ℕ) (path : List ℕ) : Type 0 where
  pub visits : List ℕ
  pub goes : visited (all_ends level) a path ≡ Some (a ∷ visits)
  pub differ : all_differ (a ∷ visits) ≡ true
  pub carries : carries_busbar level (last_in a visits) ≡ true
  pub may : list_all (may_be_closed level) path ≡ true

parts_by : (level : VoltageLevel) (a : ℕ) (path : List ℕ) (o : Option (List ℕ)) → visited (all_ends level) a path ≡ o → differ_if_some o ≡ true
    → carries_busbar level (last_in a (unwrap_or o [])) ≡ true → list_all (may_be_closed level) path ≡ true → Parts level a path
unfolding differ_if_some last_in
parts_by level a path None e d c m = absurd (false≢true d)
parts_by level a path (Some seen) e d c m =
    let b = begins (all_ends level) a path seen e in
    let P : List ℕ → Type 0 = λ z. all_differ z ≡ true in
    let Q : List ℕ → Type 0 = λ z. carries_busbar level (last_in a z) ≡ true in
    record { visits = b.0; goes = e ∙ ap Some b.1; differ = subst P b.1 d; carries = subst Q b.1 c; may = m }

pub parts_of : (level : VoltageLevel) (a : ℕ) (path : List ℕ) → is_closable level a path ≡ true → Parts level a path
unfolding is_closable is_path last_node
parts_of level a path h =
    let first = is_path (all_ends level) a path in
    let second = carries_busbar level (last_node (all_ends level) a path) in
    let outer = and_parts (first && second) (list_all (may_be_closed level) path) h in
    let inner = and_parts first second outer.0 in
    parts_by level a path (visited (all_ends level) a path) refl inner.0 inner.1 outer.1

pub clear_connected : (level : VoltageLevel) (a : ℕ) → In a (nodes level) → Clear level a → is_connected level a ≡ true
unfolding is_connected joined_under lets is_open
clear_connected level a i c =
    let p = parts_of level a c.path c.closable in
    let closed = none_counted (is_open level) c.path c.none in
    let passing_all : list_all (lets bus level) c.path ≡ true = all_from (λ n. not (is_open level n)) (lets bus level) (λ n k. closed_lets (slice_get level.switches n) k) c.path closed in
    let walk = walk_along bus level c.path a p.visits p.goes passing_all in
    let b = last_in a p.visits in
    let holds = level_holds bus level in
    let at : In b (nodes level) = visited_in (nodes level) (passing bus level) holds a b p.visits walk i b (last_is a p.visits) in
    any_of (λ b. carries_busbar level b && joined_under bus level a b) (nodes level) b at
    (and_from (carries_busbar level b) (joined_under bus level a b) p.carries
    (within_saturates (nodes level) (passing bus level) holds (length p.visits) a b i (within_Walk (passing bus level) a b p.visits walk)))
