-- What the definitions of a level's edits make of its rules.
use Rattle.std.proofs.Common.{◌≡◌, refl, sym, ap, ◌∙◌, subst, ℕ, ℤ, pos, negsuc, ◌+◌, ◌<◌, ◌≤◌, Bool, true, false, cond, ◌&&◌, List, [], ◌∷◌, ◌++◌, length, arith, Option, Some, None, append_assoc}
use Rattle.std.specs.Prelude.{map, flat_map, nat_lt, nat_le, ◌==◌, filter, Result, Ok, Err, is_none}
use Rattle.std.specs.Option.{option_map}
use Rattle.std.specs.List.{list_all}
use Rattle.std.proofs.lemmas.Bool.{and_parts, and_from, leb-true, le-leb, ltb-false, leb-false, not_from_false}
use Rattle.std.proofs.lemmas.Grind.{common_steps}
use Rattle.std.proofs.lemmas.List.{append-nil, map-append}
use Rattle.std.proofs.lemmas.List.Folds.{list_all-append}
use Rattle.grid_lemmas.proofs.Lists.{length_filter}
use Rattle.grid_ids.specs.Refusing.{◌>>=◌, refuse_if}
use Rattle.grid_kinds.specs.Records.{level_fault}
use Rattle.grid_level.specs.declared.Placed.{Placed}
use Rattle.grid_level.specs.declared.Switch.{Switch}
use Rattle.grid_level.specs.declared.Internal.{Internal}
use Rattle.grid_level.specs.VoltageLevel.{VoltageLevel}
use Rattle.grid_level.specs.Passing.{switch_edge, internal_edge, edges, ends, named, nodes, with_node, rising, is_rising}
use Rattle.grid_level.specs.LevelEdits.{Unfit, node_range, same_node, too_many_nodes, too_many_edges, max_node, max_edges, max_nodes, node_of, edge_fits, without_first}
use Rattle.grid_level.specs.Sound.{stand_passes, ends_differ, level_passes}
use Rattle.grid_level.specs.Kept.{IsWithin}
use Rattle.grid_level.proofs.NodeCounts.{length-with_node, rising_insert}
use Rattle.grid_level.proofs.Places.{list_all-with_node}
use Rattle.grid_level.proofs.EditUses.{switch_nodes, internal_nodes, placed_nodes, named_is, length-edges, switch_nodes-append, internal_nodes-append, grown_nodes, shrunk_nodes}

-- ---- the rules by name

pub record Passes (level : VoltageLevel) : Type 0 where
  pub within : IsWithin level
  pub stands : list_all stand_passes level.placed ≡ true
  pub volts : is_none (level_fault level.nominal_v level.low_v level.high_v) ≡ true

pub list_all-rising : (p : ℕ → Bool) (ns : List ℕ) → list_all p (rising ns) ≡ list_all p ns
unfolding rising
list_all-rising p [] = refl
list_all-rising p (n ∷ ns) = list_all-with_node p n (rising ns) ∙ ap (λ z. p n && z) (list_all-rising p ns)

pub passes_of : (level : VoltageLevel) → level_passes level ≡ true → Passes level
unfolding level_passes nodes
passes_of level h =
    let a = and_parts _ _ h in let b = and_parts _ _ a.1 in let d = and_parts _ _ b.1 in let e = and_parts _ _ d.1 in let f = and_parts _ _ e.1 in let g = and_parts _ _ f.1 in
    record {
      within = record {
        in_range = sym (list_all-rising (λ n. nat_le n max_node) (named level)) ∙ a.0;
        few_nodes = leb-true _ _ b.0;
        few_edges = leb-true _ _ d.0;
        differ = e.0;
        rise = f.0;
      };
      stands = g.0;
      volts = g.1;
    }

pub passes_from : (level : VoltageLevel) → Passes level → level_passes level ≡ true
unfolding level_passes nodes
passes_from level k =
    let w = k.within in
    and_from _ _ (list_all-rising (λ n. nat_le n max_node) (named level) ∙ w.in_range) (and_from _ _ (le-leb _ _ w.few_nodes) (and_from _ _ (le-leb _ _ w.few_edges)
    (and_from _ _ w.differ (and_from _ _ w.rise (and_from _ _ k.stands k.volts)))))

pub all_parts : {X : Type 0} (p : X → Bool) (xs ys : List X) → list_all p (xs ++ ys) ≡ true → (list_all p xs ≡ true) × (list_all p ys ≡ true)
all_parts p xs ys h = and_parts _ _ (sym (list_all-append p xs ys) ∙ h)

pub all_join : {X : Type 0} (p : X → Bool) (xs ys : List X) → list_all p xs ≡ true → list_all p ys ≡ true → list_all p (xs ++ ys) ≡ true
all_join p xs ys h k = list_all-append p xs ys ∙ and_from _ _ h k

-- ---- nodes of a part

pub drop_some : (pre g post : List ℕ) → length (rising (pre ++ post)) ≤ length (rising (pre ++ (g ++ post)))
drop_some pre [] post = omega arith
drop_some pre (n ∷ g) post = omega (arith, drop_some pre g post, ap length (rising_insert pre n (g ++ post)), length-with_node n (rising (pre ++ (g ++ post))))

pub fewer_nodes : {X : Type 0} (g : X → List ℕ) (p : X → Bool) (xs : List X) (pre post : List ℕ)
    → length (rising (pre ++ (flat_map g (filter p xs) ++ post))) ≤ length (rising (pre ++ (flat_map g xs ++ post)))
fewer_nodes g p [] pre post = omega arith
fewer_nodes {X} g p (x ∷ xs) pre post = by (p x) (fewer_nodes g p xs (pre ++ g x) post) (fewer_nodes g p xs pre post)
  where
    by : (t : Bool) → length (rising ((pre ++ g x) ++ (flat_map g (filter p xs) ++ post))) ≤ length (rising ((pre ++ g x) ++ (flat_map g xs ++ post)))
        → length (rising (pre ++ (flat_map g (filter p xs) ++ post))) ≤ length (rising (pre ++ (flat_map g xs ++ post)))
        → length (rising (pre ++ (flat_map g (cond t (x ∷ filter p xs) (filter p xs)) ++ post))) ≤ length (rising (pre ++ ((g x ++ flat_map g xs) ++ post)))
    by true keep skip = rw (append_assoc (g x) (flat_map g (filter p xs)) post, append_assoc (g x) (flat_map g xs) post, ← append_assoc pre (g x) (flat_map g (filter p xs) ++ post), ← append_assoc pre (g x) (flat_map g xs ++ post)) keep
    by false keep skip = rw (append_assoc (g x) (flat_map g xs) post) (omega (arith, skip, drop_some pre (g x) (flat_map g xs ++ post)))

-- ---- steps of which the first that refuses gives the answer

pub record Went {A B E : Type 0} (r : Result A E) (f : A → Result B E) (y : B) : Type 0 where
  pub value : A
  pub is : r ≡ Ok value
  pub next : f value ≡ Ok y

pub went : {A B E : Type 0} (r : Result A E) (f : A → Result B E) (y : B) → (r >>= f) ≡ Ok y → Went r f y
went (Ok x) f y h = record { value = x; is = refl; next = h }
went (Err e) f y h = cc

pub not_refused : {E : Type 0} (t : Bool) (e : E) (u : Unit {0}) → refuse_if t e ≡ Ok u → t ≡ false
not_refused true e u h = cc
not_refused false e u h = refl

pub record Fitting (level : VoltageLevel) (node1 node2 : ℤ) (pair : ℕ × ℕ) : Type 0 where
  pub first : node_of node1 ≡ Ok pair.0
  pub second : node_of node2 ≡ Ok pair.1
  pub apart : (pair.0 == pair.1) ≡ false
  pub room : length (edges level) < max_edges
  pub few : length (with_node pair.0 (with_node pair.1 (nodes level))) ≤ max_nodes

pub fitting : (level : VoltageLevel) (node1 node2 : ℤ) (pair : ℕ × ℕ) → edge_fits level node1 node2 ≡ Ok pair → Fitting level node1 node2 pair
unfolding edge_fits
fitting level node1 node2 pair h =
    let a = went (node_of node1) _ pair h in
    let b = went (node_of node2) _ pair a.next in
    let s = went (refuse_if (a.value == b.value) (same_node node1)) _ pair b.next in
    let e = went (refuse_if (nat_le max_edges (length (edges level))) too_many_edges) _ pair s.next in
    let n = went (refuse_if (nat_lt max_nodes (length (with_node a.value (with_node b.value (nodes level))))) too_many_nodes) _ pair e.next in
    let same : (a.value, b.value) ≡ pair = cc (n.next) in
    let fits : Fitting level node1 node2 (a.value, b.value) = record {
      first = a.is;
      second = b.is;
      apart = not_refused _ _ _ s.is;
      room = leb-false _ _ (not_refused _ _ _ e.is);
      few = ltb-false _ _ (not_refused _ _ _ n.is);
    } in
    subst (λ (z : ℕ × ℕ). Fitting level node1 node2 z) same fits

pub node_of-le : (node : ℤ) (n : ℕ) → node_of node ≡ Ok n → n ≤ max_node
unfolding node_of
node_of-le (pos k) n h = by (nat_le k max_node) refl h
  where
    by : (t : Bool) → nat_le k max_node ≡ t → ◌≡◌ {A = Result ℕ Unfit} (cond t (Ok k) (Err (node_range (pos k)))) (Ok n) → n ≤ max_node
    by true q h = let same : k ≡ n = cc in let le : k ≤ max_node = leb-true k max_node q in omega arith
    by false q h = cc
node_of-le (negsuc k) n h = cc

-- ---- a switch more, an internal connection more

abbrev pub with_switch : VoltageLevel → Switch → VoltageLevel
with_switch level s = record level { switches = level.switches ++ s ∷ [] }

abbrev pub with_internal : VoltageLevel → Internal → VoltageLevel
with_internal level i = record level { internals = level.internals ++ i ∷ [] }

pub named_switch : (level : VoltageLevel) (s : Switch) → named (with_switch level s) ≡ switch_nodes level.switches ++ s.node1 ∷ s.node2 ∷ (internal_nodes level.internals ++ placed_nodes level.placed)
named_switch level s = named_is (with_switch level s) ∙ rw (switch_nodes-append level.switches (s ∷ []), append_assoc) refl

pub named_internal : (level : VoltageLevel) (i : Internal) → named (with_internal level i) ≡ (switch_nodes level.switches ++ internal_nodes level.internals) ++ i.node1 ∷ i.node2 ∷ placed_nodes level.placed
named_internal level i = named_is (with_internal level i) ∙ rw (internal_nodes-append level.internals (i ∷ []), append_assoc, append_assoc) refl

pub named_is_left : (level : VoltageLevel) → named level ≡ (switch_nodes level.switches ++ internal_nodes level.internals) ++ placed_nodes level.placed
named_is_left level = named_is level ∙ sym (append_assoc (switch_nodes level.switches) (internal_nodes level.internals) (placed_nodes level.placed))

two_more : (p : ℕ → Bool) (P : List ℕ) (a b : ℕ) (Q : List ℕ) → p a ≡ true → p b ≡ true → list_all p (P ++ Q) ≡ true → list_all p (P ++ a ∷ b ∷ Q) ≡ true
two_more p P a b Q ha hb h = let parts = all_parts p P Q h in all_join p P (a ∷ b ∷ Q) parts.0 (and_from _ _ ha (and_from _ _ hb parts.1))

pub switch_within : (level : VoltageLevel) (s : Switch) → IsWithin level → s.node1 ≤ max_node → s.node2 ≤ max_node → (s.node1 == s.node2) ≡ false
    → length (edges level) < max_edges → length (with_node s.node1 (with_node s.node2 (nodes level))) ≤ max_nodes → IsWithin (with_switch level s)
unfolding nodes edges ends_differ ends
switch_within level s k a b apart room few = record {
  in_range = rw (named_switch level s) (two_more (λ n. nat_le n max_node) (switch_nodes level.switches) s.node1 s.node2 (internal_nodes level.internals ++ placed_nodes level.placed) (le-leb s.node1 max_node a) (le-leb s.node2 max_node b) (rw (named_is level) at k.in_range));
  few_nodes = rw (named_switch level s, grown_nodes (switch_nodes level.switches) s.node1 s.node2 (internal_nodes level.internals ++ placed_nodes level.placed)) (rw (named_is level) at few);
  few_edges = (let more : length (level.switches ++ s ∷ []) ≡ length level.switches + 1 = grind (arith, common_steps) in omega (arith, length-edges (with_switch level s), length-edges level));
  differ = (let parts = all_parts ends_differ (map switch_edge level.switches) (map internal_edge level.internals) k.differ in
      all_join ends_differ (map switch_edge (level.switches ++ s ∷ [])) (map internal_edge level.internals)
      (rw (map-append switch_edge level.switches (s ∷ [])) (all_join ends_differ (map switch_edge level.switches) (switch_edge s ∷ []) parts.0 (and_from _ _ (not_from_false _ apart) refl))) parts.1);
  rise = k.rise;
}

pub switch_passes_on : (level : VoltageLevel) (s : Switch) → Passes level → s.node1 ≤ max_node → s.node2 ≤ max_node → (s.node1 == s.node2) ≡ false
    → length (edges level) < max_edges → length (with_node s.node1 (with_node s.node2 (nodes level))) ≤ max_nodes → Passes (with_switch level s)
switch_passes_on level s k a b apart room few = record { within = switch_within level s k.within a b apart room few; stands = k.stands; volts = k.volts }

pub internal_within : (level : VoltageLevel) (i : Internal) → IsWithin level → i.node1 ≤ max_node → i.node2 ≤ max_node → (i.node1 == i.node2) ≡ false
    → length (edges level) < max_edges → length (with_node i.node1 (with_node i.node2 (nodes level))) ≤ max_nodes → IsWithin (with_internal level i)
unfolding nodes edges ends_differ ends
internal_within level i k a b apart room few = record {
  in_range = rw (named_internal level i) (two_more (λ n. nat_le n max_node) (switch_nodes level.switches ++ internal_nodes level.internals) i.node1 i.node2 (placed_nodes level.placed) (le-leb i.node1 max_node a) (le-leb i.node2 max_node b) (rw (named_is_left level) at k.in_range));
  few_nodes = rw (named_internal level i, grown_nodes (switch_nodes level.switches ++ internal_nodes level.internals) i.node1 i.node2 (placed_nodes level.placed)) (rw (named_is_left level) at few);
  few_edges = (let more : length (level.internals ++ i ∷ []) ≡ length level.internals + 1 = grind (arith, common_steps) in omega (arith, length-edges (with_internal level i), length-edges level));
  differ = (let parts = all_parts ends_differ (map switch_edge level.switches) (map internal_edge level.internals) k.differ in
      all_join ends_differ (map switch_edge level.switches) (map internal_edge (level.internals ++ i ∷ [])) parts.0
      (rw (map-append internal_edge level.internals (i ∷ [])) (all_join ends_differ (map internal_edge level.internals) (internal_edge i ∷ []) parts.1 (and_from _ _ (not_from_false _ apart) refl))));
  rise = k.rise;
}

pub internal_passes_on : (level : VoltageLevel) (i : Internal) → Passes level → i.node1 ≤ max_node → i.node2 ≤ max_node → (i.node1 == i.node2) ≡ false
    → length (edges level) < max_edges → length (with_node i.node1 (with_node i.node2 (nodes level))) ≤ max_nodes → Passes (with_internal level i)
internal_passes_on level i k a b apart room few = record { within = internal_within level i k.within a b apart room few; stands = k.stands; volts = k.volts }

-- ---- an internal connection less

pub record Cut {X : Type 0} (test : X → Bool) (xs rest : List X) : Type 0 where
  pub before : List X
  pub item : X
  pub after : List X
  pub is : xs ≡ before ++ item ∷ after
  pub left : rest ≡ before ++ after

pub first_cut : {X : Type 0} (test : X → Bool) (xs rest : List X) → without_first test xs ≡ Some rest → Cut test xs rest
first_cut test [] rest h = cc
first_cut {X} test (x ∷ xs) rest h = by (test x) (without_first test xs) refl h (λ r e. first_cut test xs r e)
  where
    by : (t : Bool) (o : Option (List X)) → without_first test xs ≡ o → ◌≡◌ {A = Option (List X)} (cond t (Some xs) (option_map (λ r. x ∷ r) o)) (Some rest)
        → ((r : List X) → without_first test xs ≡ Some r → Cut test xs r) → Cut test (x ∷ xs) rest
    by true o e h again = let same : xs ≡ rest = cc in record { before = []; item = x; after = xs; is = refl; left = sym same }
    by false None e h again = cc
    by false (Some r) e h again =
        let same : x ∷ r ≡ rest = cc in
        let k = again r e in
        record { before = x ∷ k.before; item = k.item; after = k.after; is = ap (λ z. x ∷ z) k.is; left = sym same ∙ ap (λ z. x ∷ z) k.left }

two_less : (p : ℕ → Bool) (P : List ℕ) (a b : ℕ) (Q : List ℕ) → list_all p (P ++ a ∷ b ∷ Q) ≡ true → list_all p (P ++ Q) ≡ true
two_less p P a b Q h = let parts = all_parts p P (a ∷ b ∷ Q) h in all_join p P Q parts.0 (and_parts _ _ (and_parts _ _ parts.1).1).1

abbrev pub with_internals : VoltageLevel → List Internal → VoltageLevel
with_internals level is = record level { internals = is }

pub named_cut : (level : VoltageLevel) (xs ys : List Internal) (i : Internal) → level.internals ≡ xs ++ i ∷ ys
    → named level ≡ (switch_nodes level.switches ++ internal_nodes xs) ++ i.node1 ∷ i.node2 ∷ (internal_nodes ys ++ placed_nodes level.placed)
named_cut level xs ys i e = named_is level ∙ rw (e, internal_nodes-append xs (i ∷ ys)) (simp append_assoc)

pub named_left : (level : VoltageLevel) (xs ys : List Internal) → named (with_internals level (xs ++ ys)) ≡ (switch_nodes level.switches ++ internal_nodes xs) ++ (internal_nodes ys ++ placed_nodes level.placed)
named_left level xs ys = named_is (with_internals level (xs ++ ys)) ∙ rw (internal_nodes-append xs ys) (simp append_assoc)

pub cut_within : (level : VoltageLevel) (xs ys : List Internal) (i : Internal) → level.internals ≡ xs ++ i ∷ ys → IsWithin level → IsWithin (with_internals level (xs ++ ys))
unfolding nodes edges
cut_within level xs ys i e k = record {
  in_range = rw (named_left level xs ys) (two_less (λ n. nat_le n max_node) (switch_nodes level.switches ++ internal_nodes xs) i.node1 i.node2 (internal_nodes ys ++ placed_nodes level.placed) (rw (named_cut level xs ys i e) at k.in_range));
  few_nodes = (let few : length (rising ((switch_nodes level.switches ++ internal_nodes xs) ++ i.node1 ∷ i.node2 ∷ (internal_nodes ys ++ placed_nodes level.placed))) ≤ max_nodes = rw (named_cut level xs ys i e) at k.few_nodes in
      rw (named_left level xs ys) (omega (arith, few, shrunk_nodes (switch_nodes level.switches ++ internal_nodes xs) i.node1 i.node2 (internal_nodes ys ++ placed_nodes level.placed))));
  few_edges = (let had : length level.internals ≡ length (xs ++ i ∷ ys) = ap length e in let long : length (xs ++ i ∷ ys) ≡ length (xs ++ ys) + 1 = grind (arith, common_steps) in omega (arith, k.few_edges, length-edges (with_internals level (xs ++ ys)), length-edges level));
  differ = (let parts = all_parts ends_differ (map switch_edge level.switches) (map internal_edge level.internals) k.differ in
      let those : list_all ends_differ (map internal_edge (xs ++ i ∷ ys)) ≡ true = rw e at parts.1 in
      let inner = all_parts ends_differ (map internal_edge xs) (map internal_edge (i ∷ ys)) (rw (map-append internal_edge xs (i ∷ ys)) at those) in
      all_join ends_differ (map switch_edge level.switches) (map internal_edge (xs ++ ys)) parts.0
      (rw (map-append internal_edge xs ys) (all_join ends_differ (map internal_edge xs) (map internal_edge ys) inner.0 (and_parts _ _ inner.1).1)));
  rise = k.rise;
}

pub cut_passes_on : (level : VoltageLevel) (xs ys : List Internal) (i : Internal) → level.internals ≡ xs ++ i ∷ ys → Passes level → Passes (with_internals level (xs ++ ys))
cut_passes_on level xs ys i e k = record { within = cut_within level xs ys i e k.within; stands = k.stands; volts = k.volts }

-- ---- a switch less

abbrev pub with_switches : VoltageLevel → List Switch → VoltageLevel
with_switches level ss = record level { switches = ss }

pub named_switch_cut : (level : VoltageLevel) (xs ys : List Switch) (s : Switch) → level.switches ≡ xs ++ s ∷ ys
    → named level ≡ switch_nodes xs ++ s.node1 ∷ s.node2 ∷ (switch_nodes ys ++ (internal_nodes level.internals ++ placed_nodes level.placed))
named_switch_cut level xs ys s e = named_is level ∙ rw (e, switch_nodes-append xs (s ∷ ys)) (simp append_assoc)

pub named_switch_left : (level : VoltageLevel) (xs ys : List Switch) → named (with_switches level (xs ++ ys)) ≡ switch_nodes xs ++ (switch_nodes ys ++ (internal_nodes level.internals ++ placed_nodes level.placed))
named_switch_left level xs ys = named_is (with_switches level (xs ++ ys)) ∙ rw (switch_nodes-append xs ys) (simp append_assoc)

pub switch_cut_within : (level : VoltageLevel) (xs ys : List Switch) (s : Switch) → level.switches ≡ xs ++ s ∷ ys → IsWithin level → IsWithin (with_switches level (xs ++ ys))
unfolding nodes edges
switch_cut_within level xs ys s e k =
    let rest = switch_nodes ys ++ (internal_nodes level.internals ++ placed_nodes level.placed) in
    record {
      in_range = rw (named_switch_left level xs ys) (two_less (λ n. nat_le n max_node) (switch_nodes xs) s.node1 s.node2 rest (rw (named_switch_cut level xs ys s e) at k.in_range));
      few_nodes = (let few : length (rising (switch_nodes xs ++ s.node1 ∷ s.node2 ∷ rest)) ≤ max_nodes = rw (named_switch_cut level xs ys s e) at k.few_nodes in
          rw (named_switch_left level xs ys) (omega (arith, few, shrunk_nodes (switch_nodes xs) s.node1 s.node2 rest)));
      few_edges = (let had : length level.switches ≡ length (xs ++ s ∷ ys) = ap length e in let long : length (xs ++ s ∷ ys) ≡ length (xs ++ ys) + 1 = grind (arith, common_steps) in omega (arith, k.few_edges, length-edges (with_switches level (xs ++ ys)), length-edges level));
      differ = (let parts = all_parts ends_differ (map switch_edge level.switches) (map internal_edge level.internals) k.differ in
          let those : list_all ends_differ (map switch_edge (xs ++ s ∷ ys)) ≡ true = rw e at parts.0 in
          let inner = all_parts ends_differ (map switch_edge xs) (map switch_edge (s ∷ ys)) (rw (map-append switch_edge xs (s ∷ ys)) at those) in
          all_join ends_differ (map switch_edge (xs ++ ys)) (map internal_edge level.internals)
          (rw (map-append switch_edge xs ys) (all_join ends_differ (map switch_edge xs) (map switch_edge ys) inner.0 (and_parts _ _ inner.1).1)) parts.1);
      rise = k.rise;
    }

-- ---- fewer switches, fewer terminals

pub all_filter : {X : Type 0} (p q : X → Bool) (xs : List X) → list_all p xs ≡ true → list_all p (filter q xs) ≡ true
all_filter p q [] h = refl
all_filter {X} p q (x ∷ xs) h = let parts = and_parts (p x) (list_all p xs) h in by (q x) parts.0 (all_filter p q xs parts.1)
  where
    by : (t : Bool) → p x ≡ true → list_all p (filter q xs) ≡ true → list_all p (cond t (x ∷ filter q xs) (filter q xs)) ≡ true
    by true a b = and_from _ _ a b
    by false a b = b

all_filter_map : {X Y : Type 0} (f : X → Y) (p : Y → Bool) (q : X → Bool) (xs : List X) → list_all p (map f xs) ≡ true → list_all p (map f (filter q xs)) ≡ true
all_filter_map f p q [] h = refl
all_filter_map {X} f p q (x ∷ xs) h = let parts = and_parts (p (f x)) (list_all p (map f xs)) h in by (q x) parts.0 (all_filter_map f p q xs parts.1)
  where
    by : (t : Bool) → p (f x) ≡ true → list_all p (map f (filter q xs)) ≡ true → list_all p (map f (cond t (x ∷ filter q xs) (filter q xs))) ≡ true
    by true a b = and_from _ _ a b
    by false a b = b

rising_filter : {X : Type 0} (f : X → ℕ) (q : X → Bool) (xs : List X) → is_rising (map f xs) ≡ true → is_rising (map f (filter q xs)) ≡ true
unfolding is_rising
rising_filter f q [] h = refl
rising_filter {X} f q (x ∷ xs) h = let parts = and_parts (list_all (nat_lt (f x)) (map f xs)) (is_rising (map f xs)) h in by (q x) (all_filter_map f (nat_lt (f x)) q xs parts.0) (rising_filter f q xs parts.1)
  where
    by : (t : Bool) → list_all (nat_lt (f x)) (map f (filter q xs)) ≡ true → is_rising (map f (filter q xs)) ≡ true → is_rising (map f (cond t (x ∷ filter q xs) (filter q xs))) ≡ true
    by true a b = and_from _ _ a b
    by false a b = b

all_flat_filter : {X : Type 0} (g : X → List ℕ) (p : ℕ → Bool) (q : X → Bool) (xs : List X) → list_all p (flat_map g xs) ≡ true → list_all p (flat_map g (filter q xs)) ≡ true
all_flat_filter g p q [] h = refl
all_flat_filter {X} g p q (x ∷ xs) h = let parts = all_parts p (g x) (flat_map g xs) h in by (q x) parts.0 (all_flat_filter g p q xs parts.1)
  where
    by : (t : Bool) → list_all p (g x) ≡ true → list_all p (flat_map g (filter q xs)) ≡ true → list_all p (flat_map g (cond t (x ∷ filter q xs) (filter q xs))) ≡ true
    by true a b = all_join p (g x) (flat_map g (filter q xs)) a b
    by false a b = b

switch_nodes_is : (ss : List Switch) → switch_nodes ss ≡ flat_map (λ (s : Switch). s.node1 ∷ s.node2 ∷ []) ss
switch_nodes_is [] = refl
switch_nodes_is (s ∷ ss) = ap (λ z. s.node1 ∷ s.node2 ∷ z) (switch_nodes_is ss)

pub placed_nodes_is : (ps : List Placed) → placed_nodes ps ≡ flat_map (λ (p : Placed). p.node ∷ []) ps
placed_nodes_is [] = refl
placed_nodes_is (p ∷ ps) = ap (λ z. p.node ∷ z) (placed_nodes_is ps)

pub fewer_switches_within : (q : Switch → Bool) (level : VoltageLevel) → IsWithin level → IsWithin (record level { switches = filter q level.switches })
unfolding nodes edges
fewer_switches_within q level k =
    let rest = internal_nodes level.internals ++ placed_nodes level.placed in
    let g = λ (s : Switch). s.node1 ∷ s.node2 ∷ [] in
    let old : named level ≡ flat_map g level.switches ++ rest = named_is level ∙ ap (λ z. z ++ rest) (switch_nodes_is level.switches) in
    let new : named (record level { switches = filter q level.switches }) ≡ flat_map g (filter q level.switches) ++ rest = named_is (record level { switches = filter q level.switches }) ∙ ap (λ z. z ++ rest) (switch_nodes_is (filter q level.switches)) in
    let range = all_parts (λ n. nat_le n max_node) (flat_map g level.switches) rest (rw old at k.in_range) in
    let edges_parts = all_parts ends_differ (map switch_edge level.switches) (map internal_edge level.internals) k.differ in
    let few : length (rising (flat_map g level.switches ++ rest)) ≤ max_nodes = rw old at k.few_nodes in
    record {
      in_range = rw new (all_join (λ n. nat_le n max_node) (flat_map g (filter q level.switches)) rest (all_flat_filter g (λ n. nat_le n max_node) q level.switches range.0) range.1);
      few_nodes = rw new (omega (arith, few, fewer_nodes g q level.switches [] rest));
      few_edges = omega (arith, k.few_edges, length_filter q level.switches, length-edges (record level { switches = filter q level.switches }), length-edges level);
      differ = all_join ends_differ (map switch_edge (filter q level.switches)) (map internal_edge level.internals) (all_filter_map switch_edge ends_differ q level.switches edges_parts.0) edges_parts.1;
      rise = k.rise;
    }

pub fewer_switches_pass : (q : Switch → Bool) (level : VoltageLevel) → Passes level → Passes (record level { switches = filter q level.switches })
fewer_switches_pass q level k = record { within = fewer_switches_within q level k.within; stands = k.stands; volts = k.volts }

pub fewer_placed_within : (q : Placed → Bool) (level : VoltageLevel) → IsWithin level → IsWithin (record level { placed = filter q level.placed })
unfolding nodes edges
fewer_placed_within q level k =
    let first = switch_nodes level.switches ++ internal_nodes level.internals in
    let g = λ (p : Placed). p.node ∷ [] in
    let old : named level ≡ first ++ (flat_map g level.placed ++ []) = named_is_left level ∙ ap (λ z. first ++ z) (placed_nodes_is level.placed ∙ sym (append-nil (flat_map g level.placed))) in
    let new : named (record level { placed = filter q level.placed }) ≡ first ++ (flat_map g (filter q level.placed) ++ []) = named_is_left (record level { placed = filter q level.placed }) ∙ ap (λ z. first ++ z) (placed_nodes_is (filter q level.placed) ∙ sym (append-nil (flat_map g (filter q level.placed)))) in
    let range = all_parts (λ n. nat_le n max_node) first (flat_map g level.placed ++ []) (rw old at k.in_range) in
    let inner = all_parts (λ n. nat_le n max_node) (flat_map g level.placed) [] range.1 in
    let few : length (rising (first ++ (flat_map g level.placed ++ []))) ≤ max_nodes = rw old at k.few_nodes in
    record {
      in_range = rw new (all_join (λ n. nat_le n max_node) first (flat_map g (filter q level.placed) ++ []) range.0 (all_join (λ n. nat_le n max_node) (flat_map g (filter q level.placed)) [] (all_flat_filter g (λ n. nat_le n max_node) q level.placed inner.0) refl));
      few_nodes = rw new (omega (arith, few, fewer_nodes g q level.placed first []));
      few_edges = k.few_edges;
      differ = k.differ;
      rise = rising_filter (λ (p : Placed). p.node) q level.placed k.rise;
    }

pub fewer_placed_pass : (q : Placed → Bool) (level : VoltageLevel) → Passes level → Passes (record level { placed = filter q level.placed })
fewer_placed_pass q level k = record { within = fewer_placed_within q level k.within; stands = all_filter stand_passes q level.placed k.stands; volts = k.volts }
