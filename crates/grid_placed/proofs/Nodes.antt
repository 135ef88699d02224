-- The nodes of a level in node/breaker form, and which of its switches pass.
use Rattle.std.proofs.Common.{◌≡◌, refl, sym, ap, ◌∙◌, ℕ, zero, suc, ◌+◌, ◌<◌, ◌≤◌, Bool, true, false, cond, not, ◌&&◌, List, [], ◌∷◌, ◌++◌, length, inl, inr, ◌⊎◌, ◌||◌, arith}
use Rattle.std.specs.Prelude.{eqb, nat_lt, map, filter, flat_map, All}
use Rattle.std.specs.List.{list_any, list_all, enumerate_from, range_with_len}
use Rattle.std.proofs.lemmas.Bool.{false≢true, and_parts, and_from, or_cases, lt-ltb, ltb-true, le-ltb, eqb-true, eq-eqb}
use Rattle.std.proofs.lemmas.List.{append-nil, map-append}
use Rattle.std.proofs.lemmas.List.Elements.{filter-append, All-head, All-tail}
use Rattle.grid_lemmas.proofs.Bools.{and_true}
use Rattle.grid_lemmas.proofs.Lists.{map_twice}
use Rattle.grid_graph.specs.Components.{places}
use Rattle.grid_graph.proofs.Reach.{In, In_here, In_there, In_parts}
use Rattle.grid_graph.proofs.Places.{In_places}
use Rattle.grid_level.specs.declared.Switch.{Switch}
use Rattle.grid_level.specs.declared.Placed.{Placed}
use Rattle.grid_level.specs.Passing.{bus, switch_edge, internal_edge, edges, ends, both, with_node, rising, named, nodes, is_rising, is_busbar, passing, switch_passes, passes_closed}
use Rattle.grid_level.proofs.CodePromises.{rising_self}
use Rattle.grid_placed.specs.Places.{Joint, Outlet, PlacedLevel, PlacesFit, closed_pairs}
use Rattle.grid_placed.specs.Translation.{joint_breaker, outlet_breaker, bus_section, outlet_placed, outlets_at, translated_level}

-- ---- ranges

pub range_join : (low m at n : ℕ) → low + m ≡ at → range_with_len low m ++ range_with_len at n ≡ range_with_len low (m + n)
range_join low zero at n e = let f : at ≡ low = omega (arith, e) in let g : n ≡ 0 + n = omega arith in ap (λ z. range_with_len z n) f ∙ ap (range_with_len low) g
range_join low (suc m) at n e =
    let f : suc (m + n) ≡ suc m + n = omega arith in
    ap (λ z. low ∷ z) (range_join (low + 1) m at n (omega (arith, e))) ∙ ap (range_with_len low) f

above_range : (n low count : ℕ) → n < low → list_all (nat_lt n) (range_with_len low count) ≡ true
above_range n low zero lt = refl
above_range n low (suc count) lt = and_from (nat_lt n low) (list_all (nat_lt n) (range_with_len (low + 1) count)) (lt-ltb n low lt) (above_range n (low + 1) count (omega arith))

pub range_rises : (low count : ℕ) → is_rising (range_with_len low count) ≡ true
unfolding is_rising
range_rises low zero = refl
range_rises low (suc count) = and_from (list_all (nat_lt low) (range_with_len (low + 1) count)) (is_rising (range_with_len (low + 1) count)) (above_range low (low + 1) count (omega arith)) (range_rises (low + 1) count)

-- ---- numbers that are there already

above_all : (m n : ℕ) (ns : List ℕ) → list_all (nat_lt m) ns ≡ true → In n ns → m < n
above_all m n [] h i = absurd (false≢true i)
above_all m n (x ∷ ns) h i =
    let parts = and_parts (nat_lt m x) (list_all (nat_lt m) ns) h in
    elim (or_cases (eqb n x) (list_any (eqb n) ns) i) [
      | inl e ↦ (let same : n ≡ x = eqb-true n x e in let less : m < x = ltb-true m x parts.0 in omega (arith, same, less))
      | inr j ↦ above_all m n ns parts.1 j
    ]

pub with_known : (n : ℕ) (ns : List ℕ) → is_rising ns ≡ true → In n ns → with_node n ns ≡ ns
unfolding with_node is_rising
with_known n [] h i = absurd (false≢true i)
with_known n (m ∷ ns) h i =
    let parts = and_parts (list_all (nat_lt m) ns) (is_rising ns) h in
    elim (or_cases (eqb n m) (list_any (eqb n) ns) i) [
      | inl e ↦ (let same : n ≡ m = eqb-true n m e in rw (le-ltb m n (omega (arith, same)), eq-eqb m n (sym same)) refl)
      | inr j ↦ rw (lt-ltb m n (above_all m n ns parts.0 j)) (ap (λ z. m ∷ z) (with_known n ns parts.1 j))
    ]

-- numbers that stand in a rising list add nothing to it
pub rising_known : (xs ns : List ℕ) → is_rising ns ≡ true → ((n : ℕ) → In n xs → In n ns) → rising (xs ++ ns) ≡ ns
unfolding rising
rising_known [] ns h known = rising_self ns h
rising_known (x ∷ xs) ns h known =
    ap (with_node x) (rising_known xs ns h (λ n i. known n (In_there n x xs i))) ∙ with_known x ns h (known x (In_here x xs))

-- ---- items by their places

pub enumerated : {X Y : Type 0} (f : X → Y) (at : ℕ) (xs : List X) → map (λ (e : ℕ × X). f e.1) (enumerate_from at xs) ≡ map f xs
enumerated f at [] = refl
enumerated f at (x ∷ xs) = ap (λ z. f x ∷ z) (enumerated f (at + 1) xs)

pub numbers_from : {X : Type 0} (at : ℕ) (xs : List X) → map (λ (e : ℕ × X). e.0) (enumerate_from at xs) ≡ range_with_len at (length xs)
numbers_from at [] = refl
numbers_from at (x ∷ xs) = ap (λ z. at ∷ z) (numbers_from (at + 1) xs)

filter_by : {X Y : Type 0} (f : X → Y) (x : X) (rest : List X) (t : Bool) → cond t (f x ∷ map f rest) (map f rest) ≡ map f (cond t (x ∷ rest) rest)
filter_by f x rest true = refl
filter_by f x rest false = refl

pub filter_map_of : {X Y : Type 0} (p : Y → Bool) (f : X → Y) (xs : List X) → filter p (map f xs) ≡ map f (filter (λ x. p (f x)) xs)
filter_map_of p f [] = refl
filter_map_of p f (x ∷ xs) = ap (λ z. cond (p (f x)) (f x ∷ z) z) (filter_map_of p f xs) ∙ filter_by f x (filter (λ x. p (f x)) xs) (p (f x))

-- ---- the nodes of a level

pub node_numbers : (level : PlacedLevel) → map (λ (p : Placed). p.node) (translated_level level).placed ≡ places (length level.buses + length level.outlets)
unfolding translated_level outlets_at bus_section outlet_placed places
node_numbers level =
    map-append (λ (p : Placed). p.node) (map bus_section (enumerate_from 0 level.buses)) (map outlet_placed (enumerate_from (length level.buses) level.outlets))
    ∙ ap (λ z. z ++ map (λ (p : Placed). p.node) (map outlet_placed (enumerate_from (length level.buses) level.outlets)))
    (map_twice (λ (p : Placed). p.node) bus_section (enumerate_from 0 level.buses) ∙ numbers_from 0 level.buses)
    ∙ ap (λ z. range_with_len 0 (length level.buses) ++ z)
    (map_twice (λ (p : Placed). p.node) outlet_placed (enumerate_from (length level.buses) level.outlets) ∙ numbers_from (length level.buses) level.outlets)
    ∙ range_join 0 (length level.buses) (length level.buses) (length level.outlets) (omega arith)

-- both ends of each switch are below a count
unfoldable pub EndsUnder : ℕ → List Switch → Type 0
EndsUnder count [] = Unit {0}
EndsUnder count (s ∷ rest) = (s.node1 < count) × (s.node2 < count) × EndsUnder count rest

pub under_join : (count : ℕ) (xs ys : List Switch) → EndsUnder count xs → EndsUnder count ys → EndsUnder count (xs ++ ys)
unfolding EndsUnder
under_join count [] ys h k = k
under_join count (x ∷ xs) ys h k = (h.0, h.1, under_join count xs ys h.2 k)

joints_under : (most count : ℕ) (js : List Joint) → most ≤ count → All (λ (s : Joint). (s.place1 < most) × (s.place2 < most)) js → EndsUnder count (map joint_breaker js)
unfolding EndsUnder joint_breaker
joints_under most count [] le h = tt
joints_under most count (j ∷ js) le h =
    let here = All-head (λ (s : Joint). (s.place1 < most) × (s.place2 < most)) j js h in
    let one : j.place1 < most = here.0 in
    let two : j.place2 < most = here.1 in
    (omega (arith, one, le), omega (arith, two, le), joints_under most count js le (All-tail (λ (s : Joint). (s.place1 < most) × (s.place2 < most)) j js h))

-- a terminal's place is below a count
abbrev pub PlacedUnder : ℕ → List Outlet → Type 0
PlacedUnder most [] = Unit {0}
PlacedUnder most (t ∷ rest) = (t.place < most) × PlacedUnder most rest

outlets_under : (most at count : ℕ) (ts : List Outlet) → most ≤ at → at + length ts ≤ count → PlacedUnder most ts → EndsUnder count (map outlet_breaker (enumerate_from at ts))
unfolding EndsUnder outlet_breaker
outlets_under most at count [] le few h = tt
outlets_under most at count (t ∷ ts) le few h =
    let one : t.place < most = h.0 in
    (omega (arith, one, le, few), omega (arith, few), outlets_under most (at + 1) count ts (omega (arith, le)) (omega (arith, few)) h.1)

-- of a terminal that stands at a bus
abbrev pub StandsWell : ℕ → Outlet → Type 0
StandsWell most t = (t.place < most) × (is_busbar t.stand ≡ false)

pub placed_from : (most : ℕ) (ts : List Outlet) → All (StandsWell most) ts → PlacedUnder most ts
placed_from most [] h = tt
placed_from most (t ∷ ts) h = ((All-head (StandsWell most) t ts h).0, placed_from most ts (All-tail (StandsWell most) t ts h))

module _ (level : PlacedLevel) (fit : PlacesFit level) where
  pub placed_under : PlacedUnder (length level.buses) level.outlets
  placed_under = placed_from (length level.buses) level.outlets fit.outlets

  pub ends_under : EndsUnder (length level.buses + length level.outlets) (translated_level level).switches
  unfolding translated_level outlets_at
  ends_under =
      under_join (length level.buses + length level.outlets) (map joint_breaker level.joints) (map outlet_breaker (enumerate_from (length level.buses) level.outlets))
      (joints_under (length level.buses) (length level.buses + length level.outlets) level.joints (omega arith) fit.joints)
      (outlets_under (length level.buses) (length level.buses) (length level.buses + length level.outlets) level.outlets (omega arith) (omega arith) placed_under)

both_In : (n : ℕ) (pair : ℕ × ℕ) → In n (both pair) → (n ≡ pair.0) ⊎ (n ≡ pair.1)
unfolding both
both_In n pair i = elim (or_cases (eqb n pair.0) (eqb n pair.1 || false) i) [
  | inl e ↦ inl (eqb-true n pair.0 e)
  | inr j ↦ elim (or_cases (eqb n pair.1) false j) [ inl e ↦ inr (eqb-true n pair.1 e) | inr f ↦ absurd (false≢true f) ]
]

pub ends_In : (count : ℕ) (ss : List Switch) → EndsUnder count ss → (n : ℕ) → In n (flat_map (λ e. both (ends e)) (map switch_edge ss)) → n < count
unfolding EndsUnder ends
ends_In count [] h n i = absurd (false≢true i)
ends_In count (s ∷ ss) h n i = elim (In_parts n (both (ends (switch_edge s))) (flat_map (λ e. both (ends e)) (map switch_edge ss)) i) [
  | inl j ↦ (let one : s.node1 < count = h.0 in let two : s.node2 < count = h.1 in
      elim (both_In n (s.node1, s.node2) j) [ inl e ↦ omega (arith, e, one) | inr e ↦ omega (arith, e, two) ])
  | inr j ↦ ends_In count ss h.2 n j
]

no_internals : (level : PlacedLevel) → map switch_edge (translated_level level).switches ++ map internal_edge (translated_level level).internals ≡ map switch_edge (translated_level level).switches
unfolding translated_level
no_internals level = append-nil _

pub places_rise : (count : ℕ) → is_rising (places count) ≡ true
unfolding places
places_rise count = range_rises 0 count

-- the nodes are the numbers below the count of buses and terminals
pub level_nodes : (level : PlacedLevel) → PlacesFit level → nodes (translated_level level) ≡ places (length level.buses + length level.outlets)
unfolding nodes named edges
level_nodes level fit =
    ap (λ z. rising (z ++ map (λ (p : Placed). p.node) (translated_level level).placed)) (ap (flat_map (λ e. both (ends e))) (no_internals level))
    ∙ ap (λ z. rising (flat_map (λ e. both (ends e)) (map switch_edge (translated_level level).switches) ++ z)) (node_numbers level)
    ∙ rising_known (flat_map (λ e. both (ends e)) (map switch_edge (translated_level level).switches)) (places (length level.buses + length level.outlets)) (places_rise (length level.buses + length level.outlets))
    (λ n i. In_places n (length level.buses + length level.outlets) (ends_In (length level.buses + length level.outlets) (translated_level level).switches (ends_under level fit) n i))

-- ---- what passes

-- a terminal's place and its node, of those that are connected
unfoldable pub spokes : PlacedLevel → List (ℕ × ℕ)
spokes level = map (λ e. (e.1.place, e.0)) (filter (λ e. e.1.connected) (outlets_at level))

pub not_not : (t : Bool) → not (not t) && true ≡ t
not_not true = refl
not_not false = refl

pub filter_alike : {X : Type 0} (p q : X → Bool) → ((x : X) → p x ≡ q x) → (xs : List X) → filter p xs ≡ filter q xs
filter_alike p q same [] = refl
filter_alike p q same (x ∷ xs) = ap (λ t. cond t (x ∷ filter p xs) (filter p xs)) (same x) ∙ ap (λ z. cond (q x) (x ∷ z) z) (filter_alike p q same xs)

joints_pass : (js : List Joint) → map (λ s. ends (switch_edge s)) (filter (switch_passes bus) (map joint_breaker js)) ≡ map (λ (s : Joint). (s.place1, s.place2)) (filter (λ (s : Joint). not s.opened) js)
unfolding ends joint_breaker switch_passes passes_closed
joints_pass js =
    ap (map (λ s. ends (switch_edge s))) (filter_map_of (switch_passes bus) joint_breaker js)
    ∙ map_twice (λ s. ends (switch_edge s)) joint_breaker (filter (λ j. switch_passes bus (joint_breaker j)) js)
    ∙ ap (map (λ (s : Joint). (s.place1, s.place2))) (filter_alike (λ j. switch_passes bus (joint_breaker j)) (λ (s : Joint). not s.opened) (λ s. and_true (not s.opened)) js)

outlets_pass : (es : List (ℕ × Outlet)) → map (λ s. ends (switch_edge s)) (filter (switch_passes bus) (map outlet_breaker es)) ≡ map (λ e. (e.1.place, e.0)) (filter (λ (e : ℕ × Outlet). e.1.connected) es)
unfolding ends outlet_breaker switch_passes passes_closed
outlets_pass es =
    ap (map (λ s. ends (switch_edge s))) (filter_map_of (switch_passes bus) outlet_breaker es)
    ∙ map_twice (λ s. ends (switch_edge s)) outlet_breaker (filter (λ j. switch_passes bus (outlet_breaker j)) es)
    ∙ ap (map (λ (e : ℕ × Outlet). (e.1.place, e.0))) (filter_alike (λ j. switch_passes bus (outlet_breaker j)) (λ (e : ℕ × Outlet). e.1.connected) (λ e. not_not e.1.connected) es)

-- the closed switches between buses, and the breakers of the connected terminals
pub level_passing : (level : PlacedLevel) → passing bus (translated_level level) ≡ closed_pairs level ++ spokes level
unfolding passing translated_level closed_pairs spokes
level_passing level =
    append-nil (map (λ s. ends (switch_edge s)) (filter (switch_passes bus) (map joint_breaker level.joints ++ map outlet_breaker (outlets_at level))))
    ∙ ap (map (λ s. ends (switch_edge s))) (filter-append (switch_passes bus) (map joint_breaker level.joints) (map outlet_breaker (outlets_at level)))
    ∙ map-append (λ s. ends (switch_edge s)) (filter (switch_passes bus) (map joint_breaker level.joints)) (filter (switch_passes bus) (map outlet_breaker (outlets_at level)))
    ∙ ap (λ z. z ++ map (λ s. ends (switch_edge s)) (filter (switch_passes bus) (map outlet_breaker (outlets_at level)))) (joints_pass level.joints)
    ∙ ap (λ z. map (λ (s : Joint). (s.place1, s.place2)) (filter (λ (s : Joint). not s.opened) level.joints) ++ z) (outlets_pass (outlets_at level))
