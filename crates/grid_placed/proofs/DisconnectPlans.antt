-- The plan that disconnects a terminal of a level in node/breaker form: it opens the terminal's own breaker.
use Rattle.std.proofs.Common.{◌≡◌, refl, sym, ap, ◌∙◌, subst, ℕ, zero, suc, ◌+◌, ◌<◌, ◌≤◌, Bool, true, false, cond, not, ◌&&◌, ◌||◌, List, [], ◌∷◌, ◌++◌, length, get_or, arith}
use Rattle.std.specs.Prelude.{Option, Some, None, eqb, map, filter, find, All}
use Rattle.std.specs.List.{list_any, enumerate_from}
use Rattle.std.specs.Option.{option_or}
use Rattle.std.proofs.lemmas.Bool.{eq-eqb, ne_eqb, and_right}
use Rattle.std.proofs.lemmas.List.{append-nil, length-map}
use Rattle.std.proofs.lemmas.List.Elements.{filter-append, All-head, All-tail, All-filter}
use Rattle.std.proofs.lemmas.List.Folds.{find-append}
use Rattle.grid_graph.specs.Joined.{within, joined, neighbours}
use Rattle.grid_graph.proofs.Reach.{In}
use Rattle.grid_graph.proofs.Places.{In_places}
use Rattle.grid_level.specs.declared.Switch.{Switch}
use Rattle.grid_level.specs.declared.Placed.{Placed}
use Rattle.grid_level.specs.Passing.{core, switch_edge, ends, nodes, passing, switch_passes, passes_closed, is_operable, is_breaker, is_busbar, joined_under, placed_among}
use Rattle.grid_groups.proofs.Lists.{In_filtered}
use Rattle.grid_paths.specs.Paths.{has_node}
use Rattle.grid_connect.specs.Plans.{core_of, core_busbar, leaves_core, leaving, disconnect_plan_of}
use Rattle.grid_connect.specs.declared.DisconnectPlan.TheVariants.{Opens, AlreadyDisconnected, NoBreaker}
use Rattle.grid_connect.proofs.CoreExits.{disconnect_yes, disconnect_no, breaks, opens}
use Rattle.grid_placed.specs.Places.{Joint, Outlet, PlacedLevel, PlacesFit}
use Rattle.grid_placed.specs.Translation.{joint_breaker, outlet_breaker, bus_terminal, bus_section, outlet_placed, outlets_at, translated_level}
use Rattle.grid_placed.proofs.Nodes.{StandsWell, level_nodes, filter_map_of}
use Rattle.grid_placed.proofs.BusTerminals.{absent}
use Rattle.grid_placed.proofs.JoinedNodes.{node_total}
use Rattle.grid_placed.proofs.GroupMembers.{standing_only}
use Rattle.grid_placed.proofs.BusGroups.{IsFed, outlets_fed}
use Rattle.grid_placed.proofs.BusbarNodes.{bus_connected}
use Rattle.grid_placed.proofs.ConnectPlans.{node_connected}

-- ---- a node's core is the node alone

pub none_kept : {X : Type 0} (p : X → Bool) → ((x : X) → p x ≡ false) → (xs : List X) → filter p xs ≡ []
none_kept p none [] = refl
none_kept p none (x ∷ xs) = ap (λ t. cond t (x ∷ filter p xs) (filter p xs)) (none x) ∙ none_kept p none xs

no_core : (level : PlacedLevel) → passing core (translated_level level) ≡ []
unfolding passing translated_level switch_passes passes_closed is_operable is_breaker joint_breaker outlet_breaker
no_core level =
    append-nil (map (λ s. ends (switch_edge s)) (filter (switch_passes core) (map joint_breaker level.joints ++ map outlet_breaker (outlets_at level))))
    ∙ ap (map (λ s. ends (switch_edge s)))
    (filter-append (switch_passes core) (map joint_breaker level.joints) (map outlet_breaker (outlets_at level))
    ∙ ap (λ z. z ++ filter (switch_passes core) (map outlet_breaker (outlets_at level)))
    (filter_map_of (switch_passes core) joint_breaker level.joints ∙ ap (map joint_breaker) (none_kept (λ j. switch_passes core (joint_breaker j)) (λ j. and_right (not j.opened) false refl) level.joints))
    ∙ filter_map_of (switch_passes core) outlet_breaker (outlets_at level)
    ∙ ap (map outlet_breaker) (none_kept (λ e. switch_passes core (outlet_breaker e)) (λ e. and_right (not (not e.1.connected)) false refl) (outlets_at level)))

pub within_none : (k a b : ℕ) → within [] k a b ≡ eqb a b
unfolding within neighbours
within_none zero a b = refl
within_none (suc k) a b = by (eqb a b)
  where
    by : (t : Bool) → t || false ≡ t
    by true = refl
    by false = refl

module _ (level : PlacedLevel) (fit : PlacesFit level) where
  core_joined : (a b : ℕ) → joined_under core (translated_level level) a b ≡ eqb a b
  unfolding joined_under joined
  core_joined a b = ap (λ z. within z (length (nodes (translated_level level))) a b) (no_core level) ∙ within_none (length (nodes (translated_level level))) a b

  in_core : (a n : ℕ) → n < node_total level → list_any (eqb n) (core_of (translated_level level) a) ≡ eqb a n
  unfolding core_of
  in_core a n lt =
      let here : In n (nodes (translated_level level)) = (let P : List ℕ → Type 0 = λ z. In n z in subst P (sym (level_nodes level fit)) (In_places n (node_total level) lt)) in
      In_filtered (joined_under core (translated_level level) a) n (nodes (translated_level level)) here ∙ core_joined a n

-- ---- the switches that leave a node

leaves_joint : (group : List ℕ) (j : Joint) → has_node group j.place1 ≡ false → has_node group j.place2 ≡ false → leaves_core group (joint_breaker j) ≡ false
unfolding leaves_core joint_breaker is_operable is_breaker
leaves_joint group j h k = rw (h, k) (by j.opened)
  where
    by : (t : Bool) → (not t && true) && false ≡ false
    by true = refl
    by false = refl

leaves_outlet : (group : List ℕ) (at : ℕ) (t : Outlet) → has_node group t.place ≡ false → leaves_core group (outlet_breaker (at, t)) ≡ (t.connected && has_node group at)
unfolding leaves_core outlet_breaker is_operable is_breaker
leaves_outlet group at t h = rw h (by t.connected)
  where
    by : (c : Bool) → ((not (not c) && true) && has_node group at) ≡ (c && has_node group at)
    by true = refl
    by false = refl

abbrev leave : List ℕ → ℕ × Switch → Bool
leave group e = leaves_core group e.1

no_joint_leaves : (group : List ℕ) (at : ℕ) (js : List Joint) → All (λ (j : Joint). (has_node group j.place1 ≡ false) × (has_node group j.place2 ≡ false)) js → filter (leave group) (enumerate_from at (map joint_breaker js)) ≡ []
no_joint_leaves group at [] h = refl
no_joint_leaves group at (j ∷ js) h =
    let here = All-head (λ (j : Joint). (has_node group j.place1 ≡ false) × (has_node group j.place2 ≡ false)) j js h in
    ap (λ t. cond t ((at, joint_breaker j) ∷ filter (leave group) (enumerate_from (at + 1) (map joint_breaker js))) (filter (leave group) (enumerate_from (at + 1) (map joint_breaker js)))) (leaves_joint group j here.0 here.1)
    ∙ no_joint_leaves group (at + 1) js (All-tail (λ (j : Joint). (has_node group j.place1 ≡ false) × (has_node group j.place2 ≡ false)) j js h)

-- the terminals' breakers from a place on, and from a node on
abbrev left : List ℕ → ℕ → ℕ → List Outlet → List ℕ
left group place at ts = map (λ (e : ℕ × Switch). e.0) (filter (leave group) (enumerate_from place (map outlet_breaker (enumerate_from at ts))))

left_by : (group : List ℕ) (place at : ℕ) (t : Outlet) (ts : List Outlet) (b : Bool) → leaves_core group (outlet_breaker (at, t)) ≡ b → left group place at (t ∷ ts) ≡ cond b (place ∷ left group (place + 1) (at + 1) ts) (left group (place + 1) (at + 1) ts)
left_by group place at t ts true e = ap (λ s. map (λ (e : ℕ × Switch). e.0) (cond s ((place, outlet_breaker (at, t)) ∷ filter (leave group) (enumerate_from (place + 1) (map outlet_breaker (enumerate_from (at + 1) ts)))) (filter (leave group) (enumerate_from (place + 1) (map outlet_breaker (enumerate_from (at + 1) ts)))))) e
left_by group place at t ts false e = ap (λ s. map (λ (e : ℕ × Switch). e.0) (cond s ((place, outlet_breaker (at, t)) ∷ filter (leave group) (enumerate_from (place + 1) (map outlet_breaker (enumerate_from (at + 1) ts)))) (filter (leave group) (enumerate_from (place + 1) (map outlet_breaker (enumerate_from (at + 1) ts)))))) e

-- a group that has one node alone, among those below a count
pub record Only (group : List ℕ) (count y : ℕ) : Type 0 where
  pub has : (n : ℕ) → n < count → has_node group n ≡ eqb y n

module _ (group : List ℕ) (most count y : ℕ) (behind : most ≤ y) (only : Only group count y) where
  other_place : (place : ℕ) → place < most → most ≤ count → has_node group place ≡ false
  other_place place lt le = only.has place (omega (arith, lt, le)) ∙ ne_eqb y place (λ e. omega (arith, e, lt, behind))

  none_left : (place at : ℕ) (ts : List Outlet) → y < at → most ≤ count → at + length ts ≤ count → All (StandsWell most) ts → left group place at ts ≡ []
  none_left place at [] past le few h = refl
  none_left place at (t ∷ ts) past le few h =
      let here : t.place < most = (All-head (StandsWell most) t ts h).0 in
      left_by group place at t ts false
      (leaves_outlet group at t (other_place t.place here le) ∙ and_right t.connected (has_node group at) (only.has at (omega (arith, few)) ∙ ne_eqb y at (λ e. omega (arith, e, past))))
      ∙ none_left (place + 1) (at + 1) ts (omega (arith, past)) le (omega (arith, few)) (All-tail (StandsWell most) t ts h)

  one_left : (place at k : ℕ) (ts : List Outlet) → at + k ≡ y → k < length ts → (get_or ts k absent).connected ≡ true → most ≤ count → at + length ts ≤ count → All (StandsWell most) ts → left group place at ts ≡ (place + k) ∷ []
  one_left place at k [] e lt on le few h = absurd (omega (arith, lt))
  one_left place at zero (t ∷ ts) e lt on le few h =
      let here : t.place < most = (All-head (StandsWell most) t ts h).0 in
      let same : y ≡ at = omega (arith, e) in
      let next : place ≡ place + 0 = omega arith in
      left_by group place at t ts true
      (leaves_outlet group at t (other_place t.place here le) ∙ ap (λ c. c && has_node group at) on ∙ only.has at (omega (arith, few)) ∙ eq-eqb y at same)
      ∙ ap (λ z. place ∷ z) (none_left (place + 1) (at + 1) ts (omega (arith, same)) le (omega (arith, few)) (All-tail (StandsWell most) t ts h))
      ∙ ap (λ n. n ∷ []) next
  one_left place at (suc k) (t ∷ ts) e lt on le few h =
      let here : t.place < most = (All-head (StandsWell most) t ts h).0 in
      let next : place + 1 + k ≡ place + suc k = omega arith in
      left_by group place at t ts false
      (leaves_outlet group at t (other_place t.place here le) ∙ and_right t.connected (has_node group at) (only.has at (omega (arith, few)) ∙ ne_eqb y at (λ g. omega (arith, g, e))))
      ∙ one_left (place + 1) (at + 1) k ts (omega (arith, e)) (omega (arith, lt)) on le (omega (arith, few)) (All-tail (StandsWell most) t ts h)
      ∙ ap (λ n. n ∷ []) next

-- ---- what stands there

enumerate_join : {X : Type 0} (at next : ℕ) (xs ys : List X) → at + length xs ≡ next → enumerate_from at (xs ++ ys) ≡ enumerate_from at xs ++ enumerate_from next ys
enumerate_join at next [] ys e = let same : at ≡ next = omega (arith, e) in ap (λ n. enumerate_from n ys) same
enumerate_join at next (x ∷ xs) ys e = ap (λ z. (at, x) ∷ z) (enumerate_join (at + 1) next xs ys (omega (arith, e)))

no_bar : (es : List (ℕ × Outlet)) → All IsFed es → find (λ p. is_busbar p.stand) (map outlet_placed es) ≡ None
unfolding outlet_placed
no_bar [] h = refl
no_bar (e ∷ es) h =
    ap (λ t. cond t (Some (outlet_placed e)) (find (λ p. is_busbar p.stand) (map outlet_placed es))) (All-head IsFed e es h) ∙ no_bar es (All-tail IsFed e es h)

joints_apart : (level : PlacedLevel) (group : List ℕ) (count y : ℕ) → length level.buses ≤ y → length level.buses ≤ count → Only group count y
    → (js : List Joint) → All (λ (j : Joint). (j.place1 < length level.buses) × (j.place2 < length level.buses)) js → All (λ (j : Joint). (has_node group j.place1 ≡ false) × (has_node group j.place2 ≡ false)) js
joints_apart level group count y behind le only js h =
    λ i d lt. let here = h i d lt in (other_place group (length level.buses) count y behind only (get_or js i d).place1 here.0 le, other_place group (length level.buses) count y behind only (get_or js i d).place2 here.1 le)

module _ (level : PlacedLevel) (fit : PlacesFit level) (k : ℕ) (lt : k < length level.outlets) where
  core_only : Only (core_of (translated_level level) (length level.buses + k)) (node_total level) (length level.buses + k)
  unfolding has_node
  core_only = record { has = λ n less. in_core level fit (length level.buses + k) n less }

  own_leaves : (get_or level.outlets k absent).connected ≡ true → leaving (translated_level level) (core_of (translated_level level) (length level.buses + k)) ≡ (length level.joints + k) ∷ []
  unfolding leaving translated_level outlets_at
  own_leaves on =
      let group = core_of (translated_level level) (length level.buses + k) in
      let front = map joint_breaker level.joints in
      let back = map outlet_breaker (enumerate_from (length level.buses) level.outlets) in
      let long = length-map level.joints joint_breaker in
      ap (λ z. map (λ (e : ℕ × Switch). e.0) (filter (leave group) z)) (enumerate_join 0 (length level.joints) front back (omega (arith, long)))
      ∙ ap (map (λ (e : ℕ × Switch). e.0)) (filter-append (leave group) (enumerate_from 0 front) (enumerate_from (length level.joints) back)
      ∙ ap (λ z. z ++ filter (leave group) (enumerate_from (length level.joints) back)) (no_joint_leaves group 0 level.joints (joints_apart level group (node_total level) (length level.buses + k) (omega arith) (omega arith) core_only level.joints fit.joints)))
      ∙ one_left group (length level.buses) (node_total level) (length level.buses + k) (omega arith) core_only (length level.joints) (length level.buses) k level.outlets refl lt on (omega arith) (omega arith) fit.outlets

  own_bar : core_busbar (translated_level level) (core_of (translated_level level) (length level.buses + k)) ≡ None
  unfolding core_busbar
  own_bar =
      ap (find (λ p. is_busbar p.stand)) (standing_only level fit (core_of (translated_level level) (length level.buses + k)) (length level.buses + k) (omega arith) (λ n less. in_core level fit (length level.buses + k) n less))
      ∙ no_bar (filter (λ e. eqb (length level.buses + k) e.0) (outlets_at level)) (All-filter (λ e. eqb (length level.buses + k) e.0) IsFed (outlets_at level) (outlets_fed level fit))

  -- a terminal that is connected is disconnected by its own breaker
  pub disconnect_opens : (get_or level.outlets k absent).connected ≡ true → disconnect_plan_of (translated_level level) (length level.buses + k) ≡ Opens ((length level.joints + k) ∷ [])
  disconnect_opens on =
      disconnect_yes (translated_level level) (length level.buses + k) (node_connected level fit k lt ∙ on)
      ∙ opens (leaving (translated_level level) (core_of (translated_level level) (length level.buses + k))) (core_busbar (translated_level level) (core_of (translated_level level) (length level.buses + k))) own_bar
      ∙ ap Opens (own_leaves on)

  pub disconnect_stays : (get_or level.outlets k absent).connected ≡ false → disconnect_plan_of (translated_level level) (length level.buses + k) ≡ AlreadyDisconnected
  disconnect_stays off = disconnect_no (translated_level level) (length level.buses + k) (node_connected level fit k lt ∙ off)

-- ---- a bus

section_found : (group : List ℕ) (a count at k : ℕ) (xs : List (List ℕ)) → at + k ≡ a → k < length xs → at + length xs ≤ count → Only group count a
    → find (λ p. is_busbar p.stand) (filter (λ p. list_any (λ n. eqb p.node n) group) (map bus_section (enumerate_from at xs))) ≡ Some (bus_section (a, get_or xs k []))
unfolding bus_section is_busbar has_node
section_found group a count at k [] e lt few only = absurd (omega (arith, lt))
section_found group a count at zero (x ∷ xs) e lt few only =
    let same : a ≡ at = omega (arith, e) in
    ap (λ t. find (λ p. is_busbar p.stand) (cond t (bus_section (at, x) ∷ filter (λ p. list_any (λ n. eqb p.node n) group) (map bus_section (enumerate_from (at + 1) xs))) (filter (λ p. list_any (λ n. eqb p.node n) group) (map bus_section (enumerate_from (at + 1) xs)))))
    (only.has at (omega (arith, few)) ∙ eq-eqb a at same)
    ∙ ap (λ n. Some (bus_section (n, x))) (sym same)
section_found group a count at (suc k) (x ∷ xs) e lt few only =
    ap (λ t. find (λ p. is_busbar p.stand) (cond t (bus_section (at, x) ∷ filter (λ p. list_any (λ n. eqb p.node n) group) (map bus_section (enumerate_from (at + 1) xs))) (filter (λ p. list_any (λ n. eqb p.node n) group) (map bus_section (enumerate_from (at + 1) xs)))))
    (only.has at (omega (arith, few)) ∙ ne_eqb a at (λ same. omega (arith, same, e)))
    ∙ section_found group a count (at + 1) k xs (omega (arith, e)) (omega (arith, lt)) (omega (arith, few)) only

found_first : (o q : Option Placed) (p : Placed) → o ≡ Some p → option_or o q ≡ Some p
found_first None q p e = absurd (let k : None ≡ Some p = e in cc)
found_first (Some x) q p e = e

module _ (level : PlacedLevel) (fit : PlacesFit level) (a : ℕ) (lt : a < length level.buses) where
  bus_bar : core_busbar (translated_level level) (core_of (translated_level level) a) ≡ Some (bus_section (a, get_or level.buses a []))
  unfolding core_busbar placed_among translated_level has_node
  bus_bar =
      let group = core_of (translated_level level) a in
      let test : Placed → Bool = λ p. list_any (λ n. eqb p.node n) group in
      ap (find (λ p. is_busbar p.stand)) (filter-append test (map bus_section (enumerate_from 0 level.buses)) (map outlet_placed (outlets_at level)))
      ∙ find-append (λ p. is_busbar p.stand) (filter test (map bus_section (enumerate_from 0 level.buses))) (filter test (map outlet_placed (outlets_at level)))
      ∙ found_first (find (λ p. is_busbar p.stand) (filter test (map bus_section (enumerate_from 0 level.buses)))) (find (λ p. is_busbar p.stand) (filter test (map outlet_placed (outlets_at level)))) (bus_section (a, get_or level.buses a []))
      (section_found group a (node_total level) 0 a level.buses (omega arith) lt (omega arith) (record { has = λ n less. in_core level fit a n less }))

  -- no breaker stands before a bus
  pub disconnect_bus : disconnect_plan_of (translated_level level) a ≡ NoBreaker (bus_terminal (get_or level.buses a []))
  unfolding bus_section
  disconnect_bus =
      disconnect_yes (translated_level level) a (bus_connected level fit a lt)
      ∙ breaks (leaving (translated_level level) (core_of (translated_level level) a)) (core_busbar (translated_level level) (core_of (translated_level level) a)) (bus_section (a, get_or level.buses a [])) bus_bar
