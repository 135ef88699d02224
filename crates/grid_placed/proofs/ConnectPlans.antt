-- The plan that connects a terminal of a level in node/breaker form: it closes the terminal's own breaker.
use Rattle.std.proofs.Common.{◌≡◌, refl, sym, ap, ◌∙◌, subst, ℕ, ◌+◌, ◌<◌, ◌≤◌, Bool, true, false, cond, not, List, [], ◌∷◌, length, get_or, inl, inr, arith}
use Rattle.std.specs.Prelude.{Option, Some, None, eqb, count_by, slice_get}
use Rattle.std.specs.declared.cmp.Ordering.{Ordering}
use Rattle.std.specs.declared.cmp.Ordering.TheVariants.{Equal, Greater}
use Rattle.std.specs.Ordering.{nat_cmp, is_lt, ordering_then}
use Rattle.std.specs.Cmp.Lexicographic.{slice_cmp}
use Rattle.std.proofs.lemmas.Bool.{cases_Bool, ne_eqb, le-ltb, both_ways, or_right, and_from}
use Rattle.std.proofs.lemmas.List.Sums.{sum_by-cons}
use Rattle.grid_graph.proofs.Reach.{In}
use Rattle.grid_graph.proofs.Places.{In_places}
use Rattle.grid_level.specs.Passing.{nodes, carries_busbar, is_connected, is_operable, is_breaker}
use Rattle.grid_paths.specs.Paths.{◌>>=◌, has_node, across, visited, all_differ, last_in, measure_cmp, is_better}
use Rattle.grid_paths.proofs.Least.{some_same, some_none}
use Rattle.grid_connect.specs.Plans.{all_ends, opened_at, is_open, closable_at, may_be_closed, is_closable, connect_plan_of}
use Rattle.grid_connect.specs.declared.ConnectPlan.TheVariants.{Close, AlreadyConnected}
use Rattle.grid_connect.proofs.ClearPaths.{Parts, parts_of, closable_of}
use Rattle.grid_connect.proofs.LeastPaths.{LeastClosable, plan_least, plan_with}
use Rattle.grid_placed.specs.Places.{Outlet, PlacedLevel, PlacesFit}
use Rattle.grid_placed.specs.Translation.{outlet_breaker, translated_level}
use Rattle.grid_placed.proofs.Nodes.{level_nodes}
use Rattle.grid_placed.proofs.BusTerminals.{absent, outlet_of, outlet_at}
use Rattle.grid_placed.proofs.JoinedNodes.{node_total}
use Rattle.grid_placed.proofs.BusbarNodes.{carries_bus, carries_none, outlet_connected, bus_connected}
use Rattle.grid_placed.proofs.Breakers.{breaker_at, ends_at, inside, own_across, leads_on}

-- ---- a longer path is no better

no_less : (x y : ℕ) (o : Ordering) → y ≤ x → is_lt o ≡ false → is_lt (ordering_then (nat_cmp x y) o) ≡ false
no_less x y o le h = elim (cases_Bool (eqb x y)) [
  | inl e ↦ rw (le-ltb x y le, e) h
  | inr e ↦ rw (le-ltb x y le, e) refl
]

list_no_less : (p : ℕ) (rest : List ℕ) → is_lt (slice_cmp nat_cmp (p ∷ rest) (p ∷ [])) ≡ false
list_no_less p [] = no_less p p Equal (omega arith) refl
list_no_less p (q ∷ rest) = no_less p p Greater (omega arith) refl

counted_more : (costs : ℕ → Bool) (p : ℕ) (rest : List ℕ) → count_by costs (p ∷ []) ≤ count_by costs (p ∷ rest)
counted_more costs p rest =
    let one = sum_by-cons (λ y. cond (costs y) 1 0) p [] in
    let more = sum_by-cons (λ y. cond (costs y) 1 0) p rest in
    let none : count_by costs [] ≡ 0 = refl in
    omega (arith, one, more, none)

pub no_better : (costs : ℕ → Bool) (p : ℕ) (rest : List ℕ) → is_better costs (p ∷ rest) (p ∷ []) ≡ false
unfolding is_better measure_cmp
no_better costs p rest =
    no_less (count_by costs (p ∷ rest)) (count_by costs (p ∷ [])) (ordering_then (nat_cmp (length (p ∷ rest)) 1) (slice_cmp nat_cmp (p ∷ rest) (p ∷ []))) (counted_more costs p rest)
    (no_less (length (p ∷ rest)) 1 (slice_cmp nat_cmp (p ∷ rest) (p ∷ [])) (omega arith) (list_no_less p rest))

-- ---- a path of one edge, and where a path begins

one_step : (edges : List (ℕ × ℕ)) (a p c : ℕ) (pair : ℕ × ℕ) → slice_get edges p ≡ Some pair → across a pair ≡ Some c → visited edges a (p ∷ []) ≡ Some (a ∷ c ∷ [])
unfolding visited
one_step edges a p c pair at leads = rw (at, leads) refl

-- the first edge of a path leads on from its node
record Begins (edges : List (ℕ × ℕ)) (a p : ℕ) : Type 0 where
  pair : ℕ × ℕ
  at : slice_get edges p ≡ Some pair
  next : ℕ
  leads : across a pair ≡ Some next

begins_by : (edges : List (ℕ × ℕ)) (a p : ℕ) (rest seen : List ℕ) (o : Option (ℕ × ℕ)) → slice_get edges p ≡ o → (o >>= (λ pair. across a pair >>= (λ c. visited edges c rest >>= (λ nodes. Some (a ∷ nodes))))) ≡ Some seen → Begins edges a p
begins_by edges a p rest seen None at h = absurd (some_none seen h)
begins_by edges a p rest seen (Some pair) at h = by (across a pair) refl h
  where
    by : (o : Option ℕ) → across a pair ≡ o → (o >>= (λ c. visited edges c rest >>= (λ nodes. Some (a ∷ nodes)))) ≡ Some seen → Begins edges a p
    by None e k = absurd (some_none seen k)
    by (Some c) e k = record { pair = pair; at = at; next = c; leads = e }

first_edge : (edges : List (ℕ × ℕ)) (a p : ℕ) (rest seen : List ℕ) → visited edges a (p ∷ rest) ≡ Some seen → Begins edges a p
unfolding visited
first_edge edges a p rest seen h = begins_by edges a p rest seen (slice_get edges p) refl h

nothing_visited : (edges : List (ℕ × ℕ)) (a : ℕ) (visits : List ℕ) → visited edges a [] ≡ Some (a ∷ visits) → last_in a visits ≡ a
unfolding visited last_in
nothing_visited edges a [] h = refl
nothing_visited edges a (v ∷ vs) h = absurd (let e : ◌≡◌ {A = List ℕ} (a ∷ []) (a ∷ v ∷ vs) = some_same (a ∷ []) (a ∷ v ∷ vs) h in let f = ap length e in omega (arith, f))

module _ (level : PlacedLevel) (fit : PlacesFit level) (k : ℕ) (lt : k < length level.outlets) where
  own_breaker : slice_get (translated_level level).switches (length level.joints + k) ≡ Some (outlet_breaker (length level.buses + k, get_or level.outlets k absent))
  own_breaker = breaker_at level k (length level.joints + k) refl lt

  node_outlet : outlet_of level (length level.buses + k) ≡ get_or level.outlets k absent
  node_outlet = outlet_at level k (length level.buses + k) refl

  pub node_connected : is_connected (translated_level level) (length level.buses + k) ≡ (get_or level.outlets k absent).connected
  node_connected = outlet_connected level fit (length level.buses + k) (omega arith) (omega (arith, lt)) ∙ ap (λ (t : Outlet). t.connected) node_outlet

  pub node_there : In (length level.buses + k) (nodes (translated_level level))
  node_there = let P : List ℕ → Type 0 = λ z. In (length level.buses + k) z in subst P (sym (level_nodes level fit)) (In_places (length level.buses + k) (node_total level) (omega (arith, lt)))

  breaker_open : is_open (translated_level level) (length level.joints + k) ≡ not (get_or level.outlets k absent).connected
  unfolding is_open opened_at outlet_breaker
  breaker_open = ap opened_at own_breaker

  breaker_closable : may_be_closed (translated_level level) (length level.joints + k) ≡ true
  unfolding may_be_closed closable_at outlet_breaker is_operable is_breaker
  breaker_closable = ap closable_at own_breaker ∙ or_right (not (not (get_or level.outlets k absent).connected)) true refl

  own_closable : is_closable (translated_level level) (length level.buses + k) ((length level.joints + k) ∷ []) ≡ true
  unfolding all_differ has_node last_in
  own_closable =
      let p : (get_or level.outlets k absent).place < length level.buses = inside level fit k lt in
      closable_of (translated_level level) (length level.buses + k) (get_or level.outlets k absent).place ((length level.joints + k) ∷ []) ((get_or level.outlets k absent).place ∷ [])
      (one_step (all_ends (translated_level level)) (length level.buses + k) (length level.joints + k) (get_or level.outlets k absent).place _
      (ends_at level (length level.joints + k) (outlet_breaker (length level.buses + k, get_or level.outlets k absent)) own_breaker) (own_across level fit k lt))
      (rw (ne_eqb (length level.buses + k) (get_or level.outlets k absent).place (λ e. omega (arith, e, p))) refl)
      refl
      (carries_bus level fit (get_or level.outlets k absent).place p)
      (and_from (may_be_closed (translated_level level) (length level.joints + k)) true breaker_closable refl)

  least_by : (other : List ℕ) → Parts (translated_level level) (length level.buses + k) other → is_better (is_open (translated_level level)) other ((length level.joints + k) ∷ []) ≡ false
  least_by [] parts =
      absurd (both_ways (carries_busbar (translated_level level) (length level.buses + k)) (carries_none level fit (length level.buses + k) (omega arith))
      (sym (ap (carries_busbar (translated_level level)) (nothing_visited (all_ends (translated_level level)) (length level.buses + k) parts.visits parts.goes)) ∙ parts.carries))
  least_by (p ∷ rest) parts =
      let b = first_edge (all_ends (translated_level level)) (length level.buses + k) p rest ((length level.buses + k) ∷ parts.visits) parts.goes in
      let same : p ≡ length level.joints + k = leads_on level fit k lt p b.next b.pair b.at b.leads in
      ap (λ z. is_better (is_open (translated_level level)) (z ∷ rest) ((length level.joints + k) ∷ [])) same ∙ no_better (is_open (translated_level level)) (length level.joints + k) rest

  own_least : LeastClosable (translated_level level) (length level.buses + k) ((length level.joints + k) ∷ [])
  own_least = record {
    closable = own_closable;
    least = λ other h. least_by other (parts_of (translated_level level) (length level.buses + k) other h);
  }

  -- a terminal that is not connected is connected by its own breaker
  pub connect_closes : (get_or level.outlets k absent).connected ≡ false → connect_plan_of (translated_level level) (length level.buses + k) ≡ Close ((length level.joints + k) ∷ [])
  unfolding plan_with
  connect_closes off =
      plan_least (translated_level level) (length level.buses + k) ((length level.joints + k) ∷ []) node_there own_least
      ∙ ap plan_with (ap (λ t. cond t ((length level.joints + k) ∷ []) []) (breaker_open ∙ ap not off))

  pub connect_stays : (get_or level.outlets k absent).connected ≡ true → connect_plan_of (translated_level level) (length level.buses + k) ≡ AlreadyConnected
  unfolding connect_plan_of
  connect_stays on = rw (node_connected ∙ on) refl

-- a bus is connected already
pub connect_bus : (level : PlacedLevel) → PlacesFit level → (a : ℕ) → a < length level.buses → connect_plan_of (translated_level level) a ≡ AlreadyConnected
unfolding connect_plan_of
connect_bus level fit a lt = rw (bus_connected level fit a lt) refl
