-- Buses that nodes and terminals are put into, by the places of the buses.
use Rattle.std.proofs.Common.{◌≡◌, ◌≢◌, refl, sym, ap, ◌∙◌, subst, ℕ, zero, suc, ℤ, pos, ◌+ℤ◌, ◌+◌, ◌*◌, ◌^◌, ◌<◌, ◌≤◌, Bool, cond, List, [], ◌∷◌, ◌++◌, length, get_or, set, inl, inr, arith, Option, Some, None, get_or-set_same, get_or-set_other, length-set}
use Rattle.std.specs.Prelude.{eqb, map, filter, slice_get, zip}
use Rattle.std.proofs.lemmas.Bool.{cases_eq}
use Rattle.std.proofs.lemmas.Int.{ints}
use Rattle.std.proofs.lemmas.List.{map-append, get_or-map, length-map}
use mir.Syntax.{w64}
use mir.Val.{SFits}
use Rattle.grid_graph.specs.Components.{places}
use Rattle.grid_level.specs.declared.Placed.{Placed}
use Rattle.grid_level.specs.declared.Stand.{Stand}
use Rattle.grid_level.specs.declared.Terminal.{Terminal}
use Rattle.grid_level.specs.VoltageLevel.{VoltageLevel}
use Rattle.grid_level.specs.Passing.{nodes}
use Rattle.grid_groups.specs.Labels.{items_at, places_with, labels_placed, group_of, group_at}
use Rattle.grid_groups.proofs.GroupMembers.{with_key, key_next, key_past, items_push}
use Rattle.grid_groups.proofs.Steps.{read_item}
use Rattle.grid_busview.specs.declared.ViewBus.{ViewBus}
use Rattle.grid_busview.specs.declared.leading.Led.{Led}
use Rattle.grid_busview.specs.declared.counts.Count.{Count}
use Rattle.grid_busview.specs.Views.{Fed, is_load, is_generation, watts_over}
use Rattle.grid_busview.specs.Labelled.{fed_at, bus_by, bus_leaders, led_place, empty_bus, no_bus, with_node, with_fed, bus_nodes, AreLed, SumsWithin}
use Rattle.grid_busview.proofs.LeadingLabels.{led_at, led_apart, unled_apart, of_index, label_below}
use Rattle.grid_busview.proofs.WattSums.{read_fed, watts_more, still_within}

map_same : {X : Type 0} (f g : ℕ → X) (ks : List ℕ) → ((j : ℕ) → j < length ks → f (get_or ks j 0) ≡ g (get_or ks j 0)) → map f ks ≡ map g ks
map_same f g [] h = refl
map_same f g (k ∷ ks) h = ap (λ z. z ∷ map f ks) (h 0 (omega arith)) ∙ ap (λ z. g k ∷ z) (map_same f g ks (λ j lt. h (suc j) (omega arith)))

map_set : {X : Type 0} (f g : ℕ → X) (ks : List ℕ) (n : ℕ) (x : X) → n < length ks → x ≡ g (get_or ks n 0) → ((j : ℕ) → j < length ks → j ≢ n → f (get_or ks j 0) ≡ g (get_or ks j 0)) → set (map f ks) n x ≡ map g ks
map_set f g [] n x lt e h = absurd (omega arith)
map_set f g (k ∷ ks) zero x lt e h = ap (λ z. z ∷ map f ks) e ∙ ap (λ z. g k ∷ z) (map_same f g ks (λ j less. h (suc j) (omega arith) (λ same. omega (arith, same))))
map_set f g (k ∷ ks) (suc n) x lt e h =
    ap (λ z. z ∷ set (map f ks) n x) (h 0 (omega arith) (λ same. omega (arith, same)))
    ∙ ap (λ z. g k ∷ z) (map_set f g ks n x (omega arith) e (λ j less ne. h (suc j) (omega arith) (λ same. ne (omega (arith, same)))))

module _ (labels : List ℕ) (counts : List Count) (f g : ℕ → ViewBus) (buses : List ViewBus) (key : ℕ) (lt : key < length labels) (others : (l : ℕ) → key ≢ l → g l ≡ f l)
    (so_far : buses ≡ map f (bus_leaders labels counts)) where
  -- the bus that a label leads is changed, and no other one
  pub put_at : (change : ViewBus → ViewBus) (n : ℕ) → led_place labels counts key ≡ Some n → change (f key) ≡ g key → set buses n (change (get_or buses n no_bus)) ≡ map g (bus_leaders labels counts)
  put_at change n e here =
      let leaders = bus_leaders labels counts in
      let at = led_at labels counts key n lt e in
      ap (λ z. set z n (change (get_or z n no_bus))) so_far
      ∙ map_set f g leaders n (change (get_or (map f leaders) n no_bus)) at.0 (ap change (get_or-map f leaders n 0 no_bus at.0 ∙ ap f at.1) ∙ here ∙ ap g (sym at.1))
      (λ j less ne. sym (others (get_or leaders j 0) (led_apart labels counts key n j lt e less ne)))

  -- where a label leads none, all stay
  pub kept_at : led_place labels counts key ≡ None → buses ≡ map g (bus_leaders labels counts)
  kept_at e =
      let leaders = bus_leaders labels counts in
      so_far ∙ map_same f g leaders (λ j less. sym (others (get_or leaders j 0) (unled_apart labels counts key j lt e less)))

-- ---- nodes

-- the nodes so far
unfoldable pub nodes_to : VoltageLevel → List ℕ → ℕ → ℕ → ViewBus
nodes_to level labels i l = record (empty_bus (get_or (nodes level) l 0)) { nodes = items_at (nodes level) (with_key labels i l) }

pub nodes_none : (level : VoltageLevel) (labels leaders : List ℕ) → map (λ l. empty_bus (get_or (nodes level) l 0)) leaders ≡ map (nodes_to level labels 0) leaders
unfolding nodes_to with_key places items_at
nodes_none level labels leaders = refl

pub nodes_all : (level : VoltageLevel) (labels : List ℕ) (i : ℕ) (leaders : List ℕ) → i ≡ length labels → map (nodes_to level labels i) leaders ≡ map (bus_nodes level labels) leaders
unfolding nodes_to with_key places_with bus_nodes
nodes_all level labels i leaders e = ap (λ n. map (λ l. record (empty_bus (get_or (nodes level) l 0)) { nodes = items_at (nodes level) (filter (λ k. eqb (get_or labels k 0) l) (places n)) }) leaders) e

pub nodes_next : (level : VoltageLevel) (labels : List ℕ) (i key node : ℕ) → get_or labels i 0 ≡ key → slice_get (nodes level) i ≡ Some node → with_node (nodes_to level labels i key) node ≡ nodes_to level labels (i + 1) key
unfolding nodes_to
nodes_next level labels i key node e at =
    let made : List ℕ → ViewBus = λ z. record (empty_bus (get_or (nodes level) key 0)) { nodes = z } in
    ap made (sym (items_push (nodes level) (with_key labels i key) i node at)) ∙ ap (λ z. made (items_at (nodes level) z)) (sym (key_next labels i key e))

pub nodes_past : (level : VoltageLevel) (labels : List ℕ) (i key l : ℕ) → get_or labels i 0 ≡ key → key ≢ l → nodes_to level labels (i + 1) l ≡ nodes_to level labels i l
unfolding nodes_to
nodes_past level labels i key l e ne =
    ap (λ (z : List ℕ). record (empty_bus (get_or (nodes level) l 0)) { nodes = items_at (nodes level) z }) (key_past labels i l (λ h. ne (sym e ∙ h)))

-- ---- terminals

-- the terminals so far, and their sums
unfoldable pub fed_to : VoltageLevel → List ℤ → List ℕ → List ℕ → ℕ → ℕ → ViewBus
fed_to level watts labels keys i l = bus_by level watts (group_of level l (places_with labels l) (with_key keys i l))

pub fed_none : (level : VoltageLevel) (watts : List ℤ) (labels keys leaders : List ℕ) → map (bus_nodes level labels) leaders ≡ map (fed_to level watts labels keys 0) leaders
unfolding fed_to bus_by group_of bus_nodes with_key places items_at fed_at watts_over
fed_none level watts labels keys leaders = refl

pub fed_all : (level : VoltageLevel) (watts : List ℤ) (labels keys : List ℕ) (i : ℕ) (leaders : List ℕ) → i ≡ length keys → keys ≡ labels_placed level labels
    → map (fed_to level watts labels keys i) leaders ≡ map (λ l. bus_by level watts (group_at level labels l)) leaders
unfolding fed_to with_key places_with group_at
fed_all level watts labels keys i leaders e keyed =
    ap (λ n. map (λ l. bus_by level watts (group_of level l (places_with labels l) (filter (λ k. eqb (get_or keys k 0) l) (places n)))) leaders) e
    ∙ ap (λ z. map (λ l. bus_by level watts (group_of level l (places_with labels l) (places_with z l))) leaders) keyed

pub fed_next : (level : VoltageLevel) (watts : List ℤ) (labels keys : List ℕ) (i key : ℕ) (x : Fed) → get_or keys i 0 ≡ key → slice_get level.placed i ≡ Some x.0 → slice_get (zip level.placed watts) i ≡ Some x
    → with_fed (fed_to level watts labels keys i key) x ≡ fed_to level watts labels keys (i + 1) key
unfolding fed_to bus_by group_of with_fed
fed_next level watts labels keys i key x e at fed =
    let ks = with_key keys i key in
    let made : List Terminal → ℤ → ℤ → ViewBus = λ ts x y. record {
      least = get_or (nodes level) key 0;
      nodes = items_at (nodes level) (places_with labels key);
      terminals = ts;
      load = x;
      generation = y;
    } in
    let part : Placed → Terminal = λ p. p.terminal in
    let ts : List Terminal = map part (items_at level.placed (ks ++ i ∷ [])) in
    let load : ℤ = watts_over is_load (fed_at level watts (ks ++ i ∷ [])) in
    let now : List ℕ → ViewBus = λ z. made (map part (items_at level.placed z)) (watts_over is_load (fed_at level watts z)) (watts_over is_generation (fed_at level watts z)) in
    let sum : (Stand → Bool) → ℤ = λ test. cond (test x.0.stand) (watts_over test (fed_at level watts ks) +ℤ x.1) (watts_over test (fed_at level watts ks)) in
    ap (λ z. made z (sum is_load) (sum is_generation)) (sym (ap (map part) (items_push level.placed ks i x.0 at) ∙ map-append part (items_at level.placed ks) (x.0 ∷ [])))
    ∙ ap (λ z. made ts z (sum is_generation)) (sym (watts_more is_load level watts ks i x fed))
    ∙ ap (made ts load) (sym (watts_more is_generation level watts ks i x fed))
    ∙ ap now (sym (key_next keys i key e))

pub fed_past : (level : VoltageLevel) (watts : List ℤ) (labels keys : List ℕ) (i key l : ℕ) → get_or keys i 0 ≡ key → key ≢ l → fed_to level watts labels keys (i + 1) l ≡ fed_to level watts labels keys i l
unfolding fed_to
fed_past level watts labels keys i key l e ne =
    ap (λ z. bus_by level watts (group_of level l (places_with labels l) z)) (key_past keys i l (λ h. ne (sym e ∙ h)))

module _ (level : VoltageLevel) (watts : List ℤ) (labels : List ℕ) (led : Led) (s : AreLed level labels led) (i index key : ℕ) (inside : index < length labels) (own : get_or labels index 0 ≡ key)
    (is : get_or (labels_placed level labels) i 0 ≡ key) where
  -- what a terminal's label leads
  pub key_leads : (table : List (Option ℕ)) (place : Option ℕ) → table ≡ led.places → get_or table key None ≡ place → led_place labels led.counts key ≡ place
  key_leads table place same e =
      ap (led_place labels led.counts) (sym own) ∙ sym (of_index level labels led s index None inside) ∙ ap (λ z. get_or led.places z None) own ∙ ap (λ z. get_or z key None) (sym same) ∙ e

  pub key_below : key < length labels
  key_below = let r = label_below level labels led s index inside in omega (arith, r, own)

  module _ (buses : List ViewBus) (so_far : buses ≡ map (fed_to level watts labels (labels_placed level labels) i) (bus_leaders labels led.counts)) where
    pub fed_put : (n : ℕ) (p : Placed) (w : ℤ) → led_place labels led.counts key ≡ Some n → length watts ≡ length level.placed → i < length level.placed → p ≡ get_or level.placed i p → w ≡ get_or watts i (pos 0)
        → set buses n (with_fed (get_or buses n no_bus) (p, w)) ≡ map (fed_to level watts labels (labels_placed level labels) (i + 1)) (bus_leaders labels led.counts)
    fed_put n p w leads long lt at read =
        put_at labels led.counts (fed_to level watts labels (labels_placed level labels) i) (fed_to level watts labels (labels_placed level labels) (i + 1)) buses key key_below (λ l. fed_past level watts labels (labels_placed level labels) i key l is) so_far (λ z. with_fed z (p, w)) n leads
        (fed_next level watts labels (labels_placed level labels) i key (p, w) is (read_item level.placed level.placed i p refl lt at) (read_fed level.placed watts i p w long lt at read))

    pub fed_kept : led_place labels led.counts key ≡ None → buses ≡ map (fed_to level watts labels (labels_placed level labels) (i + 1)) (bus_leaders labels led.counts)
    fed_kept leads = kept_at labels led.counts (fed_to level watts labels (labels_placed level labels) i) (fed_to level watts labels (labels_placed level labels) (i + 1)) buses key key_below (λ l. fed_past level watts labels (labels_placed level labels) i key l is) so_far leads

-- ---- sums

abbrev pub AllWithin : ℕ → List ViewBus → Type 0
AllWithin i buses = (j : ℕ) → j < length buses → SumsWithin (2 ^ 63 * i) (get_or buses j no_bus)

still : (i : ℕ) (bus : ViewBus) → SumsWithin (2 ^ 63 * i) bus → SumsWithin (2 ^ 63 * (i + 1)) bus
still i bus s = record {
  load_low = let h = s.load_low in omega (arith, ints);
  load_high = let h = s.load_high in omega (arith, ints);
  generation_low = let h = s.generation_low in omega (arith, ints);
  generation_high = let h = s.generation_high in omega (arith, ints);
}

fed_within : (i : ℕ) (bus : ViewBus) (p : Placed) (w : ℤ) → SFits w64 w → SumsWithin (2 ^ 63 * i) bus → SumsWithin (2 ^ 63 * (i + 1)) (with_fed bus (p, w))
unfolding with_fed
fed_within i bus p w fits s =
    let load = still_within (is_load p.stand) bus.load w _ i refl fits s.load_low s.load_high in
    let generation = still_within (is_generation p.stand) bus.generation w _ i refl fits s.generation_low s.generation_high in
    record { load_low = load.0; load_high = load.1; generation_low = generation.0; generation_high = generation.1 }

pub within_start : (f : ℕ → ViewBus) (ks : List ℕ) (buses : List ViewBus) → buses ≡ map f ks → ((l : ℕ) → SumsWithin 0 (f l)) → AllWithin 0 buses
within_start f ks buses e h j lt =
    let P : ViewBus → Type 0 = λ z. SumsWithin 0 z in
    subst P (sym (ap (λ z. get_or z j no_bus) e ∙ get_or-map f ks j 0 no_bus (omega (arith, lt, ap length e, length-map ks f)))) (h (get_or ks j 0))

pub nodes_within : (level : VoltageLevel) (labels : List ℕ) (l : ℕ) → SumsWithin 0 (bus_nodes level labels l)
unfolding bus_nodes
nodes_within level labels l = record { load_low = omega (arith, ints); load_high = omega (arith, ints); generation_low = omega (arith, ints); generation_high = omega (arith, ints) }

pub within_kept : (i : ℕ) (buses : List ViewBus) → AllWithin i buses → AllWithin (i + 1) buses
within_kept i buses s j lt = still i (get_or buses j no_bus) (s j lt)

pub within_put : (i n : ℕ) (buses : List ViewBus) (p : Placed) (w : ℤ) → n < length buses → SFits w64 w → AllWithin i buses → AllWithin (i + 1) (set buses n (with_fed (get_or buses n no_bus) (p, w)))
within_put i n buses p w inside fits s j lt =
    let bus = with_fed (get_or buses n no_bus) (p, w) in
    let P : ViewBus → Type 0 = λ z. SumsWithin (2 ^ 63 * (i + 1)) z in
    elim (cases_eq j n) [
      | inl e ↦ subst P (sym (ap (λ z. get_or (set buses n bus) z no_bus) e ∙ get_or-set_same buses n bus no_bus inside)) (fed_within i (get_or buses n no_bus) p w fits (s n inside))
      | inr ne ↦ subst P (sym (get_or-set_other buses n j bus no_bus ne)) (still i (get_or buses j no_bus) (s j (omega (arith, lt, length-set buses n bus))))
    ]

-- few terminals sum up to little
pub within_limit : (i : ℕ) (bus : ViewBus) → i ≤ 1024 → SumsWithin (2 ^ 63 * i) bus → SumsWithin (2 ^ 126) bus
within_limit i bus few s = record {
  load_low = let h = s.load_low in omega (arith, ints);
  load_high = let h = s.load_high in omega (arith, ints);
  generation_low = let h = s.generation_low in omega (arith, ints);
  generation_high = let h = s.generation_high in omega (arith, ints);
}
