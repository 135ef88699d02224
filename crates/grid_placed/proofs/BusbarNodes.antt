-- Which nodes of a level in node/breaker form carry a busbar section, and which are connected to one.
use Rattle.std.proofs.Common.{◌≡◌, refl, sym, ap, ◌∙◌, subst, ℕ, ◌+◌, ◌<◌, ◌≤◌, Bool, true, false, ◌&&◌, ◌||◌, List, [], ◌∷◌, length, inl, inr, arith}
use Rattle.std.specs.Prelude.{eqb, map, All}
use Rattle.std.specs.List.{list_any, enumerate_from}
use Rattle.std.proofs.lemmas.Bool.{and_from, and_left, and_right, cases_Bool, cases_lt, cases_eq, eq-eqb, ne_eqb, or_left, or_right}
use Rattle.std.proofs.lemmas.List.Folds.{list_any-append}
use Rattle.std.proofs.lemmas.List.Elements.{All-head, All-tail}
use Rattle.grid_graph.proofs.Reach.{In, any_of}
use Rattle.grid_graph.proofs.Places.{In_places}
use Rattle.grid_level.specs.declared.Placed.{Placed}
use Rattle.grid_level.specs.Passing.{bus, nodes, stands_at, is_busbar, carries_busbar, joined_under, is_connected}
use Rattle.grid_placed.specs.Places.{Outlet, PlacedLevel, PlacesFit}
use Rattle.grid_placed.specs.Translation.{bus_section, outlet_placed, outlets_at, translated_level}
use Rattle.grid_placed.proofs.Nodes.{level_nodes}
use Rattle.grid_placed.proofs.BusTerminals.{outlet_of, outlet_place}
use Rattle.grid_placed.proofs.JoinedNodes.{node_total, nodes_joined, level_joined, joined_hanging, joined_alone, joined_self, any_none}
use Rattle.grid_placed.proofs.BusGroups.{IsFed, outlets_fed}

-- a busbar section stands at a node
abbrev carries_at : ℕ → Placed → Bool
carries_at n p = stands_at n p && is_busbar p.stand

section_here : (n at : ℕ) (xs : List (List ℕ)) → at ≤ n → n < at + length xs → list_any (carries_at n) (map bus_section (enumerate_from at xs)) ≡ true
unfolding stands_at bus_section is_busbar
section_here n at [] le lt = absurd (omega (arith, le, lt))
section_here n at (x ∷ xs) le lt = elim (cases_eq at n) [
  | inl e ↦ or_left (eqb at n && true) (list_any (carries_at n) (map bus_section (enumerate_from (at + 1) xs))) (and_from (eqb at n) true (eq-eqb at n e) refl)
  | inr ne ↦ or_right (eqb at n && true) (list_any (carries_at n) (map bus_section (enumerate_from (at + 1) xs))) (section_here n (at + 1) xs (omega (arith, le, ne)) (omega (arith, lt)))
]

section_past : (n at : ℕ) (xs : List (List ℕ)) → at + length xs ≤ n → list_any (carries_at n) (map bus_section (enumerate_from at xs)) ≡ false
unfolding stands_at bus_section is_busbar
section_past n at [] le = refl
section_past n at (x ∷ xs) le =
    ap (λ t. (t && true) || list_any (carries_at n) (map bus_section (enumerate_from (at + 1) xs))) (ne_eqb at n (λ e. omega (arith, e, le)))
    ∙ section_past n (at + 1) xs (omega (arith, le))

no_section : (n : ℕ) (es : List (ℕ × Outlet)) → All IsFed es → list_any (carries_at n) (map outlet_placed es) ≡ false
unfolding outlet_placed
no_section n [] h = refl
no_section n (e ∷ es) h =
    ap (λ t. (stands_at n (outlet_placed e) && t) || list_any (carries_at n) (map outlet_placed es)) (All-head IsFed e es h)
    ∙ ap (λ t. t || list_any (carries_at n) (map outlet_placed es)) (and_right (stands_at n (outlet_placed e)) false refl)
    ∙ no_section n es (All-tail IsFed e es h)

module _ (level : PlacedLevel) (fit : PlacesFit level) where
  carries_parts : (n : ℕ) → carries_busbar (translated_level level) n ≡ list_any (carries_at n) (map bus_section (enumerate_from 0 level.buses))
  unfolding carries_busbar translated_level outlets_at
  carries_parts n =
      list_any-append (carries_at n) (map bus_section (enumerate_from 0 level.buses)) (map outlet_placed (outlets_at level))
      ∙ ap (λ t. list_any (carries_at n) (map bus_section (enumerate_from 0 level.buses)) || t) (no_section n (outlets_at level) (outlets_fed level fit))
      ∙ or_nothing (list_any (carries_at n) (map bus_section (enumerate_from 0 level.buses)))
    where
      or_nothing : (t : Bool) → t || false ≡ t
      or_nothing true = refl
      or_nothing false = refl

  -- the nodes of buses carry busbar sections
  pub carries_bus : (n : ℕ) → n < length level.buses → carries_busbar (translated_level level) n ≡ true
  carries_bus n lt = carries_parts n ∙ section_here n 0 level.buses (omega arith) (omega (arith, lt))

  -- and no others do
  pub carries_none : (n : ℕ) → length level.buses ≤ n → carries_busbar (translated_level level) n ≡ false
  carries_none n le = carries_parts n ∙ section_past n 0 level.buses (omega (arith, le))

  connected_by : (a b : ℕ) → b < length level.buses → nodes_joined level a b ≡ true → is_connected (translated_level level) a ≡ true
  unfolding is_connected
  connected_by a b lt j =
      let here : In b (nodes (translated_level level)) = (let P : List ℕ → Type 0 = λ z. In b z in subst P (sym (level_nodes level fit)) (In_places b (node_total level) (omega (arith, lt)))) in
      any_of (λ b. carries_busbar (translated_level level) b && joined_under bus (translated_level level) a b) (nodes (translated_level level)) b here
      (and_from (carries_busbar (translated_level level) b) (joined_under bus (translated_level level) a b) (carries_bus b lt) (level_joined level fit a b ∙ j))

  -- a bus is connected
  pub bus_connected : (a : ℕ) → a < length level.buses → is_connected (translated_level level) a ≡ true
  bus_connected a lt = connected_by a a lt (joined_self level fit a)

  apart : (y n : ℕ) → length level.buses ≤ y → (outlet_of level y).connected ≡ false → carries_busbar (translated_level level) n && joined_under bus (translated_level level) y n ≡ false
  apart y n b off = elim (cases_lt n (length level.buses)) [
    | inl lt ↦ and_right (carries_busbar (translated_level level) n) (joined_under bus (translated_level level) y n) (level_joined level fit y n ∙ joined_alone level fit y n b off ∙ ne_eqb y n (λ e. omega (arith, e, b, lt)))
    | inr le ↦ and_left (carries_busbar (translated_level level) n) (joined_under bus (translated_level level) y n) (carries_none n le)
  ]

  -- a terminal is connected to a busbar section where it is connected to its bus
  pub outlet_connected : (y : ℕ) → length level.buses ≤ y → y < node_total level → is_connected (translated_level level) y ≡ (outlet_of level y).connected
  unfolding is_connected
  outlet_connected y b lt = elim (cases_Bool (outlet_of level y).connected) [
    | inl on ↦ connected_by y (outlet_of level y).place (outlet_place level fit y b lt) (joined_hanging level fit y b lt on) ∙ sym on
    | inr off ↦ any_none (λ n. carries_busbar (translated_level level) n && joined_under bus (translated_level level) y n) (nodes (translated_level level)) (λ n i. apart y n b off) ∙ sym off
  ]
