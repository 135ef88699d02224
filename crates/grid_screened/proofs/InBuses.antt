-- Which equipment stands in a bus of some levels, and what all buses have.
use Rattle.std.proofs.Common.{◌≡◌, refl, sym, ap, ◌∙◌, subst, ℕ, ◌+◌, ℤ, pos, Bool, true, List, [], ◌∷◌, map, arith}
use Rattle.std.specs.Prelude.{◌+ℤ◌, filter, flat_map, fold, slice_get, Some}
use Rattle.std.specs.List.{enumerate_from, list_any}
use Rattle.std.proofs.lemmas.Int.{ints}
use Rattle.grid_ids.specs.Name.{same_id}
use Rattle.grid_ids.proofs.Alike.{same_is}
use Rattle.grid_level.specs.declared.Placed.{Placed}
use Rattle.grid_level.specs.declared.Terminal.{Terminal}
use Rattle.grid_level.specs.VoltageLevel.{VoltageLevel}
use Rattle.grid_level.specs.Passing.{positioned, placed_among}
use Rattle.grid_groups.specs.Groups.{terminals_at}
use Rattle.grid_powers.specs.Listed.{Listed}
use Rattle.grid_states.specs.Rows.{row_at}
use Rattle.grid_structure.proofs.Frames.{is_same}
use Rattle.grid_busview.specs.declared.ViewBus.{ViewBus}
use Rattle.grid_busview.specs.Views.{bus_of, bus_leasts, bus_view_of}
use Rattle.grid_watts.specs.Watts.{level_watts}
use Rattle.grid_islands.specs.Islands.{NetworkBus}
use Rattle.grid_screen.specs.Figures.{total_over}
use Rattle.grid_sums.specs.Sums.{buses_under}
use Rattle.grid_outages.specs.Changes.{buses_over}
use Rattle.grid_screened.proofs.BusNodes.{in_group, in_bus}
use Rattle.grid_outages.proofs.Members.{Among, any_among, any_found, among_map, map_among, among_flat, flat_among, among_filter, filter_among, among_enumerate, enumerate_among}
use Rattle.grid_screened.proofs.ListSums.{sum_of, fold_sum, sum-map, sum-flat}

-- a terminal of the equipment stands in the bus
abbrev pub has_equipment : List ℕ → ViewBus → Bool
has_equipment id b = list_any (λ t. same_id id t.equipment) b.terminals

-- what stands at a node that a bus holds
pub record Holds (ls : List VoltageLevel) (rows : List (List Bool)) (id : List ℕ) : Type 0 where
  pub place : ℕ
  pub level : VoltageLevel
  pub at : slice_get ls place ≡ Some level
  pub item : Placed
  pub stands : Among item level.placed
  pub own : item.terminal.equipment ≡ id
  pub here : in_bus (positioned level (row_at rows place)) item.node ≡ true

-- in the buses of one level
module _ (listed : Listed) (level : VoltageLevel) (opened : List Bool) (id : List ℕ) where
  abbrev now : VoltageLevel
  now = positioned level opened

  held_in : (b : ViewBus) → Among b (buses_under listed level opened) → has_equipment id b ≡ true → (p : Placed) × Among p level.placed × (p.terminal.equipment ≡ id) × (in_bus now p.node ≡ true)
  unfolding buses_under bus_view_of bus_leasts bus_of terminals_at placed_among positioned
  held_in b i h =
      let least = map_among (bus_of now (level_watts listed level)) b (bus_leasts now) i in
      let named = subst (λ (z : ViewBus). has_equipment id z ≡ true) least.2 h in
      let t = any_found (λ (t : Terminal). same_id id t.equipment) (map (λ (p : Placed). p.terminal) (filter (λ (p : Placed). in_group now least.0 p.node) level.placed)) named in
      let p = map_among (λ (p : Placed). p.terminal) t.0 (filter (λ (p : Placed). in_group now least.0 p.node) level.placed) t.1 in
      let both = filter_among (λ (p : Placed). in_group now least.0 p.node) p.0 level.placed p.1 in
      (p.0, both.0, ap (λ (t : Terminal). t.equipment) (sym p.2) ∙ sym (same_is id t.0.equipment t.2), any_among (λ k. in_group now k p.0.node) least.0 (bus_leasts now) least.1 both.1)

  in_held : (p : Placed) → Among p level.placed → p.terminal.equipment ≡ id → in_bus now p.node ≡ true → (b : ViewBus) × Among b (buses_under listed level opened) × (has_equipment id b ≡ true)
  unfolding buses_under bus_view_of bus_leasts bus_of terminals_at placed_among positioned
  in_held p i own h =
      let least = any_found (λ k. in_group now k p.node) (bus_leasts now) h in
      let inside = among_filter (λ (p : Placed). in_group now least.0 p.node) p level.placed i least.2 in
      let t = among_map (λ (p : Placed). p.terminal) p (filter (λ (p : Placed). in_group now least.0 p.node) level.placed) inside in (
        bus_of now (level_watts listed level) least.0,
        among_map (bus_of now (level_watts listed level)) least.0 (bus_leasts now) least.1,
        any_among (λ (t : Terminal). same_id id t.equipment) p.terminal (map (λ (p : Placed). p.terminal) (filter (λ (p : Placed). in_group now least.0 p.node) level.placed)) t (is_same id p.terminal.equipment (sym own)),
      )

module _ (listed : Listed) (ls : List VoltageLevel) (rows : List (List Bool)) where
  abbrev level_has : ℕ × VoltageLevel → List NetworkBus
  level_has at = map (λ (b : ViewBus). (at.0, b)) (buses_under listed at.1 (row_at rows at.0))

  pub held : (id : List ℕ) → list_any (λ (b : NetworkBus). has_equipment id b.1) (buses_over listed ls rows) ≡ true → Holds ls rows id
  unfolding buses_over
  held id h =
      let found = any_found (λ (b : NetworkBus). has_equipment id b.1) (flat_map level_has (enumerate_from 0 ls)) h in
      let at = flat_among level_has found.0 (enumerate_from 0 ls) found.1 in
      let b = map_among (λ (b : ViewBus). (at.0.0, b)) found.0 (buses_under listed at.0.1 (row_at rows at.0.0)) at.2 in
      let place = enumerate_among ls 0 at.0 at.1 in
      let same : at.0.0 ≡ place.0 = omega (arith, place.1) in
      let has = subst (λ (z : NetworkBus). has_equipment id z.1 ≡ true) b.2 found.2 in
      let p = held_in listed at.0.1 (row_at rows at.0.0) id b.0 b.1 has in
      record {
        place = at.0.0;
        level = at.0.1;
        at = ap (slice_get ls) same ∙ place.2;
        item = p.0;
        stands = p.1;
        own = p.2;
        here = p.3;
      }

  pub holding : (id : List ℕ) → Holds ls rows id → list_any (λ (b : NetworkBus). has_equipment id b.1) (buses_over listed ls rows) ≡ true
  unfolding buses_over
  holding id r =
      let b = in_held listed r.level (row_at rows r.place) id r.item r.stands r.own r.here in
      let none : 0 + r.place ≡ r.place = omega arith in
      let at = subst (λ (z : ℕ). Among (z, r.level) (enumerate_from 0 ls)) none (among_enumerate ls 0 r.place r.level r.at) in
      let there = among_map (λ (b : ViewBus). (r.place, b)) b.0 (buses_under listed r.level (row_at rows r.place)) b.1 in
      any_among (λ (b : NetworkBus). has_equipment id b.1) (r.place, b.0) (flat_map level_has (enumerate_from 0 ls)) (among_flat level_has (r.place, b.0) (r.place, r.level) (enumerate_from 0 ls) at there) b.2

  -- the sum of all buses, level by level
  pub level_by_level : (watts : ViewBus → ℤ) → total_over watts (buses_over listed ls rows) ≡ sum_of (λ (at : ℕ × VoltageLevel). sum_of watts (buses_under listed at.1 (row_at rows at.0))) (enumerate_from 0 ls)
  unfolding buses_over total_over
  level_by_level watts =
      let own = λ (b : NetworkBus). watts b.1 in
      let folded = fold_sum own (pos 0) (flat_map level_has (enumerate_from 0 ls)) in
      let flat = sum-flat own level_has (enumerate_from 0 ls) in
      let start : fold (λ total (b : NetworkBus). total +ℤ watts b.1) (pos 0) (flat_map level_has (enumerate_from 0 ls)) ≡ sum_of own (flat_map level_has (enumerate_from 0 ls)) = omega (arith, ints, folded) in
      start ∙ flat ∙ each (enumerate_from 0 ls)
    where
      each : (xs : List (ℕ × VoltageLevel)) → sum_of (λ at. sum_of (λ (b : NetworkBus). watts b.1) (level_has at)) xs ≡ sum_of (λ (at : ℕ × VoltageLevel). sum_of watts (buses_under listed at.1 (row_at rows at.0))) xs
      each [] = refl
      each (at ∷ xs) = rw (sum-map (λ (b : NetworkBus). watts b.1) (λ (b : ViewBus). (at.0, b)) (buses_under listed at.1 (row_at rows at.0)), each xs) refl
