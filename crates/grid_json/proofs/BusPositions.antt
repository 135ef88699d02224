-- The place of a configured bus is its position in the list of its level's buses.
use Rattle.std.proofs.Common.{◌≡◌, refl, ap, ◌∙◌, ℕ, suc, ◌+◌, Bool, true, false, cond, not, ◌&&◌, List, [], ◌∷◌, ◌++◌, Option, Some, None, arith}
use Rattle.std.specs.Prelude.{find, map, position}
use Rattle.std.specs.List.{enumerate_from, list_all}
use Rattle.std.specs.Option.{option_map}
use Rattle.std.proofs.lemmas.Bool.{and_parts}
use Rattle.grid_lemmas.proofs.Lists.{position-cons}
use Rattle.grid_lemmas.proofs.Options.{none_added}
use Rattle.grid_ids.specs.Name.{same_id}
use Rattle.grid_level.specs.declared.Placed.{Placed}
use Rattle.grid_level.specs.Passing.{is_busbar}
use Rattle.grid_placed.specs.Translation.{bus_section}
use Rattle.grid_json.specs.Loading.{bus_place, is_bus}
use Rattle.grid_json.specs.BusPositions.{PlacesArePositions}

no_bus : (bus : List ℕ) (ps : List Placed) → list_all (λ (p : Placed). not (is_busbar p.stand)) ps ≡ true → find (is_bus bus) ps ≡ None
no_bus bus [] h = refl
no_bus bus (p ∷ ps) h = let parts = and_parts (not (is_busbar p.stand)) (list_all (λ (p : Placed). not (is_busbar p.stand)) ps) h in by (is_busbar p.stand) parts.0 (no_bus bus ps parts.1)
  where
    by : (t : Bool) → not t ≡ true → find (is_bus bus) ps ≡ None → ◌≡◌ {A = Option Placed} (cond (t && same_id bus p.terminal.equipment) (Some p) (find (is_bus bus) ps)) None
    by true e rest = cc
    by false e rest = rest

added : (place : ℕ) (o : Option ℕ) → option_map {U = ℕ} (λ j. place + 1 + j) o ≡ option_map (λ j. place + j) (option_map suc o)
added place None = refl
added place (Some j) = let sum : place + 1 + j ≡ place + suc j = omega arith in ap (λ (z : ℕ). Some z) sum

module _ (bus : List ℕ) (terminals : List Placed) (none : list_all (λ (p : Placed). not (is_busbar p.stand)) terminals ≡ true) where
  found_from : (place : ℕ) (buses : List (List ℕ)) → option_map (λ (p : Placed). p.node) (find (is_bus bus) (map bus_section (enumerate_from place buses) ++ terminals)) ≡ option_map (λ j. place + j) (position (same_id bus) buses)
  unfolding bus_section is_busbar
  found_from place [] = ap (option_map (λ (p : Placed). p.node)) (no_bus bus terminals none)
  found_from place (b ∷ buses) = by (same_id bus b) refl (found_from (place + 1) buses)
    where
      by : (t : Bool) → same_id bus b ≡ t → option_map (λ (p : Placed). p.node) (find (is_bus bus) (map bus_section (enumerate_from (place + 1) buses) ++ terminals)) ≡ option_map (λ j. place + 1 + j) (position (same_id bus) buses)
          → option_map (λ (p : Placed). p.node) (find (is_bus bus) (map bus_section (enumerate_from place (b ∷ buses)) ++ terminals)) ≡ option_map (λ j. place + j) (position (same_id bus) (b ∷ buses))
      by true is rest = let sum : place ≡ place + 0 = omega arith in rw (position-cons (same_id bus) b buses, is) (ap (λ (z : ℕ). Some z) sum)
      by false is rest = rw (position-cons (same_id bus) b buses, is) (rest ∙ added place (position (same_id bus) buses))

pub places_are_positions : PlacesArePositions
unfolding bus_place
places_are_positions level buses terminals bus placed none =
    ap (λ z. option_map (λ (p : Placed). p.node) (find (is_bus bus) z)) placed ∙ found_from bus terminals none 0 buses ∙ none_added (position (same_id bus) buses)
