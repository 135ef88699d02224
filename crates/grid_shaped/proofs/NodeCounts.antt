-- The nodes of a loaded level with configured buses.
use Rattle.std.proofs.Common.{◌≡◌, refl, ap, ◌∙◌, ℕ, zero, suc, ◌+◌, List, [], ◌∷◌, ◌++◌, length, Some, arith}
use Rattle.std.specs.Prelude.{find, map, slice_get}
use Rattle.std.specs.List.{enumerate_from}
use Rattle.std.proofs.lemmas.Bool.{eq-eqb, ne_eqb}
use Rattle.std.proofs.lemmas.List.FromFn.{length-range_with_len}
use Rattle.grid_graph.specs.Components.{places}
use Rattle.grid_level.specs.declared.Placed.{Placed}
use Rattle.grid_level.specs.Passing.{nodes, placed_at, stands_at}
use Rattle.grid_structure.specs.Network.{Network}
use Rattle.grid_placed.specs.Translation.{bus_section, outlet_placed, outlets_at, translated_level}
use Rattle.grid_placed.proofs.Nodes.{level_nodes}
use Rattle.grid_json.specs.declared.buses.BusLevelDraft.{BusLevelDraft}
use Rattle.grid_json.specs.declared.network.NetworkDraft.{NetworkDraft}
use Rattle.grid_json.specs.declared.network.SubstationDraft.{SubstationDraft}
use Rattle.grid_json.specs.Loading.{next_node, node_count}
use Rattle.grid_shaped.specs.Drafts.{outlets_of, placed_level}
use Rattle.grid_shaped.specs.Laws.{BusesAreCounted, IsCounted, IsShaped}
use Rattle.grid_shaped.proofs.LevelShapes.{each_mapped, load_shaped}

section_found : (at i n : ℕ) (buses : List (List ℕ)) (bus : List ℕ) (rest : List Placed) → n ≡ at + i → slice_get buses i ≡ Some bus → find (stands_at n) (map bus_section (enumerate_from at buses) ++ rest) ≡ Some (bus_section (n, bus))
unfolding stands_at bus_section
section_found at i n [] bus rest is got = cc
section_found at zero n (b ∷ buses) bus rest is got =
    let same : b ≡ bus = cc in
    let here : at ≡ n = omega (arith, is) in
    rw (eq-eqb at n here) (rw (here, same) refl)
section_found at (suc i) n (b ∷ buses) bus rest is got =
    let past : (at ≡ n → ⊥) = λ e. omega (arith, e, is) in
    rw (ne_eqb at n past) (section_found (at + 1) i n buses bus rest (omega (arith, is)) got)

counted : (draft : NetworkDraft) (net : Network) (x : SubstationDraft) (l : BusLevelDraft) → IsShaped draft net x l → IsCounted draft net x l
unfolding placed_level translated_level placed_at next_node places bus_section
counted draft net x l shaped =
    let row : nodes (translated_level (placed_level draft x l)) ≡ places (length l.buses + length (outlets_of draft x l)) = level_nodes (placed_level draft x l) shaped.fits in
    record {
      loaded = translated_level (placed_level draft x l);
      stands = shaped.stands;
      buses = λ i bus got. section_found 0 i i l.buses bus (map outlet_placed (outlets_at (placed_level draft x l))) (omega arith) got;
      nodes_are = row;
      next = ap node_count shaped.stands ∙ ap length row ∙ length-range_with_len 0 (length l.buses + length (outlets_of draft x l));
    }

pub buses_counted : BusesAreCounted
buses_counted draft net h = each_mapped draft (IsShaped draft net) (IsCounted draft net) (counted draft net) (load_shaped draft net h)
