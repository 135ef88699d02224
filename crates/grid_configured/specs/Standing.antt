-- What is kept of the things before one, and what it tells of them.
use Rattle.std.specs.Prelude.{◌≡◌, ℕ, ◌+◌, Option, Some, None, List, length, unwrap_or}
use Rattle.std.specs.BTreeMap.{BTreeMap, get}
use Rattle.std.specs.Cmp.Lexicographic.{slice_cmp}
use Rattle.std.specs.Ordering.{nat_cmp}
use Rattle.grid_ids.specs.Name.{has_id}
use Rattle.grid_json.specs.declared.buses.BusEnd.{BusEnd}
use Rattle.grid_configured.specs.declared.network.ConfiguredLevel.{ConfiguredLevel}
use Rattle.grid_configured.specs.declared.standing.EndFinding.{EndFinding}
use Rattle.grid_configured.specs.declared.standing.Standing.{Standing}
use Rattle.grid_configured.specs.declared.standing.Tally.{Tally}
use Rattle.grid_configured.specs.Checks.{ends_in, level_edges, level_nodes, level_of, switch_total}
use Rattle.grid_json.specs.Seen.{Knows}

-- ---- tables by ids

unfoldable pub tally_at : BTreeMap (List ℕ) Tally → List ℕ → Option Tally
tally_at table id = get (slice_cmp nat_cmp) table id

-- an id that has no count counts as none
unfoldable pub count_at : BTreeMap (List ℕ) ℕ → List ℕ → ℕ
count_at table id = unwrap_or (get (slice_cmp nat_cmp) table id) 0

-- ---- levels

-- what is kept of a level, whose buses are seen
abbrev pub tally_of : List (List ℕ) → ConfiguredLevel → Tally
tally_of buses level = record { buses = buses; nodes = level_nodes level; edges = level_edges level }

-- what is kept is that of the level, where there is one
abbrev pub IsTally : Option ConfiguredLevel → Option Tally → Type 0
IsTally None None = Unit {0}
IsTally None (Some tally) = ⊥
IsTally (Some level) None = ⊥
IsTally (Some level) (Some tally) = Knows tally.buses level.buses × (tally.nodes ≡ level_nodes level) × (tally.edges ≡ level_edges level)

-- what an end at a bus finds of a level with so many ends, in a network with so many switches
abbrev pub spot_of : List ℕ → ℕ → ℕ → Tally → EndFinding
spot_of bus ends switches tally = record {
  there = has_id tally.buses bus;
  ends = ends;
  counts = record { nodes = tally.nodes + ends; edges = tally.edges + ends; switches = switches };
}

-- ---- a network so far

-- things have these ids; these levels stand, and these ends of lines
pub record Stands (ids : List (List ℕ)) (levels : List ConfiguredLevel) (ends : List BusEnd) (standing : Standing) : Type 0 where
  pub known : Knows standing.ids ids
  pub found : (q : List ℕ) → IsTally (level_of levels q) (tally_at standing.levels q)
  pub ended : (q : List ℕ) → count_at standing.ends q ≡ ends_in q ends
  pub counted : standing.switches ≡ switch_total levels + length ends
