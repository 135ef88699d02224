-- What a variant lists, level by level: watts by node; and what every variant's list keeps.
use Rattle.std.specs.Prelude.{◌≡◌, ℕ, ℤ, pos, ◌+ℤ◌, neg_ℤ, Bool, if◌then◌else◌, IsTrue, Option, Some, None, List, map, filter_map, fold, option_map, option_and_then, unwrap_or}
use Rattle.std.specs.List.{list_all}
use Rattle.grid_powers.specs.Listed.{Listed, PowerList, value_in, with_value, IsByOrder}
use Rattle.grid_level.specs.declared.Placed.{Placed}
use Rattle.grid_level.specs.declared.Stand.{Stand}
use Rattle.grid_level.specs.VoltageLevel.{VoltageLevel}
use Rattle.grid_level.specs.Passing.{placed_at}
use Rattle.grid_structure.specs.Network.{Network}
use Rattle.grid_structure.specs.Sites.{levels, site}
use Rattle.grid_busview.specs.Views.{is_load, is_generation, stand_watts}
use Rattle.grid_states.specs.declared.row.NodeWatts.{NodeWatts}
use Rattle.grid_states.specs.declared.sums.Shift.{Shift}
use Rattle.grid_states.specs.declared.sums.Counted.{Counted}
use Rattle.grid_states.specs.declared.sums.Sum.TheVariants as sums
use Rattle.grid_states.specs.Pairs.{pair, value_at}
use Rattle.grid_states.specs.Sums.{shift_by}
use Rattle.grid_states.specs.Rows.{Rows}
use Rattle.grid_watts.specs.Watts.{is_powered, watts_at, powered, terminals, load_total, generation_total}
use Rattle.grid_watts.specs.Shares.{share}
use Rattle.grid_watts.specs.Ranges.{is_narrow}

-- ---- rows

-- the pair of a terminal: of a load, a generator or a battery whose id is listed
unfoldable pub listed_pair : Listed → Placed → Option NodeWatts
listed_pair listed p = if is_powered p.stand then option_map (pair p.node) (value_in listed p.terminal.equipment) else None

-- for each of a level's terminals that has one, by rising node
unfoldable pub listed_row : Listed → VoltageLevel → List NodeWatts
listed_row listed level = filter_map (listed_pair listed) level.placed

unfoldable pub listed_rows : Listed → Network → List (List NodeWatts)
listed_rows listed net = map (listed_row listed) (levels net)

-- the pairs of a row put by the ids of what stands at their nodes
unfoldable pub with_pair_of : VoltageLevel → Listed → NodeWatts → Listed
with_pair_of level listed w = elim (placed_at level w.node) [ Some p ↦ with_value p.terminal.equipment w.watts listed | None ↦ listed ]

unfoldable pub with_pairs_of : VoltageLevel → List NodeWatts → Listed → Listed
with_pairs_of level row listed = fold (with_pair_of level) listed row

-- the watts of what stands at a node, by the row of its level
unfoldable pub row_watts_at : List NodeWatts → Placed → ℤ
row_watts_at row p = if is_powered p.stand then unwrap_or (value_at p.node row) (stand_watts p.stand) else pos 0

-- what a variant has of a network, with these flags, where this is listed
abbrev pub rows_under : Network → List (List Bool) → List (List Bool) → Listed → Rows
rows_under net opened retained listed = record {
  opened = opened;
  retained = retained;
  watts = listed_rows listed net;
  load = load_total net listed;
  generation = generation_total net listed;
}

-- what is listed, with the sums over a network
abbrev pub powers_under : Network → Listed → PowerList
powers_under net listed = record { listed = listed; load = load_total net listed; generation = generation_total net listed }

-- ---- one terminal

-- the load, generator or battery of this id, with the place of its level
unfoldable pub powered_at : Network → List ℕ → Option (ℕ × Placed)
powered_at net id = option_and_then (λ at. option_map (λ p. (at.0, p)) (powered net id)) (site net id 1)

-- what a load, a generator or a battery counts by its record
unfoldable pub counted : Stand → Option Counted
counted stand =
    if is_load stand then Some (record { sum = sums.Load; watts = stand_watts stand })
    else if is_generation stand then Some (record { sum = sums.Generation; watts = stand_watts stand })
    else None

-- what the sums gain by the record of what stands somewhere
unfoldable pub gain : Stand → Shift
gain stand = shift_by (share is_load stand (stand_watts stand)) (share is_generation stand (stand_watts stand))

-- by what they change where it gets other watts
unfoldable pub change : Stand → ℤ → ℤ → Shift
change stand former watts =
    shift_by (share is_load stand watts +ℤ neg_ℤ (share is_load stand former)) (share is_generation stand watts +ℤ neg_ℤ (share is_generation stand former))

-- ---- what every list keeps

-- what is of no load, generator or battery of the network is not listed
abbrev pub AllThere : Network → Listed → Type 0
AllThere net listed = (id : List ℕ) → powered net id ≡ None → value_in listed id ≡ None

-- each id once, by byte order, and of a load, a generator or a battery of the network; all watts are numbers of 64 bits
pub record IsListing (net : Network) (listed : Listed) : Type 0 where
  pub ordered : IsByOrder listed
  pub there : AllThere net listed
  pub narrow : IsTrue (list_all (λ p. is_narrow (watts_at listed p)) (terminals net))
