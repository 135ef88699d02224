-- What the formats before the fifth give: levels and ends of nodes alone, and one loading edit for each part.
use Rattle.std.specs.Prelude.{◌≡◌, ℕ, pos, Bool, true, false, not, ◌&&◌, List, Result, Ok, codes}
use Rattle.std.specs.List.{list_all}
use Rattle.serde_json.specs.Data.{Data}
use Rattle.grid_structure.specs.declared.Branch.{Branch}
use Rattle.grid_structure.specs.declared.Edit.TheVariants as edits
use Rattle.grid_structure.specs.declared.End.{End}
use Rattle.grid_structure.specs.Network.{Network, empty_of}
use Rattle.grid_json.specs.declared.fault.Fault.{Fault}
use Rattle.grid_json.specs.declared.format.Format.{Format}
use Rattle.grid_json.specs.declared.buses.EndDraft.{EndDraft}
use Rattle.grid_json.specs.declared.buses.EndDraft.TheVariants as ends
use Rattle.grid_json.specs.declared.ends.Two.{Two}
use Rattle.grid_json.specs.declared.ends.Three.{Three}
use Rattle.grid_json.specs.declared.network.AnyLevelDraft.{AnyLevelDraft}
use Rattle.grid_json.specs.declared.network.AnyLevelDraft.TheVariants as levels
use Rattle.grid_json.specs.declared.network.TransformerDraft.{TransformerDraft}
use Rattle.grid_json.specs.declared.network.Windings.{Windings}
use Rattle.grid_json.specs.declared.network.Windings.TheVariants as shapes
use Rattle.grid_json.specs.declared.network.LineDraft.{LineDraft}
use Rattle.grid_json.specs.declared.network.SubstationDraft.{SubstationDraft}
use Rattle.grid_json.specs.declared.network.NetworkDraft.{NetworkDraft}
use Rattle.grid_json.specs.Reading.{◌>>=◌, under}
use Rattle.grid_json.specs.Command.{line_of, two_windings_of, three_windings_of}
use Rattle.grid_json.specs.Network.{has_buses, end_at, end_draft_at, level_at, any_level_at, network_at}
use Rattle.grid_json.specs.Loading.{load_member, edited, level_load, is_by_bus, network_load}

-- ---- reading

-- a level, and an end of a branch, is read as one of nodes
pub record OlderFormatsReadNodes : Type 0 where
  pub level : (format : Format) (d : Data) → has_buses format ≡ false → any_level_at format d ≡ (level_at format d >>= λ level. Ok (levels.Nodes level))
  pub end : (format : Format) (d : Data) → has_buses format ≡ false → end_draft_at format d ≡ (end_at d >>= λ end. Ok (ends.Node end))

-- ---- drafts of nodes alone

abbrev pub is_of_nodes : AnyLevelDraft → Bool
is_of_nodes (levels.Nodes l) = true
is_of_nodes (levels.Buses l) = false

abbrev pub at_nodes : EndDraft → Bool
at_nodes end = not (is_by_bus end)

abbrev pub two_at_nodes : Two EndDraft → Bool
two_at_nodes two = at_nodes two.first && at_nodes two.second

abbrev pub windings_at_nodes : Windings → Bool
windings_at_nodes (shapes.Two two rated) = two_at_nodes two
windings_at_nodes (shapes.Three three rated) = at_nodes three.first && (at_nodes three.second && at_nodes three.third)

abbrev pub transformer_at_nodes : TransformerDraft → Bool
transformer_at_nodes t = windings_at_nodes t.windings

abbrev pub line_at_nodes : LineDraft → Bool
line_at_nodes l = two_at_nodes l.ends

abbrev pub substation_of_nodes : SubstationDraft → Bool
substation_of_nodes s = list_all is_of_nodes s.levels && list_all transformer_at_nodes s.transformers

-- no level has configured buses, and no end is by bus
abbrev pub network_of_nodes : NetworkDraft → Bool
network_of_nodes n = list_all substation_of_nodes n.substations && list_all line_at_nodes n.lines

abbrev pub OlderFormatsHaveNodes : Type 0
OlderFormatsHaveNodes = (format : Format) (d : Data) (n : NetworkDraft) → has_buses format ≡ false → network_at format d ≡ Ok n → network_of_nodes n ≡ true

-- ---- loading by edits

-- the end at its node; of an end by bus nothing is said
abbrev pub node_end : EndDraft → End
node_end (ends.Node e) = e
node_end (ends.Bus e) = record { level = e.level; node = pos 0 }

abbrev pub two_ends : Two EndDraft → Two End
two_ends two = record { first = node_end two.first; second = node_end two.second }

abbrev pub three_ends : Three EndDraft → Three End
three_ends three = record { first = node_end three.first; second = node_end three.second; third = node_end three.third }

abbrev pub shape_of : List ℕ → Windings → Branch
shape_of substation (shapes.Two two rated) = two_windings_of substation (two_ends two) rated
shape_of substation (shapes.Three three rated) = three_windings_of substation (three_ends three) rated

unfoldable pub transformer_edit : TransformerDraft → List ℕ → Network → Result Network Fault
transformer_edit t substation net = edited (edits.AddBranch t.id (shape_of substation t.windings)) net

unfoldable pub line_edit : LineDraft → List ℕ → Network → Result Network Fault
line_edit l owner net = edited (edits.AddBranch l.id (line_of (two_ends l.ends))) net

-- of a level with configured buses nothing is said
unfoldable pub level_edits : AnyLevelDraft → List ℕ → Network → Result Network Fault
level_edits (levels.Nodes l) substation net = level_load l substation net
level_edits (levels.Buses l) substation net = Ok net

-- the substation, then its levels, then its transformers
unfoldable pub substation_edits : SubstationDraft → List ℕ → Network → Result Network Fault
substation_edits s owner net = do
  made ← edited (edits.AddSubstation s.id) net
  with_levels ← load_member level_edits (codes "levels") s.levels s.id made
  load_member transformer_edit (codes "transformers") s.transformers s.id with_levels

-- the substations, then the lines
unfoldable pub parts_edits : NetworkDraft → Network → Result Network Fault
parts_edits n net = do
  with_substations ← load_member substation_edits (codes "substations") n.substations n.id net
  load_member line_edit (codes "lines") n.lines n.id with_substations

unfoldable pub network_edits : NetworkDraft → Result Network Fault
network_edits n = under (codes "network") (parts_edits n (empty_of n.id))

-- a draft of nodes alone is loaded by these edits
abbrev pub NodesLoadByEdits : Type 0
NodesLoadByEdits = (n : NetworkDraft) → network_of_nodes n ≡ true → network_load n ≡ network_edits n
