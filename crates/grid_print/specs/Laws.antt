-- What is written is read back.
use Rattle.std.specs.Prelude.{ℕ, suc, pos, nat_le, false, ◌^◌, ◌<◌, ◌≡◌, List, [], ◌∷◌, ◌++◌, map, flat_map, None, Ok, All}
use Rattle.json.specs.Token.{Token}
use Rattle.json.specs.Lex.{tokens}
use Rattle.json.specs.Print.{print, ArePrintable}
use Rattle.grid_kinds.specs.declared.Injection.{Injection}
use Rattle.grid_level.specs.VoltageLevel.{VoltageLevel}
use Rattle.grid_level.specs.declared.Stand.{Stand}
use Rattle.grid_level.specs.declared.Stand.TheVariants.{Busbar, Feeder, BranchEnd}
use Rattle.grid_level.specs.declared.Switch.{Switch}
use Rattle.grid_level.specs.declared.Internal.{Internal}
use Rattle.grid_structure.specs.Network.{Network, Substation}
use Rattle.grid_structure.specs.declared.Branch.{Branch}
use Rattle.grid_structure.specs.declared.Branch.TheVariants.{Line, TwoWindings, ThreeWindings}
use Rattle.grid_structure.specs.declared.End.{End}
use Rattle.grid_json.specs.declared.format.Format.{Format}
use Rattle.grid_json.specs.declared.network.BusbarDraft.{BusbarDraft}
use Rattle.grid_json.specs.declared.network.InjectionDraft.{InjectionDraft}
use Rattle.grid_json.specs.declared.network.LevelDraft.{LevelDraft}
use Rattle.grid_json.specs.declared.network.AnyLevelDraft.TheVariants as levels
use Rattle.grid_json.specs.declared.buses.EndDraft.TheVariants as ends
use Rattle.grid_json.specs.declared.network.TransformerDraft.{TransformerDraft}
use Rattle.grid_json.specs.declared.network.Windings.TheVariants as windings
use Rattle.grid_json.specs.declared.network.LineDraft.{LineDraft}
use Rattle.grid_json.specs.declared.network.SubstationDraft.{SubstationDraft}
use Rattle.grid_json.specs.declared.network.NetworkDraft.{NetworkDraft}
use Rattle.grid_json.specs.declared.network.SwitchDraft.{SwitchDraft}
use Rattle.grid_json.specs.declared.network.InternalDraft.{InternalDraft}
use Rattle.grid_json.specs.declared.job.JobDraft.{JobDraft}
use Rattle.grid_json.specs.Reading.{array_at}
use Rattle.grid_json.specs.Formats.{number_of}
use Rattle.grid_json.specs.Network.{busbar_at, switch_at, internal_at, injection_at, any_level_at, end_at, end_draft_at, network_at}
use Rattle.grid_json.specs.Job.{draft_at}
use Rattle.grid_print.specs.Objects.{array_of}
use Rattle.grid_print.specs.Network.{busbar_value, switch_value, internal_value, injection_value, level_value, end_value, network_value}
use Rattle.grid_print.specs.Formats.{item_format, HasWordsOf, IsWrittenIn}
use Rattle.grid_print.specs.Job.{job_value}
use Rattle.grid_print.specs.Readable.{IsId, AreWhole, IsReadableSwitch, IsReadableInternal, IsReadableLevel, IsReadableEnd, IsReadable}

-- ---- the parts of a level

-- a busbar section at its node
abbrev pub BusbarsAreRead : Type 0
BusbarsAreRead = (id : List ℕ) (node : ℕ) → IsId id → node < 2 ^ 63 → busbar_at (busbar_value id node) ≡ Ok (record { id = id; node = pos node })

abbrev pub switch_draft : Switch → SwitchDraft
switch_draft s = record { id = s.id; kind = s.kind; node1 = pos s.node1; node2 = pos s.node2; opened = s.opened; retained = s.retained; fictitious = s.fictitious }

-- switches with their kinds, their nodes and their flags, in order
abbrev pub SwitchesAreRead : Type 0
SwitchesAreRead = (format : Format) (switches : List Switch) → All IsReadableSwitch switches → array_at (switch_at format) (array_of switch_value switches) ≡ Ok (map switch_draft switches)

abbrev pub internal_draft : Internal → InternalDraft
internal_draft i = record { node1 = pos i.node1; node2 = pos i.node2 }

-- internal connections with their nodes, in order
abbrev pub InternalsAreRead : Type 0
InternalsAreRead = (internals : List Internal) → All IsReadableInternal internals → array_at internal_at (array_of internal_value internals) ≡ Ok (map internal_draft internals)

-- an injection at its node, of a kind that the format has
abbrev pub InjectionsAreRead : Type 0
InjectionsAreRead = (format : Format) (id : List ℕ) (node : ℕ) (read : Injection) → IsId id → node < 2 ^ 63 → AreWhole read → nat_le (suc (number_of format)) (item_format read) ≡ false
    → injection_at format (injection_value id node read) ≡ Ok (record { id = id; node = pos node; item = read })

abbrev pub busbar_draft_of : List ℕ → ℕ → Stand → List BusbarDraft
busbar_draft_of id node Busbar = record { id = id; node = pos node } ∷ []
busbar_draft_of id node (Feeder read) = []
busbar_draft_of id node BranchEnd = []

abbrev pub injection_draft_of : List ℕ → ℕ → Stand → List InjectionDraft
injection_draft_of id node Busbar = []
injection_draft_of id node (Feeder read) = record { id = id; node = pos node; item = read } ∷ []
injection_draft_of id node BranchEnd = []

abbrev pub level_draft : VoltageLevel → LevelDraft
level_draft l = record {
  id = l.id;
  nominal_v = l.nominal_v;
  low_v = l.low_v;
  high_v = l.high_v;
  busbars = flat_map (λ p. busbar_draft_of p.terminal.equipment p.node p.stand) l.placed;
  switches = map switch_draft l.switches;
  internals = map internal_draft l.internals;
  injections = flat_map (λ p. injection_draft_of p.terminal.equipment p.node p.stand) l.placed;
}

-- a level with its parts, as one of nodes
abbrev pub LevelsAreRead : Type 0
LevelsAreRead = (format : Format) (l : VoltageLevel) → IsReadableLevel l → HasWordsOf format l → any_level_at format (level_value l) ≡ Ok (levels.Nodes (level_draft l))

-- ---- branches

-- an end of a branch that an edit adds
abbrev pub EndsAreRead : Type 0
EndsAreRead = (e : End) → IsReadableEnd e → end_at (end_value e) ≡ Ok e

-- an end of a network's branch, as one by node
abbrev pub EndDraftsAreRead : Type 0
EndDraftsAreRead = (format : Format) (e : End) → IsReadableEnd e → end_draft_at format (end_value e) ≡ Ok (ends.Node e)

abbrev pub transformer_draft_of : List ℕ → Branch → List TransformerDraft
transformer_draft_of id (Line end1 end2) = []
transformer_draft_of id (TwoWindings substation end1 end2 rated_u1 rated_u2) =
    record { id = id; windings = windings.Two (record { first = ends.Node end1; second = ends.Node end2 }) (record { first = rated_u1; second = rated_u2 }) } ∷ []
transformer_draft_of id (ThreeWindings substation end1 end2 end3 rated_u1 rated_u2 rated_u3) =
    record { id = id; windings = windings.Three (record { first = ends.Node end1; second = ends.Node end2; third = ends.Node end3 }) (record { first = rated_u1; second = rated_u2; third = rated_u3 }) } ∷ []

abbrev pub line_draft_of : List ℕ → Branch → List LineDraft
line_draft_of id (Line end1 end2) = record { id = id; ends = record { first = ends.Node end1; second = ends.Node end2 } } ∷ []
line_draft_of id (TwoWindings substation end1 end2 rated_u1 rated_u2) = []
line_draft_of id (ThreeWindings substation end1 end2 end3 rated_u1 rated_u2 rated_u3) = []

-- ---- networks

abbrev pub substation_draft : Substation → SubstationDraft
substation_draft s = record { id = s.id; levels = map (λ l. levels.Nodes (level_draft l)) s.levels; transformers = flat_map (λ b. transformer_draft_of b.id b.shape) s.transformers }

-- what a network is before it is loaded
abbrev pub network_draft : Network → NetworkDraft
network_draft net = record { id = net.id; substations = map substation_draft net.substations; lines = flat_map (λ b. line_draft_of b.id b.shape) net.lines }

-- the first pass over a network that was written gives the network again, as it is before it is loaded, in every format that has its words
abbrev pub NetworksAreRead : Type 0
NetworksAreRead = (format : Format) (net : Network) → IsReadable net → IsWrittenIn format net → network_at format (network_value net) ≡ Ok (network_draft net)

-- the network alone, with no listeners, no workers and no order
abbrev pub draft_alone : Network → JobDraft
draft_alone net = record { network = network_draft net; filters = []; scripts = []; order = None }

-- and over the job of that network alone
abbrev pub NetworkJobsAreRead : Type 0
NetworkJobsAreRead = (net : Network) → IsReadable net → draft_at (job_value net [] [] None) ≡ Ok (draft_alone net)

-- ---- texts

-- the tokens of a printed text are those of the text with a newline after it
abbrev pub NewlinesArePassedOver : Type 0
NewlinesArePassedOver = (ts : List Token) → ArePrintable ts → tokens (print ts ++ 10 ∷ []) ≡ tokens (print ts)
