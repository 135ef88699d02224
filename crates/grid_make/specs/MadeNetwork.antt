-- The network of the made job: the edits that make it of an empty network, in order.
use Rattle.std.specs.Prelude.{◌≡◌, ◌≤◌, ℕ, ℤ, pos, ◌+◌, ◌-◌, ◌*◌, ◌%◌, ◌==◌, Bool, true, false, not, if◌then◌else◌, None, Result, Ok, List, [], ◌∷◌, ◌++◌, decimal, codes}
use Rattle.grid_ids.specs.Refusing.{◌>>=◌}
use Rattle.grid_kinds.specs.declared.Injection.{Injection}
use Rattle.grid_kinds.specs.declared.Injection.TheVariants.{Load, Generator}
use Rattle.grid_kinds.specs.declared.SwitchKind.{SwitchKind}
use Rattle.grid_kinds.specs.declared.SwitchKind.TheVariants.{Breaker, Disconnector}
use Rattle.grid_structure.specs.declared.End.{End}
use Rattle.grid_structure.specs.declared.Branch.TheVariants.{Line}
use Rattle.grid_structure.specs.declared.Edit.{Edit}
use Rattle.grid_structure.specs.declared.Edit.TheVariants as edits
use Rattle.grid_structure.specs.declared.EditFault.{EditFault}
use Rattle.grid_structure.specs.Network.{Network, empty_of}
use Rattle.grid_structure.specs.Editing.{apply}
use Rattle.grid_requests.specs.Changes.{changed_or}
use Rattle.grid_make.specs.Draws.{next, later, same, is_odd, in_turn}

-- ---- names, each with the number of its level, and of its feeder where it has one

abbrev pub substation_name : ℕ → List ℕ
substation_name i = codes "S" ++ decimal i

abbrev pub level_name : ℕ → List ℕ
level_name i = codes "L" ++ decimal i

-- what belongs to a level, by the text after the level's name
abbrev pub part_name : ℕ → List ℕ → List ℕ
part_name i part = codes "L" ++ decimal i ++ part

-- one of the switches of a feeder, by its letter
abbrev pub switch_name : ℕ → ℕ → List ℕ → List ℕ
switch_name i f letter = part_name i (codes "F" ++ decimal f ++ letter)

abbrev pub injection_name : ℕ → ℕ → List ℕ
injection_name i f = part_name i (codes "I" ++ decimal f)

-- the line from a level to the next one
abbrev pub line_name : ℕ → List ℕ
line_name i = codes "T" ++ decimal i

-- ---- a level with its substation

-- in V
abbrev pub nominal : ℤ
nominal = pos 225000

-- the substation, its level, and the two busbar sections
unfoldable pub busbar_edits : ℕ → List Edit
busbar_edits i =
    edits.AddSubstation (substation_name i)
    ∷ edits.AddLevel (level_name i) (substation_name i) nominal None None
    ∷ edits.AddBusbar (part_name i (codes "B0")) (level_name i) (pos 0)
    ∷ edits.AddBusbar (part_name i (codes "B1")) (level_name i) (pos 1)
    ∷ []

-- the coupler between the busbar sections, open where the next draw is odd; it alone is retained
unfoldable pub coupler_edit : ℕ → ℕ → Edit
coupler_edit i before = edits.AddSwitch (part_name i (codes "C")) (level_name i) Breaker (pos 0) (pos 1) (is_odd (next before)) true false

-- a switch of a feeder
unfoldable pub switch_edit : ℕ → ℕ → List ℕ → SwitchKind → ℕ → ℕ → Bool → Edit
switch_edit i f letter kind node1 node2 opened = edits.AddSwitch (switch_name i f letter) (level_name i) kind (pos node1) (pos node2) opened false false

-- in W
abbrev pub feeder_power : ℕ → ℤ
feeder_power f = pos (1000000 * (f + 1))

-- a load at the feeders of even numbers, a generator at those of odd ones
unfoldable pub feeder_injection : ℕ → Injection
feeder_injection f = if f % 2 == 0 then Load (feeder_power f) (pos 0) else Generator (feeder_power f) nominal (pos 0) (pos 10000000)

-- an internal connection of a level
unfoldable pub internal_edit : ℕ → ℕ → ℕ → Edit
internal_edit i node1 node2 = edits.AddInternal (level_name i) (pos node1) (pos node2)

unfoldable pub injection_edit : ℕ → ℕ → Edit
injection_edit i f = edits.AddInjection (injection_name i f) (level_name i) (pos (4 + 3 * f)) (feeder_injection f)

-- a feeder: two disconnectors, P from the first busbar section and Q from the second, of which P is closed and Q open where
-- the next draw is even, and the other way round where it is odd; a closed breaker K behind them; an internal connection
-- from there to the injection
unfoldable pub feeder_edits : ℕ → ℕ → ℕ → List Edit
feeder_edits i f before =
    switch_edit i f (codes "P") Disconnector 0 (2 + 3 * f) (is_odd (next before))
    ∷ switch_edit i f (codes "Q") Disconnector 1 (2 + 3 * f) (not (is_odd (next before)))
    ∷ switch_edit i f (codes "K") Breaker (2 + 3 * f) (3 + 3 * f) false
    ∷ internal_edit i (3 + 3 * f) (4 + 3 * f)
    ∷ injection_edit i f
    ∷ []

-- the internal connection from a busbar section to where a line ends, if there is one
unfoldable pub outlet_edits : Bool → ℕ → ℕ → ℕ → List Edit
outlet_edits false i node1 node2 = []
outlet_edits true i node1 node2 = internal_edit i node1 node2 ∷ []

-- a level takes five draws: one for its coupler, then one for each of its four feeders; the last level has no line to a next
-- one, and the first one none from one before
unfoldable pub level_edits : ℕ → ℕ → ℕ → List Edit
level_edits size i before =
    busbar_edits i
    ++ (coupler_edit i before ∷ in_turn (feeder_edits i) next 0 4 (next before))
    ++ outlet_edits (not (i + 1 == size)) i 0 100
    ++ outlet_edits (not (i == 0)) i 1 101

-- ---- the network

abbrev pub line_end : ℕ → ℕ → End
line_end i node = record { level = level_name i; node = pos node }

-- the line from a level to the next one, which takes no draw
unfoldable pub line_edits : ℕ → ℕ → List Edit
line_edits i before = edits.AddBranch (line_name i) (Line (line_end i 100) (line_end (i + 1) 101)) ∷ []

-- all levels, then the lines between them; all draws of a level come before those of the next one
unfoldable pub made_edits : ℕ → ℕ → List Edit
made_edits seed size = in_turn (level_edits size) (later 5) 0 size seed ++ in_turn line_edits same 0 (size - 1) 0

-- a network after edits, without those that are refused
unfoldable pub network_after : List Edit → Network → Network
network_after [] net = net
network_after (edit ∷ edits) net = network_after edits (changed_or net (apply net edit))

-- a network after edits, or the first refusal
unfoldable pub unrefused : List Edit → Network → Result Network EditFault
unrefused [] net = Ok net
unrefused (edit ∷ edits) net = apply net edit >>= unrefused edits

-- no substation and no line yet
abbrev pub blank : Network
blank = empty_of (codes "M")

abbrev pub made_network : ℕ → ℕ → Network
made_network seed size = network_after (made_edits seed size) blank

-- a network that the edits make of a blank one, none of them refused
abbrev pub IsUnrefused : ℕ → ℕ → Network → Type 0
IsUnrefused seed size net = unrefused (made_edits seed size) blank ≡ Ok net

-- no edit of a made network is refused, whatever the seed
abbrev pub MadeEditsAreAccepted : Type 0
MadeEditsAreAccepted = (seed size : ℕ) → 1 ≤ size → size ≤ 1000 → unrefused (made_edits seed size) blank ≡ Ok (made_network seed size)
