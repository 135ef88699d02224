-- The contingencies that are made of a network's pieces. The rule is this project's own.
use Rattle.std.specs.Prelude.{ℕ, Bool, true, false, not, ◌&&◌, List, [], ◌∷◌, map, filter, flat_map, take}
use Rattle.std.specs.List.{list_any, enumerate_from}
use Rattle.grid_structure.specs.Network.{Network}
use Rattle.grid_contingencies.specs.declared.Contingency.{Contingency}
use Rattle.grid_contingencies.specs.declared.Each.{Each}
use Rattle.grid_contingencies.specs.declared.Piece.{Piece}
use Rattle.grid_contingencies.specs.declared.Piece.TheVariants as pieces
use Rattle.grid_contingencies.specs.declared.Role.{Role}
use Rattle.grid_contingencies.specs.declared.Role.TheVariants as roles
use Rattle.grid_contingencies.specs.Pieces.{pieces_of}

-- ---- items, each once

abbrev pub same_piece : Piece → Piece → Bool
same_piece pieces.Line pieces.Line = true
same_piece pieces.TwoWindings pieces.TwoWindings = true
same_piece pieces.ThreeWindings pieces.ThreeWindings = true
same_piece pieces.Generator pieces.Generator = true
same_piece pieces.Load pieces.Load = true
same_piece pieces.BusbarSection pieces.BusbarSection = true
same_piece pieces.Breaker pieces.Breaker = true
same_piece kind other = false

abbrev pub same_role : Role → Role → Bool
same_role roles.Out roles.Out = true
same_role roles.Fault roles.Fault = true
same_role role other = false

unfoldable pub same_each : Each → Each → Bool
same_each item other = same_piece item.kind other.kind && same_role item.role other.role

unfoldable pub has_item : List Each → Each → Bool
has_item items item = list_any (same_each item) items

-- the item at a place equals none before it
abbrev pub is_first : List Each → ℕ × Each → Bool
is_first items at = not (has_item (take at.0 items) at.1)

-- an item that equals an earlier one counts once
unfoldable pub distinct : List Each → List Each
distinct items = map (λ at. at.1) (filter (is_first items) (enumerate_from 0 items))

-- ---- contingencies

-- the contingency of a piece, under its id as its name
unfoldable pub made_of : Role → List ℕ → Contingency
made_of roles.Out id = record { name = id; event = record { out = id ∷ []; fault = []; stuck = [] }; has_fault = false }
made_of roles.Fault id = record { name = id; event = record { out = []; fault = id ∷ []; stuck = [] }; has_fault = true }

-- those of an item, one for each piece of its kind
unfoldable pub made_by : Network → Each → List Contingency
made_by net item = map (made_of item.role) (pieces_of net item.kind)

-- those of the items in order, each item once
unfoldable pub made : Network → List Each → List Contingency
made net items = flat_map (made_by net) (distinct items)
