-- The pieces of a network of which contingencies are made. The rule is this project's own.
use Rattle.std.specs.Prelude.{ℕ, Bool, true, false, List, ◌++◌, map, filter, flat_map}
use Rattle.grid_kinds.specs.declared.Injection.TheVariants as injections
use Rattle.grid_level.specs.declared.Switch.{Switch}
use Rattle.grid_level.specs.declared.Placed.{Placed}
use Rattle.grid_level.specs.declared.Stand.{Stand}
use Rattle.grid_level.specs.declared.Stand.TheVariants.{Busbar, Feeder}
use Rattle.grid_level.specs.Passing.{is_operable}
use Rattle.grid_structure.specs.declared.Branch.{Branch}
use Rattle.grid_structure.specs.declared.Branch.TheVariants as branches
use Rattle.grid_structure.specs.declared.NamedBranch.{NamedBranch}
use Rattle.grid_structure.specs.Network.{Network}
use Rattle.grid_structure.specs.Sites.{levels}
use Rattle.grid_contingencies.specs.declared.Piece.{Piece}
use Rattle.grid_contingencies.specs.declared.Piece.TheVariants as pieces

-- the branch is of the kind
unfoldable pub is_branch_of : Piece → Branch → Bool
is_branch_of pieces.Line (branches.Line end1 end2) = true
is_branch_of pieces.TwoWindings (branches.TwoWindings substation end1 end2 rated_u1 rated_u2) = true
is_branch_of pieces.ThreeWindings (branches.ThreeWindings substation end1 end2 end3 rated_u1 rated_u2 rated_u3) = true
is_branch_of kind branch = false

-- what stands at a node is of the kind
unfoldable pub is_stand_of : Piece → Stand → Bool
is_stand_of pieces.Generator (Feeder (injections.Generator target_p target_v min_p max_p)) = true
is_stand_of pieces.Load (Feeder (injections.Load p0 q0)) = true
is_stand_of pieces.BusbarSection Busbar = true
is_stand_of kind stand = false

-- the ids of those branches that are of the kind
unfoldable pub branches_of : Piece → List NamedBranch → List (List ℕ)
branches_of kind bs = map (λ b. b.id) (filter (λ b. is_branch_of kind b.shape) bs)

-- the ids of the equipment of those terminals that are of the kind
unfoldable pub placed_of : Piece → List Placed → List (List ℕ)
placed_of kind placed = map (λ p. p.terminal.equipment) (filter (λ p. is_stand_of kind p.stand) placed)

-- by place of level, in each by rising node
unfoldable pub standing_of : Piece → Network → List (List ℕ)
standing_of kind net = flat_map (λ l. placed_of kind l.placed) (levels net)

-- the ids of the operable breakers, open ones too
unfoldable pub breakers_of : List Switch → List (List ℕ)
breakers_of switches = map (λ s. s.id) (filter is_operable switches)

-- the substations' transformers, one list after the other
unfoldable pub transformers : Network → List NamedBranch
transformers net = flat_map (λ s. s.transformers) net.substations

-- the ids of the pieces of a kind, in structure order: lines by list; transformers by substation, by list; what stands
-- at a node by place of level, in each by rising node; breakers by place of level, in each by place
unfoldable pub pieces_of : Network → Piece → List (List ℕ)
pieces_of net pieces.Line = map (λ b. b.id) net.lines
pieces_of net pieces.TwoWindings = branches_of pieces.TwoWindings (transformers net)
pieces_of net pieces.ThreeWindings = branches_of pieces.ThreeWindings (transformers net)
pieces_of net pieces.Generator = standing_of pieces.Generator net
pieces_of net pieces.Load = standing_of pieces.Load net
pieces_of net pieces.BusbarSection = standing_of pieces.BusbarSection net
pieces_of net pieces.Breaker = flat_map (λ l. breakers_of l.switches) (levels net)
