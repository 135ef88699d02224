-- Watts by node: what a variant lists of one level, by rising node.
use Rattle.std.specs.Prelude.{ℕ, ℤ, Bool, not, ◌==◌, nat_lt, if◌then◌else◌, IsTrue, Option, List, [], ◌∷◌, map, filter, find, option_map}
use Rattle.grid_level.specs.Passing.{is_rising}
use Rattle.grid_states.specs.declared.row.NodeWatts.{NodeWatts}

abbrev pub pair : ℕ → ℤ → NodeWatts
pair node watts = record { node = node; watts = watts }

-- each node is below all later ones, so that all differ
abbrev pub PairsRise : List NodeWatts → Type 0
PairsRise row = IsTrue (is_rising (map (λ w. w.node) row))

-- the watts of a node, where some are listed
unfoldable pub value_at : ℕ → List NodeWatts → Option ℤ
value_at node row = option_map (λ w. w.watts) (find (λ w. w.node == node) row)

-- with these watts for a node: in place of the former ones, or else at its place by rising node
unfoldable pub with_pair : ℕ → ℤ → List NodeWatts → List NodeWatts
with_pair node watts [] = pair node watts ∷ []
with_pair node watts (w ∷ rest) =
    if nat_lt w.node node then w ∷ with_pair node watts rest
    else if w.node == node then pair node watts ∷ rest
    else pair node watts ∷ w ∷ rest

-- without the pair of a node
unfoldable pub without_pair : ℕ → List NodeWatts → List NodeWatts
without_pair node row = filter (λ w. not (w.node == node)) row
