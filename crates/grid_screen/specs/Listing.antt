-- The sites of a level that are hit, node by node.
use Rattle.std.specs.Prelude.{◌≡◌, ℕ, ◌<◌, Bool, false, IsTrue, List, length, map, filter, slice_index}
use Rattle.std.specs.List.{slice_index_or}
use Rattle.grid_level.specs.Passing.{nodes, is_rising}
use Rattle.grid_structure.specs.declared.Site.{Site}
use Rattle.grid_screen.specs.declared.walk.Touched.{Touched}
use Rattle.grid_screen.specs.Walks.{hits_in}
use Rattle.grid_screen.specs.Zones.{site_at}

-- the label of the node of an index is hit
abbrev pub is_hit : Touched → ℕ → Bool
is_hit t index = slice_index_or t.hit.items (slice_index t.labels.items index) false

abbrev pub AreBelow : Touched → Type 0
AreBelow t = (k : ℕ) → k < length t.labels.items → slice_index t.labels.items k < length t.hit.items

-- a label for each node, and a flag for each label
pub record Fits (t : Touched) : Type 0 where
  pub long : length t.labels.items ≡ length (nodes t.level.now)
  pub below : AreBelow t
  pub rise : IsTrue (is_rising (nodes t.level.now))

-- by rising node
unfoldable pub hit_sites : ℕ → Touched → List Site
hit_sites place t = filter (λ s. hits_in t s.node) (map (site_at place) (nodes t.level.now))
