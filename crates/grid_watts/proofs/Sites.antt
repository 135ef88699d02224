-- The load, generator or battery of an id, with the place of its level, as it is looked up.
use Rattle.std.proofs.Common.{◌≡◌, ap, ◌∙◌, ℕ, List, Option, Some, None}
use Rattle.std.specs.Prelude.{option_map, option_and_then}
use Rattle.grid_level.specs.declared.Placed.{Placed}
use Rattle.grid_structure.specs.Network.{Network}
use Rattle.grid_structure.specs.declared.Site.{Site}
use Rattle.grid_structure.specs.Sites.{site, terminal_spot}
use Rattle.grid_watts.specs.Watts.{powered}
use Rattle.grid_watts.specs.Nodes.{powered_at}
use Rattle.grid_watts.proofs.FirstSides.{spot_none, spot_some}

-- nowhere
pub nowhere_at : (net : Network) (id : List ℕ) → option_map terminal_spot (site net id 1) ≡ None → powered_at net id ≡ None
unfolding powered_at
nowhere_at net id h = ap (option_and_then (λ at. option_map (λ p. (at.0, p)) (powered net id))) (spot_none (site net id 1) h)

-- where its terminal of side 1 is
pub found_at : (net : Network) (id : List ℕ) (at : Site) (found : Option Placed) → option_map terminal_spot (site net id 1) ≡ Some at → powered net id ≡ found
    → powered_at net id ≡ option_map (λ p. (at.level, p)) found
unfolding powered_at
found_at net id at found h is =
    ap (option_and_then (λ s. option_map (λ p. (s.0, p)) (powered net id))) (spot_some (site net id 1) at h) ∙ ap (option_map (λ p. (at.level, p))) is
