-- In a sound structure a terminal stands on each side of an equipment, in a level.
use Rattle.std.proofs.Common.{◌≡◌, refl, ℕ, pos, ◌≤◌, List, Some}
use Rattle.std.specs.Prelude.{Ok}
use Rattle.std.proofs.lemmas.Bool.{le-leb}
use Rattle.grid_lemmas.proofs.Options.{some_value}
use Rattle.grid_level.specs.VoltageLevel.{VoltageLevel}
use Rattle.grid_structure.specs.Network.{Network}
use Rattle.grid_structure.specs.Sites.{sides, site}
use Rattle.grid_structure.specs.Soundness.{IsSound}
use Rattle.grid_structure.proofs.SideTerminals.{side_site}
use Rattle.grid_core.specs.Solo.{side_of, site_of_side, level_at}
use Rattle.grid_core.proofs.Ranges.{site_level}

of_site : (net : Network) (id : List ℕ) (count n : ℕ) (at : ℕ × ℕ) → sides net id ≡ Some count → 1 ≤ n → n ≤ count → site net id n ≡ Some at → site_of_side net id (pos n) ≡ Ok at
unfolding site_of_side side_of
of_site net id count n at h low high found = rw (h, le-leb 1 n low, le-leb n count high, found) refl

-- the side is found, in a level
pub side_found : (net : Network) (id : List ℕ) (count n : ℕ) → IsSound net → sides net id ≡ Some count → 1 ≤ n → n ≤ count
    → (at : ℕ × ℕ) × (site_of_side net id (pos n) ≡ Ok at) × ((level : VoltageLevel) × (level_at net at.0 ≡ Some level))
side_found net id count n s h low high =
    let at = some_value (site net id n) (side_site net id count n s h low high) in
    (at.0, of_site net id count n at.0 h low high at.1, site_level net id n at.0.0 at.0.1 at.1)
