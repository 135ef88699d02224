-- Levels that are kept by their places, apart from the structure.
use Rattle.std.specs.Prelude.{◌≡◌, ℕ, ◌==◌, if◌then◌else◌, Option, Some, List, slice_get}
use Rattle.std.specs.Map.{lookup}
use Rattle.grid_level.specs.VoltageLevel.{VoltageLevel}
use Rattle.grid_structure.specs.Network.{Network}
use Rattle.grid_structure.specs.Sites.{levels}

-- pairs of a place and a level, by rising place
abbrev pub Copied : Type 0
Copied = List (ℕ × VoltageLevel)

-- the level that is kept of a place, where one is
abbrev pub copy_at : Copied → ℕ → Option VoltageLevel
copy_at copies place = lookup (λ other. place == other) copies

-- with this for a place, a level or none, and for every other place what was there
abbrev pub Puts : ℕ → Option VoltageLevel → Copied → Copied → Type 0
Puts place copy old new = (other : ℕ) → copy_at new other ≡ if place == other then copy else copy_at old other

-- each is the structure's level at its place
abbrev pub AreCopies : Network → Copied → Type 0
AreCopies net copies = (place : ℕ) (level : VoltageLevel) → copy_at copies place ≡ Some level → slice_get (levels net) place ≡ Some level
