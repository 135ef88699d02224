-- Which levels an edit changes.
use Rattle.std.specs.Prelude.{◌≡◌, ◌⊎◌, ℕ, ◌<◌, ◌≤◌, Some, List, [], ◌∷◌, length}
use Rattle.grid_structure.specs.declared.Branch.{Branch}
use Rattle.grid_structure.specs.declared.End.{End}
use Rattle.grid_structure.specs.Network.{Network}
use Rattle.grid_structure.specs.Sites.{levels, branch_ends, find_level, find_switch, site}
use Rattle.grid_islands.specs.Kept.{LeavesOthers}
use Rattle.grid_core.specs.declared.touched.Touched.{Touched}
use Rattle.grid_core.specs.declared.touched.Touched.TheVariants as touches

-- from one network to the next one level may be another one, at these places in turn
abbrev pub LeavesAllBut : Network → Network → ℕ → ℕ → ℕ → Type 0
LeavesAllBut net next first second third = (one two : Network) × LeavesOthers net one first × LeavesOthers one two second × LeavesOthers two next third

-- no level but those that are touched is another one
abbrev pub IsTouch : Network → Network → Touched → Type 0
IsTouch net next (touches.Level place) = LeavesOthers net next place
IsTouch net next (touches.Ends first second third) = LeavesAllBut net next first second third
IsTouch net next touches.All = Unit {0}

-- ---- what is touched by ids

-- the level of this id
abbrev pub IsLevelOf : Network → List ℕ → Touched → Type 0
IsLevelOf net id (touches.Level place) = find_level net id ≡ Some place
IsLevelOf net id (touches.Ends first second third) = ⊥
IsLevelOf net id touches.All = Unit {0}

-- the level of the switch of this id
abbrev pub IsLevelOfSwitch : Network → List ℕ → Touched → Type 0
IsLevelOfSwitch net id (touches.Level place) = (own : ℕ) × (find_switch net id ≡ Some (place, own))
IsLevelOfSwitch net id (touches.Ends first second third) = ⊥
IsLevelOfSwitch net id touches.All = Unit {0}

-- a terminal of the equipment of this id stands in one of the levels at these places
abbrev pub StandAmong : Network → List ℕ → ℕ → ℕ → ℕ → Type 0
StandAmong net id first second third = (side level node : ℕ) → 1 ≤ side → side ≤ 3 → site net id side ≡ Some (level, node) → (level ≡ first) ⊎ ((level ≡ second) ⊎ (level ≡ third))

-- the levels in which its terminals stand
abbrev pub AreLevelsOfSides : Network → List ℕ → Touched → Type 0
AreLevelsOfSides net id (touches.Level place) = ⊥
AreLevelsOfSides net id (touches.Ends first second third) = (first < length (levels net)) × (second < length (levels net)) × StandAmong net id first second third
AreLevelsOfSides net id touches.All = Unit {0}

-- the levels of these ids
abbrev pub AreLevelsOf : Network → List ℕ → List ℕ → List ℕ → Touched → Type 0
AreLevelsOf net id1 id2 id3 (touches.Level place) = ⊥
AreLevelsOf net id1 id2 id3 (touches.Ends first second third) = (find_level net id1 ≡ Some first) × (find_level net id2 ≡ Some second) × (find_level net id3 ≡ Some third)
AreLevelsOf net id1 id2 id3 touches.All = Unit {0}

-- the levels of two ends, or of three
abbrev pub AreLevelsOfList : Network → List End → Touched → Type 0
AreLevelsOfList net [] touched = ⊥
AreLevelsOfList net (first ∷ []) touched = ⊥
AreLevelsOfList net (first ∷ second ∷ []) touched = AreLevelsOf net first.level second.level second.level touched
AreLevelsOfList net (first ∷ second ∷ third ∷ rest) touched = AreLevelsOf net first.level second.level third.level touched

-- the levels of a branch's ends
abbrev pub AreLevelsOfEnds : Network → Branch → Touched → Type 0
AreLevelsOfEnds net branch touched = AreLevelsOfList net (branch_ends branch) touched
