-- What one id more that is out makes of the levels and of the rows of flags opened.
use Rattle.std.specs.Prelude.{◌≡◌, ℕ, Bool, true, Option, Some, None, List, length, fold, slice_get, slice_set, option_map}
use Rattle.std.specs.declared.alloc.Global.{Global}
use Rattle.std.specs.Prelude.{Box}
use Rattle.grid_level.specs.VoltageLevel.{VoltageLevel}
use Rattle.grid_powers.specs.Listed.{Listed}
use Rattle.grid_states.specs.Rows.{row_at, with_flag}
use Rattle.grid_structure.specs.Network.{Network}
use Rattle.grid_structure.specs.Sites.{find_switch, site}
use Rattle.grid_structure.specs.Clearing.{cleared}
use Rattle.grid_outages.specs.declared.outage.Changed.{Changed}
use Rattle.grid_outages.specs.Changes.{Changes, change_at, shown_levels, shown_rows, IsLookedAt}

-- the place of the level of a site
abbrev pub level_of_site : Option (ℕ × ℕ) → Option ℕ
level_of_site at = option_map (λ pair. pair.0) at

-- the levels without the terminals of an equipment where the terminal of this side stands
unfoldable pub cleared_side : Network → List ℕ → ℕ → List VoltageLevel → List VoltageLevel
cleared_side net id side ls = cleared id (level_of_site (site net id side)) ls

unfoldable pub taken_out : Network → List ℕ → List VoltageLevel → List VoltageLevel
taken_out net id ls = cleared_side net id 3 (cleared_side net id 2 (cleared_side net id 1 ls))

-- by where the switch of the id is, if it is a switch's
abbrev pub levels_by : Network → List ℕ → Option (ℕ × ℕ) → List VoltageLevel → List VoltageLevel
levels_by net id (Some at) ls = ls
levels_by net id None ls = taken_out net id ls

abbrev pub rows_by : Option (ℕ × ℕ) → List (List Bool) → List (List Bool)
rows_by (Some at) rows = with_flag rows at.0 at.1 true
rows_by None rows = rows

unfoldable pub levels_with_out : Network → List VoltageLevel → List ℕ → List VoltageLevel
levels_with_out net ls id = levels_by net id (find_switch net id) ls

unfoldable pub rows_with_out : Network → List (List Bool) → List ℕ → List (List Bool)
rows_with_out net rows id = rows_by (find_switch net id) rows

-- after all ids
unfoldable pub levels_after : Network → List (List ℕ) → List VoltageLevel → List VoltageLevel
levels_after net ids ls = fold (levels_with_out net) ls ids

unfoldable pub rows_after : Network → List (List ℕ) → List (List Bool) → List (List Bool)
rows_after net ids rows = fold (rows_with_out net) rows ids

-- ---- changes that show such levels and rows

-- the level at a place is now this one, with these flags
pub record IsPut (place : ℕ) (level : VoltageLevel) (opened : List Bool) (old new : Changes) : Type 0 where
  pub box : Box Changed Global
  pub level_is : box.value.level ≡ level
  pub opened_is : box.value.opened ≡ opened
  pub is : new ≡ slice_set old place (Some box)

-- over the levels and rows of before, the changes show these
pub record Shows (before : List VoltageLevel) (flags : List (List Bool)) (changes : Changes) (ls : List VoltageLevel) (rows : List (List Bool)) : Type 0 where
  pub long : length changes ≡ length before
  pub rows_long : length flags ≡ length before
  pub levels_are : shown_levels changes before ≡ ls
  pub rows_are : shown_rows changes flags ≡ rows
  pub switches_stay : (k : ℕ) (l m : VoltageLevel) → slice_get before k ≡ Some l → slice_get ls k ≡ Some m → m.switches ≡ l.switches
  pub flags_fit : (k : ℕ) (l : VoltageLevel) → slice_get before k ≡ Some l → length (row_at rows k) ≡ length l.switches

abbrev pub ShowsSo : List VoltageLevel → List (List Bool) → Changes → Type 0
ShowsSo before flags changes = Shows before flags changes (shown_levels changes before) (shown_rows changes flags)

-- they show these, and are looked at
pub record Stands (listed : Listed) (before : List VoltageLevel) (flags : List (List Bool)) (changes : Changes) (ls : List VoltageLevel) (rows : List (List Bool)) : Type 0 where
  pub long : length changes ≡ length before
  pub rows_long : length flags ≡ length before
  pub looked : (k : ℕ) → IsLookedAt listed (change_at changes k)
  pub levels_are : shown_levels changes before ≡ ls
  pub rows_are : shown_rows changes flags ≡ rows
