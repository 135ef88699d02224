-- A walk over what a fault hits: the levels that it has looked at, and the equipment whose terminals it has not gone to
-- yet.
use Rattle.std.specs.Prelude.{◌≡◌, ◌⊎◌, IsTrue, ℕ, Bool, true, false, ◌&&◌, ◌==◌, ◌<◌, if◌then◌else◌, Option, Some, None, List, [], length, map, filter, slice_get, slice_set}
use Rattle.std.specs.List.{slice_index_or, list_all}
use Rattle.std.specs.declared.alloc.Global.{Global}
use Rattle.std.specs.Prelude.{Box}
use Rattle.grid_ids.specs.Name.{has_id}
use Rattle.grid_level.specs.declared.Placed.{Placed}
use Rattle.grid_level.specs.VoltageLevel.{VoltageLevel}
use Rattle.grid_level.specs.Kept.{KeepsLimits, among}
use Rattle.grid_level.specs.Passing.{nodes, positioned, is_branch_end}
use Rattle.grid_groups.specs.Labels.{label_of, labels_where}
use Rattle.grid_states.specs.Rows.{row_at}
use Rattle.grid_structure.specs.declared.Site.{Site}
use Rattle.grid_structure.specs.Network.{Network}
use Rattle.std.specs.Option.{option_map, option_to_list}
use Rattle.grid_structure.specs.declared.SwitchAt.{SwitchAt}
use Rattle.grid_structure.specs.Sites.{levels, site, terminal_spot}
use Rattle.grid_screen.specs.declared.walk.Touched.{Touched}
use Rattle.grid_screen.specs.declared.walk.Walk.{Walk}
use Rattle.grid_screen.specs.Grounds.{Ground, fault_flags}
use Rattle.grid_screen.specs.Zones.{site_at, passing_fault, sites_of_equipment}

-- ---- what was hit

abbrev pub Touches : Type 0
Touches = List (Option (Box Touched Global))

abbrev pub touched_at : Touches → ℕ → Option (Box Touched Global)
touched_at touched place = slice_index_or touched place None

-- the label of a node, by the labels of a level
abbrev pub label_by : VoltageLevel → List ℕ → ℕ → ℕ
label_by level labels node = label_of (nodes level) labels node

abbrev pub label_in : Touched → ℕ → ℕ
label_in t node = label_by t.level.now t.labels.items node

-- the nodes of its label were hit
abbrev pub hits_in : Touched → ℕ → Bool
hits_in t node = slice_index_or t.hit.items (label_in t node) false

abbrev pub hits_by : Option (Box Touched Global) → ℕ → Bool
hits_by (Some t) node = hits_in t.value node
hits_by None node = false

unfoldable pub hits : Touches → Site → Bool
hits touched s = hits_by (touched_at touched s.level) s.node

-- the site is a node of the level there
pub record IsNode (net : Network) (s : Site) : Type 0 where
  pub level : VoltageLevel
  pub at : slice_get (levels net) s.level ≡ Some level
  pub node : IsTrue (among (nodes level) s.node)

-- ---- the ends of branches

-- a branch end at a node with this label
abbrev pub is_end_in : VoltageLevel → List ℕ → ℕ → Placed → Bool
is_end_in level labels label p = is_branch_end p.stand && (label_by level labels p.node == label)

-- the equipment of the branch ends at nodes with a label
unfoldable pub ends_in : VoltageLevel → List ℕ → List Placed → ℕ → List (List ℕ)
ends_in level labels placed label = map (λ p. p.terminal.equipment) (filter (is_end_in level labels label) placed)

-- these lists are those, label by label
pub record AreEnds (level : VoltageLevel) (labels : List ℕ) (placed : List Placed) (ends : List (List (List ℕ))) : Type 0 where
  pub long : length ends ≡ length labels
  pub each : (label : ℕ) → slice_index_or ends label [] ≡ ends_in level labels placed label

-- each node of the level has a label below how many there are, and these terminals are at nodes of it
pub record CanList (level : VoltageLevel) (labels : List ℕ) (placed : List Placed) : Type 0 where
  pub there : IsTrue (list_all (λ p. among (nodes level) p.node) placed)
  pub long : length labels ≡ length (nodes level)
  pub below : (node : ℕ) → IsTrue (among (nodes level) node) → label_by level labels node < length labels

-- ---- levels that were looked at

-- the labels are those of the level at a place, joined by the edges over which a fault passes, and the branch ends
-- those before the fault
pub record IsTouched (g : Ground) (place : ℕ) (t : Touched) : Type 0 where
  pub at : slice_get (levels g.net) place ≡ Some t.level.now
  pub keeps : KeepsLimits t.level.now
  pub labels : t.labels.items ≡ labels_where t.level.now (fault_flags g.stuck t.level.now.switches (row_at g.opened place))
  pub long : length t.hit.items ≡ length (nodes t.level.now)
  pub present : VoltageLevel
  pub there : slice_get g.present place ≡ Some present
  pub ends : AreEnds t.level.now t.labels.items present.placed t.ends.items

abbrev pub IsTouchedBy : Ground → ℕ → Option (Box Touched Global) → Type 0
IsTouchedBy g place (Some t) = IsTouched g place t.value
IsTouchedBy g place None = Unit {0}

pub record AreTouched (g : Ground) (touched : Touches) : Type 0 where
  pub long : length touched ≡ length (levels g.net)
  pub each : (k : ℕ) → IsTouchedBy g k (touched_at touched k)

-- a level with these labels and ends, of which nothing is hit
pub record IsUntouched (level : VoltageLevel) (labels : List ℕ) (ends : List (List (List ℕ))) (t : Touched) : Type 0 where
  pub level_is : t.level.now ≡ level
  pub labels_are : t.labels.items ≡ labels
  pub ends_are : t.ends.items ≡ ends
  pub long : length t.hit.items ≡ length labels
  pub none : (k : ℕ) → slice_index_or t.hit.items k false ≡ false

-- a node of the level may be hit
pub record CanHit (t : Touched) (node : ℕ) : Type 0 where
  pub here : IsTrue (among (nodes t.level.now) node)
  pub long : length t.labels.items ≡ length (nodes t.level.now)
  pub hit : length t.hit.items ≡ length t.labels.items
  pub ends : length t.ends.items ≡ length t.labels.items
  pub below : label_in t node < length t.labels.items

-- one more node was hit
pub record IsHitIn (old : Touched) (node : ℕ) (new : Touched) : Type 0 where
  pub level : new.level.now ≡ old.level.now
  pub labels : new.labels.items ≡ old.labels.items
  pub ends : new.ends.items ≡ old.ends.items
  pub hit : new.hit.items ≡ slice_set old.hit.items (label_in old node) true

-- what waits when a node is hit: the equipment of the ends with its label, where they were not hit yet
unfoldable pub waiting : Touched → ℕ → List (List ℕ)
waiting t node = if hits_in t node then [] else slice_index_or t.ends.items (label_in t node) []

-- ---- what a walk does

-- a set of sites has both ends of each edge over which a fault passes or neither
abbrev pub HasEdges : Ground → (Site → Bool) → Type 0
HasEdges g set = (k i : ℕ) (l : VoltageLevel) (pair : ℕ × ℕ) → slice_get (levels g.net) k ≡ Some l → slice_get (passing_fault g.stuck (positioned l (row_at g.opened k))) i ≡ Some pair
    → set (site_at k pair.0) ≡ set (site_at k pair.1)

-- a branch end before the fault
pub record IsEnd (g : Ground) (s : Site) (p : Placed) : Type 0 where
  pub level : VoltageLevel
  pub at : slice_get g.present s.level ≡ Some level
  pub index : ℕ
  pub stands : slice_get level.placed index ≡ Some p
  pub ends : is_branch_end p.stand ≡ true
  pub node : p.node ≡ s.node

abbrev pub HasSites : (Site → Bool) → List Site → Type 0
HasSites set sites = (i : ℕ) (s : Site) → slice_get sites i ≡ Some s → set s ≡ true

-- these sites were hit, and with them just what edges join to them; the equipment of each branch end that was hit waits
pub record Grows (g : Ground) (old new : Walk) (sites : List Site) : Type 0 where
  pub touched : AreTouched g new.touched
  pub here : HasSites (hits new.touched) sites
  pub kept : (s : Site) → hits old.touched s ≡ true → hits new.touched s ≡ true
  pub least : (set : Site → Bool) → HasEdges g set → HasSites set sites → ((s : Site) → IsNode g.net s → hits old.touched s ≡ true → set s ≡ true) → (s : Site) → IsNode g.net s → hits new.touched s ≡ true → set s ≡ true
  pub ends : (s : Site) (p : Placed) → IsEnd g s p → hits new.touched s ≡ true → (hits old.touched s ≡ true) ⊎ (has_id new.work p.terminal.equipment ≡ true)
  pub waits : (id : List ℕ) → has_id old.work id ≡ true → has_id new.work id ≡ true
  pub reasons : (id : List ℕ) → has_id new.work id ≡ true → (has_id old.work id ≡ true) ⊎ ((s : Site) × (p : Placed) × IsEnd g s p × (hits new.touched s ≡ true) × (p.terminal.equipment ≡ id))

-- ---- from id to id

-- the node of the terminal of a side, if there is one
unfoldable pub site_of_side : Network → List ℕ → ℕ → List Site
site_of_side net id side = option_to_list (option_map terminal_spot (site net id side))

abbrev pub switch_place : SwitchAt → ℕ × ℕ
switch_place at = (at.level, at.place)

-- a switch of the level at a place
pub record IsSwitchOf (net : Network) (at : SwitchAt) : Type 0 where
  pub level : VoltageLevel
  pub there : slice_get (levels net) at.level ≡ Some level
  pub inside : at.place < length level.switches

-- ---- until nothing waits

-- of each branch end that was hit, the equipment waits or its terminals were hit; and what waits is of such a one
pub record IsOpen (g : Ground) (walk : Walk) : Type 0 where
  pub touched : AreTouched g walk.touched
  pub pending : (s : Site) (p : Placed) → IsEnd g s p → hits walk.touched s ≡ true → (has_id walk.work p.terminal.equipment ≡ true) ⊎ HasSites (hits walk.touched) (sites_of_equipment g.net p.terminal.equipment)
  pub reasons : (id : List ℕ) → has_id walk.work id ≡ true → (s : Site) × (p : Placed) × IsEnd g s p × (hits walk.touched s ≡ true) × (p.terminal.equipment ≡ id)

-- with a branch end a set of sites has all terminals of its branch
abbrev pub HasEnds : Ground → (Site → Bool) → Type 0
HasEnds g set = (s : Site) (p : Placed) → IsEnd g s p → set s ≡ true → HasSites set (sites_of_equipment g.net p.terminal.equipment)

-- what was hit stays hit, and what is new is in each set that has it with what edges and branches join
pub record Reaches (g : Ground) (old new : Touches) : Type 0 where
  pub kept : (s : Site) → hits old s ≡ true → hits new s ≡ true
  pub least : (set : Site → Bool) → HasEdges g set → HasEnds g set → ((s : Site) → IsNode g.net s → hits old s ≡ true → set s ≡ true) → (s : Site) → IsNode g.net s → hits new s ≡ true → set s ≡ true

pub record Runs (g : Ground) (old new : Walk) : Type 0 where
  pub touched : AreTouched g new.touched
  pub reaches : Reaches g old.touched new.touched
  pub ends : HasEnds g (hits new.touched)

-- the starts are hit, with each site what edges and branches join to it, and nothing else
pub record IsSettled (g : Ground) (starts : List Site) (touched : Touches) : Type 0 where
  pub each : AreTouched g touched
  pub here : HasSites (hits touched) starts
  pub edges : HasEdges g (hits touched)
  pub ends : HasEnds g (hits touched)
  pub least : (set : Site → Bool) → HasEdges g set → HasEnds g set → HasSites set starts → (s : Site) → IsNode g.net s → hits touched s ≡ true → set s ≡ true
