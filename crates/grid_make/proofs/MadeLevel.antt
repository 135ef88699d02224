-- One level of a made network, as its edits make it, whatever the draws: its parts, and what is checked of them.
use Rattle.std.proofs.Common.{◌≡◌, refl, ℕ, pos, ◌+◌, ◌*◌, ◌≤◌, arith, Bool, true, false, not, List, [], ◌∷◌, ◌++◌, length, None}
use Rattle.std.specs.Prelude.{◌==◌, decimal, codes, map}
use Rattle.std.specs.List.{list_all}
use Rattle.std.specs.Fmt.{digits}
use Rattle.std.proofs.lemmas.Bool.{or_left, or_right, false≢true}
use Rattle.grid_structure.proofs.Sides.{has, sides_of, is_same_side}
use Rattle.grid_ids.specs.Name.{has_id, ids_differ}
use Rattle.grid_kinds.specs.Records.{level_fault, limits_fault, injection_fault, power_fault}
use Rattle.grid_kinds.specs.declared.SwitchKind.TheVariants.{Breaker, Disconnector}
use Rattle.grid_level.specs.declared.Placed.{Placed}
use Rattle.grid_level.specs.declared.Stand.TheVariants.{BranchEnd}
use Rattle.grid_level.specs.VoltageLevel.{VoltageLevel}
use Rattle.grid_level.specs.Passing.{edges, ends, both, named, nodes, with_node, rising, is_rising, is_branch_end}
use Rattle.grid_level.specs.Sound.{side_passes, stand_passes, ends_differ, level_passes}
use Rattle.grid_structure.specs.declared.Edit.TheVariants as edits
use Rattle.grid_structure.proofs.EndsLoad.{kept}
use Rattle.grid_make.specs.Draws.{next, is_odd, in_turn}
use Rattle.grid_make.specs.MadeNetwork.{substation_name, level_name, nominal, feeder_injection, busbar_edits, coupler_edit, switch_edit, internal_edit, injection_edit, feeder_edits, outlet_edits, level_edits}
use Rattle.grid_make.proofs.IdNumbers.{is_tail}
use Rattle.grid_make.proofs.LevelParts.{Part, busbar, switch, internal, injection, edit_of, full, all_tails, all_pass}

-- ---- parts

abbrev feeder_parts : ℕ → Bool → List Part
feeder_parts f odd =
    switch (codes "F" ++ decimal f ++ codes "P") Disconnector 0 (2 + 3 * f) odd false
    ∷ switch (codes "F" ++ decimal f ++ codes "Q") Disconnector 1 (2 + 3 * f) (not odd) false
    ∷ switch (codes "F" ++ decimal f ++ codes "K") Breaker (2 + 3 * f) (3 + 3 * f) false false
    ∷ internal (3 + 3 * f) (4 + 3 * f)
    ∷ injection (codes "I" ++ decimal f) (4 + 3 * f) (feeder_injection f)
    ∷ []

abbrev outlet_parts : Bool → ℕ → ℕ → List Part
outlet_parts false node1 node2 = []
outlet_parts true node1 node2 = internal node1 node2 ∷ []

-- whether there is a line to the next level and one from the level before, and the draws: of the coupler and of the feeders
pub record Flags : Type 0 where
  pub forth : Bool
  pub back : Bool
  pub coupler : Bool
  pub feeder0 : Bool
  pub feeder1 : Bool
  pub feeder2 : Bool
  pub feeder3 : Bool

abbrev pub parts : Flags → List Part
parts w =
    (busbar (codes "B0") 0 ∷ busbar (codes "B1") 1 ∷ switch (codes "C") Breaker 0 1 w.coupler true ∷ [])
    ++ (feeder_parts 0 w.feeder0 ++ (feeder_parts 1 w.feeder1 ++ (feeder_parts 2 w.feeder2 ++ (feeder_parts 3 w.feeder3 ++ (outlet_parts w.forth 0 100 ++ outlet_parts w.back 1 101)))))

abbrev pub empty_level : ℕ → VoltageLevel
empty_level i = record { id = level_name i; nominal_v = nominal; low_v = None; high_v = None; switches = []; internals = []; placed = [] }

-- the flags of a level
abbrev pub flags : ℕ → ℕ → ℕ → Flags
flags size i before =
    let a = next before in
    let b = next a in
    let c = next b in
    let d = next c in
    record { forth = not (i + 1 == size); back = not (i == 0); coupler = is_odd a; feeder0 = is_odd b; feeder1 = is_odd c; feeder2 = is_odd d; feeder3 = is_odd (next d) }

-- the level once its edits are made
abbrev pub filled_level : ℕ → Flags → VoltageLevel
filled_level i w = full i (empty_level i) (parts w)

-- the edits of a level
pub level_edits_are : (size i before : ℕ)
    → level_edits size i before ≡ edits.AddSubstation (substation_name i) ∷ edits.AddLevel (level_name i) (substation_name i) nominal None None ∷ map (edit_of i) (parts (flags size i before))
unfolding level_edits busbar_edits coupler_edit in_turn feeder_edits switch_edit internal_edit injection_edit outlet_edits
level_edits_are size i before = by (not (i + 1 == size)) (not (i == 0))
  where
    by : (t u : Bool)
        → busbar_edits i ++ (coupler_edit i before ∷ in_turn (feeder_edits i) next 0 4 (next before)) ++ outlet_edits t i 0 100 ++ outlet_edits u i 1 101
        ≡ edits.AddSubstation (substation_name i) ∷ edits.AddLevel (level_name i) (substation_name i) nominal None None ∷ map (edit_of i) (parts (record (flags size i before) { forth = t; back = u }))
    by true true = refl
    by true false = refl
    by false true = refl
    by false false = refl

-- ---- what is checked of the parts

pub parts_pass : (i : ℕ) (w : Flags) → all_pass i (empty_level i) (parts w) ≡ true
unfolding level_passes nodes edges ends both named rising with_node is_rising ends_differ stand_passes side_passes level_fault limits_fault injection_fault power_fault feeder_injection
parts_pass i w = by w.forth w.back
  where
    by : (t u : Bool) → all_pass i (empty_level i) (parts (record w { forth = t; back = u })) ≡ true
    by true true = refl
    by true false = refl
    by false true = refl
    by false false = refl

pub tails_pass : (w : Flags) → list_all is_tail (all_tails (parts w)) ≡ true
unfolding digits
tails_pass w = by w.forth w.back
  where
    by : (t u : Bool) → list_all is_tail (all_tails (parts (record w { forth = t; back = u }))) ≡ true
    by true true = refl
    by true false = refl
    by false true = refl
    by false false = refl

pub tails_differ : (w : Flags) → ids_differ ([] ∷ all_tails (parts w)) ≡ true
unfolding digits ids_differ has_id
tails_differ w = by w.forth w.back
  where
    by : (t u : Bool) → ids_differ ([] ∷ all_tails (parts (record w { forth = t; back = u }))) ≡ true
    by true true = refl
    by true false = refl
    by false true = refl
    by false false = refl

pub part_count : (w : Flags) → length (parts w) ≤ 25
part_count w = by w.forth w.back
  where
    by : (t u : Bool) → length (parts (record w { forth = t; back = u })) ≤ 25
    by true true = omega arith
    by true false = omega arith
    by false true = omega arith
    by false false = omega arith

pub switch_count : (i : ℕ) (w : Flags) → length (filled_level i w).switches ≡ 13
switch_count i w = by w.forth w.back
  where
    by : (t u : Bool) → length (filled_level i (record w { forth = t; back = u })).switches ≡ 13
    by true true = refl
    by true false = refl
    by false true = refl
    by false false = refl

-- ---- the level with the ends of its lines

abbrev line_ends : Bool → ℕ → List ℕ → ℕ → List Placed
line_ends false node line side = []
line_ends true node line side = record { node = node; terminal = record { equipment = line; side = side }; stand = BranchEnd } ∷ []

-- with the end of the line to the next level, and that of the line from the level before, where there are such
abbrev pub joined_level : ℕ → Flags → List ℕ → List ℕ → VoltageLevel
joined_level i w line earlier =
    let l = filled_level i w in
    record l { placed = l.placed ++ (line_ends w.forth 100 line 1 ++ line_ends w.back 101 earlier 2) }

pub joined_passes : (i : ℕ) (w : Flags) (line earlier : List ℕ) → level_passes (joined_level i w line earlier) ≡ true
unfolding level_passes nodes edges ends both named rising with_node is_rising ends_differ stand_passes side_passes level_fault limits_fault injection_fault power_fault feeder_injection
joined_passes i w line earlier = by w.forth w.back
  where
    by : (t u : Bool) → level_passes (joined_level i (record w { forth = t; back = u }) line earlier) ≡ true
    by true true = refl
    by true false = refl
    by false true = refl
    by false false = refl

pub joined_kept : (i : ℕ) (w : Flags) (line earlier : List ℕ) → kept [] (joined_level i w line earlier) ≡ filled_level i w
unfolding is_branch_end
joined_kept i w line earlier = by w.forth w.back
  where
    by : (t u : Bool) → kept [] (joined_level i (record w { forth = t; back = u }) line earlier) ≡ filled_level i (record w { forth = t; back = u })
    by true true = refl
    by true false = refl
    by false true = refl
    by false false = refl

-- the end of the line to the next level stands there
pub forth_side : (i : ℕ) (w : Flags) (line earlier : List ℕ) → w.forth ≡ true → has (sides_of (joined_level i w line earlier)) (line, 1, level_name i, pos 100) ≡ true
unfolding is_branch_end
forth_side i w line earlier = by w.forth w.back
  where
    by : (t u : Bool) → t ≡ true → has (sides_of (joined_level i (record w { forth = t; back = u }) line earlier)) (line, 1, level_name i, pos 100) ≡ true
    by true true e = or_left _ _ (is_same_side line 1 (level_name i) 100)
    by true false e = or_left _ _ (is_same_side line 1 (level_name i) 100)
    by false u e = absurd (false≢true e)

-- and that of the line from the level before
pub back_side : (i : ℕ) (w : Flags) (line earlier : List ℕ) → w.back ≡ true → has (sides_of (joined_level i w line earlier)) (earlier, 2, level_name i, pos 101) ≡ true
unfolding is_branch_end
back_side i w line earlier = by w.forth w.back
  where
    by : (t u : Bool) → u ≡ true → has (sides_of (joined_level i (record w { forth = t; back = u }) line earlier)) (earlier, 2, level_name i, pos 101) ≡ true
    by true true e = or_right _ _ (or_left _ _ (is_same_side earlier 2 (level_name i) 101))
    by false true e = or_left _ _ (is_same_side earlier 2 (level_name i) 101)
    by t false e = absurd (false≢true e)
