-- What the removal of equipment leaves of a network's levels and branches.
use Rattle.std.proofs.Common.{◌≡◌, refl, sym, ap, ◌∙◌, subst, ℕ, Bool, true, false, not, ◌||◌, List, ◌++◌, map}
use Rattle.std.specs.Prelude.{Ok}
use Rattle.std.specs.List.{list_any}
use Rattle.std.proofs.lemmas.Bool.{false≢true}
use Rattle.std.proofs.lemmas.List.Folds.{list_any-append}
use Rattle.grid_ids.specs.Name.{same_id, has_id}
use Rattle.grid_ids.specs.Refusing.{refuse_if}
use Rattle.grid_level.specs.LevelEdits.{level_without_equipment}
use Rattle.grid_level.proofs.LevelEdits as on_level
use Rattle.grid_structure.specs.declared.NamedBranch.{NamedBranch}
use Rattle.grid_structure.specs.declared.Edit.TheVariants.{RemoveEquipment}
use Rattle.grid_structure.specs.declared.EditFault.TheVariants as faults
use Rattle.grid_structure.specs.Network.{Network}
use Rattle.grid_structure.specs.Sites.{levels, branches, single_ids, branch_ids, equipment_ids}
use Rattle.grid_structure.specs.Editing.{apply, with_levels, without_branch}
use Rattle.grid_structure.proofs.Counts.{not_there}
use Rattle.grid_structure.proofs.BranchRemovals.{none_out}
use Rattle.grid_structure.proofs.Levels.{levels-with_levels}
use Rattle.grid_structure.proofs.SoundRemovals.{dropped, branches-dropped, cleared_branches, levels-dropped}

-- ---- an equipment that is removed

-- the levels without its terminals, and the branches without it
pub record Lessened (net new : Network) (id : List ℕ) : Type 0 where
  pub levels_left : levels new ≡ map (level_without_equipment id) (levels net)
  pub branches_left : branches new ≡ without_branch id (branches net)

pub lessened : (net new : Network) (id : List ℕ) → apply net (RemoveEquipment id) ≡ Ok new → Lessened net new id
unfolding apply
lessened net new id h =
    let t = on_level.went (refuse_if (not (has_id (equipment_ids net) id)) faults.NoSuchId) _ new h in
    let cleared = with_levels (level_without_equipment id) net in
    let is : dropped id cleared ≡ new = cc (t.next) in
    subst (λ (z : Network). Lessened net z id) is (record {
      levels_left = levels-dropped id cleared ∙ levels-with_levels (level_without_equipment id) net;
      branches_left = branches-dropped id cleared ∙ ap (without_branch id) (cleared_branches id net);
    })

-- ---- no equipment of the id

any_both : (id : List ℕ) (xs ys : List (List ℕ)) → has_id (xs ++ ys) id ≡ false → (has_id xs id ≡ false) × (has_id ys id ≡ false)
unfolding has_id
any_both id xs ys h = by (list_any (same_id id) xs) (list_any (same_id id) ys) (sym (list_any-append (same_id id) xs ys) ∙ h)
  where
    by : (a b : Bool) → a || b ≡ false → (a ≡ false) × (b ≡ false)
    by true b e = absurd (false≢true (sym e))
    by false b e = (refl, e)

-- no branch has it
pub no_branch : (net : Network) (id : List ℕ) → has_id (equipment_ids net) id ≡ false → without_branch id (branches net) ≡ branches net
unfolding equipment_ids branch_ids without_branch
no_branch net id h =
    none_out (λ (b : NamedBranch). b.id) id (branches net) (not_there id (map (λ (b : NamedBranch). b.id) (branches net)) (any_both id (single_ids net) (map (λ (b : NamedBranch). b.id) (branches net)) h).1)
