use Rattle.std.proofs.Common.{subst, refl}
use Rattle.grid_structure.specs.declared.Edit.TheVariants as edits
use Rattle.grid_watts.specs.Watts.{powered}
use Rattle.grid_watts.specs.Ranges.{IsSummed}
use Rattle.grid_watts.proofs.PowerSums.{edit_summed, set_summed, injection_moved, removal_moved, leaving_moved, leaving_narrow}
use Rattle.grid_watts.proofs.laws.sums_stay.Goals as goal

pub returns-clause-injections : goal.returns-clause-injections
returns-clause-injections c = λ net new id level node item powers s h n k.
    subst (IsSummed new) (injection_moved net id level node item powers) (edit_summed net new (edits.AddInjection id level node item) powers s h n k)

pub returns-clause-removals : goal.returns-clause-removals
returns-clause-removals c = λ net new id powers s h k.
    subst (IsSummed new) (removal_moved net id powers (powered net id) refl) (edit_summed net new (edits.RemoveEquipment id) powers s h tt k)

pub returns-clause-others : goal.returns-clause-others
returns-clause-others c = λ net new edit powers s h l k.
    subst (IsSummed new) (leaving_moved net edit powers l) (edit_summed net new edit powers s h (leaving_narrow edit powers.listed l) k)

pub returns-clause-values : goal.returns-clause-values
returns-clause-values c = λ net id p watts powers s found n k. set_summed net id p watts powers s found n k
