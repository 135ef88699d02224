use Rattle.std.proofs.Common.{◌≡◌, ap, sym, ◌∙◌, ℤ, Bool}
use Rattle.std.specs.Prelude.{◌+ℤ◌}
use Rattle.grid_level.specs.declared.Stand.{Stand}
use Rattle.grid_structure.specs.Network.{Network}
use Rattle.grid_powers.specs.Listed.{Listed}
use Rattle.grid_busview.specs.Views.{is_load, is_generation}
use Rattle.grid_watts.specs.Watts.{total_over, load_total, generation_total}
use Rattle.grid_watts.specs.Shares.{share}
use Rattle.grid_watts.proofs.TerminalSums.{whole, total_is}
use Rattle.grid_watts.proofs.EquipmentShares.{share_is_part}
use Rattle.grid_watts.proofs.EquipmentShifts.{edit_moves, set_moves}
use Rattle.grid_watts.proofs.laws.totals_shift.Goals as goal

told : (test : Stand → Bool) (net new : Network) (listed more : Listed) (by : ℤ) → whole (share test) new more ≡ whole (share test) net listed +ℤ by → total_over test new more ≡ total_over test net listed +ℤ by
told test net new listed more by e = total_is test new more ∙ e ∙ ap (λ z. z +ℤ by) (sym (total_is test net listed))

pub returns-clause-edits : goal.returns-clause-edits
unfolding load_total generation_total
returns-clause-edits c = λ net new edit listed s h. (
  told is_load net new listed _ _ (edit_moves (share is_load) net new edit listed (share_is_part is_load) s h),
  told is_generation net new listed _ _ (edit_moves (share is_generation) net new edit listed (share_is_part is_generation) s h),
)

pub returns-clause-values : goal.returns-clause-values
unfolding load_total generation_total
returns-clause-values c = λ net id p watts listed s h. (
  told is_load net net listed _ _ (set_moves (share is_load) net id p watts listed (share_is_part is_load) s h),
  told is_generation net net listed _ _ (set_moves (share is_generation) net id p watts listed (share_is_part is_generation) s h),
)
