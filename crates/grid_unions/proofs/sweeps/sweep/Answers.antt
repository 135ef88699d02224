use Rattle.std.proofs.Common.{◌≡◌, sym, subst, ℕ, List, length, arith}
use Rattle.grid_unions.specs.Halves.{CanSweep}
use Rattle.grid_unions.proofs.Changes.{first_sweep}
use Rattle.grid_unions.proofs.sweeps.sweep.Goals as goal

pub solve-requires-clause-can : goal.solve-requires-clause-can
solve-requires-clause-can c =
    let common = c.args.common.now in
    let count : ℕ = length c.args.weights.now in
    let long : length common ≡ c.in-Ok.count = omega (arith, c.in-Ok.ensures) in
    let P : List ℕ → Type 0 = λ xs. CanSweep common c.args.changes.now c.in_ok-new.field-0 xs in
    subst P (sym c.deref.ensures.value)
    (first_sweep common c.args.changes.now count c.args.weights.now c.in_ok-new.field-0 c.in_ok-pending.pending.items c.in-Ok.count c.in_ok-new.ensures
    c.requires.some c.requires.ends c.requires.changes long (c.in_ok-pending.ensures).long (c.in_ok-pending.ensures).own)
