use Rattle.std.proofs.Common.{◌≡◌, ap, ◌∙◌, length, arith, set}
use Rattle.grid_slots.specs.Changes.{after, Fits}
use Rattle.grid_slots.specs.Kept.{kept_rows}
use Rattle.grid_slots.proofs.SharedRows.{all_states, rows_changed, only_states, alone_changed}
use Rattle.grid_slots.proofs.TableEdits.{on_ok}
use Rattle.grid_slots.proofs.kept.Kept.change_all.Goals as goal

pub change_in-requires : goal.change_in-requires
change_in-requires c =
    let one : length c.self.inside.states.items ≡ 1 = omega
    (arith, c.if-len-eq1.true, c.len.ensures, c.self.inside.states.ok.0) in
    only_states (Fits c.args.change) c.self.inside.states.items c.index_mut.result.now one c.index_mut.ensures.value
    (all_states c.self.inside.numbers.items c.self.inside.states.items c.args.self.now c.self.invariant c.self.view_is
    (Fits c.args.change) c.requires)

pub returns-then-len-eq1-clause-ok : goal.returns-then-len-eq1-clause-ok
returns-then-len-eq1-clause-ok c =
    let one : length c.self.inside.states.items ≡ 1 = omega
    (arith, c.if-len-eq1.true, c.len.ensures, c.self.inside.states.ok.0) in
    on_ok c.change_in.result
    (λ made. ap (λ z. kept_rows c.self.inside.numbers.items (set c.self.inside.states.items 0 z)) made
    ∙ ap (kept_rows c.self.inside.numbers.items)
    (alone_changed (after c.args.change) c.self.inside.states.items c.index_mut.result.now one
    c.index_mut.ensures.value)
    ∙ rows_changed c.self.inside.numbers.items c.self.inside.states.items c.args.self.now c.self.invariant
    c.self.view_is (after c.args.change))
    c.change_in.ensures.ok

pub changed_states-requires : goal.changed_states-requires
changed_states-requires c = all_states c.self.inside.numbers.items c.self.inside.states.items c.args.self.now
    c.self.invariant c.self.view_is (Fits c.args.change) c.requires

pub returns-clause-ok : goal.returns-clause-ok
returns-clause-ok c =
    ap (kept_rows c.self.inside.numbers.items) c.in_ok-self-inside.ensures
    ∙ rows_changed c.self.inside.numbers.items c.self.inside.states.items c.args.self.now c.self.invariant
    c.self.view_is (after c.args.change)
