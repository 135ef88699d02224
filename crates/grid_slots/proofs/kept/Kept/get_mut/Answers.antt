use Rattle.std.proofs.Common.{◌<◌, ap, ◌∙◌, arith, length, set}
use Rattle.grid_states.proofs.Lent.{same_loans}
use Rattle.grid_slots.specs.Kept.{rows_in_place}
use Rattle.grid_slots.proofs.SharedRows.{rows_long, own_below, own_set, own_at}
use Rattle.grid_slots.proofs.kept.Kept.get_mut.Goals as goal

pub own_states-requires-clause-place : goal.own_states-requires-clause-place
own_states-requires-clause-place c = omega
    (arith, c.requires, rows_long c.self.inside.numbers.items c.self.inside.states.items, ap length c.self.view_is)

pub index_mut-requires : goal.index_mut-requires
index_mut-requires c =
    let lt : c.args.place < length c.self.inside.numbers.items = omega (
      arith,
      c.requires,
      rows_long c.self.inside.numbers.items c.self.inside.states.items,
      ap length
          c.self.view_is,
    ) in
    omega (arith, own_below c.in_ok-own.ensures.ok lt, c.own_states.new.states.ok.0)

pub returns : goal.returns
returns c =
    let lt : c.args.place < length c.self.inside.numbers.items = omega (
      arith,
      c.requires,
      rows_long c.self.inside.numbers.items c.self.inside.states.items,
      ap length
          c.self.view_is,
    ) in (
      same_loans _ _ _ (λ w. own_set c.in_ok-own.ensures.ok lt w ∙ ap (λ z. set z c.args.place w) c.self.view_is),
      record {
        writes_back = tt;
        states = own_at c.in_ok-own.ensures.ok lt c.index_mut.result.now c.index_mut.ensures.value
            ∙ ap (λ z. rows_in_place z c.args.place) c.self.view_is;
      },
    )
