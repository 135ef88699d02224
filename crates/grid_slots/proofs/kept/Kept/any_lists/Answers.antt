use Rattle.std.proofs.Common.{◌<◌, sym, ap, ◌∙◌, subst, length}
use Rattle.std.specs.Prelude.{All, is_some}
use Rattle.grid_states.specs.Pairs.{value_at}
use Rattle.grid_states.specs.Rows.{Rows, pairs_at}
use Rattle.grid_slots.specs.Kept.{any_rows_list}
use Rattle.grid_slots.proofs.SharedRows.{all_states, any_same}
use Rattle.grid_slots.proofs.kept.Kept.any_lists.Goals as goal

pub any_listing-requires : goal.any_listing-requires
any_listing-requires c =
    subst (All (λ (rows : Rows). c.args.level < length rows.opened)) (sym c.deref.ensures.value)
    (all_states c.self.inside.numbers.items c.self.inside.states.items c.args.self.now c.self.invariant c.self.view_is
    (λ rows. c.args.level < length rows.opened) c.requires)

pub returns : goal.returns
unfolding any_rows_list
returns c =
    c.any_listing.ensures ∙ ap (λ z. any_rows_list z c.args.level c.args.node) c.deref.ensures.value
    ∙ any_same c.self.inside.numbers.items c.self.inside.states.items c.args.self.now c.self.invariant c.self.view_is
    (λ rows. is_some (value_at c.args.node (pairs_at rows.watts c.args.level)))
