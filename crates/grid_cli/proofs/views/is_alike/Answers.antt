use Rattle.std.proofs.Common.{sym, ◌∙◌}
use Rattle.grid_cli.proofs.views.is_alike.Goals as goal

pub returns-then-same_items : goal.returns-then-same_items
returns-then-same_items c = λ listed other_listed is other_is.
    let told = c.same_watts.ensures listed other_listed (c.watts_row.ensures.pairs ∙ is) (c.watts_row-then-same_items.ensures.pairs ∙ other_is) in (
      λ t. record { positions = sym c.opened_row.ensures ∙ c.same_items.ensures.0 c.if-same_items.true ∙ c.opened_row-2.ensures; watts = told.0 t },
      λ alike. told.1 alike.watts,
    )
