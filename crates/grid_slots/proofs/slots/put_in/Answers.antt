use Rattle.std.proofs.Common.{ap, ◌∙◌}
use Rattle.std.specs.Prelude.{remove}
use Rattle.grid_lemmas.proofs.Lists.{remove_insert}
use Rattle.grid_slots.proofs.slots.put_in.Goals as goal

pub returns-clause-same : goal.returns-clause-same
returns-clause-same c =
    c.remove.ensures ∙ ap (λ z. remove z c.args.place) c.in_ok-insert_as.ensures.ok ∙ remove_insert c.args.kept.now c.args.place _ c.requires.place
