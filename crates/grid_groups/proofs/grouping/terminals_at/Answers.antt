use Rattle.std.proofs.Common.{sym, ap, ap₂, ◌∙◌, [], ◌∷◌, ◌++◌, arith}
use Rattle.grid_level.specs.declared.Placed.{Placed}
use Rattle.grid_level.specs.declared.Terminal.{Terminal}
use Rattle.grid_groups.specs.Labels.{items_at}
use Rattle.grid_groups.proofs.Steps.{items_next, read_item}
use Rattle.grid_groups.proofs.grouping.terminals_at.Goals as goal

pub loop-place-init : goal.loop-place-init
unfolding items_at
loop-place-init c = record { terminals = c.in_ok-terminals.ensures.items; len = c.in_ok-terminals.ensures.len; room = omega (arith, c.in_ok-terminals.ensures.capacity) }

pub loop-place-preserved : goal.loop-place-preserved
loop-place-preserved c =
    let part : Placed → Terminal = λ p. p.terminal in
    record {
      terminals = c.push_reserved.ensures.items
          ∙ ap₂ (λ zs z. zs ++ z ∷ []) c.loop-place.invariant.terminals (c.in_ok-copy.ensures ∙ sym (ap part c.index-placed-place.is))
          ∙ items_next part c.args.level.now.placed c.args.places.now c.loop-place.place-index c.index-placed-place.result c.loop-place-test.true
          (read_item c.placed-placed.result.now c.args.level.now.placed _ c.index-placed-place.result c.placed-placed.ensures (c.requires c.loop-place.place-index c.loop-place-test.true) c.index-placed-place.is);
      len = omega (arith, c.push_reserved.ensures.len, c.loop-place.invariant.len);
      room = omega (arith, c.push_reserved.ensures.capacity, c.loop-place.invariant.room);
    }
