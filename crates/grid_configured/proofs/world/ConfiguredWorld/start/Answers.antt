use Rattle.std.proofs.Common.{rules, ap, ◌∙◌}
use Rattle.grid_core.specs.History.{History}
use Rattle.grid_configured.proofs.world.ConfiguredWorld.start.Goals as goal

pub invariant_of-result : goal.invariant_of-result
invariant_of-result c = record {
  translatable = c.requires;
  origin = ap (λ (z : History). z.origin) c.in_ok-world.ensures ∙ c.in_ok-structure.ensures;
  plain = rw c.in_ok-world.ensures (search rules);
}
