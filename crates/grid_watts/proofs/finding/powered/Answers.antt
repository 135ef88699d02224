use Rattle.std.proofs.Common.{sym, ap, ◌∙◌}
use Rattle.std.specs.Option.{option_map}
use Rattle.grid_watts.proofs.Spots.{spot, nowhere}
use Rattle.grid_watts.proofs.finding.powered.Goals as goal

pub returns-in_err-placed : goal.returns-in_err-placed
returns-in_err-placed c =
    ap (option_map (λ p. p.now)) c.from_residual.ensures ∙ sym (nowhere c.args.structure.now c.args.id.now c.keeps.ensures (sym c.in_err-placed.ensures.found))

pub returns : goal.returns
returns c = sym ((spot c.args.structure.now c.args.id.now c.in_ok-placed.field-0-0 c.in_ok-placed.placed.now c.keeps.ensures (sym c.in_ok-placed.ensures.found)).found)
