use Rattle.std.proofs.Common.{◌≡◌, sym, ap, ◌∙◌, Some, None, cond}
use Rattle.std.specs.Option.{option_map}
use Rattle.grid_watts.proofs.FirstSides.{spot_below, at_spot}
use Rattle.grid_watts.proofs.Sites.{nowhere_at, found_at}
use Rattle.grid_watts.proofs.finding.powered_at.Goals as goal

pub level-requires : goal.level-requires
level-requires c = spot_below c.args.structure.now c.args.id.now c.in_ok-site.site (sym c.site.ensures ∙ c.in_ok-site.was)

pub returns-in_err-site-clause-found : goal.returns-in_err-site-clause-found
returns-in_err-site-clause-found c = ap (option_map (λ f. (f.0, f.1.now))) c.from_residual.ensures ∙ sym (nowhere_at c.args.structure.now c.args.id.now (sym c.site.ensures ∙ c.in_err-site.was))

pub returns-in_err-placed-clause-found : goal.returns-in_err-placed-clause-found
returns-in_err-placed-clause-found c =
    ap (option_map (λ f. (f.0, f.1.now))) c.from_residual-in_err-placed.ensures
    ∙ sym (found_at c.args.structure.now c.args.id.now c.in_ok-site.site None (sym c.site.ensures ∙ c.in_ok-site.was)
    (at_spot c.args.structure.now c.args.id.now c.in_ok-site.site c.level.result.now None c.keeps.ensures (sym c.site.ensures ∙ c.in_ok-site.was) c.level.ensures c.in_err-placed.ensures))

pub returns-then-is_powered-clause-found : goal.returns-then-is_powered-clause-found
returns-then-is_powered-clause-found c =
    let placed = c.in_ok-placed.placed.now in
    sym (found_at c.args.structure.now c.args.id.now c.in_ok-site.site (Some placed) (sym c.site.ensures ∙ c.in_ok-site.was)
    (at_spot c.args.structure.now c.args.id.now c.in_ok-site.site c.level.result.now (Some placed) c.keeps.ensures (sym c.site.ensures ∙ c.in_ok-site.was) c.level.ensures c.in_ok-placed.ensures
    ∙ ap (λ t. cond t (Some placed) None) (sym c.is_powered.ensures ∙ c.if-is_powered.true)))

pub returns-else-is_powered-clause-found : goal.returns-else-is_powered-clause-found
returns-else-is_powered-clause-found c =
    let placed = c.in_ok-placed.placed.now in
    sym (found_at c.args.structure.now c.args.id.now c.in_ok-site.site None (sym c.site.ensures ∙ c.in_ok-site.was)
    (at_spot c.args.structure.now c.args.id.now c.in_ok-site.site c.level.result.now (Some placed) c.keeps.ensures (sym c.site.ensures ∙ c.in_ok-site.was) c.level.ensures c.in_ok-placed.ensures
    ∙ ap (λ t. cond t (Some placed) None) (sym c.is_powered.ensures ∙ c.if-is_powered.false)))
