use Rattle.std.proofs.Common.{sym, ◌∙◌, subst}
use Rattle.std.proofs.lemmas.Result.{on_ok_weaker}
use Rattle.grid_hvdc.specs.Texts.{LevelsThere}
use Rattle.grid_hvdc.proofs.BusNames.{levels_there}
use Rattle.grid_hvdc.proofs.VariantTexts.{variant_lines_as}
use Rattle.grid_hvdc.proofs.lines.put_variant_lines.Goals as goal

pub put_bus_lines-requires : goal.put_bus_lines-requires
put_bus_lines-requires c = subst (LevelsThere c.args.structure.now) (sym (c.slice.ensures ∙ c.in-Ok.ensures.names)) (levels_there c.args.structure.now c.args.states.now.opened)

pub returns-clause-ok : goal.returns-clause-ok
returns-clause-ok c =
    on_ok_weaker c.put_bus_lines.result
    (λ e retained.
    variant_lines_as c.args.name.now c.args.structure.now c.args.states.now.opened retained c.args.lines.now c.slice.result.now c.slice-2.result.now c.args.out.now c.put_variant_line.new.out c.put_bus_lines.new.out
    (c.slice.ensures ∙ c.in-Ok.ensures.names) (c.slice-2.ensures ∙ c.in-Ok.ensures.numbers retained) c.in_ok-put_variant_line.ensures.ok e)
    c.put_bus_lines.ensures.ok
