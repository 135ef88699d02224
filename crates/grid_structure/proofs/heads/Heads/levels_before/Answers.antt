use Rattle.std.proofs.Common.{◌≡◌, ◌∙◌, ap, sym, arith, take, List}
use Rattle.std.specs.List.{sum_by}
use Rattle.grid_structure.specs.declared.structure.Head.{Head}
use Rattle.grid_structure.specs.declared.heads.Own.TheVariants.{Levels}
use Rattle.grid_structure.specs.Blocks.{count_of}
use Rattle.grid_structure.proofs.Blocks.{levels_summed}
use Rattle.grid_structure.proofs.heads.Heads.levels_before.Goals as goal

pub total_before-requires-clause-few : goal.total_before-requires-clause-few
total_before-requires-clause-few c = rw (c.as_slice-heads.ensures.value, c.self.view_is) (omega (arith, levels_summed c.args.self.now, c.requires.few))

pub returns : goal.returns
returns c =
    let heads : c.as_slice-heads.result.now ≡ c.args.self.now = c.as_slice-heads.ensures.value ∙ c.self.view_is in
    c.total_before.ensures ∙ ap (λ (z : List Head). sum_by (count_of Levels) (take c.args.count z)) heads ∙ sym (levels_summed (take c.args.count c.args.self.now))
