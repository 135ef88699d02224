use Rattle.std.proofs.Common.{◌≡◌, ◌<◌, refl, Some, arith, length, get_or, ◌/◌, ◌+◌}
use Rattle.std.specs.Prelude.{slice_get}
use Rattle.grid_lemmas.proofs.Lists.{get_there}
use Rattle.grid_structure.specs.declared.structure.Head.{Head}
use Rattle.grid_structure.specs.declared.heads.Own.TheVariants.{Levels, Transformers}
use Rattle.grid_structure.specs.Blocks.{count_of}
use Rattle.grid_structure.proofs.Blocks.{sums_changed, sums_same, in_block, stands, levels_summed}
use Rattle.grid_structure.proofs.heads.Heads.add_level.Goals as goal

pub overflow_add-index_mut : goal.overflow_add-index_mut
overflow_add-index_mut c =
    let inside : c.args.at < length c.self.inside.items.items = rw c.self.view_is c.requires.within in
    let got : slice_get c.self.inside.items.items c.args.at ≡ Some c.index_mut.result.now = get_there c.self.inside.items.items c.args.at c.index_mut.result.now inside c.index_mut.ensures.value in
    let block = in_block (count_of Levels) c.self.inside.items.items c.self.inside.level_sums.items c.self.invariant.levels c.args.at c.index_mut.result.now inside got in
    let few = rw (← c.self.view_is) at c.requires.few in
    omega (arith, block.1, block.2, few, levels_summed c.self.inside.items.items)

pub overflow_add-index_mut-2 : goal.overflow_add-index_mut-2
overflow_add-index_mut-2 c =
    let inside : c.args.at < length c.self.inside.items.items = rw c.self.view_is c.requires.within in
    let got : slice_get c.self.inside.items.items c.args.at ≡ Some c.index_mut.result.now = get_there c.self.inside.items.items c.args.at c.index_mut.result.now inside c.index_mut.ensures.value in
    let block = in_block (count_of Levels) c.self.inside.items.items c.self.inside.level_sums.items c.self.invariant.levels c.args.at c.index_mut.result.now inside got in
    let sum : c.index_mut-2.result.now ≡ get_or c.self.inside.level_sums.items (c.args.at / 256) 0 = stands c.self.inside.level_sums.items (c.args.at / 256) c.index_mut-2.result.now 0 block.0 c.index_mut-2.ensures.value in
    let few = rw (← c.self.view_is) at c.requires.few in
    omega (arith, block.2, sum, few, levels_summed c.self.inside.items.items)

pub invariant_of-self : goal.invariant_of-self
invariant_of-self c =
    let inside : c.args.at < length c.self.inside.items.items = rw c.self.view_is c.requires.within in
    let got : slice_get c.self.inside.items.items c.args.at ≡ Some c.index_mut.result.now = get_there c.self.inside.items.items c.args.at c.index_mut.result.now inside c.index_mut.ensures.value in
    let block = in_block (count_of Levels) c.self.inside.items.items c.self.inside.level_sums.items c.self.invariant.levels c.args.at c.index_mut.result.now inside got in
    let sum : c.index_mut-2.result.now ≡ get_or c.self.inside.level_sums.items (c.args.at / 256) 0 = stands c.self.inside.level_sums.items (c.args.at / 256) c.index_mut-2.result.now 0 block.0 c.index_mut-2.ensures.value in
    let new : Head = record { id = c.index_mut.result.now.id; levels = c.index_mut.result.now.levels + 1; transformers = c.index_mut.result.now.transformers } in
    let count : count_of Levels new + 0 ≡ count_of Levels c.index_mut.result.now + 1 = omega arith in
    record {
      levels = sums_changed (count_of Levels) c.self.inside.items.items c.self.inside.level_sums.items c.self.invariant.levels c.args.at 0 1 (c.index_mut-2.result.now + 1) c.index_mut.result.now new got count (omega (arith, sum));
      transformers = sums_same (count_of Transformers) c.self.inside.items.items c.self.inside.transformer_sums.items c.self.invariant.transformers c.args.at c.index_mut.result.now new got refl;
    }

pub returns : goal.returns
returns c = λ h at.
    let inside : c.args.at < length c.self.inside.items.items = rw c.self.view_is c.requires.within in
    let got : slice_get c.self.inside.items.items c.args.at ≡ Some c.index_mut.result.now = get_there c.self.inside.items.items c.args.at c.index_mut.result.now inside c.index_mut.ensures.value in
    let was : slice_get c.self.inside.items.items c.args.at ≡ Some h = rw (← c.self.view_is) at at in
    let same : c.index_mut.result.now ≡ h = cc in
    rw (c.self.view_is, same) refl
