use Rattle.std.proofs.Common.{◌≡◌, ◌<◌, refl, Some, arith, length, get_or, ◌/◌, ◌+◌, ◌-◌}
use Rattle.std.specs.Prelude.{slice_get}
use Rattle.grid_lemmas.proofs.Lists.{get_there}
use Rattle.grid_structure.specs.declared.structure.Head.{Head}
use Rattle.grid_structure.specs.declared.heads.Own.TheVariants.{Levels, Transformers}
use Rattle.grid_structure.specs.Blocks.{count_of}
use Rattle.grid_structure.proofs.Blocks.{sums_changed, sums_same, in_block, stands}
use Rattle.grid_structure.proofs.heads.Heads.take_transformer.Goals as goal

pub overflow_sub-index_mut-2 : goal.overflow_sub-index_mut-2
overflow_sub-index_mut-2 c =
    let inside : c.args.at < length c.self.inside.items.items = rw c.self.view_is c.requires.within in
    let got : slice_get c.self.inside.items.items c.args.at ≡ Some c.index_mut.result.now = get_there c.self.inside.items.items c.args.at c.index_mut.result.now inside c.index_mut.ensures.value in
    let block = in_block (count_of Transformers) c.self.inside.items.items c.self.inside.transformer_sums.items c.self.invariant.transformers c.args.at c.index_mut.result.now inside got in
    let sum : c.index_mut-2.result.now ≡ get_or c.self.inside.transformer_sums.items (c.args.at / 256) 0 = stands c.self.inside.transformer_sums.items (c.args.at / 256) c.index_mut-2.result.now 0 block.0 c.index_mut-2.ensures.value in
    let some = c.requires.some c.index_mut.result.now (rw c.self.view_is at got) in
    omega (arith, block.1, sum, some)

pub invariant_of-self : goal.invariant_of-self
invariant_of-self c =
    let inside : c.args.at < length c.self.inside.items.items = rw c.self.view_is c.requires.within in
    let got : slice_get c.self.inside.items.items c.args.at ≡ Some c.index_mut.result.now = get_there c.self.inside.items.items c.args.at c.index_mut.result.now inside c.index_mut.ensures.value in
    let some = c.requires.some c.index_mut.result.now (rw c.self.view_is at got) in
    let block = in_block (count_of Transformers) c.self.inside.items.items c.self.inside.transformer_sums.items c.self.invariant.transformers c.args.at c.index_mut.result.now inside got in
    let sum : c.index_mut-2.result.now ≡ get_or c.self.inside.transformer_sums.items (c.args.at / 256) 0 = stands c.self.inside.transformer_sums.items (c.args.at / 256) c.index_mut-2.result.now 0 block.0 c.index_mut-2.ensures.value in
    let new : Head = record { id = c.index_mut.result.now.id; levels = c.index_mut.result.now.levels; transformers = c.index_mut.result.now.transformers - 1 } in
    let count : count_of Transformers new + 1 ≡ count_of Transformers c.index_mut.result.now + 0 = omega arith in
    record {
      levels = sums_same (count_of Levels) c.self.inside.items.items c.self.inside.level_sums.items c.self.invariant.levels c.args.at c.index_mut.result.now new got refl;
      transformers = sums_changed (count_of Transformers) c.self.inside.items.items c.self.inside.transformer_sums.items c.self.invariant.transformers c.args.at 1 0 (c.index_mut-2.result.now - 1) c.index_mut.result.now new got count (omega (arith, sum));
    }

pub returns : goal.returns
returns c = λ h at.
    let inside : c.args.at < length c.self.inside.items.items = rw c.self.view_is c.requires.within in
    let got : slice_get c.self.inside.items.items c.args.at ≡ Some c.index_mut.result.now = get_there c.self.inside.items.items c.args.at c.index_mut.result.now inside c.index_mut.ensures.value in
    let was : slice_get c.self.inside.items.items c.args.at ≡ Some h = rw (← c.self.view_is) at at in
    let same : c.index_mut.result.now ≡ h = cc in
    rw (c.self.view_is, same) refl
