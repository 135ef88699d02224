use Rattle.std.proofs.Common.{◌≡◌, refl, length, arith}
use Rattle.grid_structure.specs.Blocks.{count_of}
use Rattle.grid_structure.specs.declared.heads.Own.TheVariants.{Levels, Transformers}
use Rattle.grid_structure.proofs.Blocks.{sums_opened, sums_pushed}
use Rattle.grid_structure.proofs.heads.Heads.push.Goals as goal

pub invariant_of-self-in-Err-push : goal.invariant_of-self-in-Err-push
invariant_of-self-in-Err-push c =
    let count : c.len-count.result ≡ length c.self.inside.items.items = omega arith in
    rw (c.in-Err-push.ensures.items, c.in-Ok.ensures.ok, c.in-Ok-open_block.ensures.ok) (record {
      levels = (sums_opened (count_of Levels) c.self.inside.items.items c.self.inside.level_sums.items c.self.invariant.levels c.len-count.result count).0;
      transformers = (sums_opened (count_of Transformers) c.self.inside.items.items c.self.inside.transformer_sums.items c.self.invariant.transformers c.len-count.result count).0;
    })

pub invariant_of-self-2 : goal.invariant_of-self-2
invariant_of-self-2 c =
    let count : c.len-count.result ≡ length c.self.inside.items.items = omega arith in
    let l = sums_opened (count_of Levels) c.self.inside.items.items c.self.inside.level_sums.items c.self.invariant.levels c.len-count.result count in
    let t = sums_opened (count_of Transformers) c.self.inside.items.items c.self.inside.transformer_sums.items c.self.invariant.transformers c.len-count.result count in
    rw (c.in-Ok-push.ensures.items, c.in-Ok.ensures.ok, c.in-Ok-open_block.ensures.ok) (record {
      levels = sums_pushed (count_of Levels) c.self.inside.items.items _ l.0 _ refl l.1;
      transformers = sums_pushed (count_of Transformers) c.self.inside.items.items _ t.0 _ refl t.1;
    })
