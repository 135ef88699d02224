use Rattle.std.proofs.Common.{◌≡◌, ◌<◌, true, rules, arith, length}
use Rattle.grid_ids.specs.Name.{same_id}
use Rattle.grid_structure.proofs.FlatNetworks.{cut_at}
use Rattle.grid_structure.proofs.Certain.{substation_sure}
use Rattle.grid_structure.proofs.structure.Structure.last_substation.Goals as goal

pub returns-then-eq : goal.returns-then-eq
returns-then-eq c =
    let inside : c.in-Some.place < length c.self.inside.heads = omega arith in
    let named = cut_at c.self.inside.heads c.self.inside.levels.items c.self.inside.transformers.items c.in-Some.place c.head.result.now inside c.head.ensures in
    let same : same_id c.args.id.now c.head.result.now.id ≡ true = search rules in
    rw (← c.self.view_is) (substation_sure _ c.args.id.now c.head.result.now.id c.in-Some.place c.self.invariant.sound.ids named same)
