use Rattle.std.proofs.Common.{◌≡◌, true, Some}
use Rattle.std.specs.Prelude.{slice_get}
use Rattle.std.specs.Option.{option_map}
use Rattle.std.proofs.lemmas.Option.{IfSome_then}
use Rattle.grid_ids.specs.Name.{same_id}
use Rattle.grid_level.specs.VoltageLevel.{VoltageLevel}
use Rattle.grid_structure.proofs.FlatNetworks.{kept_levels}
use Rattle.grid_structure.proofs.Certain.{level_sure}
use Rattle.grid_structure.proofs.structure.Structure.level_by_key.Goals as goal

pub returns : goal.returns
returns c =
    IfSome_then c.place_by_key.result c.place_by_key.ensures.named (λ k named.
    let kept : option_map (λ (l : VoltageLevel). same_id c.args.id.now l.id) (slice_get c.self.inside.levels.items k) ≡ Some true = rw (← c.as_slice.ensures.value) named in
    rw (← c.self.view_is) (level_sure _ c.args.id.now k c.self.invariant.sound.ids (rw (kept_levels c.self.invariant) kept)))
