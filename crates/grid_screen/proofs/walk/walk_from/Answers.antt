use Rattle.std.proofs.Common.{ap, ◌∙◌, length}
use Rattle.grid_structure.specs.Network.{Network}
use Rattle.grid_structure.specs.Sites.{levels}
use Rattle.grid_screen.specs.declared.walk.Walk.{Walk}
use Rattle.grid_screen.proofs.WalkResults.{none_touched, opened, settled}
use Rattle.grid_screen.proofs.walk.walk_from.Goals as goal

pub hit_all-requires : goal.hit_all-requires
hit_all-requires c =
    none_touched c.args.scene.now c.new-touched.result (c.new-touched.ensures.long ∙ c.level_count.ensures ∙ ap (λ (z : Network). length (levels z)) c.structure.ensures) c.new-touched.ensures.none

pub go_on-requires : goal.go_on-requires
go_on-requires c =
    let first : Walk = record { touched = c.new-touched.result; work = c.empty-work.result } in
    opened c.args.scene.now first c.hit_all.new.walk _ c.new-touched.ensures.none c.empty-work.ensures c.in_ok-hit_all.ensures

pub returns : goal.returns
returns c =
    let first : Walk = record { touched = c.new-touched.result; work = c.empty-work.result } in
    settled c.args.scene.now c.keeps.ensures first c.hit_all.new.walk c.go_on.new.walk _ c.new-touched.ensures.none c.in_ok-hit_all.ensures c.in_ok-go_on.ensures
