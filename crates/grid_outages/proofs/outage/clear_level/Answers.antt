use Rattle.std.proofs.Common.{◌≡◌, ◌∙◌, sym, ap, Some, None}
use Rattle.std.specs.Prelude.{find}
use Rattle.std.specs.Option.{option_map}
use Rattle.grid_ids.specs.Name.{same_id}
use Rattle.grid_level.specs.declared.Placed.{Placed}
use Rattle.grid_level.specs.LevelEdits.{level_without_equipment}
use Rattle.grid_structure.proofs.TerminalRemovals.{found_one, nothing_left, stands_there, one_gone, one_fewer}
use Rattle.grid_outages.proofs.outage.clear_level.Goals as goal

pub take_terminal-requires : goal.take_terminal-requires
take_terminal-requires c =
    let found : option_map (λ (p : Placed). p.node) (find (λ (p : Placed). same_id c.args.id.now p.terminal.equipment) c.loop-node.level.placed) ≡ Some c.in-Some.node = rw c.placed.ensures at (sym c.in-Some.ensures) in
    stands_there c.loop-node.level c.args.id.now c.in-Some.node (found_one c.loop-node.level.placed c.args.id.now c.in-Some.node found)

pub loop-node-smaller : goal.loop-node-smaller
loop-node-smaller c =
    let found : option_map (λ (p : Placed). p.node) (find (λ (p : Placed). same_id c.args.id.now p.terminal.equipment) c.loop-node.level.placed) ≡ Some c.in-Some.node = rw c.placed.ensures at (sym c.in-Some.ensures) in
    rw c.take_terminal.ensures.rest (one_fewer c.args.id.now c.loop-node.level c.in-Some.node c.keeps.ensures.placed_rise (found_one c.loop-node.level.placed c.args.id.now c.in-Some.node found))

pub loop-node-preserved : goal.loop-node-preserved
loop-node-preserved c =
    let found : option_map (λ (p : Placed). p.node) (find (λ (p : Placed). same_id c.args.id.now p.terminal.equipment) c.loop-node.level.placed) ≡ Some c.in-Some.node = rw c.placed.ensures at (sym c.in-Some.ensures) in
    ap (level_without_equipment c.args.id.now) c.take_terminal.ensures.rest
    ∙ one_gone c.args.id.now c.loop-node.level c.in-Some.node c.keeps.ensures.placed_rise (found_one c.loop-node.level.placed c.args.id.now c.in-Some.node found) ∙ c.loop-node.invariant

pub returns : goal.returns
returns c =
    let nothing : c.node_of_equipment.result ≡ None = c.in_default.is in
    let none : option_map (λ (p : Placed). p.node) (find (λ (p : Placed). same_id c.args.id.now p.terminal.equipment) c.loop-node.level.placed) ≡ None = rw c.placed.ensures at (sym c.node_of_equipment.ensures ∙ nothing) in
    sym (nothing_left c.args.id.now c.loop-node.level none) ∙ c.loop-node.invariant
