use Rattle.std.proofs.Common.{◌≡◌, ◌-◌, Ok, ◌∙◌, ap, is_ok}
use Rattle.grid_structure.specs.Network.{empty_of}
use Rattle.grid_make.specs.Draws.{later, same, in_turn}
use Rattle.grid_make.specs.MadeNetwork.{level_edits, line_edits, made_edits, unrefused, blank}
use Rattle.grid_make.proofs.Turns.{and_then, front_accepted, rest_accepted}
use Rattle.grid_make.proofs.LinesMade.{made_edits_are_accepted}
use Rattle.grid_make.proofs.network.make_network.Goals as goal

pub returns-clause-network : goal.returns-clause-network
unfolding made_edits
returns-clause-network c =
    let start : c.empty-structure.result ≡ blank = c.empty-structure.ensures ∙ ap empty_of c.in_ok-id_of.ensures in
    let levels : unrefused (in_turn (level_edits c.args.size) (later 5) 0 c.args.size c.args.draws.now) blank ≡ Ok c.add_levels.new.structure = rw start at c.in_ok-add_levels.ensures.edits in
    and_then _ _ _ _ _ levels c.in_ok-add_lines.ensures

pub add_levels-requires : goal.add_levels-requires
unfolding made_edits
add_levels-requires c =
    let start : c.empty-structure.result ≡ blank = c.empty-structure.ensures ∙ ap empty_of c.in_ok-id_of.ensures in
    rw start (front_accepted (in_turn (level_edits c.args.size) (later 5) 0 c.args.size c.args.draws.now) (in_turn line_edits same 0 (c.args.size - 1) 0) blank
    (ap is_ok (made_edits_are_accepted c.args.draws.now c.args.size c.requires.some c.requires.few)))

pub add_lines-requires-clause-accepted : goal.add_lines-requires-clause-accepted
unfolding made_edits
add_lines-requires-clause-accepted c =
    let start : c.empty-structure.result ≡ blank = c.empty-structure.ensures ∙ ap empty_of c.in_ok-id_of.ensures in
    let levels : unrefused (in_turn (level_edits c.args.size) (later 5) 0 c.args.size c.args.draws.now) blank ≡ Ok c.add_levels.new.structure = rw start at c.in_ok-add_levels.ensures.edits in
    rest_accepted (in_turn (level_edits c.args.size) (later 5) 0 c.args.size c.args.draws.now) (in_turn line_edits same 0 (c.args.size - 1) 0) blank c.add_levels.new.structure levels
    (ap is_ok (made_edits_are_accepted c.args.draws.now c.args.size c.requires.some c.requires.few))
