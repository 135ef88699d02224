use Rattle.std.proofs.Common.{◌≡◌, ◌<◌, ◌≤◌, true, false, rules, length}
use Rattle.std.specs.Prelude.{Ok}
use Rattle.grid_ids.specs.Refusing.{map_fault}
use Rattle.grid_level.specs.LevelEdits.{level_fault_of, node_of, max_nodes}
use Rattle.grid_level.specs.Uses.{place_among, key_here}
use Rattle.grid_level.specs.Passing.{placed_at, nodes, with_node}
use Rattle.grid_level.proofs.Terminals.{free_here}
use Rattle.grid_level.proofs.TakenTerminals.{found_at, node_refused, taken_refused, many_refused, fits_done}
use Rattle.grid_level.proofs.Level.terminal_fits.Goals as goal

pub returns-in-Err-clause-refused : goal.returns-in-Err-clause-refused
returns-in-Err-clause-refused c = λ _. node_refused c.args.self.now c.args.node c.in-Err.fault (search rules)

pub returns-in-Ok-copy-clause-refused : goal.returns-in-Ok-copy-clause-refused
unfolding placed_at
returns-in-Ok-copy-clause-refused c = λ _.
    let here : key_here (λ p. p.node) c.in-Ok.number c.self.inside.placed.items ≡ true = search rules in
    let at : c.place_of-place.result ≡ place_among (λ p. p.node) c.in-Ok.number c.self.inside.placed.items = search rules in
    let number : Ok c.in-Ok.number ≡ map_fault level_fault_of (node_of c.args.node) = search rules in
    rw (← c.self.view_is) (taken_refused _ c.args.node c.in-Ok.number c.index.result.now c.in-Ok-copy.terminal number (found_at c.in-Ok.number c.self.inside.placed.items c.place_of-place.result c.index.result.now at here c.index.ensures) (search rules))

pub returns-then-not-has_room-clause-refused : goal.returns-then-not-has_room-clause-refused
unfolding placed_at
returns-then-not-has_room-clause-refused c = λ _.
    let free : key_here (λ p. p.node) c.in-Ok.number c.self.inside.placed.items ≡ false = search rules in
    let number : Ok c.in-Ok.number ≡ map_fault level_fault_of (node_of c.args.node) = search rules in
    let many : max_nodes < length (with_node c.in-Ok.number (nodes c.args.self.now)) = search rules in
    many_refused c.args.self.now c.args.node c.in-Ok.number number (rw (← c.self.view_is) (free_here c.in-Ok.number c.self.inside.placed.items c.self.invariant.within.rise free)) many

pub returns-clause-fits : goal.returns-clause-fits
unfolding placed_at
returns-clause-fits c =
    let free : key_here (λ p. p.node) c.in-Ok.number c.self.inside.placed.items ≡ false = search rules in
    let number : Ok c.in-Ok.number ≡ map_fault level_fault_of (node_of c.args.node) = search rules in
    let few : length (with_node c.in-Ok.number (nodes c.args.self.now)) ≤ max_nodes = search rules in
    fits_done c.args.self.now c.args.node c.in-Ok.number number (rw (← c.self.view_is) (free_here c.in-Ok.number c.self.inside.placed.items c.self.invariant.within.rise free)) few
