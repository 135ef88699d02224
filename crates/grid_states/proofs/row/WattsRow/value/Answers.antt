use Rattle.std.proofs.Common.{◌≡◌, true, false, rules}
use Rattle.std.proofs.lemmas.Int.{to_z-of_z}
use mir.Syntax.{w64}
use mir.Val.{SFits}
use Rattle.grid_level.specs.Uses.{place_among, key_here}
use Rattle.grid_states.proofs.WattPairs.{node, found_value, no_value}
use Rattle.grid_states.proofs.row.WattsRow.value.Goals as goal

pub returns-then-stands_at : goal.returns-then-stands_at
returns-then-stands_at c =
    let here : key_here node c.args.node c.self.inside.pairs.items ≡ true = search rules in
    let at : c.place_of-place.result ≡ place_among node c.args.node c.self.inside.pairs.items = search rules in
    let fits : SFits w64 c.index.result.now.watts = search rules in
    rw (to_z-of_z w64 c.index.result.now.watts fits, ← c.self.view_is) (found_value c.args.node c.self.inside.pairs.items c.place_of-place.result c.index.result.now at here c.index.ensures)

pub returns-else-stands_at : goal.returns-else-stands_at
returns-else-stands_at c =
    let free : key_here node c.args.node c.self.inside.pairs.items ≡ false = search rules in
    rw (← c.self.view_is) (no_value c.args.node c.self.inside.pairs.items c.self.invariant free)
