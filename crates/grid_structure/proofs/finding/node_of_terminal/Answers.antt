use Rattle.std.proofs.Common.{◌≡◌, sym, true, rules}
use Rattle.grid_structure.proofs.OneNode.{walk_finds}
use Rattle.grid_structure.proofs.finding.node_of_terminal.Goals as goal

pub returns-then-stands_at : goal.returns-then-stands_at
returns-then-stands_at c =
    let there : c.stands_at.result ≡ true = search rules in
    sym (walk_finds c.args.id.now c.args.side c.args.clue c.args.level.now.placed c.requires (c.stands_at.ensures there))
