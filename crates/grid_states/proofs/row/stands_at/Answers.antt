use Rattle.std.proofs.Common.{sym}
use Rattle.std.proofs.lemmas.Bool.{ltb-true, ltb-false}
use Rattle.grid_level.proofs.Places.{key_here_get, key_here_past}
use Rattle.grid_states.proofs.WattPairs.{node}
use Rattle.grid_states.proofs.row.stands_at.Goals as goal

pub returns-in-Some-clause-value : goal.returns-in-Some-clause-value
returns-in-Some-clause-value c =
    let look = (c.in-Some.ensures).lookup in
    key_here_get node c.args.node c.args.pairs.now c.args.place c.in-Some.found.now c.requires (ltb-true _ _ (sym look.0)) look.1

pub returns-in-None-clause-value : goal.returns-in-None-clause-value
returns-in-None-clause-value c =
    let look = (c.in-None.ensures).lookup in
    key_here_past node c.args.node c.args.pairs.now c.args.place c.requires (ltb-false _ _ (sym look.0))
