use Rattle.std.proofs.Common.{lit<}
use Rattle.grid_states.proofs.Grown.{grown_if_ok}
use Rattle.grid_states.proofs.chunks.push_to.Goals as goal

pub returns-clause-ok : goal.returns-clause-ok
returns-clause-ok g c =
    grown_if_ok 64 c.args.chunks.now.items c.args.count c.args.item (lit< tt) c.requires c.if-count-eq0.false c.index_mut.result.now c.index_mut.ensures.value
    c.push-2.result c.push-2.new.self c.push-2.ensures.ok
