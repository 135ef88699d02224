use Rattle.std.proofs.Common.{refl}
use Rattle.grid_value.specs.View.{view}
use Rattle.grid_json.proofs.Lengths.{two_none, two_one, two_more, just_two}
use Rattle.grid_json.proofs.ends.TwoFromJson.from_json.Goals as goal

pub returns-in_default-next : goal.returns-in_default-next
returns-in_default-next g c = rw (c.here-in_default-next.ensures, two_none (g.T.FromJson.reads c.args.format) (view c.args.value.now) _ c.in-Some.ensures c.in_default-next.ensures) refl

pub returns-in_default-next-2 : goal.returns-in_default-next-2
returns-in_default-next-2 g c =
    rw (c.here-in_default-next-2.ensures, two_one (g.T.FromJson.reads c.args.format) (view c.args.value.now) (view c.in-Some-next.first) _ _ c.in-Some.ensures c.in-Some-next.ensures c.in_default-next-2.ensures) refl

pub returns-in-Some-next-3 : goal.returns-in-Some-next-3
returns-in-Some-next-3 g c =
    rw (c.here-in-Some-next-3.ensures, two_more (g.T.FromJson.reads c.args.format) (view c.args.value.now) (view c.in-Some-next.first) (view c.in-Some-next-2.second) (view c.in-Some-next-3.field-0) _ _ _ _ c.in-Some.ensures c.in-Some-next.ensures c.in-Some-next-2.ensures c.in-Some-next-3.ensures) refl

pub returns-in-None : goal.returns-in-None
returns-in-None g c =
    rw (just_two (g.T.FromJson.reads c.args.format) (view c.args.value.now) (view c.in-Some-next.first) (view c.in-Some-next-2.second) _ _ _ c.in-Some.ensures c.in-Some-next.ensures c.in-Some-next-2.ensures c.in-None.ensures) c.two_of.ensures
