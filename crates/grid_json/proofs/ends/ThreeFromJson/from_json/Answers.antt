use Rattle.std.proofs.Common.{refl}
use Rattle.grid_value.specs.View.{view}
use Rattle.grid_json.proofs.Lengths.{three_none, three_one, three_two, three_more, just_three}
use Rattle.grid_json.proofs.ends.ThreeFromJson.from_json.Goals as goal

pub returns-in_default-next : goal.returns-in_default-next
returns-in_default-next g c = rw (c.here-in_default-next.ensures, three_none (g.T.FromJson.reads c.args.format) (view c.args.value.now) _ c.in-Some.ensures c.in_default-next.ensures) refl

pub returns-in_default-next-2 : goal.returns-in_default-next-2
returns-in_default-next-2 g c =
    rw (c.here-in_default-next-2.ensures, three_one (g.T.FromJson.reads c.args.format) (view c.args.value.now) (view c.in-Some-next.first) _ _ c.in-Some.ensures c.in-Some-next.ensures c.in_default-next-2.ensures) refl

pub returns-in_default-next-3 : goal.returns-in_default-next-3
returns-in_default-next-3 g c =
    rw (c.here-in_default-next-3.ensures, three_two (g.T.FromJson.reads c.args.format) (view c.args.value.now) (view c.in-Some-next.first) (view c.in-Some-next-2.second) _ _ _ c.in-Some.ensures c.in-Some-next.ensures c.in-Some-next-2.ensures c.in_default-next-3.ensures) refl

pub returns-in-Some-next-4 : goal.returns-in-Some-next-4
returns-in-Some-next-4 g c =
    rw (c.here-in-Some-next-4.ensures, three_more (g.T.FromJson.reads c.args.format) (view c.args.value.now) (view c.in-Some-next.first) (view c.in-Some-next-2.second) (view c.in-Some-next-3.third) (view c.in-Some-next-4.field-0) _ _ _ _ _ c.in-Some.ensures c.in-Some-next.ensures c.in-Some-next-2.ensures c.in-Some-next-3.ensures c.in-Some-next-4.ensures) refl

pub returns-in-None : goal.returns-in-None
returns-in-None g c =
    rw (just_three (g.T.FromJson.reads c.args.format) (view c.args.value.now) (view c.in-Some-next.first) (view c.in-Some-next-2.second) (view c.in-Some-next-3.third) _ _ _ _ c.in-Some.ensures c.in-Some-next.ensures c.in-Some-next-2.ensures c.in-Some-next-3.ensures c.in-None.ensures) c.three_of.ensures
