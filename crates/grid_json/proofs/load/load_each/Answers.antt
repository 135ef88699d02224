use Rattle.std.proofs.Common.{length, sym, ap, ◌∙◌, subst, arith}
use Rattle.std.specs.Prelude.{decimal}
use Rattle.grid_json.specs.Reading.{Fails, under}
use Rattle.grid_json.specs.Loading.{load_items}
use Rattle.grid_json.proofs.PartLoops.{goes_on, is_done, under_fails, fails_on}
use Rattle.grid_json.proofs.load.load_each.Goals as goal

pub returns-in-Err : goal.returns-in-Err
unfolding load_items
returns-in-Err g c =
    let l = c.loop-part in
    let read = g.T.Load.loads c.in-Some.part c.args.owner.now (g.T.Load.seen l.into) in
    subst (λ all. Fails c.under_position.result all) (ap (λ items. load_items g.T.Load.loads l.position items c.args.owner.now (g.T.Load.seen l.into)) (sym c.in-Some.ensures.steps.0) ∙ l.invariant.0)
    (fails_on _ (under (decimal l.position) read) c.under_position.result (under_fails (decimal l.position) read c.in-Err.e c.under_position.result c.in-Err.ensures c.under_position.ensures))

pub loop-part-preserved : goal.loop-part-preserved
loop-part-preserved g c =
    let l = c.loop-part in
    let next = c.in-Some.ensures.steps.0 in
    let less = ap length next in (
      sym (goes_on g.T.Load.loads l.position c.in-Some.part _ c.args.owner.now (g.T.Load.seen l.into) (g.T.Load.seen c.load.new.into) c.in_default.ensures)
          ∙ ap (λ items. load_items g.T.Load.loads l.position items c.args.owner.now (g.T.Load.seen l.into)) (sym next) ∙ l.invariant.0,
      omega (arith, l.invariant.1, less),
      l.invariant.2,
    )

pub returns : goal.returns
returns g c =
    let l = c.loop-part in
    let none = c.in-None.ensures.steps.0 in
    is_done g.T.Load.loads l.position l.part-iterator.rest.items c.args.owner.now (g.T.Load.seen l.into) _ (omega (arith, none, l.part-iterator.rest.ok)) l.invariant.0
