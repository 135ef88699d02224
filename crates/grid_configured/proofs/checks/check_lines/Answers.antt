use Rattle.std.proofs.Common.{[], ◌++◌, sym, subst, take, ap, ◌∙◌}
use Rattle.grid_lemmas.proofs.Lists.{take_next}
use Rattle.grid_configured.specs.Checks.{each_check, ids_of, line_check, line_ends, line_ids}
use Rattle.grid_configured.specs.Standing.{Stands}
use Rattle.grid_configured.proofs.CheckLoops.{ends, goes_on, is_done}
use Rattle.grid_json.specs.Reading.{Fails}
use Rattle.grid_configured.proofs.checks.check_lines.Goals as goal

pub returns-in-Err : goal.returns-in-Err
returns-in-Err c =
    let levels = c.args.network.now.levels in
    let lines = c.slice-lines.result.now in
    let i = c.loop-i.i in
    subst (λ z. Fails c.under_position.result (each_check (line_check levels) [] 0 z)) c.slice-lines.ensures
    (ends (line_check levels) lines i c.index-lines-i.result _ c.loop-i-test.true c.index-lines-i.is c.loop-i.invariant.left c.in-Err.e c.under_position.result
    (c.in-Err.ensures.check levels (take i lines) c.loop-i.invariant.stands) c.under_position.ensures)

pub loop-i-preserved : goal.loop-i-preserved
loop-i-preserved c =
    let levels = c.args.network.now.levels in
    let lines = c.slice-lines.result.now in
    let i = c.loop-i.i in
    let line = c.index-lines-i.result in
    record {
      stands = subst (λ z. Stands (ids_of levels ++ line_ids z) levels (line_ends z) c.check_line.new.standing) (sym (take_next lines i line c.loop-i-test.true c.index-lines-i.is)) (c.in-Ok.ensures.stands levels (take i lines) c.loop-i.invariant.stands);
      left = goes_on (line_check levels) lines i line _ c.loop-i-test.true c.index-lines-i.is c.loop-i.invariant.left (c.in-Ok.ensures.check levels (take i lines) c.loop-i.invariant.stands);
    }

pub returns : goal.returns
returns c =
    let levels = c.args.network.now.levels in
    let lines = c.slice-lines.result.now in
    ap (each_check (line_check levels) [] 0) (sym c.slice-lines.ensures) ∙ is_done (line_check levels) lines c.loop-i.i _ c.loop-i-test.false c.loop-i.invariant.left
