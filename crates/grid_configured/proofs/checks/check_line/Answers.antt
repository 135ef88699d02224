use Rattle.std.proofs.Common.{◌++◌, ◌∷◌, []}
use Rattle.std.proofs.lemmas.Result.{on_ok_weaker}
use Rattle.grid_configured.specs.Checks.{ids_of, line_check, line_ends, line_ids}
use Rattle.grid_configured.proofs.LevelParts.{fails_on}
use Rattle.grid_configured.proofs.Lines.{first_wrong, id_stands, id_wrong, line_gives, line_stands}
use Rattle.grid_configured.proofs.checks.check_line.Goals as goal

pub returns-in_err-check_id-clause-check : goal.returns-in_err-check_id-clause-check
returns-in_err-check_id-clause-check c levels earlier stands =
    let e = c.in_err-check_id.field-0.0 in
    fails_on c.from_residual.result e (line_check levels earlier c.args.line.now) c.from_residual.ensures.1 (id_wrong levels earlier c.args.line.now c.args.standing.now stands e c.in_err-check_id.ensures.check)

pub returns-in_err-check_end-clause-check : goal.returns-in_err-check_end-clause-check
returns-in_err-check_end-clause-check c levels earlier stands =
    let e = c.in_err-check_end.field-0.0 in
    let line = c.args.line.now in
    let id = c.in_ok-check_id.ensures in
    let first = id_stands levels earlier line c.args.standing.now stands c.check_id.new.ids id.known in
    fails_on c.from_residual-in_err-check_end.result e (line_check levels earlier line) c.from_residual-in_err-check_end.ensures.1
    (first_wrong levels earlier line c.args.standing.now stands id.check e (c.in_err-check_end.ensures.check ((ids_of levels ++ line_ids earlier) ++ line.id ∷ []) levels (line_ends earlier) first))

pub returns-clause-check : goal.returns-clause-check
returns-clause-check c levels earlier stands =
    let line = c.args.line.now in
    let ids = (ids_of levels ++ line_ids earlier) ++ line.id ∷ [] in
    let id = c.in_ok-check_id.ensures in
    let first = id_stands levels earlier line c.args.standing.now stands c.check_id.new.ids id.known in
    let end1 = c.in_ok-check_end.ensures in
    line_gives levels earlier line c.args.standing.now stands id.check c.check_end-2.result (end1.check ids levels (line_ends earlier) first)
    (c.check_end-2.ensures.check ids levels (line_ends earlier ++ line.end1 ∷ []) (end1.stands ids levels (line_ends earlier) first))

pub returns-clause-stands : goal.returns-clause-stands
returns-clause-stands c =
    on_ok_weaker c.check_end-2.result (λ second levels earlier stands.
    let line = c.args.line.now in
    let ids = (ids_of levels ++ line_ids earlier) ++ line.id ∷ [] in
    let first = id_stands levels earlier line c.args.standing.now stands c.check_id.new.ids c.in_ok-check_id.ensures.known in
    line_stands levels earlier line c.check_end-2.new.self (second ids levels (line_ends earlier ++ line.end1 ∷ []) (c.in_ok-check_end.ensures.stands ids levels (line_ends earlier) first))) c.check_end-2.ensures.stands
