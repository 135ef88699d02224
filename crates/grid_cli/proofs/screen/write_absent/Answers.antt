use Rattle.std.proofs.Common.{ap, ◌∙◌, subst}
use Rattle.std.proofs.lemmas.Result.{on_ok_weaker}
use Rattle.std.specs.Io.KnownBytes.{Appends}
use Rattle.grid_source.specs.Whole.{IsBegun}
use Rattle.grid_report.proofs.Begun.{on_err_map}
use Rattle.grid_cli.specs.Screen.{absent_in}
use Rattle.grid_cli.proofs.ScreenAnswers.{absent_parts}
use Rattle.grid_cli.proofs.screen.write_absent.Goals as goal

pub returns-clause-ok : goal.returns-clause-ok
returns-clause-ok g c =
    let text = absent_parts c.args.layout c.entries.result.now c.args.name.now c.args.only ∙ ap (λ j. absent_in c.args.layout j c.args.name.now c.args.only) c.entries.ensures in
    on_ok_weaker c.write_parts.result (subst (Appends (g.K.Sink.written c.args.sink.now) (g.K.Sink.written c.write_parts.new.sink)) text) c.write_parts.ensures.ok

pub returns-clause-err : goal.returns-clause-err
returns-clause-err g c =
    let text = absent_parts c.args.layout c.entries.result.now c.args.name.now c.args.only ∙ ap (λ j. absent_in c.args.layout j c.args.name.now c.args.only) c.entries.ensures in
    on_err_map c.write_parts.result (subst (λ t. IsBegun (g.K.Sink.written c.args.sink.now) t (g.K.Sink.written c.write_parts.new.sink)) text) c.write_parts.ensures.err
