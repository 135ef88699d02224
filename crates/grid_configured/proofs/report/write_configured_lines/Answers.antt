use Rattle.std.proofs.Common.{◌≡◌, ap, ◌∙◌, subst}
use Rattle.std.specs.Prelude.{OnOk, OnErr}
use Rattle.std.specs.List.{flat_map}
use Rattle.std.specs.Io.KnownBytes.{Appends}
use Rattle.grid_source.specs.Whole.{IsBegun}
use Rattle.grid_report.proofs.Begun.{at_start}
use Rattle.grid_jsonl.specs.Outcomes.{lines}
use Rattle.grid_configured.specs.Lines.{objects}
use Rattle.grid_configured.specs.Blocks.{block_lines}
use Rattle.grid_configured.proofs.PartObjects.{lines_shown}
use Rattle.grid_configured.proofs.report.write_configured_lines.Goals as goal

pub returns-in-Err-clause-err : goal.returns-in-Err-clause-err
returns-in-Err-clause-err g c = at_start _ _

pub returns-clause-ok : goal.returns-clause-ok
returns-clause-ok g c =
    let text : flat_map block_lines c.as_slice.result.now ≡ lines (objects c.args.outcome.now) = lines_shown c.as_slice.result.now ∙ ap lines (ap (flat_map _) c.as_slice.ensures.value ∙ c.in-Ok.ensures.lines) in
    subst (λ t. OnOk c.write_lined.result (Appends (g.K.Sink.written c.args.sink.now) (g.K.Sink.written c.write_lined.new.sink) t)) text c.write_lined.ensures.ok

pub returns-clause-err : goal.returns-clause-err
returns-clause-err g c =
    let text : flat_map block_lines c.as_slice.result.now ≡ lines (objects c.args.outcome.now) = lines_shown c.as_slice.result.now ∙ ap lines (ap (flat_map _) c.as_slice.ensures.value ∙ c.in-Ok.ensures.lines) in
    subst (λ t. OnErr c.write_lined.result (IsBegun (g.K.Sink.written c.args.sink.now) t (g.K.Sink.written c.write_lined.new.sink))) text c.write_lined.ensures.err
