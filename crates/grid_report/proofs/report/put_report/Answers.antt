use Rattle.std.proofs.Common.{sym, subst, ◌++◌}
use Rattle.std.specs.List.{flat_map}
use Rattle.std.specs.Io.KnownBytes.{Appends, append_known}
use Rattle.grid_lemmas.proofs.Results.{on_err}
use Rattle.grid_source.specs.Whole.{IsBegun}
use Rattle.grid_report.specs.Outcomes.{variant_text}
use Rattle.grid_report.specs.Cursors.{front_of, back_of}
use Rattle.grid_report.proofs.Begun.{on_err_map, on_ok_map, in_first, behind_first, line_more}
use Rattle.grid_report.proofs.RemainingText.{three_parts}
use Rattle.grid_report.proofs.report.put_report.Goals as goal

pub returns-in_err-put_blocks-clause-err : goal.returns-in_err-put_blocks-clause-err
returns-in_err-put_blocks-clause-err g c =
    let o = c.args.outcome.now in
    let start = append_known (g.K.Sink.written c.args.sink.now) c.args.pieces.now in
    let end = g.K.Sink.written c.put_blocks.new.sink in
    let begun : IsBegun start (front_of o) end = subst (λ t. IsBegun start t end) c.front.ensures c.in_err-put_blocks.ensures.err in
    on_err c.from_residual.result (subst (λ t. IsBegun start t end) (sym (three_parts o)) (in_first start end (front_of o) (flat_map variant_text o.views ++ back_of o) begun))

pub returns-in_err-put_variants-clause-err : goal.returns-in_err-put_variants-clause-err
returns-in_err-put_variants-clause-err g c =
    let o = c.args.outcome.now in
    let start = append_known (g.K.Sink.written c.args.sink.now) c.args.pieces.now in
    let first = append_known (g.K.Sink.written c.put_blocks.new.sink) c.put_blocks.new.pieces in
    let end = g.K.Sink.written c.put_variants.new.sink in
    let front : Appends start first (front_of o) = subst (Appends start first) c.front.ensures c.in_ok-put_blocks.ensures.ok in
    let begun : IsBegun first (flat_map variant_text o.views) end = subst (λ vs. IsBegun first (flat_map variant_text vs) end) c.slice.ensures c.in_err-put_variants.ensures.err in
    on_err c.from_residual-in_err-put_variants.result (subst (λ t. IsBegun start t end) (sym (three_parts o)) (behind_first start first end (front_of o) (flat_map variant_text o.views ++ back_of o) front (in_first first end (flat_map variant_text o.views) (back_of o) begun)))

pub returns-clause-ok : goal.returns-clause-ok
returns-clause-ok g c =
    let o = c.args.outcome.now in
    let start = append_known (g.K.Sink.written c.args.sink.now) c.args.pieces.now in
    let first = append_known (g.K.Sink.written c.put_blocks.new.sink) c.put_blocks.new.pieces in
    let second = append_known (g.K.Sink.written c.put_variants.new.sink) c.put_variants.new.pieces in
    let end = append_known (g.K.Sink.written c.put_blocks-2.new.sink) c.put_blocks-2.new.pieces in
    let front : Appends start first (front_of o) = subst (Appends start first) c.front.ensures c.in_ok-put_blocks.ensures.ok in
    let variants : Appends first second (flat_map variant_text o.views) = subst (λ vs. Appends first second (flat_map variant_text vs)) c.slice.ensures c.in_ok-put_variants.ensures.ok in
    on_ok_map c.put_blocks-2.result (λ p. subst (Appends start end) (sym (three_parts o)) (line_more start first end (front_of o) (flat_map variant_text o.views ++ back_of o) front (line_more first second end (flat_map variant_text o.views) (back_of o) variants (subst (Appends second end) c.back.ensures p)))) c.put_blocks-2.ensures.ok

pub returns-clause-err : goal.returns-clause-err
returns-clause-err g c =
    let o = c.args.outcome.now in
    let start = append_known (g.K.Sink.written c.args.sink.now) c.args.pieces.now in
    let first = append_known (g.K.Sink.written c.put_blocks.new.sink) c.put_blocks.new.pieces in
    let second = append_known (g.K.Sink.written c.put_variants.new.sink) c.put_variants.new.pieces in
    let end = g.K.Sink.written c.put_blocks-2.new.sink in
    let front : Appends start first (front_of o) = subst (Appends start first) c.front.ensures c.in_ok-put_blocks.ensures.ok in
    let variants : Appends first second (flat_map variant_text o.views) = subst (λ vs. Appends first second (flat_map variant_text vs)) c.slice.ensures c.in_ok-put_variants.ensures.ok in
    on_err_map c.put_blocks-2.result (λ p. subst (λ t. IsBegun start t end) (sym (three_parts o)) (behind_first start first end (front_of o) (flat_map variant_text o.views ++ back_of o) front (behind_first first second end (flat_map variant_text o.views) (back_of o) variants (subst (λ t. IsBegun second t end) c.back.ensures p)))) c.put_blocks-2.ensures.err
