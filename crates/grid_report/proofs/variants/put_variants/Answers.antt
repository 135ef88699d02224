use Rattle.std.proofs.Common.{◌≡◌, ◌∙◌, ◌++◌, ap, subst, sym, suc, take, drop}
use Rattle.std.specs.List.{flat_map}
use Rattle.std.specs.Io.KnownBytes.{Appends, append_known}
use Rattle.grid_lemmas.proofs.Results.{on_err}
use Rattle.grid_source.specs.Whole.{IsBegun}
use Rattle.grid_report.specs.Outcomes.{variant_line, variant_text}
use Rattle.grid_report.proofs.Begun.{before, within, cut, cut_at, one_on, line_more}
use Rattle.grid_report.proofs.LevelTexts.{variant_made}
use Rattle.grid_report.proofs.variants.put_variants.Goals as goal

pub returns-in_err-texts-clause-err : goal.returns-in_err-texts-clause-err
returns-in_err-texts-clause-err g c =
    on_err c.from_residual.result (before _ _ c.loop-variant.pieces _ _ _ (cut variant_text c.args.variants.now c.loop-variant.variant-index) c.loop-variant.invariant.so_far)

pub returns-in_err-put_variant-clause-err : goal.returns-in_err-put_variant-clause-err
returns-in_err-put_variant-clause-err g c =
    on_err c.from_residual-in_err-put_variant.result (before _ _ c.loop-variant.pieces _ _ _ (cut variant_text c.args.variants.now c.loop-variant.variant-index) c.loop-variant.invariant.so_far)

pub returns-in_err-put_with_levels-clause-err : goal.returns-in_err-put_with_levels-clause-err
returns-in_err-put_with_levels-clause-err g c =
    let v = c.variant-item.result in
    let told : c.put_variant.new.out ≡ variant_line v.name = c.in_ok-put_variant.ensures.ok ∙ ap (λ l. l ++ variant_line v.name) c.clear.ensures in
    let made = variant_made v c.put_variant.new.out c.as_slice.result.now c.in_ok-texts.texts.items c.slice-views.result.now told c.as_slice.ensures.value c.in_ok-texts.ensures c.slice-views.ensures in
    let h = append_known (g.K.Sink.written c.loop-variant.sink) c.loop-variant.pieces in
    let begun : IsBegun h (variant_text v) (g.K.Sink.written c.put_with_levels.new.sink) = subst (λ t. IsBegun h t (g.K.Sink.written c.put_with_levels.new.sink)) made c.in_err-put_with_levels.ensures.err in
    on_err c.from_residual-in_err-put_with_levels.result (within (append_known (g.K.Sink.written c.args.sink.now) c.args.pieces.now) h (g.K.Sink.written c.put_with_levels.new.sink) (flat_map variant_text (take c.loop-variant.variant-index c.args.variants.now)) (variant_text v) (flat_map variant_text (drop (suc c.loop-variant.variant-index) c.args.variants.now)) (flat_map variant_text c.args.variants.now) (cut_at variant_text c.args.variants.now c.loop-variant.variant-index v c.loop-variant-test.true c.variant-item.is) c.loop-variant.invariant.so_far begun)

pub loop-variant-preserved : goal.loop-variant-preserved
loop-variant-preserved g c =
    let v = c.variant-item.result in
    let told : c.put_variant.new.out ≡ variant_line v.name = c.in_ok-put_variant.ensures.ok ∙ ap (λ l. l ++ variant_line v.name) c.clear.ensures in
    let made = variant_made v c.put_variant.new.out c.as_slice.result.now c.in_ok-texts.texts.items c.slice-views.result.now told c.as_slice.ensures.value c.in_ok-texts.ensures c.slice-views.ensures in
    let start = append_known (g.K.Sink.written c.args.sink.now) c.args.pieces.now in
    let h = append_known (g.K.Sink.written c.loop-variant.sink) c.loop-variant.pieces in
    let end = append_known (g.K.Sink.written c.put_with_levels.new.sink) c.put_with_levels.new.pieces in
    let put : Appends h end (variant_text v) = subst (Appends h end) made c.in_ok-put_with_levels.ensures.ok in
    let on = one_on variant_text c.args.variants.now c.loop-variant.variant-index v c.loop-variant-test.true c.variant-item.is in
    record {
      so_far = subst (Appends start end) (sym on) (line_more start h end (flat_map variant_text (take c.loop-variant.variant-index c.args.variants.now)) (variant_text v) c.loop-variant.invariant.so_far put);
      texts = c.in_ok-texts.ensures;
      same = c.in_ok-put_with_levels.ensures.stays (λ is. absurd (cc)) ∙ c.loop-variant.invariant.same;
    }
