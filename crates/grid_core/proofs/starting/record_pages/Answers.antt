use Rattle.std.proofs.Common.{ap, ◌∙◌, map, ◌++◌, ◌∷◌, [], arith}
use Rattle.grid_structure.specs.Sites.{levels}
use Rattle.grid_core.specs.Solo.{page_of}
use Rattle.grid_core.proofs.Starts.{rows_more, take_whole}
use Rattle.grid_core.proofs.starting.record_pages.Goals as goal

pub loop-place-preserved : goal.loop-place-preserved
loop-place-preserved c =
    rows_more page_of (levels c.args.structure.now) c.loop-place.place c.level.result.now c.loop-place.pages.items c.push.new.self.items c.level.ensures c.loop-place.invariant
    (c.in_ok-push.ensures.items ∙ ap (λ page. c.loop-place.pages.items ++ page ∷ []) c.in_ok-record_page.ensures)

pub returns : goal.returns
returns c = c.loop-place.invariant ∙ ap (map page_of) (take_whole (levels c.args.structure.now) c.loop-place.place (omega (arith, c.loop-place-test.false, c.level_count-place-end.ensures)))
