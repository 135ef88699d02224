use Rattle.std.proofs.Common.{◌≡◌, sym, ap, ◌∙◌}
use Rattle.std.proofs.lemmas.Result.{IfOk-weaker}
use Rattle.std.specs.Prelude.{slice_get, Some}
use Rattle.grid_structure.specs.Sites.{levels}
use Rattle.grid_core.proofs.LevelCopies.{copies_with}
use Rattle.grid_core.proofs.copies.Copies.level.Goals as goal

pub returns-in-Some-clause-level : goal.returns-in-Some-clause-level
returns-in-Some-clause-level c =
    let net = c.args.structure.now in
    let there = c.requires.copies c.args.place c.in-Some.level.now (sym c.in-Some.ensures) in
    IfOk-weaker c.copy.result (λ copy. copy ≡ c.in-Some.level.now) (λ level. slice_get (levels net) c.args.place ≡ Some level) (λ level is. there ∙ ap (λ l. Some l) (sym is)) c.copy.ensures

pub returns-clause-copies : goal.returns-clause-copies
returns-clause-copies c =
    let net = c.args.structure.now in
    let copied : c.in_ok-copy-2.field-0 ≡ c.level.result.now = c.in_ok-copy-2.ensures ∙ c.in_ok-level.ensures ∙ c.in_ok-copy.ensures in
    copies_with net c.args.place c.in_ok-copy-2.field-0 c.args.self.now c.keep.new.self (c.level.ensures ∙ ap (λ l. Some l) (sym copied)) c.in_ok-keep.ensures.ok c.requires.copies
