use Rattle.std.proofs.Common.{◌≡◌, sym, ap, ◌∙◌, ◌+◌, ◌<◌, length, get_or, arith, subst}
use Rattle.std.proofs.lemmas.List.{get_or_default}
use Rattle.grid_figures.specs.declared.outage.ChangedSums.{ChangedSums}
use Rattle.grid_figures.specs.Layouts.{part_at, no_part}
use Rattle.grid_figures.proofs.FirstLevels.{AreFreeBelow, free_begun, free_passed, free_still, free_found}
use Rattle.grid_figures.proofs.network.Network.first_free.Goals as goal
use Rattle.grid_figures.proofs.network.Network.first_free.Goals.{then-changed-level, else-changed-level}

pub loop-changed-init : goal.loop-changed-init
loop-changed-init c =
    let n = c.requires.kept.nexts in
    let nexts = c.args.self.now.nexts.items in
    let long = n.long in
    let is : get_or nexts 0 0 ≡ c.index-level.result.now = sym (c.index-level.ensures ∙ get_or_default nexts 0 c.index-level.result.now 0 (omega (arith, long))) in
    subst (AreFreeBelow c.args.self.now.kept.now c.args.levels.now 0) is (free_begun c.args.self.now.kept.now c.args.levels.now nexts n)

pub loop-changed-preserved : goal.loop-changed-preserved
loop-changed-preserved c =
    let kept = c.args.self.now.kept.now in
    let levels = c.args.levels.now in
    let nexts = c.args.self.now.nexts.items in
    let n = c.requires.kept.nexts in
    let i = c.loop-changed.changed-index in
    let lt = c.loop-changed-test.true in
    let level = c.loop-changed.level in
    let inv = c.loop-changed.invariant in
    let item : c.changed-item.result.level ≡ (part_at levels i).level = ap (λ (z : ChangedSums). z.level) (c.changed-item.is ∙ get_or_default levels i c.changed-item.result no_part lt) in
    let below = c.requires.levels i no_part lt in
    elim c.if-changed-level.branch [
      | then-changed-level w ↦ (let here : (part_at levels i).level ≡ level = sym item ∙ w.if-changed-level.true in
          let less : level < length kept = omega (arith, here, below) in
          let long = n.long in
          let r = w.index-level-then-changed-level in
          let next : get_or nexts (level + 1) 0 ≡ c.if-changed-level.level = sym (w.level-is ∙ r.ensures ∙ get_or_default nexts (level + 1) r.result.now 0 (omega (arith, long, less))) in
          subst (AreFreeBelow kept levels (i + 1)) next (free_passed kept levels nexts n c.requires.rising i level lt inv here less))
      | else-changed-level w ↦ subst (AreFreeBelow kept levels (i + 1)) (sym w.level-is) (free_still kept levels nexts n c.requires.rising i level lt inv (λ e. w.if-changed-level.false (item ∙ e)))
    ]

pub returns : goal.returns
returns c =
    free_found c.args.self.now.kept.now c.args.levels.now c.args.self.now.nexts.items c.requires.kept.nexts c.loop-changed.changed-index c.loop-changed.level c.loop-changed-test.false c.loop-changed.invariant
