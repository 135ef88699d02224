use Rattle.std.proofs.Common.{◌/◌, ap, arith, ◌∙◌, ℕ, List}
use Rattle.std.specs.Prelude.{sum}
use Rattle.std.specs.List.{sum_by}
use Rattle.std.proofs.lemmas.List.Sums.{sum_by-take-le}
use Rattle.grid_structure.specs.Blocks.{count_of}
use Rattle.grid_structure.proofs.Blocks.{whole}
use Rattle.grid_structure.proofs.heads.total_before.Goals as goal

pub front-requires : goal.front-requires
front-requires c = omega (arith, c.requires.sums.all)

pub sum_of-total-requires : goal.sum_of-total-requires
sum_of-total-requires c =
    let all = whole (count_of c.args.own) c.args.heads.now c.args.sums.now c.requires.sums (c.args.count / 256) c.args.count (omega (arith, c.requires.sums.all)) (omega arith) in
    rw c.front.ensures (omega (arith, all, sum_by-take-le (count_of c.args.own) c.args.heads.now c.args.count, c.requires.few))

pub total_own-requires : goal.total_own-requires
total_own-requires c =
    let all = whole (count_of c.args.own) c.args.heads.now c.args.sums.now c.requires.sums (c.args.count / 256) c.args.count (omega (arith, c.requires.sums.all)) (omega arith) in
    rw c.part.ensures (omega (arith, all, sum_by-take-le (count_of c.args.own) c.args.heads.now c.args.count, c.requires.few))

pub overflow_add-result : goal.overflow_add-result
overflow_add-result c =
    let all = whole (count_of c.args.own) c.args.heads.now c.args.sums.now c.requires.sums (c.args.count / 256) c.args.count (omega (arith, c.requires.sums.all)) (omega arith) in
    let front = c.sum_of-total.ensures ∙ ap (λ (z : List ℕ). sum z) c.front.ensures in
    let back = c.total_own.ensures ∙ ap (sum_by (count_of c.args.own)) c.part.ensures in
    omega (arith, all, front, back, sum_by-take-le (count_of c.args.own) c.args.heads.now c.args.count, c.requires.few)

pub returns : goal.returns
returns c =
    let all = whole (count_of c.args.own) c.args.heads.now c.args.sums.now c.requires.sums (c.args.count / 256) c.args.count (omega (arith, c.requires.sums.all)) (omega arith) in
    let front = c.sum_of-total.ensures ∙ ap (λ (z : List ℕ). sum z) c.front.ensures in
    let back = c.total_own.ensures ∙ ap (sum_by (count_of c.args.own)) c.part.ensures in
    omega (arith, all, front, back)
