use Rattle.std.proofs.Common.{◌≡◌, ◌<◌, ◌+◌, ◌/◌, ◌∙◌, refl, sym, ap, subst, List, [], ◌∷◌, length, map, filter, not, arith}
use Rattle.grid_unions.specs.declared.sweeps.Change.{Change}
use Rattle.grid_unions.specs.declared.sweeps.Found.{Found}
use Rattle.grid_unions.specs.declared.summed.Sums.{Sums}
use Rattle.grid_unions.specs.Summed.{Weighted}
use Rattle.grid_unions.specs.Sweep.{pair_at}
use Rattle.grid_unions.specs.Halves.{is_gone, IsMore}
use Rattle.grid_unions.proofs.Joins.{one_taken, two_taken}
use Rattle.grid_unions.proofs.Changes.{settled, front_sweep, back_sweep, single, one_ready, both_found}
use Rattle.grid_unions.proofs.sweeps.Board.+solve.Goals as goal

pub look-requires-clause-ready : goal.look-requires-clause-ready
look-requires-clause-ready t c =
    let e = c.in_ok-rest.ensures in
    let u = settled c.args.common.now c.args.changes.now c.args.self.now.summed c.settle.new.self.summed c.args.pending.now c.in_ok-rest.rest.items c.requires.can e.rest e.joined in
    let one = single c.args.changes.now c.index-changes-0.result (omega (arith, c.requires.some)) c.if-changes-lt2.true c.index-changes-0.is in
    one_ready c.args.common.now c.args.changes.now c.settle.new.self.summed c.args.pending.now c.in_ok-rest.rest.items c.index-changes-0.result one e.rest u

pub returns-then-changes-lt2-clause-summed : goal.returns-then-changes-lt2-clause-summed
returns-then-changes-lt2-clause-summed t c =
    c.back_to.ensures
    ∙ two_taken c.args.self.now.summed c.settle.new.self.summed c.look.new.self.summed (map (pair_at c.args.common.now) (filter (λ x. not (is_gone c.args.changes.now x)) c.args.pending.now)) c.index-changes-0.result.own c.mark-mark.result (c.in_ok-rest.ensures).joined (c.in_ok-look.ensures).joined c.mark-mark.ensures

pub returns-then-changes-lt2-clause-found : goal.returns-then-changes-lt2-clause-found
returns-then-changes-lt2-clause-found t c =
    let e = c.in_ok-rest.ensures in
    let one = single c.args.changes.now c.index-changes-0.result (omega (arith, c.requires.some)) c.if-changes-lt2.true c.index-changes-0.is in
    let weights : c.settle.new.self.summed.weights ≡ c.args.self.now.summed.weights = ap (λ (w : Weighted). w.weights) e.joined in
    let items : c.settle.new.self.found.items ≡ c.args.self.now.found.items = ap (λ v. v.items) e.found in
    let P : List Sums → List Change → List Found → Type 0 = λ ws cs found. IsMore ws c.args.common.now cs found c.look.new.self.found.items in
    subst (λ ws. P ws c.args.changes.now c.args.self.now.found.items) weights
    (subst (λ cs. P c.settle.new.self.summed.weights cs c.args.self.now.found.items) (sym one)
    (subst (P c.settle.new.self.summed.weights (c.index-changes-0.result ∷ [])) items (c.in_ok-look.ensures).found))

pub solve-requires : goal.solve-requires
solve-requires t c =
    let e = c.in_ok-rest.ensures in
    let u = settled c.args.common.now c.args.changes.now c.args.self.now.summed c.settle.new.self.summed c.args.pending.now c.in_ok-rest.rest.items c.requires.can e.rest e.joined in
    let part = front_sweep c.args.common.now c.args.changes.now c.split_at.result.0.now c.settle.new.self.summed c.settle.new.self.summed c.in_ok-rest.rest.items c.deref.result.now (length c.args.changes.now / 2)
    c.split_at.ensures.front refl c.deref.ensures.value u in
    let size : length c.split_at.result.0.now ≡ length c.args.changes.now / 2 = c.split_at.ensures.front_len in
    let some : 0 < length c.split_at.result.0.now = omega (arith, size, c.if-changes-lt2.false) in
    let less : length c.split_at.result.0.now < t = omega (arith, size, c.if-changes-lt2.false, c.decreases) in
    (less, (some, (part, (e.long, e.clear))))

pub solve-requires-2 : goal.solve-requires-2
solve-requires-2 t c =
    let e = c.in_ok-rest.ensures in
    let h = c.in_ok-solve.ensures in
    let u = settled c.args.common.now c.args.changes.now c.args.self.now.summed c.settle.new.self.summed c.args.pending.now c.in_ok-rest.rest.items c.requires.can e.rest e.joined in
    let part = back_sweep c.args.common.now c.args.changes.now c.split_at.result.1.now c.settle.new.self.summed c.solve.new.self.summed c.in_ok-rest.rest.items c.deref-2.result.now (length c.args.changes.now / 2)
    c.split_at.ensures.back h.summed c.deref-2.ensures.value u in
    let size : length c.split_at.result.1.now + length c.args.changes.now / 2 ≡ length c.args.changes.now = c.split_at.ensures.back_len in
    let some : 0 < length c.split_at.result.1.now = omega (arith, size, c.if-changes-lt2.false) in
    let less : length c.split_at.result.1.now < t = omega (arith, size, c.if-changes-lt2.false, c.decreases) in
    (less, (some, (part, (h.long, h.clear))))

pub returns-clause-summed : goal.returns-clause-summed
returns-clause-summed t c =
    c.back_to-2.ensures
    ∙ one_taken c.args.self.now.summed c.solve-2.new.self.summed (map (pair_at c.args.common.now) (filter (λ x. not (is_gone c.args.changes.now x)) c.args.pending.now)) c.mark-mark.result ((c.in_ok-solve-2.ensures).summed ∙ (c.in_ok-solve.ensures).summed ∙ (c.in_ok-rest.ensures).joined) c.mark-mark.ensures

pub returns-clause-found : goal.returns-clause-found
returns-clause-found t c =
    let e = c.in_ok-rest.ensures in
    let weights : c.settle.new.self.summed.weights ≡ c.args.self.now.summed.weights = ap (λ (w : Weighted). w.weights) e.joined in
    let again : c.solve.new.self.summed.weights ≡ c.args.self.now.summed.weights = ap (λ (w : Weighted). w.weights) (c.in_ok-solve.ensures).summed ∙ weights in
    let items : c.settle.new.self.found.items ≡ c.args.self.now.found.items = ap (λ v. v.items) e.found in
    let P : List Sums → List Found → Type 0 = λ ws found. IsMore ws c.args.common.now c.split_at.result.0.now found c.solve.new.self.found.items in
    let Q : List Sums → Type 0 = λ ws. IsMore ws c.args.common.now c.split_at.result.1.now c.solve.new.self.found.items c.solve-2.new.self.found.items in
    both_found c.args.self.now.summed.weights c.args.common.now c.args.changes.now (length c.args.changes.now / 2) c.split_at.result.0.now c.split_at.result.1.now
    c.args.self.now.found.items c.solve.new.self.found.items c.solve-2.new.self.found.items c.split_at.ensures.front c.split_at.ensures.back
    (subst (λ ws. P ws c.args.self.now.found.items) weights (subst (P c.settle.new.self.summed.weights) items (c.in_ok-solve.ensures).found))
    (subst Q again (c.in_ok-solve-2.ensures).found)
