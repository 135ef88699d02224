use Rattle.std.proofs.Common.{◌≡◌, sym, ap, ◌∙◌, subst, refl, rules, arith, length, set, ◌++◌, ◌∷◌, []}
use Rattle.std.specs.Prelude.{IsTrue}
use Rattle.grid_slots.specs.Kept.{IsOwn, IsShared}
use Rattle.grid_slots.proofs.SharedRows.{copy_is, own_copy}
use Rattle.grid_slots.proofs.kept.own_states.Goals as goal

pub returns-clause-ok : goal.returns-clause-ok
returns-clause-ok c =
    let ns = c.args.numbers.now.items in
    let ss = c.args.states.now.items in
    let place = c.args.place in
    let own : c.len-own.result ≡ length ss = omega (arith, c.len-own.ensures, c.args.states.now.ok.0) in
    let is : IsTrue c.is_shared.result = search rules in
    let shared : IsShared ns place = subst (λ z. IsShared z place) c.deref.ensures.value
    (c.is_shared.ensures.shared is) in
    let copied = c.in_ok-copy.ensures
    ∙ copy_is ns ss place c.index-number.result.now c.index.result.now c.requires.place c.requires.kept.within
    c.index-number.ensures c.index.ensures in
    subst (λ k. IsOwn ns ss (set ns place k) c.push.new.self.items place k) (sym own)
    (own_copy ns ss place c.requires.place c.requires.kept.within (set ns place (length ss)) c.push.new.self.items refl
    (c.in_ok-push.ensures.items ∙ ap (λ rows. ss ++ rows ∷ []) copied) c.requires.kept.used shared)
