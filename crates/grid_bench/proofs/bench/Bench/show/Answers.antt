use Rattle.std.proofs.Common.{◌≡◌, refl, sym, ap, ◌∙◌, subst, Some, None}
use Rattle.std.proofs.lemmas.List.{set-get_or}
use Rattle.std.specs.Prelude.{slice_set, IsSome}
use Rattle.grid_bench.specs.Stores.{Store, store, kept_for, IsStore}
use Rattle.grid_bench.proofs.StoreChanges.{found}
use Rattle.grid_bench.proofs.bench.Bench.show.Goals as goal
use Rattle.grid_bench.proofs.bench.Bench.show.Goals.{After-index_mut, After-show}

-- what is kept under the key
kept_is : (c : After-index_mut) → kept_for c.args.self.now c.args.level.now ≡ Some c.index_mut.result.now
kept_is c =
    sym (ap (λ z. kept_for z c.args.level.now) c.self.view_is)
    ∙ found (store c.self.inside.keys.entries c.self.inside.kept.slots) c.args.level.now c.in-Some.key.now (sym c.in-Some.ensures.value)
    ∙ c.index_mut.ensures.value

pub index_mut-requires : goal.index_mut-requires
index_mut-requires c =
    let at = c.self.invariant c.args.level.now c.in-Some.key.now (sym c.in-Some.ensures.value) in
    subst IsSome (sym at.1) refl

pub show-requires : goal.show-requires
show-requires c = c.requires c.index_mut.result.now (kept_is (goal.at.show-requires c).After-index_mut)

-- it is written back as it was
now_is : (c : After-show) → store c.self.inside.keys.entries (slice_set c.self.inside.kept.slots c.in-Some.key.now (Some c.show.new.self)) ≡ store c.self.inside.keys.entries c.self.inside.kept.slots
now_is c =
    let slots = c.self.inside.kept.slots in
    let key = c.in-Some.key.now in
    ap (λ z. store c.self.inside.keys.entries (slice_set slots key z)) (ap Some c.show.ensures ∙ sym c.index_mut.ensures.value)
    ∙ ap (store c.self.inside.keys.entries) (set-get_or slots key None)

pub invariant_of-self : goal.invariant_of-self
invariant_of-self c = let P : Store → Type 0 = λ z. IsStore z in subst P (sym (now_is (goal.at.invariant_of-self c).After-show)) c.self.invariant

pub returns : goal.returns
returns c = now_is (goal.at.returns c).After-show ∙ c.self.view_is
