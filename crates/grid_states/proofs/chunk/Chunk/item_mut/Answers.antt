use Rattle.std.proofs.Common.{◌≡◌, ap, ◌∙◌, get_or, set, rules, inl, inr}
use Rattle.std.specs.Result.{IsOk}
use Rattle.grid_ids.specs.Clones.{items_clone_equals}
use Rattle.grid_states.proofs.Lent.{same_loans}
use Rattle.grid_states.proofs.chunk.Chunk.item_mut.Goals as goal

pub returns : goal.returns
returns g c =
    let same : c.in_ok-items.items.now.items ≡ c.args.self.now = elim c.in_ok-items.ensures.value [
      | inl is ↦ ap (λ v. v.items) is ∙ c.self.view_is
      | inr clone ↦ items_clone_equals g.met.T.Duplicate.clone_equals _ _ clone.0 ∙ c.self.view_is
    ] in
    let made : IsOk c.make_mut.result = search rules in (
      same_loans _ _ _ (λ w. ap (λ v. v.items) (c.make_mut.follows.holds _ made) ∙ ap (λ l. set l c.args.place w) same),
      record {
        writes_back = tt;
        value = c.index_mut.ensures.value ∙ ap (λ l. get_or l c.args.place c.index_mut.result.now) same;
      },
    )
