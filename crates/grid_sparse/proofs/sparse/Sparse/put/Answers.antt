use Rattle.std.proofs.Common.{◌≡◌, sym, ap, ◌∙◌, arith, length, get_or, nat_cmp, Some, None}
use Rattle.std.specs.Prelude.{slice_set}
use Rattle.std.specs.BTreeMap as tree
use Rattle.grid_sparse.proofs.Places.{apart, length_options, option_at, map_set}
use Rattle.grid_sparse.proofs.sparse.Sparse.put.Goals as goal

pub invariant_of-self : goal.invariant_of-self
invariant_of-self g c = (
  c.self.invariant.0,
  λ place le.
      let long : c.self.inside.count ≡ length c.args.self.now = sym (length_options (tree.get nat_cmp c.self.inside.held) c.self.inside.count) ∙ ap length c.self.view_is in
      c.in-Ok.ensures.updates.2 place (apart c.args.place place (λ e. absurd (omega (arith, e, le, long, c.requires)))) ∙ c.self.invariant.1 place le,
)

pub returns-in-Ok-clause-ok : goal.returns-in-Ok-clause-ok
returns-in-Ok-clause-ok g c =
    map_set c.self.inside.held c.insert.new.self c.self.inside.count c.args.place (Some c.args.value) c.in-Ok.ensures.updates
    ∙ ap (λ z. slice_set z c.args.place (Some c.args.value)) c.self.view_is

pub returns-clause-absent : goal.returns-clause-absent
returns-clause-absent g c =
    ap (λ z. get_or z c.args.place None) (sym c.self.view_is)
    ∙ option_at (tree.get nat_cmp c.self.inside.held) c.self.inside.count c.args.place c.self.invariant.1
    ∙ c.in-Err.ensures.absent
