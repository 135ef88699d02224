use Rattle.std.proofs.Common.{◌<◌, sym, ap, ◌∙◌, subst, length, arith}
use Rattle.std.specs.Prelude.{remove}
use Rattle.std.proofs.lemmas.Grind.{get_or_default_zero}
use Rattle.grid_slots.specs.Kept.{kept_rows, AreKeptBut}
use Rattle.grid_slots.proofs.SharedRows.{self_long, below_count, removed_kept, rows_removed}
use Rattle.grid_slots.proofs.kept.Kept.remove.Goals as goal

pub remove-former-requires : goal.remove-former-requires
remove-former-requires c = omega (
  arith,
  c.requires,
  self_long c.self.inside.numbers.items c.self.inside.states.items c.args.self.now
      c.self.view_is,
  c.self.inside.numbers.ok.0,
)

pub release-requires-clause-number : goal.release-requires-clause-number
release-requires-clause-number c =
    below_count c.self.inside.numbers.items c.self.inside.states.items c.args.self.now c.self.view_is c.args.place
    c.remove-former.result c.requires c.remove-former.ensures.value c.self.invariant.within

pub release-requires-clause-kept : goal.release-requires-clause-kept
release-requires-clause-kept c =
    let ns = c.self.inside.numbers.items in
    let ss = c.self.inside.states.items in
    let lt : c.args.place < length ns = omega (arith, c.requires, self_long ns ss c.args.self.now c.self.view_is) in
    subst (λ z. AreKeptBut z (length ss) c.remove-former.result) (sym c.remove-former.ensures.items)
    (removed_kept ns (length ss) c.args.place c.remove-former.result c.self.invariant lt
    (c.remove-former.ensures.value ∙ get_or_default_zero ns c.args.place c.remove-former.result lt))

pub returns : goal.returns
returns c =
    let ss = c.self.inside.states.items in
    c.release.ensures.rows ∙ ap (λ z. kept_rows z ss) c.remove-former.ensures.items
    ∙ rows_removed ss c.self.inside.numbers.items c.args.place
    ∙ ap (λ z. remove z c.args.place) c.self.view_is
