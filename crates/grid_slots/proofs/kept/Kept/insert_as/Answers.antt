use Rattle.std.proofs.Common.{◌≤◌, sym, ap, ◌∙◌, subst, length, arith}
use Rattle.std.specs.Prelude.{insert}
use Rattle.grid_slots.specs.Kept.{rows_in_place, kept_rows, AreKept}
use Rattle.grid_slots.proofs.SharedRows.{self_long, below_count, rows_are, inserted_kept, rows_inserted}
use Rattle.grid_slots.proofs.kept.Kept.insert_as.Goals as goal

pub index-number-requires : goal.index-number-requires
index-number-requires c = omega (
  arith,
  c.requires.source,
  self_long c.self.inside.numbers.items c.self.inside.states.items c.args.self.now
      c.self.view_is,
  c.self.inside.numbers.ok.0,
)

pub insert-requires : goal.insert-requires
insert-requires c = omega (
  arith,
  c.requires.place,
  self_long c.self.inside.numbers.items c.self.inside.states.items
      c.args.self.now c.self.view_is,
  c.self.inside.numbers.ok.0,
)

pub invariant_of-self-2 : goal.invariant_of-self-2
invariant_of-self-2 c =
    let ns = c.self.inside.numbers.items in
    let ss = c.self.inside.states.items in
    let low = below_count ns ss c.args.self.now c.self.view_is c.args.source c.index-number.result.now
    c.requires.source c.index-number.ensures c.self.invariant.within in
    let le : c.args.place ≤ length ns = omega
    (arith, c.requires.place, self_long ns ss c.args.self.now c.self.view_is) in
    subst (λ z. AreKept z (length ss)) (sym c.in_ok-insert.ensures.items)
    (inserted_kept ns (length ss) c.args.place c.index-number.result.now c.self.invariant low le)

pub returns-clause-ok : goal.returns-clause-ok
returns-clause-ok c =
    let ns = c.self.inside.numbers.items in
    let ss = c.self.inside.states.items in
    let same = rows_are ns ss c.args.self.now c.self.view_is c.args.source c.index-number.result.now c.requires.source
    c.index-number.ensures in
    ap (λ z. kept_rows z ss) c.in_ok-insert.ensures.items ∙ rows_inserted ss ns c.args.place c.index-number.result.now
    ∙ ap (λ z. insert z c.args.place (rows_in_place ss c.index-number.result.now)) c.self.view_is
    ∙ ap (insert c.args.self.now c.args.place) (sym same)
