use Rattle.std.proofs.Common.{◌<◌, sym, ap, ◌∙◌, length, arith, set}
use Rattle.grid_slots.specs.Kept.{rows_in_place}
use Rattle.std.proofs.lemmas.Grind.{get_or_default_zero}
use Rattle.grid_slots.proofs.SharedRows.{self_long, below_count, rows_are, put_kept, rows_put}
use Rattle.grid_slots.proofs.kept.Kept.set_as.Goals as goal

pub index-former-requires : goal.index-former-requires
index-former-requires c = omega (
  arith,
  c.requires.place,
  self_long c.self.inside.numbers.items c.self.inside.states.items c.args.self.now
      c.self.view_is,
  c.self.inside.numbers.ok.0,
)

pub index-requires : goal.index-requires
index-requires c = omega (
  arith,
  c.requires.source,
  self_long c.self.inside.numbers.items c.self.inside.states.items
      c.args.self.now c.self.view_is,
  c.self.inside.numbers.ok.0,
)

pub index_mut-requires : goal.index_mut-requires
index_mut-requires c = omega (
  arith,
  c.requires.place,
  self_long c.self.inside.numbers.items c.self.inside.states.items
      c.args.self.now c.self.view_is,
  c.self.inside.numbers.ok.0,
)

pub release-requires-clause-number : goal.release-requires-clause-number
release-requires-clause-number c =
    below_count c.self.inside.numbers.items c.self.inside.states.items c.args.self.now c.self.view_is c.args.place
    c.index-former.result.now c.requires.place c.index-former.ensures c.self.invariant.within

pub release-requires-clause-kept : goal.release-requires-clause-kept
release-requires-clause-kept c =
    let ns = c.self.inside.numbers.items in
    let ss = c.self.inside.states.items in
    let lt : c.args.place < length ns = omega
    (arith, c.requires.place, self_long ns ss c.args.self.now c.self.view_is) in
    let low = below_count ns ss c.args.self.now c.self.view_is c.args.source c.index.result.now c.requires.source
    c.index.ensures c.self.invariant.within in
    put_kept ns (length ss) c.args.place c.index.result.now c.self.invariant low lt c.index-former.result.now
    (c.index-former.ensures ∙ get_or_default_zero ns c.args.place c.index-former.result.now lt)

pub returns : goal.returns
returns c =
    let ns = c.self.inside.numbers.items in
    let ss = c.self.inside.states.items in
    let same = rows_are ns ss c.args.self.now c.self.view_is c.args.source c.index.result.now c.requires.source
    c.index.ensures in
    c.release.ensures.rows ∙ rows_put ss ns c.args.place c.index.result.now
    ∙ ap (λ z. set z c.args.place (rows_in_place ss c.index.result.now)) c.self.view_is
    ∙ ap (set c.args.self.now c.args.place) (sym same)
