use Rattle.std.proofs.Common.{◌≡◌, refl, sym, ap, ◌∙◌, ◌+◌, Bool, true, false, not, take}
use Rattle.std.proofs.lemmas.Bool.{true≢false}
use Rattle.std.proofs.lemmas.List.{take_all}
use Rattle.grid_ids.specs.Name.{has_id}
use Rattle.grid_structure.specs.Sites.{levels}
use Rattle.grid_outages.specs.Steps.{levels_with_out, rows_with_out, levels_after, rows_after}
use Rattle.grid_outages.proofs.Again.{levels_again, rows_again, knows_more}
use Rattle.grid_outages.proofs.OutageChanges.{shown_so, shows_as, all_more}
use Rattle.grid_outages.proofs.outage.put_all_out.Goals as goal

told : (added has : Bool) → added ≡ not has → added ≡ false → has ≡ true
told added true e f = refl
told added false e f = absurd (true≢false (sym e ∙ f))

pub loop-id-init : goal.loop-id-init
unfolding levels_after rows_after
loop-id-init c = record { known = λ q. ap (λ z. has_id z q) c.empty-seen.ensures; shows = c.requires }

pub loop-id-preserved-then-not-branch : goal.loop-id-preserved-then-not-branch
unfolding levels_after rows_after
loop-id-preserved-then-not-branch c =
    let net = c.args.structure.now in
    let ids = c.args.ids.now in
    let i = c.loop-id.id-index in
    let id = c.id-item.result in
    let inv = c.loop-id.invariant in
    let lt = c.loop-id-test.true in
    let has = sym (inv.known id) ∙ told _ (has_id c.loop-id.seen id) c.in_ok-add.ensures.new c.if-not-branch.true in
    record {
      known = knows_more c.loop-id.seen c.add.new.self ids i id lt c.id-item.is inv.known c.in_ok-add.ensures.known;
      shows = shows_as (levels net) c.args.states.now.opened c.loop-id.changes _ (levels_after net (take (i + 1) ids) (levels net)) _ (rows_after net (take (i + 1) ids) c.args.states.now.opened) inv.shows
          (sym (levels_again net (take i ids) (levels net) id has) ∙ all_more (levels_with_out net) (levels net) ids i id lt c.id-item.is)
          (sym (rows_again net (take i ids) c.args.states.now.opened id has) ∙ all_more (rows_with_out net) c.args.states.now.opened ids i id lt c.id-item.is);
    }

pub put_out-requires : goal.put_out-requires
put_out-requires c = shown_so (levels c.args.structure.now) c.args.states.now.opened c.loop-id.changes _ _ c.loop-id.invariant.shows

pub loop-id-preserved : goal.loop-id-preserved
unfolding levels_after rows_after
loop-id-preserved c =
    let net = c.args.structure.now in
    let ids = c.args.ids.now in
    let i = c.loop-id.id-index in
    let id = c.id-item.result in
    let inv = c.loop-id.invariant in
    let lt = c.loop-id-test.true in
    record {
      known = knows_more c.loop-id.seen c.add.new.self ids i id lt c.id-item.is inv.known c.in_ok-add.ensures.known;
      shows = shows_as (levels net) c.args.states.now.opened c.put_out.new.changes _ (levels_after net (take (i + 1) ids) (levels net)) _ (rows_after net (take (i + 1) ids) c.args.states.now.opened) c.in_ok-put_out.ensures
          (ap (λ z. levels_with_out net z id) inv.shows.levels_are ∙ all_more (levels_with_out net) (levels net) ids i id lt c.id-item.is)
          (ap (λ z. rows_with_out net z id) inv.shows.rows_are ∙ all_more (rows_with_out net) c.args.states.now.opened ids i id lt c.id-item.is);
    }

pub returns : goal.returns
returns c =
    let net = c.args.structure.now in
    let ids = c.args.ids.now in
    let all = take_all c.loop-id.id-index ids c.loop-id-test.false in
    shows_as (levels net) c.args.states.now.opened c.loop-id.changes _ (levels_after net ids (levels net)) _ (rows_after net ids c.args.states.now.opened) c.loop-id.invariant.shows
    (ap (λ z. levels_after net z (levels net)) all) (ap (λ z. rows_after net z c.args.states.now.opened) all)
