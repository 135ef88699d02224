use Rattle.std.proofs.Common.{◌≡◌, refl, sym, ◌∙◌, subst, ℕ, List, cond, ◌<◌, length, get_or, arith}
use Rattle.grid_unions.specs.Halves.{is_marked, is_gone}
use Rattle.grid_unions.specs.Sweep.{is_among}
use Rattle.grid_unions.specs.declared.sweeps.Change.{Change}
use Rattle.grid_unions.proofs.PlaceMarks.{gone_more}
use Rattle.grid_unions.proofs.marks.mark_gone.Goals as goal

pub loop-change-init : goal.loop-change-init
unfolding is_gone
loop-change-init c = record { long = refl; marked = λ x. refl }

pub mark_places-requires : goal.mark_places-requires
mark_places-requires c = λ k d lt.
    let change : Change = c.change-item.result in
    let P : Change → Type 0 = λ z. (j e : ℕ) → j < length z.gone → get_or z.gone j e < length c.args.marks.now in
    let Q : List ℕ → Type 0 = λ gone. k < length gone → get_or gone k d < length c.args.marks.now in
    let less : get_or c.slice.result.now k d < length c.args.marks.now =
    subst Q (sym c.slice.ensures) (subst P (sym c.change-item.is) (λ j e l. c.requires c.loop-change.change-index change c.loop-change-test.true j e l) k d) lt in
    omega (arith, less, c.loop-change.invariant.long)

pub loop-change-preserved : goal.loop-change-preserved
loop-change-preserved c = record {
  long = c.mark_places.ensures.long ∙ c.loop-change.invariant.long;
  marked = λ x.
      (let P : List ℕ → Type 0 = λ gone. is_marked c.mark_places.new.marks x ≡ cond (is_among gone x) c.args.mark (is_marked c.loop-change.marks x) in
      gone_more c.args.marks.now c.loop-change.marks c.mark_places.new.marks c.args.changes.now c.change-item.result c.args.mark c.loop-change.change-index x
      c.loop-change-test.true (sym c.change-item.is) (c.loop-change.invariant.marked x) (subst P c.slice.ensures (c.mark_places.ensures.marked x)));
}
