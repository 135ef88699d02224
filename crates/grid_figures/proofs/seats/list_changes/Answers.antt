use Rattle.std.proofs.Common.{◌≡◌, sym, ap, ◌∙◌, ◌+◌, ◌<◌, ℕ, [], ◌∷◌, ◌++◌, length, length-append, get_or, arith, inl, inr, subst}
use Rattle.std.proofs.lemmas.Bool.{cases_eq}
use Rattle.std.proofs.lemmas.List.{get_or_default, get_or_append_left}
use Rattle.std.proofs.Math.Seq.{get_or-append_seam}
use Rattle.grid_figures.specs.Layouts.{changed_parts, first_part, HaveSeats, IsChangeOf}
use Rattle.grid_figures.specs.declared.outage.Outage.{Outage}
use Rattle.grid_unions.specs.declared.sweeps.Change.{Change}
use Rattle.grid_figures.proofs.ChangedLevels.{Rises}
use Rattle.grid_figures.proofs.OutageGraphs.{changed_front, first_more}
use Rattle.grid_figures.proofs.seats.list_changes.Goals as goal

pub loop-outage-init : goal.loop-outage-init
unfolding changed_parts
loop-outage-init c = record {
  place = omega arith;
  long = ap length c.in_ok-changes.ensures.items;
  each = λ i d e lt. absurd (omega (arith, lt));
}

pub overflow_add-place : goal.overflow_add-place
overflow_add-place c =
    let outages = c.args.outages.now in
    let i = c.loop-outage.outage-index in
    let item : Outage = c.outage-item.result in
    let all = c.requires.parts in
    omega (
      arith,
      all,
      c.loop-outage.invariant.place,
      c.len.ensures,
      ap (λ (z : Outage). length z.levels) c.outage-item.is,
      first_more c.args.first outages i item c.loop-outage-test.true,
      changed_front outages (i + 1),
    )

pub loop-outage-preserved : goal.loop-outage-preserved
loop-outage-preserved c =
    let outages = c.args.outages.now in
    let starts = c.args.starts.now in
    let i = c.loop-outage.outage-index in
    let lt = c.loop-outage-test.true in
    let item : Outage = c.outage-item.result in
    let inv = c.loop-outage.invariant in
    let changes = c.loop-outage.changes.items in
    let change : Change = c.in_ok-change_of.field-0 in
    let pushed : c.push.new.self.items ≡ changes ++ change ∷ [] = c.in_ok-push.ensures.items in
    let place = inv.place in
    let long = inv.long in
    let made : IsChangeOf starts c.loop-outage.place item change = c.in_ok-change_of.ensures in
    let first = first_part c.args.first outages in
    record {
      place = omega (arith, place, c.len.ensures, ap (λ (z : Outage). length z.levels) c.outage-item.is, first_more c.args.first outages i item lt);
      long = omega (arith, ap length pushed, length-append changes (change ∷ []), long);
      each = λ k d e less. elim (cases_eq k i) [
        | inl same ↦ (let P : ℕ → Outage → Change → Type 0 = λ p o h. IsChangeOf starts p o h in
            let there : i ≡ k = sym same in
            let o : item ≡ get_or outages k d = c.outage-item.is ∙ get_or_default outages i item d lt ∙ ap (λ z. get_or outages z d) there in
            let h : change ≡ get_or c.push.new.self.items k e = sym (ap (λ z. get_or z k e) pushed ∙ ap (λ z. get_or (changes ++ change ∷ []) z e) (same ∙ sym long) ∙ get_or-append_seam changes change [] e) in
            let p : c.loop-outage.place ≡ first k = place ∙ ap first there in
            subst (λ z. P z (get_or outages k d) (get_or c.push.new.self.items k e)) p (subst (λ z. P c.loop-outage.place z (get_or c.push.new.self.items k e)) o (subst (λ z. P c.loop-outage.place item z) h made)))
        | inr other ↦ (let early : k < i = omega (arith, less, other) in
            let h : get_or changes k e ≡ get_or c.push.new.self.items k e = sym (ap (λ z. get_or z k e) pushed ∙ get_or_append_left changes (change ∷ []) e k (omega (arith, early, long))) in
            subst (λ z. IsChangeOf starts (first k) (get_or outages k d) z) h (inv.each k d e early))
      ];
    }

pub change_of-requires-clause-rising : goal.change_of-requires-clause-rising
change_of-requires-clause-rising c =
    let P : Outage → Type 0 = λ o. Rises o.levels in
    subst P (sym c.outage-item.is) (c.requires.rising c.loop-outage.outage-index c.outage-item.result c.loop-outage-test.true)

pub change_of-requires-clause-seats : goal.change_of-requires-clause-seats
change_of-requires-clause-seats c =
    let outages = c.args.outages.now in
    let i = c.loop-outage.outage-index in
    let P : ℕ → Outage → Type 0 = λ p o. HaveSeats c.args.starts.now p o.levels o.own in
    subst (P c.loop-outage.place) (sym c.outage-item.is)
    (subst (λ z. P z (get_or outages i c.outage-item.result)) (sym c.loop-outage.invariant.place) (c.requires.seats i c.outage-item.result c.loop-outage-test.true))
