use Rattle.std.proofs.Common.{◌≡◌, sym, ap, ◌∙◌, ℕ, ◌<◌, Bool, true, false, List, length, set, get_or, get_or-set_same, get_or-set_other, inl, inr, Option, Some, None, arith}
use Rattle.std.specs.Prelude.{slice_get}
use Rattle.std.proofs.lemmas.Bool.{cases_eq}
use Rattle.std.proofs.lemmas.Option.{same_Some, slice_get-get_or}
use Rattle.grid_islands.specs.Rejoining.{mark_of, is_marked}
use Rattle.grid_islands.proofs.rejoining.mark_bus.Goals as goal

mark_more : (marks : List Bool) (label : ℕ) (o : Option ℕ) → label < length marks → mark_of marks o ≡ true → mark_of (set marks label true) o ≡ true
unfolding mark_of
mark_more marks label None lt h = h
mark_more marks label (Some other) lt h = elim (cases_eq other label) [
  | inl e ↦ ap (λ z. get_or (set marks label true) z false) e ∙ get_or-set_same marks label true false lt
  | inr ne ↦ get_or-set_other marks label other true false ne ∙ h
]

mark_here : (marks : List Bool) (label : ℕ) (o : Option ℕ) → label < length marks → o ≡ Some label → mark_of (set marks label true) o ≡ true
unfolding mark_of
mark_here marks label o lt e = rw e (get_or-set_same marks label true false lt)

pub returns-then-label-len-clause-kept : goal.returns-then-label-len-clause-kept
unfolding is_marked
returns-then-label-len-clause-kept c x h = mark_more c.args.marks.now.items (get_or c.args.labels.now c.in-Some.bus 0) (slice_get c.args.labels.now x) (omega (arith, c.if-label-len.true, c.len.ensures)) h

pub returns-then-label-len-clause-marked : goal.returns-then-label-len-clause-marked
unfolding is_marked
returns-then-label-len-clause-marked c x e lt fits =
    let same : x ≡ c.in-Some.bus = same_Some x c.in-Some.bus (sym e ∙ c.in-Some.is) in
    mark_here c.args.marks.now.items (get_or c.args.labels.now c.in-Some.bus 0) (slice_get c.args.labels.now x) (omega (arith, c.if-label-len.true, c.len.ensures))
    (slice_get-get_or c.args.labels.now x 0 lt ∙ ap (λ z. Some (get_or c.args.labels.now z 0)) same)
