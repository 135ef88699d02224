use Rattle.std.proofs.Common.{◌≡◌, sym, ap, ◌∙◌, subst, rules, [], to_z, of_z}
use Rattle.std.specs.Prelude.{IsTrue}
use Rattle.std.specs.List.{list_all}
use Rattle.std.proofs.lemmas.Int.{to_z-of_z}
use mir.Syntax.{w128}
use mir.Val.{SFits}
use Rattle.grid_states.specs.declared.sums.Shift.{Shift}
use Rattle.grid_states.specs.Sums.{shift_by, IsSmall}
use Rattle.grid_powers.specs.Listed.{Listed}
use Rattle.grid_watts.specs.Watts.{terminals, watts_at, load_total, generation_total}
use Rattle.grid_watts.specs.Ranges.{is_narrow}
use Rattle.grid_watts.proofs.SumBounds.{room}
use Rattle.grid_core.proofs.starting.record_sums.Goals as goal

-- the sums are those that the list was given
abbrev read : goal.After-drop-powers-inside → Shift
read c = shift_by c.opening_powers-powers.result.load c.opening_powers-powers.result.generation

told : (c : goal.After-drop-powers-inside) → shift_by (to_z w128 (of_z w128 c.load.result)) (to_z w128 (of_z w128 c.generation.result)) ≡ read c
told c =
    let load_fits : SFits w128 c.load.result = search rules in
    let generation_fits : SFits w128 c.generation.result = search rules in
    ap (λ z. shift_by z (to_z w128 (of_z w128 c.generation.result))) (to_z-of_z w128 c.load.result load_fits ∙ c.load.ensures)
    ∙ ap (shift_by c.opening_powers-powers.result.load) (to_z-of_z w128 c.generation.result generation_fits ∙ c.generation.ensures)

pub returns-clause-sums : goal.returns-clause-sums
returns-clause-sums c =
    let net = c.args.structure.now in
    let p = c.opening_powers-powers.ensures in
    told c
    ∙ ap (λ z. shift_by z c.opening_powers-powers.result.generation) (p.summed.load ∙ ap (load_total net) p.listed)
    ∙ ap (shift_by (load_total net [])) (p.summed.generation ∙ ap (generation_total net) p.listed)

pub returns-clause-small : goal.returns-clause-small
returns-clause-small c =
    let r = room c.args.structure.now c.opening_powers-powers.result c.keeps.ensures c.opening_powers-powers.ensures.summed in
    subst IsSmall (sym (told c)) (record { load_low = r.load_low; load_high = r.load_high; generation_low = r.generation_low; generation_high = r.generation_high })

pub returns-clause-narrow : goal.returns-clause-narrow
returns-clause-narrow c = subst (λ (l : Listed). IsTrue (list_all (λ p. is_narrow (watts_at l p)) (terminals c.args.structure.now))) c.opening_powers-powers.ensures.listed c.opening_powers-powers.ensures.summed.narrow
