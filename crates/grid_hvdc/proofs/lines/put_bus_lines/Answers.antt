use Rattle.std.proofs.Common.{◌≡◌, refl, ◌+◌, [], ◌∷◌, ◌++◌, length, length-append, take, sym, ap, ◌∙◌, get_or, arith, rules, append_assoc}
use Rattle.std.specs.Prelude.{zip, flat_map}
use Rattle.std.proofs.lemmas.List.{take_all}
use Rattle.std.proofs.lemmas.Slice.Zip.{zip_turn, zip_end, length-zip, get_or-zip}
use Rattle.grid_print.specs.Job.{line_of}
use Rattle.grid_hvdc.specs.declared.HvdcNumber.{HvdcNumber}
use Rattle.grid_hvdc.specs.declared.buses.BusName.{BusName}
use Rattle.grid_hvdc.specs.Lines.{bus_object, named_bus_line}
use Rattle.grid_hvdc.proofs.BusNames.{gathered_next}
use Rattle.grid_hvdc.proofs.VariantTexts.{level_named}
use Rattle.grid_hvdc.proofs.lines.put_bus_lines.Goals as goal

pub loop-name-preserved : goal.loop-name-preserved
loop-name-preserved c =
    let variant = c.args.variant.now in
    let net = c.args.structure.now in
    let names = c.args.names.now in
    let numbers = c.args.numbers.now in
    let turn = zip_turn names numbers c.loop-name.yielded _ c.loop-name.name-iterator c.next.new.self c.next.result (search rules) (search rules) c.loop-name.yielded_by (c.in-Some.name, c.in-Some.number) c.in-Some.is c.next.ensures.steps in
    let n = length c.loop-name.yielded in
    let pair : BusName × HvdcNumber = (c.in-Some.name.now, c.in-Some.number.now) in
    let pairs = zip names numbers in
    let line = named_bus_line variant net in
    let longer : length (c.loop-name.yielded ++ (c.in-Some.name, c.in-Some.number) ∷ []) ≡ n + 1 = length-append c.loop-name.yielded ((c.in-Some.name, c.in-Some.number) ∷ []) in
    let at : pair ≡ get_or pairs n pair =
    ap (λ z. (z, c.in-Some.number.now)) (turn.2 c.in-Some.name.now) ∙ ap (λ z. (get_or names n c.in-Some.name.now, z)) (turn.3 c.in-Some.number.now) ∙ sym (get_or-zip names numbers n pair turn.0 turn.1) in
    let start = c.args.out.now in
    c.in_ok-put_bus_line.ensures.ok
    ∙ ap (λ z. c.loop-name.out ++ line_of (bus_object variant z pair.0.least pair.1)) (c.id-level.ensures ∙ sym (level_named net pair.0.level c.level.result.now c.level.ensures))
    ∙ ap (λ z. z ++ line pair) c.loop-name.invariant ∙ append_assoc start (flat_map line (take n pairs)) (line pair)
    ∙ ap (λ z. start ++ z) (gathered_next line pairs n pair (flat_map line (take n pairs)) (omega (arith, turn.0, turn.1, length-zip names numbers)) at refl)
    ∙ ap (λ z. start ++ flat_map line (take z pairs)) (sym longer)

pub returns : goal.returns
returns c =
    let names = c.args.names.now in
    let numbers = c.args.numbers.now in
    let end = zip_end names numbers c.loop-name.yielded _ c.loop-name.name-iterator c.next.new.self c.next.result (search rules) (search rules) c.loop-name.yielded_by c.in-None.is c.next.ensures.steps in
    record { ok = c.loop-name.invariant ∙ ap (λ z. c.args.out.now ++ flat_map (named_bus_line c.args.variant.now c.args.structure.now) z) (take_all (length c.loop-name.yielded) (zip names numbers) (omega (arith, end, length-zip names numbers))); err = tt }
