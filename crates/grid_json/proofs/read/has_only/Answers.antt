use Rattle.std.proofs.Common.{◌≡◌, ◌++◌, true, false, sym, ap, ◌∙◌}
use Rattle.std.specs.Prelude.{is_some}
use Rattle.grid_value.specs.View.{listed}
use Rattle.grid_json.specs.Reading.{knows, texts}
use Rattle.grid_json.proofs.Objects.{knows_is, are_known, has_only_is, last_known, last_unknown}
use Rattle.grid_json.proofs.read.has_only.Goals as goal

pub loop-name-init : goal.loop-name-init
loop-name-init c = has_only_is (texts (c.args.names.now ++ c.args.of_kind.now)) (listed c.args.members.now)

pub returns-in-None : goal.returns-in-None
returns-in-None c =
    let names = texts (c.args.names.now ++ c.args.of_kind.now) in
    let name = c.in-Some.name.now in
    let none : knows names name ≡ false = sym (knows_is (c.args.names.now ++ c.args.of_kind.now) name) ∙ sym c.place_of.ensures ∙ ap is_some c.in-None.is in
    sym (c.loop-name.invariant ∙ ap (are_known names) c.in-Some.ensures ∙ last_unknown names (listed c.next_back.new.self) name _ none)

pub loop-name-preserved : goal.loop-name-preserved
loop-name-preserved c =
    let names = texts (c.args.names.now ++ c.args.of_kind.now) in
    let name = c.in-Some.name.now in
    let known : knows names name ≡ true = sym (knows_is (c.args.names.now ++ c.args.of_kind.now) name) ∙ sym c.place_of.ensures ∙ ap is_some c.in-Some-place_of.is in
    c.loop-name.invariant ∙ ap (are_known names) c.in-Some.ensures ∙ last_known names (listed c.next_back.new.self) name _ known

pub returns : goal.returns
returns c = sym (c.loop-name.invariant ∙ ap (are_known (texts (c.args.names.now ++ c.args.of_kind.now))) c.in_default.ensures)
