use Rattle.std.proofs.Common.{◌≡◌, ◌++◌, ℕ, List, true, false, sym, ap, ◌∙◌, Bor}
use Rattle.std.specs.Prelude.{is_some}
use Rattle.std.specs.List.{list_any}
use Rattle.std.specs.Str.{bytes_eq}
use Rattle.std.proofs.lemmas.List.Folds.{list_any-append}
use Rattle.grid_lemmas.proofs.Bools.{neither, or_left, or_right}
use Rattle.grid_structure.proofs.Found.{some_position}
use Rattle.grid_json.proofs.read.place_of.Goals as goal

pub returns-in-Some : goal.returns-in-Some
returns-in-Some c =
    let is_name = λ (known : Bor (List ℕ)). bytes_eq known.now c.args.name.now in
    let names = c.args.names.now in
    let found : list_any is_name names ≡ true = sym (ap is_some c.first_place.ensures ∙ some_position is_name names) ∙ ap is_some c.in-Some.is in
    sym (list_any-append is_name names c.args.of_kind.now ∙ or_left _ _ found)

pub returns-in-Some-first_place : goal.returns-in-Some-first_place
returns-in-Some-first_place c =
    let is_name = λ (known : Bor (List ℕ)). bytes_eq known.now c.args.name.now in
    let of_kind = c.args.of_kind.now in
    let found : list_any is_name of_kind ≡ true = sym (ap is_some c.first_place-2.ensures ∙ some_position is_name of_kind) ∙ ap is_some c.in-Some-first_place.is in
    sym (list_any-append is_name c.args.names.now of_kind ∙ or_right _ _ found)

pub returns-in-None : goal.returns-in-None
returns-in-None c =
    let is_name = λ (known : Bor (List ℕ)). bytes_eq known.now c.args.name.now in
    let names = c.args.names.now in
    let of_kind = c.args.of_kind.now in
    let none : list_any is_name names ≡ false = sym (ap is_some c.first_place.ensures ∙ some_position is_name names) ∙ ap is_some c.in_default.is in
    let nor : list_any is_name of_kind ≡ false = sym (ap is_some c.first_place-2.ensures ∙ some_position is_name of_kind) ∙ ap is_some c.in-None.is in
    sym (list_any-append is_name names of_kind ∙ neither _ _ none nor)
