-- Ids that a network has of what its node/breaker form adds.
use Rattle.std.proofs.Common.{◌≡◌, refl, sym, ap, ◌∙◌, subst, ℕ, suc, ◌+◌, ◌<◌, ◌≤◌, Bool, true, false, cond, not, ◌&&◌, List, [], ◌++◌, length, Result, Ok, Err, append_assoc, arith}
use Rattle.std.specs.Prelude.{ℤ, pos, eqb, nat_lt, Option, Some, None, IsSome, IfSome, map, find, slice_get, slice_index_or, codes, ⊤, IsTrue, IsOk, IfOk, OnOk, option_map}
use Rattle.std.specs.List.{list_any, list_all}
use Rattle.std.specs.Fmt.{digits}
use Rattle.std.specs.Option.{option_or}
use Rattle.std.proofs.lemmas.Bool.{false≢true, and_parts, leb-true, le-ltb, ne_eqb}
use Rattle.std.proofs.lemmas.List.{length-append, take_all}
use Rattle.std.proofs.lemmas.List.Folds.{find-append}
use Rattle.grid_lemmas.proofs.Lists.{all_at, get_there}
use Rattle.grid_ids.specs.Fault.{id_fault, is_control}
use Rattle.grid_ids.specs.Name.{same_id}
use Rattle.std.proofs.lemmas.Slice.Eq.{bytes_eq-Decides}
use Rattle.grid_level.specs.VoltageLevel.{VoltageLevel}
use Rattle.grid_level.specs.Passing.{nodes}
use Rattle.grid_structure.specs.declared.End.{End}
use Rattle.grid_structure.specs.declared.Branch.TheVariants.{Line}
use Rattle.grid_ids.specs.declared.id.IdFault.TheVariants.{Empty, TooLong, Control}
use Rattle.grid_kinds.specs.declared.SwitchKind.TheVariants.{Breaker}
use Rattle.grid_structure.specs.declared.Edit.TheVariants as edits
use Rattle.grid_structure.specs.declared.EditFault.{EditFault}
use Rattle.grid_structure.specs.declared.ApplyFault.{ApplyFault}
use Rattle.grid_structure.specs.Network.{Network}
use Rattle.grid_structure.specs.Editing.{apply}
use Rattle.grid_structure.proofs.SoundSubstations.{with_bare}
use Rattle.grid_structure.proofs.ListOfLevels.{level_at}
use Rattle.grid_paths.proofs.Least.{some_same, some_none}
use Rattle.grid_json.specs.declared.buses.BusInjection.{BusInjection}
use Rattle.grid_configured.specs.declared.network.ConfiguredLine.{ConfiguredLine}
use Rattle.grid_configured.specs.declared.network.ConfiguredLevel.{ConfiguredLevel}
use Rattle.grid_configured.specs.declared.network.ConfiguredNetwork.{ConfiguredNetwork}
use Rattle.grid_configured.specs.Names.{is_plain, item_plain, line_plain, level_plain, network_plain}
use Rattle.grid_configured.specs.Checks.{IsTranslatable}
use Rattle.grid_configured.specs.Levels.{bus_place}
use Rattle.grid_placed.specs.Translation.{breaker_id}
use Rattle.grid_configured.specs.Translation.{substation_id, substation_of, translated_line, translated}
use Rattle.grid_structure.specs.Sites as sites
use Rattle.grid_json.specs.declared.buses.BusSwitch.{BusSwitch}

-- a plain id with a tag is an id
no_control : (id : List ℕ) → id_fault id ≡ None → find is_control id ≡ None
no_control id h = by (eqb (length id) 0) (nat_lt 128 (length id)) (find is_control id) h
  where
    by : (t u : Bool) (o : Option ℕ) → cond t (Some Empty) (cond u (Some (TooLong (length id))) (option_map (λ byte. Control byte) o)) ≡ None → o ≡ None
    by true u o e = absurd (some_none Empty (sym e))
    by false true o e = absurd (some_none (TooLong (length id)) (sym e))
    by false false None e = refl
    by false false (Some c) e = absurd (some_none (Control c) (sym e))

pub tagged_is_id : (id tag text : List ℕ) → text ≡ id ++ codes "!" ++ tag → is_plain id ≡ true → id_fault id ≡ None → length tag ≤ 1 → find is_control tag ≡ None → id_fault text ≡ None
unfolding is_plain
tagged_is_id id tag text is plain valid short clean =
    let few : length id ≤ 100 = leb-true (length id) 100 (and_parts (not (list_any (λ b. eqb b 33) id)) _ plain).1 in
    let a = length-append (id ++ codes "!") tag in
    let b = length-append id (codes "!") in
    let c : length (codes "!") ≡ 1 = refl in
    let d = ap length is in
    let some : eqb (length text) 0 ≡ false = ne_eqb (length text) 0 (λ e. absurd (omega (arith, a, b, c, d, e))) in
    let fits : nat_lt 128 (length text) ≡ false = le-ltb 128 (length text) (omega (arith, a, b, c, d, few, short)) in
    let none : find is_control text ≡ None =
    ap (find is_control) is
    ∙ find-append is_control (id ++ codes "!") tag
    ∙ ap (λ z. option_or z (find is_control tag)) (find-append is_control id (codes "!") ∙ ap (λ z. option_or z (find is_control (codes "!"))) (no_control id valid))
    ∙ clean in
    rw (some, fits, none) refl

pub named_as : {E : Type 0} (r : Result (List ℕ) E) (x y : List ℕ) → IfOk r (λ id. id ≡ x) → x ≡ y → IfOk r (λ id. id ≡ y)
named_as (Ok id) x y h e = h ∙ e
named_as (Err f) x y h e = tt
