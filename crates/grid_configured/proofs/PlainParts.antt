-- The ids of the parts of a plain network are plain.
use Rattle.std.proofs.Common.{◌≡◌, refl, sym, ap, ◌∙◌, subst, ℕ, suc, ◌+◌, ◌<◌, ◌≤◌, Bool, true, false, cond, not, ◌&&◌, List, [], ◌++◌, length, Result, Ok, Err, append_assoc, arith}
use Rattle.std.specs.Prelude.{ℤ, pos, eqb, nat_lt, Option, Some, None, IsSome, IfSome, map, find, slice_get, slice_index_or, codes, ⊤, IsTrue, IsOk, IfOk, OnOk, option_map}
use Rattle.std.specs.List.{list_any, list_all}
use Rattle.std.specs.Fmt.{digits}
use Rattle.std.specs.Option.{option_or}
use Rattle.std.proofs.lemmas.Bool.{false≢true, and_parts, leb-true, le-ltb, ne_eqb}
use Rattle.std.proofs.lemmas.List.{length-append, take_all}
use Rattle.std.proofs.lemmas.List.Folds.{find-append}
use Rattle.grid_lemmas.proofs.Lists.{all_at, get_there}
use Rattle.grid_ids.specs.Fault.{id_fault, is_control}
use Rattle.grid_ids.specs.Name.{same_id}
use Rattle.std.proofs.lemmas.Slice.Eq.{bytes_eq-Decides}
use Rattle.grid_level.specs.VoltageLevel.{VoltageLevel}
use Rattle.grid_level.specs.Passing.{nodes}
use Rattle.grid_structure.specs.declared.End.{End}
use Rattle.grid_structure.specs.declared.Branch.TheVariants.{Line}
use Rattle.grid_ids.specs.declared.id.IdFault.TheVariants.{Empty, TooLong, Control}
use Rattle.grid_kinds.specs.declared.SwitchKind.TheVariants.{Breaker}
use Rattle.grid_structure.specs.declared.Edit.TheVariants as edits
use Rattle.grid_structure.specs.declared.EditFault.{EditFault}
use Rattle.grid_structure.specs.declared.ApplyFault.{ApplyFault}
use Rattle.grid_structure.specs.Network.{Network}
use Rattle.grid_structure.specs.Editing.{apply}
use Rattle.grid_structure.proofs.SoundSubstations.{with_bare}
use Rattle.grid_structure.proofs.ListOfLevels.{level_at}
use Rattle.grid_paths.proofs.Least.{some_same, some_none}
use Rattle.grid_json.specs.declared.buses.BusInjection.{BusInjection}
use Rattle.grid_configured.specs.declared.network.ConfiguredLine.{ConfiguredLine}
use Rattle.grid_configured.specs.declared.network.ConfiguredLevel.{ConfiguredLevel}
use Rattle.grid_configured.specs.declared.network.ConfiguredNetwork.{ConfiguredNetwork}
use Rattle.grid_configured.specs.Names.{is_plain, item_plain, line_plain, level_plain, network_plain}
use Rattle.grid_configured.specs.Checks.{IsTranslatable}
use Rattle.grid_configured.specs.Levels.{bus_place}
use Rattle.grid_placed.specs.Translation.{breaker_id}
use Rattle.grid_configured.specs.Translation.{substation_id, substation_of, translated_line, translated}
use Rattle.grid_structure.specs.Sites as sites
use Rattle.grid_json.specs.declared.buses.BusSwitch.{BusSwitch}

pub got : {X : Type 0} (xs ys : List X) (k : ℕ) (x : X) → ys ≡ xs → k < length ys → x ≡ slice_index_or ys k x → slice_get xs k ≡ Some x
got xs ys k x same less is = ap (λ z. slice_get z k) (sym same) ∙ get_there ys k x less is

pub inside : {X : Type 0} (xs ys : List X) (k : ℕ) → ys ≡ xs → k < length xs → k < length ys
inside xs ys k same less = let e = ap length same in omega (arith, e, less)

pub some_if : {X : Type 0} (o : Option X) (x : X) (P : X → Type 0) → o ≡ Some x → P x → IfSome o P
some_if None x P e p = absurd (some_none x e)
some_if (Some y) x P e p = subst P (sym (some_same y x e)) p

pub level_is_plain : (n : ConfiguredNetwork) (k : ℕ) (l : ConfiguredLevel) → IsTranslatable n → slice_get n.levels k ≡ Some l → level_plain l ≡ true
unfolding network_plain
level_is_plain n k l h at =
    let one = and_parts (is_plain n.id && list_all level_plain n.levels) (list_all line_plain n.lines) h.0 in
    all_at level_plain n.levels k l (and_parts (is_plain n.id) (list_all level_plain n.levels) one.0).1 at

pub own_is_plain : (l : ConfiguredLevel) → level_plain l ≡ true → is_plain l.id ≡ true
unfolding level_plain
own_is_plain l h = (and_parts (is_plain l.id) _ (and_parts (is_plain l.id && _) _ (and_parts (is_plain l.id && _ && _) _ h).0).0).0

pub item_is_plain : (l : ConfiguredLevel) (k : ℕ) (t : BusInjection) → level_plain l ≡ true → slice_get l.items k ≡ Some t → is_plain t.id ≡ true
unfolding level_plain item_plain
item_is_plain l k t h at = (and_parts (is_plain t.id) (is_plain t.bus) (all_at item_plain l.items k t (and_parts _ (list_all item_plain l.items) h).1 at)).0

pub line_is_plain : (n : ConfiguredNetwork) (k : ℕ) (line : ConfiguredLine) → IsTranslatable n → slice_get n.lines k ≡ Some line → is_plain line.id ≡ true
unfolding network_plain line_plain
line_is_plain n k line h at = (and_parts (is_plain line.id) _ (and_parts (is_plain line.id && _) _ (all_at line_plain n.lines k line (and_parts _ (list_all line_plain n.lines) h.0).1 at)).0).0
