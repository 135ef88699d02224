-- Levels behind the earlier ones, by what is kept.
use Rattle.std.proofs.Common.{◌≡◌, refl, sym, ap, ◌∙◌, ℕ, ◌+◌, Bool, true, false, cond, List, [], ◌∷◌, ◌++◌, length, append_assoc, subst, arith, Option, Some, None, Ok}
use Rattle.std.specs.BTreeMap.{BTreeMap}
use Rattle.std.specs.Str.{bytes_eq}
use Rattle.std.specs.Option.{option_or}
use Rattle.std.proofs.lemmas.Grind.{flat_map-append}
use Rattle.std.proofs.lemmas.List.{append-nil}
use Rattle.std.proofs.lemmas.List.Folds.{find-append}
use Rattle.std.proofs.lemmas.List.Sums.{sum_by-append}
use Rattle.std.proofs.lemmas.Slice.Eq.{bytes_eq-Decides}
use Rattle.grid_lemmas.proofs.Bools.{not_either}
use Rattle.grid_ids.specs.Name.{has_id, same_id}
use Rattle.grid_ids.proofs.Alike.{has_join}
use Rattle.grid_kinds.specs.Records.{level_fault}
use Rattle.grid_json.specs.declared.fault.ReadError.{ReadError}
use Rattle.grid_json.specs.declared.fault.ReadError.TheVariants as errors
use Rattle.grid_json.specs.Reading.{Fails}
use Rattle.grid_configured.specs.declared.network.ConfiguredLevel.{ConfiguredLevel}
use Rattle.grid_configured.specs.declared.standing.Standing.{Standing}
use Rattle.grid_configured.specs.declared.standing.Tally.{Tally}
use Rattle.grid_configured.specs.Checks.{ends_in, ids_of, level_check, level_edges, level_ids, level_of, level_reasons, part_ids, parts_check, switch_total}
use Rattle.grid_json.specs.Seen.{Knows}
use Rattle.grid_configured.specs.Standing.{IsTally, Stands, count_at, tally_at, tally_of}
use Rattle.grid_configured.proofs.Ends.{after_none}
use Rattle.grid_configured.proofs.LevelParts.{parts_alike}
use Rattle.grid_json.proofs.IdSets.{knows-append, same_flip}
use Rattle.grid_configured.proofs.Tables.{no_count, no_tally}

-- ---- nothing stands

pub nothing_stands : (seen : List (List ℕ)) (levels : BTreeMap (List ℕ) Tally) (ends : BTreeMap (List ℕ) ℕ) → seen ≡ [] → levels.entries ≡ [] → ends.entries ≡ []
    → Stands [] [] [] (record { ids = seen; levels = levels; ends = ends; switches = 0 })
unfolding level_of ends_in
nothing_stands seen levels ends no_ids no_levels no_ends = record {
  known = λ q. ap (λ z. has_id z q) no_ids;
  found = λ q. subst (IsTally None) (sym (no_tally levels q no_levels)) tt;
  ended = λ q. no_count ends q no_ends;
  counted = refl;
}

-- ---- a level that is not there

apart_from : (id : List ℕ) (more : List (List ℕ)) (q : List ℕ) → has_id (id ∷ more) q ≡ false → same_id q id ≡ false
unfolding has_id
apart_from id more q e = (not_either (same_id q id) (has_id more q) e).0

pub no_level_of : (levels : List ConfiguredLevel) (q : List ℕ) → has_id (ids_of levels) q ≡ false → level_of levels q ≡ None
unfolding level_of level_ids
no_level_of [] q e = refl
no_level_of (l ∷ levels) q e =
    let parts = not_either (has_id (level_ids l) q) (has_id (ids_of levels) q) (sym (has_join (level_ids l) (ids_of levels) q) ∙ e) in
    rw (apart_from l.id (part_ids l) q parts.0) (no_level_of levels q parts.1)

-- ---- one level more

pub ids_next : (earlier : List ConfiguredLevel) (l : ConfiguredLevel) → ids_of (earlier ++ l ∷ []) ≡ (ids_of earlier ++ l.id ∷ []) ++ part_ids l
unfolding level_ids
ids_next earlier l =
    flat_map-append level_ids earlier (l ∷ []) ∙ ap (λ z. ids_of earlier ++ z) (append-nil (l.id ∷ part_ids l)) ∙ sym (append_assoc (ids_of earlier) (l.id ∷ []) (part_ids l))

total_next : (earlier : List ConfiguredLevel) (l : ConfiguredLevel) → switch_total (earlier ++ l ∷ []) ≡ switch_total earlier + level_edges l
total_next earlier l = sum_by-append level_edges earlier (l ∷ []) ∙ after_none (switch_total earlier) (level_edges l)

level_next : (earlier : List ConfiguredLevel) (l : ConfiguredLevel) (q : List ℕ) → level_of (earlier ++ l ∷ []) q ≡ option_or (level_of earlier q) (cond (same_id q l.id) (Some l) None)
unfolding level_of
level_next earlier l q = find-append (λ (x : ConfiguredLevel). same_id q x.id) earlier (l ∷ [])

as_before : (level : Option ConfiguredLevel) (tally : Option Tally) → IsTally level tally → IsTally (option_or level None) tally
as_before None tally is = is
as_before (Some l) tally is = is

tally_next : (earlier : List ConfiguredLevel) (l : ConfiguredLevel) (own : List (List ℕ)) (before : Option Tally) (q : List ℕ) (same : Bool) → bytes_eq l.id q ≡ same → Knows own l.buses → level_of earlier l.id ≡ None → IsTally (level_of earlier q) before
    → IsTally (option_or (level_of earlier q) (cond same (Some l) None)) (cond same (Some (tally_of own l)) before)
tally_next earlier l own before q true is known new stood =
    let equal : l.id ≡ q = (bytes_eq-Decides l.id q).0 is in
    let none : level_of earlier q ≡ None = ap (level_of earlier) (sym equal) ∙ new in
    subst (λ z. IsTally (option_or z (Some l)) (Some (tally_of own l))) (sym none) (known, refl, refl)
tally_next earlier l own before q false is known new stood = as_before (level_of earlier q) before stood

module _ (earlier : List ConfiguredLevel) (old : Standing) (l : ConfiguredLevel) (stands : Stands (ids_of earlier) earlier [] old) where
  -- the level itself
  itself_as : (place : ℕ) → length earlier ≡ place → level_reasons (has_id (ids_of earlier) l.id) (length earlier) (level_fault l.nominal_v None None) ≡ level_reasons (has_id old.ids l.id) place (level_fault l.nominal_v None None)
  itself_as place at =
      ap (λ t. level_reasons t (length earlier) (level_fault l.nominal_v None None)) (sym (stands.known l.id)) ∙ ap (λ n. level_reasons (has_id old.ids l.id) n (level_fault l.nominal_v None None)) at

  all_switches : old.switches ≡ switch_total earlier
  all_switches = omega (arith, stands.counted)

  pub level_wrong : (place : ℕ) (e : ReadError) → length earlier ≡ place → Fails e (level_reasons (has_id old.ids l.id) place (level_fault l.nominal_v None None)) → Fails e (level_check earlier l)
  unfolding level_check
  level_wrong place errors.Memory at h = tt
  level_wrong place (errors.Fault f) at h = rw (itself_as place at ∙ h) refl

  module _ (seen : List (List ℕ)) (known : Knows seen (old.ids ++ l.id ∷ [])) where
    knows_id : Knows seen (ids_of earlier ++ l.id ∷ [])
    knows_id q = known q ∙ knows-append old.ids (ids_of earlier) (l.id ∷ []) stands.known q

    pub level_as : (place : ℕ) → length earlier ≡ place → level_reasons (has_id old.ids l.id) place (level_fault l.nominal_v None None) ≡ Ok tt → level_check earlier l ≡ parts_check seen old.switches l
    unfolding level_check
    level_as place at right =
        let same : parts_check (ids_of earlier ++ l.id ∷ []) (switch_total earlier) l ≡ parts_check seen old.switches l =
        sym (parts_alike seen (ids_of earlier ++ l.id ∷ []) old.switches l knows_id ∙ ap (λ n. parts_check (ids_of earlier ++ l.id ∷ []) n l) all_switches) in
        rw (itself_as place at ∙ right) same

    pub level_fails : (e : ReadError) (place : ℕ) → length earlier ≡ place → level_reasons (has_id old.ids l.id) place (level_fault l.nominal_v None None) ≡ Ok tt → Fails e (parts_check seen old.switches l) → Fails e (level_check earlier l)
    level_fails e place at right h = subst (Fails e) (sym (level_as place at right)) h

    pub level_stands : (own more : List (List ℕ)) (new : Standing) → has_id old.ids l.id ≡ false → Knows more (seen ++ part_ids l) → Knows own l.buses
        → ((q : List ℕ) → tally_at new.levels q ≡ cond (bytes_eq l.id q) (Some (tally_of own l)) (tally_at old.levels q)) → new.switches ≡ old.switches + level_edges l → new.ids ≡ more → new.ends ≡ old.ends
        → Stands (ids_of (earlier ++ l ∷ [])) (earlier ++ l ∷ []) [] new
    level_stands own more new free parts buses put switches same_ids same_ends =
        let unused : level_of earlier l.id ≡ None = no_level_of earlier l.id (sym (stands.known l.id) ∙ free) in
        record {
          known = λ q. ap (λ z. has_id z q) same_ids ∙ parts q ∙ knows-append seen (ids_of earlier ++ l.id ∷ []) (part_ids l) knows_id q ∙ ap (λ z. has_id z q) (sym (ids_next earlier l));
          found = λ q.
              let one = tally_next earlier l own (tally_at old.levels q) q (bytes_eq l.id q) refl buses unused (stands.found q) in
              let level : option_or (level_of earlier q) (cond (bytes_eq l.id q) (Some l) None) ≡ level_of (earlier ++ l ∷ []) q = ap (λ t. option_or (level_of earlier q) (cond t (Some l) None)) (same_flip l.id q) ∙ sym (level_next earlier l q) in
              subst (λ z. IsTally z (tally_at new.levels q)) level (subst (IsTally (option_or (level_of earlier q) (cond (bytes_eq l.id q) (Some l) None))) (sym (put q)) one);
          ended = λ q. ap (λ z. count_at z q) same_ends ∙ stands.ended q;
          counted = omega (arith, switches, stands.counted, total_next earlier l);
        }
