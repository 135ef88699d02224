-- Lines behind the levels and the earlier lines, by what is kept.
use Rattle.std.proofs.Common.{◌≡◌, refl, sym, ap, ◌∙◌, ℕ, List, [], ◌∷◌, ◌++◌, append_assoc, subst, Result, Ok}
use Rattle.std.specs.Prelude.{⊤}
use Rattle.std.proofs.lemmas.Grind.{flat_map-append}
use Rattle.std.proofs.lemmas.List.{map-append}
use Rattle.grid_ids.specs.Name.{has_id}
use Rattle.grid_json.specs.declared.fault.ReadError.{ReadError}
use Rattle.grid_json.specs.declared.fault.ReadError.TheVariants as errors
use Rattle.grid_json.specs.Reading.{Fails, Gives}
use Rattle.grid_json.specs.declared.buses.BusEnd.{BusEnd}
use Rattle.grid_configured.specs.declared.network.ConfiguredLevel.{ConfiguredLevel}
use Rattle.grid_configured.specs.declared.network.ConfiguredLine.{ConfiguredLine}
use Rattle.grid_configured.specs.declared.standing.Standing.{Standing}
use Rattle.grid_configured.specs.Checks.{end_check, id_reasons, ids_of, line_check, line_ends, line_ids}
use Rattle.grid_json.specs.Seen.{Knows}
use Rattle.grid_configured.specs.Standing.{Stands}
use Rattle.grid_json.proofs.IdSets.{knows-append}

-- ---- one line more

ids_next : (levels : List ConfiguredLevel) (earlier : List ConfiguredLine) (line : ConfiguredLine) → ids_of levels ++ line_ids (earlier ++ line ∷ []) ≡ (ids_of levels ++ line_ids earlier) ++ line.id ∷ []
ids_next levels earlier line = ap (λ z. ids_of levels ++ z) (map-append (λ (l : ConfiguredLine). l.id) earlier (line ∷ [])) ∙ sym (append_assoc (ids_of levels) (line_ids earlier) (line.id ∷ []))

one_then_one : (ends : List BusEnd) (first second : BusEnd) → ends ++ first ∷ second ∷ [] ≡ (ends ++ first ∷ []) ++ second ∷ []
one_then_one ends first second = sym (append_assoc ends (first ∷ []) (second ∷ []))

ends_next : (earlier : List ConfiguredLine) (line : ConfiguredLine) → line_ends (earlier ++ line ∷ []) ≡ (line_ends earlier ++ line.end1 ∷ []) ++ line.end2 ∷ []
ends_next earlier line = flat_map-append (λ (l : ConfiguredLine). l.end1 ∷ l.end2 ∷ []) earlier (line ∷ []) ∙ one_then_one (line_ends earlier) line.end1 line.end2

module _ (levels : List ConfiguredLevel) (earlier : List ConfiguredLine) (line : ConfiguredLine) where
  pub line_stands : (new : Standing) → Stands ((ids_of levels ++ line_ids earlier) ++ line.id ∷ []) levels ((line_ends earlier ++ line.end1 ∷ []) ++ line.end2 ∷ []) new
      → Stands (ids_of levels ++ line_ids (earlier ++ line ∷ [])) levels (line_ends (earlier ++ line ∷ [])) new
  line_stands new stands =
      subst (λ z. Stands z levels (line_ends (earlier ++ line ∷ [])) new) (sym (ids_next levels earlier line)) (subst (λ z. Stands ((ids_of levels ++ line_ids earlier) ++ line.id ∷ []) levels z new) (sym (ends_next earlier line)) stands)

  module _ (old : Standing) (stands : Stands (ids_of levels ++ line_ids earlier) levels (line_ends earlier) old) where
    pub id_stands : (seen : List (List ℕ)) → Knows seen (old.ids ++ line.id ∷ []) → Stands ((ids_of levels ++ line_ids earlier) ++ line.id ∷ []) levels (line_ends earlier) (record old { ids = seen })
    id_stands seen known = record {
      known = λ q. known q ∙ knows-append old.ids (ids_of levels ++ line_ids earlier) (line.id ∷ []) stands.known q;
      found = stands.found;
      ended = stands.ended;
      counted = stands.counted;
    }

    id_as : id_reasons (has_id (ids_of levels ++ line_ids earlier) line.id) ≡ id_reasons (has_id old.ids line.id)
    id_as = ap id_reasons (sym (stands.known line.id))

    pub id_wrong : (e : ReadError) → Fails e (id_reasons (has_id old.ids line.id)) → Fails e (line_check levels earlier line)
    unfolding line_check
    id_wrong errors.Memory h = tt
    id_wrong (errors.Fault f) h = rw (id_as ∙ h) refl

    module _ (right : id_reasons (has_id old.ids line.id) ≡ Ok tt) where
      pub first_wrong : (e : ReadError) → Fails e (end_check levels (line_ends earlier) line.end1) → Fails e (line_check levels earlier line)
      unfolding line_check
      first_wrong errors.Memory h = tt
      first_wrong (errors.Fault f) h = rw (id_as ∙ right, h) refl

      pub line_gives : (r : Result ⊤ ReadError) → end_check levels (line_ends earlier) line.end1 ≡ Ok tt → Gives r (end_check levels (line_ends earlier ++ line.end1 ∷ []) line.end2) → Gives r (line_check levels earlier line)
      unfolding line_check
      line_gives r first h =
          let same : line_check levels earlier line ≡ end_check levels (line_ends earlier ++ line.end1 ∷ []) line.end2 = rw (id_as ∙ right, first) refl in
          subst (Gives r) (sym same) h
