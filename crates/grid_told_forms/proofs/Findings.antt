-- The lines of contingencies.
use Rattle.std.proofs.Common.{◌≡◌, ℕ, ℤ, List, [], ◌∷◌, Option, Some, None, map, refl, sym, ap, ap₂, ◌∙◌}
use Rattle.std.specs.Prelude.{IsUtf8, codes}
use Rattle.std.specs.Option.{option_map}
use Rattle.std.specs.List.{AllByRecursion}
use Rattle.serde_json.specs.Data.{Data, string}
use Rattle.serde_json.specs.Find.{get}
use Rattle.grid_structure.specs.declared.SwitchAt.{SwitchAt}
use Rattle.grid_structure.specs.Network.{Network}
use Rattle.grid_json.specs.declared.format.Format.{Format}
use Rattle.grid_json.specs.declared.format.Format.TheVariants as formats
use Rattle.grid_figures.specs.declared.Figures.{Figures}
use Rattle.grid_screen.specs.declared.Losses.{Losses}
use Rattle.grid_screen.specs.declared.Finding.{Finding}
use Rattle.grid_screen.specs.declared.Finding.TheVariants as findings
use Rattle.grid_screen.specs.Lines.{effect_fields, unconnected_fields, finding_fields, contingency_object}
use Rattle.grid_print.proofs.Each.{each_of, of_each}
use Rattle.grid_jsonl.specs.Trees.{ordered}
use Rattle.grid_told.specs.Held.{IsUnsigned}
use Rattle.grid_told.specs.Shapes.{IsReadable, IsReadBack}
use Rattle.grid_told.proofs.Lines.{wholes_of}
use Rattle.grid_told.proofs.ReadBack.{all_read}
use Rattle.grid_told.proofs.Fields.{text_of, natural_of, list_of, at, items_back}
use Rattle.grid_told.proofs.Readable.{word_readable, text_readable, natural_readable, array_readable, ordered_readable}
use Rattle.grid_told.proofs.Sums.{sum_readable, sum_of, sum_back}
use Rattle.grid_told_forms.specs.Findings.{Found, Unknown, NoBreaker, Lost, More, Screened, Told, found_of, ids_of, told_of, IsEffect, IsFinding, IsScreened, object_of, found_objects}
use Rattle.grid_told_forms.specs.Laws.{FindingsAreReadBack, FindingsAreTold}
use Rattle.grid_told_forms.proofs.Between.{same_between}

-- ---- readable

module _ (net : Network) (place : ℕ) (name : List ℕ) (small : IsUnsigned place) (text : IsUtf8 name) where
  unknown_readable : (format : Format) (id : List ℕ) → IsUtf8 id → IsReadable 6 (contingency_object format net place name (findings.UnknownId id))
  unfolding contingency_object finding_fields
  unknown_readable format id h = ordered_readable 5 _ refl (word_readable 5 _ refl, (natural_readable 5 place small, (text_readable 5 name text, (text_readable 5 id h, tt))))

  no_breaker_readable : (format : Format) (id : List ℕ) → IsUtf8 id → IsReadable 6 (contingency_object format net place name (findings.NoBreaker id))
  unfolding contingency_object finding_fields
  no_breaker_readable format id h = ordered_readable 5 _ refl (word_readable 5 _ refl, (natural_readable 5 place small, (text_readable 5 name text, (text_readable 5 id h, tt))))

  first_readable : (after : Figures) (losses : Losses) (tripped : Option (List SwitchAt)) → IsEffect net after losses tripped
      → IsReadable 6 (contingency_object formats.One net place name (findings.Effect after losses tripped))
  unfolding contingency_object finding_fields effect_fields
  first_readable after losses tripped h = ordered_readable 5 _ refl (
    word_readable 5 _ refl,
    (
      natural_readable 5 place small,
      (
        text_readable 5 name text,
        (
          natural_readable 5 after.buses h.buses,
          (natural_readable 5 after.components h.components, (natural_readable 5 after.main h.main, (sum_readable 5 losses.load h.load, (sum_readable 5 losses.generation h.generation, tt)))),
        ),
      ),
    ),
  )

  second_readable : (after : Figures) (losses : Losses) (tripped : Option (List SwitchAt)) → IsEffect net after losses tripped
      → IsReadable 6 (contingency_object formats.Two net place name (findings.Effect after losses tripped))
  unfolding contingency_object finding_fields effect_fields unconnected_fields
  second_readable after losses None h = ordered_readable 5 _ refl (
    word_readable 5 _ refl,
    (
      natural_readable 5 place small,
      (
        text_readable 5 name text,
        (
          natural_readable 5 after.buses h.buses,
          (
            natural_readable 5 after.components h.components,
            (
              natural_readable 5 after.main h.main,
              (
                sum_readable 5 losses.load h.load,
                (
                  sum_readable 5 losses.generation h.generation,
                  (sum_readable 5 losses.unconnected_load h.unconnected_load, (sum_readable 5 losses.unconnected_generation h.unconnected_generation, tt)),
                ),
              ),
            ),
          ),
        ),
      ),
    ),
  )
  second_readable after losses (Some breakers) h = ordered_readable 5 _ refl (
    word_readable 5 _ refl,
    (
      natural_readable 5 place small,
      (
        text_readable 5 name text,
        (
          natural_readable 5 after.buses h.buses,
          (
            natural_readable 5 after.components h.components,
            (
              natural_readable 5 after.main h.main,
              (
                sum_readable 5 losses.load h.load,
                (
                  sum_readable 5 losses.generation h.generation,
                  (
                    sum_readable 5 losses.unconnected_load h.unconnected_load,
                    (
                      sum_readable 5 losses.unconnected_generation h.unconnected_generation,
                      (array_readable IsUtf8 4 string (text_readable 4) (ids_of net breakers) (each_of IsUtf8 (ids_of net breakers) h.tripped), tt),
                    ),
                  ),
                ),
              ),
            ),
          ),
        ),
      ),
    ),
  )

  effect_readable : (format : Format) (after : Figures) (losses : Losses) (tripped : Option (List SwitchAt)) → IsEffect net after losses tripped
      → IsReadable 6 (contingency_object format net place name (findings.Effect after losses tripped))
  unfolding contingency_object finding_fields
  effect_readable formats.One after losses tripped h = first_readable after losses tripped h
  effect_readable other after losses tripped h = second_readable after losses tripped h

  readable : (format : Format) (finding : Finding) → IsFinding net finding → IsReadable 6 (contingency_object format net place name finding)
  readable format (findings.UnknownId id) h = unknown_readable format id h
  readable format (findings.NoBreaker id) h = no_breaker_readable format id h
  readable format (findings.Effect after losses tripped) h = effect_readable format after losses tripped h

pub all_readable : (format : Format) (net : Network) (screened : List Screened) → AllByRecursion (IsScreened net) screened → AllByRecursion (IsReadable 6) (found_objects format net screened)
unfolding found_objects object_of
all_readable format net [] h = tt
all_readable format net (s ∷ screened) h = (readable net s.place s.name h.0.place h.0.name format s.finding h.0.finding, all_readable format net screened h.1)

pub findings_are_read_back : FindingsAreReadBack
findings_are_read_back format net screened h =
    of_each IsReadBack (found_objects format net screened) (all_read (found_objects format net screened) (all_readable format net screened (each_of (IsScreened net) screened h)))

-- ---- told

unfoldable pub more_by : Option Data → Data → Option More
more_by (Some load) d = Some (record { load = sum_of load; generation = sum_of (at (codes "unconnected_generation") d); tripped = option_map (λ t. map text_of (list_of t)) (get (codes "tripped") d) })
more_by None d = None

unfoldable pub lost_in : Data → Found
lost_in d =
    Lost (natural_of (at (codes "buses") d)) (natural_of (at (codes "components") d)) (natural_of (at (codes "main") d)) (sum_of (at (codes "lost_load") d)) (sum_of (at (codes "lost_generation") d))
    (more_by (get (codes "unconnected_load") d) d)

unfoldable pub breaker_by : Option Data → Data → Found
breaker_by (Some id) d = NoBreaker (text_of id)
breaker_by None d = lost_in d

unfoldable pub found_by : Option Data → Data → Found
found_by (Some id) d = Unknown (text_of id)
found_by None d = breaker_by (get (codes "no_breaker") d) d

unfoldable pub found_in : Data → Found
found_in d = found_by (get (codes "unknown") d) d

same_lost : (buses components main : ℕ) (a b c d : ℤ) (m n : Option More) → a ≡ b → c ≡ d → m ≡ n → Lost buses components main a c m ≡ Lost buses components main b d n
same_lost buses components main a b c d m n e f g = ap₂ (λ x y. Lost buses components main x y m) e f ∙ ap (Lost buses components main b d) g

same_more : (a b c d : ℤ) (t u : Option (List (List ℕ))) → a ≡ b → c ≡ d → t ≡ u
    → ◌≡◌ {A = Option More} (Some (record { load = a; generation = c; tripped = t })) (Some (record { load = b; generation = d; tripped = u }))
same_more a b c d t u e f g = ap₂ (λ (x y : ℤ). Some (record { load = x; generation = y; tripped = t })) e f ∙ ap (λ (z : Option (List (List ℕ))). Some (record { load = b; generation = d; tripped = z })) g

module _ (net : Network) (place : ℕ) (name : List ℕ) where
  first_back : (after : Figures) (losses : Losses) (tripped : Option (List SwitchAt)) → IsEffect net after losses tripped
      → found_in (contingency_object formats.One net place name (findings.Effect after losses tripped)) ≡ found_of formats.One net (findings.Effect after losses tripped)
  unfolding contingency_object finding_fields effect_fields ordered found_in found_by breaker_by lost_in more_by found_of
  first_back after losses tripped h = same_lost after.buses after.components after.main _ _ _ _ None None (sum_back losses.load h.load) (sum_back losses.generation h.generation) refl

  second_back : (after : Figures) (losses : Losses) (tripped : Option (List SwitchAt)) → IsEffect net after losses tripped
      → found_in (contingency_object formats.Two net place name (findings.Effect after losses tripped)) ≡ found_of formats.Two net (findings.Effect after losses tripped)
  unfolding contingency_object finding_fields effect_fields unconnected_fields ordered found_in found_by breaker_by lost_in more_by found_of
  second_back after losses None h =
      same_lost after.buses after.components after.main _ _ _ _ _ _ (sum_back losses.load h.load) (sum_back losses.generation h.generation)
      (same_more _ _ _ _ None None (sum_back losses.unconnected_load h.unconnected_load) (sum_back losses.unconnected_generation h.unconnected_generation) refl)
  second_back after losses (Some breakers) h =
      same_lost after.buses after.components after.main _ _ _ _ _ _ (sum_back losses.load h.load) (sum_back losses.generation h.generation)
      (same_more _ _ _ _ _ _ (sum_back losses.unconnected_load h.unconnected_load) (sum_back losses.unconnected_generation h.unconnected_generation)
      (ap (λ (ids : List (List ℕ)). Some ids) (items_back IsUtf8 string text_of (λ x u. refl) (ids_of net breakers) (each_of IsUtf8 (ids_of net breakers) h.tripped))))

  back : (format : Format) (finding : Finding) → IsFinding net finding → found_in (contingency_object format net place name finding) ≡ found_of format net finding
  unfolding contingency_object finding_fields ordered found_in found_by breaker_by found_of
  back format (findings.UnknownId id) h = refl
  back format (findings.NoBreaker id) h = refl
  back formats.One (findings.Effect after losses tripped) h = first_back after losses tripped h
  back formats.Two (findings.Effect after losses tripped) h = second_back after losses tripped h
  back formats.Three (findings.Effect after losses tripped) h = second_back after losses tripped h
  back formats.Four (findings.Effect after losses tripped) h = second_back after losses tripped h
  back formats.Five (findings.Effect after losses tripped) h = second_back after losses tripped h

  place_back : (format : Format) (finding : Finding) → natural_of (at (codes "place") (contingency_object format net place name finding)) ≡ place
  unfolding contingency_object ordered
  place_back format finding = refl

  name_back : (format : Format) (finding : Finding) → text_of (at (codes "name") (contingency_object format net place name finding)) ≡ name
  unfolding contingency_object ordered
  name_back format finding = refl

unfoldable pub told_in : Data → Told
told_in d = record { place = natural_of (at (codes "place") d); name = text_of (at (codes "name") d); found = found_in d }

same_told : (a b : ℕ) (n m : List ℕ) (f g : Found) → a ≡ b → n ≡ m → f ≡ g → ◌≡◌ {A = Told} (record { place = a; name = n; found = f }) (record { place = b; name = m; found = g })
same_told a b n m f g i j k = ap₂ (λ (x : ℕ) (y : List ℕ). record { place = x; name = y; found = f }) i j ∙ ap (λ (z : Found). record { place = b; name = m; found = z }) k

pub all_back : (format : Format) (net : Network) (screened : List Screened) → AllByRecursion (IsScreened net) screened → map told_in (found_objects format net screened) ≡ map (told_of format net) screened
unfolding found_objects object_of told_in told_of
all_back format net [] h = refl
all_back format net (s ∷ screened) h =
    ap₂ (λ (x : Told) (xs : List Told). x ∷ xs)
    (same_told _ _ _ _ _ _ (place_back net s.place s.name format s.finding) (name_back net s.place s.name format s.finding) (back net s.place s.name format s.finding h.0.finding))
    (all_back format net screened h.1)

pub findings_are_told : FindingsAreTold
findings_are_told format later net other first also last end screened others a b c d h k e =
    let found = each_of (IsScreened net) screened h in
    let beside = each_of (IsScreened other) others k in
    let same = same_between first also last end (found_objects format net screened) (found_objects later other others) a b c d
    (wholes_of (found_objects format net screened) (all_readable format net screened found)) (wholes_of (found_objects later other others) (all_readable later other others beside)) e in
    (same.first_is, (sym (all_back format net screened found) ∙ ap (map told_in) same.between ∙ all_back later other others beside, same.last_is))
