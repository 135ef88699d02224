-- The lines of `hvdc`.
use Rattle.std.proofs.Common.{◌≡◌, ℕ, true, List, [], ◌∷◌, ◌++◌, map, cond, length, All, refl, sym, ap, ap₂, ◌∙◌, subst}
use Rattle.std.specs.Prelude.{sum_by}
use Rattle.std.specs.List.{flat_map, list_any}
use Rattle.std.proofs.lemmas.Slice.Eq.{bytes_eq-Decides}
use Rattle.serde_json.specs.Data.{Data}
use Rattle.grid_lemmas.proofs.Bools.{or_left, or_right}
use Rattle.grid_ids.specs.Name.{same_id, has_id}
use Rattle.grid_core.specs.History.{History, live, is_live}
use Rattle.grid_core.specs.Replies.{state_of}
use Rattle.grid_core.specs.Journals.{journal_of}
use Rattle.grid_hvdc.specs.declared.HvdcLine.{HvdcLine}
use Rattle.grid_print.proofs.Each.{each_of, of_each}
use Rattle.grid_jsonl.specs.Steps.{state_value}
use Rattle.grid_jsonl.specs.Outcomes.{lines}
use Rattle.grid_cli.specs.Hvdc.{state_objects, named_objects, named_count, end_object, numbers_objects}
use Rattle.grid_told.specs.Held.{IsUnsigned}
use Rattle.grid_told.specs.Shapes.{IsReadable, IsReadBack}
use Rattle.grid_told.proofs.Each.{each_append}
use Rattle.grid_told.proofs.ReadBack.{all_read}
use Rattle.grid_told.proofs.Readable.{word_readable, natural_readable, ordered_readable}
use Rattle.grid_told_forms.specs.Rows.{row_objects}
use Rattle.grid_told_forms.proofs.Rows.{buses_are_rows, numbers_are_read_back, numbers_are_told}
use Rattle.grid_told_outputs.specs.Hvdc.{variant_of, variants_of, IsHeld}
use Rattle.grid_told_outputs.specs.Laws.{HvdcIsReadBack, HvdcIsTold}
use Rattle.grid_told_outputs.proofs.Steps.{state_readable, state_told}

-- ---- the variants

named_here : (history : History) (hvdc_lines : List HvdcLine) (name : List ℕ) → is_live history.steps name ≡ true → named_objects history hvdc_lines name ≡ row_objects (variant_of history hvdc_lines name)
unfolding named_objects state_objects variant_of
named_here history hvdc_lines name h =
    let state = state_of history.origin history.steps name in
    ap (λ b. cond b (state_objects hvdc_lines name state) []) h ∙ buses_are_rows name state.structure state.opened state.retained hvdc_lines

-- of names that are all live
all_named : (history : History) (hvdc_lines : List HvdcLine) (names : List (List ℕ)) → ((q : List ℕ) → has_id names q ≡ true → is_live history.steps q ≡ true)
    → flat_map (named_objects history hvdc_lines) names ≡ flat_map row_objects (map (variant_of history hvdc_lines) names)
unfolding has_id
all_named history hvdc_lines [] h = refl
all_named history hvdc_lines (name ∷ names) h =
    ap₂ (λ xs ys. xs ++ ys) (named_here history hvdc_lines name (h name (or_left (same_id name name) (list_any (same_id name) names) ((bytes_eq-Decides name name).1 refl))))
    (all_named history hvdc_lines names (λ q there. h q (or_right (same_id q name) (list_any (same_id q) names) there)))

live_named : (history : History) (hvdc_lines : List HvdcLine) → flat_map (named_objects history hvdc_lines) (live history.steps) ≡ flat_map row_objects (variants_of history hvdc_lines)
unfolding variants_of is_live
live_named history hvdc_lines = all_named history hvdc_lines (live history.steps) (λ q h. h)

-- ---- the whole list

end_readable : (variants buses : ℕ) → IsUnsigned variants → IsUnsigned buses → IsReadable 6 (end_object variants buses)
unfolding end_object
end_readable variants buses few less = ordered_readable 5 _ refl (word_readable 5 _ refl, (natural_readable 5 variants few, (natural_readable 5 buses less, tt)))

abbrev last_object : History → Data
last_object history = end_object (length (live history.steps)) (sum_by (named_count history) (live history.steps))

last_readable : (history : History) (hvdc_lines : List HvdcLine) → IsHeld history hvdc_lines → IsReadable 6 (last_object history)
last_readable history hvdc_lines h = end_readable (length (live history.steps)) (sum_by (named_count history) (live history.steps)) h.variant_count h.bus_count

objects_are : (history : History) (hvdc_lines : List HvdcLine)
    → numbers_objects history hvdc_lines ≡ state_value (journal_of history.origin history.steps) ∷ (flat_map row_objects (variants_of history hvdc_lines) ++ last_object history ∷ [])
unfolding numbers_objects
objects_are history hvdc_lines = ap (λ ds. state_value (journal_of history.origin history.steps) ∷ (ds ++ last_object history ∷ [])) (live_named history hvdc_lines)

pub hvdc_is_read_back : HvdcIsReadBack
hvdc_is_read_back history hvdc_lines h =
    let first = state_value (journal_of history.origin history.steps) in
    let rows = flat_map row_objects (variants_of history hvdc_lines) in
    let read = each_of IsReadBack rows (numbers_are_read_back (variants_of history hvdc_lines) h.variants) in
    let outer = all_read (first ∷ last_object history ∷ []) (state_readable (journal_of history.origin history.steps) h.journal, (last_readable history hvdc_lines h, tt)) in
    subst (All IsReadBack) (sym (objects_are history hvdc_lines)) (of_each IsReadBack (first ∷ (rows ++ last_object history ∷ [])) (outer.0, each_append IsReadBack rows (last_object history ∷ []) read outer.1))

pub hvdc_is_told : HvdcIsTold
hvdc_is_told history other hvdc_lines also h k e =
    let journal = journal_of history.origin history.steps in
    let second = journal_of other.origin other.steps in
    let same = numbers_are_told (state_value journal) (state_value second) (last_object history) (last_object other) (variants_of history hvdc_lines) (variants_of other also)
    (state_readable journal h.journal).wholes (state_readable second k.journal).wholes (last_readable history hvdc_lines h).wholes (last_readable other also k).wholes h.variants k.variants
    (sym (ap lines (objects_are history hvdc_lines)) ∙ e ∙ ap lines (objects_are other also)) in
    record { steps = state_told journal second h.journal k.journal same.0; variants = same.1.0 }
