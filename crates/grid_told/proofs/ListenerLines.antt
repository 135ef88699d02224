-- The lines of variants and of events tell the views, and what each listener heard.
use Rattle.std.proofs.Common.{◌≡◌, ℕ, suc, ◌≤◌, ◌==◌, Bool, true, false, not, List, [], ◌∷◌, ◌++◌, map, filter, length, refl, sym, ap, ap₂, ◌∙◌, arith, append-nil, eq-eqb}
use Rattle.std.specs.Prelude.{⊤, codes, if◌then◌else◌}
use Rattle.std.specs.Str.{bytes_eq}
use Rattle.std.specs.List.{AllByRecursion, flat_map}
use Rattle.std.proofs.lemmas.Bool.{ne_eqb}
use Rattle.std.proofs.lemmas.List.{map-append}
use Rattle.serde_json.specs.Data.{Data}
use Rattle.grid_busview.specs.declared.BusView.{BusView}
use Rattle.grid_events.specs.declared.event.Event.{Event}
use Rattle.grid_events.specs.declared.event.Event.TheVariants as events
use Rattle.grid_events.specs.declared.filter.Filter.{Filter}
use Rattle.grid_events.specs.Filters.{matches}
use Rattle.grid_report.specs.declared.outcome.VariantView.{VariantView}
use Rattle.grid_print.proofs.Each.{each_of}
use Rattle.grid_jsonl.specs.Trees.{ordered}
use Rattle.grid_jsonl.specs.Steps.{Step}
use Rattle.grid_jsonl.specs.Outcomes.{variant_object, level_object, variant_objects, event_fields, event_object, heard_objects, listener_objects, listeners_from}
use Rattle.grid_told.specs.Held.{IsBusView}
use Rattle.grid_told.specs.Outcomes.{IsVariantView}
use Rattle.grid_told.specs.Told.{heard_at, heard_by}
use Rattle.grid_told.proofs.Fields.{text_of, flag_of, natural_of, list_of, at}
use Rattle.grid_told.proofs.Each.{each_append, each_map, each_flat, all_of}
use Rattle.grid_told.proofs.Parts.{view_bus_in}
use Rattle.grid_told.proofs.Replies.{view_buses_back}
use Rattle.grid_told.proofs.ObjectFilters.{Passing, front, back}
use Rattle.grid_told.proofs.ObjectKinds.{kind_of}

-- ---- variants

unfoldable pub level_in : Data → BusView
level_in d = record { level = text_of (at (codes "level") d); buses = map (view_bus_in (text_of (at (codes "level") d))) (list_of (at (codes "buses") d)) }

level_back : (name : List ℕ) (v : BusView) → IsBusView v → level_in (level_object name v) ≡ v
unfolding level_in level_object ordered
level_back name v h = ap (λ b. record { level = v.level; buses = b }) (view_buses_back v h)

unfoldable pub name_in : Data → List ℕ
name_in d = text_of (at (codes "variant") d)

name_back : (name : List ℕ) → name_in (variant_object name) ≡ name
unfolding name_in variant_object ordered
name_back name = refl

unfoldable pub begins : Data → Bool
begins d = bytes_eq (kind_of d) (codes "variant")

variant_begins : (name : List ℕ) → begins (variant_object name) ≡ true
unfolding begins variant_object ordered
variant_begins name = refl

level_goes_on : (name : List ℕ) (v : BusView) → begins (level_object name v) ≡ false
unfolding begins level_object ordered
level_goes_on name v = refl

-- the levels before the first variant, and the variants
abbrev Cut : Type 0
Cut = List BusView × List VariantView

abbrev cut_by : Bool → Data → Cut → Cut
cut_by true d rest = ([], record { name = name_in d; views = rest.0 } ∷ rest.1)
cut_by false d rest = (level_in d ∷ rest.0, rest.1)

abbrev pub cut : List Data → Cut
cut [] = ([], [])
cut (d ∷ ds) = cut_by (begins d) d (cut ds)

levels_cut : (name : List ℕ) (vs : List BusView) (rest : List Data) → AllByRecursion IsBusView vs → cut (map (level_object name) vs ++ rest) ≡ (vs ++ (cut rest).0, (cut rest).1)
levels_cut name [] rest h = refl
levels_cut name (v ∷ vs) rest h =
    ap (λ b. cut_by b (level_object name v) (cut (map (level_object name) vs ++ rest))) (level_goes_on name v)
    ∙ ap₂ (λ x (c : Cut). (x ∷ c.0, c.1)) (level_back name v h.0) (levels_cut name vs rest h.1)

pub variants_cut : (views : List VariantView) → AllByRecursion IsVariantView views → cut (flat_map variant_objects views) ≡ ([], views)
unfolding variant_objects
variants_cut [] h = refl
variants_cut (v ∷ views) h =
    let rest = flat_map variant_objects views in
    let levels = map (level_object v.name) v.views ++ rest in
    ap (λ b. cut_by b (variant_object v.name) (cut levels)) (variant_begins v.name)
    ∙ ap (λ (c : Cut). cut_by true (variant_object v.name) c) (levels_cut v.name v.views rest (each_of IsBusView v.views h.0.views) ∙ ap (λ (c : Cut). (v.views ++ c.0, c.1)) (variants_cut views h.1))
    ∙ ap₂ (λ (n : List ℕ) (l : List BusView). ([], record { name = n; views = l } ∷ views)) (name_back v.name) (append-nil v.views)

-- ---- events

unfoldable pub event_by : List ℕ → Data → Event
event_by word d =
    if bytes_eq word (codes "created") then events.Created (text_of (at (codes "id") d))
    else if bytes_eq word (codes "removed") then events.Removed (text_of (at (codes "id") d))
    else if bytes_eq word (codes "updated") then events.Updated (text_of (at (codes "variant") d)) (text_of (at (codes "switch") d)) (flag_of (at (codes "open") d))
    else if bytes_eq word (codes "variant_created") then events.VariantCreated (text_of (at (codes "from") d)) (text_of (at (codes "to") d))
    else if bytes_eq word (codes "variant_overwritten") then events.VariantOverwritten (text_of (at (codes "from") d)) (text_of (at (codes "to") d))
    else events.VariantRemoved (text_of (at (codes "variant") d))

says_created : (d : Data) → event_by (codes "created") d ≡ events.Created (text_of (at (codes "id") d))
unfolding event_by
says_created d = refl

says_removed : (d : Data) → event_by (codes "removed") d ≡ events.Removed (text_of (at (codes "id") d))
unfolding event_by
says_removed d = refl

says_updated : (d : Data) → event_by (codes "updated") d ≡ events.Updated (text_of (at (codes "variant") d)) (text_of (at (codes "switch") d)) (flag_of (at (codes "open") d))
unfolding event_by
says_updated d = refl

says_made : (d : Data) → event_by (codes "variant_created") d ≡ events.VariantCreated (text_of (at (codes "from") d)) (text_of (at (codes "to") d))
unfolding event_by
says_made d = refl

says_overwritten : (d : Data) → event_by (codes "variant_overwritten") d ≡ events.VariantOverwritten (text_of (at (codes "from") d)) (text_of (at (codes "to") d))
unfolding event_by
says_overwritten d = refl

says_gone : (d : Data) → event_by (codes "variant_removed") d ≡ events.VariantRemoved (text_of (at (codes "variant") d))
unfolding event_by
says_gone d = refl

event_back : (listener : ℕ) (s : Step) (e : Event) → event_by (text_of (at (codes "event") (event_object listener s e))) (event_object listener s e) ≡ e
unfolding event_object event_fields ordered
event_back listener s (events.Created id) = says_created (event_object listener s (events.Created id))
event_back listener s (events.Removed id) = says_removed (event_object listener s (events.Removed id))
event_back listener s (events.Updated variant switch opened) = says_updated (event_object listener s (events.Updated variant switch opened))
event_back listener s (events.VariantCreated from to) = says_made (event_object listener s (events.VariantCreated from to))
event_back listener s (events.VariantOverwritten from to) = says_overwritten (event_object listener s (events.VariantOverwritten from to))
event_back listener s (events.VariantRemoved name) = says_gone (event_object listener s (events.VariantRemoved name))

abbrev place_in : Data → ℕ
place_in d = natural_of (at (codes "place") d)

place_back : (listener : ℕ) (s : Step) (e : Event) → place_in (event_object listener s e) ≡ s.place
unfolding event_object ordered
place_back listener s e = refl

abbrev listener_in : Data → ℕ
listener_in d = natural_of (at (codes "listener") d)

listener_back : (listener : ℕ) (s : Step) (e : Event) → listener_in (event_object listener s e) ≡ listener
unfolding event_object ordered
listener_back listener s e = refl

unfoldable pub heard_in : Data → ℕ × Event
heard_in d = (natural_of (at (codes "place") d), event_by (text_of (at (codes "event") d)) d)

heard_back : (listener : ℕ) (s : Step) (e : Event) → heard_in (event_object listener s e) ≡ (s.place, e)
unfolding heard_in
heard_back listener s e = ap₂ (λ (n : ℕ) (x : Event). (n, x)) (place_back listener s e) (event_back listener s e)

each_heard : (listener : ℕ) (s : Step) (es : List Event) → map heard_in (map (event_object listener s) es) ≡ map (λ e. (s.place, e)) es
each_heard listener s [] = refl
each_heard listener s (e ∷ es) = ap₂ (λ x xs. x ∷ xs) (heard_back listener s e) (each_heard listener s es)

listener_heard : (all : List Step) (listener : ℕ) (wanted : Filter) → map heard_in (listener_objects all listener wanted) ≡ heard_by all wanted
unfolding listener_objects heard_objects heard_by heard_at
listener_heard [] listener wanted = refl
listener_heard (s ∷ all) listener wanted =
    map-append heard_in (heard_objects listener wanted s) (listener_objects all listener wanted)
    ∙ ap₂ (λ a b. a ++ b) (each_heard listener s (filter (matches wanted) s.entry.events)) (listener_heard all listener wanted)

-- ---- listeners by their numbers

module _ (test : ℕ → Bool) (b : Bool) where
  one_passes : (all : List Step) (listener : ℕ) (wanted : Filter) → test listener ≡ b → Passing (λ d. test (listener_in d)) b (listener_objects all listener wanted)
  unfolding listener_objects heard_objects
  one_passes all listener wanted h =
      each_flat (λ s. ⊤) (λ d. test (listener_in d) ≡ b) (heard_objects listener wanted)
      (λ s k. each_map (λ e. ⊤) (λ d. test (listener_in d) ≡ b) (event_object listener s) (λ e k. ap test (listener_back listener s e) ∙ h) (filter (matches wanted) s.entry.events) (all_of (λ e. ⊤) (λ e. tt) (filter (matches wanted) s.entry.events)))
      all (all_of (λ s. ⊤) (λ s. tt) all)

  later_pass : (all : List Step) (listener : ℕ) (filters : List Filter) → ((n : ℕ) → listener ≤ n → test n ≡ b) → Passing (λ d. test (listener_in d)) b (listeners_from all listener filters)
  unfolding listeners_from
  later_pass all listener [] h = tt
  later_pass all listener (wanted ∷ rest) h =
      each_append (λ d. test (listener_in d) ≡ b) (listener_objects all listener wanted) (listeners_from all (suc listener) rest)
      (one_passes all listener wanted (h listener (omega arith))) (later_pass all (suc listener) rest (λ n le. h n (omega (arith, le))))

abbrev is_first : ℕ → ℕ → Bool
is_first listener n = n == listener

abbrev is_later : ℕ → ℕ → Bool
is_later listener n = not (n == listener)

first_is : (n : ℕ) → is_first n n ≡ true
first_is n = eq-eqb n n refl

later_none : (listener n : ℕ) → suc listener ≤ n → is_first listener n ≡ false
later_none listener n le = ne_eqb n listener (λ e. omega (arith, le, e))

-- equal lines of equally many listeners tell the same
pub heard_alike : (all also : List Step) (listener : ℕ) (filters others : List Filter) → length filters ≡ length others → listeners_from all listener filters ≡ listeners_from also listener others
    → map (heard_by all) filters ≡ map (heard_by also) others
unfolding listeners_from
heard_alike all also listener [] [] long same = refl
heard_alike all also listener [] (g ∷ others) long same = absurd (omega (arith, long))
heard_alike all also listener (f ∷ filters) [] long same = absurd (omega (arith, long))
heard_alike all also listener (f ∷ filters) (g ∷ others) long same =
    let mine : Data → Bool = λ d. is_first listener (listener_in d) in
    let rest : Data → Bool = λ d. is_later listener (listener_in d) in
    let one = listener_objects all listener f in
    let two = listener_objects also listener g in
    let one_rest = listeners_from all (suc listener) filters in
    let two_rest = listeners_from also (suc listener) others in
    let firsts : one ≡ two =
    sym (front mine one one_rest (one_passes (is_first listener) true all listener f (first_is listener)) (later_pass (is_first listener) false all (suc listener) filters (later_none listener)))
    ∙ ap (filter mine) same
    ∙ front mine two two_rest (one_passes (is_first listener) true also listener g (first_is listener)) (later_pass (is_first listener) false also (suc listener) others (later_none listener)) in
    let seconds : one_rest ≡ two_rest =
    sym (back rest one one_rest (one_passes (is_later listener) false all listener f (ap not (first_is listener))) (later_pass (is_later listener) true all (suc listener) filters (λ n le. ap not (later_none listener n le))))
    ∙ ap (filter rest) same
    ∙ back rest two two_rest (one_passes (is_later listener) false also listener g (ap not (first_is listener))) (later_pass (is_later listener) true also (suc listener) others (λ n le. ap not (later_none listener n le))) in
    ap₂ (λ x xs. x ∷ xs) (sym (listener_heard all listener f) ∙ ap (map heard_in) firsts ∙ listener_heard also listener g)
    (heard_alike all also (suc listener) filters others (omega (arith, long)) seconds)
