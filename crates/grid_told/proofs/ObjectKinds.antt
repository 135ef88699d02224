-- The objects of an outcome by their kinds.
use Rattle.std.proofs.Common.{◌≡◌, ℕ, suc, Bool, true, false, ◌||◌, List, [], ◌∷◌, ◌++◌, filter, refl, sym, ap, ap₂, ◌∙◌, append-nil}
use Rattle.std.specs.Prelude.{⊤, codes}
use Rattle.std.specs.Str.{bytes_eq}
use Rattle.std.specs.List.{flat_map, range_with_len}
use Rattle.std.proofs.lemmas.List.Elements.{filter-append}
use Rattle.serde_json.specs.Data.{Data, null}
use Rattle.grid_busview.specs.declared.BusView.{BusView}
use Rattle.grid_events.specs.declared.event.Event.{Event}
use Rattle.grid_events.specs.declared.filter.Filter.{Filter}
use Rattle.grid_events.specs.Filters.{matches}
use Rattle.grid_report.specs.declared.outcome.Outcome.{Outcome}
use Rattle.grid_jsonl.specs.Trees.{ordered}
use Rattle.grid_jsonl.specs.Steps.{Step, steps}
use Rattle.grid_jsonl.specs.Outcomes.{order_object, command_object, steps_by, worker_objects, variant_object, level_object, variant_objects, event_object, heard_objects, listener_objects, listeners_from, end_of, end_object, objects}
use Rattle.grid_told.proofs.Fields.{text_of, at}
use Rattle.grid_told.proofs.Each.{each_append, each_map, each_flat, all_of}
use Rattle.grid_told.proofs.ObjectFilters.{Passing, kept, left_out}

abbrev pub kind_of : Data → List ℕ
kind_of d = text_of (at (codes "kind") d)

-- the parts of the list
abbrev pub commands_of : Outcome → List Data
commands_of o = flat_map (worker_objects (steps o.journal)) (range_with_len 0 o.workers)

abbrev pub variants_of : Outcome → List Data
variants_of o = flat_map variant_objects o.views

abbrev pub heard_of : Outcome → List Data
heard_of o = listeners_from (steps o.journal) 0 o.filters

-- ---- kinds

command_kind : (s : Step) → kind_of (command_object s) ≡ codes "command"
unfolding command_object ordered
command_kind s = refl

variant_kind : (name : List ℕ) → kind_of (variant_object name) ≡ codes "variant"
unfolding variant_object ordered
variant_kind name = refl

level_kind : (name : List ℕ) (v : BusView) → kind_of (level_object name v) ≡ codes "level"
unfolding level_object ordered
level_kind name v = refl

event_kind : (listener : ℕ) (s : Step) (event : Event) → kind_of (event_object listener s event) ≡ codes "event"
unfolding event_object ordered
event_kind listener s event = refl

end_kind : (o : Outcome) → kind_of (end_object o) ≡ codes "end"
unfolding end_of ordered
end_kind o = refl

module _ (test : List ℕ → Bool) (b : Bool) where
  abbrev passes : Data → Bool
  passes d = test (kind_of d)

  commands_pass : (o : Outcome) → test (codes "command") ≡ b → Passing passes b (commands_of o)
  unfolding worker_objects
  commands_pass o h =
      each_flat (λ worker. ⊤) (λ d. passes d ≡ b) (worker_objects (steps o.journal))
      (λ worker k. each_map (λ s. ⊤) (λ d. passes d ≡ b) command_object (λ s k. ap test (command_kind s) ∙ h) (steps_by worker (steps o.journal)) (all_of (λ s. ⊤) (λ s. tt) (steps_by worker (steps o.journal))))
      (range_with_len 0 o.workers) (all_of (λ worker. ⊤) (λ worker. tt) (range_with_len 0 o.workers))

  variants_pass : (o : Outcome) → test (codes "variant") ≡ b → test (codes "level") ≡ b → Passing passes b (variants_of o)
  unfolding variant_objects
  variants_pass o h k =
      each_flat (λ v. ⊤) (λ d. passes d ≡ b) variant_objects
      (λ v l. (ap test (variant_kind v.name) ∙ h, each_map (λ x. ⊤) (λ d. passes d ≡ b) (level_object v.name) (λ x l. ap test (level_kind v.name x) ∙ k) v.views (all_of (λ x. ⊤) (λ x. tt) v.views)))
      o.views (all_of (λ v. ⊤) (λ v. tt) o.views)

  listeners_pass : (all : List Step) (listener : ℕ) (filters : List Filter) → test (codes "event") ≡ b → Passing passes b (listeners_from all listener filters)
  unfolding listeners_from listener_objects heard_objects
  listeners_pass all listener [] h = tt
  listeners_pass all listener (wanted ∷ rest) h =
      each_append (λ d. passes d ≡ b) (listener_objects all listener wanted) (listeners_from all (suc listener) rest)
      (each_flat (λ s. ⊤) (λ d. passes d ≡ b) (heard_objects listener wanted)
      (λ s k. each_map (λ e. ⊤) (λ d. passes d ≡ b) (event_object listener s) (λ e k. ap test (event_kind listener s e) ∙ h) (filter (matches wanted) s.entry.events) (all_of (λ e. ⊤) (λ e. tt) (filter (matches wanted) s.entry.events)))
      all (all_of (λ s. ⊤) (λ s. tt) all))
      (listeners_pass all (suc listener) rest h)

-- ---- the parts by their kinds

parts : (test : Data → Bool) (commands variants heard : List Data) (last : Data) → filter test (commands ++ variants ++ heard ++ last ∷ []) ≡ filter test commands ++ filter test variants ++ filter test heard ++ filter test (last ∷ [])
parts test commands variants heard last =
    filter-append test (commands ++ variants ++ heard) (last ∷ [])
    ∙ ap (λ l. l ++ filter test (last ∷ [])) (filter-append test (commands ++ variants) heard ∙ ap (λ l. l ++ filter test heard) (filter-append test commands variants))

four : {A : Type 0} (a b c d p q r s : List A) → a ≡ p → b ≡ q → c ≡ r → d ≡ s → a ++ b ++ c ++ d ≡ p ++ q ++ r ++ s
four a b c d p q r s e f g h = ap₂ (λ x y. x ++ y) (ap₂ (λ x y. x ++ y) (ap₂ (λ x y. x ++ y) e f) g) h

abbrev is_command : List ℕ → Bool
is_command kind = bytes_eq kind (codes "command")

abbrev is_view : List ℕ → Bool
is_view kind = bytes_eq kind (codes "variant") || bytes_eq kind (codes "level")

abbrev is_heard : List ℕ → Bool
is_heard kind = bytes_eq kind (codes "event")

abbrev is_end : List ℕ → Bool
is_end kind = bytes_eq kind (codes "end")

-- the objects behind the first one
abbrev pub behind_order : Outcome → List Data
behind_order o = commands_of o ++ variants_of o ++ heard_of o ++ end_object o ∷ []

last_passes : (test : List ℕ → Bool) (b : Bool) (o : Outcome) → test (codes "end") ≡ b → Passing (λ d. test (kind_of d)) b (end_object o ∷ [])
last_passes test b o h = (ap test (end_kind o) ∙ h, tt)

commands_picked : (o : Outcome) → filter (λ d. is_command (kind_of d)) (behind_order o) ≡ commands_of o
commands_picked o =
    let test : Data → Bool = λ d. is_command (kind_of d) in
    parts test (commands_of o) (variants_of o) (heard_of o) (end_object o)
    ∙ four (filter test (commands_of o)) (filter test (variants_of o)) (filter test (heard_of o)) (filter test (end_object o ∷ [])) (commands_of o) [] [] []
    (kept test (commands_of o) (commands_pass is_command true o refl)) (left_out test (variants_of o) (variants_pass is_command false o refl refl))
    (left_out test (heard_of o) (listeners_pass is_command false (steps o.journal) 0 o.filters refl)) (left_out test (end_object o ∷ []) (last_passes is_command false o refl))
    ∙ append-nil (commands_of o ++ [] ++ []) ∙ append-nil (commands_of o ++ []) ∙ append-nil (commands_of o)

variants_picked : (o : Outcome) → filter (λ d. is_view (kind_of d)) (behind_order o) ≡ variants_of o
variants_picked o =
    let test : Data → Bool = λ d. is_view (kind_of d) in
    parts test (commands_of o) (variants_of o) (heard_of o) (end_object o)
    ∙ four (filter test (commands_of o)) (filter test (variants_of o)) (filter test (heard_of o)) (filter test (end_object o ∷ [])) [] (variants_of o) [] []
    (left_out test (commands_of o) (commands_pass is_view false o refl)) (kept test (variants_of o) (variants_pass is_view true o refl refl))
    (left_out test (heard_of o) (listeners_pass is_view false (steps o.journal) 0 o.filters refl)) (left_out test (end_object o ∷ []) (last_passes is_view false o refl))
    ∙ append-nil (variants_of o ++ []) ∙ append-nil (variants_of o)

heard_picked : (o : Outcome) → filter (λ d. is_heard (kind_of d)) (behind_order o) ≡ heard_of o
heard_picked o =
    let test : Data → Bool = λ d. is_heard (kind_of d) in
    parts test (commands_of o) (variants_of o) (heard_of o) (end_object o)
    ∙ four (filter test (commands_of o)) (filter test (variants_of o)) (filter test (heard_of o)) (filter test (end_object o ∷ [])) [] [] (heard_of o) []
    (left_out test (commands_of o) (commands_pass is_heard false o refl)) (left_out test (variants_of o) (variants_pass is_heard false o refl refl))
    (kept test (heard_of o) (listeners_pass is_heard true (steps o.journal) 0 o.filters refl)) (left_out test (end_object o ∷ []) (last_passes is_heard false o refl))
    ∙ append-nil (heard_of o)

end_picked : (o : Outcome) → filter (λ d. is_end (kind_of d)) (behind_order o) ≡ end_object o ∷ []
end_picked o =
    let test : Data → Bool = λ d. is_end (kind_of d) in
    parts test (commands_of o) (variants_of o) (heard_of o) (end_object o)
    ∙ four (filter test (commands_of o)) (filter test (variants_of o)) (filter test (heard_of o)) (filter test (end_object o ∷ [])) [] [] [] (end_object o ∷ [])
    (left_out test (commands_of o) (commands_pass is_end false o refl)) (left_out test (variants_of o) (variants_pass is_end false o refl refl))
    (left_out test (heard_of o) (listeners_pass is_end false (steps o.journal) 0 o.filters refl)) (kept test (end_object o ∷ []) (last_passes is_end true o refl))

-- ---- equal lists have equal parts

abbrev pub first_of : List Data → Data
first_of [] = null
first_of (d ∷ ds) = d

abbrev pub others_of : List Data → List Data
others_of [] = []
others_of (d ∷ ds) = ds

pub record SameParts (o p : Outcome) : Type 0 where
  pub order : order_object o.journal ≡ order_object p.journal
  pub commands : commands_of o ≡ commands_of p
  pub variants : variants_of o ≡ variants_of p
  pub heard : heard_of o ≡ heard_of p
  pub last : end_object o ≡ end_object p

pub same_parts : (o p : Outcome) → objects o ≡ objects p → SameParts o p
unfolding objects
same_parts o p e =
    let rest : behind_order o ≡ behind_order p = ap others_of e in record {
      order = ap first_of e;
      commands = sym (commands_picked o) ∙ ap (filter (λ d. is_command (kind_of d))) rest ∙ commands_picked p;
      variants = sym (variants_picked o) ∙ ap (filter (λ d. is_view (kind_of d))) rest ∙ variants_picked p;
      heard = sym (heard_picked o) ∙ ap (filter (λ d. is_heard (kind_of d))) rest ∙ heard_picked p;
      last = ap first_of (sym (end_picked o) ∙ ap (filter (λ d. is_end (kind_of d))) rest ∙ end_picked p);
    }
