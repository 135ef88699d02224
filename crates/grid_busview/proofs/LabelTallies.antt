-- What stands under each label, one terminal more.
use Rattle.std.proofs.Common.{◌≡◌, refl, sym, ap, ◌∙◌, subst, ℕ, ◌+◌, ◌<◌, ◌≤◌, Bool, true, false, cond, List, [], ◌∷◌, ◌++◌, length, get_or, set, arith, inl, inr, Some, get_or-set_same, get_or-set_other}
use Rattle.std.specs.Prelude.{eqb, filter, count_by, slice_get}
use Rattle.std.specs.List.{filter_map}
use Rattle.std.proofs.lemmas.Bool.{cases_eq, eq-eqb, ne_eqb}
use Rattle.std.proofs.lemmas.List.{append-nil}
use Rattle.std.proofs.lemmas.List.Elements.{filter_map-append}
use Rattle.std.proofs.lemmas.List.Sums.{count_by-le-length, length-filter}
use Rattle.grid_graph.specs.Components.{places}
use Rattle.grid_graph.proofs.Counts.{count_all}
use Rattle.grid_level.specs.declared.Placed.{Placed}
use Rattle.grid_groups.specs.Labels.{items_at}
use Rattle.grid_groups.proofs.Steps.{places_passed}
use Rattle.grid_busview.specs.declared.counts.Count.{Count}
use Rattle.grid_busview.specs.Labelled.{counted, count_of, nothing}
use Rattle.grid_busview.proofs.KindCounts.{count_of_push, length_items}

-- the keys of the first terminals
abbrev pub keyed : List ℕ → ℕ → ℕ → List ℕ
keyed keys label i = filter (λ k. eqb (get_or keys k 0) label) (places i)

items_passed : (placed : List Placed) (keys : List ℕ) (label i : ℕ) (p : Placed) (t : Bool) → slice_get placed i ≡ Some p → eqb (get_or keys i 0) label ≡ t
    → items_at placed (keyed keys label (i + 1)) ≡ items_at placed (keyed keys label i) ++ cond t (p ∷ []) []
unfolding items_at
items_passed placed keys label i p t at e =
    ap (filter_map (slice_get placed)) (places_passed (λ k. eqb (get_or keys k 0) label) i ∙ ap (λ z. keyed keys label i ++ cond z (i ∷ []) []) e)
    ∙ filter_map-append (slice_get placed) (keyed keys label i) (cond t (i ∷ []) []) ∙ ap (λ z. filter_map (slice_get placed) (keyed keys label i) ++ z) (one t)
  where
    one : (t : Bool) → filter_map (slice_get placed) (cond t (i ∷ []) []) ≡ cond t (p ∷ []) []
    one true = rw at refl
    one false = refl

pub few_under : (q : Placed → Bool) (placed : List Placed) (keys : List ℕ) (label i : ℕ) → count_by q (items_at placed (keyed keys label i)) ≤ i
few_under q placed keys label i =
    omega (arith, count_by-le-length q (items_at placed (keyed keys label i)), length_items placed (keyed keys label i), length-filter (λ k. eqb (get_or keys k 0) label) (places i), count_all i (λ k. eqb (get_or keys k 0) label))

pub counted_more : (placed : List Placed) (keys : List ℕ) (i : ℕ) (p : Placed) (counts : List Count) (label : ℕ) → slice_get placed i ≡ Some p → get_or keys i 0 < length counts
    → get_or counts (get_or keys i 0) nothing ≡ count_of (items_at placed (keyed keys (get_or keys i 0) i)) → get_or counts label nothing ≡ count_of (items_at placed (keyed keys label i))
    → get_or (set counts (get_or keys i 0) (counted (get_or counts (get_or keys i 0) nothing) p.stand)) label nothing ≡ count_of (items_at placed (keyed keys label (i + 1)))
counted_more placed keys i p counts label at lt own here = elim (cases_eq label key) [
  | inl e ↦ (let P : ℕ → Type 0 = λ z. get_or (set counts key new) z nothing ≡ count_of (items_at placed (keyed keys z (i + 1))) in
      subst P (sym e) (get_or-set_same counts key new nothing lt ∙ ap (λ z. counted z p.stand) own ∙ sym (count_of_push (items_at placed (keyed keys key i)) p)
      ∙ ap count_of (sym (items_passed placed keys key i p true at (eq-eqb key key refl)))))
  | inr ne ↦ get_or-set_other counts key label new nothing ne ∙ here
      ∙ ap count_of (sym (items_passed placed keys label i p false at (ne_eqb key label (λ e. ne (sym e))) ∙ append-nil (items_at placed (keyed keys label i))))
]
  where
    key : ℕ
    key = get_or keys i 0

    new : Count
    new = counted (get_or counts key nothing) p.stand
