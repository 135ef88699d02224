-- Places by level: what each level's list has.
use Rattle.std.proofs.Common.{◌≡◌, refl, sym, ap, ◌∙◌, subst, ℕ, zero, suc, ◌+◌, ◌<◌, ◌≤◌, Bool, true, false, cond, ◌||◌, List, [], ◌∷◌, ◌++◌, length, get_or, set, map, arith, inl, inr, get_or-set_same, get_or-set_other, length-set}
use Rattle.std.specs.Prelude.{eqb, filter}
use Rattle.std.specs.List.{range_with_len}
use Rattle.std.proofs.lemmas.List.FromFn.{get_or-map-range_with_len, length-map-range_with_len}
use Rattle.std.proofs.lemmas.Bool.{cases_eq, cases_lt, eq-eqb, ne_eqb}
use Rattle.std.proofs.lemmas.List.{append-nil, same_lists}
use Rattle.grid_graph.specs.Components.{places}
use Rattle.grid_groups.proofs.Lists.{get_or_any}
use Rattle.grid_groups.proofs.Steps.{places_passed}
use Rattle.grid_outages.specs.Tables.{is_end, ends_at, places_at, end_places}
use Rattle.grid_outages.proofs.Members.{Among, among_filter, filter_among}

abbrev pub Rows : Type 0
Rows = List (List ℕ)

abbrev pub with_place : Rows → ℕ → ℕ → Rows
with_place rows level place = set rows level (get_or rows level [] ++ place ∷ [])

pub row_put : (rows : Rows) (level place : ℕ) → level < length rows → get_or (with_place rows level place) level [] ≡ get_or rows level [] ++ place ∷ []
row_put rows level place lt = get_or-set_same rows level (get_or rows level [] ++ place ∷ []) [] lt

pub row_stays : (rows : Rows) (level place other : ℕ) → (other ≡ level → ⊥) → get_or (with_place rows level place) other [] ≡ get_or rows other []
row_stays rows level place other ne = get_or-set_other rows level other (get_or rows level [] ++ place ∷ []) [] ne

end_true : (level : ℕ) (ends : ℕ × ℕ) → level ≡ ends.0 → is_end level ends ≡ true
end_true level ends e = rw (eq-eqb ends.0 level (sym e)) refl

other_true : (s : Bool) → s || true ≡ true
other_true true = refl
other_true false = refl

-- one place for both ends
pub put_once : (rows : Rows) (ends : ℕ × ℕ) (place level : ℕ) → ends.0 < length rows → ends.0 ≡ ends.1 → get_or (with_place rows ends.0 place) level [] ≡ get_or rows level [] ++ cond (is_end level ends) (place ∷ []) []
put_once rows ends place level lt same = elim (cases_eq level ends.0) [
  | inl e ↦ (let P : ℕ → Type 0 = λ z. get_or (with_place rows ends.0 place) z [] ≡ get_or rows z [] ++ cond (is_end z ends) (place ∷ []) [] in
      subst P (sym e) (row_put rows ends.0 place lt ∙ ap (λ t. get_or rows ends.0 [] ++ cond t (place ∷ []) []) (sym (end_true ends.0 ends refl))))
  | inr ne ↦ row_stays rows ends.0 place level ne ∙ sym (append-nil (get_or rows level []))
      ∙ ap (λ t. get_or rows level [] ++ cond t (place ∷ []) []) (sym (ap (λ t. t || eqb ends.1 level) (ne_eqb ends.0 level (λ e. ne (sym e))) ∙ ne_eqb ends.1 level (λ e. ne (sym (same ∙ e)))))
]

-- one for each end
pub put_twice : (rows : Rows) (ends : ℕ × ℕ) (place level : ℕ) → ends.0 < length rows → ends.1 < length rows → (ends.0 ≡ ends.1 → ⊥)
    → get_or (with_place (with_place rows ends.0 place) ends.1 place) level [] ≡ get_or rows level [] ++ cond (is_end level ends) (place ∷ []) []
put_twice rows ends place level lt less apart =
    elim (cases_eq level ends.1) [
      | inl e ↦ (let P : ℕ → Type 0 = λ z. get_or (with_place one ends.1 place) z [] ≡ get_or rows z [] ++ cond (is_end z ends) (place ∷ []) [] in
          subst P (sym e) (row_put one ends.1 place long ∙ ap (λ z. z ++ place ∷ []) (row_stays rows ends.0 place ends.1 (λ h. apart (sym h)))
          ∙ ap (λ t. get_or rows ends.1 [] ++ cond t (place ∷ []) []) (sym (ap (λ t. eqb ends.0 ends.1 || t) (eq-eqb ends.1 ends.1 refl) ∙ other_true (eqb ends.0 ends.1)))))
      | inr ne ↦ row_stays one ends.1 place level ne ∙ (elim (cases_eq level ends.0) [
        | inl e ↦ (let P : ℕ → Type 0 = λ z. get_or one z [] ≡ get_or rows z [] ++ cond (is_end z ends) (place ∷ []) [] in
            subst P (sym e) (row_put rows ends.0 place lt ∙ ap (λ t. get_or rows ends.0 [] ++ cond t (place ∷ []) []) (sym (end_true ends.0 ends refl))))
        | inr nor ↦ row_stays rows ends.0 place level nor ∙ sym (append-nil (get_or rows level []))
            ∙ ap (λ t. get_or rows level [] ++ cond t (place ∷ []) []) (sym (ap (λ t. t || eqb ends.1 level) (ne_eqb ends.0 level (λ e. nor (sym e))) ∙ ne_eqb ends.1 level (λ e. ne (sym e))))
      ])
    ]
  where
    one : Rows
    one = with_place rows ends.0 place

    long : ends.1 < length one
    long = omega (arith, less, length-set rows ends.0 (get_or rows ends.0 [] ++ place ∷ []))

-- ---- all places

-- the places before one
abbrev pub places_to : List (ℕ × ℕ) → ℕ → ℕ → List ℕ
places_to ends level i = filter (λ place. is_end level (ends_at ends place)) (places i)

pub none_to : (ends : List (ℕ × ℕ)) (level : ℕ) → places_to ends level 0 ≡ []
unfolding places
none_to ends level = refl

pub place_more : (ends : List (ℕ × ℕ)) (level i : ℕ) → places_to ends level i ++ cond (is_end level (ends_at ends i)) (i ∷ []) [] ≡ places_to ends level (i + 1)
place_more ends level i = sym (places_passed (λ place. is_end level (ends_at ends place)) i)

pub row_at_level : (count : ℕ) (ends : List (ℕ × ℕ)) (level : ℕ) (d : List ℕ) → level < count → get_or (end_places count ends) level d ≡ places_at ends level
unfolding end_places places
row_at_level count ends level d lt = get_or-map-range_with_len (places_at ends) 0 count level level d lt (omega arith)

pub rows_long : (count : ℕ) (ends : List (ℕ × ℕ)) → length (end_places count ends) ≡ count
unfolding end_places places
rows_long count ends = length-map-range_with_len (places_at ends) 0 count

pub all_rows : (count : ℕ) (ends : List (ℕ × ℕ)) (rows : Rows) → length rows ≡ count → ((level : ℕ) → level < count → get_or rows level [] ≡ places_to ends level (length ends)) → rows ≡ end_places count ends
unfolding places_at
all_rows count ends rows long each =
    same_lists rows (end_places count ends) (long ∙ sym (rows_long count ends)) (λ i d lt.
    let less : i < count = omega (arith, lt, long) in
    get_or_any rows i d [] lt ∙ each i less ∙ sym (row_at_level count ends i d less))

-- ---- what a row has

past : (rows : Rows) (k : ℕ) → length rows ≤ k → get_or rows k [] ≡ []
past [] k le = refl
past (x ∷ rows) zero le = absurd (omega arith)
past (x ∷ rows) (suc k) le = past rows k (omega arith)

range_has : (low n i : ℕ) → low ≤ i → i < low + n → Among i (range_with_len low n)
range_has low zero i le lt = absurd (omega arith)
range_has low (suc n) i le lt = elim (cases_eq i low) [
  | inl e ↦ inl e
  | inr ne ↦ inr (range_has (low + 1) n i (omega (arith, ne, le)) (omega arith))
]

range_is : (low n i : ℕ) → Among i (range_with_len low n) → i < low + n
range_is low zero i h = absurd h
range_is low (suc n) i (inl e) = omega (arith, e)
range_is low (suc n) i (inr h) = let r = range_is (low + 1) n i h in omega (arith, r)

pub place_has : (n i : ℕ) → i < n → Among i (places n)
unfolding places
place_has n i lt = range_has 0 n i (omega arith) (omega (arith, lt))

pub place_is : (n i : ℕ) → Among i (places n) → i < n
unfolding places
place_is n i h = let r = range_is 0 n i h in omega (arith, r)

module _ (count : ℕ) (ends : List (ℕ × ℕ)) (table : Rows) (is : table ≡ end_places count ends) where
  pub row_has : (level i : ℕ) → level < count → i < length ends → is_end level (ends_at ends i) ≡ true → Among i (get_or table level [])
  unfolding places_at
  row_has level i lt less h =
      subst (λ z. Among i z) (sym (ap (λ z. get_or z level []) is ∙ row_at_level count ends level [] lt)) (among_filter (λ place. is_end level (ends_at ends place)) i (places (length ends)) (place_has (length ends) i less) h)

  pub row_is : (level i : ℕ) → Among i (get_or table level []) → (i < length ends) × (is_end level (ends_at ends i) ≡ true)
  unfolding places_at
  row_is level i h = elim (cases_lt level count) [
    | inl lt ↦ (let found : Among i (filter (λ place. is_end level (ends_at ends place)) (places (length ends))) = subst (λ z. Among i z) (ap (λ z. get_or z level []) is ∙ row_at_level count ends level [] lt) h in
        let parts = filter_among (λ place. is_end level (ends_at ends place)) i (places (length ends)) found in
        (place_is (length ends) i parts.0, parts.1))
    | inr ge ↦ absurd (subst (λ z. Among i z) (past table level (omega (arith, ge, ap length is, rows_long count ends))) h)
  ]
