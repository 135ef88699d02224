-- The first level that has buses.
use Rattle.std.proofs.Common.{◌≡◌, ◌≢◌, refl, sym, ap, ◌∙◌, ℕ, zero, suc, ◌+◌, ◌<◌, ◌≤◌, Bool, true, false, not, ◌&&◌, ◌||◌, List, [], ◌∷◌, length, get_or, min, inl, inr, arith, Some, None, pos}
use Rattle.std.specs.Prelude.{eqb, nat_lt, slice_get, All}
use Rattle.std.specs.List.{list_any}
use Rattle.std.proofs.lemmas.Bool.{false≢true, cases_Bool, cases_eq, cases_lt, eqb-true, eq-eqb, lt-ltb, le-ltb, ltb-true, ltb-false, both_ways, or_cases, and_parts}
use Rattle.grid_lemmas.proofs.Bools.{or_left, or_right}
use Rattle.grid_graph.specs.Components.{places}
use Rattle.grid_unions.specs.declared.summed.Sums.{Sums}
use Rattle.grid_figures.specs.declared.outage.ChangedSums.{ChangedSums}
use Rattle.grid_figures.specs.Layouts.{part_at}
use Rattle.grid_figures.specs.Outages.{is_changed}
use Rattle.grid_figures.specs.Networks.{IsNext, AreNexts, has_kept, is_free, is_filled, has_buses}
use Rattle.grid_figures.proofs.Blocks.{blocks, blocks_before, block_at, long_more}
use Rattle.grid_figures.proofs.ChangedLevels.{Rises, rising_before, sums_kept, sums_changed, first_by_place, found_or_kept}

-- ---- lists by levels

-- the list of the level at a place is the one that is changed
pub changed_at : (changed : List ChangedSums) (k : ℕ) → k < length changed → is_changed changed (part_at changed k).level ≡ true
unfolding is_changed
changed_at [] k lt = absurd (omega arith)
changed_at (c ∷ cs) zero lt = or_left (eqb c.level c.level) (list_any (λ z. eqb z.level c.level) cs) (eq-eqb c.level c.level refl)
changed_at (c ∷ cs) (suc k) lt = or_right (eqb c.level (part_at cs k).level) (list_any (λ z. eqb z.level (part_at cs k).level) cs) (changed_at cs k (omega (arith, lt)))

pub unchanged : (changed : List ChangedSums) (l : ℕ) → ((k : ℕ) → k < length changed → (part_at changed k).level ≢ l) → is_changed changed l ≡ false
unchanged changed l h = elim (found_or_kept changed l) [ inl r ↦ absurd (h r.0 r.1.below r.1.here) | inr none ↦ none ]

-- ---- a level that is free

pub free_off : (kept : List (List Sums)) (changed : List ChangedSums) (l : ℕ) → has_kept kept l ≡ false → is_free kept changed l ≡ false
unfolding is_free
free_off kept changed l h = ap (λ t. t && not (is_changed changed l)) h

pub free_changed : (kept : List (List Sums)) (changed : List ChangedSums) (l : ℕ) → is_changed changed l ≡ true → is_free kept changed l ≡ false
unfolding is_free
free_changed kept changed l h = ap (λ t. has_kept kept l && not t) h ∙ by (has_kept kept l)
  where
    by : (t : Bool) → t && false ≡ false
    by true = refl
    by false = refl

pub free_on : (kept : List (List Sums)) (changed : List ChangedSums) (l : ℕ) → has_kept kept l ≡ true → is_changed changed l ≡ false → is_free kept changed l ≡ true
unfolding is_free
free_on kept changed l h none = ap (λ t. t && not (is_changed changed l)) h ∙ ap not none

-- no level before one is free, and it has kept buses and is none of the first so many that are changed
pub record AreFreeBelow (kept : List (List Sums)) (changed : List ChangedSums) (count level : ℕ) : Type 0 where
  pub high : level ≤ length kept
  pub before : (l : ℕ) → l < level → is_free kept changed l ≡ false
  pub held : level < length kept → has_kept kept level ≡ true
  pub fresh : (k : ℕ) → k < count → (part_at changed k).level ≢ level

module _ (kept : List (List Sums)) (changed : List ChangedSums) (nexts : List ℕ) (n : AreNexts kept nexts) where
  pub free_begun : AreFreeBelow kept changed 0 (get_or nexts 0 0)
  free_begun =
      let first = n.each 0 (omega arith) in
      record {
        high = first.high;
        before = λ l lt. free_off kept changed l (first.before l (omega arith) lt);
        held = first.here;
        fresh = λ k lt. absurd (omega (arith, lt));
      }

  module _ (rise : Rises changed) (count level : ℕ) (lt : count < length changed) (s : AreFreeBelow kept changed count level) where
    -- the next one that is changed is this level
    pub free_passed : (part_at changed count).level ≡ level → level < length kept → AreFreeBelow kept changed (count + 1) (get_or nexts (level + 1) 0)
    free_passed e less =
        let next = n.each (level + 1) (omega (arith, less)) in
        let low = next.low in
        record {
          high = next.high;
          before = λ l below. elim (cases_lt l level) [
            | inl early ↦ s.before l early
            | inr late ↦ elim (cases_eq l level) [
              | inl same ↦ free_changed kept changed l (ap (is_changed changed) (same ∙ sym e) ∙ changed_at changed count lt)
              | inr other ↦ free_off kept changed l (next.before l (omega (arith, late, other)) below)
            ]
          ];
          held = next.here;
          fresh = λ k few same. elim (cases_eq k count) [
            | inl here ↦ (let at : (part_at changed k).level ≡ (part_at changed count).level = ap (λ z. (part_at changed z).level) here in omega (arith, at, e, same, low))
            | inr other ↦ (let up = rising_before changed rise k count (omega (arith, few, other)) lt in omega (arith, up, e, same, low))
          ];
        }

    -- it is another one
    pub free_still : ((part_at changed count).level ≡ level → ⊥) → AreFreeBelow kept changed (count + 1) level
    free_still ne = record {
      high = s.high;
      before = s.before;
      held = s.held;
      fresh = λ k few same. elim (cases_eq k count) [
        | inl here ↦ ne (ap (λ z. (part_at changed z).level) (sym here) ∙ same)
        | inr other ↦ s.fresh k (omega (arith, few, other)) same
      ];
    }

  pub free_found : (count level : ℕ) → length changed ≤ count → AreFreeBelow kept changed count level → IsNext (is_free kept changed) (length kept) 0 level
  free_found count level le s = record {
    low = omega arith;
    high = s.high;
    before = λ l _ lt. s.before l lt;
    here = λ lt. free_on kept changed level (s.held lt) (unchanged changed level (λ k less. s.fresh k (omega (arith, less, le))));
  }

-- ---- a level that is changed and has buses then

pub filled_off : (changed : List ChangedSums) (l : ℕ) → ((k : ℕ) → k < length changed → (part_at changed k).level ≡ l → length (part_at changed k).sums ≡ 0) → is_filled changed l ≡ false
unfolding is_filled
filled_off [] l h = refl
filled_off (c ∷ cs) l h = ap (λ t. t || list_any (λ z. eqb z.level l && nat_lt 0 (length z.sums)) cs) (here (eqb c.level l) refl) ∙ filled_off cs l (λ k lt e. h (suc k) (omega (arith, lt)) e)
  where
    here : (t : Bool) → eqb c.level l ≡ t → t && nat_lt 0 (length c.sums) ≡ false
    here false e = refl
    here true e = le-ltb 0 (length c.sums) (omega (arith, h 0 (omega arith) (eqb-true c.level l e)))

pub filled_on : (changed : List ChangedSums) (k : ℕ) → k < length changed → 0 < length (part_at changed k).sums → is_filled changed (part_at changed k).level ≡ true
unfolding is_filled
filled_on [] k lt some = absurd (omega arith)
filled_on (c ∷ cs) zero lt some =
    or_left (eqb c.level c.level && nat_lt 0 (length c.sums)) (list_any (λ z. eqb z.level c.level && nat_lt 0 (length z.sums)) cs)
    (ap (λ t. t && nat_lt 0 (length c.sums)) (eq-eqb c.level c.level refl) ∙ lt-ltb 0 (length c.sums) some)
filled_on (c ∷ cs) (suc k) lt some =
    or_right (eqb c.level (part_at cs k).level && nat_lt 0 (length c.sums)) (list_any (λ z. eqb z.level (part_at cs k).level && nat_lt 0 (length z.sums)) cs)
    (filled_on cs k (omega (arith, lt)) some)

-- a place at which a level is changed, and has buses
record IsFilledAt (changed : List ChangedSums) (l k : ℕ) : Type 0 where
  pub below : k < length changed
  pub here : (part_at changed k).level ≡ l
  pub some : 0 < length (part_at changed k).sums

later_filled : (c : ChangedSums) (cs : List ChangedSums) (l : ℕ) → (k : ℕ) × IsFilledAt cs l k → (k : ℕ) × IsFilledAt (c ∷ cs) l k
later_filled c cs l r = (suc r.0, record { below = (let below = r.1.below in omega arith); here = r.1.here; some = r.1.some })

filled_from : (changed : List ChangedSums) (l : ℕ) → is_filled changed l ≡ true → (k : ℕ) × IsFilledAt changed l k
unfolding is_filled
filled_from [] l h = absurd (false≢true h)
filled_from (c ∷ cs) l h = elim (or_cases (eqb c.level l && nat_lt 0 (length c.sums)) (list_any (λ z. eqb z.level l && nat_lt 0 (length z.sums)) cs) h) [
  | inl here ↦ (let parts = and_parts (eqb c.level l) (nat_lt 0 (length c.sums)) here in
      (0, record { below = omega arith; here = eqb-true c.level l parts.0; some = ltb-true 0 (length c.sums) parts.1 }))
  | inr later ↦ later_filled c cs l (filled_from cs l later)
]

module _ (changed : List ChangedSums) (rise : Rises changed) (count : ℕ) (below : All (λ c. c.level < count) changed) where
  pub filled_here : (i : ℕ) → i < length changed → ((k : ℕ) → k < i → length (part_at changed k).sums ≡ 0) → 0 < length (part_at changed i).sums → IsNext (is_filled changed) count 0 (part_at changed i).level
  filled_here i lt none some = record {
    low = omega arith;
    high = (let less = below i (part_at changed i) lt in over i lt);
    before = λ l _ less. filled_off changed l (λ k few e. elim (cases_lt k i) [
      | inl early ↦ none k early
      | inr late ↦ elim (cases_eq k i) [
        | inl same ↦ (let at : (part_at changed k).level ≡ (part_at changed i).level = ap (λ z. (part_at changed z).level) same in absurd (omega (arith, at, e, less)))
        | inr other ↦ (let up = rising_before changed rise i k (omega (arith, late, other)) few in absurd (omega (arith, up, e, less)))
      ]
    ]);
    here = λ _. filled_on changed i lt some;
  }
    where
      over : (i : ℕ) → i < length changed → (part_at changed i).level ≤ count
      over i lt = omega (arith, below i (record { level = 0; sums = [] }) lt)

  pub filled_nowhere : ((k : ℕ) → k < length changed → length (part_at changed k).sums ≡ 0) → IsNext (is_filled changed) count 0 count
  filled_nowhere none = record {
    low = omega arith;
    high = omega arith;
    before = λ l _ less. filled_off changed l (λ k few e. none k few);
    here = λ lt. absurd (omega (arith, lt));
  }

-- ---- a level that has buses

module _ (kept : List (List Sums)) (changed : List ChangedSums) (rise : Rises changed) where
  buses_off : (l : ℕ) → is_free kept changed l ≡ false → is_filled changed l ≡ false → has_buses kept changed l ≡ false
  buses_off l f g = elim (found_or_kept changed l) [
    | inl r ↦ elim (cases_Bool (nat_lt 0 (length (part_at changed r.0).sums))) [
      | inl some ↦ (let h : is_filled changed l ≡ true = ap (is_filled changed) (sym r.1.here) ∙ filled_on changed r.0 r.1.below (ltb-true 0 (length (part_at changed r.0).sums) some) in absurd (both_ways (is_filled changed l) g h))
      | inr none ↦ ap (λ z. nat_lt 0 (length z)) (sums_changed kept changed l r.0 r.1) ∙ none
    ]
    | inr none ↦ elim (cases_Bool (has_kept kept l)) [
      | inl some ↦ absurd (both_ways (is_free kept changed l) f (free_on kept changed l some none))
      | inr off ↦ ap (λ z. nat_lt 0 (length z)) (sums_kept kept changed l none) ∙ off
    ]
  ]

  free_has : (l : ℕ) → is_free kept changed l ≡ true → has_buses kept changed l ≡ true
  free_has l h = elim (cases_Bool (is_changed changed l)) [
    | inl on ↦ absurd (both_ways (is_free kept changed l) (free_changed kept changed l on) h)
    | inr off ↦ elim (cases_Bool (has_kept kept l)) [
      | inl some ↦ ap (λ z. nat_lt 0 (length z)) (sums_kept kept changed l off) ∙ some
      | inr none ↦ absurd (both_ways (is_free kept changed l) (free_off kept changed l none) h)
    ]
  ]

  filled_has : (l : ℕ) → is_filled changed l ≡ true → has_buses kept changed l ≡ true
  filled_has l h =
      let r = filled_from changed l h in
      ap (λ z. nat_lt 0 (length z)) (sums_changed kept changed l r.0 (first_by_place changed rise r.0 r.1.below l r.1.here)) ∙ lt-ltb 0 (length (part_at changed r.0).sums) r.1.some

  -- the first free level or the first filled one
  pub first_of_both : (count free filled : ℕ) → IsNext (is_free kept changed) count 0 free → IsNext (is_filled changed) count 0 filled → IsNext (has_buses kept changed) count 0 (min free filled)
  first_of_both count free filled f g = record {
    low = omega arith;
    high = (let high = f.high in omega (arith, high));
    before = λ l le lt. buses_off l (f.before l le (omega (arith, lt))) (g.before l le (omega (arith, lt)));
    here = λ lt. elim (cases_lt filled free) [
      | inl less ↦ (let is : min free filled ≡ filled = omega (arith, less) in ap (has_buses kept changed) is ∙ filled_has filled (g.here (omega (arith, lt, is))))
      | inr le ↦ (let is : min free filled ≡ free = omega (arith, le) in ap (has_buses kept changed) is ∙ free_has free (f.here (omega (arith, lt, is))))
    ];
  }

-- ---- the first bus

none_here : (f : ℕ → List Sums) (r : ℕ) → ((l : ℕ) → l < r → nat_lt 0 (length (f l)) ≡ false) → length (blocks f r) ≡ 0
unfolding places
none_here f zero g = refl
none_here f (suc m) g = omega (arith, long_more f m, none_here f m (λ l lt. g l (omega (arith, lt))), ltb-false 0 (length (f m)) (g m (omega arith)))

got_first : (xs : List Sums) (d : Sums) → 0 < length xs → slice_get xs 0 ≡ Some (get_or xs 0 d)
got_first [] d lt = absurd (omega arith)
got_first (x ∷ xs) d lt = refl

none_first : (xs : List Sums) → length xs ≡ 0 → slice_get xs 0 ≡ None
none_first [] e = refl
none_first (x ∷ xs) e = absurd (omega (arith, e))

-- is the first bus of the first level that has one
pub first_bus_of : (f : ℕ → List Sums) (n r : ℕ) → IsNext (λ l. nat_lt 0 (length (f l))) n 0 r → r < n → slice_get (f r) 0 ≡ slice_get (blocks f n) 0
first_bus_of f n r s lt =
    let d : Sums = record { load = pos 0; generation = pos 0 } in
    let some : 0 < length (f r) = ltb-true 0 (length (f r)) (s.here lt) in
    let none : length (blocks f r) ≡ 0 = none_here f r (λ l less. s.before l (omega arith) less) in
    let start : length (blocks f r) + 0 ≡ 0 = omega (arith, none) in
    got_first (f r) d some
    ∙ ap (λ z. Some z) (sym (block_at f r n 0 d lt some) ∙ ap (λ z. get_or (blocks f n) z d) start)
    ∙ sym (got_first (blocks f n) d (omega (arith, blocks_before f r n lt, some)))

pub no_bus_of : (f : ℕ → List Sums) (n r : ℕ) → IsNext (λ l. nat_lt 0 (length (f l))) n 0 r → n ≤ r → slice_get (blocks f n) 0 ≡ None
no_bus_of f n r s le = none_first (blocks f n) (none_here f n (λ l lt. s.before l (omega arith) (omega (arith, lt, le))))

-- ---- the next level with kept buses

pub next_here : (kept : List (List Sums)) (level : ℕ) → level < length kept → 0 < length (get_or kept level []) → IsNext (has_kept kept) (length kept) level level
next_here kept level lt some = record {
  low = omega arith;
  high = omega (arith, lt);
  before = λ l le less. absurd (omega (arith, le, less));
  here = λ _. lt-ltb 0 (length (get_or kept level [])) some;
}

pub next_later : (kept : List (List Sums)) (level next : ℕ) → length (get_or kept level []) ≤ 0 → IsNext (has_kept kept) (length kept) (level + 1) next → IsNext (has_kept kept) (length kept) level next
next_later kept level next none s = record {
  low = (let low = s.low in omega (arith, low));
  high = s.high;
  before = λ l le less. elim (cases_eq l level) [
    | inl e ↦ ap (has_kept kept) e ∙ le-ltb 0 (length (get_or kept level [])) none
    | inr ne ↦ s.before l (omega (arith, le, ne)) less
  ];
  here = s.here;
}

pub next_end : (kept : List (List Sums)) → IsNext (has_kept kept) (length kept) (length kept) (length kept)
next_end kept = record { low = omega arith; high = omega arith; before = λ l le less. absurd (omega (arith, le, less)); here = λ lt. absurd (omega (arith, lt)) }
