-- What outages change: the buses of a level, and the part that has them.
use Rattle.std.proofs.Common.{◌≡◌, refl, ap, ◌∙◌, ℕ, zero, suc, ◌+◌, ◌<◌, false, cond, ◌||◌, List, [], ◌∷◌, length, get_or, map, inl, inr, ◌⊎◌, arith}
use Rattle.std.specs.Prelude.{eqb}
use Rattle.std.specs.List.{list_any}
use Rattle.std.specs.List.Sorted.{IsStrictlyIncreasing}
use Rattle.std.proofs.lemmas.Bool.{cases_Bool, eqb-true, eq-eqb, ne_eqb}
use Rattle.std.proofs.lemmas.List.{length-map, get_or-map}
use Rattle.std.proofs.lemmas.List.Kept.{AllPairs-from_increasing}
use Rattle.grid_lemmas.proofs.Bools.{not_either}
use Rattle.grid_unions.specs.declared.summed.Sums.{Sums}
use Rattle.grid_figures.specs.declared.outage.ChangedSums.{ChangedSums}
use Rattle.grid_figures.specs.Outages.{level_sums, is_changed}
use Rattle.grid_figures.specs.Layouts.{part_at, no_part, part_of}

abbrev pub level_of : ChangedSums → ℕ
level_of c = c.level

abbrev pub Rises : List ChangedSums → Type 0
Rises changed = IsStrictlyIncreasing (map level_of changed)

-- ---- a level that is as before

pub sums_kept : (kept : List (List Sums)) (changed : List ChangedSums) (l : ℕ) → is_changed changed l ≡ false → level_sums kept changed l ≡ get_or kept l []
unfolding level_sums is_changed
sums_kept kept [] l h = refl
sums_kept kept (c ∷ cs) l h =
    let parts = not_either (eqb c.level l) (list_any (λ z. eqb z.level l) cs) h in
    ap (λ t. cond t c.sums (level_sums kept cs l)) parts.0 ∙ sums_kept kept cs l parts.1

pub part_kept : (first : ℕ) (changed : List ChangedSums) (l : ℕ) → is_changed changed l ≡ false → part_of first changed l ≡ l
unfolding part_of is_changed
part_kept first [] l h = refl
part_kept first (c ∷ cs) l h =
    let parts = not_either (eqb c.level l) (list_any (λ z. eqb z.level l) cs) h in
    ap (λ t. cond t first (part_of (first + 1) cs l)) parts.0 ∙ part_kept (first + 1) cs l parts.1

-- ---- a level that is changed

-- the first place at which a level stands
pub record IsFirstAt (changed : List ChangedSums) (l k : ℕ) : Type 0 where
  pub below : k < length changed
  pub here : (part_at changed k).level ≡ l
  pub earlier : (j : ℕ) → j < k → eqb (part_at changed j).level l ≡ false

later_first : (c : ChangedSums) (cs : List ChangedSums) (l k : ℕ) → IsFirstAt (c ∷ cs) l (suc k) → IsFirstAt cs l k
later_first c cs l k s = record { below = omega (arith, s.below); here = s.here; earlier = λ j lt. s.earlier (suc j) (omega (arith, lt)) }

pub sums_changed : (kept : List (List Sums)) (changed : List ChangedSums) (l k : ℕ) → IsFirstAt changed l k → level_sums kept changed l ≡ (part_at changed k).sums
unfolding level_sums
sums_changed kept [] l k s = absurd (let below = s.below in omega arith)
sums_changed kept (c ∷ cs) l zero s = ap (λ t. cond t c.sums (level_sums kept cs l)) (eq-eqb c.level l s.here)
sums_changed kept (c ∷ cs) l (suc k) s = ap (λ t. cond t c.sums (level_sums kept cs l)) (s.earlier 0 (omega arith)) ∙ sums_changed kept cs l k (later_first c cs l k s)

pub part_changed : (first : ℕ) (changed : List ChangedSums) (l k : ℕ) → IsFirstAt changed l k → part_of first changed l ≡ first + k
unfolding part_of
part_changed first [] l k s = absurd (let below = s.below in omega arith)
part_changed first (c ∷ cs) l zero s = ap (λ t. cond t first (part_of (first + 1) cs l)) (eq-eqb c.level l s.here) ∙ omega arith
part_changed first (c ∷ cs) l (suc k) s =
    let rest = part_changed (first + 1) cs l k (later_first c cs l k s) in
    ap (λ t. cond t first (part_of (first + 1) cs l)) (s.earlier 0 (omega arith)) ∙ omega (arith, rest)

-- where levels rise, each place is the first one of its level
pub level_at : (changed : List ChangedSums) (k : ℕ) → k < length changed → get_or (map level_of changed) k 0 ≡ (part_at changed k).level
level_at changed k lt = get_or-map level_of changed k no_part 0 lt

pub rising_before : (changed : List ChangedSums) → Rises changed → (j k : ℕ) → j < k → k < length changed → (part_at changed j).level < (part_at changed k).level
rising_before changed rise j k lt less =
    let within : k < length (map level_of changed) = omega (arith, less, length-map changed level_of) in
    let up = AllPairs-from_increasing (map level_of changed) rise j k 0 lt within in
    omega (arith, up, level_at changed j (omega (arith, lt, less)), level_at changed k less)

pub first_by_place : (changed : List ChangedSums) → Rises changed → (k : ℕ) → k < length changed → (l : ℕ) → (part_at changed k).level ≡ l → IsFirstAt changed l k
first_by_place changed rise k lt l e = record {
  below = lt;
  here = e;
  earlier = λ j less. ne_eqb (part_at changed j).level l (λ same. (let up = rising_before changed rise j k less lt in omega (arith, same, e, up)));
}

-- a level is changed at some first place, or not at all
pub found_or_kept : (changed : List ChangedSums) (l : ℕ) → ((k : ℕ) × IsFirstAt changed l k) ⊎ (is_changed changed l ≡ false)
unfolding is_changed
found_or_kept [] l = inr refl
found_or_kept (c ∷ cs) l = elim (cases_Bool (eqb c.level l)) [
  | inl h ↦ inl (0, record { below = omega arith; here = eqb-true c.level l h; earlier = λ j lt. absurd (omega (arith, lt)) })
  | inr h ↦ elim (found_or_kept cs l) [
    | inl r ↦ inl (suc r.0, record { below = (let below = r.1.below in omega arith); here = r.1.here; earlier = earlier_too h r.0 r.1.earlier })
    | inr none ↦ inr (ap (λ t. t || list_any (λ z. eqb z.level l) cs) h ∙ none)
  ]
]
  where
    earlier_too : eqb c.level l ≡ false → (k : ℕ) → ((j : ℕ) → j < k → eqb (part_at cs j).level l ≡ false) → (j : ℕ) → j < suc k → eqb (part_at (c ∷ cs) j).level l ≡ false
    earlier_too h k e zero lt = h
    earlier_too h k e (suc j) lt = e j (omega (arith, lt))
