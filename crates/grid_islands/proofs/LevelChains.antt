-- The ends of a level, from the last one down.
use Rattle.std.proofs.Common.{◌≡◌, refl, sym, ap, ◌∙◌, subst, ℕ, ◌+◌, ◌<◌, ◌≤◌, List, length, get_or, Option, Some, None, inl, inr, ◌⊎◌, arith}
use Rattle.std.specs.Prelude.{slice_get}
use Rattle.std.proofs.lemmas.Bool.{cases_eq, cases_lt}
use Rattle.std.proofs.lemmas.Option.{get_or_from_slice_get, slice_get_within}
use Rattle.grid_islands.specs.declared.level_ends.LevelEnd.{LevelEnd}
use Rattle.grid_islands.specs.LevelEnds.{IsLastBefore, AreLinked}

-- how many ends there are up to one
unfoldable pub count_to : Option ℕ → ℕ
count_to None = 0
count_to (Some place) = place + 1

-- where there is an end, it stands in the level
pub record IsInLevel (ends : List LevelEnd) (level : ℕ) (at : Option ℕ) : Type 0 where
  pub there : (place : ℕ) → at ≡ Some place → (end : LevelEnd) × (slice_get ends place ≡ Some end) × (end.level ≡ level)

pub in_level : (ends : List LevelEnd) (bound level : ℕ) (at : Option ℕ) → IsLastBefore ends bound level at → IsInLevel ends level at
in_level ends bound level at is = record { there = λ place e. (is.there place e).1 }

-- no end of the level is behind the last one
pub none_behind : (ends : List LevelEnd) (level : ℕ) (at : Option ℕ) (place : ℕ) (end : LevelEnd) → IsLastBefore ends (length ends) level at → slice_get ends place ≡ Some end → end.level ≡ level → count_to at ≤ place → ⊥
unfolding count_to
none_behind ends level at place end last found same le =
    let r = last.others place end (slice_get_within ends place end found) found same in
    omega (arith, r.2, le, ap count_to r.1)

-- what is behind the one before an end is that end, or behind it
pub one_behind : (ends : List LevelEnd) (now place : ℕ) (here end : LevelEnd) → IsLastBefore ends now here.level here.before → slice_get ends place ≡ Some end → end.level ≡ here.level → count_to here.before ≤ place
    → (place ≡ now) ⊎ (count_to (Some now) ≤ place)
unfolding count_to
one_behind ends now place here end last found same le = elim (cases_lt now place) [
  | inl lt ↦ inr (omega (arith, lt))
  | inr not_past ↦ elim (cases_eq place now) [
    | inl e ↦ inl e
    | inr ne ↦ (let r = last.others place end (omega (arith, not_past, ne)) found same in absurd (omega (arith, r.2, le, ap count_to r.1)))
  ]
]

-- the way goes down
pub goes_down : (ends : List LevelEnd) (lasts : List (Option ℕ)) (now : ℕ) (here : LevelEnd) → AreLinked ends lasts → slice_get ends now ≡ Some here → count_to here.before < count_to (Some now)
unfolding count_to
goes_down ends lasts now here is at = pick here.before refl
  where
    pick : (o : Option ℕ) → here.before ≡ o → count_to o < now + 1
    pick None e = omega arith
    pick (Some place) e = omega (arith, ((is.before now here at).there place e).0)

-- the end that is read at a place of the way
pub read_end : (ends : List LevelEnd) (level place : ℕ) (at : Option ℕ) (here : LevelEnd) → IsInLevel ends level at → at ≡ Some place → here ≡ get_or ends place here → (slice_get ends place ≡ Some here) × (here.level ≡ level)
read_end ends level place at here is e read =
    let r = is.there place e in
    let same : here ≡ r.0 = read ∙ get_or_from_slice_get ends place r.0 here r.1 in
    (r.1 ∙ ap Some (sym same), ap (λ (z : LevelEnd). z.level) same ∙ r.2)

-- the end before it is in the level too
pub before_in_level : (ends : List LevelEnd) (lasts : List (Option ℕ)) (level place : ℕ) (here : LevelEnd) → AreLinked ends lasts → slice_get ends place ≡ Some here → here.level ≡ level → IsInLevel ends level here.before
before_in_level ends lasts level place here is at of_level = subst (λ z. IsInLevel ends z here.before) of_level (in_level ends place here.level here.before (is.before place here at))
