-- Ends that are linked level by level, and one end more.
use Rattle.std.proofs.Common.{◌≡◌, ◌≢◌, refl, sym, ap, ◌∙◌, ℕ, zero, suc, ◌+◌, ◌<◌, ◌≤◌, List, [], ◌∷◌, ◌++◌, length, length-append, true, Option, Some, None, inl, inr, ◌⊎◌, arith}
use Rattle.std.specs.Prelude.{slice_get, slice_set}
use Rattle.std.proofs.lemmas.Bool.{cases_eq}
use Rattle.std.proofs.lemmas.Option.{same_Some, slice_get_within}
use Rattle.grid_lemmas.proofs.Lists.{get_set, get_other}
use Rattle.grid_islands.specs.declared.level_ends.LevelEnd.{LevelEnd}
use Rattle.grid_islands.specs.declared.level_ends.LevelEnds.{LevelEnds}
use Rattle.grid_islands.specs.LevelEnds.{IsLastBefore, AreLinked, HasEnd, IsMore, IsIndexBefore}
use Rattle.grid_islands.specs.declared.spots.BranchSpots.{BranchSpots}
use Rattle.grid_islands.specs.Spots.{touches}

-- ---- items of a list with one more

pub get_left : {X : Type 0} (xs ys : List X) (k : ℕ) → k < length xs → slice_get (xs ++ ys) k ≡ slice_get xs k
get_left [] ys k lt = absurd (omega arith)
get_left (x ∷ xs) ys zero lt = refl
get_left (x ∷ xs) ys (suc k) lt = get_left xs ys k (omega (arith, lt))

get_last : {X : Type 0} (xs : List X) (x : X) → slice_get (xs ++ x ∷ []) (length xs) ≡ Some x
get_last [] x = refl
get_last (y ∷ xs) x = get_last xs x

set_long : {X : Type 0} (xs : List X) (k : ℕ) (x : X) → length (slice_set xs k x) ≡ length xs
set_long [] k x = refl
set_long (y ∷ xs) zero x = refl
set_long (y ∷ xs) (suc k) x = ap suc (set_long xs k x)

-- an item is one of those before, or the one more
one_more : {X : Type 0} (xs : List X) (x y : X) (k : ℕ) → slice_get (xs ++ x ∷ []) k ≡ Some y → (slice_get xs k ≡ Some y) ⊎ ((k ≡ length xs) × (y ≡ x))
one_more [] x y zero at = inr (refl, same_Some y x (sym at))
one_more [] x y (suc k) at = absurd (cc)
one_more (z ∷ xs) x y zero at = inl at
one_more (z ∷ xs) x y (suc k) at = elim (one_more xs x y k at) [ inl e ↦ inl e | inr e ↦ inr (ap suc e.0, e.1) ]

-- ---- links

pub none_linked : (lasts : List (Option ℕ)) → ((level : ℕ) (at : Option ℕ) → slice_get lasts level ≡ Some at → at ≡ None) → AreLinked [] lasts
none_linked lasts none = record {
  lasting = λ level at e. record {
    there = λ place h. absurd (no_place at place (none level at e) h);
    others = λ place end lt h same. absurd (omega (arith, lt));
  };
  before = λ place end h. absurd (no_end place end h);
}
  where
    no_place : (at : Option ℕ) (place : ℕ) → at ≡ None → at ≡ Some place → ⊥
    no_place None place e h = cc
    no_place (Some k) place e h = cc

    no_end : (place : ℕ) (end : LevelEnd) → slice_get {X = LevelEnd} [] place ≡ Some end → ⊥
    no_end place end h = cc

module _ (ends : List LevelEnd) (lasts : List (Option ℕ)) (is : AreLinked ends lasts) (level branch : ℕ) (before : Option ℕ) (last : slice_get lasts level ≡ Some before) where
  abbrev pub new : LevelEnd
  new = record { level = level; branch = branch; before = before }

  abbrev pub more : List LevelEnd
  more = ends ++ new ∷ []

  widened : (bound of_level : ℕ) (at : Option ℕ) → bound ≤ length ends → IsLastBefore ends bound of_level at → IsLastBefore more bound of_level at
  widened bound of_level at le h = record {
    there = λ place e. (let r = h.there place e in (r.0, (r.1.0, get_left ends (new ∷ []) place (omega (arith, r.0, le)) ∙ r.1.1, r.1.2)));
    others = λ place end lt found same. h.others place end lt (sym (get_left ends (new ∷ []) place (omega (arith, lt, le))) ∙ found) same;
  }

  long : length more ≡ length ends + 1
  long = length-append ends (new ∷ [])

  own_last : IsLastBefore more (length more) level (Some (length ends))
  own_last = record {
    there = λ place e. (let same : length ends ≡ place = same_Some (length ends) place e in (omega (arith, long, same), (new, ap (slice_get more) (sym same) ∙ get_last ends new, refl)));
    others = λ place end lt found same. (length ends, refl, omega (arith, lt, long));
  }

  other_last : (of_level : ℕ) (at : Option ℕ) → of_level ≢ level → slice_get lasts of_level ≡ Some at → IsLastBefore more (length more) of_level at
  other_last of_level at ne e =
      let h = widened (length ends) of_level at (omega arith) (is.lasting of_level at e) in
      record {
        there = λ place f. (let r = h.there place f in (omega (arith, r.0, long), r.1));
        others = λ place end lt found same. elim (one_more ends new end place found) [
          | inl g ↦ h.others place end (slice_get_within ends place end g) found same
          | inr g ↦ absurd (ne (sym same ∙ ap (λ z. z.level) g.1))
        ];
      }

  pub linked_more : AreLinked more (slice_set lasts level (Some (length ends)))
  linked_more = record {
    lasting = λ of_level at e. elim (cases_eq of_level level) [
      | inl same ↦ (let here : at ≡ Some (length ends) = same_Some at (Some (length ends)) (sym e ∙ ap (slice_get (slice_set lasts level (Some (length ends)))) same ∙ get_set lasts level (Some (length ends)) (slice_get_within lasts level before last)) in
          rw (here, same) own_last)
      | inr ne ↦ other_last of_level at ne (sym (get_other lasts level of_level (Some (length ends)) (λ g. ne (sym g))) ∙ e)
    ];
    before = λ place end found. elim (one_more ends new end place found) [
      | inl g ↦ widened place end.level end.before (omega (arith, slice_get_within ends place end g)) (is.before place end g)
      | inr g ↦ rw (g.0, g.1) (widened (length ends) level before (omega arith) (is.lasting level before last))
    ];
  }

-- what an addition leaves
pub added : (old now : LevelEnds) (level branch : ℕ) (before : Option ℕ) → AreLinked old.ends old.lasts → slice_get old.lasts level ≡ Some before
    → now.ends ≡ old.ends ++ record { level = level; branch = branch; before = before } ∷ [] → now.lasts ≡ slice_set old.lasts level (Some (length old.ends)) → IsMore old now branch
added old now level branch before is last ends lasts = record {
  long = ap length lasts ∙ set_long old.lasts level (Some (length old.ends));
  linked = rw (ends, lasts) (linked_more old.ends old.lasts is level branch before last);
  kept = λ place end found. ap (λ z. slice_get z place) ends ∙ get_left old.ends (record { level = level; branch = branch; before = before } ∷ []) place (slice_get_within old.ends place end found) ∙ found;
  sound = λ place end found. elim (one_more old.ends (record { level = level; branch = branch; before = before }) end place (sym (ap (λ z. slice_get z place) ends) ∙ found)) [
    | inl g ↦ inl g
    | inr g ↦ inr (ap (λ z. z.branch) g.1)
  ];
}

pub added_there : (old now : LevelEnds) (level branch : ℕ) (before : Option ℕ) → now.ends ≡ old.ends ++ record { level = level; branch = branch; before = before } ∷ [] → HasEnd now level branch
added_there old now level branch before ends = record {
  place = length old.ends;
  end = record { level = level; branch = branch; before = before };
  found = ap (λ z. slice_get z (length old.ends)) ends ∙ get_last old.ends (record { level = level; branch = branch; before = before });
  of_level = refl;
  of_branch = refl;
}

-- ---- more ends

pub same_more : (old : LevelEnds) (branch : ℕ) → AreLinked old.ends old.lasts → IsMore old old branch
same_more old branch is = record { long = refl; linked = is; kept = λ place end found. found; sound = λ place end found. inl found }

pub more_trans : (old mid now : LevelEnds) (branch : ℕ) → IsMore old mid branch → IsMore mid now branch → IsMore old now branch
more_trans old mid now branch one two = record {
  long = two.long ∙ one.long;
  linked = two.linked;
  kept = λ place end found. two.kept place end (one.kept place end found);
  sound = λ place end found. elim (two.sound place end found) [ inl g ↦ one.sound place end g | inr g ↦ inr g ];
}

pub kept_end : (old now : LevelEnds) (branch level other : ℕ) → IsMore old now branch → HasEnd old level other → HasEnd now level other
kept_end old now branch level other is there = record { place = there.place; end = there.end; found = is.kept there.place there.end there.found; of_level = there.of_level; of_branch = there.of_branch }

-- ---- the ends of one branch more

pub none_indexed : (branches : List BranchSpots) (index : LevelEnds) → AreLinked index.ends index.lasts → length index.ends ≡ 0 → IsIndexBefore branches 0 index
none_indexed branches index is none = record {
  linked = is;
  below = λ place end found. absurd (omega (arith, slice_get_within index.ends place end found, none));
  each = λ level place branch lt inside at on. absurd (omega (arith, lt));
}

pub index_more : (branches : List BranchSpots) (k : ℕ) (own : BranchSpots) (old now : LevelEnds) → IsIndexBefore branches k old → slice_get branches k ≡ Some own → IsMore old now k
    → ((level : ℕ) → level < length old.lasts → touches level own ≡ true → HasEnd now level k) → IsIndexBefore branches (k + 1) now
index_more branches k own old now is at more there = record {
  linked = more.linked;
  below = λ place end found. elim (more.sound place end found) [
    | inl g ↦ omega (arith, is.below place end g)
    | inr e ↦ omega (arith, e)
  ];
  each = λ level place branch lt inside found on. elim (cases_eq place k) [
    | inl e ↦ (let same : branch ≡ own = same_Some branch own (sym found ∙ ap (slice_get branches) e ∙ at) in
        rw e (there level (rw (← more.long) inside) (rw (← same) on)))
    | inr ne ↦ kept_end old now k level place more (is.each level place branch (omega (arith, lt, ne)) (rw (← more.long) inside) found on)
  ];
}
