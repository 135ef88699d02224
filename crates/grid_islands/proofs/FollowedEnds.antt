-- What is done at the ends of a level, one end after the other.
use Rattle.std.proofs.Common.{◌≡◌, ◌≢◌, refl, sym, ap, ◌∙◌, ℕ, zero, suc, ◌<◌, ◌≤◌, Bool, true, List, [], ◌∷◌, length, map, Option, Some, inl, inr, ◌⊎◌, arith}
use Rattle.std.specs.Prelude.{slice_get, slice_set}
use Rattle.std.proofs.lemmas.Bool.{cases_eq, cases_Bool}
use Rattle.std.proofs.lemmas.Option.{same_Some, slice_get_within}
use Rattle.grid_islands.specs.declared.kept.KeptLevel.{KeptLevel}
use Rattle.grid_islands.specs.declared.level_ends.LevelEnd.{LevelEnd}
use Rattle.grid_islands.specs.declared.level_ends.LevelEnds.{LevelEnds}
use Rattle.grid_islands.specs.declared.spots.BranchBuses.{BranchBuses}
use Rattle.grid_islands.specs.declared.spots.BranchSpots.{BranchSpots}
use Rattle.grid_islands.specs.LevelEnds.{AreLinked, IsIndexOf}
use Rattle.grid_islands.specs.Rejoining.{AreMarked}
use Rattle.grid_islands.specs.Spots.{buses_of_spots, touches, SameElsewhere}
use Rattle.grid_islands.proofs.LevelChains.{count_to, one_behind}
use Rattle.grid_islands.proofs.LevelFronts.{branch_left}
use Rattle.grid_lemmas.proofs.Lists.{get_set, get_other}

-- the branches of the ends from a place on are marked
pub record AreMarkedFrom (ends : List LevelEnd) (level from : ℕ) (m : ℕ → Bool) (buses : List BranchBuses) : Type 0 where
  pub each : (place : ℕ) (end : LevelEnd) (own : BranchBuses) → slice_get ends place ≡ Some end → end.level ≡ level → from ≤ place → slice_get buses end.branch ≡ Some own → AreMarked m own

-- those of the ends from a place on have what a function gives
pub record AreMadeFrom (f : BranchSpots → BranchBuses) (ends : List LevelEnd) (level from : ℕ) (branches : List BranchSpots) (buses : List BranchBuses) : Type 0 where
  pub each : (place : ℕ) (end : LevelEnd) (spots : BranchSpots) → slice_get ends place ≡ Some end → end.level ≡ level → from ≤ place → slice_get branches end.branch ≡ Some spots → slice_get buses end.branch ≡ Some (f spots)

-- each branch has what one function gives or another
pub record AreEither (f g : BranchSpots → BranchBuses) (branches : List BranchSpots) (buses : List BranchBuses) : Type 0 where
  pub each : (branch : ℕ) (spots : BranchSpots) → slice_get branches branch ≡ Some spots → (slice_get buses branch ≡ Some (f spots)) ⊎ (slice_get buses branch ≡ Some (g spots))

module _ (ends : List LevelEnd) (lasts : List (Option ℕ)) (level now : ℕ) (here : LevelEnd) (linked : AreLinked ends lasts) (at : slice_get ends now ≡ Some here) (of_level : here.level ≡ level) where
  pub marked_step : (m n : ℕ → Bool) (buses : List BranchBuses) → ((x : ℕ) → m x ≡ true → n x ≡ true) → ((own : BranchBuses) → slice_get buses here.branch ≡ Some own → AreMarked n own)
      → AreMarkedFrom ends level (count_to (Some now)) m buses → AreMarkedFrom ends level (count_to here.before) n buses
  marked_step m n buses kept own_marked before = record {
    each = λ place end own found same le there. elim (one_behind ends now place here end (linked.before now here at) found (same ∙ sym of_level) le) [
      | inl e ↦ own_marked own (ap (λ (z : LevelEnd). slice_get buses z.branch) (same_Some here end (sym at ∙ ap (slice_get ends) (sym e) ∙ found)) ∙ there)
      | inr past ↦ λ bus other i. kept bus (before.each place end own found same past there bus other i)
    ];
  }

  module _ (f : BranchSpots → BranchBuses) (branches : List BranchSpots) (buses : List BranchBuses) (own : BranchSpots) (spots_at : slice_get branches here.branch ≡ Some own) (inside : here.branch < length buses) where
    -- a branch that has what the function gives has it still
    stays : (k : ℕ) (spots : BranchSpots) → slice_get branches k ≡ Some spots → ((k ≡ here.branch) ⊎ (slice_get buses k ≡ Some (f spots))) → slice_get (slice_set buses here.branch (f own)) k ≡ Some (f spots)
    stays k spots found given = elim (cases_eq k here.branch) [
      | inl e ↦ ap (slice_get (slice_set buses here.branch (f own))) e ∙ get_set buses here.branch (f own) inside ∙ ap (λ z. Some (f z)) (same_Some own spots (sym spots_at ∙ ap (slice_get branches) (sym e) ∙ found))
      | inr ne ↦ get_other buses here.branch k (f own) (λ g. ne (sym g)) ∙ other k spots ne given
    ]
      where
        other : (k : ℕ) (spots : BranchSpots) → k ≢ here.branch → ((k ≡ here.branch) ⊎ (slice_get buses k ≡ Some (f spots))) → slice_get buses k ≡ Some (f spots)
        other k spots ne (inl e) = absurd (ne e)
        other k spots ne (inr h) = h

    pub made_step : AreMadeFrom f ends level (count_to (Some now)) branches buses → AreMadeFrom f ends level (count_to here.before) branches (slice_set buses here.branch (f own))
    made_step before = record {
      each = λ place end spots found same le there. stays end.branch spots there (elim (one_behind ends now place here end (linked.before now here at) found (same ∙ sym of_level) le) [
        | inl e ↦ inl (ap (λ (z : LevelEnd). z.branch) (same_Some end here (sym found ∙ ap (slice_get ends) e ∙ at)))
        | inr past ↦ inr (before.each place end spots found same past there)
      ]);
    }

    pub either_step : (g : BranchSpots → BranchBuses) → AreEither f g branches buses → AreEither f g branches (slice_set buses here.branch (f own))
    either_step g before = record {
      each = λ k spots found. elim (before.each k spots found) [
        | inl h ↦ inl (stays k spots found (inr h))
        | inr h ↦ elim (cases_eq k here.branch) [
          | inl e ↦ inl (stays k spots found (inl e))
          | inr ne ↦ inr (get_other buses here.branch k (f own) (λ g. ne (sym g)) ∙ h)
        ]
      ];
    }

-- a list of what a function gives
made_all : (f : BranchSpots → BranchBuses) (xs : List BranchSpots) (ys : List BranchBuses) → length ys ≡ length xs → ((k : ℕ) (x : BranchSpots) → slice_get xs k ≡ Some x → slice_get ys k ≡ Some (f x)) → ys ≡ map f xs
made_all f [] [] long each = refl
made_all f [] (y ∷ ys) long each = absurd (omega (arith, long))
made_all f (x ∷ xs) [] long each = absurd (omega (arith, long))
made_all f (x ∷ xs) (y ∷ ys) long each = ap (λ z. z ∷ ys) (same_Some y (f x) (each zero x refl)) ∙ ap (λ z. f x ∷ z) (made_all f xs ys (omega (arith, long)) (λ k z e. each (suc k) z e))

pub either_map : (f g : BranchSpots → BranchBuses) (branches : List BranchSpots) → AreEither f g branches (map g branches)
either_map f g branches = record { each = λ k spots found. inr (got branches k spots found) }
  where
    got : (xs : List BranchSpots) (k : ℕ) (spots : BranchSpots) → slice_get xs k ≡ Some spots → slice_get (map g xs) k ≡ Some (g spots)
    got [] k spots e = absurd (cc)
    got (x ∷ xs) zero spots e = ap (λ z. Some (g z)) (same_Some x spots e)
    got (x ∷ xs) (suc k) spots e = got xs k spots e

-- once all ends of the level are done, all branches are
pub all_followed : (firsts : List ℕ) (before kept : List KeptLevel) (level : ℕ) (branches : List BranchSpots) (index : LevelEnds) (buses : List BranchBuses) → IsIndexOf branches index → level < length index.lasts → SameElsewhere level before kept
    → length buses ≡ length branches → AreEither (buses_of_spots firsts kept) (buses_of_spots firsts before) branches buses → AreMadeFrom (buses_of_spots firsts kept) index.ends level 0 branches buses
    → buses ≡ map (buses_of_spots firsts kept) branches
all_followed firsts before kept level branches index buses is inside others long either done =
    made_all (buses_of_spots firsts kept) branches buses long (λ k spots found.
    elim (cases_Bool (touches level spots)) [
      | inl on ↦ (let has = is.each level k spots (slice_get_within branches k spots found) inside found on in
          ap (slice_get buses) (sym has.of_branch) ∙ done.each has.place has.end spots has.found has.of_level (omega arith) (ap (slice_get branches) has.of_branch ∙ found))
      | inr off ↦ elim (either.each k spots found) [
        | inl h ↦ h
        | inr h ↦ h ∙ ap Some (sym (branch_left firsts before kept level others spots off))
      ]
    ])
