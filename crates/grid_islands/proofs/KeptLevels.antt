-- One level more that is kept as its flags make it.
use Rattle.std.proofs.Common.{◌≡◌, ◌≢◌, refl, sym, ap, ◌∙◌, subst, ℕ, zero, suc, ◌+◌, ◌<◌, ◌≤◌, Bool, List, [], ◌∷◌, length, Option, Some, None, inl, inr, arith}
use Rattle.std.specs.Prelude.{slice_get, IfSome, IsTrue}
use Rattle.std.proofs.lemmas.Bool.Decides.{eqb_tells}
use Rattle.std.proofs.lemmas.Option.{same_Some, slice_get_within}
use Rattle.grid_level.specs.VoltageLevel.{VoltageLevel}
use Rattle.grid_level.specs.Passing.{positioned}
use Rattle.grid_structure.specs.Network.{Network}
use Rattle.grid_structure.specs.Sites.{levels}
use Rattle.grid_busview.specs.Views.{bus_leasts, node_buses_of}
use Rattle.grid_states.specs.Rows.{row_at}
use Rattle.grid_islands.specs.declared.kept.KeptLevel.{KeptLevel}
use Rattle.grid_islands.specs.declared.kept.KeptBuses.{KeptBuses}
use Rattle.grid_islands.specs.declared.spots.IndexedSpots.{IndexedSpots}
use Rattle.grid_islands.specs.Numbering.{standing, counts_before, with_count, IsOwn, AreNumbers}
use Rattle.grid_islands.proofs.LevelComponents.{level_exists}
use Rattle.grid_islands.specs.declared.components.Numbers.{Numbers}
use Rattle.grid_islands.specs.Kept.{kept_of, IsKeptAt, IsLeftOrNone, AreBusesOf, AreNumbersOf, AreKept, AreKeptBefore, AreKeptBut, IsFollowedBy, IsSpotted}
use Rattle.grid_islands.proofs.LevelNumbers.{counts_none, counts_more}

module _ (net : Network) (old new : KeptBuses) (place : ℕ) (level : VoltageLevel) (row : List Bool) (at : slice_get (levels net) place ≡ Some level) (own : IsKeptAt new place (kept_of level row))
    (others : (other : ℕ) → other ≢ place → slice_get new.levels other ≡ slice_get old.levels other) where
  level_there : (k : ℕ) (l : VoltageLevel) → k ≡ place → slice_get (levels net) k ≡ Some l → l ≡ level
  level_there k l e there = same_Some l level (sym there ∙ ap (slice_get (levels net)) e ∙ at)

  made_anew : new.spots ≡ old.spots → new.numbers ≡ None → AreBusesOf net old → AreBusesOf net new
  unfolding kept_of
  made_anew spots none is = record {
    made = λ k l kept there at_new valid.
        elim (eqb_tells k place) [
          | inl e ↦ (let same : kept ≡ kept_of level row = same_Some kept (kept_of level row) (sym at_new ∙ ap (slice_get new.levels) e.1 ∙ own) in
              same ∙ ap (kept_of level) (sym (ap (λ (z : KeptLevel). z.opened) same)) ∙ ap (λ z. kept_of z kept.opened) (sym (level_there k l e.1 there)))
          | inr n ↦ is.made k l kept there (sym (others k n.1) ∙ at_new) valid
        ];
    spotted = subst (λ (z : IndexedSpots). 0 < length z.branches → IsSpotted net z) (sym spots) is.spotted;
    numbered = subst (λ (z : Option Numbers). IfSome z (AreNumbersOf net new)) (sym none) tt;
  }

  pub still_made : new.spots ≡ old.spots → IsLeftOrNone old new → AreBusesOf net old → AreBusesOf net new
  still_made spots (inl same) is = subst (AreBusesOf net) (sym same) is
  still_made spots (inr none) is = made_anew spots none is

  pub more_kept : (opened : List (List Bool)) → row ≡ row_at opened place → AreKeptBefore net opened place old → AreKeptBefore net opened (place + 1) new
  more_kept opened is before k l lt there =
      elim (eqb_tells k place) [
        | inl e ↦ ap (slice_get new.levels) e.1 ∙ own
            ∙ ap Some (ap (λ z. kept_of z row) (sym (level_there k l e.1 there)) ∙ ap (kept_of l) (is ∙ ap (row_at opened) (sym e.1)))
        | inr n ↦ others k n.1 ∙ before k l (omega (arith, lt, n.1)) there
      ]

  pub all_kept : (opened : List (List Bool)) → row ≡ row_at opened place → AreKeptBut net opened place old → AreKept net opened new
  all_kept opened is but k l lt there =
      elim (eqb_tells k place) [
        | inl e ↦ ap (slice_get new.levels) e.1 ∙ own
            ∙ ap Some (ap (λ z. kept_of z row) (sym (level_there k l e.1 there)) ∙ ap (kept_of l) (is ∙ ap (row_at opened) (sym e.1)))
        | inr n ↦ others k n.1 ∙ but k l n.1 there
      ]

-- a level whose flags are those with which it is kept
pub has_kept : (net : Network) (kept : KeptBuses) (place : ℕ) (level : VoltageLevel) (row : List Bool) (own : KeptLevel) → AreBusesOf net kept → slice_get (levels net) place ≡ Some level → IsKeptAt kept place own → IsTrue own.valid → own.opened ≡ row
    → IsKeptAt kept place (kept_of level row)
has_kept net kept place level row own is at there valid same = there ∙ ap Some (is.made place level own at there valid ∙ ap (kept_of level) same)

-- no level is at the place that is left out
pub none_but : (net : Network) (opened : List (List Bool)) (place : ℕ) (kept : KeptBuses) → length (levels net) ≤ place → AreKeptBut net opened place kept → AreKept net opened kept
none_but net opened place kept past but k level lt at = but k level (λ e. absurd (omega (arith, lt, past, e))) at

-- the levels before the one that is left out are kept
pub but_long : (net : Network) (opened : List (List Bool)) (place : ℕ) (kept : KeptBuses) → place < length (levels net) → AreKeptBut net opened place kept → place ≤ length kept.levels
but_long net opened zero kept inside but = omega arith
but_long net opened (suc k) kept inside but =
    let level = level_exists net k (omega (arith, inside)) in
    omega (arith, slice_get_within kept.levels k (kept_of level.0 (row_at opened k)) (but k level.0 (λ e. absurd (omega (arith, e))) level.1))

-- the numbers are let go
pub numbers_gone : (net : Network) (old new : KeptBuses) → new.levels ≡ old.levels → new.spots ≡ old.spots → new.numbers ≡ None → AreBusesOf net old → AreBusesOf net new
numbers_gone net old new same spots none is = record {
  made = λ k level own at there. is.made k level own at (ap (λ (z : List KeptLevel). slice_get z k) (sym same) ∙ there);
  spotted = subst (λ (z : IndexedSpots). 0 < length z.branches → IsSpotted net z) (sym spots) is.spotted;
  numbered = subst (λ (z : Option Numbers). IfSome z (AreNumbersOf net new)) (sym none) tt;
}

-- what is kept of the levels stays
pub still_kept : (net : Network) (opened : List (List Bool)) (count : ℕ) (old new : KeptBuses) → new.levels ≡ old.levels → AreKeptBefore net opened count old → AreKeptBefore net opened count new
still_kept net opened count old new same every k level lt at = ap (λ z. slice_get z k) same ∙ every k level lt at

-- what is kept of all levels but one stays
pub still_but : (net : Network) (opened : List (List Bool)) (place : ℕ) (old new : KeptBuses) → new.levels ≡ old.levels → AreKeptBut net opened place old → AreKeptBut net opened place new
still_but net opened place old new same but k level other at = ap (λ z. slice_get z k) same ∙ but k level other at

-- as many buses of each level make the same counts
module _ (net : Network) (one two : List (List Bool)) (alike : (k : ℕ) (level : VoltageLevel) → slice_get (levels net) k ≡ Some level → length (bus_leasts (standing one (k, level))) ≡ length (bus_leasts (standing two (k, level)))) where
  pub same_counts : (k : ℕ) → k ≤ length (levels net) → counts_before one (levels net) k ≡ counts_before two (levels net) k
  same_counts zero le = sym (counts_none one (levels net)) ∙ counts_none two (levels net)
  same_counts (suc k) le =
      let next : k + 1 ≡ suc k = omega arith in
      let level = level_exists net k (omega (arith, le)) in
      ap (counts_before one (levels net)) (sym next) ∙ sym (counts_more one (levels net) k level.0 level.1)
      ∙ ap (λ z. with_count z (length (bus_leasts (standing one (k, level.0))))) (same_counts k (omega (arith, le)))
      ∙ ap (with_count (counts_before two (levels net) k)) (alike k level.0 level.1)
      ∙ counts_more two (levels net) k level.0 level.1 ∙ ap (counts_before two (levels net)) next

-- where one level has other buses, but as many, the counts are the same
module _ (net : Network) (place : ℕ) (numbers : Numbers) (kept : KeptBuses) (opened : List (List Bool)) (is : IsFollowedBy net place numbers kept) (every : AreKept net opened kept) where
  alike : (k : ℕ) (level : VoltageLevel) → slice_get (levels net) k ≡ Some level → length (bus_leasts (standing is.were.opened (k, level))) ≡ length (bus_leasts (standing opened (k, level)))
  unfolding standing kept_of node_buses_of
  alike k level at =
      let lt = slice_get_within (levels net) k level at in
      let was = is.were.every k level lt at in
      let now = every k level lt at in
      elim (eqb_tells k place) [
        | inl e ↦ is.as_many (kept_of level (row_at is.were.opened k)) (kept_of level (row_at opened k)) (ap (slice_get is.before.levels) (sym e.1) ∙ was) (ap (slice_get kept.levels) (sym e.1) ∙ now)
        | inr n ↦ ap (λ (z : KeptLevel). length z.buses.leasts)
            (same_Some (kept_of level (row_at is.were.opened k)) (kept_of level (row_at opened k)) (sym was ∙ sym (is.others k n.1) ∙ now))
      ]

  pub counts_stay : numbers.counts ≡ counts_before opened (levels net) (length (levels net))
  counts_stay = is.were.numbered.counts ∙ same_counts net is.were.opened opened alike (length (levels net)) (omega arith)

-- rows of flags with which all levels are kept are no others
pub same_rows : (net : Network) (kept : KeptBuses) (one other : List (List Bool)) → length one ≡ length (levels net) → length other ≡ length (levels net) → AreKept net one kept → AreKept net other kept → one ≡ other
unfolding kept_of row_at
same_rows net kept one other long too every each = rows_same one other (long ∙ sym too) each_row
  where
    each_row : (k : ℕ) → k < length one → row_at one k ≡ row_at other k
    each_row k lt =
        let under : k < length (levels net) = omega (arith, lt, long) in
        let level = level_exists net k under in
        ap (λ (z : KeptLevel). z.opened) (same_Some (kept_of level.0 (row_at one k)) (kept_of level.0 (row_at other k)) (sym (every k level.0 under level.1) ∙ each k level.0 under level.1))

    -- row by row
    rows_same : (xs ys : List (List Bool)) → length xs ≡ length ys → ((k : ℕ) → k < length xs → row_at xs k ≡ row_at ys k) → xs ≡ ys
    rows_same [] [] l h = refl
    rows_same [] (y ∷ ys) l h = cc
    rows_same (x ∷ xs) [] l h = cc
    rows_same (x ∷ xs) (y ∷ ys) l h = ap (λ z. z ∷ xs) (h zero (omega arith)) ∙ ap (λ z. y ∷ z) (rows_same xs ys (omega (arith, l)) (λ k lt. h (suc k) (omega (arith, lt))))

-- the least nodes of the buses that are kept of a level
pub own_kept : (net : Network) (opened : List (List Bool)) (place : ℕ) (level : VoltageLevel) (leasts : List ℕ) → slice_get (levels net) place ≡ Some level → leasts ≡ bus_leasts (positioned level (row_at opened place)) → IsOwn net opened place leasts
unfolding standing
own_kept net opened place level leasts at own = record {
  inside = slice_get_within (levels net) place level at;
  own = λ l there. own ∙ ap (λ z. bus_leasts (positioned z (row_at opened place))) (same_Some level l (sym at ∙ there));
}

-- the numbers that are kept are those under the flags with which all levels are kept
pub numbers_are : (net : Network) (kept : KeptBuses) (opened : List (List Bool)) (numbers : Numbers) → length opened ≡ length (levels net) → AreKept net opened kept → AreBusesOf net kept → kept.numbers ≡ Some numbers → AreNumbers net opened numbers
numbers_are net kept opened numbers rows every buses is =
    let of : AreNumbersOf net kept numbers = subst (λ (o : Option Numbers). IfSome o (AreNumbersOf net kept)) is buses.numbered in
    subst (λ z. AreNumbers net z numbers) (same_rows net kept of.opened opened of.rows rows of.every every) of.numbered
