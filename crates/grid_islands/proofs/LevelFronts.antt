-- Lists of which the front was made anew, place by place.
use Rattle.std.proofs.Common.{◌≡◌, refl, sym, ap, ◌∙◌, ℕ, zero, suc, ◌+◌, ◌≤◌, Bool, true, false, List, [], ◌∷◌, length, map, set, arith, Option, Some, None}
use Rattle.std.specs.Prelude.{◌||◌, slice_get, option_and_then}
use Rattle.std.proofs.lemmas.Bool.{false≢true, eq-eqb}
use Rattle.grid_islands.specs.declared.kept.KeptLevel.{KeptLevel}
use Rattle.grid_islands.specs.declared.spots.Spot.{Spot}
use Rattle.grid_islands.specs.declared.spots.BranchSpots.{BranchSpots}
use Rattle.grid_islands.specs.Spots.{number_of_spot, buses_of_spots, is_in, touches, SameElsewhere}

module _ {X Y : Type 0} (f g : X → Y) where
  -- the items before a place by the one, and the others by the other
  unfoldable pub part_made : ℕ → List X → List Y
  part_made zero xs = map g xs
  part_made (suc k) [] = []
  part_made (suc k) (x ∷ xs) = f x ∷ part_made k xs

  pub all_made : (k : ℕ) (xs : List X) → length xs ≤ k → part_made k xs ≡ map f xs
  unfolding part_made
  all_made zero [] le = refl
  all_made zero (x ∷ xs) le = absurd (omega arith)
  all_made (suc k) [] le = refl
  all_made (suc k) (x ∷ xs) le = ap (λ z. f x ∷ z) (all_made k xs (omega arith))

  made_next : (k : ℕ) (xs : List X) (x : X) → slice_get xs k ≡ Some x → set (part_made k xs) k (f x) ≡ part_made (suc k) xs
  unfolding part_made
  made_next zero [] x at = absurd (cc)
  made_next zero (y ∷ xs) x at = let same : y ≡ x = cc in ap (λ z. f z ∷ map g xs) (sym same)
  made_next (suc k) [] x at = absurd (cc)
  made_next (suc k) (y ∷ xs) x at = ap (λ z. f y ∷ z) (made_next k xs x at)

  left_next : (k : ℕ) (xs : List X) (x : X) → slice_get xs k ≡ Some x → f x ≡ g x → part_made k xs ≡ part_made (suc k) xs
  unfolding part_made
  left_next zero [] x at same = absurd (cc)
  left_next zero (y ∷ xs) x at same = let e : y ≡ x = cc in ap (λ z. z ∷ map g xs) (ap g e ∙ sym same ∙ ap f (sym e))
  left_next (suc k) [] x at same = absurd (cc)
  left_next (suc k) (y ∷ xs) x at same = ap (λ z. f y ∷ z) (left_next k xs x at same)

  pub made_more : (k : ℕ) (xs : List X) (x : X) (now : List Y) (new : Y) → slice_get xs k ≡ Some x → now ≡ part_made k xs → new ≡ f x → set now k new ≡ part_made (k + 1) xs
  made_more k xs x now new at so_far is =
      let next : suc k ≡ k + 1 = omega arith in
      ap (λ z. set z k new) so_far ∙ ap (set (part_made k xs) k) is ∙ made_next k xs x at ∙ ap (λ n. part_made n xs) next

  pub left_more : (k : ℕ) (xs : List X) (x : X) (now : List Y) → slice_get xs k ≡ Some x → now ≡ part_made k xs → f x ≡ g x → now ≡ part_made (k + 1) xs
  left_more k xs x now at so_far same =
      let next : suc k ≡ k + 1 = omega arith in
      so_far ∙ left_next k xs x at same ∙ ap (λ n. part_made n xs) next

-- ---- branches that do not stand in the level that is another

module _ (firsts : List ℕ) (before after : List KeptLevel) (level : ℕ) (others : SameElsewhere level before after) where
  spot_left : (spot : Option Spot) → is_in level spot ≡ false → option_and_then (number_of_spot firsts after) spot ≡ option_and_then (number_of_spot firsts before) spot
  unfolding is_in number_of_spot
  spot_left None out = refl
  spot_left (Some spot) out = rw (others spot.level (λ e. false≢true (sym out ∙ eq-eqb spot.level level e))) refl

  none_first : (p q r : Bool) → (p || (q || r)) ≡ false → (p ≡ false) × ((q ≡ false) × (r ≡ false))
  none_first true q r e = absurd (false≢true (sym e))
  none_first false true r e = absurd (false≢true (sym e))
  none_first false false r e = (refl, (refl, e))

  pub branch_left : (branch : BranchSpots) → touches level branch ≡ false → buses_of_spots firsts after branch ≡ buses_of_spots firsts before branch
  unfolding touches buses_of_spots
  branch_left branch out =
      let each = none_first (is_in level branch.first) (is_in level branch.second) (is_in level branch.third) out in
      rw (spot_left branch.first each.0, spot_left branch.second each.1.0, spot_left branch.third each.1.1) refl
