-- Sums and pairs of all variants changed together.
use Rattle.std.proofs.Common.{◌≡◌, refl, sym, ap, ◌∙◌, ℕ, ℤ, zero, suc, ◌+◌, ◌<◌, false, List, [], ◌∷◌, ◌++◌, length, map, take, drop, get_or, set, arith, add-one, Option, Some, None}
use Rattle.std.specs.Prelude.{is_some, unwrap_or}
use Rattle.std.specs.List.{list_any}
use Rattle.grid_lemmas.proofs.Bools.{not_either}
use Rattle.grid_states.specs.declared.sums.Counted.{Counted}
use Rattle.grid_states.specs.Pairs.{value_at}
use Rattle.grid_states.specs.Sums.{taken}
use Rattle.grid_states.specs.Rows.{Rows, pairs_at, shifted, with_watts, without_terminal, HasRoom}
use Rattle.grid_states.proofs.PageOrder.{unlisted_kept}
use Rattle.grid_slots.specs.Variant.{Variant}
use Rattle.grid_slots.specs.Variants.{with_rows, all_changed, any_lists}

-- ---- the first of a list changed

module _ {X : Type 0} (f : X → X) where
  abbrev pub first : ℕ → List X → List X
  first k xs = map f (take k xs) ++ drop k xs

  first_next : (k : ℕ) (xs : List X) (d : X) → get_or (first k xs) k d ≡ get_or xs k d
  first_next zero xs d = refl
  first_next (suc k) [] d = refl
  first_next (suc k) (x ∷ xs) d = first_next k xs d

  first_more : (k : ℕ) (xs : List X) (d : X) → k < length xs → set (first k xs) k (f (get_or xs k d)) ≡ first (suc k) xs
  first_more k [] d lt = absurd (omega arith)
  first_more zero (x ∷ xs) d lt = refl
  first_more (suc k) (x ∷ xs) d lt = ap (λ rest. f x ∷ rest) (first_more k xs d (omega arith))

  -- the next one is as it was
  pub still_there : (k : ℕ) (old now : List X) (x : X) → now ≡ first k old → x ≡ get_or now k x → x ≡ get_or old k x
  still_there k old now x same is = is ∙ ap (λ z. get_or z k x) same ∙ first_next k old x

  -- one more in a loop
  pub one_more : (k : ℕ) (old now : List X) (x y : X) → now ≡ first k old → x ≡ get_or now k x → y ≡ f x → k < length old → set now k y ≡ first (k + 1) old
  one_more k old now x y same is made lt =
      let was = still_there k old now x same is in
      rw add-one (ap (λ z. set z k y) same ∙ ap (set (first k old) k) (made ∙ ap f was) ∙ first_more k old x lt)

  pub first_all : (k : ℕ) (xs : List X) → (k < length xs → ⊥) → first k xs ≡ map f xs
  first_all zero [] past = refl
  first_all zero (x ∷ xs) past = absurd (past (omega arith))
  first_all (suc k) [] past = refl
  first_all (suc k) (x ∷ xs) past = ap (λ rest. f x ∷ rest) (first_all k xs (λ lt. past (omega arith)))

-- ---- rooms

pub room_with : (rows : Rows) (level node : ℕ) (watts : ℤ) → HasRoom rows → HasRoom (with_watts rows level node watts)
unfolding with_watts
room_with rows level node watts room = record { load_low = room.load_low; load_high = room.load_high; generation_low = room.generation_low; generation_high = room.generation_high }

-- ---- a node that no variant lists

-- one that does not list it
not_listed : (o : Option ℤ) → is_some o ≡ false → o ≡ None
not_listed None h = refl
not_listed (Some x) h = cc

lose_unlisted : (rows : Rows) (level node : ℕ) (counted : Counted) → value_at node (pairs_at rows.watts level) ≡ None
    → shifted (taken counted.sum counted.watts) rows ≡ without_terminal rows level node counted
unfolding without_terminal
lose_unlisted rows level node counted none =
    ap (λ o. shifted (taken counted.sum (unwrap_or o counted.watts)) rows) (sym none)
    ∙ ap (shifted (taken counted.sum (unwrap_or (value_at node (pairs_at rows.watts level)) counted.watts))) (unlisted_kept rows level node none)

pub lose_none : (vs : List Variant) (level node : ℕ) (counted : Counted) → any_lists vs level node ≡ false
    → all_changed (shifted (taken counted.sum counted.watts)) vs ≡ all_changed (λ rows. without_terminal rows level node counted) vs
unfolding any_lists all_changed
lose_none [] level node counted none = refl
lose_none (v ∷ vs) level node counted none =
    let both = not_either (is_some (value_at node (pairs_at v.rows.watts level))) (list_any (λ u. is_some (value_at node (pairs_at u.rows.watts level))) vs) none in
    ap (λ rows. with_rows v rows ∷ map (λ u. with_rows u (shifted (taken counted.sum counted.watts) u.rows)) vs) (lose_unlisted v.rows level node counted (not_listed _ both.0))
    ∙ ap (λ rest. with_rows v (without_terminal v.rows level node counted) ∷ rest) (lose_none vs level node counted both.1)
