-- What pairs join does not depend on their order, nor on how often each stands.
use Rattle.std.proofs.Common.{◌≡◌, sym, subst, ℕ, zero, suc, ◌<◌, true, List, [], ◌∷◌, length, get_or, inl, inr, arith}
use Rattle.std.specs.List.{flat_map}
use Rattle.std.proofs.lemmas.Bool.{false≢true}
use Rattle.grid_lemmas.proofs.Bools.{same_test}
use Rattle.grid_graph.specs.Joined.{end_across, neighbours, joined}
use Rattle.grid_graph.specs.Components.{places}
use Rattle.grid_graph.specs.Graph.{graph, EndsBelow, joined_in, least_joined, count_joined}
use Rattle.grid_graph.proofs.Reach.{In, In_left, In_right, In_parts}
use Rattle.grid_graph.proofs.Places.{j_along, j_below, j_step, j_refl}
use Rattle.grid_graph.proofs.Below.{pairs_below}
use Rattle.grid_graph.proofs.Least.{least_is_least, least_is}
use Rattle.grid_components.proofs.Tallies.{counts_same}

-- each of the first pairs stands among the second ones
pub record AreAmong (first second : List (ℕ × ℕ)) : Type 0 where
  pub found : (k : ℕ) → k < length first → (j : ℕ) × (j < length second) × (get_or second j (0, 0) ≡ get_or first k (0, 0))

near_from : (pairs : List (ℕ × ℕ)) (x c : ℕ) → In c (neighbours pairs x) → (k : ℕ) × (k < length pairs) × In c (end_across x (get_or pairs k (0, 0)))
unfolding neighbours
near_from [] x c i = absurd (false≢true i)
near_from (p ∷ ps) x c i = elim (In_parts c (end_across x p) (flat_map (end_across x) ps) i) [
  | inl h ↦ (0, omega arith, h)
  | inr h ↦ (let r = near_from ps x c h in (suc r.0, omega (arith, r.1), r.2))
]

near_at : (pairs : List (ℕ × ℕ)) (x c k : ℕ) → k < length pairs → In c (end_across x (get_or pairs k (0, 0))) → In c (neighbours pairs x)
unfolding neighbours
near_at [] x c k lt i = absurd (omega arith)
near_at (p ∷ ps) x c zero lt i = In_left c (end_across x p) (flat_map (end_across x) ps) i
near_at (p ∷ ps) x c (suc k) lt i = In_right c (end_across x p) (flat_map (end_across x) ps) (near_at ps x c k (omega (arith, lt)) i)

near_among : (first second : List (ℕ × ℕ)) (x c : ℕ) → AreAmong first second → In c (neighbours first x) → In c (neighbours second x)
near_among first second x c h i =
    let r = near_from first x c i in
    let f = h.found r.0 r.1 in
    let P : ℕ × ℕ → Type 0 = λ p. In c (end_across x p) in
    near_at second x c f.0 f.1 (subst P (sym f.2) r.2)

-- what fewer pairs join, more pairs join
pub more_joined : (count : ℕ) (first second : List (ℕ × ℕ)) → EndsBelow first count → EndsBelow second count → AreAmong first second → (a b : ℕ) → a < count
    → joined_in (graph count first) a b ≡ true → joined_in (graph count second) a b ≡ true
unfolding joined_in
more_joined count first second ends more_ends h a b lt j =
    let fit = pairs_below count first ends in
    let more_fit = pairs_below count second more_ends in
    j_along count first fit (joined (places count) second a)
    (λ z c k i. j_step count second more_fit a z c lt (j_below count second more_fit a z lt k) k (near_among first second z c h i))
    a b (j_refl count second more_fit a) j

-- two lists with the same pairs
pub record AreAlike (count : ℕ) (first second : List (ℕ × ℕ)) : Type 0 where
  pub ends : EndsBelow first count
  pub other_ends : EndsBelow second count
  pub forth : AreAmong first second
  pub back : AreAmong second first

pub alike_joined : (count : ℕ) (first second : List (ℕ × ℕ)) → AreAlike count first second → (a b : ℕ) → a < count
    → joined_in (graph count first) a b ≡ joined_in (graph count second) a b
alike_joined count first second s a b lt =
    same_test _ _ (more_joined count first second s.ends s.other_ends s.forth a b lt) (more_joined count second first s.other_ends s.ends s.back a b lt)

pub alike_least : (count : ℕ) (first second : List (ℕ × ℕ)) → AreAlike count first second → (a : ℕ) → a < count
    → least_joined (graph count first) a ≡ least_joined (graph count second) a
alike_least count first second s a lt =
    let l : ℕ = least_joined (graph count second) a in
    let f = least_is_least (graph count second) a (pairs_below count second s.other_ends) lt in
    least_is (graph count first) a l (pairs_below count first s.ends) lt
    (record { reached = rw (alike_joined count first second s a l lt) f.reached; least = λ y j. f.least y (rw (alike_joined count first second s a y lt) at j) })

pub alike_count : (count : ℕ) (first second : List (ℕ × ℕ)) → AreAlike count first second → (a : ℕ) → a < count
    → count_joined (graph count first) a ≡ count_joined (graph count second) a
unfolding count_joined
alike_count count first second s a lt =
    counts_same (joined_in (graph count first) a) (joined_in (graph count second) a) (places count) (λ y i. alike_joined count first second s a y lt)
