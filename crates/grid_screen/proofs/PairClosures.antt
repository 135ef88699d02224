-- Sets of numbers that have both ends of each pair or neither: what is joined to a number stands in those that it
-- stands in.
use Rattle.std.proofs.Common.{◌≡◌, refl, sym, ap, ◌∙◌, subst, ℕ, zero, suc, Bool, true, List, [], ◌∷◌, inl, inr, ◌⊎◌}
use Rattle.std.specs.List.{flat_map}
use Rattle.std.proofs.lemmas.Bool.{eqb-true}
use Rattle.grid_graph.specs.Joined.{end_across, neighbours, within, joined}
use Rattle.grid_graph.proofs.Reach.{In, In_left, In_right, In_parts, In_here, In_there, across_from, across_first, across_second, within_parts, within_step, within_here, within_saturates, joined_trans, Holds}
use Rattle.grid_outages.proofs.Members.{Among}

pub among_in : (x : ℕ) (xs : List ℕ) → Among x xs → In x xs
among_in x [] i = absurd i
among_in x (y ∷ ys) (inl e) = subst (λ (z : ℕ). In z (y ∷ ys)) (sym e) (In_here y ys)
among_in x (y ∷ ys) (inr i) = In_there x y ys (among_in x ys i)

-- a set has both ends of each pair or neither
abbrev pub IsClosed : (ℕ → Bool) → List (ℕ × ℕ) → Type 0
IsClosed set pairs = (pair : ℕ × ℕ) → Among pair pairs → set pair.0 ≡ set pair.1

module _ (set : ℕ → Bool) where
  next_alike : (pairs : List (ℕ × ℕ)) (a c : ℕ) → IsClosed set pairs → In c (neighbours pairs a) → set a ≡ set c
  unfolding neighbours
  next_alike [] a c h i = cc
  next_alike (p ∷ ps) a c h i = elim (In_parts c (end_across a p) (flat_map (end_across a) ps) i) [
    | inl j ↦ elim (across_from a c p j) [
      | inl e ↦ ap set (sym e.0) ∙ h p (inl refl) ∙ ap set (sym e.1)
      | inr e ↦ ap set (sym e.0) ∙ sym (h p (inl refl)) ∙ ap set (sym e.1)
    ]
    | inr j ↦ next_alike ps a c (λ q k. h q (inr k)) j
  ]

  pub within_alike : (pairs : List (ℕ × ℕ)) (k a b : ℕ) → IsClosed set pairs → within pairs k a b ≡ true → set a ≡ set b
  unfolding within
  within_alike pairs zero a b h w = ap set (eqb-true a b w)
  within_alike pairs (suc k) a b h w = elim (within_parts pairs k a b w) [
    | inl e ↦ ap set e
    | inr r ↦ next_alike pairs a r.0 h r.1 ∙ within_alike pairs k r.0 b h r.2
  ]

-- the ends of a pair are next to each other
pub next_first : (pair : ℕ × ℕ) (pairs : List (ℕ × ℕ)) → Among pair pairs → In pair.1 (neighbours pairs pair.0)
unfolding neighbours
next_first pair [] i = absurd i
next_first pair (p ∷ ps) (inl e) = In_left pair.1 (end_across pair.0 p) _ (subst (λ (q : ℕ × ℕ). In pair.1 (end_across pair.0 q)) e (across_first pair.0 pair refl))
next_first pair (p ∷ ps) (inr i) = In_right pair.1 (end_across pair.0 p) _ (next_first pair ps i)

pub next_second : (pair : ℕ × ℕ) (pairs : List (ℕ × ℕ)) → Among pair pairs → In pair.0 (neighbours pairs pair.1)
unfolding neighbours
next_second pair [] i = absurd i
next_second pair (p ∷ ps) (inl e) = In_left pair.0 (end_across pair.1 p) _ (subst (λ (q : ℕ × ℕ). In pair.0 (end_across pair.1 q)) e (across_second pair.1 pair refl))
next_second pair (p ∷ ps) (inr i) = In_right pair.0 (end_across pair.1 p) _ (next_second pair ps i)

module _ (nodes : List ℕ) (pairs : List (ℕ × ℕ)) (holds : Holds nodes pairs) where
  -- what is next to a joined number is joined
  pub joined_next : (a b c : ℕ) → In a nodes → joined nodes pairs a b ≡ true → In b nodes → In c (neighbours pairs b) → joined nodes pairs a c ≡ true
  joined_next a b c i h j near =
      joined_trans nodes pairs holds a b c i h (within_saturates nodes pairs holds 1 b c j (within_step pairs 0 b c c near (within_here pairs 0 c)))

-- what is next to a number is the other end of a pair
pub next_among : (pairs : List (ℕ × ℕ)) (a c : ℕ) → In c (neighbours pairs a) → (pair : ℕ × ℕ) × Among pair pairs × (((pair.0 ≡ a) × (c ≡ pair.1)) ⊎ ((pair.1 ≡ a) × (c ≡ pair.0)))
unfolding neighbours
next_among [] a c i = cc
next_among (p ∷ ps) a c i = elim (In_parts c (end_across a p) (flat_map (end_across a) ps) i) [
  | inl j ↦ (p, inl refl, across_from a c p j)
  | inr j ↦ (let r = next_among ps a c j in (r.0, inr r.1, r.2))
]
