-- The buses that a branch joins, end by end.
use Rattle.std.proofs.Common.{◌≡◌, refl, sym, ap, ◌∙◌, ℕ, zero, suc, Bool, List, [], ◌∷◌, ◌++◌, inl, inr, ◌⊎◌, Option, Some, None}
use Rattle.std.specs.Prelude.{flat_map, slice_get}
use Rattle.std.proofs.lemmas.Bool.{false≢true}
use Rattle.std.proofs.lemmas.Grind.{flat_map-append}
use Rattle.grid_graph.specs.Joined.{end_across, neighbours}
use Rattle.grid_graph.proofs.Reach.{In, In_left, In_right, In_parts, across_from, across_first}
use Rattle.grid_islands.specs.declared.spots.BranchBuses.{BranchBuses}
use Rattle.grid_islands.specs.Islands.{pair_between}
use Rattle.grid_islands.specs.Spots.{pairs_of_buses}
use Rattle.grid_islands.specs.Rejoining.{either_marked}
use Rattle.grid_islands.proofs.BranchPairs.{three_among}

pub near_append : (xs ys : List (ℕ × ℕ)) (x : ℕ) → neighbours (xs ++ ys) x ≡ neighbours xs x ++ neighbours ys x
unfolding neighbours
near_append xs ys x = flat_map-append (end_across x) xs ys

pub near_left : (xs ys : List (ℕ × ℕ)) (x c : ℕ) → In c (neighbours xs x) → In c (neighbours (xs ++ ys) x)
near_left xs ys x c i = rw (near_append xs ys x) (In_left c (neighbours xs x) (neighbours ys x) i)

pub near_right : (xs ys : List (ℕ × ℕ)) (x c : ℕ) → In c (neighbours ys x) → In c (neighbours (xs ++ ys) x)
near_right xs ys x c i = rw (near_append xs ys x) (In_right c (neighbours xs x) (neighbours ys x) i)

pub near_parts : (xs ys : List (ℕ × ℕ)) (x c : ℕ) → In c (neighbours (xs ++ ys) x) → In c (neighbours xs x) ⊎ In c (neighbours ys x)
near_parts xs ys x c i = In_parts c (neighbours xs x) (neighbours ys x) (rw (near_append xs ys x) at i)

pub near_none : (x c : ℕ) → In c (neighbours [] x) → ⊥
unfolding neighbours
near_none x c i = false≢true i

-- ---- one pair

between_near : (a b : Option ℕ) (x c : ℕ) → In c (neighbours (pair_between a b) x) → ((a ≡ Some x) × (b ≡ Some c)) ⊎ ((a ≡ Some c) × (b ≡ Some x))
unfolding pair_between neighbours
between_near None b x c i = absurd (false≢true i)
between_near (Some p) None x c i = absurd (false≢true i)
between_near (Some p) (Some q) x c i = elim (In_parts c (end_across x (p, q)) [] i) [
  | inl j ↦ elim (across_from x c (p, q) j) [
    | inl g ↦ inl (ap Some g.0, ap Some (sym g.1))
    | inr g ↦ inr (ap Some (sym g.1), ap Some g.0)
  ]
  | inr j ↦ absurd (false≢true j)
]

near_between : (a b : Option ℕ) (x c : ℕ) → a ≡ Some x → b ≡ Some c → In c (neighbours (pair_between a b) x)
unfolding pair_between neighbours
near_between a b x c e f = rw (e, f) (In_left c (end_across x (x, c)) [] (across_first x (x, c) refl))

-- ---- a branch's pairs

-- the two ends of a branch that stand in these buses
pub data Joins (b : BranchBuses) (x c : ℕ) : Type 0 where
  first_second : b.first ≡ Some x → b.second ≡ Some c → Joins b x c
  second_first : b.first ≡ Some c → b.second ≡ Some x → Joins b x c
  first_third : b.first ≡ Some x → b.third ≡ Some c → Joins b x c
  third_first : b.first ≡ Some c → b.third ≡ Some x → Joins b x c
  second_third : b.second ≡ Some x → b.third ≡ Some c → Joins b x c
  third_second : b.second ≡ Some c → b.third ≡ Some x → Joins b x c

abbrev parts : BranchBuses → List (ℕ × ℕ)
parts b = pair_between b.first b.second ++ (pair_between b.first b.third ++ pair_between b.second b.third)

pub joins_of : (b : BranchBuses) (x c : ℕ) → In c (neighbours (pairs_of_buses b) x) → Joins b x c
unfolding pairs_of_buses
joins_of b x c i =
    elim (near_parts (pair_between b.first b.second) (pair_between b.first b.third ++ pair_between b.second b.third) x c (rw (three_among b.first b.second b.third) at i)) [
      | inl j ↦ elim (between_near b.first b.second x c j) [ inl g ↦ first_second g.0 g.1 | inr g ↦ second_first g.0 g.1 ]
      | inr j ↦ elim (near_parts (pair_between b.first b.third) (pair_between b.second b.third) x c j) [
        | inl k ↦ elim (between_near b.first b.third x c k) [ inl g ↦ first_third g.0 g.1 | inr g ↦ third_first g.0 g.1 ]
        | inr k ↦ elim (between_near b.second b.third x c k) [ inl g ↦ second_third g.0 g.1 | inr g ↦ third_second g.0 g.1 ]
      ]
    ]

pub near_one : (b : BranchBuses) (x c : ℕ) → b.first ≡ Some x → b.second ≡ Some c → In c (neighbours (pairs_of_buses b) x)
unfolding pairs_of_buses
near_one b x c e f = rw (three_among b.first b.second b.third) (near_left (pair_between b.first b.second) (pair_between b.first b.third ++ pair_between b.second b.third) x c (near_between b.first b.second x c e f))

near_two : (b : BranchBuses) (x c : ℕ) → b.first ≡ Some x → b.third ≡ Some c → In c (neighbours (pairs_of_buses b) x)
unfolding pairs_of_buses
near_two b x c e f =
    rw (three_among b.first b.second b.third)
    (near_right (pair_between b.first b.second) (pair_between b.first b.third ++ pair_between b.second b.third) x c (near_left (pair_between b.first b.third) (pair_between b.second b.third) x c (near_between b.first b.third x c e f)))

-- where a test holds alike of all buses that a branch joins, its first end that stands in one tells
module _ (m : ℕ → Bool) (b : BranchBuses) (alike : (x c : ℕ) → In c (neighbours (pairs_of_buses b) x) → m x ≡ m c) where
  lead_first : (x : ℕ) → b.first ≡ Some x → either_marked m b.first b.second ≡ m x
  unfolding either_marked
  lead_first x e = rw e refl

  lead_second : (x c : ℕ) (o : Option ℕ) → b.first ≡ o → b.second ≡ Some x → ((a : ℕ) → b.first ≡ Some a → m a ≡ m x) → either_marked m o b.second ≡ m x
  unfolding either_marked
  lead_second x c None e f g = rw f refl
  lead_second x c (Some a) e f g = g a e

  pub leads : (x c : ℕ) → In c (neighbours (pairs_of_buses b) x) → either_marked m b.first b.second ≡ m x
  leads x c i = elim (joins_of b x c i) [
    | first_second e f ↦ lead_first x e
    | second_first e f ↦ lead_first c e ∙ sym (alike x c i)
    | first_third e f ↦ lead_first x e
    | third_first e f ↦ lead_first c e ∙ sym (alike x c i)
    | second_third e f ↦ lead_second x c b.first refl e (λ a g. alike a x (near_one b a x g e))
    | third_second e f ↦ lead_second c x b.first refl e (λ a g. alike a c (near_one b a c g e)) ∙ sym (alike x c i)
  ]

-- ---- the pairs of many branches

module _ {X : Type 0} (f : X → List (ℕ × ℕ)) where
  pub near_one_of : (xs : List X) (k : ℕ) (b : X) (x c : ℕ) → slice_get xs k ≡ Some b → In c (neighbours (f b) x) → In c (neighbours (flat_map f xs) x)
  near_one_of [] k b x c at i = absurd (cc)
  near_one_of (y ∷ xs) zero b x c at i = (let same : y ≡ b = cc in near_left (f y) (flat_map f xs) x c (rw same i))
  near_one_of (y ∷ xs) (suc k) b x c at i = near_right (f y) (flat_map f xs) x c (near_one_of xs k b x c at i)

  pub one_near : (xs : List X) (x c : ℕ) → In c (neighbours (flat_map f xs) x) → (k : ℕ) × ((b : X) × ((slice_get xs k ≡ Some b) × In c (neighbours (f b) x)))
  one_near [] x c i = absurd (near_none x c i)
  one_near (y ∷ xs) x c i = elim (near_parts (f y) (flat_map f xs) x c i) [
    | inl j ↦ (zero, (y, (refl, j)))
    | inr j ↦ (let r = one_near xs x c j in (suc r.0, (r.1.0, (r.1.1.0, r.1.1.1))))
  ]
