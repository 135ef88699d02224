-- In a sound structure a terminal stands on each side of an equipment.
use Rattle.std.proofs.Common.{◌≡◌, ◌≢◌, refl, sym, ap, ◌∙◌, subst, ℕ, ℤ, pos, zero, suc, ◌+◌, ◌<◌, ◌≤◌, Bool, true, false, cond, not, ◌&&◌, ◌||◌, List, [], ◌∷◌, length, map, arith, inl, inr, Option, Some, None}
use Rattle.std.specs.Prelude.{if◌then◌else◌, ◌==◌, filter, find, flat_map, is_some, option_map, slice_get, IsSome}
use Rattle.std.specs.List.{list_all, list_any}
use Rattle.std.proofs.lemmas.Bool.{and_parts, and_from, or_cases, or_left, or_right, false≢true, true≢false, eqb-true, eq-eqb}
use Rattle.grid_lemmas.proofs.Lists.{any_alike}
use Rattle.grid_lemmas.proofs.Options.{some_value}
use Rattle.grid_ids.specs.Name.{same_id, has_id}
use Rattle.grid_ids.proofs.Alike.{same_is}
use Rattle.grid_level.specs.declared.Placed.{Placed}
use Rattle.grid_level.specs.declared.Stand.{Stand}
use Rattle.grid_level.specs.declared.Stand.TheVariants.{Busbar, Feeder, BranchEnd}
use Rattle.grid_level.specs.VoltageLevel.{VoltageLevel}
use Rattle.grid_level.specs.Passing.{is_branch_end}
use Rattle.grid_level.specs.Sound.{level_passes, stand_passes, side_passes}
use Rattle.grid_level.proofs.LevelEdits as on_level
use Rattle.grid_structure.specs.declared.NamedBranch.{NamedBranch}
use Rattle.grid_structure.specs.declared.End.{End}
use Rattle.grid_structure.specs.Network.{Network}
use Rattle.grid_structure.specs.Sites.{levels, branches, single_ids, branch_named, branch_ends, sides, site, first_found}
use Rattle.grid_structure.specs.Soundness.{IsSound, record_sides, placed_sides, sides_from, same_side, same_int, all_among}
use Rattle.grid_structure.proofs.Found.{any-flat_map, some_find, some_mapped}
use Rattle.grid_structure.proofs.Frames.{is_same}
use Rattle.grid_structure.proofs.EquipmentRemovals.{two_or_more}
use Rattle.grid_structure.proofs.Sides.{Side}

-- the terminal of this side of the equipment
abbrev is_side : List ℕ → ℕ → Placed → Bool
is_side id n p = same_id id p.terminal.equipment && (p.terminal.side == n)

abbrev has_side : List ℕ → ℕ → VoltageLevel → Bool
has_side id n l = list_any (is_side id n) l.placed

-- ---- a site is found where some level has the terminal

some-first : {A B : Type 0} (test : A → Option B) (xs : List A) (c : ℕ) → is_some (first_found c test xs) ≡ list_any (λ x. is_some (test x)) xs
some-first test [] c = refl
some-first {A} {B} test (x ∷ xs) c = by (test x) (some-first test xs (c + 1))
  where
    by : (o : Option B) → is_some (first_found (c + 1) test xs) ≡ list_any (λ y. is_some (test y)) xs
        → is_some (elim o [ Some z ↦ Some (c, z) | None ↦ first_found (c + 1) test xs ]) ≡ is_some o || list_any (λ y. is_some (test y)) xs
    by (Some z) again = refl
    by None again = again

some_site : (net : Network) (id : List ℕ) (n : ℕ) → list_any (has_side id n) (levels net) ≡ true → is_some (site net id n) ≡ true
unfolding site
some_site net id n h =
    some-first (λ (l : VoltageLevel). option_map (λ (p : Placed). p.node) (find (is_side id n) l.placed)) (levels net) 0
    ∙ any_alike (λ (l : VoltageLevel). is_some (option_map (λ (p : Placed). p.node) (find (is_side id n) l.placed))) (has_side id n) (levels net) (λ l. some_mapped (λ (p : Placed). p.node) (find (is_side id n) l.placed) ∙ some_find (is_side id n) l.placed) ∙ h

-- ---- busbar sections and injections

single_side : (id : List ℕ) (ps : List Placed) → list_all stand_passes ps ≡ true → list_any (same_id id) (map (λ (p : Placed). p.terminal.equipment) (filter (λ (p : Placed). not (is_branch_end p.stand)) ps)) ≡ true → list_any (is_side id 1) ps ≡ true
unfolding stand_passes side_passes is_branch_end
single_side id [] all h = absurd (false≢true h)
single_side id (p ∷ ps) all h =
    let both = and_parts (side_passes p.terminal.side p.stand) (list_all (λ (q : Placed). side_passes q.terminal.side q.stand) ps) all in
    by p.stand both.0 h (single_side id ps both.1)
  where
    rest : List (List ℕ)
    rest = map (λ (q : Placed). q.terminal.equipment) (filter (λ (q : Placed). not (is_branch_end q.stand)) ps)

    here : (p.terminal.side == 1) ≡ true → same_id id p.terminal.equipment || list_any (same_id id) rest ≡ true → (list_any (same_id id) rest ≡ true → list_any (is_side id 1) ps ≡ true)
        → is_side id 1 p || list_any (is_side id 1) ps ≡ true
    here side h again = elim (or_cases (same_id id p.terminal.equipment) (list_any (same_id id) rest) h) [
      | inl e ↦ or_left (is_side id 1 p) (list_any (is_side id 1) ps) (and_from (same_id id p.terminal.equipment) (p.terminal.side == 1) e side)
      | inr e ↦ or_right (is_side id 1 p) (list_any (is_side id 1) ps) (again e)
    ]

    by : (stand : Stand) → side_passes p.terminal.side stand ≡ true
        → list_any (same_id id) (map (λ (q : Placed). q.terminal.equipment) (cond (not (is_branch_end stand)) (p ∷ filter (λ (q : Placed). not (is_branch_end q.stand)) ps) (filter (λ (q : Placed). not (is_branch_end q.stand)) ps))) ≡ true
        → (list_any (same_id id) rest ≡ true → list_any (is_side id 1) ps ≡ true) → is_side id 1 p || list_any (is_side id 1) ps ≡ true
    by Busbar side h again = here side h again
    by (Feeder item) side h again = here (and_parts (p.terminal.side == 1) _ side).0 h again
    by BranchEnd side h again = or_right (is_side id 1 p) (list_any (is_side id 1) ps) (again h)

singles_stand : (id : List ℕ) (ls : List VoltageLevel) → list_all level_passes ls ≡ true
    → list_any (λ (l : VoltageLevel). list_any (same_id id) (map (λ (p : Placed). p.terminal.equipment) (filter (λ (p : Placed). not (is_branch_end p.stand)) l.placed))) ls ≡ true → list_any (has_side id 1) ls ≡ true
singles_stand id [] all h = absurd (false≢true h)
singles_stand id (l ∷ ls) all h =
    let both = and_parts (level_passes l) (list_all level_passes ls) all in
    elim (or_cases _ (list_any (λ (l : VoltageLevel). list_any (same_id id) (map (λ (p : Placed). p.terminal.equipment) (filter (λ (p : Placed). not (is_branch_end p.stand)) l.placed))) ls) h) [
      | inl e ↦ or_left (has_side id 1 l) (list_any (has_side id 1) ls) (single_side id l.placed (on_level.passes_of l both.0).stands e)
      | inr e ↦ or_right (has_side id 1 l) (list_any (has_side id 1) ls) (singles_stand id ls both.1 e)
    ]

single_site : (net : Network) (id : List ℕ) → IsSound net → has_id (single_ids net) id ≡ true → is_some (site net id 1) ≡ true
unfolding has_id single_ids
single_site net id s h =
    some_site net id 1 (singles_stand id (levels net) s.each_level
    (sym (any-flat_map (same_id id) (λ (l : VoltageLevel). map (λ (p : Placed). p.terminal.equipment) (filter (λ (p : Placed). not (is_branch_end p.stand)) l.placed)) (levels net)) ∙ h))

-- ---- branches

-- what passes for all sides of all branches passes for those of one that is found
of_found : (test : NamedBranch → Bool) (p : Side → Bool) (f : NamedBranch → List Side) (bs : List NamedBranch) (b : NamedBranch) → list_all p (flat_map f bs) ≡ true → find test bs ≡ Some b → (list_all p (f b) ≡ true) × (test b ≡ true)
of_found test p f [] b all h = cc
of_found test p f (x ∷ bs) b all h =
    let both = on_level.all_parts p (f x) (flat_map f bs) all in
    by (test x) refl h both.0 (of_found test p f bs b both.1)
  where
    by : (t : Bool) → test x ≡ t → ◌≡◌ {A = Option NamedBranch} (cond t (Some x) (find test bs)) (Some b) → list_all p (f x) ≡ true → (find test bs ≡ Some b → (list_all p (f b) ≡ true) × (test b ≡ true)) → (list_all p (f b) ≡ true) × (test b ≡ true)
    by true e h here again = let same : x ≡ b = cc in subst (λ (z : NamedBranch). (list_all p (f z) ≡ true) × (test z ≡ true)) same (here, e)
    by false e h here again = again h

-- the side of this number
of_side : (p : Side → Bool) (id : List ℕ) (ends : List End) (first n : ℕ) → list_all p (sides_from id first ends) ≡ true → first ≤ n → n < first + length ends → (level : List ℕ) × (node : ℤ) × (p (id, n, level, node) ≡ true)
unfolding sides_from
of_side p id [] first n all low high = absurd (omega (arith, low, high))
of_side p id (end ∷ ends) first n all low high =
    let both = and_parts (p (id, first, end.level, end.node)) (list_all p (sides_from id (first + 1) ends)) all in
    by (first == n) refl both.0 (λ l h. of_side p id ends (first + 1) n both.1 l h)
  where
    by : (t : Bool) → (first == n) ≡ t → p (id, first, end.level, end.node) ≡ true → (first + 1 ≤ n → n < first + 1 + length ends → (level : List ℕ) × (node : ℤ) × (p (id, n, level, node) ≡ true))
        → (level : List ℕ) × (node : ℤ) × (p (id, n, level, node) ≡ true)
    by true e here again = (end.level, end.node, subst (λ (z : ℕ). p (id, z, end.level, end.node) ≡ true) (eqb-true first n e) here)
    by false e here again = again (omega (arith, low, unequal e)) (omega (arith, high))
      where
        unequal : (first == n) ≡ false → first ≢ n
        unequal e same = true≢false (sym (eq-eqb first n same) ∙ e)

placed_side : (id : List ℕ) (n : ℕ) (level : List ℕ) (node : ℤ) (l : VoltageLevel) (ps : List Placed)
    → list_any (same_side (id, n, level, node)) (map (λ (p : Placed). (p.terminal.equipment, p.terminal.side, l.id, pos p.node)) (filter (λ (p : Placed). is_branch_end p.stand) ps)) ≡ true → list_any (is_side id n) ps ≡ true
unfolding same_side
placed_side id n level node l [] h = absurd (false≢true h)
placed_side id n level node l (p ∷ ps) h = by (is_branch_end p.stand) h (placed_side id n level node l ps)
  where
    mine : Placed → Side
    mine q = (q.terminal.equipment, q.terminal.side, l.id, pos q.node)

    test : Side → Bool
    test b = same_id id b.0 && ((n == b.1) && (same_id level b.2 && same_int node b.3))

    rest : List Placed
    rest = filter (λ (q : Placed). is_branch_end q.stand) ps

    here : same_id id p.terminal.equipment && ((n == p.terminal.side) && (same_id level l.id && same_int node (pos p.node))) ≡ true → is_side id n p ≡ true
    here h =
        let a = and_parts (same_id id p.terminal.equipment) ((n == p.terminal.side) && (same_id level l.id && same_int node (pos p.node))) h in
        let b = and_parts (n == p.terminal.side) (same_id level l.id && same_int node (pos p.node)) a.1 in
        and_from (same_id id p.terminal.equipment) (p.terminal.side == n) a.0 (eq-eqb p.terminal.side n (sym (eqb-true n p.terminal.side b.0)))

    by : (t : Bool) → list_any test (map mine (cond t (p ∷ rest) rest)) ≡ true → (list_any test (map mine rest) ≡ true → list_any (is_side id n) ps ≡ true) → is_side id n p || list_any (is_side id n) ps ≡ true
    by true h again = elim (or_cases (test (mine p)) (list_any test (map mine rest)) h) [
      | inl e ↦ or_left (is_side id n p) (list_any (is_side id n) ps) (here e)
      | inr e ↦ or_right (is_side id n p) (list_any (is_side id n) ps) (again e)
    ]
    by false h again = or_right (is_side id n p) (list_any (is_side id n) ps) (again h)

any_implied : {X : Type 0} (p q : X → Bool) (xs : List X) → ((x : X) → p x ≡ true → q x ≡ true) → list_any p xs ≡ true → list_any q xs ≡ true
any_implied p q [] f h = absurd (false≢true h)
any_implied p q (x ∷ xs) f h = elim (or_cases (p x) (list_any p xs) h) [
  | inl e ↦ or_left (q x) (list_any q xs) (f x e)
  | inr e ↦ or_right (q x) (list_any q xs) (any_implied p q xs f e)
]

branch_site : (net : Network) (id : List ℕ) (b : NamedBranch) (n : ℕ) → IsSound net → branch_named net id ≡ Some b → 1 ≤ n → n ≤ length (branch_ends b.shape) → is_some (site net id n) ≡ true
unfolding branch_named all_among record_sides placed_sides
branch_site net id b n s named low high =
    let one = of_found (λ (x : NamedBranch). same_id id x.id) (λ a. list_any (same_side a) (placed_sides net)) (λ (x : NamedBranch). sides_from x.id 1 (branch_ends x.shape)) (branches net) b s.sides_placed named in
    let side = of_side (λ a. list_any (same_side a) (placed_sides net)) b.id (branch_ends b.shape) 1 n one.0 low (omega (arith, high)) in
    let same : b.id ≡ id = sym (same_is id b.id one.1) in
    let there : list_any (same_side (id, n, side.0, side.1)) (placed_sides net) ≡ true = subst (λ (z : List ℕ). list_any (same_side (z, n, side.0, side.1)) (placed_sides net) ≡ true) same side.2 in
    some_site net id n (any_implied _ (has_side id n) (levels net) (λ l h. placed_side id n side.0 side.1 l l.placed h)
    (sym (any-flat_map (same_side (id, n, side.0, side.1)) (λ (l : VoltageLevel). map (λ (p : Placed). (p.terminal.equipment, p.terminal.side, l.id, pos p.node)) (filter (λ (p : Placed). is_branch_end p.stand) l.placed)) (levels net)) ∙ there))

-- ---- the sides of an equipment

pub side_site : (net : Network) (id : List ℕ) (count n : ℕ) → IsSound net → sides net id ≡ Some count → 1 ≤ n → n ≤ count → is_some (site net id n) ≡ true
unfolding sides
side_site net id count n s h low high = by (has_id (single_ids net) id) refl h
  where
    of_branch : (o : Option NamedBranch) → branch_named net id ≡ o → option_map (λ (b : NamedBranch). length (branch_ends b.shape)) o ≡ Some count → is_some (site net id n) ≡ true
    of_branch (Some b) e h = let many : length (branch_ends b.shape) ≡ count = cc in branch_site net id b n s e low (omega (arith, high, many))
    of_branch None e h = cc

    by : (t : Bool) → has_id (single_ids net) id ≡ t → (if t then Some 1 else option_map (λ (b : NamedBranch). length (branch_ends b.shape)) (branch_named net id)) ≡ Some count → is_some (site net id n) ≡ true
    by true e h =
        let one : 1 ≡ count = cc (h) in
        let first : n ≡ 1 = omega (arith, low, high, one) in
        subst (λ (z : ℕ). is_some (site net id z) ≡ true) (sym first) (single_site net id s e)
    by false e h = of_branch (branch_named net id) refl h

-- the first two ends of a branch of the list
found_there : (bs : List NamedBranch) (k : ℕ) (b : NamedBranch) → slice_get bs k ≡ Some b → list_any (λ (x : NamedBranch). same_id b.id x.id) bs ≡ true
found_there [] k b e = cc
found_there (x ∷ bs) zero b e = let same : x ≡ b = cc in or_left (same_id b.id x.id) _ (is_same b.id x.id (ap (λ (z : NamedBranch). z.id) (sym same)))
found_there (x ∷ bs) (suc k) b e = or_right (same_id b.id x.id) _ (found_there bs k b e)

pub end_site : (net : Network) (k : ℕ) (b : NamedBranch) (n : ℕ) → IsSound net → slice_get (branches net) k ≡ Some b → 1 ≤ n → n ≤ 2 → is_some (site net b.id n) ≡ true
unfolding branch_named
end_site net k b n s at low high =
    let found = some_value (find (λ (x : NamedBranch). same_id b.id x.id) (branches net)) (some_find (λ (x : NamedBranch). same_id b.id x.id) (branches net) ∙ found_there (branches net) k b at) in
    branch_site net b.id found.0 n s found.1 low (omega (arith, two_or_more found.0.shape, high))

some_is : {X : Type 0} (o : Option X) → is_some o ≡ true → IsSome o
some_is (Some x) h = refl
some_is None h = absurd (false≢true h)

pub named_end : (net : Network) (k : ℕ) (id : List ℕ) (n : ℕ) → IsSound net → option_map (λ (b : NamedBranch). b.id) (slice_get (branches net) k) ≡ Some id → 1 ≤ n → n ≤ 2 → IsSome (site net id n)
named_end net k id n s h low high = by (slice_get (branches net) k) refl h
  where
    by : (o : Option NamedBranch) → slice_get (branches net) k ≡ o → option_map (λ (b : NamedBranch). b.id) o ≡ Some id → IsSome (site net id n)
    by (Some b) at e = let same : b.id ≡ id = cc in subst (λ (z : List ℕ). IsSome (site net z n)) same (some_is (site net b.id n) (end_site net k b n s at low high))
    by None at e = cc
