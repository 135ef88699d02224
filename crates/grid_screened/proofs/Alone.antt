-- An equipment of one terminal stands at one node of one level.
use Rattle.std.proofs.Common.{◌≡◌, refl, sym, ap, ◌∙◌, subst, ℕ, zero, suc, ◌+◌, ◌≤◌, Bool, true, false, cond, not, List, [], ◌∷◌, map, arith, inl, inr}
use Rattle.std.specs.Prelude.{filter, slice_get, Some}
use Rattle.std.proofs.lemmas.Bool.{false≢true}
use Rattle.grid_ids.specs.Name.{same_id}
use Rattle.grid_level.specs.declared.Placed.{Placed}
use Rattle.grid_level.specs.declared.Stand.{Stand}
use Rattle.grid_level.specs.declared.Stand.TheVariants.{Busbar, Feeder, BranchEnd}
use Rattle.grid_level.specs.VoltageLevel.{VoltageLevel}
use Rattle.grid_level.specs.Passing.{is_branch_end}
use Rattle.grid_structure.specs.Network.{Network}
use Rattle.grid_structure.specs.Sites.{levels}
use Rattle.grid_structure.specs.Soundness.{IsSound}
use Rattle.grid_structure.proofs.Counts.{times, there}
use Rattle.grid_structure.proofs.Frames.{is_same, local, locals}
use Rattle.grid_structure.proofs.Uniquely.{local_once}
use Rattle.grid_busview.specs.Views.{is_load, is_generation}
use Rattle.grid_screen.proofs.BranchEnds.{is_end, branch_of_end}
use Rattle.grid_outages.proofs.Members.{Among, got_among, among_map, among_filter}
use Rattle.grid_screen.proofs.SwitchPlaces.{among_has}

-- ---- what stands once

module _ {X : Type 0} (name : X → List ℕ) (id : List ℕ) where
  named_in : (x : X) (xs : List X) → Among x xs → name x ≡ id → 1 ≤ times id (map name xs)
  named_in x xs i e = there id (map name xs) (among_has id (map name xs) (subst (λ (z : List ℕ). Among z (map name xs)) e (among_map name x xs i)))

  twice : (z y : X) (zs : List X) → name z ≡ id → Among y zs → name y ≡ id → times id (map name (z ∷ zs)) ≤ 1 → ⊥
  twice z y zs e j f lt =
      let own : ◌≡◌ {A = ℕ} (cond (same_id id (name z)) 1 0) 1 = ap (λ t. cond t 1 0) (is_same id (name z) (sym e)) in
      omega (arith, own, named_in y zs j f, lt)

  once_same : (xs : List X) (x y : X) → Among x xs → Among y xs → name x ≡ id → name y ≡ id → times id (map name xs) ≤ 1 → x ≡ y
  once_same [] x y i j e f lt = absurd i
  once_same (z ∷ zs) x y (inl i) (inl j) e f lt = i ∙ sym j
  once_same (z ∷ zs) x y (inl i) (inr j) e f lt = absurd (twice z y zs (ap name (sym i) ∙ e) j f lt)
  once_same (z ∷ zs) x y (inr i) (inl j) e f lt = absurd (twice z x zs (ap name (sym j) ∙ f) i e lt)
  once_same (z ∷ zs) x y (inr i) (inr j) e f lt = once_same zs x y i j e f (omega (arith, lt))

local_below : (id : List ℕ) (ls : List VoltageLevel) (k : ℕ) (l : VoltageLevel) → slice_get ls k ≡ Some l → local id l ≤ locals id ls
local_below id [] k l at = cc
local_below id (y ∷ ls) zero l at = let same : y ≡ l = cc in subst (λ (z : VoltageLevel). local id z ≤ local id y + locals id ls) same (omega arith)
local_below id (y ∷ ls) (suc k) l at = let again = local_below id ls k l at in omega (arith, again)

one_level : (id : List ℕ) (ls : List VoltageLevel) (j k : ℕ) (a b : VoltageLevel) → locals id ls ≤ 1 → slice_get ls j ≡ Some a → slice_get ls k ≡ Some b → 1 ≤ local id a → 1 ≤ local id b → j ≡ k
one_level id [] j k a b few f g h i = cc
one_level id (y ∷ ls) zero zero a b few f g h i = refl
one_level id (y ∷ ls) zero (suc k) a b few f g h i =
    let same : y ≡ a = cc in
    let here : 1 ≤ local id y = subst (λ (z : VoltageLevel). 1 ≤ local id z) (sym same) h in
    let behind = local_below id ls k b g in
    absurd (omega (arith, here, behind, i, few))
one_level id (y ∷ ls) (suc j) zero a b few f g h i =
    let same : y ≡ b = cc in
    let here : 1 ≤ local id y = subst (λ (z : VoltageLevel). 1 ≤ local id z) (sym same) i in
    let behind = local_below id ls j a f in
    absurd (omega (arith, here, behind, h, few))
one_level id (y ∷ ls) (suc j) (suc k) a b few f g h i = ap suc (one_level id ls j k a b (omega (arith, few)) f g h i)

-- ---- in a sound network

module _ (net : Network) (k j : ℕ) (l m : VoltageLevel) (p q : Placed) (sound : IsSound net) (at : slice_get (levels net) k ≡ Some l) (here : slice_get (levels net) j ≡ Some m)
    (stands : Among p l.placed) (other : Among q m.placed) (same : q.terminal.equipment ≡ p.terminal.equipment) (alone : is_branch_end p.stand ≡ false) where
  abbrev id : List ℕ
  id = p.terminal.equipment

  abbrev single : Placed → Bool
  single r = not (is_branch_end r.stand)

  abbrev owner : Placed → List ℕ
  owner r = r.terminal.equipment

  other_alone : is_branch_end q.stand ≡ false
  other_alone = by (is_branch_end q.stand) refl
    where
      by : (t : Bool) → is_branch_end q.stand ≡ t → t ≡ false
      by false e = refl
      by true e =
          let there = got_among q m.placed other in
          let own = got_among p l.placed stands in
          let b = branch_of_end net j there.0 m q sound here there.1 e in
          absurd (false≢true (sym alone ∙ is_end net k own.0 l p b.0 sound at own.1 b.1 (sym same ∙ b.2)))

  in_singles : (n : VoltageLevel) (r : Placed) → Among r n.placed → is_branch_end r.stand ≡ false → Among r (filter single n.placed)
  in_singles n r i e = among_filter single r n.placed i (ap not e)

  few : locals id (levels net) ≤ 1
  few = omega (arith, local_once net id sound)

  pub one_place : k ≡ j
  one_place =
      let first = named_in owner id p (filter single l.placed) (in_singles l p stands alone) refl in
      let second = named_in owner id q (filter single m.placed) (in_singles m q other other_alone) same in
      one_level id (levels net) k j l m few at here (omega (arith, first)) (omega (arith, second))

  pub one_node : p.node ≡ q.node
  one_node =
      let level : ◌≡◌ (Some m) (Some l) = sym here ∙ ap (slice_get (levels net)) (sym one_place) ∙ at in
      let is : m ≡ l = cc in
      let second = subst (λ (z : VoltageLevel). Among q (filter single z.placed)) is (in_singles m q other other_alone) in
      let once = local_below id (levels net) k l at in
      let most = few in
      ap (λ (r : Placed). r.node) (once_same owner id (filter single l.placed) p q (in_singles l p stands alone) second refl same (omega (arith, once, most)))

-- ---- loads and generation

pub load_alone : (s : Stand) → is_load s ≡ true → is_branch_end s ≡ false
unfolding is_load is_branch_end
load_alone Busbar h = refl
load_alone (Feeder item) h = refl
load_alone BranchEnd h = absurd (false≢true h)

pub generation_alone : (s : Stand) → is_generation s ≡ true → is_branch_end s ≡ false
unfolding is_generation is_branch_end
generation_alone Busbar h = refl
generation_alone (Feeder item) h = refl
generation_alone BranchEnd h = absurd (false≢true h)
