-- The load, generator or battery of an id stands where the terminal of its side 1 does.
use Rattle.std.proofs.Common.{◌≡◌, refl, sym, ap, ◌∙◌, subst, ℕ, zero, suc, pos, ◌+◌, ◌<◌, ◌≤◌, Bool, true, false, cond, ◌&&◌, ◌||◌, List, [], ◌∷◌, ◌++◌, length, arith, Option, Some, None, inl, inr}
use Rattle.std.specs.Prelude.{map, filter, find, slice_get, ◌==◌, nat_lt}
use Rattle.std.specs.Option.{option_map}
use Rattle.std.specs.List.{list_any, list_all}
use Rattle.std.proofs.lemmas.Bool.{and_parts, or_cases, or_left, or_right, eqb-true, eq-eqb, false≢true, true≢false, false_from_ne_true}
use Rattle.grid_ids.specs.Name.{same_id}
use Rattle.grid_ids.proofs.Alike.{same_is}
use Rattle.grid_level.specs.declared.Placed.{Placed}
use Rattle.grid_level.specs.declared.Stand.{Stand}
use Rattle.grid_level.specs.declared.Stand.TheVariants.{Busbar, Feeder, BranchEnd}
use Rattle.grid_level.specs.VoltageLevel.{VoltageLevel}
use Rattle.grid_level.specs.Passing.{is_branch_end, is_rising, stands_at, placed_at}
use Rattle.grid_level.specs.Sound.{side_passes, stand_passes, level_passes}
use Rattle.grid_level.proofs.LevelEdits as on_level
use Rattle.grid_structure.specs.Network.{Network}
use Rattle.grid_structure.specs.declared.Site.{Site}
use Rattle.grid_structure.specs.Sites.{levels, branches, site, first_found, terminal_spot}
use Rattle.grid_structure.specs.Soundness.{IsSound, placed_sides, record_sides, same_side}
use Rattle.grid_structure.proofs.Counts.{times}
use Rattle.grid_structure.proofs.OneLevel.{names_of}
use Rattle.grid_structure.proofs.Sides.{Side, has, has-append, among_has, sides_at, sides_in, is_same_side}
use Rattle.grid_structure.proofs.SoundRemovals.{sides_by}
use Rattle.grid_structure.proofs.Uniquely.{names_of_branches, some_branch, local_once}
use Rattle.grid_structure.proofs.TerminalRemovals.{above_found}
use Rattle.grid_watts.specs.Watts.{is_powered, powered, powered_by, terminals}
use Rattle.grid_watts.proofs.TerminalSums.{all_placed}
use Rattle.grid_watts.proofs.EquipmentShares.{branch_end_is_none, count_more}
use Rattle.grid_watts.proofs.EquipmentShifts.{names_within}

-- the terminal of side 1 of this id
abbrev pub first_side : List ℕ → Placed → Bool
first_side id p = same_id id p.terminal.equipment && (p.terminal.side == 1)

-- what is found, where it is powered
abbrev pub where_powered : Option Placed → Option Placed
where_powered None = None
where_powered (Some p) = cond (is_powered p.stand) (Some p) None

-- a branch end of this id
abbrev end_of : List ℕ → Placed → Bool
end_of id p = same_id id p.terminal.equipment && is_branch_end p.stand

-- ---- of one list

single_side : (side : ℕ) (s : Stand) → side_passes side s ≡ true → is_branch_end s ≡ false → (side == 1) ≡ true
unfolding side_passes is_branch_end
single_side side Busbar h k = h
single_side side (Feeder item) h k = (and_parts _ _ h).0
single_side side BranchEnd h k = absurd (true≢false k)

pub none_powered : (id : List ℕ) (ps : List Placed) → times id (names_of ps) ≡ 0 → find (powered_by id) ps ≡ None
none_powered id [] none = refl
none_powered id (p ∷ ps) none = by (same_id id p.terminal.equipment) (is_powered p.stand) (is_branch_end p.stand) refl refl (sym (count_more id p ps) ∙ none) (none_powered id ps)
  where
    by : (t w b : Bool) → is_powered p.stand ≡ w → is_branch_end p.stand ≡ b → cond b 0 (cond t 1 0) + times id (names_of ps) ≡ 0
        → (times id (names_of ps) ≡ 0 → find (powered_by id) ps ≡ None) → ◌≡◌ {A = Option Placed} (cond (t && w) (Some p) (find (powered_by id) ps)) None
    by true true true h k none again = absurd (false≢true (sym (branch_end_is_none p.stand k) ∙ h))
    by true true false h k none again = absurd (omega (arith, none))
    by true false true h k none again = again (omega (arith, none))
    by true false false h k none again = again (omega (arith, none))
    by false w true h k none again = again (omega (arith, none))
    by false w false h k none again = again (omega (arith, none))

-- where no single and branch end share the id, and at most one single has it
alone : (id : List ℕ) (ps : List Placed) → list_all stand_passes ps ≡ true → times id (names_of ps) ≤ 1 → (list_any (end_of id) ps ≡ true → times id (names_of ps) ≡ 0)
    → find (powered_by id) ps ≡ where_powered (find (first_side id) ps)
unfolding stand_passes
alone id [] passes once apart = refl
alone id (p ∷ ps) passes once apart =
    by (same_id id p.terminal.equipment) (is_powered p.stand) (is_branch_end p.stand) (p.terminal.side == 1) refl refl refl
    (subst (λ n. n ≤ 1) (count_more id p ps) once) (λ h. sym (count_more id p ps) ∙ apart h)
    (alone id ps parts.1)
  where
    parts : (side_passes p.terminal.side p.stand ≡ true) × (list_all stand_passes ps ≡ true)
    parts = and_parts (side_passes p.terminal.side p.stand) (list_all stand_passes ps) passes

    by : (t w b d : Bool) → is_powered p.stand ≡ w → is_branch_end p.stand ≡ b → (p.terminal.side == 1) ≡ d
        → cond b 0 (cond t 1 0) + times id (names_of ps) ≤ 1
        → ((t && b) || list_any (end_of id) ps ≡ true → cond b 0 (cond t 1 0) + times id (names_of ps) ≡ 0)
        → (times id (names_of ps) ≤ 1 → (list_any (end_of id) ps ≡ true → times id (names_of ps) ≡ 0) → find (powered_by id) ps ≡ where_powered (find (first_side id) ps))
        → ◌≡◌ {A = Option Placed} (cond (t && w) (Some p) (find (powered_by id) ps)) (where_powered (cond (t && d) (Some p) (find (first_side id) ps)))
    by true true true d h k e once apart again = absurd (false≢true (sym (branch_end_is_none p.stand k) ∙ h))
    by true false true true h k e once apart again = none_powered id ps (omega (arith, apart refl)) ∙ sym (ap (λ z. cond z (Some p) None) h)
    by true false true false h k e once apart again = again (omega (arith, once)) (λ g. omega (arith, apart refl))
    by true true false true h k e once apart again = sym (ap (λ z. cond z (Some p) None) h)
    by true false false true h k e once apart again = none_powered id ps (omega (arith, once)) ∙ sym (ap (λ z. cond z (Some p) None) h)
    by true w false false h k e once apart again = absurd (true≢false (sym (single_side p.terminal.side p.stand parts.0 k) ∙ e))
    by false w true d h k e once apart again = again (omega (arith, once)) (λ g. omega (arith, apart g))
    by false w false d h k e once apart again = again (omega (arith, once)) (λ g. omega (arith, apart g))

-- ---- in a sound network

all_stand : (ls : List VoltageLevel) → list_all level_passes ls ≡ true → list_all stand_passes (all_placed ls) ≡ true
all_stand [] h = refl
all_stand (l ∷ ls) h =
    let parts = and_parts (level_passes l) (list_all level_passes ls) h in
    on_level.all_join stand_passes l.placed (all_placed ls) (on_level.passes_of l parts.0).stands (all_stand ls parts.1)

-- a branch end is a side
end_side : (id level : List ℕ) (ps : List Placed) → list_any (end_of id) ps ≡ true → (x : Side) × (x.0 ≡ id) × (has (sides_at level ps) x ≡ true)
end_side id level [] h = absurd (false≢true h)
end_side id level (p ∷ ps) h = by (same_id id p.terminal.equipment) (is_branch_end p.stand) refl h (end_side id level ps)
  where
    side : Placed → Side
    side q = (q.terminal.equipment, q.terminal.side, level, pos q.node)

    rest : List Placed
    rest = filter (λ (q : Placed). is_branch_end q.stand) ps

    by : (t b : Bool) → same_id id p.terminal.equipment ≡ t → (t && b) || list_any (end_of id) ps ≡ true
        → (list_any (end_of id) ps ≡ true → (x : Side) × (x.0 ≡ id) × (has (sides_at level ps) x ≡ true))
        → (x : Side) × (x.0 ≡ id) × (has (map side (cond b (p ∷ rest) rest)) x ≡ true)
    by true true e h again = (side p, sym (same_is id p.terminal.equipment e), or_left (same_side (side p) (side p)) _ (is_same_side p.terminal.equipment p.terminal.side level p.node))
    by false true e h again = let k = again h in (k.0, k.1, or_right (same_side k.0 (side p)) _ k.2)
    by true false e h again = again h
    by false false e h again = again h

any-append : (test : Placed → Bool) (xs ys : List Placed) → list_any test (xs ++ ys) ≡ (list_any test xs || list_any test ys)
any-append test [] ys = refl
any-append test (x ∷ xs) ys = ap (λ z. test x || z) (any-append test xs ys) ∙ assoc (test x) (list_any test xs) (list_any test ys)
  where
    assoc : (a b c : Bool) → a || (b || c) ≡ (a || b) || c
    assoc true b c = refl
    assoc false b c = refl

end_in : (id : List ℕ) (ls : List VoltageLevel) → list_any (end_of id) (all_placed ls) ≡ true → (x : Side) × (x.0 ≡ id) × (has (sides_in ls) x ≡ true)
end_in id [] h = absurd (false≢true h)
end_in id (l ∷ ls) h = elim (or_cases (list_any (end_of id) l.placed) (list_any (end_of id) (all_placed ls)) (sym (any-append (end_of id) l.placed (all_placed ls)) ∙ h)) [
  | inl a ↦ (let k = end_side id l.id l.placed a in (k.0, k.1, has-append (sides_at l.id l.placed) (sides_in ls) k.0 ∙ or_left (has (sides_at l.id l.placed) k.0) (has (sides_in ls) k.0) k.2))
  | inr a ↦ (let k = end_in id ls a in (k.0, k.1, has-append (sides_at l.id l.placed) (sides_in ls) k.0 ∙ or_right (has (sides_at l.id l.placed) k.0) (has (sides_in ls) k.0) k.2))
]

-- the id of a branch end is a branch's
end_branch : (net : Network) (id : List ℕ) → IsSound net → list_any (end_of id) (all_placed (levels net)) ≡ true → 1 ≤ times id (names_of_branches (branches net))
unfolding placed_sides record_sides
end_branch net id s h =
    let k = end_in id (levels net) h in
    let there : has (sides_by (branches net)) k.0 ≡ true = among_has (sides_in (levels net)) (sides_by (branches net)) k.0 s.placed_are_sides k.2 in
    subst (λ (z : List ℕ). 1 ≤ times z (names_of_branches (branches net))) k.1 (some_branch (branches net) k.0 there)

pub by_first_side : (net : Network) (id : List ℕ) → IsSound net → powered net id ≡ where_powered (find (first_side id) (all_placed (levels net)))
unfolding powered terminals
by_first_side net id s =
    let few = names_within id (levels net) in
    let once = local_once net id s in
    alone id (all_placed (levels net)) (all_stand (levels net) s.each_level) (omega (arith, few, once)) (λ h. omega (arith, few, once, end_branch net id s h))

-- ---- where the side stands

abbrev node_in : List ℕ → VoltageLevel → Option ℕ
node_in id l = option_map (λ (p : Placed). p.node) (find (first_side id) l.placed)

-- the places that are found are not before the first one, and not above_found the last one
found_within : (id : List ℕ) (ls : List VoltageLevel) (c k n : ℕ) → first_found c (node_in id) ls ≡ Some (k, n) → (c ≤ k) × (k < c + length ls)
found_within id [] c k n h = cc
found_within id (l ∷ ls) c k n h = by (find (first_side id) l.placed) h (found_within id ls (c + 1) k n)
  where
    by : (o : Option Placed) → ◌≡◌ {A = Option (ℕ × ℕ)} (elim (option_map (λ (p : Placed). p.node) o) [ Some y ↦ Some (c, y) | None ↦ first_found (c + 1) (node_in id) ls ]) (Some (k, n))
        → (first_found (c + 1) (node_in id) ls ≡ Some (k, n) → (c + 1 ≤ k) × (k < c + 1 + length ls)) → (c ≤ k) × (k < c + suc (length ls))
    by (Some p) h again = let pair : ◌≡◌ {A = ℕ × ℕ} (c, p.node) (k, n) = cc in let same : c ≡ k = ap (λ z. z.0) pair in (omega (arith, same), omega (arith, same))
    by None h again = let r = again h in (omega (arith, r.0), omega (arith, r.1))

pub site_below : (net : Network) (id : List ℕ) (k n : ℕ) → site net id 1 ≡ Some (k, n) → k < length (levels net)
unfolding site
site_below net id k n h = omega (arith, (found_within id (levels net) 0 k n h).1)

-- the first terminal of side 1 stands at the place that is found
pub record Sited (id : List ℕ) (ls : List VoltageLevel) (l : VoltageLevel) (n : ℕ) : Type 0 where
  pub placed : Placed
  pub first : find (first_side id) (all_placed ls) ≡ Some placed
  pub local : find (first_side id) l.placed ≡ Some placed
  pub node : placed.node ≡ n

pub find_front : (test : Placed → Bool) (xs ys : List Placed) (x : Placed) → find test xs ≡ Some x → find test (xs ++ ys) ≡ Some x
find_front test [] ys x h = cc
find_front test (y ∷ xs) ys x h = by (test y) h (find_front test xs ys x)
  where
    by : (t : Bool) → ◌≡◌ {A = Option Placed} (cond t (Some y) (find test xs)) (Some x) → (find test xs ≡ Some x → find test (xs ++ ys) ≡ Some x)
        → ◌≡◌ {A = Option Placed} (cond t (Some y) (find test (xs ++ ys))) (Some x)
    by true h again = h
    by false h again = again h

pub find_behind : (test : Placed → Bool) (xs ys : List Placed) → find test xs ≡ None → find test (xs ++ ys) ≡ find test ys
find_behind test [] ys h = refl
find_behind test (y ∷ xs) ys h = by (test y) h (find_behind test xs ys)
  where
    by : (t : Bool) → ◌≡◌ {A = Option Placed} (cond t (Some y) (find test xs)) None → (find test xs ≡ None → find test (xs ++ ys) ≡ find test ys)
        → ◌≡◌ {A = Option Placed} (cond t (Some y) (find test (xs ++ ys))) (find test ys)
    by true h again = cc
    by false h again = again h

pub sited_from : (id : List ℕ) (ls : List VoltageLevel) (c k n : ℕ) (l : VoltageLevel) → first_found c (node_in id) ls ≡ Some (c + k, n) → slice_get ls k ≡ Some l → Sited id ls l n
sited_from id [] c k n l h at = cc
sited_from id (x ∷ ls) c k n l h at = by k (find (first_side id) x.placed) refl h at (λ j e. sited_from id ls (c + 1) j n l e)
  where
    by : (k : ℕ) (o : Option Placed) → find (first_side id) x.placed ≡ o
        → ◌≡◌ {A = Option (ℕ × ℕ)} (elim (option_map (λ (p : Placed). p.node) o) [ Some y ↦ Some (c, y) | None ↦ first_found (c + 1) (node_in id) ls ]) (Some (c + k, n))
        → slice_get (x ∷ ls) k ≡ Some l
        → ((j : ℕ) → first_found (c + 1) (node_in id) ls ≡ Some (c + 1 + j, n) → slice_get ls j ≡ Some l → Sited id ls l n)
        → Sited id (x ∷ ls) l n
    by zero (Some p) e h at again =
        let same : x ≡ l = cc in
        let pair : ◌≡◌ {A = ℕ × ℕ} (c, p.node) (c + 0, n) = cc in
        let node : p.node ≡ n = ap (λ z. z.1) pair in
        record { placed = p; first = find_front (first_side id) x.placed (all_placed ls) p e; local = ap (λ (z : VoltageLevel). find (first_side id) z.placed) (sym same) ∙ e; node = node }
    by (suc k) (Some p) e h at again = let pair : ◌≡◌ {A = ℕ × ℕ} (c, p.node) (c + suc k, n) = cc in let place : c ≡ c + suc k = ap (λ z. z.0) pair in absurd (omega (arith, place))
    by zero None e h at again = let r = found_within id ls (c + 1) (c + 0) n h in absurd (omega (arith, r.0))
    by (suc k) None e h at again =
        let next : c + suc k ≡ c + 1 + k = omega arith in
        let s = again k (h ∙ ap (λ z. Some (z, n)) next) at in
        record { placed = s.placed; first = find_behind (first_side id) x.placed (all_placed ls) e ∙ s.first; local = s.local; node = s.node }

nowhere_from : (id : List ℕ) (ls : List VoltageLevel) (c : ℕ) → first_found c (node_in id) ls ≡ None → find (first_side id) (all_placed ls) ≡ None
nowhere_from id [] c h = refl
nowhere_from id (x ∷ ls) c h = by (find (first_side id) x.placed) refl h (nowhere_from id ls (c + 1))
  where
    by : (o : Option Placed) → find (first_side id) x.placed ≡ o
        → ◌≡◌ {A = Option (ℕ × ℕ)} (elim (option_map (λ (p : Placed). p.node) o) [ Some y ↦ Some (c, y) | None ↦ first_found (c + 1) (node_in id) ls ]) None
        → (first_found (c + 1) (node_in id) ls ≡ None → find (first_side id) (all_placed ls) ≡ None) → find (first_side id) (all_placed (x ∷ ls)) ≡ None
    by (Some p) e h again = cc
    by None e h again = find_behind (first_side id) x.placed (all_placed ls) e ∙ again h

-- ---- by the node

-- the one that is found is what stands at its node
at_node : (test : Placed → Bool) (ps : List Placed) (p : Placed) → is_rising (map (λ (q : Placed). q.node) ps) ≡ true → find test ps ≡ Some p → find (stands_at p.node) ps ≡ Some p
unfolding is_rising stands_at
at_node test [] p rises at = cc
at_node test (q ∷ ps) p rises at = by (test q) at (at_node test ps p parts.1)
  where
    parts : (list_all (nat_lt q.node) (map (λ (r : Placed). r.node) ps) ≡ true) × (is_rising (map (λ (r : Placed). r.node) ps) ≡ true)
    parts = and_parts (list_all (nat_lt q.node) (map (λ (r : Placed). r.node) ps)) (is_rising (map (λ (r : Placed). r.node) ps)) rises

    by : (t : Bool) → ◌≡◌ {A = Option Placed} (cond t (Some q) (find test ps)) (Some p) → (find test ps ≡ Some p → find (stands_at p.node) ps ≡ Some p)
        → ◌≡◌ {A = Option Placed} (cond (q.node == p.node) (Some q) (find (stands_at p.node) ps)) (Some p)
    by true at again = let same : q ≡ p = cc in let here : (q.node == p.node) ≡ true = eq-eqb q.node p.node (ap (λ (z : Placed). z.node) same) in ap (λ t. cond t (Some q) (find (stands_at p.node) ps)) here ∙ ap (λ (z : Placed). Some z) same
    by false at again =
        let later = above_found test q.node ps p parts.0 at in
        let other : (q.node == p.node) ≡ false = false_from_ne_true (q.node == p.node) (λ e. let z : q.node ≡ p.node = eqb-true q.node p.node e in omega (arith, z, later)) in
        ap (λ t. cond t (Some q) (find (stands_at p.node) ps)) other ∙ again at

pub level_at : (ls : List VoltageLevel) (k : ℕ) (l : VoltageLevel) → list_all level_passes ls ≡ true → slice_get ls k ≡ Some l → level_passes l ≡ true
level_at [] k l h at = cc
level_at (x ∷ ls) zero l h at = let same : x ≡ l = cc in ap level_passes (sym same) ∙ (and_parts (level_passes x) (list_all level_passes ls) h).0
level_at (x ∷ ls) (suc k) l h at = level_at ls k l (and_parts (level_passes x) (list_all level_passes ls) h).1 at

pub at_site : (net : Network) (id : List ℕ) (k n : ℕ) (l : VoltageLevel) → IsSound net → site net id 1 ≡ Some (k, n) → slice_get (levels net) k ≡ Some l → powered net id ≡ where_powered (placed_at l n)
unfolding site placed_at
at_site net id k n l s h at =
    let place : k ≡ 0 + k = omega arith in
    let k = sited_from id (levels net) 0 k n l (h ∙ ap (λ z. Some (z, n)) place) at in
    let rises = (on_level.passes_of l (level_at (levels net) _ l s.each_level at)).within.rise in
    let here : find (stands_at n) l.placed ≡ Some k.placed = subst (λ m. find (stands_at m) l.placed ≡ Some k.placed) k.node (at_node (first_side id) l.placed k.placed rises k.local) in
    by_first_side net id s ∙ ap where_powered (k.first ∙ sym here)

pub no_site : (net : Network) (id : List ℕ) → IsSound net → site net id 1 ≡ None → powered net id ≡ None
unfolding site
no_site net id s h = by_first_side net id s ∙ ap where_powered (nowhere_from id (levels net) 0 h)

-- ---- as it is looked up

pub spot_none : (o : Option (ℕ × ℕ)) → option_map terminal_spot o ≡ None → o ≡ None
spot_none (Some pair) h = cc
spot_none None h = refl

pub spot_some : (o : Option (ℕ × ℕ)) (at : Site) → option_map terminal_spot o ≡ Some at → o ≡ Some (at.level, at.node)
spot_some (Some pair) at h = let same : terminal_spot pair ≡ at = cc in ap (λ (z : Site). Some (z.level, z.node)) same
spot_some None at h = cc

pub spot_below : (net : Network) (id : List ℕ) (at : Site) → option_map terminal_spot (site net id 1) ≡ Some at → at.level < length (levels net)
spot_below net id at h = site_below net id at.level at.node (spot_some (site net id 1) at h)

pub no_spot : (net : Network) (id : List ℕ) → IsSound net → option_map terminal_spot (site net id 1) ≡ None → powered net id ≡ None
no_spot net id s h = no_site net id s (spot_none (site net id 1) h)

pub at_spot : (net : Network) (id : List ℕ) (at : Site) (l : VoltageLevel) (found : Option Placed) → IsSound net → option_map terminal_spot (site net id 1) ≡ Some at → slice_get (levels net) at.level ≡ Some l
    → found ≡ placed_at l at.node → powered net id ≡ where_powered found
at_spot net id at l found s h here stands = at_site net id at.level at.node l s (spot_some (site net id 1) at h) here ∙ ap where_powered (sym stands)
