-- A switch is found where it stands, and what stands at a node is no switch.
use Rattle.std.proofs.Common.{◌≡◌, refl, sym, ap, ◌∙◌, subst, ℕ, zero, suc, ◌+◌, ◌≤◌, Bool, true, false, cond, List, [], ◌∷◌, ◌++◌, map, arith, Option, Some, None}
use Rattle.std.specs.Prelude.{slice_get, position}
use Rattle.std.specs.Option.{option_map}
use Rattle.std.specs.List.{flat_map, list_any}
use Rattle.std.proofs.lemmas.List.{map-append}
use Rattle.grid_lemmas.proofs.Lists.{position-cons, some_got}
use Rattle.grid_ids.specs.Name.{same_id, has_id}
use Rattle.grid_ids.proofs.Alike.{same_is}
use Rattle.grid_level.specs.declared.Placed.{Placed}
use Rattle.grid_level.specs.declared.Switch.{Switch}
use Rattle.grid_level.specs.VoltageLevel.{VoltageLevel}
use Rattle.grid_structure.specs.Network.{Network}
use Rattle.grid_structure.specs.Sites.{levels, switches, level_ids, switch_ids, equipment_ids, all_ids, first_found, find_switch}
use Rattle.grid_structure.specs.Soundness.{IsSound}
use Rattle.grid_structure.proofs.Counts.{times, times-append, differ-times, there}
use Rattle.grid_structure.proofs.Frames.{is_same}
use Rattle.grid_structure.proofs.Places.{position_found, none_position}
use Rattle.grid_outages.proofs.Members.{Among, among_got, any_among, any_found, among_map, among_flat}
use Rattle.grid_screen.proofs.Sitings.{found_there}
use Rattle.grid_screen.proofs.Stands.{of_equipment}

-- ---- ids

pub among_has : (id : List ℕ) (ids : List (List ℕ)) → Among id ids → has_id ids id ≡ true
unfolding has_id
among_has id ids i = any_among (same_id id) id ids i (is_same id id refl)

pub has_among : (id : List ℕ) (ids : List (List ℕ)) → has_id ids id ≡ true → Among id ids
unfolding has_id
has_among id ids h = let f = any_found (same_id id) ids h in subst (λ (z : List ℕ). Among z ids) (sym (same_is id f.0 f.2)) f.1

abbrev names : List Switch → List (List ℕ)
names ss = map (λ (s : Switch). s.id) ss

abbrev is_named : List ℕ → Switch → Bool
is_named id s = same_id id s.id

-- ---- where a switch is found

own_place : (x : Switch) (ss : List Switch) (j : ℕ) → slice_get ss j ≡ Some x → times x.id (names ss) ≤ 1 → position (is_named x.id) ss ≡ Some j
own_place x [] j e lt = cc
own_place x (s ∷ ss) zero e lt =
    let same : s ≡ x = cc in
    position-cons (is_named x.id) s ss ∙ ap (λ t. cond t (Some 0) (option_map suc (position (is_named x.id) ss))) (is_same x.id s.id (ap (λ (z : Switch). z.id) (sym same)))
own_place x (s ∷ ss) (suc j) e lt = position-cons (is_named x.id) s ss ∙ by (same_id x.id s.id) refl (own_place x ss j e (omega (arith, lt)))
  where
    behind : 1 ≤ times x.id (names ss)
    behind = there x.id (names ss) (among_has x.id (names ss) (among_map (λ (s : Switch). s.id) x ss (among_got ss j x e)))

    by : (t : Bool) → same_id x.id s.id ≡ t → position (is_named x.id) ss ≡ Some j → cond t (Some 0) (option_map suc (position (is_named x.id) ss)) ≡ Some (suc j)
    by true is again = let one : ◌≡◌ {A = ℕ} (cond (same_id x.id s.id) 1 0) 1 = ap (λ t. cond t 1 0) is in absurd (omega (arith, lt, one, behind))
    by false is again = ap (option_map suc) again

nowhere : (id : List ℕ) (ss : List Switch) → times id (names ss) ≤ 0 → position (is_named id) ss ≡ None
nowhere id ss none = none_position (is_named id) ss (by (list_any (is_named id) ss) refl)
  where
    by : (t : Bool) → list_any (is_named id) ss ≡ t → t ≡ false
    by false e = refl
    by true e =
        let f = any_found (is_named id) ss e in
        let named = subst (λ (z : List ℕ). Among z (names ss)) (sym (same_is id f.0.id f.2)) (among_map (λ (s : Switch). s.id) f.0 ss f.1) in
        let some = there id (names ss) (among_has id (names ss) named) in
        absurd (omega (arith, none, some))

first_here : {A B : Type 0} (c : ℕ) (test : A → Option B) (x : A) (xs : List A) (y : B) → test x ≡ Some y → first_found c test (x ∷ xs) ≡ Some (c, y)
first_here {A} {B} c test x xs y e = ap (λ (o : Option B). elim o [ Some z ↦ Some (c, z) | None ↦ first_found (c + 1) test xs ]) e

first_later : {A B : Type 0} (c : ℕ) (test : A → Option B) (x : A) (xs : List A) → test x ≡ None → first_found c test (x ∷ xs) ≡ first_found (c + 1) test xs
first_later {A} {B} c test x xs e = ap (λ (o : Option B). elim o [ Some z ↦ Some (c, z) | None ↦ first_found (c + 1) test xs ]) e

own_level : (c k j : ℕ) (ls : List VoltageLevel) (l : VoltageLevel) (x : Switch) → slice_get ls k ≡ Some l → slice_get l.switches j ≡ Some x → times x.id (names (flat_map (λ (l : VoltageLevel). l.switches) ls)) ≤ 1
    → first_found c (λ (l : VoltageLevel). position (is_named x.id) l.switches) ls ≡ Some (c + k, j)
own_level c k j [] l x at is few = cc
own_level c zero j (h ∷ ls) l x at is few =
    let same : h ≡ l = cc in
    let parts = ap (times x.id) (map-append (λ (s : Switch). s.id) h.switches (flat_map (λ (l : VoltageLevel). l.switches) ls)) ∙ times-append x.id (names h.switches) (names (flat_map (λ (l : VoltageLevel). l.switches) ls)) in
    let here = own_place x h.switches j (ap (λ (z : VoltageLevel). slice_get z.switches j) same ∙ is) (omega (arith, few, parts)) in
    let none : c ≡ c + 0 = omega arith in
    first_here c (λ (l : VoltageLevel). position (is_named x.id) l.switches) h ls j here ∙ ap (λ (z : ℕ). Some (z, j)) none
own_level c (suc k) j (h ∷ ls) l x at is few =
    let parts = ap (times x.id) (map-append (λ (s : Switch). s.id) h.switches (flat_map (λ (l : VoltageLevel). l.switches) ls)) ∙ times-append x.id (names h.switches) (names (flat_map (λ (l : VoltageLevel). l.switches) ls)) in
    let inside = among_flat (λ (l : VoltageLevel). l.switches) x l ls (among_got ls k l at) (among_got l.switches j x is) in
    let some = there x.id (names (flat_map (λ (l : VoltageLevel). l.switches) ls)) (among_has x.id _ (among_map (λ (s : Switch). s.id) x (flat_map (λ (l : VoltageLevel). l.switches) ls) inside)) in
    let gone = nowhere x.id h.switches (omega (arith, few, parts, some)) in
    let moved : (c + 1) + k ≡ c + suc k = omega arith in
    first_later c (λ (l : VoltageLevel). position (is_named x.id) l.switches) h ls gone ∙ own_level (c + 1) k j ls l x at is (omega (arith, few, parts)) ∙ ap (λ (z : ℕ). Some (z, j)) moved

-- an id of a switch and of an equipment stands once at most
times_parts : (net : Network) (q : List ℕ) → IsSound net → times q (switch_ids net) + times q (equipment_ids net) ≤ 1
unfolding all_ids
times_parts net q sound =
    let subs = map (λ s. s.id) net.substations in
    let all : times q (all_ids net) ≤ 1 = differ-times (all_ids net) sound.ids q in
    let a = times-append q (subs ++ level_ids net) (switch_ids net) in
    let b = times-append q ((subs ++ level_ids net) ++ switch_ids net) (equipment_ids net) in
    let whole : times q (all_ids net) ≡ times q (((subs ++ level_ids net) ++ switch_ids net) ++ equipment_ids net) = refl in
    omega (arith, all, a, b, whole)

pub switch_own : (net : Network) (k j : ℕ) (l : VoltageLevel) (x : Switch) → IsSound net → slice_get (levels net) k ≡ Some l → slice_get l.switches j ≡ Some x → find_switch net x.id ≡ Some (k, j)
unfolding find_switch switch_ids switches
switch_own net k j l x sound at is =
    let few = times_parts net x.id sound in
    let none : 0 + k ≡ k = omega arith in
    own_level 0 k j (levels net) l x at is (omega (arith, few)) ∙ ap (λ (z : ℕ). Some (z, j)) none

-- ---- equipment

mentioned : (id : List ℕ) (ps : List Placed) (p : Placed) → Among p ps → p.terminal.equipment ≡ id → list_any (λ (p : Placed). same_id id p.terminal.equipment) ps ≡ true
mentioned id ps p i e = any_among (λ (p : Placed). same_id id p.terminal.equipment) p ps i (is_same id p.terminal.equipment (sym e))

pub placed_no_switch : (net : Network) (k : ℕ) (l : VoltageLevel) (p : Placed) → IsSound net → slice_get (levels net) k ≡ Some l → Among p l.placed → find_switch net p.terminal.equipment ≡ None
unfolding find_switch switch_ids switches
placed_no_switch net k l p sound at i = by (find_switch net p.terminal.equipment) refl
  where
    id : List ℕ
    id = p.terminal.equipment

    by : (o : Option (ℕ × ℕ)) → find_switch net p.terminal.equipment ≡ o → o ≡ None
    by None e = refl
    by (Some (a, b)) e =
        let f = found_there (λ (l : VoltageLevel). position (is_named p.terminal.equipment) l.switches) 0 (levels net) a b e in
        let place = position_found (is_named p.terminal.equipment) f.1.switches b f.4 in
        let x = some_got f.1.switches b place.0 in
        let same = same_is p.terminal.equipment x.0.id (place.1 x.0 x.1) in
        let inside = among_flat (λ (l : VoltageLevel). l.switches) x.0 f.1 (levels net) (among_got (levels net) f.0 f.1 f.3) (among_got f.1.switches b x.0 x.1) in
        let named = subst (λ (z : List ℕ). Among z (names (flat_map (λ (l : VoltageLevel). l.switches) (levels net)))) (sym same) (among_map (λ (s : Switch). s.id) x.0 _ inside) in
        let one = there p.terminal.equipment (names (flat_map (λ (l : VoltageLevel). l.switches) (levels net))) (among_has p.terminal.equipment _ named) in
        let two = there p.terminal.equipment (equipment_ids net) (of_equipment net p.terminal.equipment k l sound at (mentioned p.terminal.equipment l.placed p i refl)) in
        let few = times_parts net p.terminal.equipment sound in
        absurd (omega (arith, one, two, few))
