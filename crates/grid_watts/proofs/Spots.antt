-- Where the load, generator or battery of an id stands, and that it is the only one of its id.
use Rattle.std.proofs.Common.{◌≡◌, refl, sym, ap, ◌∙◌, ℕ, zero, suc, ◌+◌, ◌<◌, ◌≤◌, Bool, true, false, cond, not, ◌&&◌, List, [], ◌∷◌, ◌++◌, length, arith, Option, Some, None}
use Rattle.std.specs.Prelude.{map, find, slice_get, nat_lt, ◌==◌, option_and_then, option_map}
use Rattle.std.specs.List.{list_all}
use Rattle.std.proofs.lemmas.Bool.{and_parts, and_from, false≢true, eq-eqb, eqb-true, ltb-true, false_from_ne_true}
use Rattle.std.proofs.lemmas.Grind.{flat_map-append}
use Rattle.grid_ids.specs.Name.{same_id}
use Rattle.grid_ids.proofs.Alike.{same_itself}
use Rattle.grid_level.specs.declared.Placed.{Placed}
use Rattle.grid_level.specs.VoltageLevel.{VoltageLevel}
use Rattle.grid_level.specs.Passing.{is_branch_end, is_rising, stands_at}
use Rattle.grid_level.proofs.LevelEdits as on_level
use Rattle.grid_structure.specs.Network.{Network}
use Rattle.grid_structure.specs.Sites.{levels, site}
use Rattle.grid_structure.specs.Soundness.{IsSound}
use Rattle.grid_structure.proofs.Counts.{times}
use Rattle.grid_structure.proofs.OneLevel.{names_of}
use Rattle.grid_structure.proofs.NameCounts.{names_both}
use Rattle.grid_watts.specs.Watts.{is_powered, powered, powered_by}
use Rattle.grid_watts.specs.Nodes.{powered_at}
use Rattle.grid_watts.proofs.TerminalSums.{all_placed}
use Rattle.grid_watts.proofs.EquipmentShares.{branch_end_is_none, count_more}
use Rattle.grid_watts.proofs.EquipmentShifts.{names_once, found_powered}
use Rattle.grid_watts.proofs.FirstSides.{first_side, where_powered, by_first_side, level_at, site_below, sited_from, no_site}

-- no load, generator or battery of this id is among them
abbrev pub NoneOf : List ℕ → List Placed → Type 0
NoneOf id ps = list_all (λ (p : Placed). not (powered_by id p)) ps ≡ true

-- the terminals of a level on both sides of one of them, by rising node
pub record Around (id : List ℕ) (ps : List Placed) (p : Placed) : Type 0 where
  pub before : List Placed
  pub after : List Placed
  pub is : ps ≡ before ++ p ∷ after
  pub none_before : NoneOf id before
  pub none_after : NoneOf id after
  pub below : list_all (λ (q : Placed). nat_lt q.node p.node) before ≡ true
  pub above : list_all (nat_lt p.node) (map (λ (q : Placed). q.node) after) ≡ true

-- and the levels on both sides of that level
pub record Spot (net : Network) (id : List ℕ) (place : ℕ) (p : Placed) : Type 0 where
  pub found : powered net id ≡ Some p
  pub named : id ≡ p.terminal.equipment
  pub is_one : is_powered p.stand ≡ true
  pub front : List VoltageLevel
  pub level : VoltageLevel
  pub rest : List VoltageLevel
  pub is : levels net ≡ front ++ level ∷ rest
  pub place_is : length front ≡ place
  pub none_front : NoneOf id (all_placed front)
  pub none_rest : NoneOf id (all_placed rest)
  pub around : Around id level.placed p

-- ---- none of an id

pub none_of : (id : List ℕ) (ps : List Placed) → times id (names_of ps) ≡ 0 → NoneOf id ps
none_of id [] none = refl
none_of id (p ∷ ps) none = by (same_id id p.terminal.equipment) (is_powered p.stand) (is_branch_end p.stand) refl refl (sym (count_more id p ps) ∙ none) (none_of id ps)
  where
    by : (t w b : Bool) → is_powered p.stand ≡ w → is_branch_end p.stand ≡ b → cond b 0 (cond t 1 0) + times id (names_of ps) ≡ 0
        → (times id (names_of ps) ≡ 0 → NoneOf id ps) → (not (t && w) && list_all (λ (p : Placed). not (powered_by id p)) ps) ≡ true
    by true true true h k none again = absurd (false≢true (sym (branch_end_is_none p.stand k) ∙ h))
    by true true false h k none again = absurd (omega (arith, none))
    by true false true h k none again = again (omega (arith, none))
    by true false false h k none again = again (omega (arith, none))
    by false w true h k none again = again (omega (arith, none))
    by false w false h k none again = again (omega (arith, none))

pub none_found : (id : List ℕ) (ps : List Placed) → find (powered_by id) ps ≡ None → NoneOf id ps
none_found id [] h = refl
none_found id (p ∷ ps) h = by (powered_by id p) h (none_found id ps)
  where
    by : (t : Bool) → ◌≡◌ {A = Option Placed} (cond t (Some p) (find (powered_by id) ps)) None → (find (powered_by id) ps ≡ None → NoneOf id ps) → (not t && list_all (λ (p : Placed). not (powered_by id p)) ps) ≡ true
    by true h again = cc
    by false h again = again h

-- what is powered counts
counts : (id : List ℕ) (p : Placed) → same_id id p.terminal.equipment ≡ true → is_powered p.stand ≡ true → times id (names_of (p ∷ [])) ≡ 1
counts id p named is = by (is_branch_end p.stand) refl (count_more id p [])
  where
    by : (b : Bool) → is_branch_end p.stand ≡ b → times id (names_of (p ∷ [])) ≡ cond b 0 (cond (same_id id p.terminal.equipment) 1 0) + 0 → times id (names_of (p ∷ [])) ≡ 1
    by true k e = absurd (false≢true (sym (branch_end_is_none p.stand k) ∙ is))
    by false k e = e ∙ ap (λ t. cond t 1 0 + 0) named

-- ---- lists in parts

found_part : (test : Placed → Bool) (ps : List Placed) (p : Placed) → find test ps ≡ Some p → (before : List Placed) × (after : List Placed) × (ps ≡ before ++ p ∷ after)
found_part test [] p h = cc
found_part test (x ∷ ps) p h = by (test x) h (found_part test ps p)
  where
    by : (t : Bool) → ◌≡◌ {A = Option Placed} (cond t (Some x) (find test ps)) (Some p) → (find test ps ≡ Some p → (before : List Placed) × (after : List Placed) × (ps ≡ before ++ p ∷ after))
        → (before : List Placed) × (after : List Placed) × (x ∷ ps ≡ before ++ p ∷ after)
    by true h again = let same : x ≡ p = cc in ([], ps, ap (λ z. z ∷ ps) same)
    by false h again = let r = again h in (x ∷ r.0, r.1, ap (λ z. x ∷ z) r.2)

place_part : (ls : List VoltageLevel) (k : ℕ) → k < length ls → (l : VoltageLevel) × (front : List VoltageLevel) × (rest : List VoltageLevel) × (ls ≡ front ++ l ∷ rest) × (length front ≡ k) × (slice_get ls k ≡ Some l)
place_part [] k h = absurd (omega (arith, h))
place_part (x ∷ ls) zero h = (x, [], ls, refl, refl, refl)
place_part (x ∷ ls) (suc k) h = let r = place_part ls k (omega (arith, h)) in (r.0, x ∷ r.1, r.2, ap (λ z. x ∷ z) r.3, omega (arith, r.4), r.5)

reaches : (a : ℕ) (before after : List Placed) (p : Placed) → list_all (nat_lt a) (map (λ (q : Placed). q.node) (before ++ p ∷ after)) ≡ true → nat_lt a p.node ≡ true
reaches a [] after p h = (and_parts _ _ h).0
reaches a (x ∷ before) after p h = reaches a before after p (and_parts _ _ h).1

rising_parts : (before after : List Placed) (p : Placed) → is_rising (map (λ (q : Placed). q.node) (before ++ p ∷ after)) ≡ true
    → (list_all (λ (q : Placed). nat_lt q.node p.node) before ≡ true) × (list_all (nat_lt p.node) (map (λ (q : Placed). q.node) after) ≡ true)
unfolding is_rising
rising_parts [] after p h = (refl, (and_parts _ _ h).0)
rising_parts (x ∷ before) after p h =
    let parts = and_parts _ _ h in
    let r = rising_parts before after p parts.1 in
    (and_from _ _ (reaches x.node before after p parts.0) r.0, r.1)

-- each terminal is what stands at its node
pub found_at_node : (before after : List Placed) (p : Placed) → is_rising (map (λ (q : Placed). q.node) (before ++ p ∷ after)) ≡ true → find (stands_at p.node) (before ++ p ∷ after) ≡ Some p
unfolding is_rising stands_at
found_at_node [] after p h = ap (λ t. cond t (Some p) (find (stands_at p.node) after)) (eq-eqb p.node p.node refl)
found_at_node (x ∷ before) after p h =
    let parts = and_parts _ _ h in
    let less : x.node < p.node = ltb-true x.node p.node (reaches x.node before after p parts.0) in
    let other : (x.node == p.node) ≡ false = false_from_ne_true (x.node == p.node) (λ e. let same : x.node ≡ p.node = eqb-true x.node p.node e in omega (arith, same, less)) in
    ap (λ t. cond t (Some x) (find (stands_at p.node) (before ++ p ∷ after))) other ∙ found_at_node before after p parts.1

-- ---- in a sound network

found_at : (o : Option (ℕ × ℕ)) (q : Option Placed) (place : ℕ) (p : Placed) → option_and_then {U = ℕ × Placed} (λ at. option_map (λ p. (at.0, p)) q) o ≡ Some (place, p) → (n : ℕ) × (o ≡ Some (place, n)) × (q ≡ Some p)
found_at (Some pair) (Some q) place p h =
    let same : ◌≡◌ {A = ℕ × Placed} (pair.0, q) (place, p) = cc in
    (pair.1, ap (λ z. Some (z.0, pair.1)) same, ap (λ z. Some z.1) same)
found_at (Some pair) None place p h = cc
found_at None q place p h = cc

passed : (q p : Placed) → where_powered (Some q) ≡ Some p → q ≡ p
passed q p h = by (is_powered q.stand) h
  where
    by : (t : Bool) → ◌≡◌ {A = Option Placed} (cond t (Some q) None) (Some p) → q ≡ p
    by true h = cc
    by false h = cc

pub spot : (net : Network) (id : List ℕ) (place : ℕ) (p : Placed) → IsSound net → powered_at net id ≡ Some (place, p) → Spot net id place p
unfolding powered_at site
spot net id place p s h =
    let at = found_at (site net id 1) (powered net id) place p h in
    let here = place_part (levels net) place (site_below net id place at.0 at.1) in
    let l = here.0 in
    let from_start : place ≡ 0 + place = omega arith in
    let sited = sited_from id (levels net) 0 place at.0 l (at.1 ∙ ap (λ z. Some (z, at.0)) from_start) here.5 in
    let same : sited.placed ≡ p = passed sited.placed p (sym (ap where_powered sited.first) ∙ sym (by_first_side net id s) ∙ at.2) in
    let local : find (first_side id) l.placed ≡ Some p = sited.local ∙ ap (λ z. Some z) same in
    let part = found_part (first_side id) l.placed p local in
    let k = found_powered net id p at.2 in
    let one = counts id p (ap (same_id id) (sym k.named) ∙ same_itself id) k.is_one in
    let once : times id (names_of (all_placed (levels net))) ≤ 1 = names_once net id s in
    let split : all_placed (levels net) ≡ all_placed here.1 ++ (l.placed ++ all_placed here.2) = ap all_placed here.3 ∙ flat_map-append (λ (l : VoltageLevel). l.placed) here.1 (l ∷ here.2) in
    let a = ap (λ z. times id (names_of z)) split in
    let b = names_both id (all_placed here.1) (l.placed ++ all_placed here.2) in
    let c = names_both id l.placed (all_placed here.2) in
    let d = ap (λ z. times id (names_of z)) part.2 in
    let e = names_both id part.0 (p ∷ part.1) in
    let f = names_both id (p ∷ []) part.1 in
    let rises = rising_parts part.0 part.1 p (ap (λ z. is_rising (map (λ (q : Placed). q.node) z)) (sym part.2) ∙ (on_level.passes_of l (level_at (levels net) place l s.each_level here.5)).within.rise) in
    record {
      found = at.2;
      named = k.named;
      is_one = k.is_one;
      front = here.1;
      level = l;
      rest = here.2;
      is = here.3;
      place_is = here.4;
      none_front = none_of id (all_placed here.1) (omega (arith, a, b, c, d, e, f, one, once));
      none_rest = none_of id (all_placed here.2) (omega (arith, a, b, c, d, e, f, one, once));
      around = record {
        before = part.0;
        after = part.1;
        is = part.2;
        none_before = none_of id part.0 (omega (arith, a, b, c, d, e, f, one, once));
        none_after = none_of id part.1 (omega (arith, a, b, c, d, e, f, one, once));
        below = rises.0;
        above = rises.1;
      };
    }

-- nothing of the id is there
pub nowhere : (net : Network) (id : List ℕ) → IsSound net → powered_at net id ≡ None → powered net id ≡ None
unfolding powered_at
nowhere net id s h = by (site net id 1) (powered net id) refl refl h
  where
    by : (o : Option (ℕ × ℕ)) (q : Option Placed) → site net id 1 ≡ o → powered net id ≡ q → option_and_then {U = ℕ × Placed} (λ at. option_map (λ p. (at.0, p)) q) o ≡ None → powered net id ≡ None
    by None q e f h = no_site net id s e
    by (Some pair) None e f h = f
    by (Some pair) (Some q) e f h = cc
