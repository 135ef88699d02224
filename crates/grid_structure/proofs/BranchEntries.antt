-- A branch more: what the table finds then, and what the structure keeps.
use Rattle.std.proofs.Common.{◌≡◌, refl, sym, ap, ◌∙◌, ℕ, ◌<◌, Bool, true, false, cond, List, [], ◌∷◌, ◌++◌, length, Option, Some, None}
use Rattle.std.specs.Prelude.{find, position, slice_get, ◌==◌, nat_lt, Ok}
use Rattle.std.specs.Option.{option_map}
use Rattle.std.specs.List.{list_any, list_all}
use Rattle.std.specs.Str.{bytes_eq}
use Rattle.std.proofs.lemmas.Bool.{eqb-true, lt-ltb, and_from}
use Rattle.grid_ids.specs.Name.{same_id}
use Rattle.grid_ids.proofs.Alike.{same_swap}
use Rattle.grid_level.specs.VoltageLevel.{VoltageLevel}
use Rattle.grid_structure.specs.declared.NamedBranch.{NamedBranch}
use Rattle.grid_structure.specs.declared.Branch.{Branch}
use Rattle.grid_structure.specs.declared.Branch.TheVariants.{Line, TwoWindings, ThreeWindings}
use Rattle.grid_structure.specs.declared.End.{End}
use Rattle.grid_structure.specs.declared.structure.IdOwner.{IdOwner}
use Rattle.grid_structure.specs.declared.structure.Head.{Head}
use Rattle.grid_structure.specs.declared.branches.LevelFound.{LevelFound}
use Rattle.grid_structure.specs.declared.branches.LevelFound.TheVariants.{Nowhere, Elsewhere, At}
use Rattle.grid_structure.specs.declared.branches.Landing.{Landing}
use Rattle.grid_structure.specs.declared.branches.Landings.{Landings}
use Rattle.grid_structure.specs.Sites.{branch_ends}
use Rattle.grid_structure.specs.Indexed.{substation_at, level_at, switch_at, sides_at, terminal_at, is_within, has_switch, has_terminal}
use Rattle.grid_structure.specs.Landing.{landed_at, landed, IsSpot, IsLanding, AreLandings, key_of, branch_entry, landing_list}
use Rattle.grid_structure.proofs.Frames.{is_same}
use Rattle.grid_structure.proofs.Flat.{IsFlat, turned, has_single, sides_over}
use Rattle.grid_structure.proofs.Singles.{eq_swap}
use Rattle.grid_structure.proofs.LevelInsertions.{position_heads, heads_alike}
use Rattle.grid_structure.proofs.EndLandings.{Lands, lands, SameButEnds, same_length, same_position, same_switches, same_singles, end_step}
use Rattle.grid_structure.proofs.Undone.{Both, both}
use Rattle.grid_level.proofs.LevelEdits as on_level
use Rattle.std.proofs.lemmas.Option.{slice_get_within}

-- ---- the branch in the list of branches

find_other : {X : Type 0} (p : X → Bool) (front back : List X) (b : X) → p b ≡ false → find p (front ++ b ∷ back) ≡ find p (front ++ back)
find_other p [] back b h = rw h refl
find_other {X} p (x ∷ front) back b h = by (p x) (find_other p front back b h)
  where
    by : (t : Bool) → find p (front ++ b ∷ back) ≡ find p (front ++ back) → ◌≡◌ {A = Option X} (cond t (Some x) (find p (front ++ b ∷ back))) (cond t (Some x) (find p (front ++ back)))
    by true e = refl
    by false e = e

find_own : {X : Type 0} (p : X → Bool) (front back : List X) (b : X) → p b ≡ true → find p (front ++ back) ≡ None → find p (front ++ b ∷ back) ≡ Some b
find_own p [] back b h e = rw h refl
find_own {X} p (x ∷ front) back b h e = by (p x) e (find_own p front back b h)
  where
    by : (t : Bool) → ◌≡◌ {A = Option X} (cond t (Some x) (find p (front ++ back))) None → (find p (front ++ back) ≡ None → find p (front ++ b ∷ back) ≡ Some b) → ◌≡◌ {A = Option X} (cond t (Some x) (find p (front ++ b ∷ back))) (Some b)
    by true e again = cc
    by false e again = again e

abbrev pub count_sides : Option NamedBranch → Option ℕ
count_sides o = option_map (λ (b : NamedBranch). length (branch_ends b.shape)) o

-- nothing is found where no entry is
none_single : (ls : List VoltageLevel) (bs : List NamedBranch) (e : List ℕ) → sides_over ls bs e ≡ None → list_any (has_single e) ls ≡ false
none_single ls bs e h = by (list_any (has_single e) ls) h
  where
    by : (t : Bool) → ◌≡◌ {A = Option ℕ} (cond t (Some 1) (count_sides (find (λ (b : NamedBranch). same_id e b.id) bs))) None → t ≡ false
    by true h = cc
    by false h = refl

none_branch : (ls : List VoltageLevel) (bs : List NamedBranch) (e : List ℕ) → sides_over ls bs e ≡ None → find (λ (b : NamedBranch). same_id e b.id) bs ≡ None
none_branch ls bs e h = by (list_any (has_single e) ls) (find (λ (b : NamedBranch). same_id e b.id) bs) h
  where
    by : (t : Bool) (o : Option NamedBranch) → ◌≡◌ {A = Option ℕ} (cond t (Some 1) (count_sides o)) None → o ≡ None
    by true o h = cc
    by false (Some b) h = cc
    by false None h = refl

-- ---- where the ends are found

-- a landing that was placed, with its key
record Keyed_end (heads : List Head) (places : List ℕ) (e : List ℕ) (l : Landing) (ls after : List VoltageLevel) : Type 0 where
  pub w : Lands e l.spot l.side ls after
  pub key : slice_get places (key_of l.spot) ≡ Some w.keyed.place

spot_key : (heads : List Head) (places : List ℕ) (home : Option (List ℕ)) (entry : Option IdOwner) (spot : LevelFound) (side : ℕ) (e : List ℕ) (ls after : List VoltageLevel) (w : Lands e spot side ls after) → IsSpot heads places home entry spot
    → slice_get places (key_of spot) ≡ Some w.keyed.place
spot_key heads places home entry Nowhere side e ls after w h = let none = w.spot_is in cc none
spot_key heads places home entry Elsewhere side e ls after w h = let none = w.spot_is in cc none
spot_key heads places home entry (At keyed) side e ls after w (found, key, inside) =
    let same : keyed ≡ w.keyed = (let s = w.spot_is in cc s) in
    key ∙ ap (λ z. Some z.place) same

keyed_end : (heads : List Head) (places : List ℕ) (look : List ℕ → Option IdOwner) (home : Option (List ℕ)) (side : ℕ) (end : End) (l : Landing) (e : List ℕ) (ls after : List VoltageLevel) → IsLanding heads places look home side end l
    → landed_at e l.spot l.node l.side ls ≡ Ok after → Keyed_end heads places e l ls after
keyed_end heads places look home side end l e ls after is h =
    let w = lands e l.spot l.node l.side ls after h in
    record { w = w; key = spot_key heads places home (look end.level) l.spot l.side e ls after w is.spot }

two_sides : (s : ℕ) (a b : Option ℕ) → cond (2 == s) b (cond (1 == s) a None) ≡ cond (s == 1) a (cond (s == 2) b None)
two_sides s a b = by (s == 1) (s == 2) refl refl
  where
    by : (t u : Bool) → (s == 1) ≡ t → (s == 2) ≡ u → cond (2 == s) b (cond (1 == s) a None) ≡ cond (s == 1) a (cond (s == 2) b None)
    by true u q r = let z : s ≡ 1 = eqb-true s 1 q in rw z refl
    by false true q r = let z : s ≡ 2 = eqb-true s 2 r in rw z refl
    by false false q r = rw (q, r, eq_swap s 1 false q, eq_swap s 2 false r) refl

three_sides : (s : ℕ) (a b d : Option ℕ) → cond (3 == s) d (cond (2 == s) b (cond (1 == s) a None)) ≡ cond (s == 1) a (cond (s == 2) b (cond (s == 3) d None))
three_sides s a b d = by (s == 1) (s == 2) (s == 3) refl refl refl
  where
    by : (t u v : Bool) → (s == 1) ≡ t → (s == 2) ≡ u → (s == 3) ≡ v → cond (3 == s) d (cond (2 == s) b (cond (1 == s) a None)) ≡ cond (s == 1) a (cond (s == 2) b (cond (s == 3) d None))
    by true u v q r p = let z : s ≡ 1 = eqb-true s 1 q in rw z refl
    by false true v q r p = let z : s ≡ 2 = eqb-true s 2 r in rw z refl
    by false false true q r p = let z : s ≡ 3 = eqb-true s 3 p in rw z refl
    by false false false q r p = rw (q, r, p, eq_swap s 1 false q, eq_swap s 2 false r, eq_swap s 3 false p) refl

-- what the entry of the branch must tell
pub record Entered (places : List ℕ) (e : List ℕ) (entry : IdOwner) (count : ℕ) (after : List VoltageLevel) : Type 0 where
  pub terminals : (s : ℕ) → position (has_terminal e s) after ≡ terminal_at places s (Some entry)
  pub sides : sides_at (Some entry) ≡ Some count
  pub within : is_within (length places) (Some entry) ≡ true

-- the first two ends
record Pair (places : List ℕ) (e : List ℕ) (a b : Landing) (after : List VoltageLevel) : Type 0 where
  pub found : (s : ℕ) → position (has_terminal e s) after ≡ cond (2 == s) (slice_get places (key_of b.spot)) (cond (1 == s) (slice_get places (key_of a.spot)) None)
  pub below1 : key_of a.spot < length places
  pub below2 : key_of b.spot < length places

module _ (heads : List Head) (places : List ℕ) (look : List ℕ → Option IdOwner) (home : Option (List ℕ)) (e : List ℕ) where
  pair : (end1 end2 : End) (a b : Landing) (ls after : List VoltageLevel) → IsLanding heads places look home 1 end1 a → IsLanding heads places look home 2 end2 b → Both e a b ls after
      → ((s : ℕ) → position (has_terminal e s) ls ≡ None) → Pair places e a b after
  pair end1 end2 a b ls after is1 is2 k none =
      let x = keyed_end heads places look home 1 end1 a e ls k.mid is1 k.first in
      let y = keyed_end heads places look home 2 end2 b e k.mid after is2 k.second in
      record {
        found = λ s.
            (let one : position (has_terminal e s) k.mid ≡ cond (1 == s) (slice_get places (key_of a.spot)) None =
            end_step e a.spot a.side ls k.mid s None x.w (none s) (λ _. refl) ∙ ap (λ z. cond (z == s) (Some x.w.keyed.place) None) is1.number ∙ ap (λ z. cond (1 == s) z None) (sym x.key) in
            end_step e b.spot b.side k.mid after s (cond (1 == s) (slice_get places (key_of a.spot)) None) y.w one (λ h. second s (ap (λ z. z == s) (sym is2.number) ∙ h))
            ∙ ap (λ z. cond (z == s) (Some y.w.keyed.place) (cond (1 == s) (slice_get places (key_of a.spot)) None)) is2.number
            ∙ ap (λ z. cond (2 == s) z (cond (1 == s) (slice_get places (key_of a.spot)) None)) (sym y.key));
        below1 = slice_get_within places (key_of a.spot) x.w.keyed.place x.key;
        below2 = slice_get_within places (key_of b.spot) y.w.keyed.place y.key;
      }
    where
      second : (s : ℕ) → (2 == s) ≡ true → ◌≡◌ {A = Option ℕ} (cond (1 == s) (slice_get places (key_of a.spot)) None) None
      second s h = let z : 2 ≡ s = eqb-true 2 s h in rw (← z) refl

  enter_two : (end1 end2 : End) (a b : Landing) (o : Option Landing) (ls after : List VoltageLevel) → AreLandings heads places look home 1 (end1 ∷ end2 ∷ []) (landing_list (record { first = a; second = b; third = o }))
      → landed e (landing_list (record { first = a; second = b; third = o })) ls ≡ Ok after → ((s : ℕ) → position (has_terminal e s) ls ≡ None) → Entered places e (branch_entry (record { first = a; second = b; third = o })) 2 after
  enter_two end1 end2 a b (Some d) ls after (is1, (is2, none)) h free = absurd none
  enter_two end1 end2 a b None ls after (is1, (is2, u)) h free =
      let p = pair end1 end2 a b ls after is1 is2 (both e a b ls after h) free in
      record {
        terminals = λ s. p.found s ∙ two_sides s (slice_get places (key_of a.spot)) (slice_get places (key_of b.spot));
        sides = refl;
        within = and_from _ _ (lt-ltb (key_of a.spot) (length places) p.below1) (lt-ltb (key_of b.spot) (length places) p.below2);
      }

  enter_three : (end1 end2 end3 : End) (a b : Landing) (o : Option Landing) (ls after : List VoltageLevel) → AreLandings heads places look home 1 (end1 ∷ end2 ∷ end3 ∷ []) (landing_list (record { first = a; second = b; third = o }))
      → landed e (landing_list (record { first = a; second = b; third = o })) ls ≡ Ok after → ((s : ℕ) → position (has_terminal e s) ls ≡ None) → Entered places e (branch_entry (record { first = a; second = b; third = o })) 3 after
  unfolding landed
  enter_three end1 end2 end3 a b None ls after (is1, (is2, none)) h free = absurd none
  enter_three end1 end2 end3 a b (Some d) ls after (is1, (is2, (is3, u))) h free =
      let w = on_level.went (landed_at e a.spot a.node a.side ls) _ after h in
      let v = on_level.went (landed_at e b.spot b.node b.side w.value) _ after w.next in
      let t = on_level.went (landed_at e d.spot d.node d.side v.value) _ after v.next in
      let same : t.value ≡ after = (let l = t.next in cc l) in
      let last : landed_at e d.spot d.node d.side v.value ≡ Ok after = t.is ∙ ap (λ (z : List VoltageLevel). Ok z) same in
      let p = pair end1 end2 a b ls v.value is1 is2 (record { mid = w.value; first = w.is; second = v.is }) free in
      let z = keyed_end heads places look home 3 end3 d e v.value after is3 last in
      let before = λ (s : ℕ). cond (2 == s) (slice_get places (key_of b.spot)) (cond (1 == s) (slice_get places (key_of a.spot)) None) in
      record {
        terminals = λ s.
            end_step e d.spot d.side v.value after s (before s) z.w (p.found s) (λ q. third s (ap (λ n. n == s) (sym is3.number) ∙ q)) ∙ ap (λ n. cond (n == s) (Some z.w.keyed.place) (before s)) is3.number
            ∙ ap (λ o. cond (3 == s) o (before s)) (sym z.key) ∙ three_sides s (slice_get places (key_of a.spot)) (slice_get places (key_of b.spot)) (slice_get places (key_of d.spot));
        sides = refl;
        within = and_from _ _ (lt-ltb (key_of a.spot) (length places) p.below1)
            (and_from _ _ (lt-ltb (key_of b.spot) (length places) p.below2) (lt-ltb (key_of d.spot) (length places) (slice_get_within places (key_of d.spot) z.w.keyed.place z.key)));
      }
    where
      third : (s : ℕ) → (3 == s) ≡ true → ◌≡◌ {A = Option ℕ} (cond (2 == s) (slice_get places (key_of b.spot)) (cond (1 == s) (slice_get places (key_of a.spot)) None)) None
      third s q = let z : 3 ≡ s = eqb-true 3 s q in rw (← z) refl

  pub entered : (shape : Branch) (l : Landings) (ls after : List VoltageLevel) → AreLandings heads places look home 1 (branch_ends shape) (landing_list l) → landed e (landing_list l) ls ≡ Ok after
      → ((s : ℕ) → position (has_terminal e s) ls ≡ None) → Entered places e (branch_entry l) (length (branch_ends shape)) after
  unfolding branch_ends
  entered (Line end1 end2) l ls after are h free = enter_two end1 end2 l.first l.second l.third ls after are h free
  entered (TwoWindings substation end1 end2 rated_u1 rated_u2) l ls after are h free = enter_two end1 end2 l.first l.second l.third ls after are h free
  entered (ThreeWindings substation end1 end2 end3 rated_u1 rated_u2 rated_u3) l ls after are h free = enter_three end1 end2 end3 l.first l.second l.third ls after are h free

-- ---- the table

pub flat_joined : (look other : List ℕ → Option IdOwner) (places : List ℕ) (heads more : List Head) (ls after : List VoltageLevel) (front back : List NamedBranch) (b : NamedBranch) (entry : IdOwner)
    → heads_alike more heads → look b.id ≡ None → ((q : List ℕ) → other q ≡ cond (bytes_eq b.id q) (Some entry) (look q)) → SameButEnds after ls
    → ((q : List ℕ) (s : ℕ) → same_id b.id q ≡ false → position (has_terminal q s) after ≡ position (has_terminal q s) ls) → Entered places b.id entry (length (branch_ends b.shape)) after
    → substation_at (Some entry) ≡ None → level_at places (Some entry) ≡ None → switch_at places (Some entry) ≡ None
    → IsFlat look places heads ls (front ++ back) → IsFlat other places more after (front ++ b ∷ back)
flat_joined look other places heads more ls after front back b entry alike none is same others own no_substation no_level no_switch f =
    let e = b.id in
    let o = Some entry in
    let ids = λ (q : List ℕ). position_heads q more ∙ ap (position (same_id q)) alike ∙ sym (position_heads q heads) in
    let nothing : sides_over ls (front ++ back) e ≡ None = f.sides_found e ∙ ap sides_at none in
    let single : list_any (has_single e) after ≡ false = same_singles after ls e same ∙ none_single ls (front ++ back) e nothing in
    let branch : find (λ (x : NamedBranch). same_id e x.id) (front ++ b ∷ back) ≡ Some b = find_own (λ (x : NamedBranch). same_id e x.id) front back b (is_same e e refl) (none_branch ls (front ++ back) e nothing) in
    record {
      substations = turned look other e o is (λ q z. position (λ (h : Head). same_id q h.id) more ≡ substation_at z) (ids e ∙ f.substations e ∙ ap substation_at none ∙ sym no_substation) (λ q h. ids q ∙ f.substations q);
      levels_found = turned look other e o is (λ q z. position (λ (l : VoltageLevel). same_id q l.id) after ≡ level_at places z) (same_position after ls e same ∙ f.levels_found e ∙ ap (level_at places) none ∙ sym no_level)
          (λ q h. same_position after ls q same ∙ f.levels_found q);
      switches_found = turned look other e o is (λ q z. position (has_switch q) after ≡ switch_at places z) (same_switches after ls e same ∙ f.switches_found e ∙ ap (switch_at places) none ∙ sym no_switch)
          (λ q h. same_switches after ls q same ∙ f.switches_found q);
      sides_found = turned look other e o is (λ q z. sides_over after (front ++ b ∷ back) q ≡ sides_at z)
          (ap (λ t. cond t (Some 1) (count_sides (find (λ (x : NamedBranch). same_id e x.id) (front ++ b ∷ back)))) single ∙ ap count_sides branch ∙ sym own.sides)
          (λ q h.
          ap (λ t. cond t (Some 1) (count_sides (find (λ (x : NamedBranch). same_id q x.id) (front ++ b ∷ back)))) (same_singles after ls q same)
          ∙ ap (λ z. cond (list_any (has_single q) ls) (Some 1) (count_sides z)) (find_other (λ (x : NamedBranch). same_id q x.id) front back b (same_swap e q h)) ∙ f.sides_found q);
      terminals = λ q side. turned look other e o is (λ q z. position (has_terminal q side) after ≡ terminal_at places side z) (own.terminals side) (λ q h. others q side h ∙ f.terminals q side) q;
      within = turned look other e o is (λ q z. is_within (length places) z ≡ true) own.within (λ q h. f.within q);
      each_level = f.each_level ∙ sym (same_length after ls same);
      below = ap (λ n. list_all (λ (place : ℕ). nat_lt place n) places) (same_length after ls same) ∙ f.below;
    }
