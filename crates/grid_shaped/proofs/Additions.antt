-- What a new substation, level or branch leaves of the levels that are there, and where a new level stands.
use Rattle.std.proofs.Common.{◌≡◌, refl, sym, ap, ◌∙◌, subst, ℕ, ℤ, Bool, true, false, cond, ◌&&◌, ◌||◌, List, [], ◌∷◌, ◌++◌, length, Option, Some, None, Ok, append_assoc}
use Rattle.std.specs.Prelude.{map, flat_map, find, nat_le, is_some}
use Rattle.std.specs.List.{list_any}
use Rattle.std.proofs.lemmas.Bool.{or_left, or_right, and_from, and_right, false≢true}
use Rattle.std.proofs.lemmas.Grind.{flat_map-append}
use Rattle.std.proofs.lemmas.List.{append-nil}
use Rattle.std.proofs.lemmas.List.Folds.{list_any-append}
use Rattle.grid_lemmas.proofs.Bools.{not_either, or_false}
use Rattle.grid_ids.specs.Name.{same_id, has_id}
use Rattle.grid_ids.specs.Refusing.{refuse_if, refuse_by, found_or}
use Rattle.grid_ids.proofs.Alike.{same_is, same_itself}
use Rattle.grid_kinds.specs.Records.{level_fault}
use Rattle.grid_level.specs.VoltageLevel.{VoltageLevel}
use Rattle.grid_level.proofs.LevelEdits.{went, not_refused}
use Rattle.grid_structure.specs.declared.Branch.{Branch}
use Rattle.grid_structure.specs.declared.Edit.TheVariants as edits
use Rattle.grid_structure.specs.declared.EditFault.TheVariants as faults
use Rattle.grid_structure.specs.declared.NamedBranch.{NamedBranch}
use Rattle.grid_structure.specs.Network.{Network, Substation}
use Rattle.grid_structure.specs.Sites.{levels, level_named, find_level, substation_named, taken, branch_ends, home_of}
use Rattle.grid_structure.specs.Editing.{apply, in_home, max_levels, place_ends, refuse_home, with_branch, with_substation}
use Rattle.grid_structure.specs.Indexed.{find_substation}
use Rattle.grid_structure.proofs.Found.{some_position, substation_there, taken_is}
use Rattle.grid_structure.proofs.OneLevel.{found}
use Rattle.grid_structure.proofs.Substations.{bare_level, changed, found_has, names, with_one}
use Rattle.grid_shaped.proofs.LevelChanges.{SameHomes, Stays}

-- ---- lists

find_past : {X : Type 0} (t : X → Bool) (xs ys : List X) → list_any t xs ≡ false → find t (xs ++ ys) ≡ find t ys
find_past t [] ys none = refl
find_past {X} t (x ∷ xs) ys none = by (t x) none (find_past t xs ys)
  where
    by : (b : Bool) → b || list_any t xs ≡ false → (list_any t xs ≡ false → find t (xs ++ ys) ≡ find t ys) → ◌≡◌ {A = Option X} (cond b (Some x) (find t (xs ++ ys))) (find t ys)
    by true none again = cc
    by false none again = again none

find_behind : {X : Type 0} (t : X → Bool) (xs ys zs : List X) → find t ys ≡ find t zs → find t (xs ++ ys) ≡ find t (xs ++ zs)
find_behind t [] ys zs same = same
find_behind t (x ∷ xs) ys zs same = ap (λ z. cond (t x) (Some x) z) (find_behind t xs ys zs same)

find_but : {X : Type 0} (t : X → Bool) (xs : List X) (x : X) (ys : List X) → t x ≡ false → find t ((xs ++ x ∷ []) ++ ys) ≡ find t (xs ++ ys)
find_but t [] x ys other = rw other refl
find_but t (y ∷ xs) x ys other = ap (λ z. cond (t y) (Some y) z) (find_but t xs x ys other)

none_parts : {X : Type 0} (t : X → Bool) (xs ys : List X) → list_any t (xs ++ ys) ≡ false → (list_any t xs ≡ false) × (list_any t ys ≡ false)
none_parts t xs ys none = not_either (list_any t xs) (list_any t ys) (sym (list_any-append t xs ys) ∙ none)

-- ---- a substation

abbrev names_level : List ℕ → VoltageLevel → Bool
names_level q l = same_id q l.id

pub substation_stays : (net new : Network) (id : List ℕ) → apply net (edits.AddSubstation id) ≡ Ok new → (q : List ℕ) → Stays q net new
unfolding apply level_named levels in_home has_id
substation_stays net new id h q =
    let t = went (refuse_if (taken net id) faults.IdTaken) _ new h in
    let bare : Substation = record { id = id; levels = []; transformers = [] } in
    let is : record net { substations = net.substations ++ bare ∷ [] } ≡ new = cc (t.next) in
    let lists : flat_map (λ (s : Substation). s.levels) (net.substations ++ bare ∷ []) ≡ flat_map (λ (s : Substation). s.levels) net.substations = flat_map-append (λ (s : Substation). s.levels) net.substations (bare ∷ []) ∙ append-nil (flat_map (λ (s : Substation). s.levels) net.substations) in
    record {
      named = ap (λ (z : Network). level_named z q) (sym is) ∙ ap (find (names_level q)) lists;
      homes = λ o.
          ap (λ (z : Network). in_home z (Some o) q) (sym is)
          ∙ list_any-append (λ (s : Substation). same_id o s.id && has_id (map (λ (l : VoltageLevel). l.id) s.levels) q) net.substations (bare ∷ [])
          ∙ ap (λ z. list_any (λ (s : Substation). same_id o s.id && has_id (map (λ (l : VoltageLevel). l.id) s.levels) q) net.substations || (z || false)) (and_right (same_id o id) false refl)
          ∙ or_false (list_any (λ (s : Substation). same_id o s.id && has_id (map (λ (l : VoltageLevel). l.id) s.levels) q) net.substations);
    }

-- its id is none of those that stood before
pub substation_new : (net new : Network) (id : List ℕ) → apply net (edits.AddSubstation id) ≡ Ok new → (other : List ℕ) → has_id (names net.substations) other ≡ true → same_id id other ≡ false
unfolding apply
substation_new net new id h other there = by (same_id id other) refl
  where
    free : taken net id ≡ false
    free = let t = went (refuse_if (taken net id) faults.IdTaken) _ new h in not_refused _ _ _ t.is

    by : (t : Bool) → same_id id other ≡ t → t ≡ false
    by false e = refl
    by true e =
        let here : has_id (names net.substations) id ≡ true = ap (has_id (names net.substations)) (same_is id other e) ∙ there in
        let found : is_some (find_substation net id) ≡ true = sym (substation_there net id) ∙ here in
        absurd (false≢true (sym free ∙ taken_is net id ∙ or_left (is_some (find_substation net id)) _ found))

-- ---- a level

module _ (sub : List ℕ) (made : VoltageLevel) where
  abbrev more : Substation → Substation
  more s = changed sub (λ (s : Substation). with_one s made) s

  abbrev all_levels : List Substation → List VoltageLevel
  all_levels subs = flat_map (λ (s : Substation). s.levels) subs

  abbrev at_home : List ℕ → List ℕ → Substation → Bool
  at_home o q s = same_id o s.id && has_id (map (λ (l : VoltageLevel). l.id) s.levels) q

  others_found : (q : List ℕ) (subs : List Substation) → same_id q made.id ≡ false → find (names_level q) (all_levels (map more subs)) ≡ find (names_level q) (all_levels subs)
  others_found q [] other = refl
  others_found q (s ∷ subs) other = by (same_id sub s.id) (others_found q subs other)
    where
      by : (t : Bool) → find (names_level q) (all_levels (map more subs)) ≡ find (names_level q) (all_levels subs)
          → find (names_level q) ((cond t (with_one s made) s).levels ++ all_levels (map more subs)) ≡ find (names_level q) (s.levels ++ all_levels subs)
      by true rest = find_but (names_level q) s.levels made (all_levels (map more subs)) other ∙ find_behind (names_level q) s.levels (all_levels (map more subs)) (all_levels subs) rest
      by false rest = find_behind (names_level q) s.levels (all_levels (map more subs)) (all_levels subs) rest

  has_but : (q : List ℕ) (ls : List VoltageLevel) → same_id q made.id ≡ false → has_id (map (λ (l : VoltageLevel). l.id) (ls ++ made ∷ [])) q ≡ has_id (map (λ (l : VoltageLevel). l.id) ls) q
  unfolding has_id
  has_but q [] other = rw other refl
  has_but q (l ∷ ls) other = ap (λ z. same_id q l.id || z) (has_but q ls other)

  others_homes : (q o : List ℕ) (subs : List Substation) → same_id q made.id ≡ false → list_any (at_home o q) (map more subs) ≡ list_any (at_home o q) subs
  others_homes q o [] other = refl
  others_homes q o (s ∷ subs) other = by (same_id sub s.id) (others_homes q o subs other)
    where
      by : (t : Bool) → list_any (at_home o q) (map more subs) ≡ list_any (at_home o q) subs → at_home o q (cond t (with_one s made) s) || list_any (at_home o q) (map more subs) ≡ at_home o q s || list_any (at_home o q) subs
      by true rest = ap (λ z. (same_id o s.id && z) || list_any (at_home o q) (map more subs)) (has_but q s.levels other) ∙ ap (λ z. at_home o q s || z) rest
      by false rest = ap (λ z. at_home o q s || z) rest

  -- where no level has its id, it is found
  new_found : (subs : List Substation) → list_any (names_level made.id) (all_levels subs) ≡ false → has_id (names subs) sub ≡ true → find (names_level made.id) (all_levels (map more subs)) ≡ Some made
  unfolding has_id
  new_found [] none there = absurd (false≢true there)
  new_found (s ∷ subs) none there =
      let parts = none_parts (names_level made.id) s.levels (all_levels subs) none in
      by (same_id sub s.id) there parts.0 (new_found subs parts.1)
    where
      first : (ls : List VoltageLevel) (rest : List VoltageLevel) → list_any (names_level made.id) ls ≡ false → find (names_level made.id) ((ls ++ made ∷ []) ++ rest) ≡ Some made
      first ls rest none = rw (append_assoc ls (made ∷ []) rest) (find_past (names_level made.id) ls (made ∷ rest) none ∙ rw (same_itself made.id) refl)

      by : (t : Bool) → t || has_id (names subs) sub ≡ true → list_any (names_level made.id) s.levels ≡ false → (has_id (names subs) sub ≡ true → find (names_level made.id) (all_levels (map more subs)) ≡ Some made)
          → find (names_level made.id) ((cond t (with_one s made) s).levels ++ all_levels (map more subs)) ≡ Some made
      by true there none again = first s.levels (all_levels (map more subs)) none
      by false there none again = find_past (names_level made.id) s.levels (all_levels (map more subs)) none ∙ again there

  none_has : (q : List ℕ) (ls : List VoltageLevel) → list_any (names_level q) ls ≡ false → has_id (map (λ (l : VoltageLevel). l.id) ls) q ≡ false
  unfolding has_id
  none_has q [] none = refl
  none_has q (l ∷ ls) none = by (same_id q l.id) none (none_has q ls)
    where
      by : (t : Bool) → t || list_any (names_level q) ls ≡ false → (list_any (names_level q) ls ≡ false → list_any (same_id q) (map (λ (l : VoltageLevel). l.id) ls) ≡ false) → t || list_any (same_id q) (map (λ (l : VoltageLevel). l.id) ls) ≡ false
      by true e again = cc
      by false e again = again e

  has_last : (ls : List VoltageLevel) → has_id (map (λ (l : VoltageLevel). l.id) (ls ++ made ∷ [])) made.id ≡ true
  unfolding has_id
  has_last [] = rw (same_itself made.id) refl
  has_last (l ∷ ls) = or_right (same_id made.id l.id) (list_any (same_id made.id) (map (λ (l : VoltageLevel). l.id) (ls ++ made ∷ []))) (has_last ls)

  -- it stands in no other substation
  new_only : (o : List ℕ) (subs : List Substation) → list_any (names_level made.id) (all_levels subs) ≡ false → same_id o sub ≡ false → list_any (at_home o made.id) (map more subs) ≡ false
  new_only o [] none other = refl
  new_only o (s ∷ subs) none other =
      let parts = none_parts (names_level made.id) s.levels (all_levels subs) none in
      by (same_id sub s.id) refl (none_has made.id s.levels parts.0) (new_only o subs parts.1 other)
    where
      by : (t : Bool) → same_id sub s.id ≡ t → has_id (map (λ (l : VoltageLevel). l.id) s.levels) made.id ≡ false → list_any (at_home o made.id) (map more subs) ≡ false
          → at_home o made.id (cond t (with_one s made) s) || list_any (at_home o made.id) (map more subs) ≡ false
      by true is gone rest =
          let apart : same_id o s.id ≡ false = ap (same_id o) (sym (same_is sub s.id is)) ∙ other in
          ap (λ z. (z && has_id (map (λ (l : VoltageLevel). l.id) (s.levels ++ made ∷ [])) made.id) || list_any (at_home o made.id) (map more subs)) apart ∙ rest
      by false is gone rest = ap (λ z. z || list_any (at_home o made.id) (map more subs)) (and_right (same_id o s.id) (has_id (map (λ (l : VoltageLevel). l.id) s.levels) made.id) gone) ∙ rest

  -- and in its own
  new_home : (subs : List Substation) → has_id (names subs) sub ≡ true → list_any (at_home sub made.id) (map more subs) ≡ true
  unfolding has_id
  new_home [] there = absurd (false≢true there)
  new_home (s ∷ subs) there = by (same_id sub s.id) refl there (new_home subs)
    where
      by : (t : Bool) → same_id sub s.id ≡ t → t || has_id (names subs) sub ≡ true → (has_id (names subs) sub ≡ true → list_any (at_home sub made.id) (map more subs) ≡ true)
          → at_home sub made.id (cond t (with_one s made) s) || list_any (at_home sub made.id) (map more subs) ≡ true
      by true is there again = or_left (at_home sub made.id (with_one s made)) (list_any (at_home sub made.id) (map more subs)) (and_from (same_id sub s.id) (has_id (map (λ (l : VoltageLevel). l.id) (s.levels ++ made ∷ [])) made.id) is (has_last s.levels))
      by false is there again = or_right (at_home sub made.id s) (list_any (at_home sub made.id) (map more subs)) (again there)

-- which substation has a level: this one alone
pub record IsHome (net : Network) (home level : List ℕ) : Type 0 where
  pub only : (o : List ℕ) → same_id o home ≡ false → in_home net (Some o) level ≡ false
  pub there : in_home net (Some home) level ≡ true

pub home_stays : (net new : Network) (home level : List ℕ) → IsHome net home level → SameHomes net new level → IsHome new home level
home_stays net new home level is same = record { only = λ o other. same o ∙ is.only o other; there = same home ∙ is.there }

pub home_named : (net : Network) (home level : List ℕ) → IsHome net home level → has_id (names net.substations) home ≡ true
unfolding in_home has_id
home_named net home level is = by net.substations is.there
  where
    by : (subs : List Substation) → list_any (λ (s : Substation). same_id home s.id && has_id (map (λ (l : VoltageLevel). l.id) s.levels) level) subs ≡ true → list_any (same_id home) (names subs) ≡ true
    by [] e = absurd (false≢true e)
    by (s ∷ subs) e = each (same_id home s.id) (has_id (map (λ (l : VoltageLevel). l.id) s.levels) level) e (by subs)
      where
        each : (a b : Bool) → (a && b) || list_any (λ (s : Substation). same_id home s.id && has_id (map (λ (l : VoltageLevel). l.id) s.levels) level) subs ≡ true
            → (list_any (λ (s : Substation). same_id home s.id && has_id (map (λ (l : VoltageLevel). l.id) s.levels) level) subs ≡ true → list_any (same_id home) (names subs) ≡ true)
            → a || list_any (same_id home) (names subs) ≡ true
        each true b e again = refl
        each false b e again = again e

-- what a new level did
pub record Opened (net new : Network) (id substation : List ℕ) (made : VoltageLevel) : Type 0 where
  pub named : level_named new id ≡ Some made
  pub home : IsHome new substation id
  pub free : level_named net id ≡ None
  pub others : (q : List ℕ) → same_id q id ≡ false → Stays q net new

pub level_opened : (net new : Network) (id substation : List ℕ) (nominal_v : ℤ) (low_v high_v : Option ℤ) → apply net (edits.AddLevel id substation nominal_v low_v high_v) ≡ Ok new
    → Opened net new id substation (bare_level id nominal_v low_v high_v)
unfolding apply with_substation substation_named level_named levels in_home find_level
level_opened net new id substation nominal_v low_v high_v h =
    let t = went (refuse_if (taken net id) faults.IdTaken) _ new h in
    let o = went (found_or (substation_named net substation) faults.NoSubstation) _ new t.next in
    let r = went (refuse_if (nat_le max_levels (length (levels net))) faults.TooManyLevels) _ new o.next in
    let c = went (refuse_by faults.Check (level_fault nominal_v low_v high_v)) _ new r.next in
    let made = bare_level id nominal_v low_v high_v in
    let is : with_substation substation (λ (s : Substation). with_one s made) net ≡ new = cc (c.next) in
    let there = found_has substation net.substations o.value (found _ _ _ o.is) in
    let none : list_any (names_level id) (levels net) ≡ false = sym (some_position (names_level id) (levels net)) ∙ level_free (not_refused _ _ _ t.is) in
    record {
      named = ap (λ (z : Network). level_named z id) (sym is) ∙ new_found substation made net.substations none there;
      home = record {
        only = λ o other. ap (λ (z : Network). in_home z (Some o) id) (sym is) ∙ new_only substation made o net.substations none other;
        there = ap (λ (z : Network). in_home z (Some substation) id) (sym is) ∙ new_home substation made net.substations there;
      };
      free = nothing_found (levels net) none;
      others = λ q other. record {
        named = ap (λ (z : Network). level_named z q) (sym is) ∙ others_found substation made q net.substations other;
        homes = λ o. ap (λ (z : Network). in_home z (Some o) q) (sym is) ∙ others_homes substation made q o net.substations other;
      };
    }
  where
    level_free : taken net id ≡ false → is_some (find_level net id) ≡ false
    level_free free = by _ (is_some (find_level net id)) _ (sym (taken_is net id) ∙ free)
      where
        by : (a b c : Bool) → a || (b || c) ≡ false → b ≡ false
        by true b c e = cc
        by false true c e = cc
        by false false c e = refl

    nothing_found : (ls : List VoltageLevel) → list_any (names_level id) ls ≡ false → find (names_level id) ls ≡ None
    nothing_found ls none = rw (append-nil ls) at (find_past (names_level id) ls [] none)

-- ---- a branch

module _ (home : List ℕ) (branch : NamedBranch) where
  abbrev with_last : Substation → Substation
  with_last s = record s { transformers = s.transformers ++ branch ∷ [] }

  levels_kept : (subs : List Substation) → flat_map (λ (s : Substation). s.levels) (map (changed home with_last) subs) ≡ flat_map (λ (s : Substation). s.levels) subs
  levels_kept [] = refl
  levels_kept (s ∷ subs) = by (same_id home s.id) (levels_kept subs)
    where
      by : (t : Bool) → flat_map (λ (s : Substation). s.levels) (map (changed home with_last) subs) ≡ flat_map (λ (s : Substation). s.levels) subs
          → (cond t (with_last s) s).levels ++ flat_map (λ (s : Substation). s.levels) (map (changed home with_last) subs) ≡ s.levels ++ flat_map (λ (s : Substation). s.levels) subs
      by true rest = ap (λ z. s.levels ++ z) rest
      by false rest = ap (λ z. s.levels ++ z) rest

  homes_kept : (o q : List ℕ) (subs : List Substation)
      → list_any (λ (s : Substation). same_id o s.id && has_id (map (λ (l : VoltageLevel). l.id) s.levels) q) (map (changed home with_last) subs)
      ≡ list_any (λ (s : Substation). same_id o s.id && has_id (map (λ (l : VoltageLevel). l.id) s.levels) q) subs
  homes_kept o q [] = refl
  homes_kept o q (s ∷ subs) = by (same_id home s.id) (homes_kept o q subs)
    where
      at : Substation → Bool
      at s = same_id o s.id && has_id (map (λ (l : VoltageLevel). l.id) s.levels) q

      by : (t : Bool)
          → list_any (λ (s : Substation). same_id o s.id && has_id (map (λ (l : VoltageLevel). l.id) s.levels) q) (map (changed home with_last) subs)
          ≡ list_any (λ (s : Substation). same_id o s.id && has_id (map (λ (l : VoltageLevel). l.id) s.levels) q) subs
          → (same_id o (cond t (with_last s) s).id && has_id (map (λ (l : VoltageLevel). l.id) (cond t (with_last s) s).levels) q)
          || list_any (λ (s : Substation). same_id o s.id && has_id (map (λ (l : VoltageLevel). l.id) s.levels) q) (map (changed home with_last) subs)
          ≡ (same_id o s.id && has_id (map (λ (l : VoltageLevel). l.id) s.levels) q) || list_any (λ (s : Substation). same_id o s.id && has_id (map (λ (l : VoltageLevel). l.id) s.levels) q) subs
      by true rest = ap (λ z. (same_id o s.id && has_id (map (λ (l : VoltageLevel). l.id) s.levels) q) || z) rest
      by false rest = ap (λ z. (same_id o s.id && has_id (map (λ (l : VoltageLevel). l.id) s.levels) q) || z) rest

listed_stays : (branch : NamedBranch) (home : Option (List ℕ)) (net : Network) (q : List ℕ) → Stays q net (with_branch branch home net)
unfolding with_branch with_substation level_named levels in_home
listed_stays branch None net q = record { named = refl; homes = λ o. refl }
listed_stays branch (Some home) net q = record {
  named = ap (find (names_level q)) (levels_kept home branch net.substations);
  homes = λ o. homes_kept home branch o q net.substations;
}

-- the ends of a branch were placed, and then it was listed
pub record Joined (net new : Network) (id : List ℕ) (shape : Branch) : Type 0 where
  pub placed : Network
  pub ends : place_ends (home_of shape) id 1 (branch_ends shape) net ≡ Ok placed
  pub is : with_branch (record { id = id; shape = shape }) (home_of shape) placed ≡ new

pub branch_joined : (net new : Network) (id : List ℕ) (shape : Branch) → apply net (edits.AddBranch id shape) ≡ Ok new → Joined net new id shape
unfolding apply
branch_joined net new id shape h =
    let t = went (refuse_if (taken net id) faults.IdTaken) _ new h in
    let r = went (refuse_home net shape) _ new t.next in
    let p = went (place_ends (home_of shape) id 1 (branch_ends shape) net) _ new r.next in
    record { placed = p.value; ends = p.is; is = cc (p.next) }

pub joined_stays : (net new : Network) (id : List ℕ) (shape : Branch) (j : Joined net new id shape) (q : List ℕ) → Stays q j.placed new
joined_stays net new id shape j q = subst (λ (z : Network). Stays q j.placed z) j.is (listed_stays (record { id = id; shape = shape }) (home_of shape) j.placed q)
