-- In which substation a level stands, over the flat lists.
use Rattle.std.proofs.Common.{◌≡◌, refl, sym, ap, ◌∙◌, ℕ, zero, suc, ◌+◌, ◌-◌, ◌<◌, ◌≤◌, Bool, true, false, cond, ◌&&◌, ◌||◌, List, [], ◌∷◌, length, arith, Option, Some, None, take, drop, get_or}
use Rattle.std.specs.Prelude.{map, position, nat_lt}
use Rattle.std.specs.Option.{option_map}
use Rattle.std.specs.List.{list_any}
use Rattle.std.proofs.lemmas.Bool.{ltb-false, ltb-true}
use Rattle.std.proofs.lemmas.List.{map-append}
use Rattle.grid_lemmas.proofs.Bools.{and_false}
use Rattle.grid_lemmas.proofs.Lists.{position-cons}
use Rattle.grid_ids.specs.Name.{same_id, has_id}
use Rattle.grid_level.specs.VoltageLevel.{VoltageLevel}
use Rattle.grid_structure.specs.declared.NamedBranch.{NamedBranch}
use Rattle.grid_structure.specs.declared.structure.Head.{Head}
use Rattle.grid_structure.specs.Network.{Substation}
use Rattle.grid_structure.specs.Editing.{in_home}
use Rattle.grid_structure.specs.Blocks.{place_by}
use Rattle.grid_structure.specs.Cutting.{cut, level_total, head_place, network_of}
use Rattle.grid_structure.specs.Landing.{home_id, is_home}
use Rattle.grid_structure.proofs.Counts.{times, times-append, there}
use Rattle.grid_structure.proofs.Frames.{ids_of}
use Rattle.grid_structure.proofs.Found.{any-map}
use Rattle.grid_structure.proofs.FlatNetworks.{joined, length_drop}

pub head_below : (heads : List Head) (k : ℕ) → k < level_total heads → head_place heads k < length heads
unfolding level_total place_by
head_below [] k l = absurd (omega arith)
head_below (h ∷ heads) k l = by (nat_lt k h.levels) refl (head_below heads (k - h.levels))
  where
    by : (t : Bool) → nat_lt k h.levels ≡ t → (k - h.levels < level_total heads → head_place heads (k - h.levels) < length heads) → cond t 0 (head_place heads (k - h.levels) + 1) < suc (length heads)
    by true e again = omega arith
    by false e again = let more : h.levels ≤ k = ltb-false k h.levels e in omega (arith, again (omega (arith, l)))

pub home_at : (heads : List Head) (k : ℕ) (h : Head) → k < level_total heads → h ≡ get_or heads (head_place heads k) h → h.id ≡ home_id heads k
unfolding level_total place_by home_id
home_at [] k h l e = absurd (omega arith)
home_at (x ∷ heads) k h l e = by (nat_lt k x.levels) refl e (home_at heads (k - x.levels) h)
  where
    by : (t : Bool) → nat_lt k x.levels ≡ t → h ≡ get_or (x ∷ heads) (cond t 0 (head_place heads (k - x.levels) + 1)) h
        → (k - x.levels < level_total heads → h ≡ get_or heads (head_place heads (k - x.levels)) h → h.id ≡ home_id heads (k - x.levels))
        → h.id ≡ cond t x.id (home_id heads (k - x.levels))
    by true q e again = ap (λ (z : Head). z.id) e
    by false q e again =
        let more : x.levels ≤ k = ltb-false k x.levels q in
        let one : head_place heads (k - x.levels) + 1 ≡ suc (head_place heads (k - x.levels)) = omega arith in
        again (omega (arith, l)) (rw one at e)

-- ---- a level's place in the front of a list, and behind it

pub found_front : {X : Type 0} (p : X → Bool) (xs : List X) (n k : ℕ) → position p xs ≡ Some k → k < n → list_any p (take n xs) ≡ true
found_front p xs zero k e l = absurd (omega arith)
found_front p [] (suc n) k e l = cc
found_front {X} p (x ∷ xs) (suc n) k e l = by (p x) (rw (position-cons p x xs) at e) (λ j f g. found_front p xs n j f g)
  where
    by : (t : Bool) → ◌≡◌ {A = Option ℕ} (cond t (Some 0) (option_map suc (position p xs))) (Some k) → ((j : ℕ) → position p xs ≡ Some j → j < n → list_any p (take n xs) ≡ true) → t || list_any p (take n xs) ≡ true
    by true e again = refl
    by false e again = step (position p xs) refl e
      where
        step : (o : Option ℕ) → position p xs ≡ o → option_map suc o ≡ Some k → list_any p (take n xs) ≡ true
        step (Some j) q e = let z : k ≡ suc j = cc in again j q (omega (arith, z, l))
        step None q e = cc

pub record Behind {X : Type 0} (p : X → Bool) (xs : List X) (n k : ℕ) : Type 0 where
  pub front : list_any p (take n xs) ≡ false
  pub back : position p (drop n xs) ≡ Some (k - n)

pub found_back : {X : Type 0} (p : X → Bool) (xs : List X) (n k : ℕ) → position p xs ≡ Some k → n ≤ k → Behind p xs n k
found_back p xs zero k e l = let same : k - 0 ≡ k = omega arith in record { front = refl; back = e ∙ ap (λ z. Some z) (sym same) }
found_back p [] (suc n) k e l = cc
found_back {X} p (x ∷ xs) (suc n) k e l = by (p x) refl (rw (position-cons p x xs) at e) (λ j f g. found_back p xs n j f g)
  where
    by : (t : Bool) → p x ≡ t → ◌≡◌ {A = Option ℕ} (cond t (Some 0) (option_map suc (position p xs))) (Some k) → ((j : ℕ) → position p xs ≡ Some j → n ≤ j → Behind p xs n j) → Behind p (x ∷ xs) (suc n) k
    by true h e again = let z : k ≡ 0 = cc in absurd (omega (arith, z, l))
    by false h e again = step (position p xs) refl e
      where
        step : (o : Option ℕ) → position p xs ≡ o → option_map suc o ≡ Some k → Behind p (x ∷ xs) (suc n) k
        step (Some j) q e =
            let z : k ≡ suc j = cc in
            let b = again j q (omega (arith, z, l)) in
            let less : j - n ≡ k - suc n = omega (arith, z) in
            record { front = ap (λ t. t || list_any p (take n xs)) h ∙ b.front; back = b.back ∙ ap (λ z. Some z) less }
        step None q e = cc

-- ---- ids that are not there

pub none_there : (id : List ℕ) (ids : List (List ℕ)) → times id ids ≡ 0 → has_id ids id ≡ false
unfolding has_id
none_there id [] h = refl
none_there id (x ∷ xs) h = by (same_id id x) h (none_there id xs)
  where
    by : (t : Bool) → cond t 1 0 + times id xs ≡ 0 → (times id xs ≡ 0 → list_any (same_id id) xs ≡ false) → t || list_any (same_id id) xs ≡ false
    by true h again = absurd (omega (arith, h))
    by false h again = again (omega (arith, h))

abbrev pub holds : List ℕ → List ℕ → Substation → Bool
holds home level s = same_id home s.id && has_id (map (λ (l : VoltageLevel). l.id) s.levels) level

ids_split : (level : List ℕ) (n : ℕ) (ls : List VoltageLevel) → times level (ids_of (take n ls)) + times level (ids_of (drop n ls)) ≡ times level (ids_of ls)
ids_split level n ls =
    sym (times-append level (ids_of (take n ls)) (ids_of (drop n ls))) ∙ ap (times level) (sym (map-append (λ (l : VoltageLevel). l.id) (take n ls) (drop n ls))) ∙ ap (λ z. times level (ids_of z)) (joined n ls)

and_true : (a : Bool) → (a && true) || false ≡ a
and_true true = refl
and_true false = refl

nowhere : (home level : List ℕ) (heads : List Head) (ls : List VoltageLevel) (ts : List NamedBranch) → times level (ids_of ls) ≡ 0 → list_any (holds home level) (cut heads ls ts) ≡ false
unfolding cut
nowhere home level [] ls ts h = refl
nowhere home level (x ∷ heads) ls ts h =
    let split = ids_split level x.levels ls in
    let first : has_id (ids_of (take x.levels ls)) level ≡ false = none_there level (ids_of (take x.levels ls)) (omega (arith, split, h)) in
    rw (first, and_false (same_id home x.id)) (nowhere home level heads (drop x.levels ls) (drop x.transformers ts) (omega (arith, split, h)))

any_ids : (level : List ℕ) (ls : List VoltageLevel) (t : Bool) → list_any (λ (l : VoltageLevel). same_id level l.id) ls ≡ t → has_id (ids_of ls) level ≡ t
unfolding has_id
any_ids level ls t h = any-map (same_id level) (λ (l : VoltageLevel). l.id) ls ∙ h

home_in : (home level : List ℕ) (heads : List Head) (ls : List VoltageLevel) (ts : List NamedBranch) (k : ℕ) → length ls ≡ level_total heads → position (λ (l : VoltageLevel). same_id level l.id) ls ≡ Some k
    → times level (ids_of ls) ≤ 1 → list_any (holds home level) (cut heads ls ts) ≡ same_id home (home_id heads k)
unfolding cut level_total home_id
home_in home level [] [] ts k few at once = cc
home_in home level [] (l ∷ ls) ts k few at once = absurd (omega (arith, few))
home_in home level (x ∷ heads) ls ts k few at once =
    by (nat_lt k x.levels) refl (λ f o. home_in home level heads (drop x.levels ls) (drop x.transformers ts) (k - x.levels) (omega (arith, few, length_drop x.levels ls)) f o)
  where
    test : VoltageLevel → Bool
    test l = same_id level l.id

    rest : List Substation
    rest = cut heads (drop x.levels ls) (drop x.transformers ts)

    by : (t : Bool) → nat_lt k x.levels ≡ t
        → (position (λ (l : VoltageLevel). same_id level l.id) (drop x.levels ls) ≡ Some (k - x.levels) → times level (ids_of (drop x.levels ls)) ≤ 1 → list_any (holds home level) rest ≡ same_id home (home_id heads (k - x.levels)))
        → (same_id home x.id && has_id (ids_of (take x.levels ls)) level) || list_any (holds home level) rest ≡ same_id home (cond t x.id (home_id heads (k - x.levels)))
    by true e again =
        let less : k < x.levels = ltb-true k x.levels e in
        let here : has_id (ids_of (take x.levels ls)) level ≡ true = any_ids level (take x.levels ls) true (found_front (λ (l : VoltageLevel). same_id level l.id) ls x.levels k at less) in
        let many : 1 ≤ times level (ids_of (take x.levels ls)) = there level (ids_of (take x.levels ls)) here in
        let none = nowhere home level heads (drop x.levels ls) (drop x.transformers ts) (omega (arith, many, once, ids_split level x.levels ls)) in
        rw (here, none) (and_true (same_id home x.id))
    by false e again =
        let more : x.levels ≤ k = ltb-false k x.levels e in
        let b = found_back (λ (l : VoltageLevel). same_id level l.id) ls x.levels k at more in
        let first : has_id (ids_of (take x.levels ls)) level ≡ false = any_ids level (take x.levels ls) false b.front in
        rw (first, and_false (same_id home x.id)) (again b.back (omega (arith, once, ids_split level x.levels ls)))

-- the level is in the substation, where one is asked for
pub in_home_is : (id : List ℕ) (heads : List Head) (ls : List VoltageLevel) (ts lines : List NamedBranch) (home : Option (List ℕ)) (level : List ℕ) (k : ℕ) → length ls ≡ level_total heads
    → position (λ (l : VoltageLevel). same_id level l.id) ls ≡ Some k → times level (ids_of ls) ≤ 1 → in_home (network_of id heads ls ts lines) home level ≡ is_home heads home k
unfolding in_home is_home
in_home_is id heads ls ts lines None level k few at once = refl
in_home_is id heads ls ts lines (Some home) level k few at once = home_in home level heads ls ts k few at once
