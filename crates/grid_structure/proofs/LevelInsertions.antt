-- A level put in among the others: the places behind it move up.
use Rattle.std.proofs.Common.{◌≡◌, refl, sym, ap, ◌∙◌, ℕ, ℤ, suc, zero, ◌+◌, ◌<◌, ◌≤◌, Bool, true, false, cond, ◌&&◌, ◌||◌, List, [], ◌∷◌, ◌++◌, length, arith, Option, Some, None, take, drop}
use Rattle.std.specs.Prelude.{map, position, find, slice_get, slice_set, insert, ◌==◌, nat_lt}
use Rattle.std.specs.Option.{option_map}
use Rattle.std.specs.List.{list_any, list_all}
use Rattle.std.specs.Str.{bytes_eq}
use Rattle.std.proofs.lemmas.Bool.{and_parts, and_from, lt-ltb, le-ltb, ltb-true, ltb-false}
use Rattle.grid_lemmas.proofs.Lists.{position-cons}
use Rattle.grid_ids.specs.Name.{same_id, has_id}
use Rattle.grid_ids.proofs.Alike.{same_swap}
use Rattle.grid_level.specs.VoltageLevel.{VoltageLevel}
use Rattle.grid_structure.specs.declared.NamedBranch.{NamedBranch}
use Rattle.grid_structure.specs.declared.structure.IdOwner.{IdOwner}
use Rattle.grid_structure.specs.declared.structure.IdOwner.TheVariants as entries
use Rattle.grid_structure.specs.declared.structure.Head.{Head}
use Rattle.grid_structure.specs.Network.{Substation}
use Rattle.grid_structure.specs.Sites.{branch_ends}
use Rattle.grid_structure.specs.Cutting.{cut, level_total}
use Rattle.grid_structure.specs.Indexed.{substation_at, level_at, switch_at, sides_at, terminal_at, is_within, has_switch, has_terminal, moved}
use Rattle.grid_structure.proofs.Counts.{times}
use Rattle.grid_structure.proofs.Frames.{is_same}
use Rattle.grid_structure.proofs.Substations.{changed, with_one}
use Rattle.grid_structure.proofs.FlatNetworks.{length_drop}
use Rattle.grid_structure.proofs.Flat.{IsFlat, turned, has_single, sides_over}

-- ---- lists

pub length-insert : {X : Type 0} (xs : List X) (n : ℕ) (x : X) → n ≤ length xs → length (insert xs n x) ≡ length xs + 1
length-insert xs zero x l = omega arith
length-insert [] (suc n) x l = absurd (omega arith)
length-insert (y ∷ xs) (suc n) x l = omega (arith, length-insert xs n x (omega arith))

pub take_front : {X : Type 0} (n m : ℕ) (xs : List X) (x : X) → n ≤ length xs → take n (insert xs (n + m) x) ≡ take n xs
take_front zero m xs x l = refl
take_front (suc n) m [] x l = absurd (omega arith)
take_front (suc n) m (y ∷ xs) x l = let sum : suc n + m ≡ suc (n + m) = omega arith in rw sum (ap (λ z. y ∷ z) (take_front n m xs x (omega arith)))

pub drop_front : {X : Type 0} (n m : ℕ) (xs : List X) (x : X) → n ≤ length xs → drop n (insert xs (n + m) x) ≡ insert (drop n xs) m x
drop_front zero m xs x l = let sum : 0 + m ≡ m = omega arith in rw sum refl
drop_front (suc n) m [] x l = absurd (omega arith)
drop_front (suc n) m (y ∷ xs) x l = let sum : suc n + m ≡ suc (n + m) = omega arith in rw sum (drop_front n m xs x (omega arith))

pub take_at : {X : Type 0} (n : ℕ) (xs : List X) (x : X) → n ≤ length xs → take (suc n) (insert xs n x) ≡ take n xs ++ x ∷ []
take_at zero xs x l = refl
take_at (suc n) [] x l = absurd (omega arith)
take_at (suc n) (y ∷ xs) x l = ap (λ z. y ∷ z) (take_at n xs x (omega arith))

pub drop_at : {X : Type 0} (n : ℕ) (xs : List X) (x : X) → n ≤ length xs → drop (suc n) (insert xs n x) ≡ drop n xs
drop_at zero xs x l = refl
drop_at (suc n) [] x l = absurd (omega arith)
drop_at (suc n) (y ∷ xs) x l = drop_at n xs x (omega arith)

-- ---- where a test passes first

pub position_insert : {X : Type 0} (t : X → Bool) (xs : List X) (n : ℕ) (x : X) → n ≤ length xs → t x ≡ false → position t (insert xs n x) ≡ option_map (moved n) (position t xs)
position_insert t xs zero x l h = position-cons t x xs ∙ (rw h (up (position t xs)))
  where
    up : (o : Option ℕ) → option_map suc o ≡ option_map (moved 0) o
    up (Some k) = rw (le-ltb k 0 (omega arith)) (ap (λ z. Some z) (omega arith))
    up None = refl
position_insert t [] (suc n) x l h = absurd (omega arith)
position_insert {X} t (y ∷ xs) (suc n) x l h = position-cons t y (insert xs n x) ∙ (rw (position_insert t xs n x (omega arith) h, position-cons t y xs) (by (t y) (position t xs)))
  where
    by : (b : Bool) (o : Option ℕ) → ◌≡◌ {A = Option ℕ} (cond b (Some 0) (option_map suc (option_map (moved n) o))) (option_map (moved (suc n)) (cond b (Some 0) (option_map suc o)))
    by true o = rw (lt-ltb 0 (suc n) (omega arith)) refl
    by false (Some k) = step (nat_lt k n) refl
      where
        step : (b : Bool) → nat_lt k n ≡ b → ◌≡◌ {A = Option ℕ} (Some (suc (cond b k (k + 1)))) (Some (moved (suc n) (suc k)))
        step true e = let less : k < n = ltb-true k n e in rw (lt-ltb (suc k) (suc n) (omega arith)) refl
        step false e = let more : n ≤ k = ltb-false k n e in rw (le-ltb (suc k) (suc n) (omega arith)) (ap (λ z. Some z) (omega arith))
    by false None = refl

pub position_insert_new : {X : Type 0} (t : X → Bool) (xs : List X) (n : ℕ) (x : X) → n ≤ length xs → position t xs ≡ None → t x ≡ true → position t (insert xs n x) ≡ Some n
position_insert_new t xs zero x l e h = position-cons t x xs ∙ (rw h refl)
position_insert_new t [] (suc n) x l e h = absurd (omega arith)
position_insert_new {X} t (y ∷ xs) (suc n) x l e h = position-cons t y (insert xs n x) ∙ by (t y) (rw (position-cons t y xs) at e) (λ f. position_insert_new t xs n x (omega arith) f h)
  where
    none_suc : (o : Option ℕ) → option_map suc o ≡ None → o ≡ None
    none_suc (Some j) e = cc
    none_suc None e = refl

    by : (b : Bool) → ◌≡◌ {A = Option ℕ} (cond b (Some 0) (option_map suc (position t xs))) None → (position t xs ≡ None → position t (insert xs n x) ≡ Some n)
        → ◌≡◌ {A = Option ℕ} (cond b (Some 0) (option_map suc (position t (insert xs n x)))) (Some (suc n))
    by true e again = cc
    by false e again = ap (option_map suc) (again (none_suc (position t xs) e))

any_insert : {X : Type 0} (t : X → Bool) (xs : List X) (n : ℕ) (x : X) → t x ≡ false → list_any t (insert xs n x) ≡ list_any t xs
any_insert t xs zero x h = rw h refl
any_insert t [] (suc n) x h = rw h refl
any_insert t (y ∷ xs) (suc n) x h = ap (λ z. t y || z) (any_insert t xs n x h)

-- ---- the places of the keys

abbrev pub places_with : ℕ → List ℕ → List ℕ
places_with at places = map (moved at) places ++ at ∷ []

got_moved : (at : ℕ) (places : List ℕ) (ys : List ℕ) (key : ℕ) → key < length places → slice_get (map (moved at) places ++ ys) key ≡ option_map (moved at) (slice_get places key)
got_moved at [] ys key l = absurd (omega arith)
got_moved at (p ∷ places) ys zero l = refl
got_moved at (p ∷ places) ys (suc key) l = got_moved at places ys key (omega arith)

pub got_last : (at : ℕ) (places : List ℕ) → slice_get (places_with at places) (length places) ≡ Some at
got_last at places = over places
  where
    over : (ps : List ℕ) → slice_get (map (moved at) ps ++ at ∷ []) (length ps) ≡ Some at
    over [] = refl
    over (p ∷ ps) = over ps

pub length_with : (at : ℕ) (places : List ℕ) → length (places_with at places) ≡ length places + 1
length_with at places = over places
  where
    over : (ps : List ℕ) → length (map (moved at) ps ++ at ∷ []) ≡ length ps + 1
    over [] = omega arith
    over (p ∷ ps) = omega (arith, over ps)

pub below_with : (at n : ℕ) (places : List ℕ) → at ≤ n → list_all (λ (place : ℕ). nat_lt place n) places ≡ true → list_all (λ (place : ℕ). nat_lt place (n + 1)) (places_with at places) ≡ true
below_with at n places l h = over places h
  where
    over : (ps : List ℕ) → list_all (λ (place : ℕ). nat_lt place n) ps ≡ true → list_all (λ (place : ℕ). nat_lt place (n + 1)) (map (moved at) ps ++ at ∷ []) ≡ true
    over [] h = and_from _ _ (lt-ltb at (n + 1) (omega arith)) refl
    over (p ∷ ps) h =
        let parts = and_parts (nat_lt p n) (list_all (λ (place : ℕ). nat_lt place n) ps) h in
        let less : p < n = ltb-true p n parts.0 in
        and_from _ _ (step (nat_lt p at) less) (over ps parts.1)
      where
        step : (b : Bool) → p < n → nat_lt (cond b p (p + 1)) (n + 1) ≡ true
        step true less = lt-ltb p (n + 1) (omega arith)
        step false less = lt-ltb (p + 1) (n + 1) (omega arith)

level_moved : (at : ℕ) (places : List ℕ) (o : Option IdOwner) → is_within (length places) o ≡ true → level_at (places_with at places) o ≡ option_map (moved at) (level_at places o)
level_moved at places (Some (entries.Level key)) h = got_moved at places (at ∷ []) key (ltb-true key (length places) h)
level_moved at places other h = refl

switch_moved : (at : ℕ) (places : List ℕ) (o : Option IdOwner) → is_within (length places) o ≡ true → switch_at (places_with at places) o ≡ option_map (moved at) (switch_at places o)
switch_moved at places (Some (entries.Switch key)) h = got_moved at places (at ∷ []) key (ltb-true key (length places) h)
switch_moved at places other h = refl

chosen : (f : ℕ → ℕ) (t : Bool) (a b : Option ℕ) → option_map f (cond t a b) ≡ cond t (option_map f a) (option_map f b)
chosen f true a b = refl
chosen f false a b = refl

terminal_moved : (at : ℕ) (places : List ℕ) (side : ℕ) (o : Option IdOwner) → is_within (length places) o ≡ true → terminal_at (places_with at places) side o ≡ option_map (moved at) (terminal_at places side o)
terminal_moved at places side None h = refl
terminal_moved at places side (Some (entries.Substation place)) h = refl
terminal_moved at places side (Some (entries.Level key)) h = refl
terminal_moved at places side (Some (entries.Switch key)) h = refl
terminal_moved at places side (Some (entries.Single key)) h =
    rw (chosen (moved at) (side == 1) (slice_get places key) None, got_moved at places (at ∷ []) key (ltb-true key (length places) h)) refl
terminal_moved at places side (Some (entries.TwoEnded key1 key2)) h =
    let parts = and_parts (nat_lt key1 (length places)) (nat_lt key2 (length places)) h in
    rw (
      chosen (moved at) (side == 1) (slice_get places key1) (cond (side == 2) (slice_get places key2) None),
      chosen (moved at) (side == 2) (slice_get places key2) None,
      got_moved at places (at ∷ []) key1 (ltb-true key1 (length places) parts.0),
      got_moved at places (at ∷ []) key2 (ltb-true key2 (length places) parts.1),
    ) refl
terminal_moved at places side (Some (entries.ThreeEnded key1 key2 key3)) h =
    let parts = and_parts (nat_lt key1 (length places)) (nat_lt key2 (length places) && nat_lt key3 (length places)) h in
    let more = and_parts (nat_lt key2 (length places)) (nat_lt key3 (length places)) parts.1 in
    rw (
      chosen (moved at) (side == 1) (slice_get places key1) (cond (side == 2) (slice_get places key2) (cond (side == 3) (slice_get places key3) None)),
      chosen (moved at) (side == 2) (slice_get places key2) (cond (side == 3) (slice_get places key3) None),
      chosen (moved at) (side == 3) (slice_get places key3) None,
      got_moved at places (at ∷ []) key1 (ltb-true key1 (length places) parts.0),
      got_moved at places (at ∷ []) key2 (ltb-true key2 (length places) more.0),
      got_moved at places (at ∷ []) key3 (ltb-true key3 (length places) more.1),
    ) refl

within_more : (n : ℕ) (o : Option IdOwner) → is_within n o ≡ true → is_within (n + 1) o ≡ true
within_more n None h = refl
within_more n (Some (entries.Substation place)) h = refl
within_more n (Some (entries.Level key)) h = let l : key < n = ltb-true key n h in lt-ltb key (n + 1) (omega arith)
within_more n (Some (entries.Switch key)) h = let l : key < n = ltb-true key n h in lt-ltb key (n + 1) (omega arith)
within_more n (Some (entries.Single key)) h = let l : key < n = ltb-true key n h in lt-ltb key (n + 1) (omega arith)
within_more n (Some (entries.TwoEnded key1 key2)) h =
    let p = and_parts (nat_lt key1 n) (nat_lt key2 n) h in
    let a : key1 < n = ltb-true key1 n p.0 in let b : key2 < n = ltb-true key2 n p.1 in
    and_from _ _ (lt-ltb key1 (n + 1) (omega arith)) (lt-ltb key2 (n + 1) (omega arith))
within_more n (Some (entries.ThreeEnded key1 key2 key3)) h =
    let p = and_parts (nat_lt key1 n) (nat_lt key2 n && nat_lt key3 n) h in
    let q = and_parts (nat_lt key2 n) (nat_lt key3 n) p.1 in
    let a : key1 < n = ltb-true key1 n p.0 in let b : key2 < n = ltb-true key2 n q.0 in let d : key3 < n = ltb-true key3 n q.1 in
    and_from _ _ (lt-ltb key1 (n + 1) (omega arith)) (and_from _ _ (lt-ltb key2 (n + 1) (omega arith)) (lt-ltb key3 (n + 1) (omega arith)))

-- ---- the flat lists with a level more

abbrev pub bare_level : List ℕ → ℤ → Option ℤ → Option ℤ → VoltageLevel
bare_level e nominal_v low_v high_v = record { id = e; nominal_v = nominal_v; low_v = low_v; high_v = high_v; switches = []; internals = []; placed = [] }

abbrev pub heads_alike : List Head → List Head → Type 0
heads_alike these those = map (λ (h : Head). h.id) these ≡ map (λ (h : Head). h.id) those

pub position_heads : (q : List ℕ) (heads : List Head) → position (λ (h : Head). same_id q h.id) heads ≡ position (same_id q) (map (λ (h : Head). h.id) heads)
position_heads q [] = refl
position_heads q (h ∷ heads) = position-cons (λ (h : Head). same_id q h.id) h heads ∙ (rw (position_heads q heads) (sym (position-cons (same_id q) h.id (map (λ (h : Head). h.id) heads))))

pub flat_inserted : (look other : List ℕ → Option IdOwner) (places : List ℕ) (heads more : List Head) (ls : List VoltageLevel) (bs : List NamedBranch) (at : ℕ) (e : List ℕ) (nominal_v : ℤ) (low_v high_v : Option ℤ)
    → heads_alike more heads → at ≤ length ls → look e ≡ None → ((q : List ℕ) → other q ≡ cond (bytes_eq e q) (Some (entries.Level (length places))) (look q))
    → IsFlat look places heads ls bs → IsFlat other (places_with at places) more (insert ls at (bare_level e nominal_v low_v high_v)) bs
unfolding has_switch has_id has_terminal has_single
flat_inserted look other places heads more ls bs at e nominal_v low_v high_v alike l none is f =
    let new = bare_level e nominal_v low_v high_v in
    let entry = Some (entries.Level (length places)) in
    let ids = λ (q : List ℕ). position_heads q more ∙ ap (position (same_id q)) alike ∙ sym (position_heads q heads) in
    let all = insert ls at new in
    let now = places_with at places in
    record {
      substations = turned look other e entry is (λ q o. position (λ (h : Head). same_id q h.id) more ≡ substation_at o) (ids e ∙ f.substations e ∙ ap substation_at none) (λ q h. ids q ∙ f.substations q);
      levels_found = turned look other e entry is (λ q o. position (λ (l : VoltageLevel). same_id q l.id) all ≡ level_at now o)
          (position_insert_new (λ (l : VoltageLevel). same_id e l.id) ls at new l (f.levels_found e ∙ ap (level_at places) none) (is_same e e refl) ∙ sym (got_last at places))
          (λ q h. position_insert (λ (l : VoltageLevel). same_id q l.id) ls at new l (other_id q h) ∙ ap (option_map (moved at)) (f.levels_found q) ∙ sym (level_moved at places (look q) (f.within q)));
      switches_found = turned look other e entry is (λ q o. position (has_switch q) all ≡ switch_at now o)
          (position_insert (has_switch e) ls at new l refl ∙ ap (option_map (moved at)) (f.switches_found e ∙ ap (switch_at places) none))
          (λ q h. position_insert (has_switch q) ls at new l refl ∙ ap (option_map (moved at)) (f.switches_found q) ∙ sym (switch_moved at places (look q) (f.within q)));
      sides_found = turned look other e entry is (λ q o. sides_over all bs q ≡ sides_at o)
          (side_count e ∙ f.sides_found e ∙ ap sides_at none) (λ q h. side_count q ∙ f.sides_found q);
      terminals = λ q side. turned look other e entry is (λ q o. position (has_terminal q side) all ≡ terminal_at now side o)
          (position_insert (has_terminal e side) ls at new l refl ∙ ap (option_map (moved at)) (f.terminals e side ∙ ap (terminal_at places side) none))
          (λ q h. position_insert (has_terminal q side) ls at new l refl ∙ ap (option_map (moved at)) (f.terminals q side) ∙ sym (terminal_moved at places side (look q) (f.within q))) q;
      within = turned look other e entry is (λ q o. is_within (length now) o ≡ true) (lt-ltb (length places) (length now) (omega (arith, length_with at places)))
          (λ q h. ap (λ n. is_within n (look q)) (length_with at places) ∙ within_more (length places) (look q) (f.within q));
      each_level = length_with at places ∙ ap (λ n. n + 1) f.each_level ∙ sym (length-insert ls at new l);
      below = ap (λ n. list_all (λ (place : ℕ). nat_lt place n) now) (length-insert ls at new l) ∙ below_with at (length ls) places l f.below;
    }
  where
    other_id : (q : List ℕ) → bytes_eq e q ≡ false → same_id q e ≡ false
    other_id q h = same_swap e q h

    side_count : (q : List ℕ) → sides_over (insert ls at (bare_level e nominal_v low_v high_v)) bs q ≡ sides_over ls bs q
    side_count q = ap (λ t. cond t (Some 1) (option_map (λ (b : NamedBranch). length (branch_ends b.shape)) (find (λ (b : NamedBranch). same_id q b.id) bs))) (any_insert (has_single q) ls at (bare_level e nominal_v low_v high_v) refl)

-- ---- the network with a level more

abbrev pub longer : Head → Head
longer h = record h { levels = h.levels + 1 }

absent_alone : (sub : List ℕ) (l : VoltageLevel) (heads : List Head) (ls : List VoltageLevel) (ts : List NamedBranch) → times sub (map (λ (h : Head). h.id) heads) ≡ 0
    → map (changed sub (λ (s : Substation). with_one s l)) (cut heads ls ts) ≡ cut heads ls ts
unfolding cut
absent_alone sub l [] ls ts h = refl
absent_alone sub l (x ∷ heads) ls ts h = by (same_id sub x.id) h (absent_alone sub l heads (drop x.levels ls) (drop x.transformers ts))
  where
    first : Substation
    first = record { id = x.id; levels = take x.levels ls; transformers = take x.transformers ts }

    rest : List Substation
    rest = cut heads (drop x.levels ls) (drop x.transformers ts)

    by : (t : Bool) → cond t 1 0 + times sub (map (λ (h : Head). h.id) heads) ≡ 0 → (times sub (map (λ (h : Head). h.id) heads) ≡ 0 → map (changed sub (λ (s : Substation). with_one s l)) rest ≡ rest)
        → cond t (with_one first l) first ∷ map (changed sub (λ (s : Substation). with_one s l)) rest ≡ first ∷ rest
    by true h again = absurd (omega (arith, h))
    by false h again = ap (λ z. first ∷ z) (again (omega (arith, h)))

-- the level stands last among those of its substation
pub cut_insert : (sub : List ℕ) (l : VoltageLevel) (heads : List Head) (ls : List VoltageLevel) (ts : List NamedBranch) (j : ℕ) (h : Head) → slice_get heads j ≡ Some h → h.id ≡ sub
    → level_total (take (suc j) heads) ≤ length ls → times sub (map (λ (h : Head). h.id) heads) ≤ 1
    → map (changed sub (λ (s : Substation). with_one s l)) (cut heads ls ts) ≡ cut (slice_set heads j (longer h)) (insert ls (level_total (take (suc j) heads)) l) ts
unfolding cut level_total
cut_insert sub l [] ls ts j h at is few once = cc
cut_insert sub l (x ∷ heads) ls ts zero h at is few once =
    let same : x ≡ h = cc in
    let id : sub ≡ x.id = sym is ∙ ap (λ (z : Head). z.id) (sym same) in
    let here : same_id sub x.id ≡ true = is_same sub x.id id in
    let none : times sub (map (λ (h : Head). h.id) heads) ≡ 0 = omega (arith, once, ap {B = ℕ} (λ t. cond t 1 0) here) in
    let sum : x.levels + 0 ≡ x.levels = omega arith in
    let one : x.levels + 1 ≡ suc x.levels = omega arith in
    let room : x.levels ≤ length ls = omega (arith, few) in
    let rest = absent_alone sub l heads (drop x.levels ls) (drop x.transformers ts) none in
    rw (here, rest, ← same, sum, one, take_at x.levels ls l room, drop_at x.levels ls l room) refl
cut_insert sub l (x ∷ heads) ls ts (suc j) h at is few once =
    let total = level_total (take (suc j) heads) in
    let room : x.levels ≤ length ls = omega (arith, few) in
    let other : same_id sub x.id ≡ false = apart (same_id sub x.id) once in
    let again = cut_insert sub l heads (drop x.levels ls) (drop x.transformers ts) j h at is (omega (arith, few, length_drop x.levels ls)) (omega (arith, once)) in
    rw (other, take_front x.levels total ls l room, drop_front x.levels total ls l room, again) refl
  where
    in_tail : (hs : List Head) (n : ℕ) → slice_get hs n ≡ Some h → 1 ≤ times sub (map (λ (h : Head). h.id) hs)
    in_tail [] n e = cc
    in_tail (y ∷ hs) zero e =
        let same : y ≡ h = cc in
        let here : same_id sub y.id ≡ true = is_same sub y.id (sym is ∙ ap (λ (z : Head). z.id) (sym same)) in
        omega (arith, ap {B = ℕ} (λ t. cond t 1 0) here)
    in_tail (y ∷ hs) (suc n) e = omega (arith, in_tail hs n e)

    apart : (t : Bool) → cond t 1 0 + times sub (map (λ (h : Head). h.id) heads) ≤ 1 → t ≡ false
    apart true o = absurd (omega (arith, o, in_tail heads j at))
    apart false o = refl
