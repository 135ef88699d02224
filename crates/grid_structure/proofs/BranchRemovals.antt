-- A branch taken out of its list by its place, and the transformers of the substations then.
use Rattle.std.proofs.Common.{◌≡◌, refl, sym, ap, ◌∙◌, ℕ, suc, zero, ◌+◌, ◌-◌, ◌<◌, ◌≤◌, Bool, true, false, cond, not, ◌||◌, List, [], ◌∷◌, ◌++◌, length, arith, Option, Some, None, take, drop}
use Rattle.std.specs.Prelude.{map, filter, position, slice_get, slice_set, remove, nat_lt}
use Rattle.std.specs.Option.{option_map}
use Rattle.std.specs.List.{list_any}
use Rattle.std.proofs.lemmas.Bool.{ltb-true, ltb-false}
use Rattle.std.proofs.lemmas.List.{map-append}
use Rattle.grid_lemmas.proofs.Lists.{position-cons}
use Rattle.grid_ids.specs.Name.{same_id, has_id, ids_differ}
use Rattle.grid_level.specs.VoltageLevel.{VoltageLevel}
use Rattle.grid_structure.specs.declared.NamedBranch.{NamedBranch}
use Rattle.grid_structure.specs.declared.structure.Head.{Head}
use Rattle.grid_structure.specs.Blocks.{place_by}
use Rattle.grid_structure.specs.Cutting.{cut, level_total, transformer_total}
use Rattle.grid_structure.specs.Clearing.{winding_place, IsDropped}
use Rattle.grid_structure.specs.Editing.{without_branch, substation_without}
use Rattle.grid_structure.proofs.Counts.{times, times-append, not_there, differ-times}
use Rattle.grid_structure.proofs.Places.{position_found, position_none, length-slice_set}
use Rattle.grid_structure.proofs.Found.{any-map}
use Rattle.grid_structure.proofs.FlatNetworks.{joined, length_drop}
use Rattle.grid_structure.proofs.LevelHomes.{found_back}

-- ---- one item out of a list, by its name

pub none_out : {X : Type 0} (name : X → List ℕ) (e : List ℕ) (xs : List X) → times e (map name xs) ≡ 0 → filter (λ x. not (same_id e (name x))) xs ≡ xs
none_out name e [] h = refl
none_out {X} name e (x ∷ xs) h = by (same_id e (name x)) h (none_out name e xs)
  where
    by : (t : Bool) → cond t 1 0 + times e (map name xs) ≡ 0 → (times e (map name xs) ≡ 0 → filter (λ (x : X). not (same_id e (name x))) xs ≡ xs)
        → cond (not t) (x ∷ filter (λ (x : X). not (same_id e (name x))) xs) (filter (λ (x : X). not (same_id e (name x))) xs) ≡ x ∷ xs
    by true h again = absurd (omega (arith, h))
    by false h again = ap (λ z. x ∷ z) (again (omega (arith, h)))

pub one_out : {X : Type 0} (name : X → List ℕ) (e : List ℕ) (xs : List X) (j : ℕ) → times e (map name xs) ≤ 1 → position (λ x. same_id e (name x)) xs ≡ Some j → filter (λ x. not (same_id e (name x))) xs ≡ remove xs j
one_out name e [] j once at = cc
one_out {X} name e (x ∷ xs) j once at = by (same_id e (name x)) once (rw (position-cons (λ (x : X). same_id e (name x)) x xs) at at) (λ i. one_out name e xs i)
  where
    some_suc : (o : Option ℕ) → option_map suc o ≡ Some j → (i : ℕ) × (o ≡ Some i) × (j ≡ suc i)
    some_suc (Some i) q = (i, refl, cc)
    some_suc None q = cc

    by : (t : Bool) → cond t 1 0 + times e (map name xs) ≤ 1 → ◌≡◌ {A = Option ℕ} (cond t (Some 0) (option_map suc (position (λ (x : X). same_id e (name x)) xs))) (Some j)
        → ((i : ℕ) → times e (map name xs) ≤ 1 → position (λ (x : X). same_id e (name x)) xs ≡ Some i → filter (λ (x : X). not (same_id e (name x))) xs ≡ remove xs i)
        → cond (not t) (x ∷ filter (λ (x : X). not (same_id e (name x))) xs) (filter (λ (x : X). not (same_id e (name x))) xs) ≡ remove (x ∷ xs) j
    by true once at again = let z : j ≡ 0 = cc in none_out name e xs (omega (arith, once)) ∙ ap (remove (x ∷ xs)) (sym z)
    by false once at again =
        let r = some_suc (position (λ (x : X). same_id e (name x)) xs) at in
        ap (λ z. x ∷ z) (again r.0 (omega (arith, once)) r.1) ∙ ap (remove (x ∷ xs)) (sym r.2)

times_there : {X : Type 0} (name : X → List ℕ) (e : List ℕ) (xs : List X) (k : ℕ) → option_map (λ x. same_id e (name x)) (slice_get xs k) ≡ Some true → 1 ≤ times e (map name xs)
times_there name e [] k h = absurd (cc)
times_there name e (x ∷ xs) zero h = let t : same_id e (name x) ≡ true = cc in omega (arith, ap (λ t. cond t 1 0 + times e (map name xs)) t)
times_there name e (x ∷ xs) (suc k) h = omega (arith, times_there name e xs k h)

pub place_sure : {X : Type 0} (name : X → List ℕ) (e : List ℕ) (xs : List X) (k : ℕ) → times e (map name xs) ≤ 1 → option_map (λ x. same_id e (name x)) (slice_get xs k) ≡ Some true → position (λ x. same_id e (name x)) xs ≡ Some k
place_sure name e [] k once h = absurd (cc)
place_sure {X = X} name e (x ∷ xs) k once h = position-cons (λ (x : X). same_id e (name x)) x xs ∙ by (same_id e (name x)) refl k h (λ i. place_sure name e xs i)
  where
    by : (t : Bool) → same_id e (name x) ≡ t → (k : ℕ) → option_map (λ (x : X). same_id e (name x)) (slice_get (x ∷ xs) k) ≡ Some true
        → ((i : ℕ) → times e (map name xs) ≤ 1 → option_map (λ (x : X). same_id e (name x)) (slice_get xs i) ≡ Some true → position (λ (x : X). same_id e (name x)) xs ≡ Some i)
        → ◌≡◌ {A = Option ℕ} (cond t (Some 0) (option_map suc (position (λ (x : X). same_id e (name x)) xs))) (Some k)
    by true t zero h again = refl
    by true t (suc k) h again = absurd (omega (arith, once, ap (λ t. cond t 1 0 + times e (map name xs)) t, times_there name e xs k h))
    by false t zero h again = let u : same_id e (name x) ≡ true = cc in cc
    by false t (suc k) h again = ap (option_map suc) (again k (omega (arith, once, ap (λ t. cond t 1 0 + times e (map name xs)) t)) h)

pub absent : {X : Type 0} (name : X → List ℕ) (e : List ℕ) (xs : List X) → position (λ x. same_id e (name x)) xs ≡ None → times e (map name xs) ≡ 0
unfolding has_id
absent name e xs h = not_there e (map name xs) (any-map (same_id e) name xs ∙ position_none (λ x. same_id e (name x)) xs h)

-- ---- fronts and rests of a list with an item less

take_less : {X : Type 0} (m p : ℕ) (xs : List X) → p < suc m → take m (remove xs p) ≡ remove (take (suc m) xs) p
take_less m p [] l = empty m p
  where
    empty : {X : Type 0} (m p : ℕ) → ◌≡◌ {A = List X} (take m (remove [] p)) (remove [] p)
    empty zero zero = refl
    empty zero (suc p) = refl
    empty (suc m) zero = refl
    empty (suc m) (suc p) = refl
take_less m zero (x ∷ xs) l = refl
take_less zero (suc p) (x ∷ xs) l = absurd (omega arith)
take_less (suc m) (suc p) (x ∷ xs) l = ap (λ z. x ∷ z) (take_less m p xs (omega arith))

drop_less : {X : Type 0} (m p : ℕ) (xs : List X) → p < suc m → p < length xs → drop m (remove xs p) ≡ drop (suc m) xs
drop_less m p [] l k = absurd (omega arith)
drop_less m zero (x ∷ xs) l k = refl
drop_less zero (suc p) (x ∷ xs) l k = absurd (omega arith)
drop_less (suc m) (suc p) (x ∷ xs) l k = drop_less m p xs (omega arith) (omega arith)

take_more : {X : Type 0} (n p : ℕ) (xs : List X) → n ≤ p → take n (remove xs p) ≡ take n xs
take_more zero p xs l = refl
take_more (suc n) zero xs l = absurd (omega arith)
take_more (suc n) (suc p) [] l = refl
take_more (suc n) (suc p) (x ∷ xs) l = ap (λ z. x ∷ z) (take_more n p xs (omega arith))

drop_more : {X : Type 0} (n p : ℕ) (xs : List X) → n ≤ p → drop n (remove xs p) ≡ remove (drop n xs) (p - n)
drop_more zero p xs l = let same : p - 0 ≡ p = omega arith in rw same refl
drop_more (suc n) zero xs l = absurd (omega arith)
drop_more (suc n) (suc p) [] l = empty (suc p - suc n)
  where
    empty : {X : Type 0} (k : ℕ) → ◌≡◌ {A = List X} [] (remove [] k)
    empty zero = refl
    empty (suc k) = refl
drop_more (suc n) (suc p) (x ∷ xs) l = let same : suc p - suc n ≡ p - n = omega arith in rw same (drop_more n p xs (omega arith))

found_within : {X : Type 0} (t : X → Bool) (xs : List X) (n p : ℕ) → position t xs ≡ Some p → p < n → position t (take n xs) ≡ Some p
found_within t xs zero p e l = absurd (omega arith)
found_within t [] (suc n) p e l = cc
found_within {X} t (x ∷ xs) (suc n) p e l = position-cons t x (take n xs) ∙ by (t x) (rw (position-cons t x xs) at e) (λ j f g. found_within t xs n j f g)
  where
    by : (b : Bool) → ◌≡◌ {A = Option ℕ} (cond b (Some 0) (option_map suc (position t xs))) (Some p) → ((j : ℕ) → position t xs ≡ Some j → j < n → position t (take n xs) ≡ Some j)
        → ◌≡◌ {A = Option ℕ} (cond b (Some 0) (option_map suc (position t (take n xs)))) (Some p)
    by true e again = e
    by false e again = step (position t xs) refl e
      where
        step : (o : Option ℕ) → position t xs ≡ o → option_map suc o ≡ Some p → option_map suc (position t (take n xs)) ≡ Some p
        step (Some j) q e = let z : p ≡ suc j = cc in ap (option_map suc) (again j q (omega (arith, z, l))) ∙ ap (λ n. Some n) (sym z)
        step None q e = cc

pub length-remove : {X : Type 0} (xs : List X) (p : ℕ) → p < length xs → length (remove xs p) + 1 ≡ length xs
length-remove [] p l = absurd (omega arith)
length-remove (x ∷ xs) zero l = omega arith
length-remove (x ∷ xs) (suc p) l = omega (arith, length-remove xs p (omega arith))

-- ---- the substations

abbrev pub unwound : Head → Head
unwound h = record h { transformers = h.transformers - 1 }

pub winding_below : (heads : List Head) (p : ℕ) → p < transformer_total heads → winding_place heads p < length heads
unfolding transformer_total place_by
winding_below [] p l = absurd (omega arith)
winding_below (h ∷ heads) p l = by (nat_lt p h.transformers) refl (winding_below heads (p - h.transformers))
  where
    by : (t : Bool) → nat_lt p h.transformers ≡ t → (p - h.transformers < transformer_total heads → winding_place heads (p - h.transformers) < length heads) → cond t 0 (winding_place heads (p - h.transformers) + 1) < suc (length heads)
    by true e again = omega arith
    by false e again = let more : h.transformers ≤ p = ltb-false p h.transformers e in omega (arith, again (omega (arith, l)))

pub winding_some : (heads : List Head) (p : ℕ) (h : Head) → p < transformer_total heads → slice_get heads (winding_place heads p) ≡ Some h → 1 ≤ h.transformers
unfolding transformer_total place_by
winding_some [] p h l e = cc
winding_some (x ∷ heads) p h l e = by (nat_lt p x.transformers) refl e (winding_some heads (p - x.transformers) h)
  where
    by : (t : Bool) → nat_lt p x.transformers ≡ t → slice_get (x ∷ heads) (cond t 0 (winding_place heads (p - x.transformers) + 1)) ≡ Some h
        → (p - x.transformers < transformer_total heads → slice_get heads (winding_place heads (p - x.transformers)) ≡ Some h → 1 ≤ h.transformers) → 1 ≤ h.transformers
    by true q e again = let same : x ≡ h = cc in omega (arith, ltb-true p x.transformers q, ap (λ (z : Head). z.transformers) same)
    by false q e again =
        let more : x.transformers ≤ p = ltb-false p x.transformers q in
        let one : winding_place heads (p - x.transformers) + 1 ≡ suc (winding_place heads (p - x.transformers)) = omega arith in
        again (omega (arith, l)) (rw one at e)

many_unwound : (heads : List Head) (j : ℕ) (h : Head) → slice_get heads j ≡ Some h → 1 ≤ h.transformers → transformer_total (slice_set heads j (unwound h)) + 1 ≡ transformer_total heads
unfolding transformer_total
many_unwound [] j h e l = cc
many_unwound (x ∷ heads) zero h e l = let same : x ≡ h = cc in omega (arith, ap (λ (z : Head). z.transformers) same, l)
many_unwound (x ∷ heads) (suc j) h e l = omega (arith, many_unwound heads j h e l)

total_unwound : (heads : List Head) (j : ℕ) (h : Head) → slice_get heads j ≡ Some h → level_total (slice_set heads j (unwound h)) ≡ level_total heads
unfolding level_total
total_unwound [] j h e = cc
total_unwound (x ∷ heads) zero h e = let same : x ≡ h = cc in omega (arith, ap (λ (z : Head). z.levels) same)
total_unwound (x ∷ heads) (suc j) h e = omega (arith, total_unwound heads j h e)

ids_unwound : (heads : List Head) (j : ℕ) (h : Head) → slice_get heads j ≡ Some h → map (λ (h : Head). h.id) (slice_set heads j (unwound h)) ≡ map (λ (h : Head). h.id) heads
ids_unwound [] j h e = cc
ids_unwound (x ∷ heads) zero h e = let same : x ≡ h = cc in ap (λ z. z ∷ map (λ (h : Head). h.id) heads) (ap (λ (z : Head). z.id) (sym same))
ids_unwound (x ∷ heads) (suc j) h e = ap (λ z. x.id ∷ z) (ids_unwound heads j h e)

abbrev name : NamedBranch → List ℕ
name b = b.id

names_split : (id : List ℕ) (n : ℕ) (ts : List NamedBranch) → times id (map name (take n ts)) + times id (map name (drop n ts)) ≡ times id (map name ts)
names_split id n ts =
    sym (times-append id (map name (take n ts)) (map name (drop n ts))) ∙ ap (times id) (sym (map-append name (take n ts) (drop n ts))) ∙ ap (λ z. times id (map name z)) (joined n ts)

-- without the branch, nothing changes
cut_alike : (id : List ℕ) (heads : List Head) (ls : List VoltageLevel) (ts : List NamedBranch) → times id (map name ts) ≡ 0 → cut heads ls ts ≡ map (substation_without id) (cut heads ls ts)
unfolding cut substation_without without_branch
cut_alike id [] ls ts h = refl
cut_alike id (x ∷ heads) ls ts h =
    let split = names_split id x.transformers ts in
    let first = none_out name id (take x.transformers ts) (omega (arith, split, h)) in
    rw (first, ← (cut_alike id heads (drop x.levels ls) (drop x.transformers ts) (omega (arith, split, h)))) refl

there_within : (t : NamedBranch → Bool) (ts : List NamedBranch) (p : ℕ) → position t ts ≡ Some p → p < length ts
there_within t ts p e = (position_found t ts p e).0

-- the transformer is in the list of its substation
some_there : (id : List ℕ) (ts : List NamedBranch) (p : ℕ) → position (λ (b : NamedBranch). same_id id b.id) ts ≡ Some p → 1 ≤ times id (map name ts)
some_there id [] p e = cc
some_there id (b ∷ ts) p e = by (same_id id b.id) (rw (position-cons (λ (b : NamedBranch). same_id id b.id) b ts) at e) (λ j. some_there id ts j)
  where
    by : (t : Bool) → ◌≡◌ {A = Option ℕ} (cond t (Some 0) (option_map suc (position (λ (b : NamedBranch). same_id id b.id) ts))) (Some p) → ((j : ℕ) → position (λ (b : NamedBranch). same_id id b.id) ts ≡ Some j → 1 ≤ times id (map name ts))
        → 1 ≤ cond t 1 0 + times id (map name ts)
    by true e again = omega arith
    by false e again = step (position (λ (b : NamedBranch). same_id id b.id) ts) refl e
      where
        step : (o : Option ℕ) → position (λ (b : NamedBranch). same_id id b.id) ts ≡ o → option_map suc o ≡ Some p → 1 ≤ 0 + times id (map name ts)
        step (Some j) q e = omega (arith, again j q)
        step None q e = cc

pub cut_unwound : (id : List ℕ) (heads : List Head) (ls : List VoltageLevel) (ts : List NamedBranch) (p : ℕ) (h : Head) → position (λ (b : NamedBranch). same_id id b.id) ts ≡ Some p → times id (map name ts) ≤ 1
    → length ts ≡ transformer_total heads → slice_get heads (winding_place heads p) ≡ Some h → cut (slice_set heads (winding_place heads p) (unwound h)) ls (remove ts p) ≡ map (substation_without id) (cut heads ls ts)
unfolding cut transformer_total place_by substation_without without_branch
cut_unwound id [] ls ts p h at once count got = cc
cut_unwound id (x ∷ heads) ls ts p h at once count got =
    by (nat_lt p x.transformers) refl got (λ a b c d. cut_unwound id heads (drop x.levels ls) (drop x.transformers ts) (p - x.transformers) h a b c d)
  where
    test : NamedBranch → Bool
    test b = same_id id b.id

    by : (t : Bool) → nat_lt p x.transformers ≡ t → slice_get (x ∷ heads) (cond t 0 (winding_place heads (p - x.transformers) + 1)) ≡ Some h
        → (position (λ (b : NamedBranch). same_id id b.id) (drop x.transformers ts) ≡ Some (p - x.transformers) → times id (map name (drop x.transformers ts)) ≤ 1 → length (drop x.transformers ts) ≡ transformer_total heads
        → slice_get heads (winding_place heads (p - x.transformers)) ≡ Some h
        → cut (slice_set heads (winding_place heads (p - x.transformers)) (unwound h)) (drop x.levels ls) (remove (drop x.transformers ts) (p - x.transformers)) ≡ map (substation_without id) (cut heads (drop x.levels ls) (drop x.transformers ts)))
        → cut (slice_set (x ∷ heads) (cond t 0 (winding_place heads (p - x.transformers) + 1)) (unwound h)) ls (remove ts p) ≡ map (substation_without id) (cut (x ∷ heads) ls ts)
    by true q got again =
        let less : p < x.transformers = ltb-true p x.transformers q in
        let same : x ≡ h = cc in
        let inside : p < length ts = there_within (λ (b : NamedBranch). same_id id b.id) ts p at in
        let n = x.transformers in
        let one : n ≡ suc (n - 1) = omega (arith, less) in
        let here : position (λ (b : NamedBranch). same_id id b.id) (take n ts) ≡ Some p = found_within (λ (b : NamedBranch). same_id id b.id) ts n p at less in
        let many : 1 ≤ times id (map name (take n ts)) = some_there id (take n ts) p here in
        let split = names_split id n ts in
        let front : filter (λ (b : NamedBranch). not (same_id id b.id)) (take n ts) ≡ remove (take n ts) p = one_out name id (take n ts) p (omega (arith, split, once)) here in
        let rest = cut_alike id heads (drop x.levels ls) (drop n ts) (omega (arith, split, once, many)) in
        let t1 : take (n - 1) (remove ts p) ≡ remove (take n ts) p = take_less (n - 1) p ts (omega (arith, less)) ∙ ap (λ z. remove (take z ts) p) (sym one) in
        let d1 : drop (n - 1) (remove ts p) ≡ drop n ts = drop_less (n - 1) p ts (omega (arith, less)) inside ∙ ap (λ z. drop z ts) (sym one) in
        rw (← same, t1, d1, front, ← rest) refl
    by false q got again =
        let n = x.transformers in
        let more : n ≤ p = ltb-false p n q in
        let one : winding_place heads (p - n) + 1 ≡ suc (winding_place heads (p - n)) = omega arith in
        let b = found_back (λ (b : NamedBranch). same_id id b.id) ts n p at more in
        let split = names_split id n ts in
        let none : times id (map name (take n ts)) ≡ 0 = not_here (take n ts) b.front in
        let front = none_out name id (take n ts) none in
        let rest = again b.back (omega (arith, split, once)) (omega (arith, count, length_drop n ts)) (rw one at got) in
        rw (one, take_more n p ts more, drop_more n p ts more, front, rest) refl
      where
        not_here : (ys : List NamedBranch) → list_any (λ (b : NamedBranch). same_id id b.id) ys ≡ false → times id (map name ys) ≡ 0
        not_here [] h = refl
        not_here (y ∷ ys) h = side (same_id id y.id) h (not_here ys)
          where
            side : (t : Bool) → t || list_any (λ (b : NamedBranch). same_id id b.id) ys ≡ false → (list_any (λ (b : NamedBranch). same_id id b.id) ys ≡ false → times id (map name ys) ≡ 0) → cond t 1 0 + times id (map name ys) ≡ 0
            side true h again = cc
            side false h again = omega (arith, again h)

pub dropped_none : (id : List ℕ) (heads : List Head) (ts : List NamedBranch) → times id (map name ts) ≡ 0 → length ts ≡ transformer_total heads → IsDropped id heads heads ts ts
unfolding without_branch
dropped_none id heads ts none count =
    record {
      transformers = sym (none_out name id ts none);
      substations = λ ls. cut_alike id heads ls ts none;
      ids = refl;
      level_count = refl;
      transformer_count = count;
      few = refl;
    }

pub dropped_some : (id : List ℕ) (heads : List Head) (ts : List NamedBranch) (p : ℕ) (h : Head) → position (λ (b : NamedBranch). same_id id b.id) ts ≡ Some p → times id (map name ts) ≤ 1 → length ts ≡ transformer_total heads
    → slice_get heads (winding_place heads p) ≡ Some h → IsDropped id heads (slice_set heads (winding_place heads p) (unwound h)) ts (remove ts p)
unfolding without_branch
dropped_some id heads ts p h at once count got =
    let inside : p < length ts = there_within (λ (b : NamedBranch). same_id id b.id) ts p at in
    let w = winding_place heads p in
    record {
      transformers = sym (one_out name id ts p once at);
      substations = λ ls. cut_unwound id heads ls ts p h at once count got;
      ids = ids_unwound heads w h got;
      level_count = total_unwound heads w h got;
      transformer_count = (let less = length-remove ts p inside in let many = many_unwound heads w h got (winding_some heads p h (omega (arith, inside, count)) got) in omega (arith, less, many, count));
      few = length-slice_set heads w (unwound h);
    }

-- ---- a branch in one of two lists

pub named_below : (id : List ℕ) (bs : List NamedBranch) (k : ℕ) → option_map (λ (b : NamedBranch). same_id id b.id) (slice_get bs k) ≡ Some true → k < length bs
named_below id [] k h = cc
named_below id (b ∷ bs) zero h = omega arith
named_below id (b ∷ bs) (suc k) h = omega (arith, named_below id bs k h)

pub named_found : (id : List ℕ) (bs : List NamedBranch) (k : ℕ) → position (λ (b : NamedBranch). same_id id b.id) bs ≡ Some k → option_map (λ (b : NamedBranch). same_id id b.id) (slice_get bs k) ≡ Some true
named_found id bs k at = let found = position_found (λ (b : NamedBranch). same_id id b.id) bs k at in by bs k found.0 found.1
  where
    by : (xs : List NamedBranch) (n : ℕ) → n < length xs → ((x : NamedBranch) → slice_get xs n ≡ Some x → same_id id x.id ≡ true) → option_map (λ (b : NamedBranch). same_id id b.id) (slice_get xs n) ≡ Some true
    by [] n l passes = absurd (omega arith)
    by (x ∷ xs) zero l passes = ap (λ t. Some t) (passes x refl)
    by (x ∷ xs) (suc n) l passes = by xs n (omega arith) passes

once_in_both : (id : List ℕ) (ts lines : List NamedBranch) → ids_differ (map name (ts ++ lines)) ≡ true → times id (map name ts) + times id (map name lines) ≤ 1
once_in_both id ts lines differ =
    let both = ap (times id) (map-append name ts lines) ∙ times-append id (map name ts) (map name lines) in
    omega (arith, both, differ-times (map name (ts ++ lines)) differ id)

-- an id names a branch of one of the two lists at most
pub line_alone : (id : List ℕ) (ts lines : List NamedBranch) (k : ℕ) → ids_differ (map name (ts ++ lines)) ≡ true → option_map (λ (b : NamedBranch). same_id id b.id) (slice_get lines k) ≡ Some true
    → (times id (map name ts) ≡ 0) × (position (λ (b : NamedBranch). same_id id b.id) lines ≡ Some k) × (without_branch id lines ≡ remove lines k)
unfolding without_branch
line_alone id ts lines k differ at =
    let once = once_in_both id ts lines differ in
    let there = times_there name id lines k at in
    let alone : times id (map name lines) ≤ 1 = omega (arith, once) in
    let place = place_sure name id lines k alone at in
    (omega (arith, once, there), place, one_out name id lines k alone place)

pub transformer_alone : (id : List ℕ) (ts lines : List NamedBranch) (k : ℕ) → ids_differ (map name (ts ++ lines)) ≡ true → option_map (λ (b : NamedBranch). same_id id b.id) (slice_get ts k) ≡ Some true
    → (without_branch id lines ≡ lines) × (position (λ (b : NamedBranch). same_id id b.id) ts ≡ Some k) × (times id (map name ts) ≤ 1)
unfolding without_branch
transformer_alone id ts lines k differ at =
    let once = once_in_both id ts lines differ in
    let there = times_there name id ts k at in
    let alone : times id (map name ts) ≤ 1 = omega (arith, once) in
    let none : times id (map name lines) ≡ 0 = omega (arith, once, there) in
    (none_out name id lines none, place_sure name id ts k alone at, alone)

pub no_line : (id : List ℕ) (lines : List NamedBranch) → position (λ (b : NamedBranch). same_id id b.id) lines ≡ None → without_branch id lines ≡ lines
unfolding without_branch
no_line id lines none = none_out name id lines (absent name id lines none)
