-- Lists of levels and rows of flags, by how many switches each level has.
use Rattle.std.proofs.Common.{◌≡◌, refl, sym, ap, ◌∙◌, ℕ, zero, suc, ◌+◌, ◌≤◌, Bool, List, [], ◌∷◌, ◌++◌, length, map, arith, Some}
use Rattle.std.specs.Prelude.{slice_set, slice_get, insert, remove, find, position}
use Rattle.std.proofs.lemmas.List.{map-set, length-set, map-append, length-append}
use Rattle.grid_lemmas.proofs.Lists.{position-cons}
use Rattle.grid_ids.specs.Name.{same_id}
use Rattle.grid_level.specs.VoltageLevel.{VoltageLevel}
use Rattle.grid_states.specs.Rows.{row_at, with_row, with_flag, with_flags, with_last, without_flag, with_level}
use Rattle.grid_structure.proofs.Counts.{times}
use Rattle.grid_structure.proofs.Frames.{ids_of, put, put_at, put_keeps, stands}

-- how many switches a level has
abbrev pub switch_count : VoltageLevel → ℕ
switch_count l = length l.switches

abbrev pub counts_of : List VoltageLevel → List ℕ
counts_of ls = map switch_count ls

-- one row per level, one flag per switch
abbrev pub Fit : List VoltageLevel → List (List Bool) → Type 0
Fit ls rows = map length rows ≡ counts_of ls

-- ---- rows

-- the row of a level has one flag per switch
pub row_length : (rows : List (List Bool)) (ls : List VoltageLevel) (k : ℕ) (l : VoltageLevel) → Fit ls rows → slice_get ls k ≡ Some l → length (row_at rows k) ≡ switch_count l
unfolding row_at
row_length [] [] k l e h = cc
row_length [] (x ∷ ls) k l e h = cc
row_length (row ∷ rows) [] k l e h = cc
row_length (row ∷ rows) (x ∷ ls) zero l e h = let same : x ≡ l = cc in let first : length row ≡ switch_count x = cc in first ∙ ap switch_count same
row_length (row ∷ rows) (x ∷ ls) (suc k) l e h = let rest : map length rows ≡ counts_of ls = cc in row_length rows ls k l rest h

pub length-rows : (rows : List (List Bool)) (ls : List VoltageLevel) → Fit ls rows → length rows ≡ length ls
length-rows [] [] e = refl
length-rows [] (x ∷ ls) e = cc
length-rows (row ∷ rows) [] e = cc
length-rows (row ∷ rows) (x ∷ ls) e = let rest : map length rows ≡ counts_of ls = cc in ap suc (length-rows rows ls rest)

-- one flag set leaves the lengths
pub lengths-with_flag : (rows : List (List Bool)) (k place : ℕ) (flag : Bool) → map length (with_flag rows k place flag) ≡ map length rows
unfolding with_flag with_row row_at
lengths-with_flag [] k place flag = refl
lengths-with_flag (row ∷ rows) zero place flag = ap (λ n. n ∷ map length rows) (length-set row place flag)
lengths-with_flag (row ∷ rows) (suc k) place flag = ap (λ ns. length row ∷ ns) (lengths-with_flag rows k place flag)

pub lengths-with_flags : (places : List ℕ) (rows : List (List Bool)) (k : ℕ) (flag : Bool) → map length (with_flags rows k places flag) ≡ map length rows
unfolding with_flags
lengths-with_flags [] rows k flag = refl
lengths-with_flags (place ∷ places) rows k flag = lengths-with_flags places (with_flag rows k place flag) k flag ∙ lengths-with_flag rows k place flag

-- another row and another level at one place
pub fit_set : (rows : List (List Bool)) (ls : List VoltageLevel) (k : ℕ) (row : List Bool) (l : VoltageLevel) → Fit ls rows → length row ≡ switch_count l → Fit (slice_set ls k l) (slice_set rows k row)
fit_set rows ls k row l e n = map-set length rows k row ∙ ap (λ ns. slice_set ns k (length row)) e ∙ ap (slice_set (counts_of ls) k) n ∙ sym (map-set switch_count ls k l)

length-last : (row : List Bool) (flag : Bool) → length (row ++ flag ∷ []) ≡ length row + 1
length-last row flag = length-append row (flag ∷ [])

pub fit_last : (rows : List (List Bool)) (ls : List VoltageLevel) (k : ℕ) (flag : Bool) (old new : VoltageLevel) → Fit ls rows → slice_get ls k ≡ Some old → switch_count new ≡ switch_count old + 1
    → Fit (slice_set ls k new) (with_last rows k flag)
unfolding with_last with_row
fit_last rows ls k flag old new e at n = fit_set rows ls k (row_at rows k ++ flag ∷ []) new e (omega (arith, length-last (row_at rows k) flag, row_length rows ls k old e at, n))

length-remove : {X Y : Type 0} (xs : List X) (ys : List Y) (j : ℕ) → length xs ≡ length ys → length (remove xs j) ≡ length (remove ys j)
length-remove [] [] zero e = refl
length-remove [] [] (suc j) e = refl
length-remove [] (y ∷ ys) j e = cc
length-remove (x ∷ xs) [] j e = cc
length-remove (x ∷ xs) (y ∷ ys) zero e = let rest : length xs ≡ length ys = cc in rest
length-remove (x ∷ xs) (y ∷ ys) (suc j) e = let rest : length xs ≡ length ys = cc in ap suc (length-remove xs ys j rest)

pub fit_less : (rows : List (List Bool)) (ls : List VoltageLevel) (k j : ℕ) (old : VoltageLevel) → Fit ls rows → slice_get ls k ≡ Some old
    → Fit (slice_set ls k (record old { switches = remove old.switches j })) (without_flag rows k j)
unfolding without_flag with_row
fit_less rows ls k j old e at = fit_set rows ls k (remove (row_at rows k) j) (record old { switches = remove old.switches j }) e (length-remove (row_at rows k) old.switches j (row_length rows ls k old e at))

map-insert : {X Y : Type 0} (f : X → Y) (xs : List X) (k : ℕ) (x : X) → map f (insert xs k x) ≡ insert (map f xs) k (f x)
map-insert f [] zero x = refl
map-insert f [] (suc k) x = refl
map-insert f (y ∷ xs) zero x = refl
map-insert f (y ∷ xs) (suc k) x = ap (λ z. f y ∷ z) (map-insert f xs k x)

pub fit_level : (rows : List (List Bool)) (ls : List VoltageLevel) (k : ℕ) (l : VoltageLevel) → Fit ls rows → switch_count l ≡ 0 → Fit (insert ls k l) (with_level rows k)
unfolding with_level
fit_level rows ls k l e n = map-insert length rows k [] ∙ ap (λ ns. insert ns k 0) e ∙ ap (insert (counts_of ls) k) (sym n) ∙ sym (map-insert switch_count ls k l)

-- ---- levels

-- the same ids and counts of switches
pub record Alike (old new : List VoltageLevel) : Type 0 where
  pub ids : ids_of new ≡ ids_of old
  pub counts : counts_of new ≡ counts_of old

pub alike_itself : (ls : List VoltageLevel) → Alike ls ls
alike_itself ls = record { ids = refl; counts = refl }

pub alike_on : (a b c : List VoltageLevel) → Alike a b → Alike b c → Alike a c
alike_on a b c x y = record { ids = y.ids ∙ x.ids; counts = y.counts ∙ x.counts }

pub alike_each : (change : VoltageLevel → VoltageLevel) (ls : List VoltageLevel) → ((l : VoltageLevel) → (change l).id ≡ l.id) → ((l : VoltageLevel) → switch_count (change l) ≡ switch_count l) → Alike ls (map change ls)
alike_each change [] same many = alike_itself []
alike_each change (l ∷ ls) same many =
    let rest = alike_each change ls same many in
    record { ids = ap (λ n. n ∷ ids_of (map change ls)) (same l) ∙ ap (λ ns. l.id ∷ ns) rest.ids; counts = ap (λ n. n ∷ counts_of (map change ls)) (many l) ∙ ap (λ ns. switch_count l ∷ ns) rest.counts }

pub ids-put : (new : VoltageLevel) (ls : List VoltageLevel) → ids_of (map (put new) ls) ≡ ids_of ls
ids-put new [] = refl
ids-put new (l ∷ ls) = ap (λ n. n ∷ ids_of (map (put new) ls)) (put_keeps new l) ∙ ap (λ ns. l.id ∷ ns) (ids-put new ls)

-- a level that is replaced by one with as many switches
pub alike_put : (id : List ℕ) (ls : List VoltageLevel) (old new : VoltageLevel) → ((q : List ℕ) → times q (ids_of ls) ≤ 1) → find (λ (l : VoltageLevel). same_id id l.id) ls ≡ Some old
    → new.id ≡ old.id → switch_count new ≡ switch_count old → Alike ls (map (put new) ls)
alike_put id ls old new once found same many = record { ids = ids-put new ls; counts = counts }
  where
    counts : counts_of (map (put new) ls) ≡ counts_of ls
    counts =
        let k = stands id ls old found in
        let alone : times old.id (ids_of (k.before ++ old ∷ k.after)) ≤ 1 = rw k.is at (once old.id) in
        rw k.is (ap counts_of (put_at new old k.before k.after same alone) ∙ map-append switch_count k.before (new ∷ k.after)
        ∙ ap (λ n. counts_of k.before ++ n ∷ counts_of k.after) many ∙ sym (map-append switch_count k.before (old ∷ k.after)))

-- where an id is found tells the ids alone
pub position_alike : (id : List ℕ) (xs ys : List VoltageLevel) → ids_of xs ≡ ids_of ys → position (λ (l : VoltageLevel). same_id id l.id) xs ≡ position (λ (l : VoltageLevel). same_id id l.id) ys
position_alike id xs ys e = by_ids xs ∙ ap (position (same_id id)) e ∙ sym (by_ids ys)
  where
    by_ids : (ls : List VoltageLevel) → position (λ (l : VoltageLevel). same_id id l.id) ls ≡ position (same_id id) (ids_of ls)
    by_ids [] = refl
    by_ids (l ∷ ls) = position-cons (λ (x : VoltageLevel). same_id id x.id) l ls ∙ rw (by_ids ls) (sym (position-cons (same_id id) l.id (ids_of ls)))
