-- Where the substations' levels and transformers stand in the lists of a structure.
use Rattle.std.proofs.Common.{◌≡◌, refl, sym, ap, ap₂, subst, ◌∙◌, ℕ, zero, suc, ◌+◌, ◌-◌, ◌≤◌, List, [], ◌∷◌, ◌++◌, length, arith, Option, Some, None, take, drop, map, length-append, append_assoc, append-nil}
use Rattle.std.specs.List.{flat_map, slice_get}
use Rattle.std.proofs.lemmas.List.{map-append}
use Rattle.std.proofs.lemmas.Grind.{flat_map-append}
use Rattle.grid_lemmas.proofs.Lists.{take_got}
use Rattle.grid_structure.specs.declared.NamedBranch.{NamedBranch}
use Rattle.grid_structure.specs.declared.Branch.{Branch}
use Rattle.grid_structure.specs.Network.{Network, Substation}
use Rattle.std.specs.Option.{option_map}
use Rattle.serde_json.specs.declared.value.Value.{Value}
use Rattle.serde_json.specs.Data.{Data}
use Rattle.serde_json.specs.View.{view}
use Rattle.grid_structure.specs.Sites.{levels, branches}
use Rattle.grid_print.specs.Objects.{array_of}
use Rattle.grid_print.specs.Network.{level_value, branch_value, named_branch_value, substation_of, substation_value}
use Rattle.grid_print.specs.Cutting.{between, levels_before, transformers_before}

-- ---- parts of lists

pub one_more_at : {A : Type 0} (xs : List A) (n : ℕ) (x : A) → slice_get xs n ≡ Some x → take (n + 1) xs ≡ take n xs ++ x ∷ []
one_more_at xs n x e = let one : n + 1 ≡ suc n = omega arith in rw one (take_got xs n x e)

pub get_behind : {A : Type 0} (xs : List A) (k n : ℕ) → slice_get (drop k xs) n ≡ slice_get xs (k + n)
get_behind [] zero n = refl
get_behind [] (suc k) n = refl
get_behind (x ∷ xs) zero n = let none : 0 + n ≡ n = omega arith in rw none refl
get_behind (x ∷ xs) (suc k) n = let move : suc k + n ≡ suc (k + n) = omega arith in rw move (get_behind xs k n)

pub between_more : {A : Type 0} (xs : List A) (from place : ℕ) (x : A) → from ≤ place → slice_get xs place ≡ Some x → between from (place + 1) xs ≡ between from place xs ++ x ∷ []
between_more xs from place x le at =
    let count : (place + 1) - from ≡ suc (place - from) = omega arith in
    let there : from + (place - from) ≡ place = omega arith in
    rw count (take_got (drop from xs) (place - from) x (get_behind xs from (place - from) ∙ ap (slice_get xs) there ∙ at))

pub take_front : {A : Type 0} (xs ys : List A) → take (length xs) (xs ++ ys) ≡ xs
take_front [] ys = refl
take_front (x ∷ xs) ys = ap (λ zs. x ∷ zs) (take_front xs ys)

drop_front : {A : Type 0} (n : ℕ) (xs ys : List A) → drop (length xs + n) (xs ++ ys) ≡ drop n ys
drop_front n [] ys = let none : 0 + n ≡ n = omega arith in rw none refl
drop_front n (x ∷ xs) ys = let move : suc (length xs) + n ≡ suc (length xs + n) = omega arith in rw move (drop_front n xs ys)

-- ---- what each substation has of the whole

-- how many all before have, of any part
abbrev many : {A : Type 0} → (Substation → List A) → ℕ → List Substation → ℕ
many part k subs = length (flat_map part (take k subs))

many_suc : {A : Type 0} (part : Substation → List A) (k : ℕ) (s : Substation) (subs : List Substation) → many part (suc k) (s ∷ subs) ≡ length (part s) + many part k subs
many_suc part k s subs = length-append (part s) (flat_map part (take k subs))

pub many_more : {A : Type 0} (part : Substation → List A) (subs : List Substation) (k : ℕ) (s : Substation) → slice_get subs k ≡ Some s → many part (k + 1) subs ≡ many part k subs + length (part s)
many_more part [] k s at = cc
many_more part (t ∷ subs) zero s at = let same : t ≡ s = cc in rw (many_suc part zero t subs, same) (omega arith)
many_more part (t ∷ subs) (suc k) s at =
    let one : suc k + 1 ≡ suc (k + 1) = omega arith in
    rw one (omega (arith, many_suc part (k + 1) t subs, many_suc part k t subs, many_more part subs k s at))

pub many_all : {A : Type 0} (part : Substation → List A) (subs : List Substation) → many part (length subs) subs ≡ length (flat_map part subs)
many_all part [] = refl
many_all part (s ∷ subs) = many_suc part (length subs) s subs ∙ ap (λ n. length (part s) + n) (many_all part subs) ∙ sym (length-append (part s) (flat_map part subs))

pub many_within : {A : Type 0} (part : Substation → List A) (subs : List Substation) (k : ℕ) → many part k subs ≤ length (flat_map part subs)
many_within part [] zero = omega arith
many_within part [] (suc k) = omega arith
many_within part (s ∷ subs) zero = omega arith
many_within part (s ∷ subs) (suc k) = omega (arith, many_suc part k s subs, many_within part subs k, length-append (part s) (flat_map part subs))

shifted : {A : Type 0} (a b : ℕ) (xs ys : List A) → between (length xs + a) (length xs + b) (xs ++ ys) ≡ between a b ys
shifted a b xs ys = let count : (length xs + b) - (length xs + a) ≡ b - a = omega arith in rw (count, drop_front a xs ys) refl

pub many_grow : {A : Type 0} (part : Substation → List A) (subs : List Substation) (k : ℕ) → many part k subs ≤ many part (k + 1) subs
many_grow part [] zero = omega arith
many_grow part [] (suc k) = omega arith
many_grow part (s ∷ subs) zero = omega arith
many_grow part (s ∷ subs) (suc k) =
    let one : suc k + 1 ≡ suc (k + 1) = omega arith in
    rw one (omega (arith, many_suc part k s subs, many_suc part (k + 1) s subs, many_grow part subs k))

-- the part of one substation, cut out of all
pub cut_out : {A : Type 0} (part : Substation → List A) (rest : List A) (subs : List Substation) (k : ℕ) (s : Substation) → slice_get subs k ≡ Some s
    → between (many part k subs) (many part (k + 1) subs) (flat_map part subs ++ rest) ≡ part s
cut_out part rest [] k s at = cc
cut_out part rest (t ∷ subs) zero s at =
    let same : t ≡ s = cc in
    let count : many part 1 (t ∷ subs) - 0 ≡ length (part t) = omega (arith, many_suc part zero t subs) in
    rw (count, append_assoc (part t) (flat_map part subs) rest) (take_front (part t) (flat_map part subs ++ rest) ∙ ap part same)
cut_out part rest (t ∷ subs) (suc k) s at =
    let one : suc k + 1 ≡ suc (k + 1) = omega arith in
    rw (one, many_suc part k t subs, many_suc part (k + 1) t subs, append_assoc (part t) (flat_map part subs) rest)
    (shifted (many part k subs) (many part (k + 1) subs) (part t) (flat_map part subs ++ rest) ∙ cut_out part rest subs k s at)

-- ---- turns of the loops

-- one more value, and one more of what is written
pub mapped_more : {A : Type 0} (written : A → Data) (front : List A) (old : List Value) (v : Value) (x : A) → map view old ≡ map written front → view v ≡ written x → map view (old ++ v ∷ []) ≡ map written (front ++ x ∷ [])
mapped_more written front old v x so_far made = map-append view old (v ∷ []) ∙ ap₂ (λ ds d. ds ++ d ∷ []) so_far made ∙ sym (map-append written front (x ∷ []))

-- one more element, with what is written of it
pub flat_mapped : {A : Type 0} (written : A → List Data) (xs : List A) (n : ℕ) (x : A) (old some : List Value) → slice_get xs n ≡ Some x → map view old ≡ flat_map written (take n xs) → map view some ≡ written x
    → map view (old ++ some) ≡ flat_map written (take (n + 1) xs)
flat_mapped written xs n x old some at so_far made =
    let more : flat_map written (take n xs ++ x ∷ []) ≡ flat_map written (take n xs) ++ written x = flat_map-append written (take n xs) (x ∷ []) ∙ ap (λ ds. flat_map written (take n xs) ++ ds) (append-nil (written x)) in
    rw (one_more_at xs n x at) (map-append view old some ∙ ap₂ (λ ds es. ds ++ es) so_far made ∙ sym more)

pub levels_grow : (subs : List Substation) (k : ℕ) → levels_before k subs ≤ levels_before (k + 1) subs
unfolding levels_before
levels_grow subs k = many_grow (λ s. s.levels) subs k

pub levels_within : (subs : List Substation) (k : ℕ) → levels_before k subs ≤ length (flat_map (λ s. s.levels) subs)
unfolding levels_before
levels_within subs k = many_within (λ s. s.levels) subs k

-- what the id and the shape were found of
found_at : {A B : Type 0} (f : A → B) (o : Option A) (y : B) → option_map f o ≡ Some y → (x : A) × (o ≡ Some x) × (f x ≡ y)
found_at f None y e = cc
found_at f (Some x) y e = let same : f x ≡ y = cc in (x, refl, same)

-- where a substation's levels and its transformers end
pub levels_after : (subs : List Substation) (k n : ℕ) → option_map (λ s. length s.levels) (slice_get subs k) ≡ Some n → levels_before (k + 1) subs ≡ levels_before k subs + n
unfolding levels_before
levels_after subs k n e = let s = found_at (λ s. length s.levels) (slice_get subs k) n e in many_more (λ s. s.levels) subs k s.0 s.1 ∙ ap (λ m. many (λ s. s.levels) k subs + m) s.2

pub transformers_after : (subs : List Substation) (k n : ℕ) → option_map (λ s. length s.transformers) (slice_get subs k) ≡ Some n → transformers_before (k + 1) subs ≡ transformers_before k subs + n
unfolding transformers_before
transformers_after subs k n e = let s = found_at (λ s. length s.transformers) (slice_get subs k) n e in many_more (λ s. s.transformers) subs k s.0 s.1 ∙ ap (λ m. many (λ s. s.transformers) k subs + m) s.2

pub transformers_grow : (subs : List Substation) (k : ℕ) → transformers_before k subs ≤ transformers_before (k + 1) subs
unfolding transformers_before
transformers_grow subs k = many_grow (λ s. s.transformers) subs k

pub transformers_within : (net : Network) (k : ℕ) → transformers_before k net.substations ≤ length (branches net)
unfolding transformers_before branches
transformers_within net k = omega (arith, many_within (λ s. s.transformers) net.substations k, length-append (flat_map (λ s. s.transformers) net.substations) net.lines)

pub levels_all : (net : Network) → levels_before (length net.substations) net.substations ≡ length (levels net)
unfolding levels_before levels
levels_all net = many_all (λ s. s.levels) net.substations

-- the value of the substation at a place
pub substation_made : (net : Network) (k : ℕ) (id : List ℕ) (ls ts : Data) → option_map (λ s. s.id) (slice_get net.substations k) ≡ Some id
    → ls ≡ array_of level_value (between (levels_before k net.substations) (levels_before (k + 1) net.substations) (levels net))
    → ts ≡ array_of named_branch_value (between (transformers_before k net.substations) (transformers_before (k + 1) net.substations) (branches net))
    → (s : Substation) × (slice_get net.substations k ≡ Some s) × (substation_of id ls ts ≡ substation_value s) × (s.id ≡ id)
unfolding substation_value levels branches levels_before transformers_before
substation_made net k id ls ts named made_ls made_ts =
    let s = found_at (λ s. s.id) (slice_get net.substations k) id named in
    let some_levels : between (many (λ z. z.levels) k net.substations) (many (λ z. z.levels) (k + 1) net.substations) (flat_map (λ z. z.levels) net.substations) ≡ s.0.levels =
    ap (between (many (λ z. z.levels) k net.substations) (many (λ z. z.levels) (k + 1) net.substations)) (sym (append-nil (flat_map (λ z. z.levels) net.substations)))
    ∙ cut_out (λ z. z.levels) [] net.substations k s.0 s.1 in
    let some_transformers = cut_out (λ z. z.transformers) net.lines net.substations k s.0 s.1 in
    let l : ls ≡ array_of level_value s.0.levels = made_ls ∙ ap (array_of level_value) some_levels in
    let t : ts ≡ array_of named_branch_value s.0.transformers = made_ts ∙ ap (array_of named_branch_value) some_transformers in
    (s.0, s.1, ap (λ i. substation_of i ls ts) (sym s.2) ∙ ap₂ (substation_of s.0.id) l t, s.2)

-- the branch at a place
pub branch_made : (net : Network) (p : ℕ) (id : List ℕ) (shape : Branch) → option_map (λ b. b.id) (slice_get (branches net) p) ≡ Some id → option_map (λ b. b.shape) (slice_get (branches net) p) ≡ Some shape
    → (b : NamedBranch) × (slice_get (branches net) p ≡ Some b) × (branch_value id shape ≡ named_branch_value b) × (b.id ≡ id) × (b.shape ≡ shape)
branch_made net p id shape named shaped =
    let b = found_at (λ b. b.id) (slice_get (branches net) p) id named in
    let same : b.0.shape ≡ shape = shape_is b.0 (rw b.1 at shaped) in
    (b.0, b.1, ap₂ branch_value (sym b.2) (sym same), b.2, same)
  where
    shape_is : (b : NamedBranch) → option_map (λ z. z.shape) (Some b) ≡ Some shape → b.shape ≡ shape
    shape_is b e = cc

all_taken : {A : Type 0} (ys : List A) → between 0 (length ys) ys ≡ ys
all_taken ys =
    let none : length ys - 0 ≡ length ys = omega arith in
    rw none (ap (take (length ys)) (sym (append-nil ys)) ∙ take_front ys [])

cut_back : {A : Type 0} (xs ys : List A) → between (length xs) (length (xs ++ ys)) (xs ++ ys) ≡ ys
cut_back xs ys =
    let one : length xs + 0 ≡ length xs = omega arith in
    rw (length-append xs ys) (subst (λ n. between n (length xs + length ys) (xs ++ ys) ≡ ys) one (shifted 0 (length ys) xs ys ∙ all_taken ys))

-- the lines behind all transformers
pub lines_are : (net : Network) → between (transformers_before (length net.substations) net.substations) (length (branches net)) (branches net) ≡ net.lines
unfolding transformers_before branches
lines_are net =
    let all = many_all (λ z. z.transformers) net.substations in
    let front = flat_map (λ z. z.transformers) net.substations in
    rw all (cut_back front net.lines)
