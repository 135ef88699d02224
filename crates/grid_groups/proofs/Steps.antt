-- One step more of a loop.
use Rattle.std.proofs.Common.{◌≡◌, refl, sym, ap, ◌∙◌, subst, ℕ, zero, suc, ◌+◌, ◌<◌, ◌≤◌, Bool, true, false, cond, ◌&&◌, List, [], ◌∷◌, ◌++◌, length, get_or, take, arith, Some}
use Rattle.std.specs.Bool.{beq}
use Rattle.std.specs.Prelude.{eqb, map, filter, slice_get}
use Rattle.std.specs.List.{list_all, filter_map, range_with_len, zip}
use Rattle.std.proofs.lemmas.Slice.Zip.{length-zip, get_or-zip}
use Rattle.std.proofs.lemmas.Bool.{and_parts, and_from}
use Rattle.std.proofs.lemmas.Option.{slice_get_read}
use Rattle.std.proofs.lemmas.List.{append-nil, map-append, take_more}
use Rattle.std.proofs.lemmas.List.Elements.{filter_more, filter-append, filter_map-append}
use Rattle.grid_lemmas.proofs.Lists.{take_next}
use Rattle.grid_lemmas.proofs.Ranges.{range_more}
use Rattle.grid_graph.specs.Components.{places}
use Rattle.grid_level.specs.declared.Switch.{Switch}
use Rattle.grid_level.specs.declared.Internal.{Internal}
use Rattle.grid_level.specs.VoltageLevel.{VoltageLevel}
use Rattle.grid_level.specs.Passing as passing
use Rattle.grid_level.specs.Passing.{Edge, switch_edge, internal_edge, edges, ends, nodes}
use Rattle.grid_level.specs.Kept.{among, ends_among}
use Rattle.grid_groups.specs.Labels.{items_at, places_with, passing_flag, passing_flags}
use Rattle.grid_groups.proofs.Lists.{get_or_any, passed_below}

-- ---- items at places

pub items_next : {X Y : Type 0} (f : X → Y) (xs : List X) (ks : List ℕ) (i : ℕ) (x : X) → i < length ks → slice_get xs (get_or ks i 0) ≡ Some x → map f (items_at xs (take i ks)) ++ f x ∷ [] ≡ map f (items_at xs (take (i + 1) ks))
unfolding items_at
items_next f xs ks i x lt e = sym (ap (map f) step ∙ map-append f (items_at xs (take i ks)) (x ∷ []))
  where
    step : items_at xs (take (i + 1) ks) ≡ items_at xs (take i ks) ++ x ∷ []
    step =
        ap (filter_map (slice_get xs)) (take_more ks i 0 lt)
        ∙ filter_map-append (slice_get xs) (take i ks) (get_or ks i 0 ∷ [])
        ∙ ap (λ z. filter_map (slice_get xs) (take i ks) ++ z) (rw e refl)

-- ---- places that pass

pub places_more : (n : ℕ) → places (n + 1) ≡ places n ++ n ∷ []
unfolding places
places_more n = let next : n + 1 ≡ suc n = omega arith in ap (range_with_len 0) next ∙ range_more 0 n n (omega arith)

pub places_passed : (p : ℕ → Bool) (n : ℕ) → filter p (places (n + 1)) ≡ filter p (places n) ++ cond (p n) (n ∷ []) []
places_passed p n = ap (filter p) (places_more n) ∙ filter-append p (places n) (n ∷ [])

-- ---- the nodes of an item

pub switch_ends : (ns : List ℕ) (ss : List Switch) (rest : List Edge) (i : ℕ) (s : Switch) → list_all (ends_among ns) (map switch_edge ss ++ rest) ≡ true → i < length ss → s ≡ get_or ss i s
    → (among ns s.node1 ≡ true) × (among ns s.node2 ≡ true)
unfolding ends
switch_ends ns [] rest i s h lt at = absurd (omega arith)
switch_ends ns (t ∷ ss) rest zero s h lt at =
    let P : Switch → Type 0 = λ z. (among ns z.node1 ≡ true) × (among ns z.node2 ≡ true) in
    subst P (sym at) (and_parts (among ns t.node1) (among ns t.node2) (and_parts (among ns t.node1 && among ns t.node2) (list_all (ends_among ns) (map switch_edge ss ++ rest)) h).0)
switch_ends ns (t ∷ ss) rest (suc i) s h lt at = switch_ends ns ss rest i s (and_parts (among ns t.node1 && among ns t.node2) (list_all (ends_among ns) (map switch_edge ss ++ rest)) h).1 (omega arith) at

pub internal_ends : (ns : List ℕ) (ss : List Switch) (is : List Internal) (i : ℕ) (n : Internal) → list_all (ends_among ns) (map switch_edge ss ++ map internal_edge is) ≡ true → i < length is → n ≡ get_or is i n
    → (among ns n.node1 ≡ true) × (among ns n.node2 ≡ true)
unfolding ends
internal_ends ns (t ∷ ss) is i n h lt at = internal_ends ns ss is i n (and_parts (among ns t.node1 && among ns t.node2) (list_all (ends_among ns) (map switch_edge ss ++ map internal_edge is)) h).1 lt at
internal_ends ns [] [] i n h lt at = absurd (omega arith)
internal_ends ns [] (m ∷ is) zero n h lt at =
    let P : Internal → Type 0 = λ z. (among ns z.node1 ≡ true) × (among ns z.node2 ≡ true) in
    subst P (sym at) (and_parts (among ns m.node1) (among ns m.node2) (and_parts (among ns m.node1 && among ns m.node2) (list_all (ends_among ns) (map internal_edge is)) h).0)
internal_ends ns [] (m ∷ is) (suc i) n h lt at = internal_ends ns [] is i n (and_parts (among ns m.node1 && among ns m.node2) (list_all (ends_among ns) (map internal_edge is)) h).1 (omega arith) at

pub all_at : {X : Type 0} (p : X → Bool) (xs : List X) (i : ℕ) (x : X) → list_all p xs ≡ true → i < length xs → x ≡ get_or xs i x → p x ≡ true
all_at p [] i x h lt at = absurd (omega arith)
all_at {X} p (y ∷ xs) zero x h lt at = let P : X → Type 0 = λ z. p z ≡ true in subst P (sym at) (and_parts (p y) (list_all p xs) h).0
all_at p (y ∷ xs) (suc i) x h lt at = all_at p xs i x (and_parts (p y) (list_all p xs) h).1 (omega arith) at

pub map_next : {A B : Type 0} (f : A → B) (xs : List A) (i : ℕ) (x : A) → i < length xs → x ≡ get_or xs i x → map f (take i xs) ++ f x ∷ [] ≡ map f (take (i + 1) xs)
map_next f xs i x lt at = sym (ap (map f) (take_next xs i x lt at) ∙ map-append f (take i xs) (x ∷ []))

pub switch_at : (level : VoltageLevel) (ss : List Switch) (i : ℕ) (s : Switch) → list_all (ends_among (nodes level)) (edges level) ≡ true → ss ≡ level.switches → i < length ss → s ≡ get_or ss i s
    → (among (nodes level) s.node1 ≡ true) × (among (nodes level) s.node2 ≡ true)
unfolding edges
switch_at level ss i s h e lt at =
    let P : List Switch → Type 0 = λ z. list_all (ends_among (nodes level)) (map switch_edge z ++ map internal_edge level.internals) ≡ true in
    switch_ends (nodes level) ss (map internal_edge level.internals) i s (subst P (sym e) h) lt at

pub internal_at : (level : VoltageLevel) (is : List Internal) (i : ℕ) (d : Internal) → list_all (ends_among (nodes level)) (edges level) ≡ true → is ≡ level.internals → i < length is
    → (among (nodes level) (get_or is i d).node1 ≡ true) × (among (nodes level) (get_or is i d).node2 ≡ true)
unfolding edges
internal_at level is i d h e lt =
    let P : List Internal → Type 0 = λ z. list_all (ends_among (nodes level)) (map switch_edge level.switches ++ map internal_edge z) ≡ true in
    internal_ends (nodes level) level.switches is i (get_or is i d) (subst P (sym e) h) lt (get_or_any is i d (get_or is i d) lt)

pub internal_among : (ns : List ℕ) (level : VoltageLevel) (is : List Internal) (i : ℕ) (d : Internal) → nodes level ≡ ns → list_all (ends_among (nodes level)) (edges level) ≡ true → is ≡ level.internals → i < length is
    → (among ns (get_or is i d).node1 ≡ true) × (among ns (get_or is i d).node2 ≡ true)
internal_among ns level is i d same h e lt =
    let P : List ℕ → Type 0 = λ z. (among z (get_or is i d).node1 ≡ true) × (among z (get_or is i d).node2 ≡ true) in
    subst P same (internal_at level is i d h e lt)

-- ---- switches with their flags

pub zip_at : (ss : List Switch) (flags : List Bool) (i : ℕ) (s : Switch) (f : Bool) → i < length ss → length flags ≡ length ss → s ≡ get_or ss i s → get_or flags i false ≡ f → (s, f) ≡ get_or (zip ss flags) i (s, f)
zip_at ss flags i s f lt long at flag =
    let less : i < length flags = omega (arith, lt, long) in
    ap (λ (z : Switch). (z, f)) at ∙ ap (λ (t : Bool). (get_or ss i s, t)) (sym flag ∙ get_or_any flags i false f less) ∙ sym (get_or-zip ss flags i (s, f) lt less)

pub zip_within : (ss : List Switch) (flags : List Bool) (i : ℕ) → i < length ss → length flags ≡ length ss → i < length (zip ss flags)
zip_within ss flags i lt long = omega (arith, length-zip ss flags, lt, long)

pub zip_over : (ss : List Switch) (flags : List Bool) (i : ℕ) → length ss ≤ i → length (zip ss flags) ≤ i
zip_over ss flags i le = omega (arith, length-zip ss flags, le)

-- ---- the ends of switches

ends_among-switches : (ns : List ℕ) (ss : List Switch) (rest : List Edge) → list_all (ends_among ns) (map switch_edge ss ++ rest) ≡ true → list_all (λ pair. among ns pair.0 && among ns pair.1) (map passing.switch_ends ss) ≡ true
unfolding ends
ends_among-switches ns [] rest h = refl
ends_among-switches ns (s ∷ ss) rest h =
    let parts = and_parts (among ns s.node1 && among ns s.node2) (list_all (ends_among ns) (map switch_edge ss ++ rest)) h in
    and_from (among ns s.node1 && among ns s.node2) (list_all (λ (pair : ℕ × ℕ). among ns pair.0 && among ns pair.1) (map passing.switch_ends ss)) parts.0 (ends_among-switches ns ss rest parts.1)

pub pair_at : (level : VoltageLevel) (i : ℕ) (pair : ℕ × ℕ) → list_all (ends_among (nodes level)) (edges level) ≡ true → i < length (map passing.switch_ends level.switches) → pair ≡ get_or (map passing.switch_ends level.switches) i pair
    → (among (nodes level) pair.0 ≡ true) × (among (nodes level) pair.1 ≡ true)
unfolding edges
pair_at level i pair h lt at =
    let ns = nodes level in
    and_parts (among ns pair.0) (among ns pair.1)
    (all_at (λ (p : ℕ × ℕ). among ns p.0 && among ns p.1) (map passing.switch_ends level.switches) i pair (ends_among-switches ns level.switches (map internal_edge level.internals) h) lt at)

-- a flag lets pass where it is the value that does
pub passing_flag_is : (value flag : Bool) → passing_flag value flag ≡ beq flag value
passing_flag_is true true = refl
passing_flag_is true false = refl
passing_flag_is false true = refl
passing_flag_is false false = refl

-- the ends of the switches whose flag has the value that lets pass
pub passed_ends : (ss : List Switch) (value : Bool) (flags : List Bool)
    → map (λ pair. pair.0) (filter (λ pair. passing_flag value pair.1) (zip (map passing.switch_ends ss) flags)) ≡ map (λ pair. ends (switch_edge pair.0)) (filter (λ pair. pair.1) (zip ss (passing_flags value flags)))
unfolding ends
passed_ends [] value flags = refl
passed_ends (s ∷ ss) true [] = refl
passed_ends (s ∷ ss) false [] = refl
passed_ends (s ∷ ss) true (true ∷ flags) = ap (λ z. (s.node1, s.node2) ∷ z) (passed_ends ss true flags)
passed_ends (s ∷ ss) true (false ∷ flags) = passed_ends ss true flags
passed_ends (s ∷ ss) false (true ∷ flags) = passed_ends ss false flags
passed_ends (s ∷ ss) false (false ∷ flags) = ap (λ z. (s.node1, s.node2) ∷ z) (passed_ends ss false flags)

-- ---- what is made of the places that pass

pub mapped_place : {X : Type 0} (f : ℕ → X) (p : ℕ → Bool) (n : ℕ) (now : List X) (y : X) → p n ≡ true → now ≡ map f (filter p (places n)) → y ≡ f n → now ++ y ∷ [] ≡ map f (filter p (places (n + 1)))
mapped_place f p n now y pass so_far e =
    ap (λ z. z ++ y ∷ []) so_far ∙ ap (λ z. map f (filter p (places n)) ++ z ∷ []) e ∙ sym (map-append f (filter p (places n)) (n ∷ []))
    ∙ sym (ap (map f) (places_passed p n ∙ ap (λ t. filter p (places n) ++ cond t (n ∷ []) []) pass))

pub unmapped_place : {X : Type 0} (f : ℕ → X) (p : ℕ → Bool) (n : ℕ) (now : List X) → p n ≡ false → now ≡ map f (filter p (places n)) → now ≡ map f (filter p (places (n + 1)))
unmapped_place f p n now pass so_far = so_far ∙ sym (ap (map f) (places_passed p n ∙ ap (λ t. filter p (places n) ++ cond t (n ∷ []) []) pass ∙ append-nil (filter p (places n))))

-- the places with a key are places of the list
pub places_within : (keys row : List ℕ) (key count : ℕ) → row ≡ places_with keys key → length keys ≡ count → (k : ℕ) → k < length row → get_or row k 0 < count
unfolding places_with
places_within keys row key count e long k lt =
    let r = passed_below (λ j. eqb (get_or keys j 0) key) (length keys) k 0 (omega (arith, lt, ap length e)) in
    omega (arith, r, long, ap (λ z. get_or z k 0) e)

pub read_item : {X : Type 0} (xs all : List X) (k : ℕ) (x : X) → xs ≡ all → k < length all → x ≡ get_or xs k x → slice_get all k ≡ Some x
read_item xs all k x same lt at = slice_get_read all (length all) k x refl lt (at ∙ ap (λ z. get_or z k x) same)

-- ---- what is made of the items that pass

filter_next : {A : Type 0} (p : A → Bool) (xs : List A) (i : ℕ) (x : A) (t : Bool) → i < length xs → x ≡ get_or xs i x → p x ≡ t → filter p (take (i + 1) xs) ≡ filter p (take i xs) ++ cond t (x ∷ []) []
filter_next {A} p xs i x t lt at e =
    filter_more p xs i x lt ∙ ap (λ (z : A). filter p (take i xs) ++ cond (p z) (z ∷ []) []) (sym at) ∙ ap (λ u. filter p (take i xs) ++ cond u (x ∷ []) []) e

pub passed_next : {A B : Type 0} (f : A → B) (p : A → Bool) (xs : List A) (i : ℕ) (x : A) → i < length xs → x ≡ get_or xs i x → p x ≡ true → map f (filter p (take i xs)) ++ f x ∷ [] ≡ map f (filter p (take (i + 1) xs))
passed_next f p xs i x lt at pass = sym (ap (map f) (filter_next p xs i x true lt at pass) ∙ map-append f (filter p (take i xs)) (x ∷ []))

pub skipped_next : {A B : Type 0} (f : A → B) (p : A → Bool) (xs : List A) (i : ℕ) (x : A) → i < length xs → x ≡ get_or xs i x → p x ≡ false → map f (filter p (take i xs)) ≡ map f (filter p (take (i + 1) xs))
skipped_next f p xs i x lt at fails = sym (ap (map f) (filter_next p xs i x false lt at fails ∙ append-nil (filter p (take i xs))))
