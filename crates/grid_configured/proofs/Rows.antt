-- Rows of flags of the node/breaker form: a level's switches, then its terminals, whose breakers are open where they are not connected.
use Rattle.std.proofs.Common.{◌≡◌, refl, sym, ap, ◌∙◌, ℕ, zero, suc, ◌+◌, ◌-◌, ◌<◌, Bool, false, not, List, [], ◌∷◌, ◌++◌, length, get_or, set, arith}
use Rattle.std.specs.Prelude.{Some, map, slice_get}
use Rattle.std.specs.List.{enumerate_from}
use Rattle.std.proofs.lemmas.List.{map-append, map-set, get_or_append_left, set-append_left, set-append_right}
use Rattle.grid_states.specs.Rows.{row_at, with_row, with_flag}
use Rattle.grid_level.specs.declared.Switch.{Switch}
use Rattle.grid_core.specs.Solo.{flag_at}
use Rattle.grid_paths.proofs.Least.{some_same, some_none}
use Rattle.grid_placed.specs.Places.{Joint, Outlet, PlacedLevel}
use Rattle.grid_placed.specs.Translation.{joint_breaker, outlet_breaker, outlets_at, translated_level}

-- the flags of a level's breakers
abbrev pub joined_row : List Bool → List Bool → List Bool
joined_row opened connected = opened ++ map not connected

unfoldable pub joined_rows : List (List Bool) → List (List Bool) → List (List Bool)
joined_rows (o ∷ os) (c ∷ cs) = joined_row o c ∷ joined_rows os cs
joined_rows os cs = []

pub row_joined : (os cs : List (List Bool)) (p : ℕ) → p < length os → p < length cs → row_at (joined_rows os cs) p ≡ joined_row (row_at os p) (row_at cs p)
unfolding row_at joined_rows
row_joined [] cs p lt less = absurd (omega (arith, lt))
row_joined (o ∷ os) [] p lt less = absurd (omega (arith, less))
row_joined (o ∷ os) (c ∷ cs) zero lt less = refl
row_joined (o ∷ os) (c ∷ cs) (suc p) lt less = row_joined os cs p (omega (arith, lt)) (omega (arith, less))

set_first : (os cs : List (List Bool)) (p : ℕ) (row : List Bool) → p < length os → p < length cs → set (joined_rows os cs) p (joined_row row (get_or cs p [])) ≡ joined_rows (set os p row) cs
unfolding joined_rows
set_first [] cs p row lt less = absurd (omega (arith, lt))
set_first (o ∷ os) [] p row lt less = absurd (omega (arith, less))
set_first (o ∷ os) (c ∷ cs) zero row lt less = refl
set_first (o ∷ os) (c ∷ cs) (suc p) row lt less = ap (λ z. joined_row o c ∷ z) (set_first os cs p row (omega (arith, lt)) (omega (arith, less)))

set_second : (os cs : List (List Bool)) (p : ℕ) (row : List Bool) → p < length os → p < length cs → set (joined_rows os cs) p (joined_row (get_or os p []) row) ≡ joined_rows os (set cs p row)
unfolding joined_rows
set_second [] cs p row lt less = absurd (omega (arith, lt))
set_second (o ∷ os) [] p row lt less = absurd (omega (arith, less))
set_second (o ∷ os) (c ∷ cs) zero row lt less = refl
set_second (o ∷ os) (c ∷ cs) (suc p) row lt less = ap (λ z. joined_row o c ∷ z) (set_second os cs p row (omega (arith, lt)) (omega (arith, less)))

-- ---- a switch between buses

pub flag_first : (os cs : List (List Bool)) (p k : ℕ) → p < length os → p < length cs → k < length (row_at os p) → flag_at (joined_rows os cs) (p, k) ≡ flag_at os (p, k)
unfolding flag_at row_at
flag_first os cs p k lt less here =
    ap (λ z. get_or z k false) (row_joined os cs p lt less) ∙ get_or_append_left (get_or os p []) (map not (get_or cs p [])) false k here

pub put_first : (os cs : List (List Bool)) (p k : ℕ) (b : Bool) → p < length os → p < length cs → k < length (row_at os p) → with_flag (joined_rows os cs) p k b ≡ joined_rows (with_flag os p k b) cs
unfolding with_flag with_row row_at
put_first os cs p k b lt less here =
    ap (λ z. set (joined_rows os cs) p (set z k b)) (row_joined os cs p lt less)
    ∙ ap (set (joined_rows os cs) p) (set-append_left (get_or os p []) (map not (get_or cs p [])) k b here)
    ∙ set_first os cs p (set (get_or os p []) k b) lt less

-- ---- a terminal's breaker

pub put_second : (os cs : List (List Bool)) (p k at : ℕ) (b : Bool) → p < length os → p < length cs → at ≡ length (row_at os p) + k → with_flag (joined_rows os cs) p at (not b) ≡ joined_rows os (with_flag cs p k b)
unfolding with_flag with_row row_at
put_second os cs p k at b lt less e =
    let same : at - length (get_or os p []) ≡ k = omega (arith, e) in
    ap (λ z. set (joined_rows os cs) p (set z at (not b))) (row_joined os cs p lt less)
    ∙ ap (set (joined_rows os cs) p) (set-append_right (get_or os p []) (map not (get_or cs p [])) (length (get_or os p [])) at (not b) refl (omega (arith, e))
    ∙ ap (λ z. get_or os p [] ++ set (map not (get_or cs p [])) z (not b)) same
    ∙ ap (λ z. get_or os p [] ++ z) (sym (map-set not (get_or cs p []) k b)))
    ∙ set_second os cs p (set (get_or cs p []) k b) lt less

-- ---- as in the records

opened_flags : (js : List Joint) → map (λ (s : Switch). s.opened) (map joint_breaker js) ≡ map (λ s. s.opened) js
unfolding joint_breaker
opened_flags [] = refl
opened_flags (j ∷ js) = ap (λ z. j.opened ∷ z) (opened_flags js)

connected_flags : (at : ℕ) (ts : List Outlet) → map (λ (s : Switch). s.opened) (map outlet_breaker (enumerate_from at ts)) ≡ map not (map (λ t. t.connected) ts)
unfolding outlet_breaker
connected_flags at [] = refl
connected_flags at (t ∷ ts) = ap (λ z. not t.connected ∷ z) (connected_flags (at + 1) ts)

level_flags : (level : PlacedLevel) → map (λ (s : Switch). s.opened) (translated_level level).switches ≡ joined_row (map (λ s. s.opened) level.joints) (map (λ t. t.connected) level.outlets)
unfolding translated_level outlets_at
level_flags level =
    map-append (λ (s : Switch). s.opened) (map joint_breaker level.joints) (map outlet_breaker (enumerate_from (length level.buses) level.outlets))
    ∙ ap (λ z. z ++ map (λ (s : Switch). s.opened) (map outlet_breaker (enumerate_from (length level.buses) level.outlets))) (opened_flags level.joints)
    ∙ ap (λ z. map (λ s. s.opened) level.joints ++ z) (connected_flags (length level.buses) level.outlets)

pub record_flags : (ls : List PlacedLevel) → map (λ (l : PlacedLevel). map (λ (s : Switch). s.opened) (translated_level l).switches) ls
    ≡ joined_rows (map (λ l. map (λ s. s.opened) l.joints) ls) (map (λ l. map (λ t. t.connected) l.outlets) ls)
unfolding joined_rows
record_flags [] = refl
record_flags (l ∷ ls) = ap (λ z. z ∷ map (λ (l : PlacedLevel). map (λ (s : Switch). s.opened) (translated_level l).switches) ls) (level_flags l) ∙ ap (λ z. joined_row (map (λ s. s.opened) l.joints) (map (λ t. t.connected) l.outlets) ∷ z) (record_flags ls)

-- ---- the length of rows

-- the row of a level that is there is as long as its list
pub row_long : (f : PlacedLevel → ℕ) (ls : List PlacedLevel) (rows : List (List Bool)) (p : ℕ) (l : PlacedLevel) → map length rows ≡ map f ls → slice_get ls p ≡ Some l → (p < length rows) × (length (row_at rows p) ≡ f l)
unfolding row_at
row_long f [] rows p l e there = absurd (some_none l there)
row_long f (x ∷ ls) [] p l e there = absurd (let h = ap length e in omega (arith, h))
row_long f (x ∷ ls) (r ∷ rows) zero l e there =
    let first : length r ≡ f x = ap (λ z. get_or z 0 0) e in
    (omega arith, first ∙ ap f (some_same x l there))
row_long f (x ∷ ls) (r ∷ rows) (suc p) l e there =
    let rest : map length rows ≡ map f ls = ap tail e in
    let h = row_long f ls rows p l rest there in
    (let lt : p < length rows = h.0 in omega (arith, lt), h.1)
  where
    tail : List ℕ → List ℕ
    tail [] = []
    tail (n ∷ ns) = ns
