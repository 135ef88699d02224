-- Variants whose rows are changed keep their names and slots.
use Rattle.std.proofs.Common.{◌≡◌, refl, sym, ap, ◌∙◌, ℕ, suc, ◌<◌, Bool, true, false, not, cond, List, [], ◌∷◌, ◌++◌, length, map, take, drop, get_or, set}
use Rattle.std.specs.List.{list_all}
use Rattle.std.proofs.lemmas.Bool.{and_parts, not-true}
use Rattle.grid_states.specs.Rows.{Rows}
use Rattle.grid_slots.specs.Variant.{Variant}
use Rattle.grid_slots.specs.Variants.{names, with_rows, changed, all_changed, with_each_rows}
use Rattle.grid_slots.proofs.ListParts.{parts, set_parts}

-- no variant passes the test
abbrev pub NonePass : (Variant → Bool) → List Variant → Type 0
NonePass test vs = list_all (λ v. not (test v)) vs ≡ true

pub changed_none : (test : Variant → Bool) (change : Rows → Rows) (vs : List Variant) → NonePass test vs → changed test change vs ≡ vs
unfolding changed
changed_none test change [] e = refl
changed_none test change (v ∷ vs) e =
    let both = and_parts (not (test v)) (list_all (λ u. not (test u)) vs) e in
    rw (not-true (test v) both.0) (ap (λ rest. v ∷ rest) (changed_none test change vs both.1))

pub changed_one : (test : Variant → Bool) (change : Rows → Rows) (front back : List Variant) (v : Variant)
    → test v ≡ true → NonePass test front → NonePass test back
    → changed test change (front ++ v ∷ back) ≡ front ++ with_rows v (change v.rows) ∷ back
unfolding changed
changed_one test change [] back v here before behind = rw here (ap (λ rest. with_rows v (change v.rows) ∷ rest) (changed_none test change back behind))
changed_one test change (f ∷ front) back v here before behind =
    let both = and_parts (not (test f)) (list_all (λ u. not (test u)) front) before in
    rw (not-true (test f) both.0) (ap (λ rest. f ∷ rest) (changed_one test change front back v here both.1 behind))

-- a write at the one place that passes
pub set-changed : (test : Variant → Bool) (change : Rows → Rows) (vs : List Variant) (i : ℕ) (d : Variant) → i < length vs
    → test (get_or vs i d) ≡ true → NonePass test (take i vs) → NonePass test (drop (suc i) vs)
    → set vs i (with_rows (get_or vs i d) (change (get_or vs i d).rows)) ≡ changed test change vs
set-changed test change vs i d lt here before behind =
    set_parts vs i _ lt ∙ sym (changed_one test change (take i vs) (drop (suc i) vs) (get_or vs i d) here before behind)
    ∙ ap (changed test change) (sym (parts vs i d lt))

-- ---- names and slots stay

same_name : (v : Variant) (t : Bool) (r : Rows) → (cond t (with_rows v r) v).name ≡ v.name
unfolding with_rows
same_name v true r = refl
same_name v false r = refl

both_heads : {X : Type 0} (x y : X) (xs ys : List X) → x ≡ y → xs ≡ ys → (x ∷ xs) ≡ (y ∷ ys)
both_heads x y xs ys e f = ap (λ z. z ∷ xs) e ∙ ap (λ zs. y ∷ zs) f

pub names-changed : (test : Variant → Bool) (change : Rows → Rows) (vs : List Variant) → names (changed test change vs) ≡ names vs
unfolding names changed
names-changed test change [] = refl
names-changed test change (v ∷ vs) = both_heads _ _ _ _ (same_name v (test v) (change v.rows)) (names-changed test change vs)

pub names-all_changed : (change : Rows → Rows) (vs : List Variant) → names (all_changed change vs) ≡ names vs
unfolding names all_changed with_rows
names-all_changed change [] = refl
names-all_changed change (v ∷ vs) = ap (λ rest. v.name ∷ rest) (names-all_changed change vs)

-- rows that are made of the variants and put back are changed rows
pub with_each_rows-map : (change : Rows → Rows) (vs : List Variant) → with_each_rows vs (map (λ v. change v.rows) vs) ≡ all_changed change vs
unfolding with_each_rows all_changed
with_each_rows-map change [] = refl
with_each_rows-map change (v ∷ vs) = ap (λ rest. with_rows v (change v.rows) ∷ rest) (with_each_rows-map change vs)
