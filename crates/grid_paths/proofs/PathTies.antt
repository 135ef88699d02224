-- Equal measure is equal path.
use Rattle.std.proofs.Common.{◌≡◌, refl, sym, ap, ◌∙◌, ℕ, Bool, false, cond, List, [], ◌∷◌, length, inl, inr}
use Rattle.std.specs.Prelude.{eqb, count_by}
use Rattle.std.specs.declared.cmp.Ordering.{Ordering}
use Rattle.std.specs.declared.cmp.Ordering.TheVariants.{Less, Equal, Greater}
use Rattle.std.specs.Ordering.{nat_cmp, is_lt, is_gt, ordering_then}
use Rattle.std.specs.Cmp.Lexicographic.{slice_cmp}
use Rattle.std.proofs.lemmas.Bool.{true≢false, cases_order, lt-ltb}
use Rattle.grid_paths.specs.Paths.{measure_cmp, is_better}
use Rattle.grid_paths.proofs.Least.{better_turned}
use Rattle.grid_paths.proofs.RouteCosts.{greater}

cmp_parts : (o p : Ordering) → ordering_then o p ≡ Equal → (o ≡ Equal) × (p ≡ Equal)
cmp_parts Less p h = absurd (is_lt_of h)
  where
    is_lt_of : Less ≡ Equal → ⊥
    is_lt_of e = cc
cmp_parts Equal p h = (refl, h)
cmp_parts Greater p h = absurd (is_gt_of h)
  where
    is_gt_of : Greater ≡ Equal → ⊥
    is_gt_of e = cc

nat_tied : (x y : ℕ) → nat_cmp x y ≡ Equal → x ≡ y
nat_tied x y h = elim (cases_order x y) [
  | inl e ↦ e
  | inr (inl lt) ↦ absurd (let e = lt-ltb x y lt in let k : Less ≡ Equal = sym (ap (λ t. cond t Less (cond (eqb x y) Equal Greater)) e) ∙ h in cc)
  | inr (inr gt) ↦ absurd (let k : Greater ≡ Equal = sym (greater x y gt) ∙ h in cc)
]

list_tied : (xs ys : List ℕ) → slice_cmp nat_cmp xs ys ≡ Equal → xs ≡ ys
list_tied [] [] h = refl
list_tied [] (y ∷ ys) h = absurd (let k : Less ≡ Equal = h in cc)
list_tied (x ∷ xs) [] h = absurd (let k : Greater ≡ Equal = h in cc)
list_tied (x ∷ xs) (y ∷ ys) h =
    let parts = cmp_parts (nat_cmp x y) (slice_cmp nat_cmp xs ys) h in
    ap (λ z. z ∷ xs) (nat_tied x y parts.0) ∙ ap (λ z. y ∷ z) (list_tied xs ys parts.1)

neither : (o : Ordering) → is_lt o ≡ false → is_gt o ≡ false → o ≡ Equal
neither Less h k = absurd (true≢false h)
neither Equal h k = refl
neither Greater h k = absurd (true≢false k)

pub measure_tied : (c : ℕ → Bool) (p q : List ℕ) → measure_cmp c p q ≡ Equal → p ≡ q
unfolding measure_cmp
measure_tied c p q h =
    let one = cmp_parts (nat_cmp (count_by c p) (count_by c q)) (ordering_then (nat_cmp (length p) (length q)) (slice_cmp nat_cmp p q)) h in
    let two = cmp_parts (nat_cmp (length p) (length q)) (slice_cmp nat_cmp p q) one.1 in
    list_tied p q two.1

lt_measure : (c : ℕ → Bool) (p q : List ℕ) → is_better c p q ≡ false → is_lt (measure_cmp c p q) ≡ false
unfolding is_better
lt_measure c p q h = h

-- of two paths neither of which is better they are one
pub same_path : (c : ℕ → Bool) (p q : List ℕ) → is_better c p q ≡ false → is_better c q p ≡ false → p ≡ q
same_path c p q h k = measure_tied c p q (neither (measure_cmp c p q) (lt_measure c p q h) (sym (better_turned c q p) ∙ k))
