-- Lists by byte order.
use Rattle.std.proofs.Common.{◌&&◌, Option, T, ◌≡◌, refl, sym, ap, ◌∙◌, subst, ℕ, ℤ, Bool, true, false, cond, List, [], ◌∷◌, Some, None}
use Rattle.std.specs.Ordering.{nat_cmp, is_eq, match_ordering, ordering_reverse}
use Rattle.std.specs.declared.cmp.Ordering.{Ordering}
use Rattle.std.specs.declared.cmp.Ordering.TheVariants.{Less, Equal, Greater}
use Rattle.std.specs.Cmp.Lexicographic.{slice_cmp}
use Rattle.std.specs.List.{AllByRecursion}
use Rattle.std.specs.List.Sorted.{IsStrictlySortedBy}
use Rattle.std.specs.Map.{keys_of}
use Rattle.std.proofs.lemmas.Cmp.{nat_list_cmp_total}
use Rattle.std.proofs.lemmas.Map.Text.{is_eq-slice_cmp}
use Rattle.std.specs.FinMap.Entries as entries
use Rattle.grid_ids.specs.Name.{same_id}
use Rattle.grid_ids.proofs.Alike.{same_is}
use Rattle.grid_powers.specs.Listed.{Listed, value_in, with_value, without_value, IsByOrder}

abbrev order : List ℕ → List ℕ → Ordering
order = slice_cmp nat_cmp

tied : (a b : List ℕ) → order a b ≡ Equal → a ≡ b
tied a b e = same_is a b (sym (is_eq-slice_cmp a b) ∙ ap is_eq e)

-- ---- what is so of each key

all_with : (P : List ℕ → Type 0) (id : List ℕ) (watts : ℤ) (es : Listed) → P id → AllByRecursion P (keys_of es) → AllByRecursion P (keys_of (with_value id watts es))
all_with P id watts [] here all = (here, tt)
all_with P id watts (e ∷ es) here all = by (order id e.0) (all_with P id watts es here all.1)
  where
    by : (r : Ordering) → AllByRecursion P (keys_of (with_value id watts es)) → AllByRecursion P (keys_of (match_ordering r ((id, watts) ∷ e ∷ es) ((e.0, watts) ∷ es) (e ∷ with_value id watts es)))
    by Less again = (here, all)
    by Equal again = all
    by Greater again = (all.0, again)

all_without : (P : List ℕ → Type 0) (id : List ℕ) (es : Listed) → AllByRecursion P (keys_of es) → AllByRecursion P (keys_of (without_value id es))
all_without P id [] all = tt
all_without P id (e ∷ es) all = by (same_id id e.0) (all_without P id es all.1)
  where
    by : (t : Bool) → AllByRecursion P (keys_of (without_value id es)) → AllByRecursion P (keys_of (cond t es (e ∷ without_value id es)))
    by true again = all.1
    by false again = (all.0, again)

below_all : (a b : List ℕ) (ks : List (List ℕ)) → order a b ≡ Less → AllByRecursion (λ k. order b k ≡ Less) ks → AllByRecursion (λ k. order a k ≡ Less) ks
below_all a b [] less all = tt
below_all a b (k ∷ ks) less all = (nat_list_cmp_total.trans a b k less all.0, below_all a b ks less all.1)

-- ---- the order stays

pub with_order : (id : List ℕ) (watts : ℤ) (es : Listed) → IsByOrder es → IsByOrder (with_value id watts es)
unfolding IsStrictlySortedBy
with_order id watts [] s = (tt, tt)
with_order id watts (e ∷ es) s = by (order id e.0) refl (with_order id watts es s.1)
  where
    by : (r : Ordering) → order id e.0 ≡ r → IsByOrder (with_value id watts es) → IsByOrder (match_ordering r ((id, watts) ∷ e ∷ es) ((e.0, watts) ∷ es) (e ∷ with_value id watts es))
    by Less h again = ((h, below_all id e.0 (keys_of es) h s.0), s)
    by Equal h again = s
    by Greater h again = (all_with (λ k. order e.0 k ≡ Less) id watts es (nat_list_cmp_total.antisymm e.0 id ∙ ap ordering_reverse h) s.0, again)

pub without_order : (id : List ℕ) (es : Listed) → IsByOrder es → IsByOrder (without_value id es)
unfolding IsStrictlySortedBy
without_order id [] s = tt
without_order id (e ∷ es) s = by (same_id id e.0) (without_order id es s.1)
  where
    by : (t : Bool) → IsByOrder (without_value id es) → IsByOrder (cond t es (e ∷ without_value id es))
    by true again = s.1
    by false again = (all_without (λ k. order e.0 k ≡ Less) id es s.0, again)

-- ---- values

-- an id below all keys is not listed
below_none : (id : List ℕ) (es : Listed) → AllByRecursion (λ k. order id k ≡ Less) (keys_of es) → value_in es id ≡ None
below_none id [] all = refl
below_none id (e ∷ es) all =
    let differs : same_id id e.0 ≡ false = sym (is_eq-slice_cmp id e.0) ∙ ap is_eq all.0 in
    ap (λ t. cond t (Some e.1) (value_in es id)) differs ∙ below_none id es all.1

-- what was taken out is not listed
pub value_gone : (id : List ℕ) (es : Listed) → IsByOrder es → value_in (without_value id es) id ≡ None
unfolding IsStrictlySortedBy
value_gone id [] s = refl
value_gone id (e ∷ es) s = by (same_id id e.0) refl (value_gone id es s.1)
  where
    by : (t : Bool) → same_id id e.0 ≡ t → value_in (without_value id es) id ≡ None → value_in (cond t es (e ∷ without_value id es)) id ≡ None
    by true h again = subst (λ (k : List ℕ). value_in es k ≡ None) (sym (same_is id e.0 h)) (below_none e.0 es s.0)
    by false h again = ap (λ t. cond t (Some e.1) (value_in (without_value id es) id)) h ∙ again

-- ---- equal values, equal lists

abbrev found_in : Listed → List ℕ → Option ℤ
found_in es id = entries.find order id es

found_is : (id : List ℕ) (es : Listed) → found_in es id ≡ value_in es id
found_is id [] = refl
found_is id (e ∷ es) = ap (λ t. cond t (Some e.1) (found_in es id)) (is_eq-slice_cmp id e.0) ∙ ap (cond (same_id id e.0) (Some e.1)) (found_is id es)

both_so : (a b : Bool) → T a → T b → T (a && b)
both_so true b p q = q
both_so false b p q = p

is_below : (k : List ℕ) (es : Listed) → AllByRecursion (λ y. order k y ≡ Less) (keys_of es) → T (entries.below_all order k es)
is_below k [] all = tt
is_below k (e ∷ es) all = rw all.0 (is_below k es all.1)

is_sorted_by : (es : Listed) → IsByOrder es → T (entries.is_sorted order es)
unfolding IsStrictlySortedBy
is_sorted_by [] s = tt
is_sorted_by (e ∷ es) s = both_so (entries.below_all order e.0 es) (entries.is_sorted order es) (is_below e.0 es s.0) (is_sorted_by es s.1)

pub same_values : (es fs : Listed) → IsByOrder es → IsByOrder fs → ((id : List ℕ) → value_in es id ≡ value_in fs id) → es ≡ fs
same_values es fs a b is = entries.same_entries order nat_list_cmp_total tied es fs (is_sorted_by es a) (is_sorted_by fs b) (λ id. found_is id es ∙ is id ∙ sym (found_is id fs))
