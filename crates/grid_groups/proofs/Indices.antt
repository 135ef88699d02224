-- Rising lists of numbers, by the indices of the numbers.
use Rattle.std.proofs.Common.{◌≡◌, refl, sym, ap, ◌∙◌, subst, ℕ, zero, suc, ◌+◌, ◌<◌, Bool, true, false, cond, not, List, [], ◌∷◌, length, get_or, inl, inr, ◌⊎◌, arith, Option, Some}
use Rattle.std.specs.Prelude.{eqb, nat_lt, position, IsSome}
use Rattle.std.specs.List.{list_any, list_all, position_or_len}
use Rattle.std.proofs.lemmas.Bool.{or_cases, and_parts, eqb-true, eq-eqb, ne_eqb, lt-ltb, ltb-true, false≢true}
use Rattle.std.proofs.lemmas.List.Sums.{position_or_len_is, passes_at_first}
use Rattle.grid_graph.proofs.Reach.{In, any_from, any_of}
use Rattle.grid_graph.proofs.RenamedNodes.{IsApart}
use Rattle.grid_level.specs.Passing.{is_rising}
use Rattle.grid_groups.specs.Labels.{index_in}
use Rattle.grid_groups.proofs.Lists.{In_get}

pub among_In : (n : ℕ) (ns : List ℕ) → list_any (λ m. eqb m n) ns ≡ true → In n ns
among_In n ns h =
    let r = any_from (λ m. eqb m n) ns h in
    let P : ℕ → Type 0 = λ z. In z ns in
    subst P (eqb-true r.0 n r.2) r.1

pub In_among : (n : ℕ) (ns : List ℕ) → In n ns → list_any (λ m. eqb m n) ns ≡ true
In_among n ns i = any_of (λ m. eqb m n) ns n i (eq-eqb n n refl)

above_all : (n : ℕ) (ns : List ℕ) (j : ℕ) → list_all (nat_lt n) ns ≡ true → j < length ns → n < get_or ns j 0
above_all n [] j h lt = absurd (omega arith)
above_all n (m ∷ ns) zero h lt = ltb-true n m (and_parts (nat_lt n m) (list_all (nat_lt n) ns) h).0
above_all n (m ∷ ns) (suc j) h lt = above_all n ns j (and_parts (nat_lt n m) (list_all (nat_lt n) ns) h).1 (omega arith)

pub rises : (ns : List ℕ) (i j : ℕ) → is_rising ns ≡ true → i < j → j < length ns → get_or ns i 0 < get_or ns j 0
unfolding is_rising
rises [] i j h lt less = absurd (omega arith)
rises (n ∷ ns) i zero h lt less = absurd (omega arith)
rises (n ∷ ns) zero (suc j) h lt less = above_all n ns j (and_parts (list_all (nat_lt n) ns) (is_rising ns) h).0 (omega arith)
rises (n ∷ ns) (suc i) (suc j) h lt less = rises ns i j (and_parts (list_all (nat_lt n) ns) (is_rising ns) h).1 (omega arith) (omega arith)

first_by : (n m : ℕ) (ns : List ℕ) (t : Bool) → eqb m n ≡ t → (eqb n m ≡ true) ⊎ In n ns → (In n ns → position_or_len (λ m. eqb m n) ns < length ns)
    → cond (not t) (1 + position_or_len (λ m. eqb m n) ns) 0 < suc (length ns)
first_by n m ns true e h rest = omega arith
first_by n m ns false e (inl g) rest = absurd (false≢true (sym e ∙ eq-eqb m n (sym (eqb-true n m g))))
first_by n m ns false e (inr g) rest = let r = rest g in omega (arith, r)

first_below : (n : ℕ) (ns : List ℕ) → In n ns → position_or_len (λ m. eqb m n) ns < length ns
first_below n [] i = absurd (false≢true i)
first_below n (m ∷ ns) i = first_by n m ns (eqb m n) refl (or_cases (eqb n m) (list_any (eqb n) ns) i) (first_below n ns)

pub index_is_first : (n : ℕ) (ns : List ℕ) → In n ns → position (λ m. eqb m n) ns ≡ Some (index_in ns n)
unfolding index_in
index_is_first n ns i = rw (lt-ltb (position_or_len (λ m. eqb m n) ns) (length ns) (first_below n ns i)) refl

index_first : (n : ℕ) (ns : List ℕ) → In n ns → index_in ns n ≡ position_or_len (λ m. eqb m n) ns
unfolding index_in
index_first n ns i = rw (lt-ltb (position_or_len (λ m. eqb m n) ns) (length ns) (first_below n ns i)) refl

pub index_below : (n : ℕ) (ns : List ℕ) → In n ns → index_in ns n < length ns
index_below n ns i = omega (arith, index_first n ns i, first_below n ns i)

-- the number at its index
pub at_index : (n : ℕ) (ns : List ℕ) → In n ns → get_or ns (index_in ns n) 0 ≡ n
at_index n ns i =
    ap (λ k. get_or ns k 0) (index_first n ns i)
    ∙ eqb-true (get_or ns (position_or_len (λ m. eqb m n) ns) 0) n (passes_at_first (λ m. eqb m n) ns 0 (first_below n ns i))

-- indices tell the numbers apart
pub index_apart : (ns : List ℕ) → IsApart (index_in ns) ns
index_apart ns = record { apart = λ x y i j e. sym (at_index x ns i) ∙ ap (λ k. get_or ns k 0) e ∙ at_index y ns j }

-- the index of the number at an index
pub index_at : (ns : List ℕ) (i : ℕ) → is_rising ns ≡ true → i < length ns → index_in ns (get_or ns i 0) ≡ i
index_at ns i h lt =
    index_first (get_or ns i 0) ns (In_get ns i lt)
    ∙ position_or_len_is (λ m. eqb m (get_or ns i 0)) ns i 0 (omega arith)
    (λ k less. let r = rises ns k i h less lt in ne_eqb (get_or ns k 0) (get_or ns i 0) (λ e. omega (arith, e, r)))
    (λ _. eq-eqb (get_or ns i 0) (get_or ns i 0) refl)

pub some_index : (n : ℕ) (ns : List ℕ) (found : Option ℕ) → In n ns → found ≡ position (λ m. eqb m n) ns → IsSome found
some_index n ns found i e = let P : Option ℕ → Type 0 = λ o. IsSome o in subst P (sym (e ∙ index_is_first n ns i)) refl

pub index_found : (n : ℕ) (ns : List ℕ) (found : ℕ) → In n ns → Some found ≡ position (λ m. eqb m n) ns → found ≡ index_in ns n
index_found n ns found i e = let same : Some found ≡ Some (index_in ns n) = e ∙ index_is_first n ns i in cc
