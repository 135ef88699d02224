-- Those that are there with their places: the pairs of a map, and what a caller reads of them.
use Rattle.std.proofs.Common.{◌≡◌, ◌≢◌, refl, sym, ap, ◌∙◌, subst, ℕ, zero, suc, ◌+◌, ◌<◌, ◌≤◌, arith, Option, Some, None, List, [], ◌∷◌, length, get_or, map, cond, true, false, is_eq, is_some, nat_cmp, Less, inl, inr, All, is_gt, filter_map}
use Rattle.std.specs.List.{range_with_len, enumerate_from, AllByRecursion}
use Rattle.std.specs.List.Sorted.{IsStrictlySortedBy}
use Rattle.std.specs.Map.{lookup, keys_of}
use Rattle.std.specs.BTreeMap.{is_at}
use Rattle.std.proofs.lemmas.Bool.{cases_eq, cases_lt}
use Rattle.std.proofs.lemmas.Map.Keys.{sorted_head, sorted_tail, le_from_not_gt}
use Rattle.std.specs.BTreeMap.Range.{IsRangeOf}
use Rattle.std.specs.BTreeMap as tree
use Rattle.std.specs.BTreeMap.{BTreeMap}
use Rattle.std.specs.declared.ops.Bound.TheVariants.{Included, Unbounded}
use Rattle.grid_sparse.specs.Options.{options, pair_at, present, AreNoneFrom, IsFirstFrom}
use Rattle.grid_sparse.proofs.Places.{apart, length_options, option_at}

-- numbers from one on
abbrev From : ℕ → List ℕ → Type 0
From at ks = AllByRecursion (λ k. at ≤ k) ks

same : (k : ℕ) → is_eq (nat_cmp k k) ≡ true
same k = grind arith

less : (k q : ℕ) → nat_cmp k q ≡ Less → k + 1 ≤ q
less k q e = grind arith

not_gt : (k q : ℕ) → k ≤ q → is_gt (nat_cmp k q) ≡ false
not_gt k q le = grind arith

later : (k : ℕ) (ks : List ℕ) → AllByRecursion (λ q. nat_cmp k q ≡ Less) ks → From (k + 1) ks
later k [] all = tt
later k (q ∷ ks) all = (less k q all.0, later k ks all.1)

all_from : (ks : List ℕ) → From 0 ks
all_from [] = tt
all_from (k ∷ ks) = (omega arith, all_from ks)

module _ {X : Type 0} where
  -- the value at a key
  abbrev value : ℕ → List (ℕ × X) → Option X
  value k es = lookup (is_at (nat_cmp k)) es

  -- the places of pairs rise, from one on
  abbrev Rise : ℕ → List (ℕ × X) → Type 0
  Rise at [] = Unit {0}
  Rise at (e ∷ es) = (at ≤ e.0) × Rise (e.0 + 1) es

  rise : (at : ℕ) (es : List (ℕ × X)) → IsStrictlySortedBy nat_cmp (keys_of es) → From at (keys_of es) → Rise at es
  rise at [] sorted from = tt
  rise at (e ∷ es) sorted from = (from.0, rise (e.0 + 1) es (sorted_tail nat_cmp e.0 (keys_of es) sorted) (later e.0 (keys_of es) (sorted_head nat_cmp e.0 (keys_of es) sorted)))

  value_here : (k : ℕ) (x : X) (es : List (ℕ × X)) → value k ((k, x) ∷ es) ≡ Some x
  value_here k x es = ap (λ t. cond t (Some x) (value k es)) (same k)

  value_later : (k at : ℕ) (x : X) (es : List (ℕ × X)) → k ≢ at → value k ((at, x) ∷ es) ≡ value k es
  value_later k at x es ne = ap (λ t. cond t (Some x) (value k es)) (apart k at ne)

  none_before : (at k : ℕ) (es : List (ℕ × X)) → Rise at es → k < at → value k es ≡ None
  none_before at k [] r lt = refl
  none_before at k ((q, x) ∷ es) r lt = value_later k q x es (λ e. absurd (omega (arith, e, r.0, lt))) ∙ none_before (q + 1) k es r.1 (omega (arith, r.0, lt))

  abbrev listed : (ℕ → Option X) → ℕ → ℕ → List (ℕ × X)
  listed f at n = filter_map pair_at (enumerate_from at (map f (range_with_len at n)))

  -- where nothing is there
  none_listed : (f : ℕ → Option X) (n at : ℕ) (es : List (ℕ × X)) → f at ≡ None → listed f (at + 1) n ≡ es → listed f at (suc n) ≡ es
  none_listed f n at es none rest = rw none rest

  some_listed : (f : ℕ → Option X) (n at : ℕ) (x : X) (es : List (ℕ × X)) → f at ≡ Some x → listed f (at + 1) n ≡ es → listed f at (suc n) ≡ (at, x) ∷ es
  some_listed f n at x es some rest = rw (some, rest) refl

  -- the pairs of a function that finds what stands in them
  pub listed_pairs : (f : ℕ → Option X) (n at : ℕ) (es : List (ℕ × X)) → Rise at es → ((k : ℕ) → at ≤ k → f k ≡ value k es) → ((k : ℕ) → at + n ≤ k → f k ≡ None) → listed f at n ≡ es
  listed_pairs f zero at [] r finds past = refl
  listed_pairs f zero at ((k, x) ∷ es) r finds past =
      let nothing : ◌≡◌ {A = Option X} None (Some x) = sym (past k (omega (arith, r.0))) ∙ finds k r.0 ∙ value_here k x es in
      cc
  listed_pairs f (suc n) at [] r finds past = none_listed f n at [] (finds at (omega arith)) (listed_pairs f n (at + 1) [] tt (λ k le. finds k (omega (arith, le))) (λ k le. past k (omega (arith, le))))
  listed_pairs f (suc n) at ((q, x) ∷ es) r finds past = elim (cases_eq at q) [
    | inl e ↦ subst (λ z. listed f at (suc n) ≡ (z, x) ∷ es) e (some_listed f n at x es (finds at (omega arith) ∙ subst (λ z. value at ((z, x) ∷ es) ≡ Some x) e (value_here at x es)) (listed_pairs f n (at + 1) es (subst (λ z. Rise (z + 1) es) (sym e) r.1) (λ k le. finds k (omega (arith, le)) ∙ value_later k q x es (λ s. absurd (omega (arith, s, e, le)))) (λ k le. past k (omega (arith, le)))))
    | inr ne ↦ let after : at + 1 ≤ q = omega (arith, r.0, ne) in
        none_listed f n at ((q, x) ∷ es) (finds at (omega arith) ∙ none_before (at + 1) at ((q, x) ∷ es) (after, r.1) (omega arith)) (listed_pairs f n (at + 1) ((q, x) ∷ es) (after, r.1) (λ k le. finds k (omega (arith, le))) (λ k le. past k (omega (arith, le))))
  ]

  -- the pairs of the options that a map's entries give
  pub present_pairs : (count : ℕ) (es : List (ℕ × X)) → IsStrictlySortedBy nat_cmp (keys_of es) → ((k : ℕ) → count ≤ k → value k es ≡ None) → present (options (λ k. value k es) count) ≡ es
  unfolding present
  present_pairs count es sorted past = listed_pairs (λ k. value k es) count 0 es (rise 0 es sorted (all_from (keys_of es))) (λ k le. refl) (λ k le. past k (omega (arith, le)))

  -- each of them is there
  pub present_there : (at : ℕ → Option X) (count : ℕ) (xs : List (Option X)) (es : List (ℕ × X)) → ((place : ℕ) → count ≤ place → at place ≡ None) → options at count ≡ xs → es ≡ present xs → All (λ e. at e.0 ≡ Some e.1) es → All (λ e. get_or xs e.0 None ≡ Some e.1) (present xs)
  present_there at count xs es past is pairs all = subst (λ z. All (λ e. get_or xs e.0 None ≡ Some e.1) z) pairs (λ k d lt. ap (λ z. get_or z (get_or es k d).0 None) (sym is) ∙ option_at at count (get_or es k d).0 past ∙ all k d lt)

-- ---- the first of a map from a place on

module _ {X : Type 0} (m : BTreeMap ℕ X) (count place : ℕ) (past : (k : ℕ) → count ≤ k → tree.get nat_cmp m k ≡ None) where
  abbrev after : List (ℕ × X) → Type 0
  after r = IsRangeOf nat_cmp (Included place) Unbounded m r

  -- a key below a first one is none
  unless : (k at : ℕ) (o : Option X) → (is_some o ≡ true → at ≤ k) → k < at → o ≡ None
  unless k at None le lt = refl
  unless k at (Some x) le lt = absurd (omega (arith, le refl, lt))

  below : (k : ℕ) (x : X) → tree.get nat_cmp m k ≡ Some x → k < count
  below k x got = elim (cases_lt k count) [
    | inl lt ↦ lt
    | inr le ↦ let nothing : ◌≡◌ {A = Option X} None (Some x) = sym (past k le) ∙ got in absurd (cc)
  ]

  pub first_from : (xs : List (Option X)) (r rest : List (ℕ × X)) (at : ℕ) (x : X) → options (tree.get nat_cmp m) count ≡ xs → r ≡ (at, x) ∷ rest → after r → IsFirstFrom place xs at
  first_from xs r rest at x is cut range =
      let s = subst after cut range in
      let there : get_or xs at None ≡ Some x = ap (λ z. get_or z at None) (sym is) ∙ option_at (tree.get nat_cmp m) count at past ∙ s.1.1 in
      record {
        from = le_from_not_gt place at s.1.0.0;
        inside = omega (arith, below at x s.1.1, length_options (tree.get nat_cmp m) count, ap length is);
        there = ap is_some there;
        none = λ k le lt. ap (λ z. get_or z k None) (sym is) ∙ option_at (tree.get nat_cmp m) count k past ∙ unless k at (tree.get nat_cmp m k) (λ some. le_from_not_gt at k (s.2 k (not_gt place k le, tt) some)) lt;
      }

  pub none_from : (xs : List (Option X)) (r : List (ℕ × X)) → options (tree.get nat_cmp m) count ≡ xs → r ≡ [] → after r → AreNoneFrom place xs
  none_from xs r is cut range = λ k le. ap (λ z. get_or z k None) (sym is) ∙ option_at (tree.get nat_cmp m) count k past ∙ range.5 cut k (not_gt place k le, tt)
