-- What a binary search by name ends at.
use Rattle.std.proofs.Common.{◌≡◌, refl, ap, ◌∙◌, subst, sym, ℕ, ◌<◌, ◌≤◌, get_or, true, List, [], length, Result, Ok, Err, IfOk, IfErr, arith, inl, inr}
use Rattle.std.specs.List.Sorted.{IsSearchInRange, IsBinarySearchResult, IsNonDecreasingBy}
use Rattle.std.specs.Ordering.{nat_cmp, is_lt, ordering_index, ordering_reverse}
use Rattle.std.specs.declared.cmp.Ordering.{Ordering}
use Rattle.std.specs.declared.cmp.Ordering.TheVariants.{Less, Equal, Greater}
use Rattle.std.specs.Cmp.Lexicographic.{slice_cmp}
use Rattle.std.proofs.lemmas.Cmp.{nat_list_cmp_total}
use Rattle.std.proofs.lemmas.Bool.{cases_lt}
use Rattle.std.proofs.lemmas.Map.Lookups.{exact_bytes}
use Rattle.std.proofs.lemmas.List.Sorted.{IsNonDecreasingBy-from_default}
use Rattle.grid_ids.specs.Name.{id_below}
use Rattle.grid_states.specs.Rows.{Rows, no_rows}
use Rattle.grid_slots.specs.declared.slots.Named.{Named}
use Rattle.grid_slots.specs.Variant.{Variant}
use Rattle.grid_slots.specs.Shown.{shown}
use Rattle.grid_slots.specs.Names.{names_rise}
use Rattle.grid_slots.specs.Variants.{names}
use Rattle.grid_slots.specs.Places.{variant, variant_at, IsAt, IsGapFor}
use Rattle.grid_slots.proofs.Order.{less}
use Rattle.grid_slots.proofs.RisingNames.{rises}
use Rattle.grid_slots.proofs.ListParts.{all_before, all_behind}
use Rattle.grid_slots.proofs.VariantLists.{Beside, nobody, shown_long, shown_name}

-- a name that stands before another compares no higher with a third
steps_up : (a b n : List ℕ) → id_below a b ≡ true
    → ordering_index (slice_cmp nat_cmp a n) ≤ ordering_index (slice_cmp nat_cmp b n)
steps_up a b n e = pick (slice_cmp nat_cmp b n) refl
  where
    low : (r : Ordering) → r ≡ Less → (k : ℕ) → ordering_index r ≤ k
    low r is k = rw is (omega arith)

    top : (r : Ordering) → ordering_index r ≤ 2
    top Less = omega arith
    top Equal = omega arith
    top Greater = omega arith

    pick : (r : Ordering) → slice_cmp nat_cmp b n ≡ r → ordering_index (slice_cmp nat_cmp a n) ≤ ordering_index r
    pick Less is = low (slice_cmp nat_cmp a n) (nat_list_cmp_total.trans a b n (less a b e) is) 0
    pick Equal is = low (slice_cmp nat_cmp a n)
        (subst (λ m. slice_cmp nat_cmp a m ≡ Less) (exact_bytes b n is) (less a b e)) 1
    pick Greater is = top (slice_cmp nat_cmp a n)

module _ (named : List Named) (all : List Rows) (beside : Beside all named)
    (e : names_rise (names (shown named all)) ≡ true) (n : List ℕ) where
  abbrev pub vs : List Variant
  vs = shown named all

  long : length vs ≡ length named
  long = shown_long named all beside

  same_name : (i : ℕ) → i < length named → (variant_at vs i).name ≡ (get_or named i nobody).name
  same_name i lt = shown_name named all i beside lt

  up : IsNonDecreasingBy (λ m. ordering_index (slice_cmp nat_cmp m.name n)) named
  up = IsNonDecreasingBy-from_default (λ m. ordering_index (slice_cmp nat_cmp m.name n)) named nobody (λ i j le below.
      elim (cases_lt i j) [
        | inl lt ↦
            let first = same_name i (omega (arith, lt, below)) in
            let other = same_name j below in
            steps_up (get_or named i nobody).name (get_or named j nobody).name n
            (ap (λ m. id_below m (get_or named j nobody).name) (sym first)
            ∙ ap (id_below (variant_at vs i).name) (sym other) ∙ rises vs i j e lt (omega (arith, below, long)))
        | inr ge ↦ let same : i ≡ j = omega arith in rw same (omega arith)
      ])

  pub searched : (r : Result ℕ ℕ) → IsSearchInRange r (length named)
      → IsBinarySearchResult (λ m. slice_cmp nat_cmp m.name n) named r
      → record { found : IfOk r (IsAt vs n); absent : IfErr r (IsGapFor vs n) }
  searched (Ok at) in_range equal = record {
    found = record {
      below = omega (arith, in_range, long);
      named = same_name at in_range
          ∙ exact_bytes _ _ (equal nobody);
    };
    absent = tt;
  }
  searched (Err at) in_range parted = record {
    found = tt;
    absent = record {
      within = omega (arith, in_range, long);
      before = all_before (λ v. id_below v.name n) vs at (variant [] 0 no_rows) (omega (arith, in_range, long)) (λ j lt.
          ap (λ m. id_below m n) (same_name j (omega (arith, lt, in_range)))
          ∙ ap is_lt ((parted up).0 j nobody (omega (arith, lt, in_range)) lt));
      behind = all_behind (λ v. id_below n v.name) vs at (variant [] 0 no_rows) (omega (arith, in_range, long))
          (λ j le lt.
          let below : j < length named = omega (arith, lt, long) in
          ap (id_below n) (same_name j below)
          ∙ ap is_lt (nat_list_cmp_total.antisymm n (get_or named j nobody).name
          ∙ ap ordering_reverse ((parted up).1 j nobody le below)));
    };
  }
