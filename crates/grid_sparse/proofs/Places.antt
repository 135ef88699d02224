-- Options by their places: how many, the one at a place, and a list with another one at a place.
use Rattle.std.proofs.Common.{◌≡◌, ◌≢◌, sym, ap, ◌∙◌, ℕ, ◌<◌, ◌≤◌, ◌^◌, arith, Option, None, List, length, get_or, is_eq, nat_cmp, inl, inr}
use Rattle.std.specs.Prelude.{slice_set, false}
use Rattle.std.specs.BTreeMap as tree
use Rattle.std.specs.BTreeMap.{BTreeMap}
use Rattle.std.proofs.lemmas.Bool.{cases_eq, cases_lt}
use Rattle.std.proofs.lemmas.List.{length-set, get_or-set_same, get_or-set_other, get_or_past}
use Rattle.std.proofs.lemmas.List.FromFn.{length-map-range_with_len, get_or-map-range_with_len, fill_by_all}
use Rattle.grid_sparse.specs.Options.{options}

-- a key that is not the one that is looked for
pub apart : (k q : ℕ) → k ≢ q → is_eq (nat_cmp k q) ≡ false
apart k q ne = grind arith

module _ {X : Type 0} where
  pub length_options : (at : ℕ → Option X) (count : ℕ) → length (options at count) ≡ count
  length_options at count = length-map-range_with_len at 0 count

  pub option_inside : (at : ℕ → Option X) (count k : ℕ) → k < count → get_or (options at count) k None ≡ at k
  option_inside at count k lt = get_or-map-range_with_len at 0 count k k None lt (omega arith)

  -- at each place, where there is none past the count
  pub option_at : (at : ℕ → Option X) (count k : ℕ) → ((place : ℕ) → count ≤ place → at place ≡ None) → get_or (options at count) k None ≡ at k
  option_at at count k past = elim (cases_lt k count) [
    | inl lt ↦ option_inside at count k lt
    | inr le ↦ get_or_past (options at count) k None (omega (arith, le, length_options at count)) ∙ sym (past k le)
  ]

  -- another option at one place, and all others as they were
  pub option_set : (at new : ℕ → Option X) (count k : ℕ) (x : Option X) → new k ≡ x → ((q : ℕ) → k ≢ q → new q ≡ at q) → options new count ≡ slice_set (options at count) k x
  option_set at new count k x here others = sym (fill_by_all new (slice_set (options at count) k x) count None (length-set (options at count) k x ∙ length_options at count) each)
    where
      each : (q : ℕ) → q < count → get_or (slice_set (options at count) k x) q None ≡ new q
      each q lt = elim (cases_eq k q) [
        | inl e ↦ let inside : k < length (options at count) = omega (arith, e, lt, length_options at count) in ap (λ z. get_or (slice_set (options at count) k x) z None) (sym e) ∙ get_or-set_same (options at count) k x None inside ∙ sym here ∙ ap new e
        | inr ne ↦ get_or-set_other (options at count) k q x None (λ e. ne (sym e)) ∙ option_inside at count q lt ∙ sym (others q ne)
      ]

  -- the same of a map, by what its calls say
  pub map_set : (old new : BTreeMap ℕ X) (count k : ℕ) (x : Option X) → tree.Updates nat_cmp old new k x → options (tree.get nat_cmp new) count ≡ slice_set (options (tree.get nat_cmp old) count) k x
  map_set old new count k x updates = option_set (tree.get nat_cmp old) (tree.get nat_cmp new) count k x updates.1 (λ q ne. updates.2 q (apart k q ne))

  -- as few as a number counts
  pub few : (m : BTreeMap ℕ X) (count : ℕ) (xs : List (Option X)) → options (tree.get nat_cmp m) count ≡ xs → count < 2 ^ 32 → length xs < 2 ^ 32
  few m count xs is lt = omega (arith, lt, length_options (tree.get nat_cmp m) count, ap length is)
