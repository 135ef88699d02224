-- A table of indices, as it is filled.
use Rattle.std.proofs.Common.{◌≡◌, ◌≢◌, sym, ap, ◌∙◌, subst, ℕ, ◌+◌, ◌<◌, ◌≤◌, List, length, get_or, set, length-set, get_or-set_same, get_or-set_other, inl, inr, arith, Some}
use Rattle.std.specs.Prelude.{IsTrue, slice_get, slice_set}
use Rattle.std.proofs.lemmas.Bool.{cases_eq}
use Rattle.std.proofs.lemmas.Option.{slice_get_within, get_or_from_slice_get, slice_get-get_or}
use Rattle.grid_level.specs.Passing.{is_rising}
use Rattle.grid_level.specs.Kept.{among}
use Rattle.grid_groups.specs.Labels.{index_in, HoldsIndices}
use Rattle.grid_groups.proofs.Indices.{among_In, at_index, index_at, index_below}

-- the table has the indices below a count
pub HoldsBelow : List ℕ → ℕ → List ℕ → Type 0
HoldsBelow ns count table = (n index : ℕ) → IsTrue (among ns n) → index_in ns n < count → slice_get table n ≡ Some index → index ≡ index_in ns n

pub holds_none : (ns table : List ℕ) → HoldsBelow ns 0 table
unfolding HoldsBelow
holds_none ns table n index at less e = absurd (omega (arith, less))

pub holds_more : (ns table : List ℕ) (k node : ℕ) → IsTrue (is_rising ns) → k < length ns → get_or ns k 0 ≡ node → HoldsBelow ns k table → HoldsBelow ns (k + 1) (slice_set table node k)
unfolding HoldsBelow
holds_more ns table k node rise lt here h n index at less e = elim (cases_eq n node) [
  | inl same ↦ (
      let own : index_in ns n ≡ k = ap (index_in ns) (same ∙ sym here) ∙ index_at ns k rise lt in
      let put : get_or (set table node k) n 0 ≡ k = ap (λ z. get_or (set table node k) z 0) same ∙ get_or-set_same table node k 0 (let P : ℕ → Type 0 = λ z. z < length table in subst P same inside) in
      sym read ∙ put ∙ sym own
      )
  | inr other ↦ (
      let old : get_or table n 0 ≡ index = sym (get_or-set_other table node n k 0 other) ∙ read in
      let apart : index_in ns n ≢ k = λ own. other (sym (at_index n ns (among_In n ns at)) ∙ ap (λ z. get_or ns z 0) own ∙ here) in
      h n index at (omega (arith, less, apart)) (slice_get-get_or table n 0 inside ∙ ap Some old)
      )
]
  where
    inside : n < length table
    inside = let w = slice_get_within (set table node k) n index e in omega (arith, w, length-set table node k)

    read : get_or (set table node k) n 0 ≡ index
    read = get_or_from_slice_get (set table node k) n index 0 e

pub holds_all : (ns table : List ℕ) (count : ℕ) → length ns ≤ count → HoldsBelow ns count table → HoldsIndices ns table
unfolding HoldsBelow
holds_all ns table count all h n index at e = let b = index_below n ns (among_In n ns at) in h n index at (omega (arith, b, all)) e
