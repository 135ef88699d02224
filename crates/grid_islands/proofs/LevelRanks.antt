-- The numbers of the components of a level's buses, from those of all buses.
use Rattle.std.proofs.Common.{◌≡◌, refl, sym, ap, ◌∙◌, ℕ, suc, ◌+◌, ◌-◌, ◌<◌, ◌≤◌, List, [], ◌∷◌, length, get_or, map, drop, arith}
use Rattle.std.specs.List.{enumerate_from, slice_range}
use Rattle.std.proofs.lemmas.List.{get_or-take, get_or-drop, length-take-le, length-drop}
use Rattle.grid_islands.specs.declared.BusComponent.{BusComponent}
use Rattle.grid_islands.specs.Numbering.{listed}

-- ---- so many items from a first one on

module _ (xs : List ℕ) (first count : ℕ) where
  pub part_at : (i : ℕ) → i < count → get_or (slice_range xs first (first + count)) i 0 ≡ get_or xs (first + i) 0
  part_at i lt = get_or-take ((first + count) - first) (drop first xs) i 0 (omega (arith, lt)) ∙ get_or-drop first xs i 0

  pub part_long : first + count ≤ length xs → length (slice_range xs first (first + count)) ≡ count
  part_long le = length-take-le ((first + count) - first) (drop first xs) (omega (arith, le, length-drop first xs)) ∙ omega arith

-- ---- buses that are listed by a part of the numbers

pub listed_part : (part numbers sizes leasts : List ℕ) (a b : ℕ) → ((i : ℕ) → i < length leasts → get_or part (a + i) 0 ≡ get_or numbers (b + i) 0)
    → map (listed part sizes) (enumerate_from a leasts) ≡ map (listed numbers sizes) (enumerate_from b leasts)
unfolding listed
listed_part part numbers sizes [] a b each = refl
listed_part part numbers sizes (least ∷ leasts) a b each =
    let one : a + 0 ≡ a = omega arith in
    let other : b + 0 ≡ b = omega arith in
    let here : get_or part a 0 ≡ get_or numbers b 0 = ap (λ z. get_or part z 0) (sym one) ∙ each 0 (omega arith) ∙ ap (λ z. get_or numbers z 0) other in
    let build : ℕ → BusComponent = λ z. record { least = least; component = z; size = get_or sizes z 0 } in
    ap (λ z. build z ∷ map (listed part sizes) (enumerate_from (a + 1) leasts)) here
    ∙ ap (λ z. build (get_or numbers b 0) ∷ z) (listed_part part numbers sizes leasts (a + 1) (b + 1) (λ i lt.
    let next : (a + 1) + i ≡ a + suc i = omega arith in
    let after : b + suc i ≡ (b + 1) + i = omega arith in
    ap (λ z. get_or part z 0) next ∙ each (suc i) (omega (arith, lt)) ∙ ap (λ z. get_or numbers z 0) after))
