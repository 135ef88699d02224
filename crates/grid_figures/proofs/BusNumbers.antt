-- The buses of an outage among the numbers of all parts: a graph within a larger one.
use Rattle.std.proofs.Common.{◌≡◌, refl, sym, ap, ◌∙◌, ℕ, zero, suc, ◌+◌, ◌<◌, ◌≤◌, List, length, get_or, inl, inr, arith}
use Rattle.std.specs.List.{range_with_len}
use Rattle.std.specs.List.Sorted.{IsStrictlyIncreasing}
use Rattle.std.proofs.lemmas.Bool.{cases_lt, cases_eq}
use Rattle.std.proofs.lemmas.List.FromFn.{length-range_with_len, get_or-range_with_len}
use Rattle.grid_unions.specs.declared.summed.Sums.{Sums}
use Rattle.grid_figures.proofs.Blocks.{blocks, IsIn, blocks_before, block_at, block_of, blocks_as_long}

-- the buses of so many levels have numbers that rise by level, and the numbers have their sums
pub record AreSeated (sums : ℕ → List Sums) (start : ℕ → ℕ) (n : ℕ) (weights : List Sums) : Type 0 where
  pub within : (l : ℕ) → l < n → start l + length (sums l) ≤ length weights
  pub filled : (l k : ℕ) (d : Sums) → l < n → k < length (sums l) → get_or weights (start l + k) d ≡ get_or (sums l) k d
  pub apart : (l m : ℕ) → l < m → m < n → start l + length (sums l) ≤ start m

-- the numbers of a level's buses
abbrev pub seats : (ℕ → List Sums) → (ℕ → ℕ) → ℕ → List ℕ
seats sums start l = range_with_len (start l) (length (sums l))

-- those of all levels
abbrev pub all_seats : (ℕ → List Sums) → (ℕ → ℕ) → ℕ → List ℕ
all_seats sums start n = blocks (seats sums start) n

module _ (sums : ℕ → List Sums) (start : ℕ → ℕ) (n : ℕ) (weights : List Sums) (s : AreSeated sums start n weights) where
  as_long : (m : ℕ) → length (all_seats sums start m) ≡ length (blocks sums m)
  as_long m = blocks_as_long (seats sums start) sums m (λ l lt. length-range_with_len (start l) (length (sums l)))

  pub seats_long : length (all_seats sums start n) ≡ length (blocks sums n)
  seats_long = as_long n

  -- the number of a level's bus
  pub seat_at : (l b : ℕ) → l < n → b < length (sums l) → get_or (all_seats sums start n) (length (blocks sums l) + b) 0 ≡ start l + b
  seat_at l b lt less =
      ap (λ z. get_or (all_seats sums start n) (z + b) 0) (sym (as_long l))
      ∙ block_at (seats sums start) l n b 0 lt (omega (arith, less, length-range_with_len (start l) (length (sums l))))
      ∙ get_or-range_with_len (start l) (length (sums l)) b 0 less

  place : (x : ℕ) → x < length (all_seats sums start n) → IsIn sums n x
  place x lt = block_of sums n x (omega (arith, lt, as_long n))

  seat_of_place : (x : ℕ) (r : IsIn sums n x) → get_or (all_seats sums start n) x 0 ≡ start r.block + r.item
  seat_of_place x r = ap (λ z. get_or (all_seats sums start n) z 0) r.is ∙ seat_at r.block r.item r.block_below r.item_below

  pub seat_below : (x : ℕ) → x < length (all_seats sums start n) → get_or (all_seats sums start n) x 0 < length weights
  seat_below x lt =
      let r = place x lt in
      let item_below = r.item_below in
      omega (arith, seat_of_place x r, s.within r.block r.block_below, item_below)

  -- its weight is the bus's sums
  pub seat_filled : (x : ℕ) (d : Sums) → x < length (all_seats sums start n) → get_or weights (get_or (all_seats sums start n) x 0) d ≡ get_or (blocks sums n) x d
  seat_filled x d lt =
      let r = place x lt in
      ap (λ z. get_or weights z d) (seat_of_place x r) ∙ s.filled r.block r.item d r.block_below r.item_below
      ∙ sym (ap (λ z. get_or (blocks sums n) z d) r.is ∙ block_at sums r.block n r.item d r.block_below r.item_below)

  rise_by : (x : ℕ) (r : IsIn sums n x) (t : IsIn sums n (x + 1)) → start r.block + r.item < start t.block + t.item
  rise_by x r t =
      let r_is = r.is in let t_is = t.is in let r_below = r.item_below in let t_below = t.item_below in
      elim (cases_eq r.block t.block) [
        | inl e ↦ omega (arith, r_is, t_is, ap start e, ap (λ z. length (blocks sums z)) e)
        | inr ne ↦ elim (cases_lt r.block t.block) [
          | inl lt ↦ omega (arith, s.apart r.block t.block lt t.block_below, r_below)
          | inr le ↦ (let back : t.block < r.block = omega (arith, le, ne) in absurd (omega (arith, blocks_before sums t.block r.block back, r_is, t_is, t_below)))
        ]
      ]

  pub seats_rise : IsStrictlyIncreasing (all_seats sums start n)
  seats_rise k lt =
      let r = place k (omega (arith, lt)) in
      let t = place (k + 1) lt in
      omega (arith, seat_of_place k r, seat_of_place (k + 1) t, rise_by k r t)

-- rising numbers below a count are no more than it
rising_least : (ids : List ℕ) → IsStrictlyIncreasing ids → (k : ℕ) → k < length ids → k ≤ get_or ids k 0
rising_least ids rise zero lt = omega arith
rising_least ids rise (suc k) lt =
    let before = rising_least ids rise k (omega (arith, lt)) in
    let same : k + 1 ≡ suc k = omega arith in
    omega (arith, before, rise k (omega (arith, lt)), ap (λ z. get_or ids z 0) same)

pub rising_few : (ids : List ℕ) (count : ℕ) → IsStrictlyIncreasing ids → ((k : ℕ) → k < length ids → get_or ids k 0 < count) → length ids ≤ count
rising_few ids count rise below = go (length ids) refl
  where
    go : (m : ℕ) → length ids ≡ m → length ids ≤ count
    go zero e = omega (arith, e)
    go (suc m) e = omega (arith, e, rising_least ids rise m (omega (arith, e)), below m (omega (arith, e)))
