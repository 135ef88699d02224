-- Totals of buses of which some are exchanged.
use Rattle.std.proofs.Common.{◌≡◌, ◌≢◌, refl, sym, ap, ◌∙◌, ℕ, ℤ, pos, zero, suc, ◌+◌, ◌<◌, ◌+ℤ◌, false, cond, List, [], ◌∷◌, ◌++◌, length, get_or, take, inl, inr, arith}
use Rattle.std.specs.Prelude.{fold, eqb}
use Rattle.std.specs.List.{list_any}
use Rattle.std.proofs.lemmas.Bool.{cases_eq, eq-eqb, ne_eqb}
use Rattle.std.proofs.lemmas.Int.{ints}
use Rattle.std.proofs.lemmas.List.{take_more, get_or-take, length-take-le}
use Rattle.std.proofs.lemmas.List.Sums.{fold-append}
use Rattle.grid_lemmas.proofs.Bools.{not_either}
use Rattle.grid_graph.specs.Components.{places}
use Rattle.grid_unions.specs.declared.summed.Sums.{Sums}
use Rattle.grid_figures.specs.declared.outage.ChangedSums.{ChangedSums}
use Rattle.grid_figures.specs.Figures.{total_sum}
use Rattle.grid_figures.specs.Layouts.{part_at, no_part}
use Rattle.grid_figures.specs.Outages.{level_sums, is_changed}
use Rattle.grid_figures.proofs.Blocks.{blocks, blocks_more, long_more}
use Rattle.grid_figures.proofs.ChangedLevels.{Rises, rising_before, sums_kept}
use Rattle.grid_figures.proofs.FirstLevels.{unchanged}

-- ---- sums of lists

pub total_more : (watts : Sums → ℤ) (sums : List Sums) (i : ℕ) (d : Sums) (total : ℤ) → i < length sums → total ≡ fold (λ t (s : Sums). t +ℤ watts s) (pos 0) (take i sums)
    → total +ℤ watts (get_or sums i d) ≡ fold (λ t (s : Sums). t +ℤ watts s) (pos 0) (take (i + 1) sums)
total_more watts sums i d total lt is =
    ap (λ z. z +ℤ watts (get_or sums i d)) is ∙ sym (ap (fold (λ t (s : Sums). t +ℤ watts s) (pos 0)) (take_more sums i d lt) ∙ fold-append (λ t (s : Sums). t +ℤ watts s) (pos 0) (take i sums) (get_or sums i d ∷ []))

from_total : (watts : Sums → ℤ) (a : ℤ) (sums : List Sums) → fold (λ t (s : Sums). t +ℤ watts s) a sums ≡ a +ℤ fold (λ t (s : Sums). t +ℤ watts s) (pos 0) sums
from_total watts a [] = omega (arith, ints)
from_total watts a (x ∷ xs) =
    let first : fold (λ t (s : Sums). t +ℤ watts s) (a +ℤ watts x) xs ≡ (a +ℤ watts x) +ℤ fold (λ t (s : Sums). t +ℤ watts s) (pos 0) xs = from_total watts (a +ℤ watts x) xs in
    let second : fold (λ t (s : Sums). t +ℤ watts s) (pos 0 +ℤ watts x) xs ≡ (pos 0 +ℤ watts x) +ℤ fold (λ t (s : Sums). t +ℤ watts s) (pos 0) xs = from_total watts (pos 0 +ℤ watts x) xs in
    omega (arith, ints, first, second)

pub total_append : (watts : Sums → ℤ) (xs ys : List Sums) → total_sum watts (xs ++ ys) ≡ total_sum watts xs +ℤ total_sum watts ys
unfolding total_sum
total_append watts xs ys =
    fold-append (λ t (s : Sums). t +ℤ watts s) (pos 0) xs ys ∙ from_total watts (fold (λ t (s : Sums). t +ℤ watts s) (pos 0) xs) ys

pub total_none : (watts : Sums → ℤ) → total_sum watts [] ≡ pos 0
unfolding total_sum
total_none watts = refl

pub total_block : (watts : Sums → ℤ) (f : ℕ → List Sums) (n : ℕ) → total_sum watts (blocks f (suc n)) ≡ total_sum watts (blocks f n) +ℤ total_sum watts (f n)
total_block watts f n = ap (total_sum watts) (blocks_more f n) ∙ total_append watts (blocks f n) (f n)

-- ---- one block in place of another

pub same_blocks : (f g : ℕ → List Sums) (n : ℕ) → ((l : ℕ) → l < n → f l ≡ g l) → blocks f n ≡ blocks g n
unfolding places
same_blocks f g zero h = refl
same_blocks f g (suc n) h =
    blocks_more f n ∙ ap (λ z. z ++ f n) (same_blocks f g n (λ l lt. h l (omega (arith, lt)))) ∙ ap (λ z. blocks g n ++ z) (h n (omega arith)) ∙ sym (blocks_more g n)

module _ (f g : ℕ → List Sums) (m : ℕ) (same : (l : ℕ) → l ≢ m → f l ≡ g l) where
  pub long_exchanged : (n : ℕ) → m < n → length (blocks f n) + length (g m) ≡ length (blocks g n) + length (f m)
  long_exchanged zero lt = absurd (omega (arith, lt))
  long_exchanged (suc n) lt = elim (cases_eq m n) [
    | inl e ↦ omega (
      arith,
      long_more f n,
      long_more g n,
      ap length (same_blocks f g n (λ l less. same l (λ h. omega (arith, h, e, less)))),
      ap (λ z. length (f z)) e,
      ap (λ z. length (g z)) e,
    )
    | inr ne ↦ omega (arith, long_more f n, long_more g n, long_exchanged n (omega (arith, lt, ne)), ap length (same n (λ h. ne (sym h))))
  ]

  pub total_exchanged : (watts : Sums → ℤ) (n : ℕ) → m < n → total_sum watts (blocks f n) +ℤ total_sum watts (g m) ≡ total_sum watts (blocks g n) +ℤ total_sum watts (f m)
  total_exchanged watts zero lt = absurd (omega (arith, lt))
  total_exchanged watts (suc n) lt = elim (cases_eq m n) [
    | inl e ↦ omega (
      arith,
      ints,
      total_block watts f n,
      total_block watts g n,
      ap (total_sum watts) (same_blocks f g n (λ l less. same l (λ h. omega (arith, h, e, less)))),
      ap (λ z. total_sum watts (f z)) e,
      ap (λ z. total_sum watts (g z)) e,
    )
    | inr ne ↦ omega (arith, ints, total_block watts f n, total_block watts g n, total_exchanged watts n (omega (arith, lt, ne)), ap (total_sum watts) (same n (λ h. ne (sym h))))
  ]

-- ---- one more level that is changed

sums_before_last : (kept : List (List Sums)) (xs : List ChangedSums) (c : ChangedSums) (l : ℕ) → l ≢ c.level → level_sums kept xs l ≡ level_sums kept (xs ++ c ∷ []) l
unfolding level_sums
sums_before_last kept [] c l ne = sym (ap (λ t. cond t c.sums (get_or kept l [])) (ne_eqb c.level l (λ e. ne (sym e))))
sums_before_last kept (x ∷ xs) c l ne = ap (λ z. cond (eqb x.level l) x.sums z) (sums_before_last kept xs c l ne)

sums_of_last : (kept : List (List Sums)) (xs : List ChangedSums) (c : ChangedSums) → is_changed xs c.level ≡ false → level_sums kept (xs ++ c ∷ []) c.level ≡ c.sums
unfolding level_sums is_changed
sums_of_last kept [] c none = ap (λ t. cond t c.sums (get_or kept c.level [])) (eq-eqb c.level c.level refl)
sums_of_last kept (x ∷ xs) c none =
    let parts = not_either (eqb x.level c.level) (list_any (λ z. eqb z.level c.level) xs) none in
    ap (λ t. cond t x.sums (level_sums kept (xs ++ c ∷ []) c.level)) parts.0 ∙ sums_of_last kept xs c parts.1

module _ (kept : List (List Sums)) (changed : List ChangedSums) (rise : Rises changed) (i : ℕ) (lt : i < length changed) where
  abbrev c : ChangedSums
  c = part_at changed i

  abbrev pub before : ℕ → List Sums
  before = level_sums kept (take i changed)

  abbrev pub after : ℕ → List Sums
  after = level_sums kept (take (i + 1) changed)

  more : take (i + 1) changed ≡ take i changed ++ c ∷ []
  more = take_more changed i no_part lt

  fresh : is_changed (take i changed) c.level ≡ false
  fresh = unchanged (take i changed) c.level
      (λ k less e. (let long = length-take-le i changed (omega (arith, lt)) in
      let early : k < i = omega (arith, less, long) in
      let at : (part_at (take i changed) k).level ≡ (part_at changed k).level = ap (λ z. z.level) (get_or-take i changed k no_part early) in
      omega (arith, at, e, rising_before changed rise k i early lt)))

  pub before_here : before c.level ≡ get_or kept c.level []
  unfolding fresh
  before_here = sums_kept kept (take i changed) c.level fresh

  pub after_here : after c.level ≡ c.sums
  unfolding more fresh
  after_here = ap (λ z. level_sums kept z c.level) more ∙ sums_of_last kept (take i changed) c fresh

  pub other_same : (l : ℕ) → l ≢ c.level → before l ≡ after l
  unfolding more
  other_same l ne = sums_before_last kept (take i changed) c l ne ∙ sym (ap (λ z. level_sums kept z l) more)
