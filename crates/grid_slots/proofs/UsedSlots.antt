-- VariantTable that are used, as a loop over them finds.
use Rattle.std.proofs.Common.{◌≡◌, ℕ, zero, suc, ◌+◌, ◌<◌, ◌≤◌, true, List, [], ◌∷◌, length, map, arith, inl, inr}
use Rattle.std.specs.Prelude.{nat_lt, ◌==◌, if◌then◌else◌}
use Rattle.std.specs.List.{list_any, list_all}
use Rattle.std.proofs.lemmas.Bool.{and_parts, or_cases, eqb-true, ltb-true}
use Rattle.std.proofs.lemmas.Bool.Decides.{nat_tests}
use Rattle.grid_slots.specs.Variant.{Variant}
use Rattle.grid_slots.specs.Variants.{slots, has_slot}

pub used_below : (vs : List Variant) (s : ℕ) → list_all (λ slot. nat_lt slot 64) (slots vs) ≡ true → has_slot vs s ≡ true → s < 64
unfolding has_slot slots
used_below [] s low e = absurd (cc)
used_below (v ∷ vs) s low e =
    let both = and_parts (nat_lt v.slot 64) (list_all (λ slot. nat_lt slot 64) (map (λ u. u.slot) vs)) low in
    elim (or_cases (v.slot == s) (list_any (λ u. u.slot == s) vs) e) [
      | inl here ↦ let same : v.slot ≡ s = eqb-true v.slot s here in let lt = ltb-true v.slot 64 both.0 in omega (arith, same, lt)
      | inr more ↦ used_below vs s both.1 more
    ]

-- how many variants have a slot below this number
count_below : ℕ → List Variant → ℕ
count_below n [] = 0
count_below n (v ∷ vs) = (if nat_lt v.slot n then 1 else 0) + count_below n vs

count_rises : (n : ℕ) (vs : List Variant) → count_below n vs ≤ count_below (suc n) vs
unfolding count_below
count_rises n [] = omega arith
count_rises n (v ∷ vs) = grind (arith, nat_tests, count_rises n vs)

count_step : (n : ℕ) (vs : List Variant) → has_slot vs n ≡ true → count_below n vs + 1 ≤ count_below (suc n) vs
unfolding count_below has_slot
count_step n [] e = absurd (cc)
count_step n (v ∷ vs) e =
    elim (or_cases (v.slot == n) (list_any (λ u. u.slot == n) vs) e) [
      | inl here ↦ let same : v.slot ≡ n = eqb-true v.slot n here in grind (arith, nat_tests, count_rises n vs)
      | inr more ↦ grind (arith, nat_tests, count_step n vs more)
    ]

count_few : (n : ℕ) (vs : List Variant) → count_below n vs ≤ length vs
unfolding count_below
count_few n [] = omega arith
count_few n (v ∷ vs) = grind (arith, nat_tests, count_few n vs)

count_many : (n : ℕ) (vs : List Variant) → ((s : ℕ) → s < n → has_slot vs s ≡ true) → n ≤ count_below n vs
count_many zero vs each = omega arith
count_many (suc n) vs each =
    let before = count_many n vs (λ s lt. each s (omega arith)) in
    let step = count_step n vs (each n (omega arith)) in
    omega (arith, before, step)

-- where all slots below a number are used, there are so many variants
pub many_used : (n : ℕ) (vs : List Variant) → ((s : ℕ) → s < n → has_slot vs s ≡ true) → n ≤ length vs
many_used n vs each = omega (arith, count_many n vs each, count_few n vs)
