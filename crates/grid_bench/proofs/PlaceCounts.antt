-- How many of the first places pass a test.
use Rattle.std.proofs.Common.{◌≡◌, refl, ap, ℕ, zero, suc, ◌+◌, ◌≤◌, Bool, true, false, cond, [], ◌∷◌, length, length-append, arith}
use Rattle.std.specs.Prelude.{filter}
use Rattle.std.specs.List.{count_by}
use Rattle.std.specs.Int.{from_bool}
use Rattle.std.proofs.lemmas.List.Sums.{length-filter}
use Rattle.grid_graph.specs.Components.{places}
use Rattle.grid_groups.proofs.Steps.{places_passed}

long : (t : Bool) (n : ℕ) → length (cond t (n ∷ []) []) ≡ cond t 1 0
long true n = refl
long false n = refl

pub counted_next : (p : ℕ → Bool) (n : ℕ) → count_by p (places (n + 1)) ≡ count_by p (places n) + cond (p n) 1 0
counted_next p n =
    omega (
      arith,
      length-filter p (places (n + 1)),
      ap length (places_passed p n),
      length-append (filter p (places n)) (cond (p n) (n ∷ []) []),
      long (p n) n,
      length-filter p (places n),
    )

pub counted_none : (p : ℕ → Bool) → 0 ≡ count_by p (places 0)
unfolding places
counted_none p = refl

pub counted_yes : (p : ℕ → Bool) (n count : ℕ) → count ≡ count_by p (places n) → p n ≡ true → count + 1 ≡ count_by p (places (n + 1))
counted_yes p n count e t = omega (arith, e, counted_next p n, ap {B = ℕ} (λ z. cond z 1 0) t)

pub counted_no : (p : ℕ → Bool) (n count : ℕ) → count ≡ count_by p (places n) → p n ≡ false → count ≡ count_by p (places (n + 1))
counted_no p n count e f = omega (arith, e, counted_next p n, ap {B = ℕ} (λ z. cond z 1 0) f)

at_most_one : (t : Bool) → cond t 1 0 ≤ 1
at_most_one true = omega arith
at_most_one false = omega arith

pub counted_within : (p : ℕ → Bool) (n : ℕ) → count_by p (places n) ≤ n
counted_within p zero = omega (arith, counted_none p)
counted_within p (suc n) =
    let next : n + 1 ≡ suc n = omega arith in omega (arith, counted_next p n, counted_within p n, at_most_one (p n), ap (λ z. count_by p (places z)) next)

-- ---- a count from one place on

one_of : (t : Bool) → from_bool t ≡ cond t 1 0
one_of true = refl
one_of false = refl

pub counted_step : (p : ℕ → Bool) (start n count one : ℕ) (t : Bool) → count_by p (places start) + count ≡ count_by p (places n) → t ≡ p n → one ≡ from_bool t → count_by p (places start) + (count + one) ≡ count_by p (places (n + 1))
counted_step p start n count one t e d o = omega (arith, e, o, one_of t, ap {B = ℕ} (λ z. cond z 1 0) d, counted_next p n)

pub one_within : (t : Bool) → from_bool t ≤ 1
one_within true = omega arith
one_within false = omega arith

pub counted_more : (p : ℕ → Bool) (n more : ℕ) → count_by p (places n) ≤ count_by p (places (n + more))
counted_more p n zero = let same : n + 0 ≡ n = omega arith in omega (arith, ap (λ z. count_by p (places z)) same)
counted_more p n (suc more) =
    let next : n + suc more ≡ n + more + 1 = omega arith in omega (arith, counted_more p n more, counted_next p (n + more), ap (λ z. count_by p (places z)) next)

none : (t : Bool) → ◌≡◌ {A = ℕ} (cond t 1 0) 0 → t ≡ false
none true h = absurd (omega (arith, h))
none false h = refl

-- where the count stays the same, no place between passes
pub counted_stays : (p : ℕ → Bool) (n more : ℕ) → count_by p (places n) ≡ count_by p (places (n + suc more)) → p n ≡ false
counted_stays p n more e =
    let next : n + 1 + more ≡ n + suc more = omega arith in
    none (p n) (omega (arith, e, counted_next p n, counted_more p (n + 1) more, ap (λ z. count_by p (places z)) next))
