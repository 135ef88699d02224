-- A value or none.
use Rattle.std.proofs.Common.{None, Option, Some, [], ap, arith, refl, true, ℕ, ◌+◌, ◌<◌, ◌≡◌}
use Rattle.std.proofs.lemmas.Bool.{false≢true}
use Rattle.std.specs.List.{cons_option}
use Rattle.std.specs.Option.{option_map, option_to_list}
use Rattle.std.specs.Prelude.{IfSome, is_some}

pub below_by : (o : Option ℕ) (n : ℕ) → ((k : ℕ) → o ≡ Some k → k < n) → IfSome o (λ k. k < n)
below_by (Some k) n h = h k refl
below_by None n h = tt

pub none_added : (o : Option ℕ) → option_map (λ j. 0 + j) o ≡ o
none_added (Some j) = let same : 0 + j ≡ j = omega arith in ap (λ z. Some z) same
none_added None = refl

pub one_or_none : {X : Type 0} (o : Option X) → cons_option o [] ≡ option_to_list o
one_or_none (Some x) = refl
one_or_none None = refl

pub some_value : {X : Type 0} (o : Option X) → is_some o ≡ true → (x : X) × (o ≡ Some x)
some_value (Some x) h = (x, refl)
some_value None h = absurd (false≢true h)

pub some_is : {X : Type 0} (x y : X) → ◌≡◌ {A = Option X} (Some x) (Some y) → x ≡ y
some_is x y e = cc
