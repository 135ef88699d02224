-- Numbers that are compared.
use Rattle.std.proofs.Common.{refl, true, ℕ, ◌≡◌}
use Rattle.std.proofs.lemmas.Bool.{eq-eqb}
use Rattle.std.specs.Prelude.{◌==◌}

pub same_number : (n : ℕ) → (n == n) ≡ true
same_number n = eq-eqb n n refl
