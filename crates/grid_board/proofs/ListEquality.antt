-- Whether lists are equal, by what tells it.
use Rattle.std.proofs.Common.{◌≡◌, sym, ap, ◌∙◌, refl, ℕ, Bool, true, false, List, Some}
use Rattle.std.specs.Prelude.{◌↔◌, IsTrue, slice_get}
use Rattle.std.proofs.lemmas.Bool.{false≢true}
use Rattle.grid_lemmas.proofs.Options.{some_is}

pub never : {P : Type 0} → (P → ⊥) → IsTrue false ↔ P
never against = (λ e. absurd (false≢true e), λ p. absurd (against p))

pub always : {P : Type 0} → P → IsTrue true ↔ P
always p = (λ e. p, λ e. refl)

pub refuted : {P : Type 0} {b : Bool} → b ≡ false → (P → ⊥) → IsTrue b ↔ P
refuted {P} {b} is against = (λ e. absurd (false≢true (sym is ∙ e)), λ p. absurd (against p))

-- lists that differ at a place
pub differ : {X : Type 0} (xs ys : List X) (k : ℕ) (x y : X) → slice_get xs k ≡ Some x → slice_get ys k ≡ Some y → (x ≡ y → ⊥) → xs ≡ ys → ⊥
differ {X} xs ys k x y there here against is = against (some_is x y (sym there ∙ ap (λ (zs : List X). slice_get zs k) is ∙ here))
