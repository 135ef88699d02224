-- The table of what has an id.
use Rattle.std.proofs.Common.{◌≡◌, refl, sym, ap, ◌∙◌, ℕ, Bool, true, false, cond, List, Option, None, Some}
use Rattle.std.specs.Str.{bytes_eq}
use Rattle.std.specs.HashMap.{HashMap, UpdatesBy}
use Rattle.grid_structure.specs.declared.structure.IdOwner.{IdOwner}
use Rattle.grid_structure.specs.Table.{entry_at, slot_at}
use Rattle.std.proofs.lemmas.Slice.Eq.{bytes_eq-Decides}

pub changed : {S : Type 0} (id : List ℕ) (m n : HashMap (List ℕ) IdOwner S) (w : Option IdOwner) → UpdatesBy bytes_eq (bytes_eq id) m n w → (q : List ℕ) → slot_at n q ≡ cond (bytes_eq id q) w (slot_at m q)
unfolding slot_at entry_at
changed id m n w u q = u.0 q

pub undone : {X : Type 0} (id q : List ℕ) (old : List ℕ → Option X) (new : Option X) (entry : X) → old id ≡ None → new ≡ cond (bytes_eq id q) (Some entry) (old q) → cond (bytes_eq id q) None new ≡ old q
undone {X = X} id q old new entry none put = by (bytes_eq id q) refl
  where
    by : (t : Bool) → bytes_eq id q ≡ t → cond t None new ≡ old q
    by true e = sym none ∙ ap old ((bytes_eq-Decides id q).0 e)
    by false e = put ∙ ap (λ t. cond t (Some entry) (old q)) e

pub kept_there : {X : Type 0} (id q : List ℕ) (old : List ℕ → Option X) (new : Option X) (entry : X) → old id ≡ Some entry → new ≡ cond (bytes_eq id q) (Some entry) (old q) → new ≡ old q
kept_there {X = X} id q old new entry had put = by (bytes_eq id q) refl
  where
    by : (t : Bool) → bytes_eq id q ≡ t → new ≡ old q
    by true e = put ∙ ap (λ t. cond t (Some entry) (old q)) e ∙ sym had ∙ ap old ((bytes_eq-Decides id q).0 e)
    by false e = put ∙ ap (λ t. cond t (Some entry) (old q)) e
