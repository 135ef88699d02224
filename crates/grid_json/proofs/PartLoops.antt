-- Loading parts one after the other, as a loop does.
use Rattle.std.proofs.Common.{◌≡◌, ℕ, ◌+◌, List, [], ◌∷◌, length, Result, Ok, Err, refl, sym, ap, ◌∙◌, add-one, arith}
use Rattle.grid_json.specs.declared.fault.Fault.{Fault}
use Rattle.grid_json.specs.declared.fault.ReadError.{ReadError}
use Rattle.grid_json.specs.declared.fault.ReadError.TheVariants as errors
use Rattle.grid_json.specs.Reading.{◌>>=◌, Fails, IsUnder, under}
use Rattle.grid_json.specs.Loading.{load_items}

pub goes_on : {A S : Type 0} (load : A → List ℕ → S → Result S Fault) (i : ℕ) (x : A) (more : List A) (owner : List ℕ) (s after : S) → load x owner s ≡ Ok after
    → load_items load i (x ∷ more) owner s ≡ load_items load (i + 1) more owner after
unfolding load_items
goes_on load i x more owner s after h = rw (h, add-one) refl

pub is_done : {A S : Type 0} (load : A → List ℕ → S → Result S Fault) (i : ℕ) (rest : List A) (owner : List ℕ) (s : S) (total : Result S Fault) → length rest ≡ 0 → load_items load i rest owner s ≡ total → total ≡ Ok s
unfolding load_items
is_done load i [] owner s total none so_far = sym so_far
is_done load i (x ∷ rest) owner s total none so_far = absurd (omega arith)

pub under_fails : {A : Type 0} (name : List ℕ) (read : Result A Fault) (e r : ReadError) → Fails e read → IsUnder name e r → Fails r (under name read)
under_fails name read e errors.Memory h u = tt
under_fails name read errors.Memory (errors.Fault g) h u = absurd u
under_fails name read (errors.Fault f) (errors.Fault g) h u = ap (under name) h ∙ ap Err (sym u)

-- what failed fails with whatever follows
pub fails_on : {A B : Type 0} (f : A → Result B Fault) (read : Result A Fault) (r : ReadError) → Fails r read → Fails r (read >>= f)
fails_on f read errors.Memory h = tt
fails_on f read (errors.Fault g) h = rw h refl
