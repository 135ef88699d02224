-- Reading items one after the other, as a loop does.
use Rattle.std.proofs.Common.{◌≡◌, suc, List, [], ◌∷◌, ◌++◌, length, Result, Ok, Err, refl, sym, ap, ◌∙◌, append_assoc, length-append, arith}
use Rattle.std.specs.Prelude.{decimal}
use Rattle.std.proofs.lemmas.List.{append-nil}
use Rattle.serde_json.specs.Data.{Data, Items, no_items, item}
use Rattle.grid_json.specs.declared.fault.Fault.{Fault}
use Rattle.grid_json.specs.declared.fault.ReadError.{ReadError}
use Rattle.grid_json.specs.declared.fault.ReadError.TheVariants as errors
use Rattle.grid_json.specs.Reading.{◌>>=◌, Fails, IsUnder, placed, items_at}

-- what was read before, and what is still read
abbrev pub with_front : {A : Type 0} → List A → Result (List A) Fault → Result (List A) Fault
with_front front read = read >>= λ xs. Ok (front ++ xs)

pub regroup : {A : Type 0} (front : List A) (x : A) (read : Result (List A) Fault) → with_front front (read >>= λ xs. Ok (x ∷ xs)) ≡ with_front (front ++ x ∷ []) read
regroup front x (Ok xs) = ap Ok (simp append_assoc)
regroup front x (Err f) = refl

longer : {A : Type 0} (front : List A) (x : A) → suc (length front) ≡ length (front ++ x ∷ [])
longer front x = omega (arith, length-append front (x ∷ []))

pub goes_on : {A : Type 0} (read : Data → Result A Fault) (front : List A) (d : Data) (rest : Items) (x : A) → read d ≡ Ok x
    → with_front front (items_at read (length front) (item d rest)) ≡ with_front (front ++ x ∷ []) (items_at read (length (front ++ x ∷ [])) rest)
unfolding items_at
goes_on read front d rest x h =
    let one : with_front front (items_at read (length front) (item d rest)) ≡ with_front (front ++ x ∷ []) (items_at read (suc (length front)) rest) = rw h (regroup front x (items_at read (suc (length front)) rest)) in
    one ∙ ap (λ i. with_front (front ++ x ∷ []) (items_at read i rest)) (longer front x)

pub ends : {A : Type 0} (read : Data → Result A Fault) (front : List A) (d : Data) (rest : Items) (e r : ReadError) → Fails e (read d) → IsUnder (decimal (length front)) e r
    → Fails r (with_front front (items_at read (length front) (item d rest)))
unfolding items_at
ends read front d rest e errors.Memory h u = tt
ends read front d rest errors.Memory (errors.Fault g) h u = absurd u
ends read front d rest (errors.Fault f) (errors.Fault g) h u =
    let one : with_front front (items_at read (length front) (item d rest)) ≡ Err (placed (decimal (length front)) f) = rw h refl in
    one ∙ ap Err (sym u)

pub is_done : {A : Type 0} (read : Data → Result A Fault) (front : List A) (ds : Items) (total : Result (List A) Fault) → ds ≡ no_items → with_front front (items_at read (length front) ds) ≡ total → total ≡ Ok front
unfolding items_at
is_done read front ds total none so_far =
    let one : with_front front (items_at read (length front) ds) ≡ Ok front = rw none (ap Ok (append-nil front)) in
    sym so_far ∙ one
