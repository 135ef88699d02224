-- Checking things one after the other, as a loop does.
use Rattle.std.proofs.Common.{◌≡◌, refl, sym, ap, ◌∙◌, ℕ, suc, ◌+◌, ◌<◌, ◌≤◌, List, [], ◌∷◌, ◌++◌, length, get_or, take, drop, Result, Ok, Err, add-one, drop-cons, arith}
use Rattle.std.specs.Prelude.{decimal, ⊤}
use Rattle.std.proofs.lemmas.List.{drop_all, length-take-le}
use Rattle.grid_lemmas.proofs.Lists.{take_next}
use Rattle.grid_json.specs.declared.fault.Fault.{Fault}
use Rattle.grid_json.specs.declared.fault.ReadError.{ReadError}
use Rattle.grid_json.specs.declared.fault.ReadError.TheVariants as errors
use Rattle.grid_json.specs.Reading.{Fails, IsUnder, placed}
use Rattle.grid_configured.specs.Checks.{each_check}

-- as many as were taken
pub taken : {A : Type 0} (xs : List A) (i : ℕ) → i < length xs → length (take i xs) ≡ i
taken xs i lt = length-take-le i xs (omega (arith, lt))

module _ {A : Type 0} (check : List A → A → Result ⊤ Fault) (xs : List A) (i : ℕ) (x : A) (total : Result ⊤ Fault) (lt : i < length xs) (is : x ≡ get_or xs i x)
    (so_far : each_check check (take i xs) i (drop i xs) ≡ total) where
  cut : drop i xs ≡ x ∷ drop (suc i) xs
  cut = drop-cons xs i x lt ∙ ap (λ w. w ∷ drop (suc i) xs) (sym is)

  -- a thing that is right
  pub goes_on : check (take i xs) x ≡ Ok tt → each_check check (take (i + 1) xs) (i + 1) (drop (i + 1) xs) ≡ total
  unfolding each_check
  goes_on right =
      let one : each_check check (take i xs) i (drop i xs) ≡ each_check check (take i xs ++ x ∷ []) (suc i) (drop (suc i) xs) = rw (cut, right) refl in
      rw (take_next xs i x lt is) (rw add-one (sym one ∙ so_far))

  -- a thing that is wrong
  pub ends : (e r : ReadError) → Fails e (check (take i xs) x) → IsUnder (decimal i) e r → Fails r total
  unfolding each_check
  ends e errors.Memory h u = tt
  ends errors.Memory (errors.Fault g) h u = absurd u
  ends (errors.Fault f) (errors.Fault g) wrong u =
      let one : each_check check (take i xs) i (drop i xs) ≡ Err (placed (decimal i) f) = rw (cut, wrong) refl in
      sym so_far ∙ one ∙ ap Err (sym u)

pub is_done : {A : Type 0} (check : List A → A → Result ⊤ Fault) (xs : List A) (i : ℕ) (total : Result ⊤ Fault) → length xs ≤ i → each_check check (take i xs) i (drop i xs) ≡ total → total ≡ Ok tt
unfolding each_check
is_done check xs i total le so_far =
    let none : drop i xs ≡ [] = drop_all i xs le in
    let one : each_check check (take i xs) i (drop i xs) ≡ Ok tt = rw none refl in
    sym so_far ∙ one

-- checks that agree
pub each_alike : {A : Type 0} (check other : List A → A → Result ⊤ Fault) (xs : List A) → ((earlier : List A) (x : A) → check earlier x ≡ other earlier x) → each_check check [] 0 xs ≡ each_check other [] 0 xs
each_alike check other xs same =
    let equal : check ≡ other = λ i earlier x. same earlier x i in
    ap (λ c. each_check c [] 0 xs) equal
