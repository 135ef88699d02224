-- One step more of a loop over items of which some are taken.
use Rattle.std.proofs.Common.{◌≡◌, refl, sym, ap, ◌∙◌, ℕ, zero, suc, ◌+◌, ◌<◌, Bool, true, false, cond, List, [], ◌∷◌, ◌++◌, map, length, get_or, take, append_assoc, arith, Option, Some, None}
use Rattle.std.specs.Prelude.{slice_get, filter}
use Rattle.std.specs.List.{flat_map}
use Rattle.std.specs.Option.{option_map}
use Rattle.std.proofs.lemmas.List.{append-nil, map-append}
use Rattle.std.proofs.lemmas.List.Elements.{filter-append}
use Rattle.std.proofs.lemmas.Grind.{flat_map-append}
use Rattle.grid_lemmas.proofs.Lists.{take_got, get_there}
use Rattle.grid_structure.specs.declared.Branch.{Branch}
use Rattle.grid_structure.specs.declared.NamedBranch.{NamedBranch}

take_one : {X : Type 0} (xs : List X) (i : ℕ) (x : X) → slice_get xs i ≡ Some x → take (i + 1) xs ≡ take i xs ++ x ∷ []
take_one xs i x at = let more : i + 1 ≡ suc i = omega arith in ap (λ z. take z xs) more ∙ take_got xs i x at

-- ---- items of which a test holds

module _ {X Y : Type 0} (f : X → Y) (p : X → Bool) (xs : List X) (i : ℕ) (x : X) (at : slice_get xs i ≡ Some x) where
  passed_step : (t : Bool) → p x ≡ t → map f (filter p (take (i + 1) xs)) ≡ map f (filter p (take i xs)) ++ map f (cond t (x ∷ []) [])
  passed_step t e =
      ap (λ z. map f (filter p z)) (take_one xs i x at) ∙ ap (map f) (filter-append p (take i xs) (x ∷ []) ∙ ap (λ z. filter p (take i xs) ++ cond z (x ∷ []) []) e)
      ∙ map-append f (filter p (take i xs)) (cond t (x ∷ []) [])

  pub passed_more : (start old new : List Y) → p x ≡ true → old ≡ start ++ map f (filter p (take i xs)) → new ≡ old ++ f x ∷ [] → new ≡ start ++ map f (filter p (take (i + 1) xs))
  passed_more start old new e was is =
      is ∙ ap (λ z. z ++ f x ∷ []) was ∙ append_assoc start (map f (filter p (take i xs))) (f x ∷ []) ∙ ap (λ z. start ++ z) (sym (passed_step true e))

  pub passed_left : (start old : List Y) → p x ≡ false → old ≡ start ++ map f (filter p (take i xs)) → old ≡ start ++ map f (filter p (take (i + 1) xs))
  passed_left start old e was = was ∙ ap (λ z. start ++ z) (sym (passed_step false e ∙ append-nil (map f (filter p (take i xs)))))

-- ---- items, each made into one, or into several

pub mapped_more : {X Y : Type 0} (f : X → Y) (xs : List X) (i : ℕ) (x : X) (start old : List Y) → slice_get xs i ≡ Some x → old ≡ start ++ map f (take i xs) → old ++ f x ∷ [] ≡ start ++ map f (take (i + 1) xs)
mapped_more f xs i x start old at was =
    ap (λ z. z ++ f x ∷ []) was ∙ append_assoc start (map f (take i xs)) (f x ∷ []) ∙ ap (λ z. start ++ z) (sym (ap (map f) (take_one xs i x at) ∙ map-append f (take i xs) (x ∷ [])))

pub flat_more : {X Y : Type 0} (f : X → List Y) (xs : List X) (i : ℕ) (x : X) (old : List Y) → slice_get xs i ≡ Some x → old ≡ flat_map f (take i xs) → old ++ f x ≡ flat_map f (take (i + 1) xs)
flat_more f xs i x old at was =
    ap (λ z. z ++ f x) was ∙ sym (ap (flat_map f) (take_one xs i x at) ∙ flat_map-append f (take i xs) (x ∷ []) ∙ ap (λ z. flat_map f (take i xs) ++ z) (append-nil (f x)))

-- ---- an item that is read

pub item_at : {X : Type 0} (xs : List X) (i : ℕ) (x : X) → i < length xs → x ≡ get_or xs i x → slice_get xs i ≡ Some x
item_at xs i x lt at = get_there xs i x lt at

pub got : {X : Type 0} (xs : List X) (i : ℕ) (d : X) → i < length xs → slice_get xs i ≡ Some (get_or xs i d)
got [] i d lt = absurd (omega arith)
got (x ∷ xs) zero d lt = refl
got (x ∷ xs) (suc i) d lt = got xs i d (omega arith)

-- a branch that is read by its shape and by its id
pub branch_read : (bs : List NamedBranch) (i : ℕ) (shape : Branch) (id : List ℕ) → option_map (λ (b : NamedBranch). b.shape) (slice_get bs i) ≡ Some shape → option_map (λ (b : NamedBranch). b.id) (slice_get bs i) ≡ Some id
    → (b : NamedBranch) × (slice_get bs i ≡ Some b) × (b.shape ≡ shape) × (b.id ≡ id)
branch_read bs i shape id = by (slice_get bs i)
  where
    by : (o : Option NamedBranch) → option_map (λ (b : NamedBranch). b.shape) o ≡ Some shape → option_map (λ (b : NamedBranch). b.id) o ≡ Some id → (b : NamedBranch) × (o ≡ Some b) × (b.shape ≡ shape) × (b.id ≡ id)
    by (Some b) e f = (b, refl, cc, cc)
    by None e f = absurd (cc)

-- a branch that is read by its shape
pub shape_read : (bs : List NamedBranch) (i : ℕ) (shape : Branch) → option_map (λ (b : NamedBranch). b.shape) (slice_get bs i) ≡ Some shape → (b : NamedBranch) × (slice_get bs i ≡ Some b) × (b.shape ≡ shape)
shape_read bs i shape = by (slice_get bs i)
  where
    by : (o : Option NamedBranch) → option_map (λ (b : NamedBranch). b.shape) o ≡ Some shape → (b : NamedBranch) × (o ≡ Some b) × (b.shape ≡ shape)
    by (Some b) e = (b, refl, cc)
    by None e = absurd (cc)
