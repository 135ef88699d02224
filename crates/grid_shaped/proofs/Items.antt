-- Parts that are loaded one after the other.
use Rattle.std.proofs.Common.{◌≡◌, subst, ℕ, suc, List, [], ◌∷◌, ◌++◌, Result, Ok, append_assoc}
use Rattle.std.specs.Prelude.{decimal, flat_map}
use Rattle.std.proofs.lemmas.List.{append-nil}
use Rattle.grid_json.specs.declared.fault.Fault.{Fault}
use Rattle.grid_json.specs.Reading.{under}
use Rattle.grid_json.specs.Loading.{load_items}
use Rattle.grid_json.proofs.Results.{bound, inside}

module _ {A S : Type 0} (f : A → List ℕ → S → Result S Fault) (owner : List ℕ) where
  -- the first, and those behind it
  pub record Taken (i : ℕ) (x : A) (rest : List A) (s t : S) : Type 0 where
    pub mid : S
    pub one : f x owner s ≡ Ok mid
    pub more : load_items f (suc i) rest owner mid ≡ Ok t

  pub taken : (i : ℕ) (x : A) (rest : List A) (s t : S) → load_items f i (x ∷ rest) owner s ≡ Ok t → Taken i x rest s t
  unfolding load_items
  taken i x rest s t h =
      let b = bound (under (decimal i) (f x owner s)) (load_items f (suc i) rest owner) t h in
      record { mid = b.0; one = inside (decimal i) (f x owner s) b.0 b.1; more = b.2 }

  pub none_taken : (i : ℕ) (s t : S) → load_items f i [] owner s ≡ Ok t → s ≡ t
  unfolding load_items
  none_taken i s t h = cc

  -- what each keeps, all keep
  pub items_keep : (P : S → Type 0) → ((x : A) (s t : S) → P s → f x owner s ≡ Ok t → P t) → (i : ℕ) (xs : List A) (s t : S) → P s → load_items f i xs owner s ≡ Ok t → P t
  items_keep P each i [] s t p h = subst P (none_taken i s t h) p
  items_keep P each i (x ∷ xs) s t p h = let k = taken i x xs s t h in items_keep P each (suc i) xs k.mid t (each x s k.mid p k.one) k.more

  -- where each puts some behind a list, all do
  pub items_add : {B : Type 0} (P : List B → S → Type 0) (g : A → List B) → ((x : A) (ys : List B) (s t : S) → P ys s → f x owner s ≡ Ok t → P (ys ++ g x) t)
      → (i : ℕ) (xs : List A) (ys : List B) (s t : S) → P ys s → load_items f i xs owner s ≡ Ok t → P (ys ++ flat_map g xs) t
  items_add P g each i [] ys s t p h = rw (append-nil ys) (subst (P ys) (none_taken i s t h) p)
  items_add P g each i (x ∷ xs) ys s t p h =
      let k = taken i x xs s t h in
      rw (← append_assoc ys (g x) (flat_map g xs)) (items_add P g each (suc i) xs (ys ++ g x) k.mid t (each x ys s k.mid p k.one) k.more)
