-- A list whose elements are those of workers, by the workers' own lists and the order of the workers.
use Rattle.std.proofs.Common.{◌≡◌, ℕ, zero, suc, ◌+◌, ◌<◌, ◌≤◌, ◌==◌, Bool, true, false, List, [], ◌∷◌, ◌++◌, map, filter, cond, inl, inr, refl, sym, ap, ap₂, ◌∙◌, arith, eq-eqb, append-nil, drop}
use Rattle.std.specs.List.{AllByRecursion, flat_map, range_with_len}
use Rattle.std.proofs.lemmas.Bool.{cases_lt, ne_eqb, eqb-true, eqb-false}
use Rattle.std.proofs.lemmas.List.Elements.{filter-append}

abbrev head_or : {B : Type 0} → B → List B → B
head_or d [] = d
head_or d (x ∷ xs) = x

module _ {A : Type 0} (tag : A → ℕ) where
  -- those of one worker
  abbrev pub own : ℕ → List A → List A
  own worker xs = filter (λ x. tag x == worker) xs

  own_of_own : (worker : ℕ) (xs : List A) → own worker (own worker xs) ≡ own worker xs
  own_of_own worker [] = refl
  own_of_own worker (x ∷ xs) = by (tag x == worker) refl (own_of_own worker xs)
    where
      by : (b : Bool) → (tag x == worker) ≡ b → own worker (own worker xs) ≡ own worker xs → own worker (cond b (x ∷ own worker xs) (own worker xs)) ≡ cond b (x ∷ own worker xs) (own worker xs)
      by true e rest = ap (λ b. cond b (x ∷ own worker (own worker xs)) (own worker (own worker xs))) e ∙ ap (λ l. x ∷ l) rest
      by false e rest = rest

  own_of_other : (worker other : ℕ) → (worker ≡ other → ⊥) → (xs : List A) → own worker (own other xs) ≡ []
  own_of_other worker other apart [] = refl
  own_of_other worker other apart (x ∷ xs) = by (tag x == other) refl (own_of_other worker other apart xs)
    where
      by : (b : Bool) → (tag x == other) ≡ b → own worker (own other xs) ≡ [] → own worker (cond b (x ∷ own other xs) (own other xs)) ≡ []
      by true e rest =
          let is : tag x ≡ other = eqb-true (tag x) other e in
          ap (λ b. cond b (x ∷ own worker (own other xs)) (own worker (own other xs))) (ne_eqb (tag x) worker (λ same. apart (sym same ∙ is))) ∙ rest
      by false e rest = rest

  -- the workers' own lists, one after the other, have the list of each worker among them
  abbrev pub grouped : ℕ → ℕ → List A → List A
  grouped first count xs = flat_map (λ worker. own worker xs) (range_with_len first count)

  not_grouped : (first count worker : ℕ) (xs : List A) → worker < first → own worker (grouped first count xs) ≡ []
  not_grouped first zero worker xs lt = refl
  not_grouped first (suc count) worker xs lt =
      filter-append (λ x. tag x == worker) (own first xs) (grouped (first + 1) count xs)
      ∙ ap₂ (λ a b. a ++ b) (own_of_other worker first (λ e. omega (arith, lt, e)) xs) (not_grouped (first + 1) count worker xs (omega (arith, lt)))

  own_grouped : (first count worker : ℕ) (xs : List A) → first ≤ worker → worker < first + count → own worker (grouped first count xs) ≡ own worker xs
  own_grouped first zero worker xs le lt = absurd (omega (arith, le, lt))
  own_grouped first (suc count) worker xs le lt =
      filter-append (λ x. tag x == worker) (own first xs) (grouped (first + 1) count xs) ∙ by (worker == first) refl (λ other. own_grouped (first + 1) count worker xs (omega (arith, le, other)) (omega (arith, lt)))
    where
      by : (b : Bool) → (worker == first) ≡ b → ((worker ≡ first → ⊥) → own worker (grouped (first + 1) count xs) ≡ own worker xs) → own worker (own first xs) ++ own worker (grouped (first + 1) count xs) ≡ own worker xs
      by true e rest =
          let same : worker ≡ first = eqb-true worker first e in
          ap₂ (λ a b. a ++ b) (ap (λ w. own worker (own w xs)) (sym same) ∙ own_of_own worker xs) (not_grouped (first + 1) count worker xs (omega (arith, same)))
          ∙ append-nil (own worker xs)
      by false e rest =
          let other : worker ≡ first → ⊥ = eqb-false worker first e in
          ap₂ (λ a b. a ++ b) (own_of_other worker first other xs) (rest other)

  beyond : (count worker : ℕ) (xs : List A) → AllByRecursion (λ x. tag x < count) xs → count ≤ worker → own worker xs ≡ []
  beyond count worker [] h le = refl
  beyond count worker (x ∷ xs) h le =
      ap (λ b. cond b (x ∷ own worker xs) (own worker xs)) (ne_eqb (tag x) worker (λ e. omega (arith, h.0, le, e))) ∙ beyond count worker xs h.1 le

  -- equal orders, and equal lists of each worker
  abbrev SameOwn : List A → List A → Type 0
  SameOwn xs ys = (worker : ℕ) → own worker xs ≡ own worker ys

  merged : (xs ys : List A) → map tag xs ≡ map tag ys → SameOwn xs ys → xs ≡ ys
  merged [] [] order same = refl
  merged [] (y ∷ ys) order same = absurd (cc)
  merged (x ∷ xs) [] order same = absurd (cc)
  merged (x ∷ xs) (y ∷ ys) order same =
      let tags : tag x ≡ tag y = ap (head_or 0) order in
      let one = sym (ap (λ b. cond b (x ∷ own (tag x) xs) (own (tag x) xs)) (eq-eqb (tag x) (tag x) refl)) ∙ same (tag x)
      ∙ ap (λ b. cond b (y ∷ own (tag x) ys) (own (tag x) ys)) (eq-eqb (tag y) (tag x) (sym tags)) in
      let rest : SameOwn xs ys = λ worker. later worker tags (tag x == worker) refl (same worker) in
      ap₂ (λ z zs. z ∷ zs) (ap (head_or x) one) (merged xs ys (ap (drop 1) order) rest)
    where
      later : (worker : ℕ) → tag x ≡ tag y → (b : Bool) → (tag x == worker) ≡ b → own worker (x ∷ xs) ≡ own worker (y ∷ ys) → own worker xs ≡ own worker ys
      later worker tags true e same =
          ap (drop 1)
          (sym (ap (λ b. cond b (x ∷ own worker xs) (own worker xs)) e) ∙ same ∙ ap (λ b. cond b (y ∷ own worker ys) (own worker ys)) (sym (ap (λ t. t == worker) tags) ∙ e))
      later worker tags false e same =
          sym (ap (λ b. cond b (x ∷ own worker xs) (own worker xs)) e) ∙ same ∙ ap (λ b. cond b (y ∷ own worker ys) (own worker ys)) (sym (ap (λ t. t == worker) tags) ∙ e)

  -- the grouped lists and the order tell the list
  pub told_by_groups : (count : ℕ) (xs ys : List A) → AllByRecursion (λ x. tag x < count) xs → AllByRecursion (λ y. tag y < count) ys → map tag xs ≡ map tag ys
      → grouped 0 count xs ≡ grouped 0 count ys → xs ≡ ys
  told_by_groups count xs ys few less order groups = merged xs ys order (λ worker. by worker)
    where
      by : (worker : ℕ) → own worker xs ≡ own worker ys
      by worker = elim (cases_lt worker count) [
        | inl lt ↦ sym (own_grouped 0 count worker xs (omega arith) (omega (arith, lt))) ∙ ap (own worker) groups ∙ own_grouped 0 count worker ys (omega arith) (omega (arith, lt))
        | inr le ↦ beyond count worker xs few (omega (arith, le)) ∙ sym (beyond count worker ys less (omega (arith, le)))
      ]
