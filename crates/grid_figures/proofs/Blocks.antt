-- Lists that places make one after the other.
use Rattle.std.proofs.Common.{◌≡◌, refl, sym, ap, ◌∙◌, subst, ℕ, zero, suc, ◌+◌, ◌-◌, ◌<◌, ◌≤◌, List, [], ◌∷◌, ◌++◌, length, length-append, get_or, inl, inr, arith}
use Rattle.std.specs.Prelude.{flat_map}
use Rattle.std.proofs.lemmas.Bool.{cases_lt, cases_eq}
use Rattle.std.proofs.lemmas.List.{append-nil, get_or_append_left, get_or-append_right}
use Rattle.std.proofs.lemmas.Grind.{flat_map-append}
use Rattle.grid_lemmas.proofs.Ranges.{range_last}
use Rattle.grid_graph.specs.Components.{places}

-- what the places before one make
abbrev pub blocks : {X : Type 0} → (ℕ → List X) → ℕ → List X
blocks f n = flat_map f (places n)

-- the place before which an item stands, and the item's place in what that one makes
pub record IsIn {X : Type 0} (f : ℕ → List X) (n x : ℕ) : Type 0 where
  pub block : ℕ
  pub item : ℕ
  pub block_below : block < n
  pub item_below : item < length (f block)
  pub is : x ≡ length (blocks f block) + item

module _ {X : Type 0} (f : ℕ → List X) where
  pub blocks_more : (n : ℕ) → blocks f (suc n) ≡ blocks f n ++ f n
  unfolding places
  blocks_more n =
      let same : 0 + n ≡ n = omega arith in
      ap (flat_map f) (range_last 0 n) ∙ flat_map-append f (places n) ((0 + n) ∷ []) ∙ ap (λ z. blocks f n ++ z) (append-nil (f (0 + n)) ∙ ap f same)

  pub long_more : (n : ℕ) → length (blocks f (suc n)) ≡ length (blocks f n) + length (f n)
  long_more n = ap length (blocks_more n) ∙ length-append (blocks f n) (f n)

  pub blocks_before : (l n : ℕ) → l < n → length (blocks f l) + length (f l) ≤ length (blocks f n)
  blocks_before l zero lt = absurd (omega arith)
  blocks_before l (suc n) lt = elim (cases_eq l n) [
    | inl e ↦ (let P : ℕ → Type 0 = λ z. length (blocks f z) + length (f z) ≤ length (blocks f (suc n)) in subst P (sym e) (omega (arith, long_more n)))
    | inr ne ↦ omega (arith, blocks_before l n (omega (arith, ne)), long_more n)
  ]

  pub block_at : (l n b : ℕ) (d : X) → l < n → b < length (f l) → get_or (blocks f n) (length (blocks f l) + b) d ≡ get_or (f l) b d
  block_at l zero b d lt less = absurd (omega arith)
  block_at l (suc n) b d lt less = ap (λ z. get_or z (length (blocks f l) + b) d) (blocks_more n) ∙ elim (cases_eq l n) [
    | inl e ↦ (let P : ℕ → Type 0 = λ z. get_or (blocks f n ++ f n) (length (blocks f z) + b) d ≡ get_or (f z) b d in
        let there : (length (blocks f n) + b) - length (blocks f n) ≡ b = omega arith in
        subst P (sym e) (get_or-append_right (blocks f n) (f n) (length (blocks f n)) (length (blocks f n) + b) d refl (omega arith) ∙ ap (λ z. get_or (f n) z d) there))
    | inr ne ↦ get_or_append_left (blocks f n) (f n) d (length (blocks f l) + b) (omega (arith, less, blocks_before l n (omega (arith, ne)))) ∙ block_at l n b d (omega (arith, ne)) less
  ]

  pub block_of : (n x : ℕ) → x < length (blocks f n) → IsIn f n x
  unfolding places
  block_of zero x lt = absurd (omega arith)
  block_of (suc n) x lt = elim (cases_lt x (length (blocks f n))) [
    | inl less ↦ (let r = block_of n x less in record { block = r.block; item = r.item; block_below = omega (arith, r.block_below); item_below = r.item_below; is = r.is })
    | inr le ↦ record { block = n; item = x - length (blocks f n); block_below = omega arith; item_below = omega (arith, lt, le, long_more n); is = omega (arith, le) }
  ]

-- as many items, block by block
pub blocks_as_long : {X Y : Type 0} (f : ℕ → List X) (g : ℕ → List Y) (n : ℕ) → ((l : ℕ) → l < n → length (f l) ≡ length (g l)) → length (blocks f n) ≡ length (blocks g n)
unfolding places
blocks_as_long f g zero h = refl
blocks_as_long f g (suc n) h = omega (arith, long_more f n, long_more g n, blocks_as_long f g n (λ l lt. h l (omega (arith, lt))), h n (omega arith))
