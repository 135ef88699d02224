-- Sums over blocks of substations, and the way to the substation of a place by its block.
use Rattle.std.proofs.Common.{◌≡◌, ◌≢◌, refl, sym, ap, ◌∙◌, ℕ, zero, suc, ◌+◌, ◌-◌, ◌*◌, ◌/◌, ◌<◌, ◌≤◌, Bool, true, false, cond, List, [], ◌∷◌, ◌++◌, length, arith, Some, take, drop, get_or}
use Rattle.std.specs.Prelude.{slice_get, slice_set, nat_lt, sum}
use Rattle.std.specs.List.{sum_by}
use Rattle.std.proofs.lemmas.Bool.{ltb-true, ltb-false, lt-ltb, le-ltb}
use Rattle.std.proofs.lemmas.List.{length-append, get_or_append_left, take_all, drop_all, length-set, get_or-set_same, get_or-set_other, drop-set-lt, take-set-le}
use Rattle.std.proofs.lemmas.List.Sums.{sum_by-cons, sum_by-append, sum_by_more, sum_by-take-drop, sum_by-take-le, sum_by-drop_more}
use Rattle.std.proofs.Math.Seq.{take-add, get_or-append_seam}
use Rattle.grid_structure.specs.declared.structure.Head.{Head}
use Rattle.grid_structure.specs.Cutting.{level_total, transformer_total}
use Rattle.grid_structure.specs.Blocks.{AreSums, opened, place_by}

pub levels_summed : (hs : List Head) → level_total hs ≡ sum_by (λ (h : Head). h.levels) hs
unfolding level_total
levels_summed [] = refl
levels_summed (h ∷ hs) = omega (arith, levels_summed hs, sum_by-cons (λ (h : Head). h.levels) h hs)

pub transformers_summed : (hs : List Head) → transformer_total hs ≡ sum_by (λ (h : Head). h.transformers) hs
unfolding transformer_total
transformers_summed [] = refl
transformers_summed (h ∷ hs) = omega (arith, transformers_summed hs, sum_by-cons (λ (h : Head). h.transformers) h hs)

pub head_there : (hs : List Head) (k : ℕ) → k < length hs → (h : Head) × (slice_get hs k ≡ Some h)
head_there [] k l = absurd (omega arith)
head_there (h ∷ hs) zero l = (h, refl)
head_there (h ∷ hs) (suc k) l = head_there hs k (omega arith)

-- what stands in a list does not rest on what would stand in its place
pub stands : (xs : List ℕ) (k n d : ℕ) → k < length xs → n ≡ get_or xs k n → n ≡ get_or xs k d
stands [] k n d l e = absurd (omega arith)
stands (x ∷ xs) zero n d l e = e
stands (x ∷ xs) (suc k) n d l e = stands xs k n d (omega arith) e

module _ (f : Head → ℕ) where
  -- ---- the first substations

  split : (a b : ℕ) (hs : List Head) → sum_by f (take (a + b) hs) ≡ sum_by f (take a hs) + sum_by f (take b (drop a hs))
  split a b hs = ap (sum_by f) (take-add a b hs) ∙ sum_by-append f (take a hs) (take b (drop a hs))

  pub front_sum : (hs : List Head) (sums : List ℕ) → AreSums f hs sums → (k : ℕ) → k ≤ length sums → sum (take k sums) ≡ sum_by f (take (k * 256) hs)
  front_sum hs sums s zero l = refl
  front_sum hs sums s (suc k) l =
      let again = front_sum hs sums s k (omega arith) in
      let more = sum_by_more (λ (n : ℕ). n) sums k 0 (omega arith) in
      let here = s.each k (omega arith) in
      let turn : 256 * k ≡ k * 256 = omega arith in
      let one : suc k ≡ k + 1 = omega arith in
      let long : (k + 1) * 256 ≡ k * 256 + 256 = omega arith in
      rw (one, long) (more ∙ ap (λ n. n + get_or sums k 0) again ∙ ap (λ n. sum_by f (take (k * 256) hs) + n) (here ∙ ap (λ n. sum_by f (take 256 (drop n hs))) turn) ∙ sym (split (k * 256) 256 hs))

  pub whole : (hs : List Head) (sums : List ℕ) → AreSums f hs sums → (b count : ℕ) → b ≤ length sums → b * 256 ≤ count → sum (take b sums) + sum_by f (take (count - b * 256) (drop (b * 256) hs)) ≡ sum_by f (take count hs)
  whole hs sums s b count l m =
      let same : b * 256 + (count - b * 256) ≡ count = omega arith in
      ap (λ n. n + sum_by f (take (count - b * 256) (drop (b * 256) hs))) (front_sum hs sums s b l) ∙ sym (split (b * 256) (count - b * 256) hs) ∙ ap (λ n. sum_by f (take n hs)) same

  -- ---- the way to a place

  pub skip : (hs : List Head) (s place : ℕ) → sum_by f (take s hs) ≤ place → s ≤ length hs → place_by f hs place ≡ place_by f (drop s hs) (place - sum_by f (take s hs)) + s
  unfolding place_by
  skip hs zero place l m = let same : place - 0 ≡ place = omega arith in rw same (omega arith)
  skip [] (suc s) place l m = absurd (omega arith)
  skip (h ∷ hs) (suc s) place l m =
      let cons = sum_by-cons f h (take s hs) in
      let more : f h ≤ place = omega (arith, cons, l) in
      let again = skip hs s (place - f h) (omega (arith, cons, l)) (omega arith) in
      let same : place - sum_by f (h ∷ take s hs) ≡ (place - f h) - sum_by f (take s hs) = omega (arith, cons) in
      rw (le-ltb place (f h) more) (omega (arith, again, ap (λ n. place_by f (drop s hs) n) same))

  pub stop_inside : (hs : List Head) (sums : List ℕ) → AreSums f hs sums → (b rest place : ℕ) → b ≤ length sums → sum (take b sums) + rest ≡ place → place < sum_by f hs → b * 256 ≤ length hs
  stop_inside hs sums s b rest place l e m = by (nat_lt (length hs) (b * 256)) refl
    where
      by : (t : Bool) → nat_lt (length hs) (b * 256) ≡ t → b * 256 ≤ length hs
      by false q = ltb-false (length hs) (b * 256) q
      by true q =
          let less : length hs < b * 256 = ltb-true (length hs) (b * 256) q in
          let all = ap (sum_by f) (take_all (b * 256) hs (omega arith)) in
          absurd (omega (arith, all, front_sum hs sums s b l, e, m))

  pub stop_rest : (hs : List Head) (sums : List ℕ) → AreSums f hs sums → (b rest place : ℕ) → b ≤ length sums → sum (take b sums) + rest ≡ place → place < sum_by f hs → rest < sum_by f (drop (b * 256) hs)
  stop_rest hs sums s b rest place l e m = omega (arith, front_sum hs sums s b l, sum_by-take-drop f hs (b * 256), e, m)

  pub stop_place : (hs : List Head) (sums : List ℕ) → AreSums f hs sums → (b rest place : ℕ) → b ≤ length sums → sum (take b sums) + rest ≡ place → place < sum_by f hs → b * 256 + place_by f (drop (b * 256) hs) rest ≡ place_by f hs place
  stop_place hs sums s b rest place l e m =
      let front = front_sum hs sums s b l in
      let way = skip hs (b * 256) place (omega (arith, front, e)) (stop_inside hs sums s b rest place l e m) in
      let same : place - sum_by f (take (b * 256) hs) ≡ rest = omega (arith, front, e) in
      omega (arith, way, ap (λ n. place_by f (drop (b * 256) hs) n) same)

  -- what is left of the way, over the substations that are left
  abbrev pub rest_of : List Head → ℕ → ℕ → ℕ → Type 0
  rest_of hs all place rest = (place_by f hs all ≡ place_by f (drop place hs) rest + place) × (rest < sum_by f (drop place hs))

  opened_at : (hs : List Head) (i : ℕ) (h : Head) → i < length hs → h ≡ get_or hs i h → drop i hs ≡ h ∷ drop (i + 1) hs
  opened_at [] i h l e = absurd (omega arith)
  opened_at (x ∷ hs) zero h l e = ap (λ z. z ∷ hs) (sym e)
  opened_at (x ∷ hs) (suc i) h l e = let one : suc i + 1 ≡ suc (i + 1) = omega arith in rw one (opened_at hs i h (omega arith) e)

  pub rest_begins : (hs : List Head) (all : ℕ) → all < sum_by f hs → rest_of hs all 0 all
  rest_begins hs all l = (omega arith, l)

  pub rest_here : (hs : List Head) (all place rest : ℕ) (h : Head) → rest_of hs all place rest → place < length hs → h ≡ get_or hs place h → rest < f h → place ≡ place_by f hs all
  unfolding place_by
  rest_here hs all place rest h r l e less =
      let here : place_by f (drop place hs) rest ≡ 0 = rw (opened_at hs place h l e, lt-ltb rest (f h) less) refl in
      omega (arith, r.0, here)

  pub rest_goes : (hs : List Head) (all place rest : ℕ) (h : Head) → rest_of hs all place rest → place < length hs → h ≡ get_or hs place h → f h ≤ rest → rest_of hs all (place + 1) (rest - f h)
  unfolding place_by
  rest_goes hs all place rest h r l e more =
      let here : place_by f (drop place hs) rest ≡ place_by f (drop (place + 1) hs) (rest - f h) + 1 = rw (opened_at hs place h l e, le-ltb rest (f h) more) refl in
      let total = sum_by-drop_more f hs place h l in
      let same : f h ≡ f (get_or hs place h) = ap f e in
      (omega (arith, r.0, here), omega (arith, r.1, total, same))

  pub rest_ends : (hs : List Head) (all place rest : ℕ) → place ≡ length hs → rest_of hs all place rest → ⊥
  rest_ends hs all place rest e r = let none = ap (sum_by f) (drop_all place hs (omega arith)) in omega (arith, r.1, none)

  -- ---- a block, after a change of one substation

  front_here : (n at a b : ℕ) (hs : List Head) (x y : Head) → at < n → slice_get hs at ≡ Some x → f y + a ≡ f x + b → sum_by f (take n (slice_set hs at y)) + a ≡ sum_by f (take n hs) + b
  front_here n at a b [] x y l g e = cc
  front_here zero at a b (h ∷ hs) x y l g e = absurd (omega arith)
  front_here (suc n) zero a b (h ∷ hs) x y l g e =
      let same : h ≡ x = cc in
      omega (arith, ap f same, e, sum_by-cons f y (take n hs), sum_by-cons f h (take n hs))
  front_here (suc n) (suc at) a b (h ∷ hs) x y l g e = omega (arith, front_here n at a b hs x y (omega arith) g e, sum_by-cons f h (take n (slice_set hs at y)), sum_by-cons f h (take n hs))

  block_here : (n m at a b : ℕ) (hs : List Head) (x y : Head) → m ≤ at → at < m + n → slice_get hs at ≡ Some x → f y + a ≡ f x + b → sum_by f (take n (drop m (slice_set hs at y))) + a ≡ sum_by f (take n (drop m hs)) + b
  block_here n m at a b [] x y l k g e = cc
  block_here n zero at a b (h ∷ hs) x y l k g e = front_here n at a b (h ∷ hs) x y (omega arith) g e
  block_here n (suc m) zero a b (h ∷ hs) x y l k g e = absurd (omega arith)
  block_here n (suc m) (suc at) a b (h ∷ hs) x y l k g e = block_here n m at a b hs x y (omega arith) (omega arith) g e

  block_before : (n m at : ℕ) (hs : List Head) (y : Head) → at < m → sum_by f (take n (drop m (slice_set hs at y))) ≡ sum_by f (take n (drop m hs))
  block_before n m at hs y l = ap (λ z. sum_by f (take n z)) (drop-set-lt m hs at y l)

  block_after : (n m at : ℕ) (hs : List Head) (y : Head) → m + n ≤ at → sum_by f (take n (drop m (slice_set hs at y))) ≡ sum_by f (take n (drop m hs))
  block_after n zero at hs y l = ap (sum_by f) (take-set-le n hs at y (omega arith))
  block_after n (suc m) at [] y l = refl
  block_after n (suc m) zero (h ∷ hs) y l = absurd (omega arith)
  block_after n (suc m) (suc at) (h ∷ hs) y l = block_after n m at hs y (omega arith)

  pub sums_changed : (hs : List Head) (sums : List ℕ) → AreSums f hs sums → (at a b new : ℕ) (x y : Head) → slice_get hs at ≡ Some x → f y + a ≡ f x + b → new + a ≡ get_or sums (at / 256) 0 + b
      → AreSums f (slice_set hs at y) (slice_set sums (at / 256) new)
  sums_changed hs sums s at a b new x y g e n = record {
    each = λ k l. by k (omega (arith, l, length-set sums (at / 256) new)) (nat_lt k (at / 256)) (nat_lt (at / 256) k) refl refl;
    all = omega (arith, s.all, length-set hs at y, length-set sums (at / 256) new);
  }
    where
      by : (k : ℕ) → k < length sums → (t u : Bool) → nat_lt k (at / 256) ≡ t → nat_lt (at / 256) k ≡ u → get_or (slice_set sums (at / 256) new) k 0 ≡ sum_by f (take 256 (drop (256 * k) (slice_set hs at y)))
      by k l true u p q =
          let less : k < at / 256 = ltb-true k (at / 256) p in
          let other : k ≢ at / 256 = omega arith in
          get_or-set_other sums (at / 256) k new 0 other ∙ s.each k l ∙ sym (block_after 256 (256 * k) at hs y (omega arith))
      by k l false true p q =
          let less : at / 256 < k = ltb-true (at / 256) k q in
          let other : k ≢ at / 256 = omega arith in
          get_or-set_other sums (at / 256) k new 0 other ∙ s.each k l ∙ sym (block_before 256 (256 * k) at hs y (omega arith))
      by k l false false p q =
          let low : at / 256 ≤ k = ltb-false k (at / 256) p in
          let high : k ≤ at / 256 = ltb-false (at / 256) k q in
          let same : at / 256 ≡ k = omega arith in
          let here = block_here 256 (256 * k) at a b hs x y (omega arith) (omega arith) g e in
          let was = s.each k l in
          let is : new + a ≡ get_or sums k 0 + b = n ∙ ap (λ z. get_or sums z 0 + b) same in
          ap (λ z. get_or (slice_set sums z new) k 0) same ∙ get_or-set_same sums k new 0 l ∙ omega (arith, here, was, is)

  pub sums_same : (hs : List Head) (sums : List ℕ) → AreSums f hs sums → (at : ℕ) (x y : Head) → slice_get hs at ≡ Some x → f y ≡ f x → AreSums f (slice_set hs at y) sums
  sums_same hs sums s at x y g e = record {
    each = λ k l. s.each k l ∙ by k (nat_lt at (256 * k)) (nat_lt at (256 * k + 256)) refl refl;
    all = omega (arith, s.all, length-set hs at y);
  }
    where
      by : (k : ℕ) (t u : Bool) → nat_lt at (256 * k) ≡ t → nat_lt at (256 * k + 256) ≡ u → sum_by f (take 256 (drop (256 * k) hs)) ≡ sum_by f (take 256 (drop (256 * k) (slice_set hs at y)))
      by k true u p q = sym (block_before 256 (256 * k) at hs y (ltb-true at (256 * k) p))
      by k false false p q = sym (block_after 256 (256 * k) at hs y (ltb-false at (256 * k + 256) q))
      by k false true p q =
          let low : 256 * k ≤ at = ltb-false at (256 * k) p in
          let high : at < 256 * k + 256 = ltb-true at (256 * k + 256) q in
          let here = block_here 256 (256 * k) at 0 0 hs x y low high g (ap (λ n. n + 0) e) in
          omega (arith, here)

  -- a substation's own are among those of its block, and of all
  pub in_block : (hs : List Head) (sums : List ℕ) → AreSums f hs sums → (at : ℕ) (x : Head) → at < length hs → slice_get hs at ≡ Some x → (at / 256 < length sums) × (f x ≤ get_or sums (at / 256) 0) × (get_or sums (at / 256) 0 ≤ sum_by f hs)
  in_block hs sums s at x l g =
      let inside : at / 256 < length sums = omega (arith, s.all, l) in
      let was = s.each (at / 256) inside in
      let part = inner 256 (256 * (at / 256)) at hs (omega arith) (omega arith) g in
      let front = sum_by-take-le f (drop (256 * (at / 256)) hs) 256 in
      let back = sum_by-take-drop f hs (256 * (at / 256)) in
      (inside, omega (arith, was, part), omega (arith, was, front, back))
    where
      first : (n i : ℕ) (xs : List Head) → i < n → slice_get xs i ≡ Some x → f x ≤ sum_by f (take n xs)
      first n i [] l g = cc
      first zero i (h ∷ xs) l g = absurd (omega arith)
      first (suc n) zero (h ∷ xs) l g = let same : h ≡ x = cc in omega (arith, ap f same, sum_by-cons f h (take n xs))
      first (suc n) (suc i) (h ∷ xs) l g = omega (arith, first n i xs (omega arith) g, sum_by-cons f h (take n xs))

      inner : (n m i : ℕ) (xs : List Head) → m ≤ i → i < m + n → slice_get xs i ≡ Some x → f x ≤ sum_by f (take n (drop m xs))
      inner n m i [] l k g = cc
      inner n zero i (h ∷ xs) l k g = first n i (h ∷ xs) (omega arith) g
      inner n (suc m) zero (h ∷ xs) l k g = absurd (omega arith)
      inner n (suc m) (suc i) (h ∷ xs) l k g = inner n m i xs (omega arith) (omega arith) g

  -- ---- a substation more

  nothing : (n m : ℕ) → sum_by f (take n (drop m [])) ≡ 0
  nothing zero zero = refl
  nothing zero (suc m) = refl
  nothing (suc n) zero = refl
  nothing (suc n) (suc m) = refl

  block_push : (n m : ℕ) (hs : List Head) (z : Head) → f z ≡ 0 → sum_by f (take n (drop m (hs ++ z ∷ []))) ≡ sum_by f (take n (drop m hs))
  block_push zero zero [] z e = refl
  block_push (suc n) zero [] z e = omega (arith, e, sum_by-cons f z (take n []), nothing n 0)
  block_push n (suc m) [] z e = nothing n m ∙ sym (nothing n (suc m))
  block_push zero zero (h ∷ hs) z e = refl
  block_push (suc n) zero (h ∷ hs) z e = omega (arith, block_push n zero hs z e, sum_by-cons f h (take n (hs ++ z ∷ [])), sum_by-cons f h (take n hs))
  block_push n (suc m) (h ∷ hs) z e = block_push n m hs z e

  pub sums_pushed : (hs : List Head) (sums : List ℕ) → AreSums f hs sums → (z : Head) → f z ≡ 0 → length hs + 1 ≤ 256 * length sums → AreSums f (hs ++ z ∷ []) sums
  sums_pushed hs sums s z e l = record {
    each = λ k m. s.each k m ∙ sym (block_push 256 (256 * k) hs z e);
    all = omega (arith, length-append hs (z ∷ []), l);
  }

  pub sums_opened : (hs : List Head) (sums : List ℕ) → AreSums f hs sums → (count : ℕ) → count ≡ length hs → AreSums f hs (opened count sums) × (length hs + 1 ≤ 256 * length (opened count sums))
  sums_opened hs sums s count c = by (nat_lt (count / 256) (length sums)) refl
    where
      by : (t : Bool) → nat_lt (count / 256) (length sums) ≡ t → AreSums f hs (cond t sums (sums ++ 0 ∷ [])) × (length hs + 1 ≤ 256 * length (cond t sums (sums ++ 0 ∷ [])))
      by true q = let less : count / 256 < length sums = ltb-true (count / 256) (length sums) q in (s, omega (arith, less, c))
      by false q =
          let full : length sums ≤ count / 256 = ltb-false (count / 256) (length sums) q in
          let more = length-append sums (0 ∷ []) in
          (record { each = λ k l. at k (omega (arith, l, more)) (nat_lt k (length sums)) refl; all = omega (arith, s.all, more) }, omega (arith, s.all, more))
        where
          at : (k : ℕ) → k < length sums + 1 → (u : Bool) → nat_lt k (length sums) ≡ u → get_or (sums ++ 0 ∷ []) k 0 ≡ sum_by f (take 256 (drop (256 * k) hs))
          at k l true p = let less : k < length sums = ltb-true k (length sums) p in get_or_append_left sums (0 ∷ []) 0 k less ∙ s.each k less
          at k l false p =
              let last : length sums ≡ k = (let low : length sums ≤ k = ltb-false k (length sums) p in omega arith) in
              let here : get_or (sums ++ 0 ∷ []) k 0 ≡ 0 = ap (λ n. get_or (sums ++ 0 ∷ []) n 0) (sym last) ∙ get_or-append_seam sums 0 [] 0 in
              let none : sum_by f (take 256 (drop (256 * k) hs)) ≡ 0 = ap (λ z. sum_by f (take 256 z)) (drop_all (256 * k) hs (omega (arith, s.all, last))) in
              here ∙ sym none
