-- Items that are listed once, and how many contingencies they make.
use Rattle.std.proofs.Common.{◌≡◌, refl, sym, ap, ◌∙◌, ℕ, zero, suc, ◌+◌, ◌<◌, ◌≤◌, Bool, true, false, not, ◌||◌, List, [], ◌∷◌, ◌++◌, map, length, take, arith, Some}
use Rattle.std.specs.Prelude.{slice_get, filter}
use Rattle.std.specs.List.{list_any, enumerate_from, flat_map}
use Rattle.std.proofs.lemmas.Bool.{and_parts}
use Rattle.std.proofs.lemmas.List.{append-nil, length-append, take_all}
use Rattle.std.proofs.lemmas.List.Folds.{list_any-append}
use Rattle.std.proofs.lemmas.List.FromFn.{length-enumerate_from}
use Rattle.std.proofs.lemmas.Grind.{flat_map-append}
use Rattle.grid_lemmas.proofs.Bools.{or_false}
use Rattle.grid_lemmas.proofs.Lists.{take_got, length_map}
use Rattle.grid_structure.specs.Network.{Network}
use Rattle.grid_contingencies.specs.declared.Each.{Each}
use Rattle.grid_contingencies.specs.declared.Piece.{Piece}
use Rattle.grid_contingencies.specs.declared.Piece.TheVariants as pieces
use Rattle.grid_contingencies.specs.declared.Role.{Role}
use Rattle.grid_contingencies.specs.declared.Role.TheVariants as roles
use Rattle.grid_contingencies.specs.Made.{same_piece, same_role, same_each, has_item, is_first, distinct, made_of, made_by}
use Rattle.grid_contingencies.specs.Pieces.{pieces_of}
use Rattle.grid_contingencies.proofs.ItemLoops.{passed_more, passed_left}

-- ---- items that are the same

piece_is : (a b : Piece) → same_piece a b ≡ true → a ≡ b
piece_is pieces.Line pieces.Line e = refl
piece_is pieces.TwoWindings pieces.TwoWindings e = refl
piece_is pieces.ThreeWindings pieces.ThreeWindings e = refl
piece_is pieces.Generator pieces.Generator e = refl
piece_is pieces.Load pieces.Load e = refl
piece_is pieces.BusbarSection pieces.BusbarSection e = refl
piece_is pieces.Breaker pieces.Breaker e = refl
piece_is a b e = absurd (cc)

role_is : (a b : Role) → same_role a b ≡ true → a ≡ b
role_is roles.Out roles.Out e = refl
role_is roles.Fault roles.Fault e = refl
role_is a b e = absurd (cc)

each_is : (a b : Each) → same_each a b ≡ true → a ≡ b
unfolding same_each
each_is a b h =
    let parts = and_parts (same_piece a.kind b.kind) (same_role a.role b.role) h in
    let kind = piece_is a.kind b.kind parts.0 in
    let role = role_is a.role b.role parts.1 in
    ap (λ z. built z a.role) kind ∙ ap (built b.kind) role
  where
    built : Piece → Role → Each
    built kind role = record { kind = kind; role = role }

-- what is read of a list beyond its end
abbrev pub none : Each
none = record { kind = pieces.Line; role = roles.Out }

-- ---- one item more

-- the items that stand first among those before a place, as they are listed
abbrev pub once_before : List Each → ℕ → List Each
once_before items i = map (λ at. at.1) (filter (is_first items) (take i (enumerate_from 0 items)))

-- what was listed has just the items before a place
abbrev pub HasJust : List Each → List Each → Type 0
HasJust listed items = (item : Each) → has_item listed item ≡ has_item items item

module _ (items listed : List Each) (i : ℕ) (item : Each) (lt : i < length items) (at : slice_get items i ≡ Some item) (just : HasJust listed (take i items)) where
  more_items : take (i + 1) items ≡ take i items ++ item ∷ []
  more_items = let more : i + 1 ≡ suc i = omega arith in ap (λ z. take z items) more ∙ take_got items i item at

  has_more : (other : Each) → has_item (take (i + 1) items) other ≡ has_item (take i items) other || same_each other item
  unfolding has_item
  has_more other =
      ap (list_any (same_each other)) more_items ∙ list_any-append (same_each other) (take i items) (item ∷ [])
      ∙ ap (λ z. list_any (same_each other) (take i items) || z) (or_false (same_each other item))

  pub just_more : (new : List Each) → new ≡ listed ++ item ∷ [] → HasJust new (take (i + 1) items)
  unfolding has_item
  just_more new is other =
      ap (list_any (same_each other)) is ∙ list_any-append (same_each other) listed (item ∷ []) ∙ ap (λ z. list_any (same_each other) listed || z) (or_false (same_each other item))
      ∙ ap (λ z. z || same_each other item) (just other) ∙ sym (has_more other)

  pub just_again : has_item listed item ≡ true → HasJust listed (take (i + 1) items)
  just_again there other = just other ∙ by (same_each other item) refl ∙ sym (has_more other)
    where
      by : (t : Bool) → same_each other item ≡ t → has_item (take i items) other ≡ has_item (take i items) other || t
      by false e = sym (or_false (has_item (take i items) other))
      by true e =
          let same = each_is other item e in
          let was : has_item (take i items) other ≡ true = ap (has_item (take i items)) same ∙ sym (just item) ∙ there in
          was ∙ sym (ap (λ z. z || true) was)

  enumerated : slice_get (enumerate_from 0 items) i ≡ Some (i, item)
  enumerated = let none : 0 + i ≡ i = omega arith in numbered items 0 i item at ∙ ap (λ (z : ℕ). Some (z, item)) none
    where
      numbered : (xs : List Each) (low k : ℕ) (x : Each) → slice_get xs k ≡ Some x → slice_get (enumerate_from low xs) k ≡ Some (low + k, x)
      numbered [] low k x e = cc
      numbered (y ∷ ys) low zero x e = let same : y ≡ x = cc in let none : low + 0 ≡ low = omega arith in rw (same, none) refl
      numbered (y ∷ ys) low (suc k) x e = let moved : low + suc k ≡ (low + 1) + k = omega arith in numbered ys (low + 1) k x e ∙ ap (λ (z : ℕ). Some (z, x)) (sym moved)

  pub once_more : (new : List Each) → has_item listed item ≡ false → listed ≡ once_before items i → new ≡ listed ++ item ∷ [] → new ≡ once_before items (i + 1)
  once_more new gone was is =
      passed_more (λ (at : ℕ × Each). at.1) (is_first items) (enumerate_from 0 items) i (i, item) enumerated [] listed new (ap not (sym (just item) ∙ gone)) was is

  pub once_again : has_item listed item ≡ true → listed ≡ once_before items i → listed ≡ once_before items (i + 1)
  once_again there was =
      passed_left (λ (at : ℕ × Each). at.1) (is_first items) (enumerate_from 0 items) i (i, item) enumerated [] listed (ap not (sym (just item) ∙ there)) was

pub once_all : (items listed : List Each) (i : ℕ) → length items ≤ i → listed ≡ once_before items i → listed ≡ distinct items
unfolding distinct
once_all items listed i most is = is ∙ ap (λ z. map (λ (at : ℕ × Each). at.1) (filter (is_first items) z)) (take_all i (enumerate_from 0 items) (let long = length-enumerate_from 0 items in omega (arith, most, long)))

-- ---- how many they make

pub counted_more : (net : Network) (items : List Each) (i : ℕ) (item : Each) → slice_get items i ≡ Some item
    → length (flat_map (made_by net) (take i items)) + length (pieces_of net item.kind) ≡ length (flat_map (made_by net) (take (i + 1) items))
unfolding made_by
counted_more net items i item at =
    let next_take : i + 1 ≡ suc i = omega arith in
    let all = ap (flat_map (made_by net)) (ap (λ z. take z items) next_take ∙ take_got items i item at) ∙ flat_map-append (made_by net) (take i items) (item ∷ [])
    ∙ ap (λ z. flat_map (made_by net) (take i items) ++ z) (append-nil (made_by net item)) in
    let long = ap length all ∙ length-append (flat_map (made_by net) (take i items)) (made_by net item) in
    let own = length_map (made_of item.role) (pieces_of net item.kind) in
    omega (arith, long, own)
