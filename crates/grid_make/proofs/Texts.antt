-- The texts that are made ids are ids.
use Rattle.std.proofs.Common.{◌≡◌, refl, ◌∙◌, ℕ, ◌+◌, ◌^◌, ◌<◌, ◌≤◌, true, List, [], ◌∷◌, ◌++◌, length, arith, None}
use Rattle.std.specs.Prelude.{decimal, find, nat_le}
use Rattle.std.specs.List.{list_all}
use Rattle.std.proofs.lemmas.Bool.{and_parts, and_from, leb-true, le-leb, le-ltb, ne_eqb, not-true}
use Rattle.std.proofs.lemmas.Fmt.{decimal_nonempty, length-decimal-le}
use Rattle.std.proofs.lemmas.List.{length-append}
use Rattle.std.proofs.lemmas.List.Folds.{list_all-append}
use Rattle.grid_ids.specs.Fault.{is_control, id_fault}
use Rattle.grid_make.specs.Pieces.{is_visible, is_piece}
use Rattle.grid_make.proofs.IdNumbers.{decimal_all}

no_control : (text : List ℕ) → list_all is_visible text ≡ true → find is_control text ≡ None
no_control [] h = refl
no_control (b ∷ text) h = let parts = and_parts (is_visible b) (list_all is_visible text) h in rw (not-true (is_control b) parts.0) (no_control text parts.1)

is_id : (text : List ℕ) → 0 < length text → length text ≤ 128 → list_all is_visible text ≡ true → id_fault text ≡ None
is_id text some few h = rw (ne_eqb (length text) 0 (λ e. omega (arith, e, some)), le-ltb 128 (length text) few, no_control text h) refl

digit_visible : (d : ℕ) → d < 10 → is_visible (48 + d) ≡ true
digit_visible d l = rw (le-ltb (48 + d) 32 (omega (arith, l)), ne_eqb (48 + d) 127 (λ e. omega (arith, e, l))) refl

record Piece (most : ℕ) (text : List ℕ) : Type 0 where
  few : length text ≤ most
  visible : list_all is_visible text ≡ true

piece : (most : ℕ) (text : List ℕ) → is_piece most text ≡ true → Piece most text
piece most text h = let parts = and_parts (nat_le (length text) most) (list_all is_visible text) h in record { few = leb-true (length text) most parts.0; visible = parts.1 }

number : (n : ℕ) → n < 2 ^ 32 → Piece 10 (decimal n)
number n small = record { few = length-decimal-le 10 n (omega arith) (omega (arith, small)) (omega (arith, small)); visible = decimal_all is_visible digit_visible n (omega (arith, small)) }

joined : (a b : ℕ) (xs ys : List ℕ) → Piece a xs → Piece b ys → Piece (a + b) (xs ++ ys)
joined a b xs ys p q = record { few = omega (arith, length-append xs ys, p.few, q.few); visible = list_all-append is_visible xs ys ∙ and_from _ _ p.visible q.visible }

-- two pieces round a number
pub number_is_id : (front back : List ℕ) (n : ℕ) → n < 2 ^ 32 → is_piece 16 front ≡ true → is_piece 40 back ≡ true → id_fault (front ++ decimal n ++ back) ≡ None
number_is_id front back n small f b =
    let whole = joined 26 40 (front ++ decimal n) back (joined 16 10 front (decimal n) (piece 16 front f) (number n small)) (piece 40 back b) in
    is_id (front ++ decimal n ++ back) (omega (arith, decimal_nonempty n (omega (arith, small)), length-append front (decimal n), length-append (front ++ decimal n) back)) (omega (arith, whole.few)) whole.visible

pub number_ends_id : (front : List ℕ) (n : ℕ) → n < 2 ^ 32 → is_piece 16 front ≡ true → id_fault (front ++ decimal n) ≡ None
number_ends_id front n small f =
    let whole = joined 16 10 front (decimal n) (piece 16 front f) (number n small) in
    is_id (front ++ decimal n) (omega (arith, decimal_nonempty n (omega (arith, small)), length-append front (decimal n))) (omega (arith, whole.few)) whole.visible

-- and they are a longer piece
pub number_is_piece : (front back : List ℕ) (n : ℕ) → n < 2 ^ 32 → is_piece 8 front ≡ true → is_piece 16 back ≡ true → is_piece 40 (front ++ decimal n ++ back) ≡ true
number_is_piece front back n small f b =
    let whole = joined 18 16 (front ++ decimal n) back (joined 8 10 front (decimal n) (piece 8 front f) (number n small)) (piece 16 back b) in
    and_from _ _ (le-leb (length (front ++ decimal n ++ back)) 40 (omega (arith, whole.few))) whole.visible

pub number_ends_piece : (front : List ℕ) (n : ℕ) → n < 2 ^ 32 → is_piece 8 front ≡ true → is_piece 40 (front ++ decimal n) ≡ true
number_ends_piece front n small f =
    let whole = joined 8 10 front (decimal n) (piece 8 front f) (number n small) in
    and_from _ _ (le-leb (length (front ++ decimal n)) 40 (omega (arith, whole.few))) whole.visible
