-- The texts and the objects of a list's items, one more at a time.
use Rattle.std.proofs.Common.{◌≡◌, sym, ap, ◌∙◌, ℕ, zero, suc, ◌+◌, List, [], ◌∷◌, ◌++◌, take, add-one, append_assoc, append-nil, Some}
use Rattle.std.specs.Prelude.{slice_get, sum_by}
use Rattle.std.specs.List.{flat_map}
use Rattle.std.proofs.lemmas.List.Concat.{flat_map-append}
use Rattle.std.proofs.lemmas.List.Sums.{sum_by_more}
use Rattle.std.proofs.lemmas.Option.{get_or_from_slice_get, slice_get_within}
use Rattle.serde_json.specs.Data.{Data}
use Rattle.grid_print.specs.Job.{line_of}
use Rattle.grid_jsonl.specs.Outcomes.{lines}

-- one item put last
pub last_text : {X : Type 0} (f : X → List ℕ) (xs : List X) (x : X) → flat_map f (xs ++ x ∷ []) ≡ flat_map f xs ++ f x
last_text f xs x = flat_map-append f xs (x ∷ []) ∙ ap (λ t. flat_map f xs ++ t) (append-nil (f x))

more_text : {X Y : Type 0} (f : X → List Y) (xs : List X) (k : ℕ) (x : X) → slice_get xs k ≡ Some x → flat_map f (take (suc k) xs) ≡ flat_map f (take k xs) ++ f x
more_text f [] k x is = cc
more_text f (y ∷ xs) zero x is = let same : y ≡ x = cc in append-nil (f y) ∙ ap f same
more_text f (y ∷ xs) (suc k) x is = ap (λ t. f y ++ t) (more_text f xs k x is) ∙ sym (append_assoc (f y) (flat_map f (take k xs)) (f x))

-- the first so many items, and one more
pub next_text : {X Y : Type 0} (f : X → List Y) (xs : List X) (k : ℕ) (x : X) → slice_get xs k ≡ Some x → flat_map f (take (k + 1) xs) ≡ flat_map f (take k xs) ++ f x
next_text f xs k x is = rw (add-one k) (more_text f xs k x is)

-- the sum over the first so many items, and one more
pub next_sum : {X : Type 0} (f : X → ℕ) (xs : List X) (k : ℕ) (x : X) → slice_get xs k ≡ Some x → sum_by f (take (k + 1) xs) ≡ sum_by f (take k xs) + f x
next_sum f xs k x is = sum_by_more f xs k x (slice_get_within xs k x is) ∙ ap (λ y. sum_by f (take k xs) + f y) (get_or_from_slice_get xs k x x is)

-- ---- lines

-- the lines of the first so many items, and of one more
pub next_lines : {X : Type 0} (f : X → List Data) (xs : List X) (k : ℕ) (x : X) → slice_get xs k ≡ Some x → lines (flat_map f (take (k + 1) xs)) ≡ lines (flat_map f (take k xs)) ++ lines (f x)
next_lines f xs k x is = ap lines (next_text f xs k x is) ∙ flat_map-append line_of (flat_map f (take k xs)) (f x)

-- a first line, those behind it and a last one
pub lines_between : (first : Data) (objects : List Data) (last : Data) → (line_of first ++ lines objects) ++ line_of last ≡ lines (first ∷ (objects ++ last ∷ []))
lines_between first objects last =
    append_assoc (line_of first) (lines objects) (line_of last) ∙ ap (λ t. line_of first ++ t) (sym (last_text line_of objects last))
