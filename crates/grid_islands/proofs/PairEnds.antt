-- The parts of pairs whose ends are below a count.
use Rattle.std.proofs.Common.{◌≡◌, refl, sym, subst, ℕ, ◌+◌, ◌-◌, ◌<◌, List, [], ◌∷◌, ◌++◌, ap, ◌∙◌, take, drop, length, get_or, arith, length-append}
use Rattle.std.proofs.lemmas.List.{get_or_append_left, get_or-append_right, take-append-drop, take_more, append-nil}
use Rattle.std.specs.Prelude.{flat_map}
use Rattle.std.proofs.lemmas.Grind.{flat_map-append}
use Rattle.grid_graph.specs.Graph.{EndsBelow}

pub ends_front : (xs ys : List (ℕ × ℕ)) (count : ℕ) → EndsBelow (xs ++ ys) count → EndsBelow xs count
ends_front xs ys count all k d lt =
    let P : ℕ × ℕ → Type 0 = λ e. (e.0 < count) × (e.1 < count) in
    subst P (get_or_append_left xs ys d k lt) (all k d (omega (arith, lt, length-append xs ys)))

pub ends_back : (xs ys : List (ℕ × ℕ)) (count : ℕ) → EndsBelow (xs ++ ys) count → EndsBelow ys count
ends_back xs ys count all k d lt =
    let P : ℕ × ℕ → Type 0 = λ e. (e.0 < count) × (e.1 < count) in
    let Q : ℕ → Type 0 = λ n. P (get_or ys n d) in
    let at : (length xs + k) - length xs ≡ k = omega arith in
    subst Q at (subst P (get_or-append_right xs ys (length xs) (length xs + k) d refl (omega arith)) (all (length xs + k) d (omega (arith, lt, length-append xs ys))))

-- what is made of one item more
pub items_more : {X : Type 0} (f : X → List (ℕ × ℕ)) (xs : List X) (k : ℕ) (d : X) → k < length xs → flat_map f (take (k + 1) xs) ≡ flat_map f (take k xs) ++ f (get_or xs k d)
items_more f xs k d lt =
    ap (flat_map f) (take_more xs k d lt) ∙ flat_map-append f (take k xs) (get_or xs k d ∷ []) ∙ ap (λ z. flat_map f (take k xs) ++ z) (append-nil (f (get_or xs k d)))

-- the ends of the pairs of one item
pub ends_of : {X : Type 0} (f : X → List (ℕ × ℕ)) (xs : List X) (k count : ℕ) (d : X) → k < length xs → EndsBelow (flat_map f xs) count → EndsBelow (f (get_or xs k d)) count
ends_of f xs k count d lt all =
    let P : List (ℕ × ℕ) → Type 0 = λ ps. EndsBelow ps count in
    let parts : flat_map f xs ≡ flat_map f (take (k + 1) xs) ++ flat_map f (drop (k + 1) xs) = ap (flat_map f) (sym (take-append-drop (k + 1) xs)) ∙ flat_map-append f (take (k + 1) xs) (drop (k + 1) xs) in
    let upto = ends_front (flat_map f (take (k + 1) xs)) (flat_map f (drop (k + 1) xs)) count (subst P parts all) in
    ends_back (flat_map f (take k xs)) (f (get_or xs k d)) count (subst P (items_more f xs k d lt) upto)
