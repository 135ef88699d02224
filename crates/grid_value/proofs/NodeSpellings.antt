-- What nodes spell, a value at a time.
use Rattle.std.proofs.Common.{◌≡◌, ℕ, zero, suc, ◌≤◌, ◌+◌, min, List, [], ◌∷◌, ◌++◌, length, take, drop, reverse, refl, sym, ap, ap₂, ◌∙◌, arith, append_assoc, length-append}
use Rattle.std.proofs.lemmas.List.{length-take, length-drop, length-reverse, take_at, drop_at, take_min, drop_min, append-nil, reverse-append, reverse-reverse}
use Rattle.serde_json.specs.Data.{array, object, item, Items, no_items, no_members}
use Rattle.grid_value.specs.declared.node.Node.{Node}
use Rattle.grid_value.specs.declared.node.Node.TheVariants as nodes
use Rattle.grid_value.specs.declared.value.Value.{Value}
use Rattle.grid_value.specs.View.{First, view, Spelling, inside, before, name_of, data_by, data_of, data_at, value_by, items_by, back_by, spelling, items_of, listed_of, put_each}

-- ---- the bound on the turns does not matter

same_data : (s t : Spelling) (n : Node) (body : List Node) → s.0 body ≡ t.0 body → s.1 body ≡ t.1 body → data_by s n body ≡ data_by t n body
same_data s t nodes.Null body is ms = refl
same_data s t (nodes.Bool b) body is ms = refl
same_data s t (nodes.Number x) body is ms = refl
same_data s t (nodes.Text x) body is ms = refl
same_data s t (nodes.Array n) body is ms = ap array is
same_data s t (nodes.Object n) body is ms = ap (λ all. object (put_each all no_members)) ms
same_data s t (nodes.Name count x) body is ms = refl

abbrev Same : ℕ → ℕ → List Node → Type 0
unfolding spelling
Same a b ns = ((spelling a).0 ns ≡ (spelling b).0 ns) × ((spelling a).1 ns ≡ (spelling b).1 ns)

enough_taken : (i a : ℕ) (ns : List Node) → length ns ≤ a → length (take i ns) ≤ a
enough_taken i a ns le = omega (arith, length-take i ns)

enough_left : (i a : ℕ) (ns : List Node) → length ns ≤ a → length (drop i ns) ≤ a
enough_left i a ns le = omega (arith, length-drop i ns)

abbrev Agree : ℕ → ℕ → Type 0
Agree a b = (ns : List Node) → length ns ≤ a → length ns ≤ b → Same a b ns

same_value : (a b : ℕ) → Agree a b → (ns : List Node) → length ns ≤ a → length ns ≤ b → value_by (spelling a) ns ≡ value_by (spelling b) ns
unfolding Same
same_value a b agree [] p q = refl
same_value a b agree (n ∷ ns) p q =
    let inner = agree ns (omega (arith, p)) (omega (arith, q)) in
    same_data (spelling a) (spelling b) n ns inner.0 inner.1

same_items : (a b : ℕ) → Agree a b → (ns : List Node) → length ns ≤ suc a → length ns ≤ suc b → items_by (spelling a) ns ≡ items_by (spelling b) ns
unfolding Same
same_items a b agree [] p q = refl
same_items a b agree (n ∷ ns) p q =
    let value = agree (take (inside n) ns) (enough_taken (inside n) a ns (omega (arith, p))) (enough_taken (inside n) b ns (omega (arith, q))) in
    let rest = agree (drop (inside n) ns) (enough_left (inside n) a ns (omega (arith, p))) (enough_left (inside n) b ns (omega (arith, q))) in
    ap₂ item (same_data (spelling a) (spelling b) n (take (inside n) ns) value.0 value.1) rest.0

turned : (a : ℕ) (ns : List Node) → length ns ≤ a → length (reverse ns) ≤ a
turned a ns le = omega (arith, length-reverse ns)

same_back : (a b : ℕ) → Agree a b → (ns : List Node) → length ns ≤ suc a → length ns ≤ suc b → back_by (spelling a) ns ≡ back_by (spelling b) ns
unfolding Same
same_back a b agree [] p q = refl
same_back a b agree (k ∷ ns) p q =
    let part = take (before k) ns in
    let left = drop (before k) ns in
    let value = same_value a b agree (reverse part) (turned a part (enough_taken (before k) a ns (omega (arith, p)))) (turned b part (enough_taken (before k) b ns (omega (arith, q)))) in
    let rest = agree (reverse left) (turned a left (enough_left (before k) a ns (omega (arith, p)))) (turned b left (enough_left (before k) b ns (omega (arith, q)))) in
    ap₂ (λ ms d. ms ++ (name_of k, d) ∷ []) rest.1 value

same : (a b : ℕ) → Agree a b
unfolding Same spelling
same zero zero ns p q = (refl, refl)
same zero (suc b) [] p q = (refl, refl)
same zero (suc b) (n ∷ ns) p q = absurd (omega (arith, p))
same (suc a) zero [] p q = (refl, refl)
same (suc a) zero (n ∷ ns) p q = absurd (omega (arith, q))
same (suc a) (suc b) ns p q = (same_items a b (same a b) ns p q, same_back a b (same a b) (reverse ns) (turned (suc a) ns p) (turned (suc b) ns q))

-- ---- one value, and what follows it

pub items_first : (n : Node) (ns : List Node) → items_of (n ∷ ns) ≡ item (data_of n (take (inside n) ns)) (items_of (drop (inside n) ns))
unfolding items_of listed_of spelling
items_first n ns =
    let body = take (inside n) ns in
    let value = same (length ns) (length body) body (enough_taken (inside n) (length ns) ns (omega arith)) (omega arith) in
    let behind = drop (inside n) ns in
    let rest = same (length ns) (length behind) behind (enough_left (inside n) (length ns) ns (omega arith)) (omega arith) in
    ap₂ item (same_data (spelling (length ns)) (items_of, listed_of) n body value.0 value.1) rest.0

-- with enough turns, nodes from the back spell what they spell in their order
back_first : (a : ℕ) (k : Node) (ns : List Node) → length ns ≤ a
    → back_by (spelling a) (k ∷ ns) ≡ listed_of (reverse (drop (before k) ns)) ++ (name_of k, data_at (reverse (take (before k) ns))) ∷ []
unfolding Same items_of listed_of spelling
back_first a k ns enough =
    let part = reverse (take (before k) ns) in
    let left = reverse (drop (before k) ns) in
    let rest = same a (length left) left (turned a (drop (before k) ns) (enough_left (before k) a ns enough)) (omega arith) in
    ap₂ (λ ms d. ms ++ (name_of k, d) ∷ []) rest.1 (value a part (turned a (take (before k) ns) (enough_taken (before k) a ns enough)))
  where
    value : (a : ℕ) (ns : List Node) → length ns ≤ a → value_by (spelling a) ns ≡ data_at ns
    value a [] le = refl
    value a (n ∷ ns) le =
        let inner = same a (length ns) ns (omega (arith, le)) (omega arith) in
        same_data (spelling a) (items_of, listed_of) n ns inner.0 inner.1

-- nodes that end with a name
listed_last : (k : Node) (ns : List Node) → listed_of (ns ++ k ∷ []) ≡ listed_of (reverse (drop (before k) (reverse ns))) ++ (name_of k, data_at (reverse (take (before k) (reverse ns)))) ∷ []
unfolding listed_of spelling
listed_last k ns =
    let long : length (ns ++ k ∷ []) ≡ suc (length ns) = omega (arith, length-append ns (k ∷ [])) in
    ap (λ turns. (spelling turns).1 (ns ++ k ∷ [])) long ∙ ap (back_by (spelling (length ns))) (reverse-append ns (k ∷ []))
    ∙ back_first (length ns) k (reverse ns) (turned (length ns) ns (omega arith))

-- the nodes of a value between those before it and its name
pub listed_cut : (front part : List Node) (k : Node) → length part ≡ min (before k) (length front + length part) → listed_of (front ++ (part ++ k ∷ [])) ≡ listed_of front ++ (name_of k, data_at part) ∷ []
listed_cut front part k whole =
    let all = reverse part ++ reverse front in
    let turn : reverse (front ++ part) ≡ all = reverse-append front part in
    let long : length all ≡ length front + length part = omega (arith, length-append (reverse part) (reverse front), length-reverse part, length-reverse front) in
    let here : length (reverse part) ≡ min (before k) (length all) = length-reverse part ∙ whole ∙ ap (min (before k)) (sym long) in
    let one : take (before k) all ≡ reverse part = sym (take_min (before k) all) ∙ take_at (reverse part) (reverse front) (min (before k) (length all)) here in
    let left : drop (before k) all ≡ reverse front = sym (drop_min (before k) all) ∙ drop_at (reverse part) (reverse front) (min (before k) (length all)) here in
    ap listed_of (sym (append_assoc front part (k ∷ []))) ∙ listed_last k (front ++ part)
    ∙ ap (λ ns. listed_of (reverse (drop (before k) ns)) ++ (name_of k, data_at (reverse (take (before k) ns))) ∷ []) turn
    ∙ ap₂ (λ ns ms. listed_of (reverse ns) ++ (name_of k, data_at (reverse ms)) ∷ []) left one
    ∙ ap₂ (λ ns ms. listed_of ns ++ (name_of k, data_at ms) ∷ []) (reverse-reverse front) (reverse-reverse part)

-- ---- a value that was appended

pub items_at_front : (n : Node) (body rest : List Node) → inside n ≡ length body → items_of (n ∷ (body ++ rest)) ≡ item (data_of n body) (items_of rest)
items_at_front n body rest whole =
    items_first n (body ++ rest)
    ∙ ap₂ (λ ns ms. item (data_of n ns) (items_of ms)) (take_at body rest (inside n) (sym whole)) (drop_at body rest (inside n) (sym whole))

-- ---- values that were appended one after the other

abbrev pub SpellsItems : List Node → (Items → Items) → Type 0
SpellsItems body front = (rest : List Node) → items_of (body ++ rest) ≡ front (items_of rest)

pub one_more_item : (body part : List Node) (front : Items → Items) (n : Node) → inside n ≡ length part → SpellsItems body front → SpellsItems (body ++ n ∷ part) (λ ds. front (item (data_of n part) ds))
one_more_item body part front n whole spelled rest =
    ap items_of (append_assoc body (n ∷ part) rest) ∙ spelled (n ∷ (part ++ rest)) ∙ ap front (items_at_front n part rest whole)

pub all_items : (body : List Node) (front : Items → Items) → SpellsItems body front → front no_items ≡ items_of body
unfolding items_of
all_items body front spelled = sym (spelled []) ∙ ap items_of (append-nil body)

pub one_more_member : (body part : List Node) (k n : Node) → before k ≡ suc (length part) → listed_of (body ++ (n ∷ part ++ k ∷ [])) ≡ listed_of body ++ (name_of k, data_of n part) ∷ []
one_more_member body part k n whole = listed_cut body (n ∷ part) k (omega (arith, whole))

-- ---- one value after the other

pub items_end : (ns : List Node) → ns ≡ [] → items_of ns ≡ no_items
unfolding items_of
items_end ns none = ap items_of none

pub items_next : (ns : List Node) (v : Value) (rest : List Node) → First ns v rest → items_of ns ≡ item (view v) (items_of rest)
items_next [] v rest cut = absurd cut
items_next (n ∷ ns) v rest cut = items_first n ns ∙ ap₂ item (ap₂ data_of (sym cut.0) (sym cut.1)) (ap items_of (sym cut.2))

pub listed_end : (ns : List Node) → ns ≡ [] → listed_of ns ≡ []
unfolding listed_of
listed_end ns none = ap listed_of none
