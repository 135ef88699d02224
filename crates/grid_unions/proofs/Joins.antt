-- Pairs that are joined one after the other.
use Rattle.std.proofs.Common.{◌≡◌, refl, sym, ap, ◌∙◌, ℕ, ◌+◌, ◌-◌, ◌<◌, Bool, true, false, cond, List, [], ◌∷◌, ◌++◌, length, get_or, map, filter, take, drop, reverse, arith, append_assoc, length-append}
use Rattle.std.proofs.lemmas.List.{reverse-append, map-append, append-nil}
use Rattle.std.proofs.Math.Seq.{drop-append_seam}
use Rattle.std.proofs.lemmas.List.Elements.{filter_more}
use Rattle.grid_graph.specs.Graph.{graph}
use Rattle.grid_unions.specs.Unions.{with_newest}
use Rattle.grid_unions.specs.Summed.{Weighted, weighted}
use Rattle.grid_unions.specs.Sweep.{pair_at}
use Rattle.grid_unions.specs.Halves.{with_joined}

one_more : (classes : Weighted) (pairs : List (ℕ × ℕ)) (pair : ℕ × ℕ)
    → with_joined classes (pairs ++ pair ∷ []) ≡ weighted (with_newest (with_joined classes pairs).net pair.0 pair.1) classes.weights
one_more classes pairs pair = ap (λ ps. weighted (graph classes.net.nodes (ps ++ classes.net.pairs)) classes.weights) (reverse-append pairs (pair ∷ []))

-- a pair that was joined after others
pub joined_more : (old before after : Weighted) (pairs : List (ℕ × ℕ)) (pair : ℕ × ℕ) → before ≡ with_joined old pairs
    → after ≡ weighted (with_newest before.net pair.0 pair.1) before.weights → after ≡ with_joined old (pairs ++ pair ∷ [])
joined_more old before after pairs pair h k =
    k ∙ ap (λ (w : Weighted). weighted (with_newest w.net pair.0 pair.1) w.weights) h ∙ sym (one_more old pairs pair)

filter_one : (p : ℕ → Bool) (places : List ℕ) (i place : ℕ) (b : Bool) → i < length places → get_or places i 0 ≡ place → p place ≡ b
    → filter p (take (i + 1) places) ≡ filter p (take i places) ++ cond b (place ∷ []) []
filter_one p places i place b lt at is =
    filter_more p places i 0 lt
    ∙ ap (λ x. filter p (take i places) ++ cond (p x) (x ∷ []) []) at
    ∙ ap (λ t. filter p (take i places) ++ cond t (place ∷ []) []) is

-- a place that is put last, and one that is not
pub put_more : (p : ℕ → Bool) (places before after : List ℕ) (i place : ℕ) → i < length places → get_or places i 0 ≡ place → p place ≡ true
    → before ≡ filter p (take i places) → after ≡ before ++ place ∷ [] → after ≡ filter p (take (i + 1) places)
put_more p places before after i place lt at is h k = k ∙ ap (λ xs. xs ++ place ∷ []) h ∙ sym (filter_one p places i place true lt at is)

pub passed_more : (p : ℕ → Bool) (places before : List ℕ) (i place : ℕ) → i < length places → get_or places i 0 ≡ place → p place ≡ false
    → before ≡ filter p (take i places) → before ≡ filter p (take (i + 1) places)
passed_more p places before i place lt at is h =
    h ∙ sym (append-nil (filter p (take i places))) ∙ sym (filter_one p places i place false lt at is)

-- the same of the pairs at places
pub joined_at : (p : ℕ → Bool) (common : List (ℕ × ℕ)) (places : List ℕ) (old before after : Weighted) (i place : ℕ) → i < length places → get_or places i 0 ≡ place → p place ≡ true
    → before ≡ with_joined old (map (pair_at common) (filter p (take i places)))
    → after ≡ weighted (with_newest before.net (pair_at common place).0 (pair_at common place).1) before.weights
    → after ≡ with_joined old (map (pair_at common) (filter p (take (i + 1) places)))
joined_at p common places old before after i place lt at is h k =
    joined_more old before after (map (pair_at common) (filter p (take i places))) (pair_at common place) h k
    ∙ ap (with_joined old) (sym (map-append (pair_at common) (filter p (take i places)) (place ∷ [])) ∙ ap (map (pair_at common)) (sym (filter_one p places i place true lt at is)))

pub passed_at : (p : ℕ → Bool) (common : List (ℕ × ℕ)) (places : List ℕ) (old before : Weighted) (i place : ℕ) → i < length places → get_or places i 0 ≡ place → p place ≡ false
    → before ≡ with_joined old (map (pair_at common) (filter p (take i places)))
    → before ≡ with_joined old (map (pair_at common) (filter p (take (i + 1) places)))
passed_at p common places old before i place lt at is h =
    h ∙ ap (λ xs. with_joined old (map (pair_at common) xs)) (passed_more p places (filter p (take i places)) i place lt at is refl)

-- ---- taken back

-- pairs that were joined last are taken back
pub taken_back : (before now : Weighted) (last : List (ℕ × ℕ)) (mark : ℕ) → now ≡ weighted (graph before.net.nodes (last ++ before.net.pairs)) before.weights → mark ≡ length before.net.pairs
    → weighted (graph now.net.nodes (drop (length now.net.pairs - mark) now.net.pairs)) now.weights ≡ before
taken_back before now last mark e f =
    let P : ℕ → Weighted → Weighted = λ n w. weighted (graph w.net.nodes (drop (length w.net.pairs - n) w.net.pairs)) w.weights in
    let some : length (last ++ before.net.pairs) - length before.net.pairs ≡ length last = omega (arith, length-append last before.net.pairs) in
    ap (P mark) e
    ∙ ap (λ n. P n (weighted (graph before.net.nodes (last ++ before.net.pairs)) before.weights)) f
    ∙ ap (λ n. weighted (graph before.net.nodes (drop n (last ++ before.net.pairs))) before.weights) some
    ∙ ap (λ ps. weighted (graph before.net.nodes ps) before.weights) (drop-append_seam last before.net.pairs)

pub one_taken : (before now : Weighted) (pairs : List (ℕ × ℕ)) (mark : ℕ) → now ≡ with_joined before pairs → mark ≡ length before.net.pairs
    → weighted (graph now.net.nodes (drop (length now.net.pairs - mark) now.net.pairs)) now.weights ≡ before
one_taken before now pairs mark e f = taken_back before now (reverse pairs) mark e f

pub two_taken : (before between now : Weighted) (pairs own : List (ℕ × ℕ)) (mark : ℕ) → between ≡ with_joined before pairs → now ≡ with_joined between own → mark ≡ length before.net.pairs
    → weighted (graph now.net.nodes (drop (length now.net.pairs - mark) now.net.pairs)) now.weights ≡ before
two_taken before between now pairs own mark e g f =
    taken_back before now (reverse own ++ reverse pairs) mark
    (g ∙ ap (λ w. with_joined w own) e ∙ ap (λ ps. weighted (graph before.net.nodes ps) before.weights) (sym (append_assoc (reverse own) (reverse pairs) before.net.pairs))) f
