-- Chunks, one after the other.
use Rattle.std.proofs.Common.{◌≡◌, refl, sym, ap, ◌∙◌, ℕ, zero, suc, ◌+◌, ◌-◌, ◌*◌, ◌<◌, ◌≤◌, min, List, [], ◌∷◌, ◌++◌, length, arith, take, set, get_or}
use Rattle.std.proofs.Math.Nat.{mul-le-mul_left}
use Rattle.std.proofs.lemmas.List.{length-append, append_assoc, append-nil, set-append_left, set-append_right, take_more}
use Rattle.std.proofs.lemmas.List.Concat.{flat_map-append}
use Rattle.grid_states.specs.Chunked.{joined, AreChunked}

-- an item set in its chunk is set in the list
pub joined-set : {X : Type 0} (chunks : List (List X)) (i j : ℕ) (x : X) → i < length chunks → j < length (get_or chunks i [])
    → joined (set chunks i (set (get_or chunks i []) j x)) ≡ set (joined chunks) (length (joined (take i chunks)) + j) x
joined-set [] i j x i_below j_below = absurd (omega arith)
joined-set (c ∷ chunks) zero j x i_below j_below =
    let same : 0 + j ≡ j = omega arith in
    rw same (sym (set-append_left c (joined chunks) j x j_below))
joined-set (c ∷ chunks) (suc i) j x i_below j_below =
    let again = joined-set chunks i j x (omega arith) j_below in
    let long = length-append c (joined (take i chunks)) in
    let at : ℕ = length (c ++ joined (take i chunks)) + j in
    let rest : at - length c ≡ length (joined (take i chunks)) + j = omega arith in
    ap (λ r. c ++ r) again
    ∙ ap (λ n. c ++ set (joined chunks) n x) (sym rest)
    ∙ sym (set-append_right c (joined chunks) (length c) at x refl (omega arith))

-- an item put last in the last chunk is last in the list
pub joined-grown : {X : Type 0} (chunks : List (List X)) (i : ℕ) (x : X) → i + 1 ≡ length chunks
    → joined (set chunks i (get_or chunks i [] ++ x ∷ [])) ≡ joined chunks ++ x ∷ []
joined-grown [] i x last = absurd (omega arith)
joined-grown (c ∷ []) zero x last = append-nil (c ++ x ∷ []) ∙ ap (λ r. r ++ x ∷ []) (sym (append-nil c))
joined-grown (c ∷ d ∷ chunks) zero x last = absurd (omega arith)
joined-grown (c ∷ chunks) (suc i) x last =
    ap (λ r. c ++ r) (joined-grown chunks i x (omega arith)) ∙ sym (append_assoc c (joined chunks) (x ∷ []))

-- the chunks before one have the size
pub joined-before : {X : Type 0} (size : ℕ) (chunks : List (List X)) (count : ℕ) → AreChunked size chunks count
    → (k : ℕ) → k < length chunks → length (joined (take k chunks)) ≡ size * k
joined-before size chunks count are zero below = omega arith
joined-before {X} size chunks count are (suc k) below =
    let again : length (joined (take k chunks)) ≡ size * k = joined-before size chunks count are k (omega arith) in
    let one : suc k ≡ k + 1 = omega arith in
    let chunk : List X = get_or chunks k [] in
    let large : length chunk ≡ min size (count - size * k) = are.sizes k (omega arith) in
    let filled = are.filled in
    let two_more : size * (k + 2) ≤ size * length chunks = mul-le-mul_left size (omega arith) in
    let more : length (joined (take (k + 1) chunks)) ≡ length (joined (take k chunks)) + length (chunk ++ []) =
    ap (λ cs. length (joined cs)) (take_more chunks k [] (omega arith))
    ∙ ap length (flat_map-append (λ c. c) (take k chunks) (chunk ∷ []))
    ∙ length-append (joined (take k chunks)) (chunk ++ []) in
    let alone = length-append chunk [] in
    rw one (omega arith)
