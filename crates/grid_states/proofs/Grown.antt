-- An item put last, in a chunk that has room or in a chunk of its own.
use Rattle.std.proofs.Common.{◌≡◌, sym, ap, ◌∙◌, subst, ℕ, ◌+◌, ◌-◌, ◌*◌, ◌/◌, ◌%◌, ◌<◌, ◌≤◌, min, List, [], ◌∷◌, ◌++◌, length, arith, set, get_or, inl, inr, Result, OnOk}
use Rattle.std.proofs.Math.Nat.{lt_of_mul-lt-mul_left, mul-le-mul_left}
use Rattle.std.proofs.lemmas.List.{length-set, length_push, get_or-set_same, get_or-set_other, get_or_read}
use Rattle.std.proofs.lemmas.Bool.{cases_eq, cases_lt}
use Rattle.std.proofs.lemmas.Result.{on_ok_weaker}
use Rattle.grid_states.specs.Chunked.{joined, AreChunked, IsGrown}
use Rattle.grid_states.proofs.ChunkJoins.{joined-grown}

total_grown : {X : Type 0} (chunks after : List (List X)) (count : ℕ) (x : X) → length (joined chunks) ≡ count
    → joined after ≡ joined chunks ++ x ∷ [] → length (joined after) ≡ count + 1
total_grown chunks after count x total items = ap length items ∙ length_push (joined chunks) x ∙ ap (λ n. n + 1) total

-- in the last chunk, where it has room
module _ {X : Type 0} (size : ℕ) (chunks : List (List X)) (count : ℕ) (x : X) (some : 0 < size) (are : AreChunked size chunks count) (room_left : ¬ (count % size ≡ 0))
    (chunk : List X) (read : chunk ≡ get_or chunks (count / size) chunk) where
  abbrev longer : List (List X)
  longer = set chunks (count / size) (chunk ++ x ∷ [])

  last : count / size + 1 ≡ length chunks
  last =
      let room = are.room in
      let filled = are.filled in
      let under : count / size < length chunks = lt_of_mul-lt-mul_left size (omega arith) in
      elim (cases_lt (count / size + 1) (length chunks)) [
        | inl less ↦ let two_more : size * (count / size + 2) ≤ size * length chunks = mul-le-mul_left size (omega arith) in absurd (omega arith)
        | inr least ↦ omega arith
      ]

  the_last : chunk ≡ get_or chunks (count / size) []
  the_last = get_or_read chunks (count / size) chunk (omega (arith, last)) read []

  longer_items : joined longer ≡ joined chunks ++ x ∷ []
  longer_items = ap (λ c. joined (set chunks (count / size) (c ++ x ∷ []))) the_last ∙ joined-grown chunks (count / size) x last

  longer_sizes : (k : ℕ) → k < length longer → length (get_or longer k []) ≡ min size (count + 1 - size * k)
  longer_sizes k k_below =
      let long = length-set chunks (count / size) (chunk ++ x ∷ []) in
      let at_end = last in
      let large : length (get_or chunks k []) ≡ min size (count - size * k) = are.sizes k (omega arith) in
      elim (cases_eq k (count / size)) [
        | inl here ↦
            let at : get_or longer k [] ≡ chunk ++ x ∷ [] =
            ap (λ n. get_or longer n []) here ∙ get_or-set_same chunks (count / size) (chunk ++ x ∷ []) [] (omega arith) in
            let was : length (get_or chunks k []) ≡ length chunk = ap length (ap (λ n. get_or chunks n []) here ∙ sym the_last) in
            let on : size * k ≡ size * (count / size) = ap (λ n. size * n) here in
            ap length at ∙ length_push chunk x ∙ omega arith
        | inr other ↦
            let whole : size * (k + 1) ≤ size * (count / size) = mul-le-mul_left size (omega arith) in
            ap length (get_or-set_other chunks (count / size) k (chunk ++ x ∷ []) [] other) ∙ omega arith
      ]

  pub grown_in_chunk : IsGrown size chunks longer count x
  grown_in_chunk =
      let long = length-set chunks (count / size) (chunk ++ x ∷ []) in
      let product = ap (λ n. size * n) long in
      let end : size * (count / size + 1) ≡ size * length chunks = ap (λ n. size * n) last in
      let room = are.room in
      let filled = are.filled in
      record {
        chunks_are = record {
          sizes = longer_sizes;
          room = omega arith;
          filled = omega arith;
          total = total_grown chunks longer count x are.total longer_items;
        };
        items = longer_items;
      }

  -- after a try to put it there
  pub grown_if_ok : {T E : Type 0} (r : Result T E) (new : List X) → OnOk r (new ≡ chunk ++ x ∷ [])
      → OnOk r (IsGrown size chunks (set chunks (count / size) new) count x)
  grown_if_ok r new ok =
      on_ok_weaker r (λ is. subst (λ c. IsGrown size chunks (set chunks (count / size) c) count x) (sym is) grown_in_chunk) ok
