-- Where the items of a list stand in its chunks, and what a change of one chunk leaves.
use Rattle.std.proofs.Common.{◌≡◌, sym, ap, ◌∙◌, subst, ℕ, ◌+◌, ◌-◌, ◌*◌, ◌/◌, ◌%◌, ◌<◌, min, List, [], length, arith, take, set, get_or, Result, Ok, Err, OnOk, OnErr, inl, inr}
use Rattle.std.proofs.Math.Nat.{lt_of_mul-lt-mul_left}
use Rattle.std.proofs.lemmas.List.{length-set, get_or-set_same, get_or-set_other, get_or_read, set-get_or}
use Rattle.std.proofs.lemmas.List.Concat.{get_or-flat_map}
use Rattle.std.proofs.lemmas.Bool.{cases_eq}
use Rattle.grid_states.specs.Chunked.{joined, AreChunked}
use Rattle.grid_states.proofs.ChunkJoins.{joined-set, joined-before}

-- the chunk of a place, and the place in it
pub record IsPlace {X : Type 0} (size : ℕ) (chunks : List (List X)) (count place : ℕ) (chunk : List X) : Type 0 where
  pub chunks_are : AreChunked size chunks count
  pub some : 0 < size
  pub below : place < count
  pub chunk_is : chunk ≡ get_or chunks (place / size) chunk

-- of a place below the length of what is seen
pub place_in : {X : Type 0} (size : ℕ) (chunks : List (List X)) (count place : ℕ) (chunk now : List X) → 0 < size → AreChunked size chunks count
    → joined chunks ≡ now → place < length now → chunk ≡ get_or chunks (place / size) chunk → IsPlace size chunks count place chunk
place_in size chunks count place chunk now some are seen within read =
    record { chunks_are = are; some = some; below = omega (arith, are.total, ap length seen); chunk_is = read }

module _ {X : Type 0} {size : ℕ} {chunks : List (List X)} {count place : ℕ} {chunk : List X} (is : IsPlace size chunks count place chunk) where
  pub chunk_below : place / size < length chunks
  chunk_below =
      let some = is.some in
      let room = is.chunks_are.room in
      let below = is.below in
      lt_of_mul-lt-mul_left size (omega arith)

  pub the_chunk : chunk ≡ get_or chunks (place / size) []
  the_chunk = get_or_read chunks (place / size) chunk chunk_below is.chunk_is []

  pub item_below : place % size < length (get_or chunks (place / size) [])
  item_below = let some = is.some in omega (arith, is.below, is.chunks_are.sizes (place / size) chunk_below)

  pub placed : length (joined (take (place / size) chunks)) + place % size ≡ place
  placed = let some = is.some in omega (arith, joined-before size chunks count is.chunks_are (place / size) chunk_below)

  -- the item there
  pub item_at : (x : X) → x ≡ get_or chunk (place % size) x → x ≡ get_or (joined chunks) place x
  item_at x read =
      read ∙ ap (λ c. get_or c (place % size) x) the_chunk
      ∙ sym (get_or-flat_map (λ c. c) chunks (place / size) (place % size) [] x chunk_below item_below)
      ∙ ap (λ n. get_or (joined chunks) n x) placed

  -- another item there
  pub item_set : (x : X) → joined (set chunks (place / size) (set chunk (place % size) x)) ≡ set (joined chunks) place x
  item_set x =
      ap (λ c. joined (set chunks (place / size) (set c (place % size) x))) the_chunk
      ∙ joined-set chunks (place / size) (place % size) x chunk_below item_below
      ∙ ap (λ n. set (joined chunks) n x) placed

  -- the chunk itself put there
  pub chunk_kept : set chunks (place / size) chunk ≡ chunks
  chunk_kept = ap (λ c. set chunks (place / size) c) the_chunk ∙ set-get_or chunks (place / size) []

  pub left_kept : AreChunked size (set chunks (place / size) chunk) count
  left_kept = subst (λ cs. AreChunked size cs count) (sym chunk_kept) is.chunks_are

  sizes_kept : (x : X) (k : ℕ) → k < length (set chunks (place / size) (set chunk (place % size) x))
      → length (get_or (set chunks (place / size) (set chunk (place % size) x)) k []) ≡ min size (count - size * k)
  sizes_kept x k k_below =
      let new : List X = set chunk (place % size) x in
      let long = length-set chunks (place / size) new in
      let large : length (get_or chunks k []) ≡ min size (count - size * k) = is.chunks_are.sizes k (omega arith) in
      elim (cases_eq k (place / size)) [
        | inl here ↦
            let at : get_or (set chunks (place / size) new) k [] ≡ new = ap (λ n. get_or (set chunks (place / size) new) n []) here ∙ get_or-set_same chunks (place / size) new [] chunk_below in
            let was : get_or chunks k [] ≡ chunk = ap (λ n. get_or chunks n []) here ∙ sym the_chunk in
            ap length at ∙ length-set chunk (place % size) x ∙ ap length (sym was) ∙ large
        | inr other ↦ ap length (get_or-set_other chunks (place / size) k new [] other) ∙ large
      ]

  pub set_kept : (x : X) → AreChunked size (set chunks (place / size) (set chunk (place % size) x)) count
  set_kept x =
      let long = length-set chunks (place / size) (set chunk (place % size) x) in
      let product = ap (λ n. size * n) long in
      let room = is.chunks_are.room in
      let filled = is.chunks_are.filled in
      record {
        sizes = sizes_kept x;
        room = omega arith;
        filled = omega arith;
        total = ap length (item_set x) ∙ length-set (joined chunks) place x ∙ is.chunks_are.total;
      }

  -- after a try to set it
  pub kept : {T E : Type 0} (r : Result T E) (new : List X) (x : X) → OnOk r (new ≡ set chunk (place % size) x) → OnErr r (new ≡ chunk)
      → AreChunked size (set chunks (place / size) new) count
  kept (Ok done) new x ok err = subst (λ c. AreChunked size (set chunks (place / size) c) count) (sym ok) (set_kept x)
  kept (Err fault) new x ok err =
      subst (λ c. AreChunked size (set chunks (place / size) c) count) (sym err) left_kept

  pub set_if_ok : {T E : Type 0} (r : Result T E) (new : List X) (x : X) → OnOk r (new ≡ set chunk (place % size) x)
      → OnOk r (joined (set chunks (place / size) new) ≡ set (joined chunks) place x)
  set_if_ok (Ok done) new x ok = ap (λ c. joined (set chunks (place / size) c)) ok ∙ item_set x
  set_if_ok (Err fault) new x ok = ok
