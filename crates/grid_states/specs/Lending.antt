-- Items that are lent to be changed in place. Once such a loan ends, the list holds at the place what was left there, and
-- where memory runs out it is as before.
use Rattle.std.specs.Prelude.{ℕ, List, slice_set, Result}
use Rattle.std.specs.Borrow.{LendsIfOk, MutBor, Fml, RattleType}
use Rattle.grid_states.specs.contracts.chunk.Chunk as chunk
use Rattle.grid_states.specs.contracts.chunks.Chunks as chunks
use Rattle.grid_states.specs.contracts.page.Page as page
use Rattle.grid_states.specs.contracts.states.States as states
use Rattle.grid_states.specs.declared.page.Content.{Content}
use Rattle.grid_states.specs.Rows.{Rows, with_page}

module _ (T : RattleType) (s : MutBor (List T.Denot)) (place : ℕ) {E : Type 0} (r : Result (MutBor T.Denot) E) where
  abbrev pub chunk_lends : Fml
  chunk_lends = LendsIfOk (chunk.the_row T) T s r (slice_set s.now place) s.now

  abbrev pub chunks_lend : Fml
  chunks_lend = LendsIfOk (chunks.the_row T) T s r (slice_set s.now place) s.now

module _ (s : MutBor Rows) (level : ℕ) {E : Type 0} (r : Result (MutBor Content) E) where
  abbrev pub states_lend : Fml
  states_lend = LendsIfOk states.the_row page.the_row s r (with_page s.now level) s.now
