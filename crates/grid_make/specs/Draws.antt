-- Draws, and lists that are made from one draw after the other.
use Rattle.std.specs.Prelude.{ℕ, zero, suc, Bool, ◌+◌, ◌*◌, ◌%◌, ◌==◌, List, [], ◌++◌}

-- the draw after a draw, or after the seed; the first draw is the one after the seed
unfoldable pub next : ℕ → ℕ
next x = (75 * x + 74) % 65537

-- the draw so many places after a draw, or after the seed
unfoldable pub later : ℕ → ℕ → ℕ
later zero x = x
later (suc n) x = next (later n x)

abbrev pub is_odd : ℕ → Bool
is_odd x = x % 2 == 1

-- the items made for each of so many numbers, from one number on, in turn: for each of them from the number and the draw
-- before its own ones; `last` gives the last of its own
unfoldable pub in_turn : {A : Type 0} → (ℕ → ℕ → List A) → (ℕ → ℕ) → ℕ → ℕ → ℕ → List A
in_turn made last from zero before = []
in_turn made last from (suc count) before = made from before ++ in_turn made last (suc from) count (last before)

-- the last draw where nothing is drawn
abbrev pub same : ℕ → ℕ
same before = before
