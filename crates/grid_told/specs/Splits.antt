-- Bytes that are split at each newline.
use Rattle.std.specs.Prelude.{ℕ, ◌==◌, if◌then◌else◌, List, [], ◌∷◌}

-- a byte before the first part
unfoldable pub onto_first : ℕ → List (List ℕ) → List (List ℕ)
onto_first byte [] = (byte ∷ []) ∷ []
onto_first byte (part ∷ parts) = (byte ∷ part) ∷ parts

-- what stands before the first newline, between two of them and behind the last one
unfoldable pub split_at_newlines : List ℕ → List (List ℕ)
split_at_newlines [] = [] ∷ []
split_at_newlines (byte ∷ bytes) = if byte == 10 then [] ∷ split_at_newlines bytes else onto_first byte (split_at_newlines bytes)
