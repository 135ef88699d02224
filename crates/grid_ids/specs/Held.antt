-- The bytes of a text, wherever they are.
use Rattle.std.specs.Prelude.{ℕ, List}
use Rattle.std.specs.String.{string_bytes}
use Rattle.grid_ids.specs.declared.id.Held.{Held}
use Rattle.grid_ids.specs.declared.id.Held.TheVariants.{Inline, Apart}

abbrev pub held_bytes : Held → List ℕ
held_bytes (Inline text) = text.bytes
held_bytes (Apart text) = string_bytes text
