-- The JSON value that bytes spell.
use Rattle.std.specs.Prelude.{ℕ, List, Option, None, option_and_then, if◌then◌else◌}
use Rattle.std.specs.Str.{is_utf8}
use Rattle.json.specs.Lex.{tokens}
use Rattle.json.specs.Json.{Json, if_last, value}
use Rattle.serde_json.specs.Data.{Data}
use Rattle.serde_json.specs.Read.{max_depth, read}

-- the JSON value that the bytes spell, where they are text and spell one
unfoldable pub reading : List ℕ → Option Data
reading bytes = if is_utf8 bytes then read bytes else None

-- the value of the grammar that the bytes spell, whatever the size of its numbers
unfoldable pub spelled : List ℕ → Option Json
spelled bytes = if is_utf8 bytes then option_and_then (λ p. if_last p.0 p.1) (value max_depth (tokens bytes)) else None
