use Rattle.std.proofs.Common.{sym, ap, ◌∙◌}
use Rattle.serde_json.specs.Read.{number_of}
use Rattle.grid_value.proofs.Digits.{number_of-few}
use Rattle.grid_value.proofs.number.Number.parse.Goals as goal

pub returns-in-Some : goal.returns-in-Some
returns-in-Some c = sym (number_of-few _ _ c.in-Some.ensures.value) ∙ ap number_of c.as_bytes-bytes.ensures.value
