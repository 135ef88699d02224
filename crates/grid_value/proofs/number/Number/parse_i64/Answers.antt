use Rattle.std.proofs.Common.{◌≡◌, ◌^◌, ◌<◌, Some, option_and_then, pos, to_z, w64, sym, ap, ◌∙◌, arith}
use Rattle.std.proofs.lemmas.Int.{ints}
use Rattle.serde_json.specs.Find.{as_i64}
use Rattle.serde_json.specs.Read.{number_of}
use Rattle.grid_value.proofs.Digits.{as_i64-few}
use Rattle.grid_value.proofs.number.Number.parse_i64.Goals as goal

pub returns-in-Some : goal.returns-in-Some
returns-in-Some c =
    let small : c.in-Some.number < 10 ^ 18 = c.in-Some.ensures.small in
    let cast : to_z w64 c.in-Some.number ≡ pos c.in-Some.number = omega (arith, ints, small) in
    ap Some cast ∙ sym (as_i64-few _ _ c.in-Some.ensures.value) ∙ ap (λ text. option_and_then as_i64 (number_of text)) c.as_bytes-bytes.ensures.value
