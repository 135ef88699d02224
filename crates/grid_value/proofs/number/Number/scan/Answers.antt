use Rattle.std.proofs.Common.{◌≡◌, drop, get_or, true, false, ◌==◌, sym, ap, ◌∙◌, arith, take_all, length-drop}
use Rattle.fast_float.specs.Text.{scan}
use Rattle.serde_json.specs.Read.{number_of, number_from}
use Rattle.grid_value.proofs.number.Number.scan.Goals as goal

pub returns-then-has_minus : goal.returns-then-has_minus
unfolding number_of
returns-then-has_minus c =
    let text = c.args.bytes.now in
    let minus : (get_or text 0 0 == 45) ≡ true = sym c.if-has_minus.ensures.value in
    let behind : c.scan.result ≡ scan (drop 1 text) = c.scan.ensures.parts ∙ ap scan (take_all _ (drop 1 text) (omega (arith, length-drop 1 text))) in
    let is : number_from true (scan (drop 1 text)) ≡ number_of text = rw minus in
    c.negative.ensures ∙ ap (number_from true) behind ∙ is

pub returns-else-has_minus : goal.returns-else-has_minus
unfolding number_of
returns-else-has_minus c =
    let text = c.args.bytes.now in
    let none : (get_or text 0 0 == 45) ≡ false = sym c.if-has_minus.ensures.value in
    let is : number_from false (scan text) ≡ number_of text = rw none in
    c.unsigned.ensures ∙ ap (number_from false) c.scan-else-has_minus.ensures.parts ∙ is
