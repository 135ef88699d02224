use Rattle.std.proofs.Common.{◌≡◌, ◌≤◌, ◌∙◌, sym, subst, true}
use Rattle.std.proofs.lemmas.Bool.{true≢false}
use Rattle.std.specs.Prelude.{decimal}
use Rattle.std.specs.Str.{bytes_eq}
use Rattle.grid_forms.proofs.Numbers.{number_found, number_missing}
use Rattle.grid_forms.proofs.words.number_in.Goals as goal

pub returns-in-Ok-clause-number : goal.returns-in-Ok-clause-number
returns-in-Ok-clause-number c =
    let w = c.is_number.ensures.0 c.if-is_number.true in
    number_found c.args.least c.args.most c.in-Ok.number c.args.text.now c.ranges.most.fits w.0 w.1 w.2

pub returns-in_default-clause-number : goal.returns-in_default-clause-number
returns-in_default-clause-number c =
    number_missing c.args.least c.args.most c.args.text.now c.parse.result c.ranges.most.fits c.parse.ensures.value.0
    (λ n is low high written.
    let same : n ≡ c.in-Ok.number = cc (is, c.in-Ok.is) in
    absurd (true≢false (sym (c.is_number.ensures.1 (subst (λ m. (c.args.least ≤ m) × (m ≤ c.args.most) × (bytes_eq (decimal m) c.args.text.now ≡ true)) same (low, high, written))) ∙ c.if-is_number.false)))

pub returns-in_default-2-clause-number : goal.returns-in_default-2-clause-number
returns-in_default-2-clause-number c =
    number_missing c.args.least c.args.most c.args.text.now c.parse.result c.ranges.most.fits c.parse.ensures.value.0
    (λ n is low high written. absurd cc)
