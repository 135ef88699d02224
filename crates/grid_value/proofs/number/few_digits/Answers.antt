use Rattle.std.proofs.Common.{get_or, take, arith, length-take}
use Rattle.std.specs.Int.{IsInRange}
use Rattle.std.proofs.lemmas.Int.Digits.{digits_more, digits_value_more}
use Rattle.std.proofs.lemmas.Str.{digit_value_digit}
use Rattle.std.proofs.lemmas.Str.Parse.{digit_at}
use Rattle.grid_value.proofs.Digits.{few_below}
use Rattle.grid_value.proofs.number.few_digits.Goals as goal

pub returns-then-digit-gt9-clause-value : goal.returns-then-digit-gt9-clause-value
returns-then-digit-gt9-clause-value c numeral = omega (arith, digit_at c.args.bytes.now c.digits.byte-index numeral.0.1 c.digits-test.true)

pub overflow_mul-number : goal.overflow_mul-number
overflow_mul-number c =
    let read = c.digits.invariant in
    let below = few_below (take c.digits.byte-index c.args.bytes.now) read.0 (omega (arith, length-take c.digits.byte-index c.args.bytes.now)) in
    record { fits = omega (arith, read.1, below) }

pub overflow_add-number : goal.overflow_add-number
overflow_add-number c =
    let read = c.digits.invariant in
    let below = few_below (take c.digits.byte-index c.args.bytes.now) read.0 (omega (arith, length-take c.digits.byte-index c.args.bytes.now)) in
    record { fits = omega (arith, read.1, below) }

pub digits-preserved : goal.digits-preserved
digits-preserved c =
    let read = c.digits.invariant in
    let bytes = c.args.bytes.now in
    let at = c.digits.byte-index in
    let byte = get_or bytes at 0 in
    let fits = (c.type_inv.bytes at).fits in
    let range : IsInRange 48 57 byte = (omega (arith, fits), omega (arith, fits)) in
    let worth = digit_value_digit byte range in (
      digits_more 10 bytes at c.digits-test.true read.0 (omega (arith, worth)),
      omega (arith, digits_value_more 10 bytes at c.digits-test.true, read.1, worth),
      read.2,
    )

pub returns-clause-small : goal.returns-clause-small
returns-clause-small c =
    let read = c.digits.invariant in
    let below = few_below (take c.digits.byte-index c.args.bytes.now) read.0 (omega (arith, length-take c.digits.byte-index c.args.bytes.now)) in
    omega (arith, read.1, below)
