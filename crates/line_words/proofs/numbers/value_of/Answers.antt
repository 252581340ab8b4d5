use Rattle.std.proofs.Common.{arith, get_or}
use Rattle.std.proofs.lemmas.Int.Digits.{digits_value_more}
use Rattle.line_words.proofs.Numerals.{digit_at, digit_range, value_of_digit, too_large}
use Rattle.line_words.proofs.numbers.value_of.Goals as goal

pub overflow_sub-digit : goal.overflow_sub-digit
overflow_sub-digit c =
    let ds = c.args.digits.now in
    let is = digit_at ds c.loop-digit.digit-index c.requires c.loop-digit-test.true in
    (digit_range _ is).0

pub returns-in_err-tens : goal.returns-in_err-tens
returns-in_err-tens c =
    let l = c.loop-digit in
    rw c.from_residual.ensures
    (too_large c.args.digits.now l.digit-index l.value 0 c.loop-digit-test.true l.invariant
    (omega arith)
    (λ h. c.in_err-tens.ensures (omega (arith, h))))

pub returns-in_err-value : goal.returns-in_err-value
returns-in_err-value c =
    let ds = c.args.digits.now in
    let l = c.loop-digit in
    let is = digit_at ds l.digit-index c.requires c.loop-digit-test.true in
    let value = value_of_digit (get_or ds l.digit-index 0) is in
    rw c.from_residual-in_err-value.ensures
    (too_large ds l.digit-index l.value c.from.result c.loop-digit-test.true l.invariant
    (omega (arith, value, c.from.ensures))
    (λ h. c.in_err-value.ensures (omega (arith, h, c.in_ok-tens.ensures.1))))

pub loop-digit-preserved : goal.loop-digit-preserved
loop-digit-preserved c =
    let ds = c.args.digits.now in
    let l = c.loop-digit in
    let is = digit_at ds l.digit-index c.requires c.loop-digit-test.true in
    let value = value_of_digit (get_or ds l.digit-index 0) is in
    let more = digits_value_more 10 ds l.digit-index c.loop-digit-test.true in
    let tens = c.in_ok-tens.ensures.1 in
    omega (arith, more, value, l.invariant, c.from.ensures, tens, c.in_ok-value.ensures.1)
