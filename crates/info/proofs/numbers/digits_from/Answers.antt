use Rattle.info.proofs.numbers.Numbering.{read-start, is_digit_b, read_goes, read-ends, product-wide, sum-wide, read-on, read-past}
use Rattle.std.proofs.Common.{arith}
use Rattle.info.proofs.numbers.digits_from.Goals as goal

pub loop-i-init : goal.loop-i-init
loop-i-init c = search read-start

pub digit-requires : goal.digit-requires
digit-requires c = search is_digit_b

pub returns-then-goes_on : goal.returns-then-goes_on
returns-then-goes_on c = search read_goes

pub returns-else-goes_on : goal.returns-else-goes_on
returns-else-goes_on c = search read-ends

pub returns-in_err-checked_mul : goal.returns-in_err-checked_mul
returns-in_err-checked_mul c = product-wide c.loop-i.invariant c.is_digit.ensures c.if-not-is_digit.false c.from_residual.ensures c.in_err-checked_mul.ensures

pub returns-in_err-n : goal.returns-in_err-n
returns-in_err-n c =
    sum-wide c.loop-i.invariant c.is_digit.ensures c.if-not-is_digit.false c.in_ok-checked_mul.ensures.1 c.digit.ensures.0 c.from_residual-in_err-n.ensures c.in_err-n.ensures

pub loop-i-preserved : goal.loop-i-preserved
loop-i-preserved c =
    let e = c.in_ok-n.ensures in
    read-on c.loop-i.invariant c.is_digit.ensures c.if-not-is_digit.false c.in_ok-checked_mul.ensures.1 c.digit.ensures.0 e.1 (omega (arith, e.0, e.1))

pub returns : goal.returns
returns c = search read-past
