use Rattle.std.proofs.Common.{◌≡◌, ◌+◌, ◌-◌, arith, append_assoc}
use Rattle.pfr_digits.proofs.DigitLemmas.{decimal_pair, length_pair}
use Rattle.pfr_digits.proofs.digits.write_digits.Goals as goal

pub overflow_sub-start : goal.overflow_sub-start
overflow_sub-start c = omega (arith, length_pair c.loop-left.left c.loop-left-test.true c.loop-left.auto.left-fits.fits)

pub write_pair-requires : goal.write_pair-requires
write_pair-requires c = omega (arith, length_pair c.loop-left.left c.loop-left-test.true c.loop-left.auto.left-fits.fits)

pub loop-left-preserved : goal.loop-left-preserved
loop-left-preserved c =
    let l = c.loop-left in
    let long = length_pair l.left c.loop-left-test.true l.auto.left-fits.fits in
    let e : l.start - 2 + 2 ≡ l.start = omega arith in (
      omega arith,
      omega arith,
      omega arith,
      rw (c.write_pair.ensures, e) (rw (decimal_pair l.left c.loop-left-test.true l.auto.left-fits.fits, append_assoc) at l.invariant.3),
    )
