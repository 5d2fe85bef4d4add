use Rattle.std.proofs.Common.{ap, arith, drop, length, length-drop}
use Rattle.std.specs.Fmt.{decimal}
use Rattle.std.proofs.lemmas.Fmt.{length-decimal-le}
use Rattle.pfr_digits.proofs.DigitLemmas.{length_joined}
use Rattle.pfr_digits.proofs.tail.Tail.put_number.Goals as goal

pub write_digits-self-inside-requires : goal.write_digits-self-inside-requires
write_digits-self-inside-requires c =
    let long = length-decimal-le 20 c.args.number (omega arith) (omega (arith, c.ranges.number.fits)) c.ranges.number.fits in
    let left = length-drop c.self.inside.start c.self.inside.bytes in
    let same = ap length c.self.view_is in
    let room = c.requires.room in
    omega (arith, long, left, same, room, c.self.invariant)

pub returns-clause-long : goal.returns-clause-long
returns-clause-long c =
    let long = length-decimal-le 20 c.args.number (omega arith) (omega (arith, c.ranges.number.fits)) c.ranges.number.fits in
    let w = c.write_digits-self-inside in
    let made = length_joined (drop w.result w.new.text) (decimal c.args.number) (drop c.self.inside.start c.self.inside.bytes) w.ensures.written in
    let same = ap length c.self.view_is in
    omega (arith, long, made, same)

pub returns-clause-short : goal.returns-clause-short
returns-clause-short c small =
    let long = length-decimal-le 10 c.args.number (omega arith) small c.ranges.number.fits in
    let w = c.write_digits-self-inside in
    let made = length_joined (drop w.result w.new.text) (decimal c.args.number) (drop c.self.inside.start c.self.inside.bytes) w.ensures.written in
    let same = ap length c.self.view_is in
    omega (arith, long, made, same)

pub returns-clause-shorter : goal.returns-clause-shorter
returns-clause-shorter c small =
    let long = length-decimal-le 5 c.args.number (omega arith) small c.ranges.number.fits in
    let w = c.write_digits-self-inside in
    let made = length_joined (drop w.result w.new.text) (decimal c.args.number) (drop c.self.inside.start c.self.inside.bytes) w.ensures.written in
    let same = ap length c.self.view_is in
    omega (arith, long, made, same)

pub returns-clause-shortest : goal.returns-clause-shortest
returns-clause-shortest c small =
    let long = length-decimal-le 3 c.args.number (omega arith) small c.ranges.number.fits in
    let w = c.write_digits-self-inside in
    let made = length_joined (drop w.result w.new.text) (decimal c.args.number) (drop c.self.inside.start c.self.inside.bytes) w.ensures.written in
    let same = ap length c.self.view_is in
    omega (arith, long, made, same)
