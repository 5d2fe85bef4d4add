use Rattle.std.proofs.Common.{◌≡◌, ◌≢◌, ◌<◌, length, get_or, sym, ◌∙◌, arith}
use Rattle.std.proofs.lemmas.Result.{err_from_is_err_and}
use Rattle.pfr_messages.specs.Fields.{behind, zeros}
use Rattle.pfr_messages.proofs.FieldLoops.{text_differs, text_ends, text_goes_on, text_is_over, zero_at, zeros_len}
use Rattle.pfr_messages.proofs.fields.behind_zeros.Goals as goal

pub returns-in_err-byte : goal.returns-in_err-byte
returns-in_err-byte c =
    let p = err_from_is_err_and c.from_residual.result c.from_residual.ensures.1 in
    let lt : c.loop.counter < length (zeros c.args.count) = omega (arith, zeros_len c.args.count, c.loop-test.true) in
    rw (p.1, p.2) (text_ends (zeros c.args.count) c.loop.counter c.loop.rest.now c.in_err-byte.field-0.0
    (behind (zeros c.args.count) c.args.bytes.now) lt c.in_err-byte.ensures c.loop.invariant)

pub returns-then-byte-ne0 : goal.returns-then-byte-ne0
returns-then-byte-ne0 c =
    let lt : c.loop.counter < length (zeros c.args.count) = omega (arith, zeros_len c.args.count, c.loop-test.true) in
    let other : get_or (zeros c.args.count) c.loop.counter 0 ≢ c.in_ok-byte.byte =
    λ e. c.if-byte-ne0.true (sym e ∙ zero_at c.args.count c.loop.counter) in
    text_differs (zeros c.args.count) c.loop.counter c.loop.rest.now c.in_ok-byte.byte c.in_ok-byte.after.now
    (behind (zeros c.args.count) c.args.bytes.now) lt c.in_ok-byte.ensures other c.loop.invariant

pub loop-preserved : goal.loop-preserved
loop-preserved c =
    let lt : c.loop.counter < length (zeros c.args.count) = omega (arith, zeros_len c.args.count, c.loop-test.true) in
    let same : get_or (zeros c.args.count) c.loop.counter 0 ≡ c.in_ok-byte.byte =
    zero_at c.args.count c.loop.counter ∙ sym c.if-byte-ne0.false in
    text_goes_on (zeros c.args.count) c.loop.counter c.loop.rest.now c.in_ok-byte.byte c.in_ok-byte.after.now
    (behind (zeros c.args.count) c.args.bytes.now) lt c.in_ok-byte.ensures same c.loop.invariant

pub returns : goal.returns
returns c =
    text_is_over (zeros c.args.count) c.loop.counter c.loop.rest.now (behind (zeros c.args.count) c.args.bytes.now)
    (omega (arith, zeros_len c.args.count, c.loop-test.false)) c.loop.invariant
