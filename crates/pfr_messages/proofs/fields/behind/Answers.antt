use Rattle.std.proofs.Common.{◌≡◌, ◌≢◌, get_or, sym}
use Rattle.std.proofs.lemmas.Result.{err_from_is_err_and}
use Rattle.pfr_messages.specs.Fields.{behind}
use Rattle.pfr_messages.proofs.FieldLoops.{text_differs, text_ends, text_goes_on}
use Rattle.pfr_messages.proofs.fields.behind.Goals as goal

pub returns-in_err-byte : goal.returns-in_err-byte
returns-in_err-byte c =
    let p = err_from_is_err_and c.from_residual.result c.from_residual.ensures.1 in
    rw (p.1, p.2) (text_ends c.args.text.now c.loop-expected.expected-index c.loop-expected.rest.now c.in_err-byte.field-0.0
    (behind c.args.text.now c.args.bytes.now) c.loop-expected-test.true c.in_err-byte.ensures c.loop-expected.invariant)

pub returns-then-byte-expected : goal.returns-then-byte-expected
returns-then-byte-expected c =
    let other : get_or c.args.text.now c.loop-expected.expected-index 0 ≢ c.in_ok-byte.byte =
    λ e. c.if-byte-expected.true (sym e) in
    text_differs c.args.text.now c.loop-expected.expected-index c.loop-expected.rest.now c.in_ok-byte.byte c.in_ok-byte.after.now
    (behind c.args.text.now c.args.bytes.now) c.loop-expected-test.true c.in_ok-byte.ensures other c.loop-expected.invariant

pub loop-expected-preserved : goal.loop-expected-preserved
loop-expected-preserved c =
    let same : get_or c.args.text.now c.loop-expected.expected-index 0 ≡ c.in_ok-byte.byte = sym c.if-byte-expected.false in
    text_goes_on c.args.text.now c.loop-expected.expected-index c.loop-expected.rest.now c.in_ok-byte.byte c.in_ok-byte.after.now
    (behind c.args.text.now c.args.bytes.now) c.loop-expected-test.true c.in_ok-byte.ensures same c.loop-expected.invariant
