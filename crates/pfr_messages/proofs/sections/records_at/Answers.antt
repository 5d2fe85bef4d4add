use Rattle.std.proofs.lemmas.Result.{err_from_is_err_and}
use Rattle.std.specs.Prelude.{None}
use Rattle.pfr_messages.specs.Messages.{records_at}
use Rattle.pfr_messages.proofs.SectionLoops.{ends, goes_on, is_done}
use Rattle.pfr_messages.proofs.sections.records_at.Goals as goal

pub returns-in_err-number : goal.returns-in_err-number
returns-in_err-number g c =
    let p = err_from_is_err_and c.from_residual-in_err-number.result c.from_residual-in_err-number.ensures.1 in
    rw (p.1, p.2) (ends g.R.Record.kind c.loop.records.items c.loop.last c.args.count c.loop.counter c.loop.rest.now
    c.in_err-number.field-0.0 (records_at g.R.Record.kind None c.args.count c.args.bytes.now) c.loop-test.true
    c.in_err-number.ensures c.loop.invariant)

pub loop-preserved : goal.loop-preserved
loop-preserved g c =
    rw c.in_ok-push.ensures.items
    (goes_on g.R.Record.kind c.loop.records.items c.loop.last c.args.count c.loop.counter c.loop.rest.now
    c.in_ok-number.number c.in_ok-number.item c.in_ok-number.after.now
    (records_at g.R.Record.kind None c.args.count c.args.bytes.now) c.loop-test.true c.in_ok-number.ensures c.loop.invariant)

pub returns : goal.returns
returns g c = is_done g.R.Record.kind c.loop.records.items c.loop.last c.args.count c.loop.counter c.loop.rest.now
    (records_at g.R.Record.kind None c.args.count c.args.bytes.now) c.loop-test.false c.loop.invariant
