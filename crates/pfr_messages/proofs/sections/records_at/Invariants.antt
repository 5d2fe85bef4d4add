use Rattle.std.proofs.Common.{◌≡◌, ◌-◌, None}
use Rattle.pfr_messages.specs.Messages.{records_at}
use Rattle.pfr_messages.proofs.SectionLoops.{with_records}
use Rattle.pfr_messages.proofs.sections.records_at.Given as goal

abbrev pub invariant-loop : goal.invariant-loop
invariant-loop g l =
    with_records l.records.items (records_at g.R.Record.kind l.last (l.count - l.counter) l.rest) ≡ records_at g.R.Record.kind
    None l.count l.bytes
