use Rattle.std.proofs.Common.{◌≡◌, drop}
use Rattle.pfr_messages.specs.Fields.{behind}
use Rattle.pfr_messages.proofs.fields.behind.Given as goal

abbrev pub invariant-loop-expected : goal.invariant-loop-expected
invariant-loop-expected l = behind (drop l.expected-index l.text) l.rest ≡ behind l.text l.bytes
