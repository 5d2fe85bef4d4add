use Rattle.std.proofs.Common.{◌≡◌, drop}
use Rattle.pfr_messages.specs.Fields.{behind, zeros}
use Rattle.pfr_messages.proofs.fields.behind_zeros.Given as goal

abbrev pub invariant-loop : goal.invariant-loop
invariant-loop l = behind (drop l.counter (zeros l.count)) l.rest ≡ behind (zeros l.count) l.bytes
