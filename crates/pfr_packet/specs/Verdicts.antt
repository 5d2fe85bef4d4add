-- What becomes of a packet, and the words for it.
use Rattle.std.specs.Prelude.{ℕ, Bool, true, false, List, codes}
use Rattle.pfr_packet.specs.declared.verdict.Reason.{Reason}
use Rattle.pfr_packet.specs.declared.verdict.Reason.TheVariants as reason
use Rattle.pfr_packet.specs.declared.verdict.Verdict.{Verdict}
use Rattle.pfr_packet.specs.declared.verdict.Verdict.TheVariants as verdict

abbrev pub lets_pass : Verdict → Bool
lets_pass verdict.Pass = true
lets_pass verdict.Block = false
lets_pass verdict.Return = false
lets_pass verdict.Skip = false

-- a packet that isn't blocked is written to the packets
abbrev pub is_written : Verdict → Bool
is_written verdict.Pass = true
is_written verdict.Block = false
is_written verdict.Return = false
is_written verdict.Skip = true

abbrev pub verdict_text : Verdict → List ℕ
verdict_text verdict.Pass = codes "pass"
verdict_text verdict.Block = codes "block"
verdict_text verdict.Return = codes "return"
verdict_text verdict.Skip = codes "skip"

abbrev pub reason_text : Reason → List ℕ
reason_text reason.Rule = codes "rule"
reason_text reason.Default = codes "default"
reason_text reason.NotIp = codes "not-ip"
reason_text reason.SkipOn = codes "skip-on"
reason_text reason.Short = codes "short"
reason_text reason.IpOption = codes "ip-option"
reason_text reason.State = codes "state"
reason_text reason.StateError = codes "state-error"
reason_text reason.StateMismatch = codes "state-mismatch"
reason_text reason.StateInsert = codes "state-insert"
reason_text reason.StateLimit = codes "state-limit"
reason_text reason.NatExhausted = codes "nat-exhausted"
reason_text reason.NatPass = codes "nat-pass"
