-- What a packet comes to.
use Rattle.std.specs.Prelude.{Bool, not, ◌&&◌, if◌then◌else◌, [], Some, None}
use Rattle.pfr_net.specs.declared.direction.Direction.{Direction}
use Rattle.pfr_headers.specs.declared.packet.Packet.{Packet}
use Rattle.pfr_headers.specs.View.{has_options}
use Rattle.pfr_track.specs.declared.state.State.{State}
use Rattle.pfr_packet.specs.declared.outcome.Outcome.{Outcome}
use Rattle.pfr_packet.specs.declared.outcome.VisitedRules.{VisitedRules}
use Rattle.pfr_packet.specs.declared.verdict.Reason.{Reason}
use Rattle.pfr_packet.specs.declared.verdict.Reason.TheVariants.{IpOption, NotIp}
use Rattle.pfr_packet.specs.declared.verdict.Verdict.{Verdict}
use Rattle.pfr_packet.specs.declared.verdict.Verdict.TheVariants.{Block, Skip}
use Rattle.pfr_packet.specs.Verdicts.{lets_pass}

abbrev pub none_visited : VisitedRules
none_visited = record { translation = []; filter = [] }

-- a packet that isn't looked at
abbrev pub unseen : Verdict → Reason → Outcome
unseen verdict reason = record {
  direction = None;
  verdict = verdict;
  reason = reason;
  rule = None;
  translation = None;
  state = None;
  visited = none_visited;
  bytes = None;
  change = None;
}

-- no packet yet: an outcome to be written over
abbrev pub fresh : Outcome
fresh = unseen Skip NotIp

-- a packet whose state is found: no rule is visited, and the state's rules are named
abbrev pub by_state : Direction → State → Verdict → Reason → Outcome
by_state direction state verdict reason = record {
  direction = Some direction;
  verdict = verdict;
  reason = reason;
  rule = state.rules.filter;
  translation = state.rules.translation;
  state = Some state.number;
  visited = none_visited;
  bytes = None;
  change = None;
}

-- the same, blocked: nothing changes
abbrev pub blocked : Reason → Outcome → Outcome
blocked reason outcome = record outcome { verdict = Block; reason = reason; bytes = None; change = None }

-- a packet with IP options that would pass is blocked if they aren't allowed (pf.conf(5), "allow-opts")
abbrev pub without_leave : Packet → Bool → Outcome → Outcome
without_leave packet allowed outcome =
    if lets_pass outcome.verdict && (has_options packet && not allowed) then blocked IpOption outcome else outcome
