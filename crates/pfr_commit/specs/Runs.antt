-- The packets of a run one by one, and what each of them came to.
use Rattle.std.specs.Prelude.{◌≡◌, ℕ, ◌+◌, ◌-◌, ◌^◌, ◌==◌, ◌&&◌, ◌||◌, min, Bool, true, false, if◌then◌else◌, List, [], ◌∷◌, ◌++◌, Option, Some, codes}
use Rattle.std.specs.List.{Contains, count_by, list_any}
use Rattle.std.specs.Str.{bytes_eq}
use Rattle.pfr_net.specs.declared.rule_number.RuleNumber.{RuleNumber}
use Rattle.pfr_ruleset.specs.declared.ruleset.Ruleset.{Ruleset}
use Rattle.pfr_ruleset.specs.Rulesets.{counts}
use Rattle.pfr_headers.specs.declared.packet.View.{View}
use Rattle.pfr_headers.specs.declared.packet.View.TheVariants.{Ipv4}
use Rattle.pfr_headers.specs.View.{view_of}
use Rattle.pfr_track.specs.declared.time.Clock.{Clock}
use Rattle.pfr_track.specs.declared.state.State.{State}
use Rattle.pfr_states.specs.States.{names_rule}
use Rattle.pfr_packet.specs.declared.outcome.Outcome.{Outcome}
use Rattle.pfr_packet.specs.declared.verdict.Reason.{Reason}
use Rattle.pfr_packet.specs.declared.verdict.Verdict.{Verdict}
use Rattle.pfr_packet.specs.declared.verdict.Verdict.TheVariants as verdict
use Rattle.pfr_packet.specs.Job.{RunJob}
use Rattle.pfr_packet.specs.Laws.{AreRulesOf}
use Rattle.pfr_packet.specs.Steps.{step_of}
use Rattle.pfr_packet.specs.Verdicts.{reason_text}
use Rattle.pfr_commit.specs.declared.counters.Counters.{Counters}
use Rattle.pfr_commit.specs.declared.counters.RuleCounters.{RuleCounters}
use Rattle.pfr_commit.specs.declared.counters.Totals.{Totals}
use Rattle.pfr_commit.specs.Lines.{ends_part, keys_part, traffic_before, verdict_before, verdict_line}
use Rattle.pfr_commit.specs.World.{Frame, World, after, clock_at, only_at, opening, packet_text}

-- a packet that was taken
pub record Taken : Type 0 where
  pub number : ℕ
  pub clock : Clock
  pub frame : Frame
  pub outcome : Outcome

-- the next one
abbrev pub next_taken : RunJob → World → Frame → Taken
next_taken job world frame = record {
  number = world.count + 1;
  clock = clock_at world.clock frame;
  frame = frame;
  outcome = step_of job (world.count + 1) (clock_at world.clock frame) frame.place (view_of frame.link frame.bytes) world.table;
}

-- those that follow a world
abbrev pub taken_after : RunJob → World → List Frame → List Taken
taken_after job world [] = []
taken_after job world (frame ∷ frames) = next_taken job world frame ∷ taken_after job (after job world frame) frames

-- those of a run
abbrev pub taken_in : RunJob → List Frame → List Taken
taken_in job frames = taken_after job (opening job) frames

-- ---- what is written of them

-- its line
abbrev pub line_of : RunJob → Taken → List ℕ
line_of job packet = verdict_line job.rules.interfaces packet.number packet.clock packet.frame.place packet.outcome

-- its record in the output at a place: only the output of its interface has it, unless the packet is blocked
abbrev pub record_at : ℕ → Taken → List ℕ
record_at place packet = only_at packet.frame.place.0 (packet_text packet.frame packet.outcome) place

-- the line and the record of a packet, and the line of a state, if nothing names an interface
abbrev pub plain_line : Taken → List ℕ
plain_line packet = verdict_before packet.number packet.clock packet.outcome (10 ∷ [])

abbrev pub plain_record : Taken → List ℕ
plain_record packet = packet_text packet.frame packet.outcome

abbrev pub plain_state : State → List ℕ
plain_state state = keys_part state ++ (ends_part state ++ traffic_before state (10 ∷ []))

-- ---- what they leave

-- One of these packets made the state: it passed at the state's clock on the state's interface, has its number and
-- names it. The state keeps the rules on its line, and is bound as they say.
pub record IsMadeAmong (rules : Ruleset) (packets : List Taken) (state : State) : Type 0 where
  pub packet : Taken
  pub is_there : Contains packets packet
  pub number_is : packet.number ≡ state.number.0
  pub clock_is : packet.clock ≡ state.made
  pub interface_is : packet.frame.place ≡ state.interface
  pub passed : packet.outcome.verdict ≡ verdict.Pass
  pub named : packet.outcome.state ≡ Some state.number
  pub rules_are : AreRulesOf rules packet.frame.place packet.outcome state.rules

-- ---- what is counted of them

-- a count stays at the last value that 64 bits hold
abbrev pub capped : ℕ → ℕ
capped count = min count (2 ^ 64 - 1)

abbrev pub is_same_verdict : Verdict → Verdict → Bool
is_same_verdict verdict.Pass verdict.Pass = true
is_same_verdict verdict.Block verdict.Block = true
is_same_verdict verdict.Return verdict.Return = true
is_same_verdict verdict.Skip verdict.Skip = true
is_same_verdict one other = false

abbrev pub total_of : Verdict → Totals → ℕ
total_of verdict.Pass totals = totals.passed
total_of verdict.Block totals = totals.blocked
total_of verdict.Return totals = totals.returned
total_of verdict.Skip totals = totals.skipped

-- the packet came to this verdict
abbrev pub comes_to : Verdict → Taken → Bool
comes_to verdict packet = is_same_verdict packet.outcome.verdict verdict

-- the reasons that count for a rule, by their words in the line
abbrev pub reason_counts : Reason → Bool
reason_counts reason =
    bytes_eq (reason_text reason) (codes "rule") || bytes_eq (reason_text reason) (codes "state")
    || bytes_eq (reason_text reason) (codes "state-error") || bytes_eq (reason_text reason) (codes "nat-pass")

-- the rules of the filter, and those of translation
pub data RuleKind : Type 0 where
  filter_rule : RuleKind
  translation_rule : RuleKind

-- what is counted of them, their number, and the one that an outcome names
abbrev pub counters_of : RuleKind → Counters → RuleCounters
counters_of filter_rule counters = counters.filter
counters_of translation_rule counters = counters.translation

abbrev pub number_of : RuleKind → RunJob → ℕ
number_of filter_rule job = (counts job.rules).0
number_of translation_rule job = (counts job.rules).1

abbrev pub named_by : RuleKind → Outcome → Option RuleNumber
named_by filter_rule outcome = outcome.rule
named_by translation_rule outcome = outcome.translation

-- its line names the rule, and for a reason that counts
abbrev pub counts_for : RuleKind → ℕ → Taken → Bool
counts_for kind rule packet = reason_counts packet.outcome.reason && names_rule rule (named_by kind packet.outcome)

-- the total length of an IPv4 packet; 0 if the frame isn't one, or was cut
abbrev pub total_length_of : View → ℕ
total_length_of (Ipv4 packet) = packet.total_length
total_length_of _ = 0

-- the bytes that it counts for the rule
abbrev pub bytes_for : RuleKind → ℕ → Taken → ℕ
bytes_for kind rule packet = if counts_for kind rule packet then total_length_of (view_of packet.frame.link packet.frame.bytes) else 0

-- the rules of a kind that a packet's walk visited
abbrev pub visited_of : RuleKind → Outcome → List ℕ
visited_of filter_rule outcome = outcome.visited.filter
visited_of translation_rule outcome = outcome.visited.translation

-- the walk visited a rule of a kind
abbrev pub is_visited : RuleKind → ℕ → Taken → Bool
is_visited kind rule packet = list_any (λ visited. visited == rule) (visited_of kind packet.outcome)

-- how often it did
abbrev pub visits_to : RuleKind → ℕ → Taken → ℕ
visits_to kind rule packet = count_by (λ visited. visited == rule) (visited_of kind packet.outcome)
