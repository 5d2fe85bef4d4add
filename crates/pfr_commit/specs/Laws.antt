-- What the laws of a run say.
use Rattle.std.specs.Prelude.{◌≡◌, ◌++◌, List, ◌∷◌, ◌<◌, ◌≤◌, ◌+◌, ◌^◌, length, ℕ, true, get_or, Some}
use Rattle.std.specs.List.{All, flat_map, Any, count_by, sum_by, Contains, slice_get}
use Rattle.pfr_net.specs.Interfaces.{meets}
use Rattle.pfr_net.specs.declared.interface.Binding.TheVariants.{To}
use Rattle.pfr_net.specs.declared.interface.InterfacePlace.{InterfacePlace}
use Rattle.pfr_net.specs.declared.rule_number.RuleNumber.{RuleNumber}
use Rattle.pfr_ruleset.specs.declared.flat.FlatRule.{FlatRule}
use Rattle.pfr_rules.specs.Filter.{most_of}
use Rattle.pfr_ruleset.specs.Translations.{HaveOwnNumbers}
use Rattle.pfr_track.specs.declared.state.State.{State}
use Rattle.pfr_states.specs.States.{count_of_rule, table_of}
use Rattle.pfr_headers.specs.declared.tap.Tap.{Tap}
use Rattle.pfr_packet.specs.Job.{RunJob}
use Rattle.pfr_packet.specs.Settings.{HasNoTranslations}
use Rattle.pfr_packet.specs.declared.verdict.Verdict.{Verdict}
use Rattle.pfr_commit.specs.declared.counters.Totals.{Totals}
use Rattle.pfr_sync.specs.Laws.{has, held_after}
use Rattle.pfr_sync.specs.Messages.{messages_of}
use Rattle.pfr_telling.specs.Standby.{is_told_of}
use Rattle.pfr_commit.specs.World.{Frame, Texts, World, joined, last_message, online, only_at, origin_of, world_after, world_of}
use Rattle.pfr_commit.specs.Endings.{states_text}
use Rattle.pfr_commit.specs.Runs.{line_of, plain_line, plain_record, plain_state, record_at, taken_in, capped, comes_to, total_of, counts_for, bytes_for, counters_of, is_visited, number_of, visits_to, IsMadeAmong, RuleKind}

-- without translation rules a run comes to the same wherever its packets were captured
abbrev pub TapChangesNoRun : Type 0
TapChangesNoRun =
    (job : RunJob) (other : Tap) (frames : List Frame)
    → HasNoTranslations job.rules
    → world_of (record job { tap = other }) frames ≡ world_of job frames

-- packets that are taken in two parts leave what they leave together
abbrev pub TwoPartsAreTheWhole : Type 0
TwoPartsAreTheWhole =
    (job : RunJob) (world : World) (first second : List Frame)
    → world_after job world (first ++ second) ≡ world_after job (world_after job world first) second

-- what is written after some packets is a beginning of what is written after more
abbrev pub WhatIsWrittenStays : Type 0
WhatIsWrittenStays =
    (job : RunJob) (first second : List Frame)
    → (added : Texts) × (online job (world_of job (first ++ second)) ≡ joined (online job (world_of job first)) added)

-- the messages of all that became of states are those that were written, and the last one
abbrev pub TheLastMessageIsTheRest : Type 0
TheLastMessageIsTheRest =
    (job : RunJob) (world : World)
    → messages_of (origin_of job) world.events ≡ (online job world).messages ++ last_message job world

-- the verdicts are the lines of the packets, in the order of the capture
abbrev pub EachHasItsLine : Type 0
EachHasItsLine =
    (job : RunJob) (frames : List Frame)
    → (world_of job frames).verdicts ≡ flat_map (line_of job) (taken_in job frames)

-- the packets of an interface are the records of those of its packets that aren't blocked, in that order
abbrev pub EachHasItsRecord : Type 0
EachHasItsRecord =
    (job : RunJob) (frames : List Frame) (place : ℕ)
    → (world_of job frames).packets place ≡ flat_map (record_at place) (taken_in job frames)

-- a run of one capture: it has one interface, on which all packets are
pub record IsOfOneCapture (job : RunJob) (frames : List Frame) : Type 0 where
  pub interface : length job.rules.interfaces ≤ 1
  pub packets : All (λ frame. frame.place.0 ≡ 0) frames

-- With one capture no line names an interface, and all records that are written go to one output.
abbrev pub OneCaptureHasNoMarks : Type 0
OneCaptureHasNoMarks =
    (job : RunJob) (frames : List Frame)
    → IsOfOneCapture job frames
    → ((world_of job frames).verdicts ≡ flat_map plain_line (taken_in job frames))
    × ((world_of job frames).packets ≡ only_at 0 (flat_map plain_record (taken_in job frames)))
    × ((states : List State) → states_text job.rules.interfaces states ≡ flat_map plain_state states)

-- and each state is found by a question of that interface: every scope meets every binding
abbrev pub OneCaptureHasOneScope : Type 0
OneCaptureHasOneScope =
    (job : RunJob) (frames : List Frame) (state : State) (scope : InterfacePlace)
    → IsOfOneCapture job frames
    → Contains (world_of job frames).table.states state
    → scope.0 ≡ 0
    → meets state.rules.binding (To scope) ≡ true

-- the clock is the second of one of the records
abbrev pub ClockIsOfARecord : Type 0
ClockIsOfARecord =
    (job : RunJob) (frame : Frame) (frames : List Frame)
    → Any (λ other. other.seconds ≡ (world_of job (frame ∷ frames)).clock.0) (frame ∷ frames)

-- each total is the number of packets that came to its verdict
abbrev pub TotalsCountVerdicts : Type 0
TotalsCountVerdicts =
    (job : RunJob) (frames : List Frame) (verdict : Verdict)
    → total_of verdict (world_of job frames).counters.totals ≡ capped (count_by (comes_to verdict) (taken_in job frames))

abbrev pub all_of : Totals → ℕ
all_of totals = totals.passed + totals.blocked + totals.returned + totals.skipped

-- all four together are the count
abbrev pub TotalsAreTheCount : Type 0
TotalsAreTheCount =
    (job : RunJob) (frames : List Frame)
    → length frames < 2 ^ 64
    → all_of (world_of job frames).counters.totals ≡ (world_of job frames).count

-- a rule's packets are those whose line names it for a reason that counts
abbrev pub PacketsOfARule : Type 0
PacketsOfARule =
    (job : RunJob) (frames : List Frame) (kind : RuleKind) (rule : ℕ)
    → rule < number_of kind job
    → get_or (counters_of kind (world_of job frames).counters).packets rule 0 ≡ capped (count_by (counts_for kind rule) (taken_in job frames))

-- its bytes are theirs
abbrev pub BytesOfARule : Type 0
BytesOfARule =
    (job : RunJob) (frames : List Frame) (kind : RuleKind) (rule : ℕ)
    → rule < number_of kind job
    → get_or (counters_of kind (world_of job frames).counters).bytes rule 0 ≡ capped (sum_by (bytes_for kind rule) (taken_in job frames))

-- its evaluations are the visits of the walks of all packets
abbrev pub EvaluationsOfARule : Type 0
EvaluationsOfARule =
    (job : RunJob) (frames : List Frame) (kind : RuleKind) (rule : ℕ)
    → rule < number_of kind job
    → get_or (counters_of kind (world_of job frames).counters).evaluations rule 0 ≡ capped (sum_by (visits_to kind rule) (taken_in job frames))

-- and these are the packets whose walk visited the rule, as no walk visits one twice
abbrev pub EvaluationsArePackets : Type 0
EvaluationsArePackets =
    (job : RunJob) (frames : List Frame) (kind : RuleKind) (rule : ℕ)
    → HaveOwnNumbers job.rules.translations
    → rule < number_of kind job
    → get_or (counters_of kind (world_of job frames).counters).evaluations rule 0 ≡ capped (count_by (is_visited kind rule) (taken_in job frames))

-- each state was made by a packet of the run that passed
abbrev pub StatesAreOfPackets : Type 0
StatesAreOfPackets =
    (job : RunJob) (frames : List Frame) (state : State)
    → Contains (world_of job frames).table.states state
    → IsMadeAmong job.rules (taken_in job frames) state

-- a rule with `max` never has more states than that
abbrev pub RulesKeepToTheirMax : Type 0
RulesKeepToTheirMax =
    (job : RunJob) (frames : List Frame) (by : RuleNumber) (rule : FlatRule) (most : ℕ)
    → slice_get job.rules.filter.rules by.0 ≡ Some rule
    → most_of rule.state ≡ Some most
    → count_of_rule by.0 (world_of job frames).table.states ≤ most

-- the changes that packets made to the table make it from the empty one
abbrev pub ChangesMakeTheTable : Type 0
ChangesMakeTheTable =
    (job : RunJob) (frames : List Frame)
    → table_of job.rules.options.state_limit (world_of job frames).changes ≡ (world_of job frames).table

-- a standby that applies the messages of a run holds the numbers of the states that are left, except those of rules
-- with `no-sync`, and no others
abbrev pub AStandbyHoldsTheStates : Type 0
AStandbyHoldsTheStates =
    (job : RunJob) (frames : List Frame) (n : ℕ)
    → has n (held_after (messages_of (origin_of job) (world_of job frames).events)) ≡ is_told_of n (world_of job frames).table.states
