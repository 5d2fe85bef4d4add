-- Words of the laws: what becomes of the one state that a packet makes, touches or ends.
use Rattle.std.specs.Prelude.{◌≡◌, ◌⊎◌, ◌↔◌, ◌<◌, ◌≤◌, ◌==◌, ◌+◌, if◌then◌else◌, ℕ, Bool, true, false, not, List, [], ◌∷◌, ◌++◌, Option, Some, None}
use Rattle.std.specs.List.{Contains, slice_get, All, count_by}
use Rattle.pfr_net.specs.declared.interface.Binding.TheVariants as binding
use Rattle.pfr_net.specs.declared.interface.InterfacePlace.{InterfacePlace}
use Rattle.pfr_net.specs.declared.policy.StatePolicy.{StatePolicy}
use Rattle.pfr_ruleset.specs.declared.ruleset.Ruleset.{Ruleset}
use Rattle.pfr_ruleset.specs.Translations.{HaveOwnNumbers}
use Rattle.pfr_packet.specs.Passages.{binding_by}
use Rattle.pfr_net.specs.declared.rule_number.RuleNumber.{RuleNumber}
use Rattle.pfr_ruleset.specs.declared.flat.FlatRule.{FlatRule}
use Rattle.pfr_headers.specs.declared.packet.View.{View}
use Rattle.pfr_headers.specs.declared.change.Change.{Change}
use Rattle.pfr_headers.specs.declared.packet.View.TheVariants.{Ipv4, Skip}
use Rattle.pfr_headers.specs.declared.packet.Packet.{Packet}
use Rattle.pfr_headers.specs.View.{has_options}
use Rattle.pfr_criteria.specs.Transports.{opens_connection}
use Rattle.pfr_rules.specs.Filter.{most_of}
use Rattle.pfr_rules.specs.Translating.{up_to_first}
use Rattle.pfr_track.specs.declared.state.State.{State}
use Rattle.pfr_track.specs.declared.state.StateNumber.{StateNumber}
use Rattle.pfr_track.specs.declared.state.StateRules.{StateRules}
use Rattle.pfr_track.specs.declared.time.Clock.{Clock}
use Rattle.pfr_track.specs.declared.key.Key.{Key}
use Rattle.pfr_states.specs.declared.change.Side.TheVariants.{Wire}
use Rattle.pfr_states.specs.declared.change.TableChange.{TableChange}
use Rattle.pfr_states.specs.declared.change.TableChange.TheVariants.{Made, Touched, Removed}
use Rattle.pfr_states.specs.States.{StateTable, IsTable, count_of_rule, purged, refusal}
use Rattle.pfr_states.specs.declared.question.Question.TheVariants.{At}
use Rattle.pfr_packet.specs.declared.outcome.Outcome.{Outcome}
use Rattle.pfr_packet.specs.declared.verdict.Verdict.TheVariants.{Pass, Block, Skip}
use Rattle.pfr_packet.specs.Job.{RunJob, direction_of, is_skipped}
use Rattle.pfr_packet.specs.Picks.{is_free_in, picked, picking, try_list}
use Rattle.pfr_states.specs.Answers.{SameAnswer, purged_at, found_in, has_room_in}
use Rattle.pfr_packet.specs.Plan.{Plan, outcome_of, questions_of}
use Rattle.pfr_packet.specs.Steps.{asked_of, step_of}
use Rattle.pfr_packet.specs.Verdicts.{lets_pass}
use Rattle.pfr_packet.specs.declared.keys.Subject.TheVariants.{Connection, Embedded}
use Rattle.pfr_packet.specs.Keys.{subject_of}
use Rattle.pfr_packet.specs.Taps.{looked_up_on}
use Rattle.pfr_packet.specs.Outcomes.{none_visited}
use Rattle.pfr_packet.specs.declared.verdict.Reason.TheVariants.{StateLimit, SkipOn}

-- the state that packet `number` of an interface makes
pub record IsMadeBy (number : ℕ) (clock : Clock) (place : InterfacePlace) (outcome : Outcome) (state : State) : Type 0 where
  -- it has the packet's number
  pub number_is : state.number.0 ≡ number
  -- it is made at the packet's clock
  pub made_is : state.made ≡ clock
  -- on the packet's interface
  pub interface_is : state.interface ≡ place
  -- the packet passes
  pub passes : outcome.verdict ≡ Pass
  -- and names it
  pub named : outcome.state ≡ Some state.number

-- a state as a packet of its connection leaves it
pub record IsTouchedOf (states : List State) (outcome : Outcome) (state : State) : Type 0 where
  -- the state as it was
  pub before : State
  pub is_there : Contains states before
  -- what stays of it
  pub number_is : state.number ≡ before.number
  pub wire_is : state.wire ≡ before.wire
  pub stack_is : state.stack ≡ before.stack
  pub rules_are : state.rules ≡ before.rules
  pub direction_is : state.direction ≡ before.direction
  pub interface_is : state.interface ≡ before.interface
  pub made_is : state.made ≡ before.made
  -- the packet passes
  pub passes : outcome.verdict ≡ Pass
  -- and names it
  pub named : outcome.state ≡ Some state.number

-- the number of a state that a packet ends
pub record IsRemovedOf (states : List State) (outcome : Outcome) (number : StateNumber) : Type 0 where
  -- the state as it was
  pub before : State
  pub is_there : Contains states before
  pub number_is : number ≡ before.number
  -- the packet doesn't pass
  pub stops : outcome.verdict ≡ Block
  -- and names it
  pub named : outcome.state ≡ Some number

-- what packet `number` may change at a clock, over these states
abbrev pub IsOwnChange : ℕ → Clock → InterfacePlace → List State → Outcome → TableChange → Type 0
IsOwnChange number clock place states outcome (Made state) = IsMadeBy number clock place outcome state
IsOwnChange number clock place states outcome (Touched state) = IsTouchedOf states outcome state
IsOwnChange number clock place states outcome (Removed old) = IsRemovedOf states outcome old

-- nothing changes, or a state is taken out
abbrev pub only_removes : Option TableChange → Bool
only_removes None = true
only_removes (Some (Made state)) = false
only_removes (Some (Touched state)) = false
only_removes (Some (Removed number)) = true

-- ---- packets that are passed over

-- an outcome with which a packet goes on; it leaves the table and the packet as they are, and names neither rule nor
-- state
pub record IsUntouched (outcome : Outcome) : Type 0 where
  pub goes_on : (outcome.verdict ≡ Pass) ⊎ (outcome.verdict ≡ Skip)
  pub change_is : outcome.change ≡ None
  pub bytes_are : outcome.bytes ≡ None
  pub state_is : outcome.state ≡ None
  pub rule_is : outcome.rule ≡ None
  pub translation_is : outcome.translation ≡ None
  -- no rule of either kind is visited
  pub visited_is : outcome.visited ≡ record { translation = []; filter = [] }

-- ---- IP options

-- the rule that the outcome names allows IP options, or the state of the table that it names does
abbrev pub HasLeave : List FlatRule → List State → Outcome → Type 0
HasLeave rules states outcome =
    ((number : RuleNumber) × (rule : FlatRule) × (slice_get rules number.0 ≡ Some rule) × (outcome.rule ≡ Some number) × (rule.allow_opts ≡ true))
    ⊎ ((state : State) × Contains states state × (outcome.state ≡ Some state.number) × (state.rules.allows_options ≡ true))

-- ---- what a state says of its rules

-- a rule says that a standby isn't told of its states
abbrev pub says_no_sync : FlatRule → Bool
says_no_sync rule = elim rule.state [ None ↦ false | Some kept ↦ kept.no_sync ]

-- a standby is told of the state unless the filter rule says `no-sync`, and the state lets IP options pass if and only
-- if that rule says `allow-opts`; without a filter rule a standby is told, and no IP options pass
abbrev pub SaysAsItsRule : List FlatRule → Option RuleNumber → StateRules → Type 0
SaysAsItsRule rules None said = (said.is_synchronised ≡ true) × (said.allows_options ≡ false)
SaysAsItsRule rules (Some number) said =
    (rule : FlatRule) → slice_get rules number.0 ≡ Some rule → (said.is_synchronised ≡ not (says_no_sync rule)) × (said.allows_options ≡ rule.allow_opts)

-- the policy of a state that the rule keeps, if it keeps one
abbrev pub policy_of : StatePolicy → Option FlatRule → StatePolicy
policy_of policy None = policy
policy_of policy (Some rule) = elim rule.state [ None ↦ policy | Some kept ↦ kept.policy ]

-- the policy of a state by the deciding filter rule; if no rule keeps the state, the ruleset's policy
abbrev pub policy_for : Ruleset → Option RuleNumber → StatePolicy
policy_for rules None = rules.options.state_policy
policy_for rules (Some number) = policy_of rules.options.state_policy (slice_get rules.filter.rules number.0)

-- the rules of a state that a packet of an interface makes are those on the packet's line, and it is bound by their
-- policy
pub record AreRulesOf (rules : Ruleset) (place : InterfacePlace) (outcome : Outcome) (said : StateRules) : Type 0 where
  pub filter : said.filter ≡ outcome.rule
  pub translation : said.translation ≡ outcome.translation
  pub conduct : SaysAsItsRule rules.filter.rules outcome.rule said
  pub binding : said.binding ≡ binding_by (policy_for rules outcome.rule) place

-- ---- visits

-- each number is in a list at most once
abbrev pub AtMostOnce : List ℕ → Type 0
AtMostOnce numbers = (number : ℕ) → count_by (λ other. other == number) numbers ≤ 1

-- ---- picks

-- how often a number is in a list
abbrev pub times : ℕ → List ℕ → ℕ
times number [] = 0
times number (x ∷ xs) = (if x == number then 1 else 0) + times number xs

-- ---- what the laws say

-- what a packet comes to depends on the answers to its questions alone
abbrev pub SameAnswersGiveTheSame : Type 0
SameAnswersGiveTheSame =
    (job : RunJob) (number : ℕ) (clock : Clock) (place : InterfacePlace) (view : View) (table other : StateTable)
    → All (SameAnswer (purged_at clock table) (purged_at clock other)) (asked_of job number clock place view table)
    → (step_of job number clock place view other ≡ step_of job number clock place view table)
    × (asked_of job number clock place view other ≡ asked_of job number clock place view table)

-- the table that a packet was evaluated over refuses none of its changes
abbrev pub NoChangeIsRefused : Type 0
NoChangeIsRefused =
    (job : RunJob) (number : ℕ) (clock : Clock) (place : InterfacePlace) (view : View) (table : StateTable) (change : TableChange)
    → IsTable table
    → (step_of job number clock place view table).change ≡ Some change
    → refusal change table.limit (purged clock table.states) ≡ None

-- what a packet changes is the one state that its outcome names
abbrev pub ChangesAreOfTheNamed : Type 0
ChangesAreOfTheNamed =
    (job : RunJob) (number : ℕ) (clock : Clock) (place : InterfacePlace) (view : View) (table : StateTable) (change : TableChange)
    → (step_of job number clock place view table).change ≡ Some change
    → IsOwnChange number clock place (purged clock table.states) (step_of job number clock place view table) change

-- a state that a packet makes is by the rules on its line
abbrev pub MadeByTheRulesNamed : Type 0
MadeByTheRulesNamed =
    (job : RunJob) (number : ℕ) (clock : Clock) (place : InterfacePlace) (view : View) (table : StateTable) (state : State)
    → (step_of job number clock place view table).change ≡ Some (Made state)
    → AreRulesOf job.rules place (step_of job number clock place view table) state.rules

-- a state is made only if its filter rule has room: a rule with a limit of states has fewer than that
abbrev pub MadeWhereItsRuleHasRoom : Type 0
MadeWhereItsRuleHasRoom =
    (job : RunJob) (number : ℕ) (clock : Clock) (place : InterfacePlace) (view : View) (table : StateTable) (state : State) (by : RuleNumber) (rule : FlatRule) (most : ℕ)
    → (step_of job number clock place view table).change ≡ Some (Made state)
    → state.rules.filter ≡ Some by
    → slice_get job.rules.filter.rules by.0 ≡ Some rule
    → most_of rule.state ≡ Some most
    → count_of_rule by.0 (purged clock table.states) < most

-- what is written into a packet's bytes is made for that packet
abbrev pub WrittenIsOfThePacket : Type 0
WrittenIsOfThePacket =
    (job : RunJob) (number : ℕ) (clock : Clock) (place : InterfacePlace) (view : View) (table : StateTable) (change : Change)
    → (step_of job number clock place view table).bytes ≡ Some change
    → view ≡ Ipv4 change.packet

-- a packet that doesn't pass changes nothing, except that it may take a state out
abbrev pub BlockedOnlyRemoves : Type 0
BlockedOnlyRemoves =
    (job : RunJob) (number : ℕ) (clock : Clock) (place : InterfacePlace) (view : View) (table : StateTable)
    → lets_pass (step_of job number clock place view table).verdict ≡ false
    → only_removes (step_of job number clock place view table).change ≡ true

-- what is passed over asks nothing and changes nothing
abbrev pub PassedOverChangesNothing : Type 0
PassedOverChangesNothing =
    (job : RunJob) (number : ℕ) (clock : Clock) (place : InterfacePlace) (view : View) (table : StateTable)
    → (view ≡ Skip) ⊎ (is_skipped job place ≡ true)
    → IsUntouched (step_of job number clock place view table) × (asked_of job number clock place view table ≡ [])

-- what opens no connection changes no state
abbrev pub OpensNoConnection : Type 0
OpensNoConnection =
    (job : RunJob) (number : ℕ) (clock : Clock) (place : InterfacePlace) (packet : Packet) (table : StateTable)
    → opens_connection packet.transport ≡ false
    → (step_of job number clock place (Ipv4 packet) table).change ≡ None

-- if a state is found, no rule is visited
abbrev pub NoRuleBehindAState : Type 0
NoRuleBehindAState =
    (job : RunJob) (number : ℕ) (clock : Clock) (place : InterfacePlace) (packet : Packet) (table : StateTable) (key : Key) (state : State)
    → (subject_of (direction_of job place packet) packet ≡ Embedded key) ⊎ (subject_of (direction_of job place packet) packet ≡ Connection key)
    → found_in (purged_at clock table) (looked_up_on job.tap (direction_of job place packet)) key (binding.To place) ≡ Some state
    → (step_of job number clock place (Ipv4 packet) table).visited ≡ none_visited

-- a packet visits each filter rule and each translation rule at most once, if the translation rules have numbers of
-- their own
abbrev pub VisitsRulesOnce : Type 0
VisitsRulesOnce =
    (job : RunJob) (number : ℕ) (clock : Clock) (place : InterfacePlace) (view : View) (table : StateTable)
    → HaveOwnNumbers job.rules.translations
    → AtMostOnce (step_of job number clock place view table).visited.filter
    × AtMostOnce (step_of job number clock place view table).visited.translation

-- the limit of states blocks only if the table is full
abbrev pub LimitBlocksWhereReached : Type 0
LimitBlocksWhereReached =
    (job : RunJob) (number : ℕ) (clock : Clock) (place : InterfacePlace) (packet : Packet) (table : StateTable)
    → (step_of job number clock place (Ipv4 packet) table).reason ≡ StateLimit
    → has_room_in (purged_at clock table) ≡ false

-- nothing is written into a packet that doesn't pass
abbrev pub BlockedIsNotWritten : Type 0
BlockedIsNotWritten =
    (job : RunJob) (number : ℕ) (clock : Clock) (place : InterfacePlace) (packet : Packet) (table : StateTable)
    → lets_pass (step_of job number clock place (Ipv4 packet) table).verdict ≡ false
    → (step_of job number clock place (Ipv4 packet) table).bytes ≡ None

-- a packet with IP options passes only if a rule or a state allows them
abbrev pub OptionsPassByLeave : Type 0
OptionsPassByLeave =
    (job : RunJob) (number : ℕ) (clock : Clock) (place : InterfacePlace) (packet : Packet) (table : StateTable)
    → has_options packet ≡ true
    → lets_pass (step_of job number clock place (Ipv4 packet) table).verdict ≡ true
    → ((step_of job number clock place (Ipv4 packet) table).reason ≡ SkipOn → ⊥)
    → HasLeave job.rules.filter.rules (purged_at clock table).states (step_of job number clock place (Ipv4 packet) table)

-- each port of a range is tried once, and no other port
abbrev pub EachPortOnce : Type 0
EachPortOnce =
    (low high word port : ℕ)
    → low ≤ high
    → (low ≤ port → port ≤ high → times port (try_list low high word) ≡ 1)
    × ((port < low) ⊎ (high < port) → times port (try_list low high word) ≡ 0)

-- it goes on by the key of the first free port, and the table is asked for the keys up to it
abbrev pub FirstFreeIsPicked : Type 0
FirstFreeIsPicked =
    (table : StateTable) (wire : ℕ → Key) (next : Option Key → Plan) (ports : List ℕ)
    → (outcome_of table (picking wire next ports) ≡ outcome_of table (next (picked table wire ports)))
    × (questions_of table (picking wire next ports)
    ≡ up_to_first (is_free_in table wire) (λ port. At Wire (wire port) binding.All) ports ++ questions_of table (next (picked table wire ports)))

-- none is picked if and only if none is free
abbrev pub NoneWhereAllAreTaken : Type 0
NoneWhereAllAreTaken =
    (table : StateTable) (wire : ℕ → Key) (ports : List ℕ)
    → (picked table wire ports ≡ None) ↔ All (λ port. is_free_in table wire port ≡ false) ports
