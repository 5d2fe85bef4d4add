-- A state is made only where its rule has room.
use Rattle.std.proofs.Common.{◌≡◌, ◌<◌, ℕ, Bool, true, false, Option, Some, None, List, slice_get, cond, refl, sym, ap, ◌∙◌, subst}
use Rattle.std.proofs.lemmas.Bool.{ltb-true}
use Rattle.pfr_net.specs.declared.direction.Direction.{Direction}
use Rattle.pfr_net.specs.declared.direction.Direction.TheVariants.{In, Out}
use Rattle.pfr_net.specs.declared.interface.IfName.{IfName}
use Rattle.pfr_net.specs.declared.interface.InterfacePlace.{InterfacePlace}
use Rattle.pfr_net.specs.declared.port.Port.{Port}
use Rattle.pfr_net.specs.declared.rule_number.RuleNumber.{RuleNumber}
use Rattle.pfr_ruleset.specs.declared.flat.FlatRule.{FlatRule}
use Rattle.pfr_ruleset.specs.declared.ruleset.Ruleset.{Ruleset}
use Rattle.pfr_headers.specs.declared.change.End.{End}
use Rattle.pfr_headers.specs.declared.change.End.TheVariants.{Source, Destination}
use Rattle.pfr_headers.specs.declared.icmp.IcmpMessage.{IcmpMessage}
use Rattle.pfr_headers.specs.declared.icmp.IcmpMessage.TheVariants as message
use Rattle.pfr_headers.specs.declared.packet.Packet.{Packet}
use Rattle.pfr_headers.specs.declared.packet.View.{View}
use Rattle.pfr_headers.specs.declared.packet.View.TheVariants.{Ipv4, Skip, Short}
use Rattle.pfr_headers.specs.declared.transport.Transport.{Transport}
use Rattle.pfr_headers.specs.declared.transport.Transport.TheVariants as transport
use Rattle.pfr_headers.specs.Translated.{message_with, transport_with}
use Rattle.pfr_criteria.specs.Transports.{message_opens, opens_connection}
use Rattle.pfr_rules.specs.Filter.{deciding, decision_by, most_of, rooms_in}
use Rattle.pfr_rules.proofs.RoomLemmas.{decides_with_room}
use Rattle.pfr_track.specs.declared.key.Key.{Key}
use Rattle.pfr_track.specs.declared.outcome.Touch.{Touch}
use Rattle.pfr_track.specs.declared.outcome.Touch.TheVariants as touch
use Rattle.pfr_track.specs.declared.state.State.{State}
use Rattle.pfr_track.specs.declared.time.Clock.{Clock}
use Rattle.pfr_states.specs.declared.change.TableChange.{TableChange}
use Rattle.pfr_states.specs.declared.change.TableChange.TheVariants.{Made, Touched, Removed}
use Rattle.pfr_states.specs.Answers.{has_rule_room_in, purged_at}
use Rattle.pfr_states.specs.States.{StateTable, count_of_rule, has_rule_room, purged}
use Rattle.pfr_packet.specs.declared.keys.Subject.TheVariants.{Connection}
use Rattle.pfr_packet.specs.declared.passage.Passage.{Passage}
use Rattle.pfr_packet.specs.declared.outcome.Outcome.{Outcome}
use Rattle.pfr_packet.specs.declared.verdict.Reason.TheVariants as reason
use Rattle.pfr_packet.specs.declared.verdict.Verdict.TheVariants as verdict
use Rattle.pfr_packet.specs.Filtering.{filtered}
use Rattle.pfr_packet.specs.Found.{tracked}
use Rattle.pfr_packet.specs.Job.{RunJob, direction_of, is_skipped, name_in}
use Rattle.pfr_packet.specs.Keys.{message_subject, subject_by, translated_end}
use Rattle.pfr_packet.specs.Outcomes.{unseen}
use Rattle.pfr_packet.specs.Passages.{behind, by_way, judged, nat_passed, unfiltered}
use Rattle.pfr_packet.specs.Plan.{FilterAnswer, done, filter_answer, no_answer, outcome_of}
use Rattle.pfr_packet.specs.Steps.{answer_for, passed_over, plan, step_of}
use Rattle.pfr_packet.proofs.ChangeLemmas.{passing}
use Rattle.pfr_packet.proofs.OpeningLemmas.{either_blocked, filtered_way, judged_changes_nothing, lacks_leave}
use Rattle.pfr_packet.proofs.RuleLemmas.{filtered_rule, judged_says}
use Rattle.pfr_packet.proofs.WayLemmas.{IsFirst, judged_in, kept_in, step_way}
use Rattle.pfr_packet.proofs.ShownLemmas.{shown_either}

-- ---- packets that open connections

-- a packet with a key of its own opens a connection
connection_opens : (direction : Direction) (packet : Packet) (t : Transport) (key : Key) → subject_by direction packet t ≡ Connection key → opens_connection t ≡ true
connection_opens direction packet transport.Fragment key is = absurd (cc is)
connection_opens direction packet (transport.Tcp header) key is = refl
connection_opens direction packet (transport.Udp header) key is = refl
connection_opens direction packet (transport.Icmp header) key is = by_message header.message is
  where
    by_message : (m : IcmpMessage) → message_subject direction packet m ≡ Connection key → message_opens m ≡ true
    by_message (message.Echo identifier) is = refl
    by_message (message.Error inner) is = absurd (cc is)
    by_message message.Other is = absurd (cc is)
connection_opens direction packet transport.Other key is = refl

message_translated : (port : Port) (m : IcmpMessage) → message_opens (message_with port m) ≡ message_opens m
message_translated port (message.Echo identifier) = refl
message_translated port (message.Error inner) = refl
message_translated port message.Other = refl

transport_translated : (end : End) (port : Port) (t : Transport) → opens_connection (transport_with end port t) ≡ opens_connection t
transport_translated end port transport.Fragment = refl
transport_translated end port (transport.Tcp header) = refl
transport_translated end port (transport.Udp header) = refl
transport_translated end port (transport.Icmp header) = message_translated port header.message
transport_translated end port transport.Other = refl

-- and so does what it is behind its translation
translated_opens : (direction : Direction) (passage : Passage) (packet : Packet) (rule : Option RuleNumber) → opens_connection (behind direction (record passage { translation = rule }) packet).transport ≡ opens_connection packet.transport
translated_opens In passage packet None = refl
translated_opens Out passage packet None = refl
translated_opens In passage packet (Some number) = transport_translated Destination (translated_end In passage.wire passage.stack).port packet.transport
translated_opens Out passage packet (Some number) = transport_translated Source (translated_end Out passage.wire passage.stack).port packet.transport

behind_opens : (direction : Direction) (passage : Passage) (packet : Packet) → opens_connection (behind direction passage packet).transport ≡ opens_connection packet.transport
behind_opens direction passage packet = translated_opens direction passage packet passage.translation

-- ---- the rule that decides behind a passage

names_by : (rules : Ruleset) (direction : Direction) (packet : Packet) (passage : Passage) (visits : List ℕ) (answer : FilterAnswer) (passes : Bool)
    → (cond passes (unfiltered direction packet passage visits) (by_way passage visits (filtered rules (cond passes no_answer answer) (behind direction passage packet) direction))).rule ≡ (cond passes no_answer answer).decision.rule
names_by rules direction packet passage visits answer true =
    either_blocked (λ o. o.rule ≡ None) (lacks_leave (nat_passed direction passage visits) packet false) reason.IpOption (nat_passed direction passage visits) (λ free. refl) refl
names_by rules direction packet passage visits answer false = filtered_rule rules answer (behind direction passage packet) direction

-- what becomes of the packet names the rule that decides
judged_names : (rules : Ruleset) (name : IfName) (table : StateTable) (direction : Direction) (packet : Packet) (passage : Passage) (visits : List ℕ)
    → (judged rules (answer_for rules name table direction packet passage) direction packet passage visits).rule ≡ (answer_for rules name table direction packet passage).decision.rule
judged_names rules name table direction packet passage visits = names_by rules direction packet passage visits (filter_answer rules name table (behind direction passage packet) direction) passage.passes

-- if one is named the filter was asked
asked_by : (answer : FilterAnswer) (by : RuleNumber) (passes : Bool) → (cond passes no_answer answer).decision.rule ≡ Some by → answer.decision.rule ≡ Some by
asked_by answer by true is = absurd (cc is)
asked_by answer by false is = is

place_of : (rules : List FlatRule) (decided : Option ℕ) (by : RuleNumber) → (decision_by rules decided).rule ≡ Some by → decided ≡ Some by.0
place_of rules None by is = absurd (cc is)
place_of rules (Some place) by is =
    let same : record { 0 = place } ≡ by = cc is in
    ap (λ (number : RuleNumber). Some number.0) same

limit_is : (rule : FlatRule) (most : ℕ) (opens : Bool) → opens ≡ true → most_of rule.state ≡ Some most → cond opens (most_of rule.state) None ≡ Some most
limit_is rule most true is most_is = most_is
limit_is rule most false is most_is = absurd (cc is)

-- a rule by which a state is made has room
has_room : (job : RunJob) (place : InterfacePlace) (table : StateTable) (packet : Packet) (direction : Direction) (passage : Passage) (by : RuleNumber) (rule : FlatRule) (most : ℕ) → opens_connection packet.transport ≡ true
    → (answer_for job.rules (name_in job place) table direction packet passage).decision.rule ≡ Some by → slice_get job.rules.filter.rules by.0 ≡ Some rule → most_of rule.state ≡ Some most → has_rule_room_in table by.0 most ≡ true
has_room job place table packet direction passage by rule most opens named at most_is =
    let other : Packet = behind direction passage packet in
    let asked = asked_by (filter_answer job.rules (name_in job place) table other direction) by passage.passes named in
    decides_with_room job.rules (rooms_in table) (name_in job place) other direction by.0 most rule
    (place_of job.rules.filter.rules (deciding job.rules (rooms_in table) (name_in job place) other direction) by asked) at
    (limit_is rule most (opens_connection other.transport) (behind_opens direction passage packet ∙ opens) most_is)

-- ---- along the ways of a packet

-- the filter rule of a state that is made has room
abbrev RoomIf : Ruleset → StateTable → Option TableChange → Type 0
RoomIf rules table None = Unit {0}
RoomIf rules table (Some (Made state)) =
    (by : RuleNumber) (rule : FlatRule) (most : ℕ) → state.rules.filter ≡ Some by → slice_get rules.filter.rules by.0 ≡ Some rule → most_of rule.state ≡ Some most → has_rule_room_in table by.0 most ≡ true
RoomIf rules table (Some (Touched state)) = Unit {0}
RoomIf rules table (Some (Removed number)) = Unit {0}

abbrev HasRoom : Ruleset → StateTable → Outcome → Type 0
HasRoom rules table outcome = RoomIf rules table outcome.change

unchanged : (rules : Ruleset) (table : StateTable) (outcome : Outcome) → outcome.change ≡ None → HasRoom rules table outcome
unchanged rules table outcome is = subst (λ (change : Option TableChange). RoomIf rules table change) (sym is) tt

tracked_room : (rules : Ruleset) (table : StateTable) (direction : Direction) (packet : Packet) (state : State) (t : Touch) → HasRoom rules table (tracked direction packet state t)
tracked_room rules table direction packet state (touch.Touched next) = either_blocked (HasRoom rules table) _ reason.IpOption (passing direction packet state reason.State (Some (Touched next))) (λ free. tt) tt
tracked_room rules table direction packet state touch.Mismatch = tt
tracked_room rules table direction packet state touch.Removed = tt

made_room : (job : RunJob) (place : InterfacePlace) (table : StateTable) (packet : Packet) (direction : Direction) (passage : Passage) (visits : List ℕ) (state : State) → IsFirst job.tap place table packet direction → kept_in job place table packet direction passage ≡ Some state.rules
    → RoomIf job.rules table (Some (Made state))
made_room job place table packet direction passage visits state first kept by rule most filter_is at most_is =
    let answer = answer_for job.rules (name_in job place) table direction packet passage in
    let said = judged_says job.rules place answer direction packet passage visits state.rules kept in
    let named : answer.decision.rule ≡ Some by = sym (judged_names job.rules (name_in job place) table direction packet passage visits) ∙ sym said.filter ∙ filter_is in
    has_room job place table packet direction passage by rule most (connection_opens direction packet packet.transport first.key first.subject_is) named at most_is

short_room : (rules : Ruleset) (table : StateTable) (skipped : Bool) → HasRoom rules table (outcome_of table (cond skipped (done passed_over) (done (unseen verdict.Block reason.Short))))
short_room rules table true = tt
short_room rules table false = tt

view_room : (job : RunJob) (number : ℕ) (clock : Clock) (place : InterfacePlace) (view : View) (table : StateTable) → HasRoom job.rules (purged_at clock table) (step_of job number clock place view table)
unfolding step_of plan
view_room job number clock place Skip table = tt
view_room job number clock place Short table = short_room job.rules (purged_at clock table) (is_skipped job place)
view_room job number clock place (Ipv4 packet) table =
    let direction = direction_of job place packet in
    let now = purged_at clock table in
    step_way job number clock place table packet (HasRoom job.rules now) tt (record {
      by_rules = λ none. filtered_way job.rules (filter_answer job.rules (name_in job place) now packet direction) packet direction (HasRoom job.rules now) (λ free. tt) tt;
      by_error = λ key state is found. (let room = either_blocked (HasRoom job.rules now) _ reason.IpOption (passing direction packet state reason.StateError None) (λ free. tt) tt in shown_either (HasRoom job.rules now) job.tap direction _ room room);
      by_state = λ key state t is found. shown_either (HasRoom job.rules now) job.tap direction _ (tracked_room job.rules now direction packet state t) (tracked_room job.rules now direction packet state t);
      goes = λ passage visits first. unchanged job.rules now (judged_in job place now packet direction passage visits) (judged_changes_nothing job.rules (answer_for job.rules (name_in job place) now direction packet passage) direction packet passage visits);
      makes = λ passage visits state first passes kept. made_room job place now packet direction passage visits state first kept;
      has_no_place = λ passage visits first. tt;
      has_no_room = λ passage visits first full. tt;
      has_no_port = λ rule visits first. tt;
    })

room_of : (rules : Ruleset) (table : StateTable) (change : Option TableChange) (state : State) → change ≡ Some (Made state) → RoomIf rules table change → RoomIf rules table (Some (Made state))
room_of rules table change state is has = subst (λ (c : Option TableChange). RoomIf rules table c) is has

pub made_with_room : (job : RunJob) (number : ℕ) (clock : Clock) (place : InterfacePlace) (view : View) (table : StateTable) (state : State) (by : RuleNumber) (rule : FlatRule) (most : ℕ)
    → (step_of job number clock place view table).change ≡ Some (Made state) → state.rules.filter ≡ Some by → slice_get job.rules.filter.rules by.0 ≡ Some rule → most_of rule.state ≡ Some most
    → count_of_rule by.0 (purged clock table.states) < most
unfolding has_rule_room_in has_rule_room purged_at
made_with_room job number clock place view table state by rule most is filter_is at most_is =
    let has = room_of job.rules (purged_at clock table) (step_of job number clock place view table).change state is (view_room job number clock place view table) by rule most filter_is at most_is in
    ltb-true (count_of_rule by.0 (purged clock table.states)) most has
