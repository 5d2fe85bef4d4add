-- The evaluation of one packet, in the order in which it is gone through:
--
--   what is no IPv4 packet is passed over
--   packets of an interface that isn't filtered pass
--   what is too short is blocked
--   a part of a packet, and an ICMP message of no connection, is filtered, and makes no state
--   an ICMP error passes by the state of the packet that it embeds; without one it is filtered, and makes no state
--   a packet of a state's connection is tracked; only a state counts that is bound to the packet's interface, or to all
--   any other is translated, if a translation rule says so; it is blocked if no port is free for it on all interfaces
--   behind its translation it is filtered, unless the rule says `pass`; a rule with `max` is asked whether it has room
--   if it passes it makes the state that the deciding rule keeps, if there is a place for it; translated it makes one
--   anyhow
--
-- Packets with IP options are blocked if they would pass and their rule doesn't allow them, before a state is made.
use Rattle.std.specs.Prelude.{ℕ, Bool, true, false, if◌then◌else◌, List, [], Option, Some, None}
use Rattle.pfr_net.specs.declared.direction.Direction.{Direction}
use Rattle.pfr_net.specs.declared.interface.Binding.TheVariants.{To}
use Rattle.pfr_net.specs.declared.interface.IfName.{IfName}
use Rattle.pfr_net.specs.declared.interface.InterfacePlace.{InterfacePlace}
use Rattle.pfr_ruleset.specs.declared.flat.NatAddress.{NatAddress}
use Rattle.pfr_ruleset.specs.declared.flat.StateRule.{StateRule}
use Rattle.pfr_ruleset.specs.declared.ruleset.Ruleset.{Ruleset}
use Rattle.pfr_headers.specs.declared.packet.Packet.{Packet}
use Rattle.pfr_headers.specs.declared.packet.View.{View}
use Rattle.pfr_headers.specs.declared.packet.View.TheVariants.{Ipv4, Skip, Short}
use Rattle.pfr_rules.specs.declared.hit.Hit.{Hit}
use Rattle.pfr_rules.specs.declared.hit.NewEnd.{NewEnd}
use Rattle.pfr_rules.specs.declared.hit.NewEnd.TheVariants.{Mapped, Picked}
use Rattle.pfr_rules.specs.Filter.{rooms_asked, rooms_in}
use Rattle.pfr_rules.specs.Translating.{hit_of, translations_visited}
use Rattle.pfr_track.specs.declared.key.Key.{Key}
use Rattle.pfr_track.specs.declared.state.State.{State}
use Rattle.pfr_track.specs.declared.state.StateRules.{StateRules}
use Rattle.pfr_track.specs.declared.time.Clock.{Clock}
use Rattle.pfr_track.specs.Tracking.{made, touched}
use Rattle.pfr_states.specs.States.{StateTable}
use Rattle.pfr_states.specs.declared.question.Question.{Question}
use Rattle.pfr_states.specs.Answers.{purged_at}
use Rattle.pfr_packet.specs.declared.evaluation.Arrival.{Arrival}
use Rattle.pfr_packet.specs.declared.keys.Subject.{Subject}
use Rattle.pfr_packet.specs.declared.keys.Subject.TheVariants.{Alone, Embedded, Connection}
use Rattle.pfr_packet.specs.declared.passage.Passage.{Passage}
use Rattle.pfr_packet.specs.declared.outcome.Outcome.{Outcome}
use Rattle.pfr_packet.specs.declared.verdict.Reason.TheVariants as reason
use Rattle.pfr_packet.specs.declared.verdict.Verdict.TheVariants as verdict
use Rattle.pfr_packet.specs.Filtering.{filtered, filtered_over, kept_over, leave_over}
use Rattle.pfr_packet.specs.Found.{embedded, tracked}
use Rattle.pfr_packet.specs.Job.{RunJob, direction_of, is_skipped, name_in, timeouts_of}
use Rattle.pfr_packet.specs.Keys.{subject_of}
use Rattle.pfr_packet.specs.Making.{making}
use Rattle.pfr_packet.specs.Outcomes.{unseen}
use Rattle.pfr_packet.specs.Passages.{behind, exhausted, judged, judged_kept, mapped_end, mapped_passage, picked_passage, untranslated}
use Rattle.pfr_packet.specs.Picks.{picking, ports_for, tries, wire_with, word_of}
use Rattle.pfr_packet.specs.Plan.{FilterAnswer, Plan, done, ask_at, ask_filter, filter_answer, no_answer, outcome_of, questions_of}
use Rattle.pfr_packet.specs.Taps.{as_shown, is_translated, looked_up_on}
use Rattle.pfr_packet.specs.Verdicts.{lets_pass}

-- ---- filtered without a state

abbrev pub alone : RunJob → InterfacePlace → Packet → Direction → Plan
alone job place packet direction =
    ask_filter job.rules (name_in job place) packet direction (λ answer. done (filtered job.rules answer packet direction))

-- ---- an error, by the packet that it embeds

abbrev pub by_embedded : RunJob → InterfacePlace → Packet → Direction → Option State → Plan
by_embedded job place packet direction None = alone job place packet direction
by_embedded job place packet direction (Some state) = done (as_shown job.tap direction (embedded direction packet state))

abbrev pub asking_embedded : RunJob → InterfacePlace → Packet → Direction → Key → Plan
asking_embedded job place packet direction key = ask_at (looked_up_on job.tap direction) key (To place) (by_embedded job place packet direction)

-- ---- a packet of a connection

-- one that is not the first is tracked
abbrev pub following : RunJob → Clock → Packet → Direction → State → Outcome
following job clock packet direction state = as_shown job.tap direction (tracked direction packet state (touched state packet direction clock (timeouts_of job)))

-- the first one makes a state, if it passes so far and a rule keeps one
abbrev pub opened : RunJob → ℕ → Clock → InterfacePlace → Packet → Direction → Passage → Outcome → Option StateRules → Plan
opened job number clock place packet direction passage outcome None = done outcome
opened job number clock place packet direction passage outcome (Some rules) =
    if lets_pass outcome.verdict
    then making packet (made (record { 0 = number }) packet direction place passage.wire passage.stack rules clock (timeouts_of job)) outcome
    else done outcome

-- what the filter answers for a packet on the interface of a name, behind a passage over a table, unless the packet
-- isn't filtered
abbrev pub answer_for : Ruleset → IfName → StateTable → Direction → Packet → Passage → FilterAnswer
answer_for rules name table direction packet passage =
    if passage.passes then no_answer else filter_answer rules name table (behind direction passage packet) direction

-- the filter is asked, unless the packet isn't filtered
abbrev pub unless_passed : Ruleset → IfName → Packet → Direction → Bool → (FilterAnswer → Plan) → Plan
unless_passed rules name packet direction true next = next no_answer
unless_passed rules name packet direction false next = ask_filter rules name packet direction next

-- it goes on by the filter's answer
abbrev pub going_on : RunJob → ℕ → Clock → InterfacePlace → Packet → Direction → List ℕ → Passage → FilterAnswer → Plan
going_on job number clock place packet direction visits passage answer =
    opened job number clock place packet direction passage (judged job.rules answer direction packet passage visits) (judged_kept place job.rules answer direction packet passage)

-- it goes through by a passage; these translation rules were visited
abbrev pub going : RunJob → ℕ → Clock → InterfacePlace → Packet → Direction → List ℕ → Passage → Plan
going job number clock place packet direction visits passage =
    unless_passed job.rules (name_in job place) (behind direction passage packet) direction passage.passes
    (going_on job number clock place packet direction visits passage)

-- with a key on the wire that was picked, if one is free
abbrev pub by_pick : RunJob → ℕ → Clock → InterfacePlace → Packet → Direction → List ℕ → Key → Hit → Option Key → Plan
by_pick job number clock place packet direction visits key hit None = done (exhausted direction hit.number visits)
by_pick job number clock place packet direction visits key hit (Some wire) = going job number clock place packet direction visits (picked_passage key hit wire)

-- by what the rule says of the end that it translates
abbrev pub by_end : RunJob → ℕ → Clock → InterfacePlace → Packet → Direction → List ℕ → Key → Hit → NewEnd → Plan
by_end job number clock place packet direction visits key hit (Mapped address mapping) =
    going job number clock place packet direction visits (mapped_passage direction key hit (mapped_end packet.transport key.inside address mapping))
by_end job number clock place packet direction visits key hit (Picked target) =
    picking (wire_with packet.transport key target.address) (by_pick job number clock place packet direction visits key hit)
    (tries (ports_for packet.transport target key.inside.port) (word_of job.seed number))

-- by the rule that translates it, if one does
abbrev pub by_hit : RunJob → ℕ → Clock → InterfacePlace → Packet → Direction → List ℕ → Key → Option Hit → Plan
by_hit job number clock place packet direction visits key None = going job number clock place packet direction visits (untranslated key)
by_hit job number clock place packet direction visits key (Some hit) = by_end job number clock place packet direction visits key hit hit.new_end

-- translation rules aren't asked for a packet that is shown behind its translation
abbrev pub translations_asked : RunJob → InterfacePlace → Packet → Direction → List ℕ
translations_asked job place packet direction =
    if is_translated job.tap direction then [] else translations_visited job.rules (name_in job place) packet direction

abbrev pub translation_hit : RunJob → InterfacePlace → Packet → Direction → Option Hit
translation_hit job place packet direction = if is_translated job.tap direction then None else hit_of job.rules (name_in job place) packet direction

abbrev pub opening : RunJob → ℕ → Clock → InterfacePlace → Packet → Direction → Key → Plan
opening job number clock place packet direction key =
    by_hit job number clock place packet direction (translations_asked job place packet direction) key (translation_hit job place packet direction)

abbrev pub by_connection : RunJob → ℕ → Clock → InterfacePlace → Packet → Direction → Key → Option State → Plan
by_connection job number clock place packet direction key None = opening job number clock place packet direction key
by_connection job number clock place packet direction key (Some state) = done (following job clock packet direction state)

abbrev pub asking_connection : RunJob → ℕ → Clock → InterfacePlace → Packet → Direction → Key → Plan
asking_connection job number clock place packet direction key = ask_at (looked_up_on job.tap direction) key (To place) (by_connection job number clock place packet direction key)

-- ---- an IPv4 packet

abbrev pub subject_plan : RunJob → ℕ → Clock → InterfacePlace → Packet → Direction → Subject → Plan
subject_plan job number clock place packet direction Alone = alone job place packet direction
subject_plan job number clock place packet direction (Embedded key) = asking_embedded job place packet direction key
subject_plan job number clock place packet direction (Connection key) = asking_connection job number clock place packet direction key

unfoldable pub packet_plan : RunJob → ℕ → Clock → InterfacePlace → Packet → Direction → Plan
packet_plan job number clock place packet direction = subject_plan job number clock place packet direction (subject_of direction packet)

-- the plans of a packet that arrives: as an error, and as the first packet of a connection that goes through by a
-- passage, by a translation rule, and in all
abbrev pub embedded_plan : Arrival → Key → Plan
embedded_plan arrival key = asking_embedded arrival.job.now arrival.place arrival.packet.now arrival.direction key

abbrev pub alone_plan : Arrival → Plan
alone_plan arrival = alone arrival.job.now arrival.place arrival.packet.now arrival.direction

abbrev pub behind_passage : Arrival → Passage → Packet
behind_passage arrival passage = behind arrival.direction passage arrival.packet.now

-- the name of its interface
abbrev pub name_of : Arrival → IfName
name_of arrival = name_in arrival.job.now arrival.place

-- the questions for it about the room of rules
abbrev pub asked_behind : Arrival → StateTable → Passage → List Question
asked_behind arrival table passage =
    rooms_asked arrival.job.now.rules (rooms_in table) (name_of arrival) (behind_passage arrival passage) arrival.direction

abbrev pub asked_for : Arrival → StateTable → Passage → List Question
asked_for arrival table passage = if passage.passes then [] else asked_behind arrival table passage

-- what the filter makes of it there over a table, whether the deciding rule allows IP options, and the state that this
-- rule keeps
abbrev pub filtered_behind : Arrival → StateTable → Passage → Outcome
filtered_behind arrival table passage = filtered_over arrival.job.now.rules (name_of arrival) table (behind_passage arrival passage) arrival.direction

abbrev pub leave_behind : Arrival → StateTable → Passage → Bool
leave_behind arrival table passage = leave_over arrival.job.now.rules (name_of arrival) table (behind_passage arrival passage) arrival.direction

abbrev pub state_behind : Arrival → StateTable → Passage → Option StateRule
state_behind arrival table passage = kept_over arrival.job.now.rules (name_of arrival) table (behind_passage arrival passage) arrival.direction

-- what becomes of it behind a passage over a table; it isn't filtered if the passage lets it pass; and what the state
-- that it may make says of its rules
abbrev pub judged_for : Arrival → StateTable → Passage → List ℕ → Outcome
judged_for arrival table passage visits =
    judged arrival.job.now.rules (answer_for arrival.job.now.rules (name_of arrival) table arrival.direction arrival.packet.now passage)
    arrival.direction arrival.packet.now passage visits

abbrev pub kept_for : Arrival → StateTable → Passage → Option StateRules
kept_for arrival table passage =
    judged_kept arrival.place arrival.job.now.rules
    (answer_for arrival.job.now.rules (name_of arrival) table arrival.direction arrival.packet.now passage)
    arrival.direction arrival.packet.now passage

abbrev pub opened_plan : Arrival → Passage → Outcome → Option StateRules → Plan
opened_plan arrival passage outcome kept = opened arrival.job.now arrival.number arrival.clock arrival.place arrival.packet.now arrival.direction passage outcome kept

abbrev pub pick_plan : Arrival → List ℕ → Key → Hit → NatAddress → Plan
pick_plan arrival visits key hit target = by_end arrival.job.now arrival.number arrival.clock arrival.place arrival.packet.now arrival.direction visits key hit (Picked target)

abbrev pub going_plan : Arrival → List ℕ → Passage → Plan
going_plan arrival visits passage = going arrival.job.now arrival.number arrival.clock arrival.place arrival.packet.now arrival.direction visits passage

abbrev pub hit_plan : Arrival → List ℕ → Key → Option Hit → Plan
hit_plan arrival visits key hit = by_hit arrival.job.now arrival.number arrival.clock arrival.place arrival.packet.now arrival.direction visits key hit

abbrev pub opening_plan : Arrival → Key → Plan
opening_plan arrival key = opening arrival.job.now arrival.number arrival.clock arrival.place arrival.packet.now arrival.direction key

-- ---- a frame

abbrev pub passed_over : Outcome
passed_over = unseen verdict.Pass reason.SkipOn

unfoldable pub plan : RunJob → ℕ → Clock → InterfacePlace → View → Plan
plan job number clock place Skip = done (unseen verdict.Skip reason.NotIp)
plan job number clock place Short = if is_skipped job place then done passed_over else done (unseen verdict.Block reason.Short)
plan job number clock place (Ipv4 packet) =
    if is_skipped job place then done passed_over else packet_plan job number clock place packet (direction_of job place packet)

-- ---- over a table

-- what packet `number` of an interface comes to at a clock, over a table
unfoldable pub step_of : RunJob → ℕ → Clock → InterfacePlace → View → StateTable → Outcome
step_of job number clock place view table = outcome_of (purged_at clock table) (plan job number clock place view)

-- the questions to the table on the way
unfoldable pub asked_of : RunJob → ℕ → Clock → InterfacePlace → View → StateTable → List Question
asked_of job number clock place view table = questions_of (purged_at clock table) (plan job number clock place view)
