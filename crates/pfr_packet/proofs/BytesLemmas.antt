-- Where what is written into a packet comes from, along the plan of the packet.
use Rattle.std.proofs.Common.{◌≡◌, ℕ, Bool, true, false, not, ◌&&◌, Option, Some, None, cond, refl, sym, ap, ◌∙◌, subst}
use Rattle.pfr_net.specs.declared.direction.Direction.{Direction}
use Rattle.pfr_net.specs.declared.interface.Binding.TheVariants as binding
use Rattle.pfr_net.specs.declared.interface.InterfacePlace.{InterfacePlace}
use Rattle.pfr_ruleset.specs.declared.ruleset.Ruleset.{Ruleset}
use Rattle.pfr_headers.specs.declared.change.Change.{Change}
use Rattle.pfr_headers.specs.declared.packet.Packet.{Packet}
use Rattle.pfr_headers.specs.declared.packet.View.{View}
use Rattle.pfr_headers.specs.declared.packet.View.TheVariants.{Ipv4, Skip, Short}
use Rattle.pfr_headers.specs.View.{has_options}
use Rattle.pfr_track.specs.declared.key.Key.{Key}
use Rattle.pfr_track.specs.declared.outcome.Touch.{Touch}
use Rattle.pfr_track.specs.declared.outcome.Touch.TheVariants as touch
use Rattle.pfr_track.specs.declared.state.State.{State}
use Rattle.pfr_track.specs.declared.state.StateRules.{StateRules}
use Rattle.pfr_track.specs.declared.time.Clock.{Clock}
use Rattle.pfr_track.specs.Tracking.{made, touched}
use Rattle.pfr_states.specs.declared.change.Side.TheVariants.{Wire, Stack}
use Rattle.pfr_states.specs.declared.change.TableChange.{TableChange}
use Rattle.pfr_states.specs.declared.change.TableChange.TheVariants.{Touched}
use Rattle.pfr_states.specs.States.{StateTable, is_same_end}
use Rattle.pfr_packet.specs.declared.keys.Subject.{Subject}
use Rattle.pfr_packet.specs.declared.keys.Subject.TheVariants.{Alone, Embedded, Connection}
use Rattle.pfr_packet.specs.declared.passage.Passage.{Passage}
use Rattle.pfr_packet.specs.declared.outcome.Outcome.{Outcome}
use Rattle.pfr_packet.specs.declared.verdict.Reason.{Reason}
use Rattle.pfr_packet.specs.declared.verdict.Reason.TheVariants as reason
use Rattle.pfr_packet.specs.Filtering.{conduct_of, decided, filtered}
use Rattle.pfr_packet.specs.Found.{passed, tracked}
use Rattle.pfr_packet.specs.Job.{RunJob, direction_of, is_skipped, name_in, timeouts_of}
use Rattle.pfr_packet.specs.Keys.{subject_of, written_by}
use Rattle.pfr_packet.specs.Making.{making, with_keys, with_room}
use Rattle.pfr_packet.specs.Outcomes.{blocked, without_leave}
use Rattle.pfr_packet.specs.Passages.{judged, judged_kept}
use Rattle.pfr_states.specs.Answers.{found_in, has_room_in, purged_at}
use Rattle.pfr_packet.specs.Plan.{FilterAnswer, Plan, done, filter_answer, outcome_of}
use Rattle.pfr_packet.specs.Steps.{answer_for, by_connection, by_embedded, opened, opening, packet_plan, passed_over, plan, step_of, subject_plan}
use Rattle.pfr_packet.specs.Verdicts.{lets_pass}
use Rattle.pfr_packet.proofs.ChangeLemmas.{passing}
use Rattle.pfr_packet.proofs.OpeningLemmas.{going_way, judged_writes_nothing, opening_way}
use Rattle.pfr_packet.specs.Taps.{looked_up_on}
use Rattle.pfr_packet.proofs.ShownLemmas.{shown_either}

-- what is written is of this packet
abbrev IsOf : Packet → Option Change → Type 0
IsOf packet None = Unit {0}
IsOf packet (Some change) = change.packet ≡ packet

abbrev Writes : Packet → Outcome → Type 0
Writes packet outcome = IsOf packet outcome.bytes

blocked_writes : (packet : Packet) (test : Bool) (why : Reason) (outcome : Outcome) → Writes packet outcome → Writes packet (cond test (blocked why outcome) outcome)
blocked_writes packet true why outcome h = tt
blocked_writes packet false why outcome h = h

leave_writes : (packet : Packet) (allowed : Bool) (outcome : Outcome) → Writes packet outcome → Writes packet (without_leave packet allowed outcome)
leave_writes packet allowed outcome h = blocked_writes packet (lets_pass outcome.verdict && (has_options packet && not allowed)) reason.IpOption outcome h

filtered_writes : (rules : Ruleset) (answer : FilterAnswer) (packet : Packet) (direction : Direction) → Writes packet (filtered rules answer packet direction)
unfolding filtered
filtered_writes rules answer packet direction =
    leave_writes packet (conduct_of rules.filter.rules answer.decision.rule).allows_options (decided direction answer.decision answer.visits) tt

translated_writes : (packet : Packet) (same : Bool) (change : Change) → change.packet ≡ packet → IsOf packet (cond same None (Some change))
translated_writes packet true change is = tt
translated_writes packet false change is = is

written_is : (direction : Direction) (packet : Packet) (wire stack : Key) → IsOf packet (written_by direction packet wire stack)
written_is direction packet wire stack = translated_writes packet (is_same_end wire.inside stack.inside) _ refl

passed_writes : (direction : Direction) (packet : Packet) (state : State) (why : Reason) (change : Option TableChange) → Writes packet (passed direction packet state why change)
passed_writes direction packet state why change =
    leave_writes packet state.rules.allows_options (passing direction packet state why change) (written_is direction packet state.wire state.stack)

tracked_writes : (direction : Direction) (packet : Packet) (state : State) (t : Touch) → Writes packet (tracked direction packet state t)
tracked_writes direction packet state (touch.Touched next) = passed_writes direction packet state reason.State (Some (Touched next))
tracked_writes direction packet state touch.Mismatch = tt
tracked_writes direction packet state touch.Removed = tt

room_writes : (table : StateTable) (packet : Packet) (state : State) (outcome : Outcome) (room : Bool) → Writes packet (outcome_of table (with_room packet state outcome room))
room_writes table packet state outcome true = written_is state.direction packet state.wire state.stack
room_writes table packet state outcome false = tt

keys_write : (table : StateTable) (packet : Packet) (state : State) (outcome : Outcome) (wire stack : Option State) → Writes packet (outcome_of table (with_keys packet state outcome wire stack))
keys_write table packet state outcome None None = room_writes table packet state outcome (has_room_in table)
keys_write table packet state outcome None (Some other) = tt
keys_write table packet state outcome (Some other) _ = tt

passing_writes : (table : StateTable) (packet : Packet) (state : State) (outcome : Outcome) → Writes packet outcome → (test : Bool)
    → Writes packet (outcome_of table (cond test (making packet state outcome) (done outcome)))
passing_writes table packet state outcome h true = keys_write table packet state outcome (found_in table Wire state.wire state.rules.binding) (found_in table Stack state.stack state.rules.binding)
passing_writes table packet state outcome h false = h

opened_writes : (job : RunJob) (number : ℕ) (clock : Clock) (place : InterfacePlace) (table : StateTable) (packet : Packet) (direction : Direction) (passage : Passage) (outcome : Outcome)
    → Writes packet outcome → (kept : Option StateRules) → Writes packet (outcome_of table (opened job number clock place packet direction passage outcome kept))
opened_writes job number clock place table packet direction passage outcome h None = h
opened_writes job number clock place table packet direction passage outcome h (Some rules) =
    passing_writes table packet (made (record { 0 = number }) packet direction place passage.wire passage.stack rules clock (timeouts_of job)) outcome h (lets_pass outcome.verdict)

unwritten_writes : (packet : Packet) (outcome : Outcome) → outcome.bytes ≡ None → Writes packet outcome
unwritten_writes packet outcome is = subst (IsOf packet) (sym is) tt

opening_writes : (job : RunJob) (number : ℕ) (clock : Clock) (place : InterfacePlace) (table : StateTable) (packet : Packet) (direction : Direction) (key : Key) → Writes packet (outcome_of table (opening job number clock place packet direction key))
opening_writes job number clock place table packet direction key = opening_way job number clock place table packet direction (Writes packet) (record {
  goes = λ visits passage. (let answer = answer_for job.rules (name_in job place) table direction packet passage in going_way job number clock place table packet direction (Writes packet) visits passage
      (opened_writes job number clock place table packet direction passage (judged job.rules answer direction packet passage visits)
      (unwritten_writes packet (judged job.rules answer direction packet passage visits) (judged_writes_nothing job.rules answer direction packet passage visits)) (judged_kept place job.rules answer direction packet passage)));
  has_no_port = λ rule visits. tt;
}) key

by_embedded_writes : (job : RunJob) (place : InterfacePlace) (table : StateTable) (packet : Packet) (direction : Direction) (found : Option State) → Writes packet (outcome_of table (by_embedded job place packet direction found))
by_embedded_writes job place table packet direction None = filtered_writes job.rules (filter_answer job.rules (name_in job place) table packet direction) packet direction
by_embedded_writes job place table packet direction (Some state) = shown_either (Writes packet) job.tap direction _ (passed_writes direction packet state reason.StateError None) tt

by_connection_writes : (job : RunJob) (number : ℕ) (clock : Clock) (place : InterfacePlace) (table : StateTable) (packet : Packet) (direction : Direction) (key : Key) (found : Option State)
    → Writes packet (outcome_of table (by_connection job number clock place packet direction key found))
by_connection_writes job number clock place table packet direction key None = opening_writes job number clock place table packet direction key
by_connection_writes job number clock place table packet direction key (Some state) = shown_either (Writes packet) job.tap direction _ (tracked_writes direction packet state (touched state packet direction clock (timeouts_of job))) tt

subject_writes : (job : RunJob) (number : ℕ) (clock : Clock) (place : InterfacePlace) (table : StateTable) (packet : Packet) (direction : Direction) (subject : Subject)
    → Writes packet (outcome_of table (subject_plan job number clock place packet direction subject))
subject_writes job number clock place table packet direction Alone = filtered_writes job.rules (filter_answer job.rules (name_in job place) table packet direction) packet direction
subject_writes job number clock place table packet direction (Embedded key) = by_embedded_writes job place table packet direction (found_in table (looked_up_on job.tap direction) key (binding.To place))
subject_writes job number clock place table packet direction (Connection key) = by_connection_writes job number clock place table packet direction key (found_in table (looked_up_on job.tap direction) key (binding.To place))

packet_writes : (job : RunJob) (number : ℕ) (clock : Clock) (place : InterfacePlace) (table : StateTable) (packet : Packet) (direction : Direction)
    → Writes packet (outcome_of table (packet_plan job number clock place packet direction))
unfolding packet_plan
packet_writes job number clock place table packet direction = subject_writes job number clock place table packet direction (subject_of direction packet)

-- ---- a frame

skipped_writes : (table : StateTable) (packet : Packet) (skipped : Bool) (other : Plan) → Writes packet (outcome_of table other)
    → Writes packet (outcome_of table (cond skipped (done passed_over) other))
skipped_writes table packet true other h = tt
skipped_writes table packet false other h = h

abbrev IsOfView : View → Option Change → Type 0
IsOfView view None = Unit {0}
IsOfView view (Some change) = view ≡ Ipv4 change.packet

of_packet : (packet : Packet) (change : Option Change) → IsOf packet change → IsOfView (Ipv4 packet) change
of_packet packet None h = tt
of_packet packet (Some change) h = ap (λ p. Ipv4 p) (sym h)

short_writes : (table : StateTable) (skipped : Bool) (other : Outcome) → other.bytes ≡ None → IsOfView Short (outcome_of table (cond skipped (done passed_over) (done other))).bytes
short_writes table true other h = tt
short_writes table false other h = rw h tt

plan_writes : (job : RunJob) (number : ℕ) (clock : Clock) (place : InterfacePlace) (table : StateTable) (view : View) → IsOfView view (outcome_of table (plan job number clock place view)).bytes
unfolding plan
plan_writes job number clock place table Skip = tt
plan_writes job number clock place table Short = short_writes table (is_skipped job place) _ refl
plan_writes job number clock place table (Ipv4 packet) =
    of_packet packet _ (skipped_writes table packet (is_skipped job place) (packet_plan job number clock place packet (direction_of job place packet))
    (packet_writes job number clock place table packet (direction_of job place packet)))

of_view : (view : View) (is : Option Change) (change : Change) → is ≡ Some change → IsOfView view is → view ≡ Ipv4 change.packet
of_view view None change same h = absurd (cc same)
of_view view (Some other) change same h = (let is : other ≡ change = cc same in h ∙ ap (λ (c : Change). Ipv4 c.packet) is)

pub written_of : (job : RunJob) (number : ℕ) (clock : Clock) (place : InterfacePlace) (view : View) (table : StateTable) (change : Change)
    → (step_of job number clock place view table).bytes ≡ Some change → view ≡ Ipv4 change.packet
unfolding step_of
written_of job number clock place view table change is =
    of_view view (outcome_of (purged_at clock table) (plan job number clock place view)).bytes change is (plan_writes job number clock place (purged_at clock table) view)
