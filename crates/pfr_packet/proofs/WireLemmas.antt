-- A packet that goes out by a state comes to the same where it is captured on the wire.
use Rattle.std.proofs.Common.{◌≡◌, ℕ, Bool, true, false, cond, not, ◌&&◌, Option, Some, None, refl, sym, ◌∙◌, ap, subst}
use Rattle.std.specs.List.{Contains}
use Rattle.pfr_net.specs.declared.direction.Direction.{Direction}
use Rattle.pfr_net.specs.declared.direction.Direction.TheVariants.{In, Out}
use Rattle.pfr_net.specs.declared.endpoint.Endpoint.{Endpoint}
use Rattle.pfr_net.specs.declared.interface.Binding.TheVariants.{To}
use Rattle.pfr_net.specs.declared.interface.InterfacePlace.{InterfacePlace}
use Rattle.pfr_net.specs.declared.timeout.Timeouts.{Timeouts}
use Rattle.pfr_net.specs.Interfaces.{meets}
use Rattle.pfr_headers.specs.declared.change.Change.{Change}
use Rattle.pfr_headers.specs.declared.change.End.TheVariants.{Source}
use Rattle.pfr_headers.specs.declared.packet.Packet.{Packet}
use Rattle.pfr_headers.specs.declared.packet.View.TheVariants.{Ipv4}
use Rattle.pfr_headers.specs.declared.tap.Tap.{Tap}
use Rattle.pfr_headers.specs.declared.tap.Tap.TheVariants as tap
use Rattle.pfr_headers.specs.View.{has_options}
use Rattle.pfr_track.specs.declared.outcome.Touch.{Touch}
use Rattle.pfr_track.specs.declared.outcome.Touch.TheVariants as touch
use Rattle.pfr_track.specs.declared.state.State.{State}
use Rattle.pfr_track.specs.declared.time.Clock.{Clock}
use Rattle.pfr_track.specs.Tracking.{touched}
use Rattle.pfr_track.proofs.TrackingTranslated.{touched_alike}
use Rattle.pfr_states.specs.declared.change.Side.{Side}
use Rattle.pfr_states.specs.declared.change.Side.TheVariants.{Wire, Stack}
use Rattle.pfr_states.specs.declared.change.TableChange.{TableChange}
use Rattle.pfr_states.specs.declared.change.TableChange.TheVariants.{Touched}
use Rattle.pfr_states.specs.Answers.{found_in, purged_at}
use Rattle.pfr_states.specs.States.{IsTable, StateTable, is_same_end, key_on, lives}
use Rattle.pfr_packet.specs.declared.keys.Subject.{Subject}
use Rattle.pfr_packet.specs.declared.keys.Subject.TheVariants.{Connection}
use Rattle.pfr_packet.specs.declared.outcome.Outcome.{Outcome}
use Rattle.pfr_packet.specs.declared.verdict.Reason.TheVariants as reason
use Rattle.pfr_packet.specs.declared.verdict.Verdict.TheVariants as verdict
use Rattle.pfr_packet.specs.Connections.{sent_on}
use Rattle.pfr_packet.specs.Found.{tracked}
use Rattle.pfr_packet.specs.Job.{RunJob, direction_of, is_skipped, timeouts_of}
use Rattle.pfr_packet.specs.Keys.{subject_of, written_by}
use Rattle.pfr_packet.specs.Outcomes.{blocked, by_state}
use Rattle.pfr_packet.specs.Plan.{Plan, done, outcome_of}
use Rattle.pfr_packet.specs.Settings.{GoesOutBy, SameOnTheWire}
use Rattle.pfr_packet.specs.Steps.{by_connection, packet_plan, passed_over, plan, step_of, subject_plan}
use Rattle.pfr_packet.specs.Taps.{as_shown, looked_up_on}
use Rattle.pfr_packet.proofs.AnswerLemmas.{found_by}
use Rattle.pfr_packet.proofs.BackLemmas.{purged_table, still_there}
use Rattle.pfr_packet.proofs.PassageLemmas.{subject_of_key}

-- ---- the packet as the state sends it on

abbrev sent_to : Packet → Endpoint → Bool → Packet
sent_to packet to same = sent_on packet (cond same None (Some (record { packet = packet; end = Source; to = to })))

sent_touched : (state : State) (packet : Packet) (to : Endpoint) (clock : Clock) (timeouts : Timeouts) (same : Bool) → touched state (sent_to packet to same) Out clock timeouts ≡ touched state packet Out clock timeouts
sent_touched state packet to clock timeouts true = refl
sent_touched state packet to clock timeouts false = touched_alike state packet Source to Out clock timeouts

sent_options : (packet : Packet) (to : Endpoint) (same : Bool) → has_options (sent_to packet to same) ≡ has_options packet
sent_options packet to true = refl
sent_options packet to false = refl

-- ---- what it comes to, with nothing written

abbrev unwritten : Outcome → Outcome
unwritten outcome = record outcome { bytes = None }

-- an outcome that passes, or is blocked for IP options, whatever would be written
either_way : (outcome : Outcome) (bytes other : Option Change) (options : Bool) (lacks : Bool)
    → unwritten (cond lacks (blocked reason.IpOption (record outcome { bytes = bytes })) (record outcome { bytes = bytes })) ≡ unwritten (cond lacks (blocked reason.IpOption (record outcome { bytes = other })) (record outcome { bytes = other }))
either_way outcome bytes other options true = refl
either_way outcome bytes other options false = refl

tracked_alike : (state : State) (packet sent : Packet) (t : Touch) → has_options sent ≡ has_options packet → unwritten (tracked Out sent state t) ≡ unwritten (tracked Out packet state t)
tracked_alike state packet sent (touch.Touched next) same =
    let outcome : Outcome = record (by_state Out state verdict.Pass reason.State) { change = Some (Touched next) } in
    rw same (either_way outcome (written_by Out sent state.wire state.stack) (written_by Out packet state.wire state.stack) true (has_options packet && not state.rules.allows_options))
tracked_alike state packet sent touch.Mismatch same = refl
tracked_alike state packet sent touch.Removed same = refl

-- ---- its evaluation

abbrev at_tap : RunJob → Tap → RunJob
at_tap job where_taken = record job { tap = where_taken }

-- by its state, which is found by its key on the side where it was captured
found_there : (job : RunJob) (side : Side) (where_taken : Tap) (number : ℕ) (clock : Clock) (place : InterfacePlace) (packet : Packet) (table : StateTable) (state : State)
    → looked_up_on where_taken Out ≡ side → subject_of Out packet ≡ Connection (key_on side state) → IsTable table → Contains table.states state → meets state.rules.binding (To place) ≡ true
    → outcome_of table (packet_plan (at_tap job where_taken) number clock place packet Out) ≡ as_shown where_taken Out (tracked Out packet state (touched state packet Out clock (timeouts_of job)))
unfolding packet_plan
found_there job side where_taken number clock place packet table state side_is subject_is is_table is_there met =
    let key = key_on side state in
    let all = as_shown where_taken Out (tracked Out packet state (touched state packet Out clock (timeouts_of job))) in
    let by_state : outcome_of table (by_connection (at_tap job where_taken) number clock place packet Out key (found_in table side key (To place))) ≡ all =
    subst (λ (found : Option State). outcome_of table (by_connection (at_tap job where_taken) number clock place packet Out key found) ≡ all) (sym (found_by table side state place is_table is_there met)) refl in
    let by_side : outcome_of table (by_connection (at_tap job where_taken) number clock place packet Out key (found_in table (looked_up_on where_taken Out) key (To place))) ≡ all =
    subst (λ (other : Side). outcome_of table (by_connection (at_tap job where_taken) number clock place packet Out key (found_in table other key (To place))) ≡ all) (sym side_is) by_state in
    subst (λ (subject : Subject). outcome_of table (subject_plan (at_tap job where_taken) number clock place packet Out subject) ≡ all) (sym subject_is) by_side

sent_protocol : (packet : Packet) (to : Endpoint) (same : Bool) → (sent_to packet to same).protocol ≡ packet.protocol
sent_protocol packet to true = refl
sent_protocol packet to false = refl

same_found : (job : RunJob) (number : ℕ) (clock : Clock) (place : InterfacePlace) (packet sent : Packet) (table : StateTable) (state : State) → IsTable table → Contains table.states state → meets state.rules.binding (To place) ≡ true → GoesOutBy packet sent state
    → outcome_of table (packet_plan (at_tap job tap.Wire) number clock place sent Out) ≡ unwritten (outcome_of table (packet_plan (at_tap job tap.Stack) number clock place packet Out))
same_found job number clock place packet sent table state is_table is_there met goes =
    let same = is_same_end state.wire.inside state.stack.inside in
    let timeouts = timeouts_of job in
    let touched_is = subst (λ (p : Packet). touched state p Out clock timeouts ≡ touched state packet Out clock timeouts) (sym goes.sent_is) (sent_touched state packet state.wire.inside clock timeouts same) in
    let options_is = subst (λ (p : Packet). has_options p ≡ has_options packet) (sym goes.sent_is) (sent_options packet state.wire.inside same) in
    let protocol_is = subst (λ (p : Packet). p.protocol ≡ packet.protocol) (sym goes.sent_is) (sent_protocol packet state.wire.inside same) in
    let on_wire = found_there job Wire tap.Wire number clock place sent table state refl (subject_of_key Out sent state.wire (goes.wire_protocol ∙ sym protocol_is) goes.is_sent) is_table is_there met in
    let on_stack = found_there job Stack tap.Stack number clock place packet table state refl (subject_of_key Out packet state.stack goes.stack_protocol goes.captured) is_table is_there met in
    on_wire
    ∙ tracked_alike state packet sent (touched state sent Out clock timeouts) options_is
    ∙ ap (λ (t : Touch). unwritten (tracked Out packet state t)) touched_is
    ∙ ap unwritten (sym on_stack)

-- the interface is filtered or isn't
either_skipped : (table : StateTable) (one other : Plan) (skipped : Bool) → outcome_of table one ≡ unwritten (outcome_of table other)
    → outcome_of table (cond skipped (done passed_over) one) ≡ unwritten (outcome_of table (cond skipped (done passed_over) other))
either_skipped table one other true is = refl
either_skipped table one other false is = is

pub same_on_wire : SameOnTheWire
unfolding step_of plan
same_on_wire job number clock place packet sent table state is_table is_there alive met goes way sent_way =
    let purged = purged_at clock table in
    let wired = at_tap job tap.Wire in
    let stacked = at_tap job tap.Stack in
    let found_is = same_found job number clock place packet sent purged state (purged_table clock table is_table) (still_there clock table state is_there alive) met goes in
    let sent_out : outcome_of purged (packet_plan wired number clock place sent (direction_of job place sent)) ≡ unwritten (outcome_of purged (packet_plan stacked number clock place packet Out)) =
    subst (λ (d : Direction). outcome_of purged (packet_plan wired number clock place sent d) ≡ unwritten (outcome_of purged (packet_plan stacked number clock place packet Out))) (sym sent_way) found_is in
    let both_out : outcome_of purged (packet_plan wired number clock place sent (direction_of job place sent)) ≡ unwritten (outcome_of purged (packet_plan stacked number clock place packet (direction_of job place packet))) =
    subst (λ (d : Direction). outcome_of purged (packet_plan wired number clock place sent (direction_of job place sent)) ≡ unwritten (outcome_of purged (packet_plan stacked number clock place packet d))) (sym way) sent_out in
    either_skipped purged (packet_plan wired number clock place sent (direction_of job place sent)) (packet_plan stacked number clock place packet (direction_of job place packet)) (is_skipped job place) both_out
