-- What an answer comes to over a later table.
use Rattle.std.proofs.Common.{◌≡◌, ℕ, Bool, true, false, cond, Option, None, Some, refl, sym, ◌∙◌, ap, subst}
use Rattle.std.specs.List.{Contains}
use Rattle.pfr_net.specs.declared.direction.Direction.{Direction}
use Rattle.pfr_net.specs.declared.interface.InterfacePlace.{InterfacePlace}
use Rattle.pfr_net.specs.declared.endpoint.Endpoint.{Endpoint}
use Rattle.pfr_net.specs.declared.interface.Binding.TheVariants.{To}
use Rattle.pfr_net.specs.Interfaces.{meets}
use Rattle.pfr_headers.specs.declared.change.Change.{Change}
use Rattle.pfr_headers.specs.declared.packet.Packet.{Packet}
use Rattle.pfr_headers.specs.declared.packet.View.TheVariants.{Ipv4}
use Rattle.pfr_track.specs.declared.key.Key.{Key}
use Rattle.pfr_track.specs.declared.outcome.Touch.{Touch}
use Rattle.pfr_track.specs.declared.outcome.Touch.TheVariants as touch
use Rattle.pfr_track.specs.declared.state.State.{State}
use Rattle.pfr_track.specs.declared.time.Clock.{Clock}
use Rattle.pfr_track.specs.Tracking.{touched}
use Rattle.pfr_states.specs.declared.change.TableChange.TheVariants.{Made, Touched}
use Rattle.pfr_states.specs.Answers.{found_in, purged_at}
use Rattle.pfr_states.specs.States.{IsTable, StateTable, lives}
use Rattle.pfr_states.proofs.FilterLemmas.{table_filter}
use Rattle.pfr_states.proofs.Membership.{to_filter}
use Rattle.pfr_packet.specs.declared.keys.Subject.{Subject}
use Rattle.pfr_packet.specs.declared.outcome.Outcome.{Outcome}
use Rattle.pfr_packet.specs.declared.verdict.Reason.TheVariants as reason
use Rattle.pfr_packet.specs.declared.verdict.Verdict.TheVariants as verdict
use Rattle.pfr_packet.specs.Connections.{IsAnswerTo, GoesBack, GoesFrom, IsBroughtBack, IsLater, sent_on}
use Rattle.pfr_packet.specs.Found.{tracked}
use Rattle.pfr_packet.specs.Job.{RunJob, direction_of, is_skipped, timeouts_of}
use Rattle.pfr_packet.specs.Keys.{opposite, side_of, written_by}
use Rattle.pfr_packet.specs.Outcomes.{by_state}
use Rattle.pfr_packet.specs.Plan.{Plan, done, outcome_of}
use Rattle.pfr_packet.specs.Steps.{by_connection, packet_plan, passed_over, plan, step_of, subject_plan}
use Rattle.pfr_packet.proofs.AnswerLemmas.{goes_back}
use Rattle.pfr_packet.proofs.ConnectionLemmas.{GoThrough, IsKeyed, keyed_of}
use Rattle.pfr_packet.proofs.OpeningLemmas.{either_blocked, lacks_leave}
use Rattle.pfr_packet.specs.Taps.{as_shown, is_translated, looked_up_on}
use Rattle.pfr_headers.specs.declared.tap.Tap.{Tap}

-- ---- the packet's interface is filtered

not_skipped : (table : StateTable) (other : Plan) (state : State) (skipped : Bool) → (outcome_of table (cond skipped (done passed_over) other)).change ≡ Some (Made state) → skipped ≡ false
not_skipped table other state true is = absurd (cc is)
not_skipped table other state false is = refl

pub filters : (job : RunJob) (number : ℕ) (clock : Clock) (place : InterfacePlace) (packet : Packet) (table : StateTable) (state : State) → (step_of job number clock place (Ipv4 packet) table).change ≡ Some (Made state) → is_skipped job place ≡ false
unfolding step_of plan
filters job number clock place packet table state is =
    not_skipped (purged_at clock table) (packet_plan job number clock place packet (direction_of job place packet)) state (is_skipped job place) is

-- ---- by the state

tracked_back : (direction : Direction) (packet answer : Packet) (later : State)
    → ((from to : Endpoint) → GoesFrom packet from to → GoesFrom (sent_on answer (written_by direction answer later.wire later.stack)) to from)
    → (t : Touch) → IsBroughtBack packet answer later (tracked direction answer later t)
tracked_back direction packet answer later back (touch.Touched next) =
    let outcome : Outcome = record (by_state direction later verdict.Pass reason.State) { bytes = written_by direction answer later.wire later.stack; change = Some (Touched next) } in
    either_blocked (IsBroughtBack packet answer later) (lacks_leave outcome answer later.rules.allows_options) reason.IpOption outcome
    (λ free. record { named = refl; goes_back = λ from to passes goes. back from to goes }) (record { named = refl; goes_back = λ from to passes goes. absurd (cc passes) })
tracked_back direction packet answer later back touch.Mismatch = record { named = refl; goes_back = λ from to passes goes. absurd (cc passes) }
tracked_back direction packet answer later back touch.Removed = record { named = refl; goes_back = λ from to passes goes. absurd (cc passes) }

-- the later state is keyed as it was
pub later_keyed : (direction : Direction) (packet : Packet) (bytes : Option Change) (state later : State) → IsLater state later → IsKeyed direction packet bytes state → IsKeyed direction packet bytes later
later_keyed direction packet bytes state later is keyed = record {
  direction_is = is.direction_is ∙ keyed.direction_is;
  written =
      subst (λ (k : Key). bytes ≡ written_by direction packet k later.stack) (sym is.wire_is)
      (subst (λ (k : Key). bytes ≡ written_by direction packet state.wire k) (sym is.stack_is) keyed.written);
  through =
      subst (λ (k : Key). GoThrough direction packet k later.stack) (sym is.wire_is)
      (subst (λ (k : Key). GoThrough direction packet state.wire k) (sym is.stack_is) keyed.through);
}

-- ---- the evaluation of the answer

pub purged_table : (clock : Clock) (table : StateTable) → IsTable table → IsTable (purged_at clock table)
unfolding purged_at
purged_table clock table is_table = table_filter (lives clock) table.states table.limit is_table

pub still_there : (clock : Clock) (table : StateTable) (state : State) → Contains table.states state → lives clock state ≡ true → Contains (purged_at clock table).states state
unfolding purged_at
still_there clock table state is_there alive = to_filter (lives clock) table.states state is_there alive

-- a packet that isn't shown behind its translation is looked up on its own side, and is written
own_side : (tap : Tap) (direction : Direction) → is_translated tap direction ≡ false → looked_up_on tap direction ≡ side_of direction
own_side tap direction shown = rw shown refl

shown_back : (tap : Tap) (direction : Direction) (packet answer : Packet) (later : State) → is_translated tap direction ≡ false → {outcome : Outcome} → IsBroughtBack packet answer later outcome → IsBroughtBack packet answer later (as_shown tap direction outcome)
shown_back tap direction packet answer later shown {outcome} back = subst (λ (test : Bool). IsBroughtBack packet answer later (cond test (record outcome { bytes = None }) outcome)) (sym shown) back

found_back : (job : RunJob) (next : ℕ) (now : Clock) (place : InterfacePlace) (direction : Direction) (packet answer : Packet) (table : StateTable) (later : State) → IsTable table → Contains table.states later → meets later.rules.binding (To place) ≡ true
    → is_translated job.tap (opposite direction) ≡ false → GoesBack direction packet answer later → IsBroughtBack packet answer later (outcome_of table (packet_plan job next now place answer (opposite direction)))
unfolding packet_plan
found_back job next now place direction packet answer table later is_table is_there met shown back =
    let way = opposite direction in
    let tracked_is = shown_back job.tap way packet answer later shown (tracked_back way packet answer later back.goes_back (touched later answer way now (timeouts_of job))) in
    let found_is : IsBroughtBack packet answer later (outcome_of table (by_connection job next now place answer way back.key (found_in table (looked_up_on job.tap way) back.key (To place)))) =
    rw (own_side job.tap way shown)
    (subst (λ (found : Option State). IsBroughtBack packet answer later (outcome_of table (by_connection job next now place answer way back.key found))) (sym (back.is_found table place is_table is_there met)) tracked_is) in
    subst (λ (subject : Subject). IsBroughtBack packet answer later (outcome_of table (subject_plan job next now place answer way subject))) (sym back.looked_up) found_is

pub brought_back : (job : RunJob) (number next : ℕ) (clock now : Clock) (place again : InterfacePlace) (packet answer : Packet) (table after : StateTable) (state later : State) → (step_of job number clock place (Ipv4 packet) table).change ≡ Some (Made state)
    → IsAnswerTo (sent_on packet (step_of job number clock place (Ipv4 packet) table).bytes) answer → direction_of job again answer ≡ opposite (direction_of job place packet) → is_translated job.tap (direction_of job again answer) ≡ false
    → IsTable after → Contains after.states later → lives now later ≡ true → IsLater state later → meets later.rules.binding (To again) ≡ true → is_skipped job again ≡ is_skipped job place → IsBroughtBack packet answer later (step_of job next now again (Ipv4 answer) after)
unfolding step_of plan
brought_back job number next clock now place again packet answer table after state later is answers way shown is_table is_there alive is_later met filtered =
    let direction = direction_of job place packet in
    let bytes = (step_of job number clock place (Ipv4 packet) table).bytes in
    let keyed = later_keyed direction packet bytes state later is_later (keyed_of job number clock place packet table state is) in
    let purged = purged_at now after in
    let found_is = found_back job next now again direction packet answer purged later (purged_table now after is_table) (still_there now after later is_there alive) met (ap (λ (d : Direction). is_translated job.tap d) (sym way) ∙ shown) (goes_back direction packet answer bytes later keyed answers) in
    let by_way : IsBroughtBack packet answer later (outcome_of purged (packet_plan job next now again answer (direction_of job again answer))) =
    subst (λ (d : Direction). IsBroughtBack packet answer later (outcome_of purged (packet_plan job next now again answer d))) (sym way) found_is in
    subst (λ (skipped : Bool). IsBroughtBack packet answer later (outcome_of purged (cond skipped (done passed_over) (packet_plan job next now again answer (direction_of job again answer))))) (sym (filtered ∙ filters job number clock place packet table state is)) by_way
