-- Where the change of an outcome comes from, along the plan of a packet.
use Rattle.std.proofs.Common.{◌≡◌, ℕ, Bool, true, false, not, ◌&&◌, Option, Some, None, cond, refl, sym, ap, ◌∙◌, subst}
use Rattle.std.specs.List.{Contains}
use Rattle.pfr_net.specs.declared.direction.Direction.{Direction}
use Rattle.pfr_net.specs.declared.interface.Binding.{Binding}
use Rattle.pfr_net.specs.declared.interface.Binding.TheVariants as binding
use Rattle.pfr_net.specs.declared.interface.InterfacePlace.{InterfacePlace}
use Rattle.pfr_net.specs.declared.timeout.Timeouts.{Timeouts}
use Rattle.pfr_ruleset.specs.declared.ruleset.Ruleset.{Ruleset}
use Rattle.pfr_headers.specs.declared.packet.Packet.{Packet}
use Rattle.pfr_headers.specs.declared.packet.View.{View}
use Rattle.pfr_headers.specs.declared.packet.View.TheVariants.{Ipv4, Skip, Short}
use Rattle.pfr_headers.specs.View.{has_options}
use Rattle.pfr_track.specs.declared.key.Key.{Key}
use Rattle.pfr_track.specs.declared.outcome.Touch.{Touch}
use Rattle.pfr_track.specs.declared.outcome.Touch.TheVariants as touch
use Rattle.pfr_track.specs.declared.state.State.{State}
use Rattle.pfr_track.specs.declared.state.StateRules.{StateRules}
use Rattle.pfr_track.specs.declared.time.Clock.{Clock}
use Rattle.pfr_track.specs.Laws.{IsLeftBy}
use Rattle.pfr_track.specs.Tracking.{made, touched}
use Rattle.pfr_states.specs.declared.change.Side.{Side}
use Rattle.pfr_states.specs.declared.change.Side.TheVariants.{Wire, Stack}
use Rattle.pfr_states.specs.declared.change.TableChange.{TableChange}
use Rattle.pfr_states.specs.declared.change.TableChange.TheVariants.{Made, Touched, Removed}
use Rattle.pfr_states.specs.States.{StateTable, is_found, lives, purged, refusal}
use Rattle.pfr_packet.specs.declared.keys.Subject.{Subject}
use Rattle.pfr_packet.specs.declared.keys.Subject.TheVariants.{Alone, Embedded, Connection}
use Rattle.pfr_packet.specs.declared.passage.Passage.{Passage}
use Rattle.pfr_packet.specs.declared.outcome.Outcome.{Outcome}
use Rattle.pfr_packet.specs.declared.verdict.Reason.{Reason}
use Rattle.pfr_packet.specs.declared.verdict.Reason.TheVariants as reason
use Rattle.pfr_packet.specs.declared.verdict.Verdict.{Verdict}
use Rattle.pfr_packet.specs.declared.verdict.Verdict.TheVariants as verdict
use Rattle.pfr_packet.specs.Filtering.{conduct_of, decided, filtered}
use Rattle.pfr_packet.specs.Found.{passed, embedded, tracked}
use Rattle.pfr_packet.specs.Job.{RunJob, direction_of, is_skipped, name_in, timeouts_of}
use Rattle.pfr_packet.specs.Keys.{subject_of, written_by}
use Rattle.pfr_packet.specs.Laws.{IsOwnChange, only_removes}
use Rattle.pfr_packet.specs.Making.{making, with_keys, with_room}
use Rattle.pfr_packet.specs.Outcomes.{blocked, by_state, without_leave}
use Rattle.pfr_packet.specs.Passages.{judged, judged_kept}
use Rattle.pfr_states.specs.Answers.{found_in, has_room_in, purged_at}
use Rattle.pfr_packet.specs.Plan.{FilterAnswer, Plan, done, filter_answer, outcome_of}
use Rattle.pfr_packet.specs.Steps.{answer_for, by_connection, by_embedded, opened, opening, packet_plan, passed_over, plan, step_of, subject_plan}
use Rattle.pfr_packet.specs.Verdicts.{lets_pass}
use Rattle.pfr_packet.proofs.FreeLemmas.{AreApart, made_free, removed_free, touched_free}
use Rattle.pfr_packet.proofs.Members.{found_there, from_filter}
use Rattle.pfr_packet.proofs.OpeningLemmas.{going_way, judged_changes_nothing, opening_way}
use Rattle.pfr_packet.specs.Taps.{as_shown, looked_up_on}
use Rattle.pfr_packet.proofs.ShownLemmas.{shown_either}
use Rattle.pfr_headers.specs.declared.tap.Tap.{Tap}

-- both keys of a state are free, and there is room for it
pub record IsFree (table : StateTable) (state : State) : Type 0 where
  pub wire : found_in table Wire state.wire state.rules.binding ≡ None
  pub stack : found_in table Stack state.stack state.rules.binding ≡ None
  pub room : has_room_in table ≡ true

-- what a table says of a change beyond whose it is
abbrev pub IsPlaced : StateTable → TableChange → Type 0
IsPlaced table (Made state) = IsFree table state
IsPlaced table (Touched state) = Unit {0}
IsPlaced table (Removed number) = Unit {0}

abbrev pub Comes : ℕ → Clock → InterfacePlace → StateTable → Outcome → Option TableChange → Type 0
Comes number clock place table outcome None = Unit {0}
Comes number clock place table outcome (Some change) = IsOwnChange number clock place table.states outcome change × IsPlaced table change

-- the outcome's change is the packet's own, and there is a place for it
abbrev pub Stands : ℕ → Clock → InterfacePlace → StateTable → Outcome → Type 0
Stands number clock place table outcome = Comes number clock place table outcome outcome.change

-- what a packet of a connection leaves of its state
abbrev pub Leaves : Type 0
Leaves = (state next : State) (packet : Packet) (direction : Direction) (clock : Clock) (timeouts : Timeouts) → touched state packet direction clock timeouts ≡ touch.Touched next → IsLeftBy state packet direction clock timeouts next

-- ---- without a state

blocked_stands : (number : ℕ) (clock : Clock) (place : InterfacePlace) (table : StateTable) (test : Bool) (why : Reason) (outcome : Outcome) → Stands number clock place table outcome → Stands number clock place table (cond test (blocked why outcome) outcome)
blocked_stands number clock place table true why outcome h = tt
blocked_stands number clock place table false why outcome h = h

leave_stands : (number : ℕ) (clock : Clock) (place : InterfacePlace) (table : StateTable) (packet : Packet) (allowed : Bool) (outcome : Outcome) → Stands number clock place table outcome → Stands number clock place table (without_leave packet allowed outcome)
leave_stands number clock place table packet allowed outcome h = blocked_stands number clock place table (lets_pass outcome.verdict && (has_options packet && not allowed)) reason.IpOption outcome h

filtered_stands : (number : ℕ) (clock : Clock) (place : InterfacePlace) (table : StateTable) (rules : Ruleset) (answer : FilterAnswer) (packet : Packet) (direction : Direction) → Stands number clock place table (filtered rules answer packet direction)
unfolding filtered
filtered_stands number clock place table rules answer packet direction =
    leave_stands number clock place table packet (conduct_of rules.filter.rules answer.decision.rule).allows_options (decided direction answer.decision answer.visits) tt

-- ---- a state that is found

pub found_in_states : (table : StateTable) (side : Side) (key : Key) (scope : Binding) (state : State) → found_in table side key scope ≡ Some state → Contains table.states state
unfolding found_in
found_in_states table side key scope state is = found_there (is_found side key scope) table.states state is

-- the outcome of a packet that passes by a state, before its IP options are looked at
abbrev pub passing : Direction → Packet → State → Reason → Option TableChange → Outcome
passing direction packet state why change = record (by_state direction state verdict.Pass why) { bytes = written_by direction packet state.wire state.stack; change = change }

passed_stands : (number : ℕ) (clock : Clock) (place : InterfacePlace) (table : StateTable) (direction : Direction) (packet : Packet) (state : State) (why : Reason) (change : Option TableChange)
    → Comes number clock place table (passing direction packet state why change) change → Stands number clock place table (passed direction packet state why change)
passed_stands number clock place table direction packet state why change h = leave_stands number clock place table packet state.rules.allows_options (passing direction packet state why change) h

embedded_stands : (number : ℕ) (clock : Clock) (place : InterfacePlace) (table : StateTable) (direction : Direction) (packet : Packet) (state : State) → Stands number clock place table (embedded direction packet state)
embedded_stands number clock place table direction packet state = passed_stands number clock place table direction packet state reason.StateError None tt

tracked_stands : Leaves → (number : ℕ) (clock : Clock) (place : InterfacePlace) (table : StateTable) (packet : Packet) (direction : Direction) (timeouts : Timeouts) (state : State) → Contains table.states state
    → (t : Touch) → touched state packet direction clock timeouts ≡ t → Stands number clock place table (tracked direction packet state t)
tracked_stands leaves number clock place table packet direction timeouts state is_there (touch.Touched next) is =
    let left = leaves state next packet direction clock timeouts is in
    passed_stands number clock place table direction packet state reason.State (Some (Touched next)) (
      record {
        before = state;
        is_there = is_there;
        number_is = left.number;
        wire_is = left.wire;
        stack_is = left.stack;
        rules_are = left.rules;
        direction_is = left.direction;
        interface_is = left.interface;
        made_is = left.made;
        passes = refl;
        named = ap (λ n. Some n) (sym left.number);
      },
      tt,
    )
tracked_stands leaves number clock place table packet direction timeouts state is_there touch.Mismatch is = tt
tracked_stands leaves number clock place table packet direction timeouts state is_there touch.Removed is =
    (record { before = state; is_there = is_there; number_is = refl; stops = refl; named = refl }, tt)

-- ---- a state that is made

passes_by : (v : Verdict) → lets_pass v ≡ true → v ≡ verdict.Pass
passes_by verdict.Pass is = refl
passes_by verdict.Block is = absurd (cc is)
passes_by verdict.Return is = absurd (cc is)
passes_by verdict.Skip is = absurd (cc is)

-- a new state of the packet, which passes so far
record IsNewOf (number : ℕ) (clock : Clock) (place : InterfacePlace) (outcome : Outcome) (state : State) : Type 0 where
  pub number_is : state.number.0 ≡ number
  pub made_is : state.made ≡ clock
  pub interface_is : state.interface ≡ place
  pub passes : outcome.verdict ≡ verdict.Pass

room_stands : (number : ℕ) (clock : Clock) (place : InterfacePlace) (table : StateTable) (packet : Packet) (state : State) (outcome : Outcome) → IsNewOf number clock place outcome state
    → found_in table Wire state.wire state.rules.binding ≡ None → found_in table Stack state.stack state.rules.binding ≡ None
    → (room : Bool) → has_room_in table ≡ room → Stands number clock place table (outcome_of table (with_room packet state outcome room))
room_stands number clock place table packet state outcome new wire stack true is =
    (record { number_is = new.number_is; made_is = new.made_is; interface_is = new.interface_is; passes = new.passes; named = refl }, record { wire = wire; stack = stack; room = is })
room_stands number clock place table packet state outcome new wire stack false is = tt

keys_stand : (number : ℕ) (clock : Clock) (place : InterfacePlace) (table : StateTable) (packet : Packet) (state : State) (outcome : Outcome) → IsNewOf number clock place outcome state
    → (wire stack : Option State) → found_in table Wire state.wire state.rules.binding ≡ wire → found_in table Stack state.stack state.rules.binding ≡ stack
    → Stands number clock place table (outcome_of table (with_keys packet state outcome wire stack))
keys_stand number clock place table packet state outcome new None None wire stack = room_stands number clock place table packet state outcome new wire stack (has_room_in table) refl
keys_stand number clock place table packet state outcome new None (Some other) wire stack = tt
keys_stand number clock place table packet state outcome new (Some other) _ wire stack = tt

making_stands : (number : ℕ) (clock : Clock) (place : InterfacePlace) (table : StateTable) (packet : Packet) (state : State) (outcome : Outcome) → IsNewOf number clock place outcome state
    → Stands number clock place table (outcome_of table (making packet state outcome))
making_stands number clock place table packet state outcome new =
    keys_stand number clock place table packet state outcome new (found_in table Wire state.wire state.rules.binding) (found_in table Stack state.stack state.rules.binding) refl refl

-- if the packet passes so far
passing_stands : (job : RunJob) (number : ℕ) (clock : Clock) (place : InterfacePlace) (table : StateTable) (packet : Packet) (direction : Direction) (passage : Passage) (outcome : Outcome) (rules : StateRules)
    → Stands number clock place table outcome → (test : Bool) → lets_pass outcome.verdict ≡ test
    → Stands number clock place table (outcome_of table (cond test (making packet (made (record { 0 = number }) packet direction place passage.wire passage.stack rules clock (timeouts_of job)) outcome) (done outcome)))
passing_stands job number clock place table packet direction passage outcome rules h true is =
    making_stands number clock place table packet (made (record { 0 = number }) packet direction place passage.wire passage.stack rules clock (timeouts_of job)) outcome
    (record { number_is = refl; made_is = refl; interface_is = refl; passes = passes_by outcome.verdict is })
passing_stands job number clock place table packet direction passage outcome rules h false is = h

-- what changes nothing so far
unchanged_stands : (number : ℕ) (clock : Clock) (place : InterfacePlace) (table : StateTable) (outcome : Outcome) → outcome.change ≡ None → Stands number clock place table outcome
unchanged_stands number clock place table outcome is = subst (λ (change : Option TableChange). Comes number clock place table outcome change) (sym is) tt

opened_stands : (job : RunJob) (number : ℕ) (clock : Clock) (place : InterfacePlace) (table : StateTable) (packet : Packet) (direction : Direction) (passage : Passage) (outcome : Outcome)
    → Stands number clock place table outcome → (kept : Option StateRules) → Stands number clock place table (outcome_of table (opened job number clock place packet direction passage outcome kept))
opened_stands job number clock place table packet direction passage outcome h None = h
opened_stands job number clock place table packet direction passage outcome h (Some rules) =
    passing_stands job number clock place table packet direction passage outcome rules h (lets_pass outcome.verdict) refl

opening_stands : (job : RunJob) (number : ℕ) (clock : Clock) (place : InterfacePlace) (table : StateTable) (packet : Packet) (direction : Direction) (key : Key) → Stands number clock place table (outcome_of table (opening job number clock place packet direction key))
opening_stands job number clock place table packet direction key = opening_way job number clock place table packet direction (Stands number clock place table) (record {
  goes = λ visits passage. (let answer = answer_for job.rules (name_in job place) table direction packet passage in going_way job number clock place table packet direction (Stands number clock place table) visits passage
      (opened_stands job number clock place table packet direction passage (judged job.rules answer direction packet passage visits)
      (unchanged_stands number clock place table (judged job.rules answer direction packet passage visits) (judged_changes_nothing job.rules answer direction packet passage visits)) (judged_kept place job.rules answer direction packet passage)));
  has_no_port = λ rule visits. tt;
}) key

-- nothing is written into a packet that is shown behind its translation
unwritten_comes : (number : ℕ) (clock : Clock) (place : InterfacePlace) (table : StateTable) (outcome : Outcome) (change : Option TableChange) → Comes number clock place table outcome change → Comes number clock place table (record outcome { bytes = None }) change
unwritten_comes number clock place table outcome None h = tt
unwritten_comes number clock place table outcome (Some (Made state)) h = (record { number_is = h.0.number_is; made_is = h.0.made_is; interface_is = h.0.interface_is; passes = h.0.passes; named = h.0.named }, h.1)
unwritten_comes number clock place table outcome (Some (Touched state)) h = (
  record {
    before = h.0.before;
    is_there = h.0.is_there;
    number_is = h.0.number_is;
    wire_is = h.0.wire_is;
    stack_is = h.0.stack_is;
    rules_are = h.0.rules_are;
    direction_is = h.0.direction_is;
    interface_is = h.0.interface_is;
    made_is = h.0.made_is;
    passes = h.0.passes;
    named = h.0.named;
  },
  tt,
)
unwritten_comes number clock place table outcome (Some (Removed old)) h = (record { before = h.0.before; is_there = h.0.is_there; number_is = h.0.number_is; stops = h.0.stops; named = h.0.named }, tt)

shown_stands : (number : ℕ) (clock : Clock) (place : InterfacePlace) (table : StateTable) (tap : Tap) (direction : Direction) (outcome : Outcome) → Stands number clock place table outcome → Stands number clock place table (as_shown tap direction outcome)
shown_stands number clock place table tap direction outcome h = shown_either (Stands number clock place table) tap direction outcome h (unwritten_comes number clock place table outcome outcome.change h)

-- ---- a packet

by_embedded_stands : (job : RunJob) (number : ℕ) (clock : Clock) (place : InterfacePlace) (table : StateTable) (packet : Packet) (direction : Direction) (found : Option State) → Stands number clock place table (outcome_of table (by_embedded job place packet direction found))
by_embedded_stands job number clock place table packet direction None = filtered_stands number clock place table job.rules (filter_answer job.rules (name_in job place) table packet direction) packet direction
by_embedded_stands job number clock place table packet direction (Some state) = shown_stands number clock place table job.tap direction (embedded direction packet state) (embedded_stands number clock place table direction packet state)

by_connection_stands : Leaves → (job : RunJob) (number : ℕ) (clock : Clock) (place : InterfacePlace) (table : StateTable) (packet : Packet) (direction : Direction) (key : Key)
    → (found : Option State) → found_in table (looked_up_on job.tap direction) key (binding.To place) ≡ found → Stands number clock place table (outcome_of table (by_connection job number clock place packet direction key found))
by_connection_stands leaves job number clock place table packet direction key None is = opening_stands job number clock place table packet direction key
by_connection_stands leaves job number clock place table packet direction key (Some state) is =
    let t = touched state packet direction clock (timeouts_of job) in
    shown_stands number clock place table job.tap direction (tracked direction packet state t)
    (tracked_stands leaves number clock place table packet direction (timeouts_of job) state (found_in_states table (looked_up_on job.tap direction) key (binding.To place) state is) t refl)

subject_stands : Leaves → (job : RunJob) (number : ℕ) (clock : Clock) (place : InterfacePlace) (table : StateTable) (packet : Packet) (direction : Direction) (subject : Subject)
    → Stands number clock place table (outcome_of table (subject_plan job number clock place packet direction subject))
subject_stands leaves job number clock place table packet direction Alone = filtered_stands number clock place table job.rules (filter_answer job.rules (name_in job place) table packet direction) packet direction
subject_stands leaves job number clock place table packet direction (Embedded key) = by_embedded_stands job number clock place table packet direction (found_in table (looked_up_on job.tap direction) key (binding.To place))
subject_stands leaves job number clock place table packet direction (Connection key) =
    by_connection_stands leaves job number clock place table packet direction key (found_in table (looked_up_on job.tap direction) key (binding.To place)) refl

packet_stands : Leaves → (job : RunJob) (number : ℕ) (clock : Clock) (place : InterfacePlace) (table : StateTable) (packet : Packet) (direction : Direction)
    → Stands number clock place table (outcome_of table (packet_plan job number clock place packet direction))
unfolding packet_plan
packet_stands leaves job number clock place table packet direction = subject_stands leaves job number clock place table packet direction (subject_of direction packet)

-- ---- a frame

-- packets of an interface that isn't filtered change nothing
skipped_stands : (number : ℕ) (clock : Clock) (place : InterfacePlace) (table : StateTable) (skipped : Bool) (other : Plan) → Stands number clock place table (outcome_of table other)
    → Stands number clock place table (outcome_of table (cond skipped (done passed_over) other))
skipped_stands number clock place table true other h = tt
skipped_stands number clock place table false other h = h

pub plan_stands : Leaves → (job : RunJob) (number : ℕ) (clock : Clock) (place : InterfacePlace) (table : StateTable) (view : View) → Stands number clock place table (outcome_of table (plan job number clock place view))
unfolding plan
plan_stands leaves job number clock place table Skip = tt
plan_stands leaves job number clock place table Short = skipped_stands number clock place table (is_skipped job place) _ tt
plan_stands leaves job number clock place table (Ipv4 packet) =
    skipped_stands number clock place table (is_skipped job place) (packet_plan job number clock place packet (direction_of job place packet))
    (packet_stands leaves job number clock place table packet (direction_of job place packet))

-- ---- the laws

-- the table that a packet is evaluated over
pub step_stands : Leaves → (job : RunJob) (number : ℕ) (clock : Clock) (place : InterfacePlace) (view : View) (table : StateTable) → Stands number clock place (purged_at clock table) (step_of job number clock place view table)
unfolding step_of
step_stands leaves job number clock place view table = plan_stands leaves job number clock place (purged_at clock table) view

comes_own : (number : ℕ) (clock : Clock) (place : InterfacePlace) (table : StateTable) (outcome : Outcome) (is : Option TableChange) (change : TableChange) → is ≡ Some change → Comes number clock place table outcome is
    → IsOwnChange number clock place table.states outcome change × IsPlaced table change
comes_own number clock place table outcome None change same h = absurd (cc same)
comes_own number clock place table outcome (Some other) change same h =
    subst (λ (c : TableChange). IsOwnChange number clock place table.states outcome c × IsPlaced table c) (cc same) h

pub own_change : Leaves → (job : RunJob) (number : ℕ) (clock : Clock) (place : InterfacePlace) (view : View) (table : StateTable) (change : TableChange) → (step_of job number clock place view table).change ≡ Some change
    → IsOwnChange number clock place (purged clock table.states) (step_of job number clock place view table) change
unfolding purged_at
own_change leaves job number clock place view table change is =
    (comes_own number clock place (purged_at clock table) (step_of job number clock place view table) (step_of job number clock place view table).change change is (step_stands leaves job number clock place view table)).0

-- a change that has its place in a table isn't refused by it
placed_free : (number : ℕ) (clock : Clock) (place : InterfacePlace) (table : StateTable) (outcome : Outcome) (change : TableChange) → AreApart table.states → IsOwnChange number clock place table.states outcome change → IsPlaced table change
    → refusal change table.limit table.states ≡ None
unfolding found_in has_room_in
placed_free number clock place table outcome (Made state) apart own placed = made_free state table.limit table.states placed.wire placed.stack placed.room
placed_free number clock place table outcome (Touched state) apart own placed = touched_free table.limit table.states outcome state apart own
placed_free number clock place table outcome (Removed old) apart own placed = removed_free old table.limit table.states

pub not_refused : Leaves → (job : RunJob) (number : ℕ) (clock : Clock) (place : InterfacePlace) (view : View) (table : StateTable) (change : TableChange) → AreApart table.states
    → (step_of job number clock place view table).change ≡ Some change → refusal change table.limit (purged clock table.states) ≡ None
unfolding purged_at
not_refused leaves job number clock place view table change apart is =
    let own = comes_own number clock place (purged_at clock table) (step_of job number clock place view table) (step_of job number clock place view table).change change is (step_stands leaves job number clock place view table) in
    placed_free number clock place (purged_at clock table) (step_of job number clock place view table) change
    (λ a b has_a has_b. apart a b (from_filter (lives clock) table.states a has_a) (from_filter (lives clock) table.states b has_b)) own.0 own.1

comes_removes : (number : ℕ) (clock : Clock) (place : InterfacePlace) (table : StateTable) (outcome : Outcome) (change : Option TableChange) → lets_pass outcome.verdict ≡ false → Comes number clock place table outcome change → only_removes change ≡ true
comes_removes number clock place table outcome None stops h = refl
comes_removes number clock place table outcome (Some (Made state)) stops h = (let passes : true ≡ false = ap lets_pass (sym h.0.passes) ∙ stops in absurd (cc passes))
comes_removes number clock place table outcome (Some (Touched state)) stops h = (let passes : true ≡ false = ap lets_pass (sym h.0.passes) ∙ stops in absurd (cc passes))
comes_removes number clock place table outcome (Some (Removed old)) stops h = refl

pub blocked_removes : Leaves → (job : RunJob) (number : ℕ) (clock : Clock) (place : InterfacePlace) (view : View) (table : StateTable) → lets_pass (step_of job number clock place view table).verdict ≡ false
    → only_removes (step_of job number clock place view table).change ≡ true
blocked_removes leaves job number clock place view table stops =
    comes_removes number clock place (purged_at clock table) (step_of job number clock place view table) (step_of job number clock place view table).change stops (step_stands leaves job number clock place view table)
