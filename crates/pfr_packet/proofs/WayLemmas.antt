-- The ways in which an IPv4 packet comes to its outcome.
use Rattle.std.proofs.Common.{◌≡◌, ◌⊎◌, ◌&&◌, ℕ, Bool, true, false, not, List, [], Option, Some, None, cond, inl, inr, refl, sym, ◌∙◌}
use Rattle.std.specs.List.{Contains, slice_get}
use Rattle.std.proofs.lemmas.Bool.{not-false}
use Rattle.pfr_net.specs.declared.direction.Direction.{Direction}
use Rattle.pfr_net.specs.declared.interface.Binding.TheVariants as binding
use Rattle.pfr_net.specs.declared.interface.InterfacePlace.{InterfacePlace}
use Rattle.pfr_net.specs.declared.rule_number.RuleNumber.{RuleNumber}
use Rattle.pfr_ruleset.specs.declared.flat.FlatRule.{FlatRule}
use Rattle.pfr_headers.specs.declared.packet.Packet.{Packet}
use Rattle.pfr_headers.specs.declared.packet.View.{View}
use Rattle.pfr_headers.specs.declared.packet.View.TheVariants.{Ipv4, Skip, Short}
use Rattle.pfr_headers.specs.declared.icmp.IcmpMessage.{IcmpMessage}
use Rattle.pfr_headers.specs.declared.icmp.IcmpMessage.TheVariants as message
use Rattle.pfr_headers.specs.declared.transport.Transport.{Transport}
use Rattle.pfr_headers.specs.declared.transport.Transport.TheVariants as transport
use Rattle.pfr_headers.specs.View.{has_options}
use Rattle.pfr_criteria.specs.Transports.{message_opens, opens_connection}
use Rattle.pfr_rules.specs.declared.decision.Decision.{Decision}
use Rattle.pfr_track.specs.declared.key.Key.{Key}
use Rattle.pfr_track.specs.declared.outcome.Touch.{Touch}
use Rattle.pfr_track.specs.declared.outcome.Touch.TheVariants as touch
use Rattle.pfr_track.specs.declared.state.State.{State}
use Rattle.pfr_track.specs.declared.state.StateRules.{StateRules}
use Rattle.pfr_track.specs.declared.time.Clock.{Clock}
use Rattle.pfr_track.specs.Tracking.{made, touched}
use Rattle.pfr_states.specs.declared.change.Side.TheVariants.{Wire, Stack}
use Rattle.pfr_states.specs.declared.change.TableChange.{TableChange}
use Rattle.pfr_states.specs.declared.change.TableChange.TheVariants.{Touched}
use Rattle.pfr_states.specs.States.{StateTable}
use Rattle.pfr_packet.specs.declared.keys.Subject.{Subject}
use Rattle.pfr_packet.specs.declared.keys.Subject.TheVariants.{Alone, Embedded, Connection}
use Rattle.pfr_packet.specs.declared.passage.Passage.{Passage}
use Rattle.pfr_packet.specs.declared.outcome.Outcome.{Outcome}
use Rattle.pfr_packet.specs.declared.verdict.Reason.{Reason}
use Rattle.pfr_packet.specs.declared.verdict.Reason.TheVariants as reason
use Rattle.pfr_packet.specs.Filtering.{conduct_at, conduct_of, filtered, reason_of}
use Rattle.pfr_packet.specs.Found.{embedded, tracked}
use Rattle.pfr_packet.specs.Job.{RunJob, direction_of, is_skipped, name_in, timeouts_of}
use Rattle.pfr_packet.specs.Keys.{message_subject, subject_by, subject_of}
use Rattle.pfr_packet.specs.Laws.{HasLeave, IsUntouched}
use Rattle.pfr_packet.specs.Making.{making, with_keys, with_made, with_room}
use Rattle.pfr_packet.specs.Outcomes.{blocked, none_visited, without_leave}
use Rattle.pfr_packet.specs.Passages.{exhausted, judged, judged_kept}
use Rattle.pfr_states.specs.Answers.{found_in, has_room_in, purged_at}
use Rattle.pfr_packet.specs.Plan.{FilterAnswer, Plan, done, filter_answer, outcome_of}
use Rattle.pfr_packet.specs.Steps.{answer_for, asked_of, by_connection, by_embedded, opened, packet_plan, passed_over, plan, step_of, subject_plan}
use Rattle.pfr_packet.specs.Verdicts.{lets_pass}
use Rattle.pfr_packet.proofs.ChangeLemmas.{found_in_states, passing}
use Rattle.pfr_packet.proofs.OpeningLemmas.{behind_options, either_blocked, filtered_way, going_way, judged_way, judged_writes_nothing, opening_way}
use Rattle.pfr_packet.specs.Taps.{as_shown, looked_up_on}
use Rattle.pfr_packet.proofs.ShownLemmas.{shown_either}
use Rattle.pfr_headers.specs.declared.tap.Tap.{Tap}

-- no state is found for the packet
abbrev pub NoneFound : Tap → InterfacePlace → StateTable → Packet → Direction → Type 0
NoneFound tap place table packet direction = (key : Key) → ((subject_of direction packet ≡ Embedded key) ⊎ (subject_of direction packet ≡ Connection key)) → found_in table (looked_up_on tap direction) key (binding.To place) ≡ None

-- what becomes of the first packet of a connection behind a passage
abbrev pub judged_in : RunJob → InterfacePlace → StateTable → Packet → Direction → Passage → List ℕ → Outcome
judged_in job place table packet direction passage visits = judged job.rules (answer_for job.rules (name_in job place) table direction packet passage) direction packet passage visits

-- what the state says of its rules that it may make
abbrev pub kept_in : RunJob → InterfacePlace → StateTable → Packet → Direction → Passage → Option StateRules
kept_in job place table packet direction passage = judged_kept place job.rules (answer_for job.rules (name_in job place) table direction packet passage) direction packet passage

-- it is the first packet of its connection
pub record IsFirst (tap : Tap) (place : InterfacePlace) (table : StateTable) (packet : Packet) (direction : Direction) : Type 0 where
  pub key : Key
  pub subject_is : subject_of direction packet ≡ Connection key
  pub none_found : NoneFound tap place table packet direction

-- what holds of the outcome, whichever way the packet goes
pub record Ways (job : RunJob) (place : InterfacePlace) (table : StateTable) (packet : Packet) (direction : Direction) (P : Outcome → Type 0) : Type 0 where
  pub by_rules : NoneFound job.tap place table packet direction → P (filtered job.rules (filter_answer job.rules (name_in job place) table packet direction) packet direction)
  pub by_error : (key : Key) (state : State) → subject_of direction packet ≡ Embedded key → found_in table (looked_up_on job.tap direction) key (binding.To place) ≡ Some state → P (as_shown job.tap direction (embedded direction packet state))
  pub by_state : (key : Key) (state : State) (t : Touch) → subject_of direction packet ≡ Connection key → found_in table (looked_up_on job.tap direction) key (binding.To place) ≡ Some state → P (as_shown job.tap direction (tracked direction packet state t))
  pub goes : (passage : Passage) (visits : List ℕ) → IsFirst job.tap place table packet direction → P (judged_in job place table packet direction passage visits)
  pub makes : (passage : Passage) (visits : List ℕ) (state : State) → IsFirst job.tap place table packet direction → lets_pass (judged_in job place table packet direction passage visits).verdict ≡ true
      → kept_in job place table packet direction passage ≡ Some state.rules → P (with_made packet state (judged_in job place table packet direction passage visits))
  pub has_no_place : (passage : Passage) (visits : List ℕ) → IsFirst job.tap place table packet direction → P (blocked reason.StateInsert (judged_in job place table packet direction passage visits))
  pub has_no_room : (passage : Passage) (visits : List ℕ) → IsFirst job.tap place table packet direction → has_room_in table ≡ false → P (blocked reason.StateLimit (judged_in job place table packet direction passage visits))
  pub has_no_port : (rule : RuleNumber) (visits : List ℕ) → IsFirst job.tap place table packet direction → P (exhausted direction rule visits)

room_way : (job : RunJob) (place : InterfacePlace) (table : StateTable) (packet : Packet) (direction : Direction) (P : Outcome → Type 0) → Ways job place table packet direction P → (passage : Passage) (visits : List ℕ) (state : State)
    → IsFirst job.tap place table packet direction → lets_pass (judged_in job place table packet direction passage visits).verdict ≡ true → kept_in job place table packet direction passage ≡ Some state.rules → (room : Bool) → has_room_in table ≡ room
    → P (outcome_of table (with_room packet state (judged_in job place table packet direction passage visits) room))
room_way job place table packet direction P w passage visits state first passes kept true room = w.makes passage visits state first passes kept
room_way job place table packet direction P w passage visits state first passes kept false room = w.has_no_room passage visits first room

keys_way : (job : RunJob) (place : InterfacePlace) (table : StateTable) (packet : Packet) (direction : Direction) (P : Outcome → Type 0) → Ways job place table packet direction P → (passage : Passage) (visits : List ℕ) (state : State)
    → IsFirst job.tap place table packet direction → lets_pass (judged_in job place table packet direction passage visits).verdict ≡ true → kept_in job place table packet direction passage ≡ Some state.rules → (wire stack : Option State)
    → P (outcome_of table (with_keys packet state (judged_in job place table packet direction passage visits) wire stack))
keys_way job place table packet direction P w passage visits state first passes kept None None = room_way job place table packet direction P w passage visits state first passes kept (has_room_in table) refl
keys_way job place table packet direction P w passage visits state first passes kept None (Some other) = w.has_no_place passage visits first
keys_way job place table packet direction P w passage visits state first passes kept (Some other) _ = w.has_no_place passage visits first

passing_way : (job : RunJob) (place : InterfacePlace) (table : StateTable) (packet : Packet) (direction : Direction) (P : Outcome → Type 0) → Ways job place table packet direction P → (passage : Passage) (visits : List ℕ) (state : State)
    → IsFirst job.tap place table packet direction → kept_in job place table packet direction passage ≡ Some state.rules → (test : Bool) → lets_pass (judged_in job place table packet direction passage visits).verdict ≡ test
    → P (outcome_of table (cond test (making packet state (judged_in job place table packet direction passage visits)) (done (judged_in job place table packet direction passage visits))))
passing_way job place table packet direction P w passage visits state first kept true passes = keys_way job place table packet direction P w passage visits state first passes kept (found_in table Wire state.wire state.rules.binding) (found_in table Stack state.stack state.rules.binding)
passing_way job place table packet direction P w passage visits state first kept false passes = w.goes passage visits first

opened_way : (job : RunJob) (number : ℕ) (clock : Clock) (place : InterfacePlace) (table : StateTable) (packet : Packet) (direction : Direction) (passage : Passage) (visits : List ℕ) (P : Outcome → Type 0) → Ways job place table packet direction P
    → IsFirst job.tap place table packet direction → (kept : Option StateRules) → kept_in job place table packet direction passage ≡ kept → P (outcome_of table (opened job number clock place packet direction passage (judged_in job place table packet direction passage visits) kept))
opened_way job number clock place table packet direction passage visits P w first None is = w.goes passage visits first
opened_way job number clock place table packet direction passage visits P w first (Some rules) is =
    passing_way job place table packet direction P w passage visits (made (record { 0 = number }) packet direction place passage.wire passage.stack rules clock (timeouts_of job)) first is (lets_pass (judged_in job place table packet direction passage visits).verdict) refl

-- the subject of a packet is one
none_at : (tap : Tap) (place : InterfacePlace) (table : StateTable) (packet : Packet) (direction : Direction) (subject : Subject) (key : Key) → subject_of direction packet ≡ subject → (subject ≡ Embedded key) ⊎ (subject ≡ Connection key)
    → found_in table (looked_up_on tap direction) key (binding.To place) ≡ None → NoneFound tap place table packet direction
none_at tap place table packet direction subject key is one none = λ other at. rw (same_key other (elim at [ inl embedded ↦ inl (sym is ∙ embedded) | inr own ↦ inr (sym is ∙ own) ]) one) none
  where
    same_key : (other : Key) → (subject ≡ Embedded other) ⊎ (subject ≡ Connection other) → (subject ≡ Embedded key) ⊎ (subject ≡ Connection key) → other ≡ key
    same_key other (inl a) (inl b) = (let e : Embedded other ≡ Embedded key = sym a ∙ b in cc e)
    same_key other (inl a) (inr b) = (let e : Embedded other ≡ Connection key = sym a ∙ b in absurd (cc e))
    same_key other (inr a) (inl b) = (let e : Connection other ≡ Embedded key = sym a ∙ b in absurd (cc e))
    same_key other (inr a) (inr b) = (let e : Connection other ≡ Connection key = sym a ∙ b in cc e)

embedded_way : (job : RunJob) (place : InterfacePlace) (table : StateTable) (packet : Packet) (direction : Direction) (P : Outcome → Type 0) → Ways job place table packet direction P → (key : Key) → subject_of direction packet ≡ Embedded key
    → (found : Option State) → found_in table (looked_up_on job.tap direction) key (binding.To place) ≡ found → P (outcome_of table (by_embedded job place packet direction found))
embedded_way job place table packet direction P w key is None none = w.by_rules (none_at job.tap place table packet direction (Embedded key) key is (inl refl) none)
embedded_way job place table packet direction P w key is (Some state) found = w.by_error key state is found

connection_way : (job : RunJob) (number : ℕ) (clock : Clock) (place : InterfacePlace) (table : StateTable) (packet : Packet) (direction : Direction) (P : Outcome → Type 0) → Ways job place table packet direction P → (key : Key) → subject_of direction packet ≡ Connection key
    → (found : Option State) → found_in table (looked_up_on job.tap direction) key (binding.To place) ≡ found → P (outcome_of table (by_connection job number clock place packet direction key found))
connection_way job number clock place table packet direction P w key is None none =
    let first : IsFirst job.tap place table packet direction = record { key = key; subject_is = is; none_found = none_at job.tap place table packet direction (Connection key) key is (inr refl) none } in
    opening_way job number clock place table packet direction P (record {
      goes = λ visits passage. going_way job number clock place table packet direction P visits passage (opened_way job number clock place table packet direction passage visits P w first (kept_in job place table packet direction passage) refl);
      has_no_port = λ rule visits. w.has_no_port rule visits first;
    }) key
connection_way job number clock place table packet direction P w key is (Some state) found = w.by_state key state (touched state packet direction clock (timeouts_of job)) is found

subject_way : (job : RunJob) (number : ℕ) (clock : Clock) (place : InterfacePlace) (table : StateTable) (packet : Packet) (direction : Direction) (P : Outcome → Type 0) → Ways job place table packet direction P → (subject : Subject) → subject_of direction packet ≡ subject
    → P (outcome_of table (subject_plan job number clock place packet direction subject))
subject_way job number clock place table packet direction P w Alone is = w.by_rules (λ key at. elim at [
  | inl embedded ↦ (let e : Alone ≡ Embedded key = sym is ∙ embedded in absurd (cc e))
  | inr own ↦ (let e : Alone ≡ Connection key = sym is ∙ own in absurd (cc e))
])
subject_way job number clock place table packet direction P w (Embedded key) is = embedded_way job place table packet direction P w key is (found_in table (looked_up_on job.tap direction) key (binding.To place)) refl
subject_way job number clock place table packet direction P w (Connection key) is = connection_way job number clock place table packet direction P w key is (found_in table (looked_up_on job.tap direction) key (binding.To place)) refl

pub packet_way : (job : RunJob) (number : ℕ) (clock : Clock) (place : InterfacePlace) (table : StateTable) (packet : Packet) (direction : Direction) (P : Outcome → Type 0) → Ways job place table packet direction P
    → P (outcome_of table (packet_plan job number clock place packet direction))
unfolding packet_plan
packet_way job number clock place table packet direction P w = subject_way job number clock place table packet direction P w (subject_of direction packet) refl

skipped_way : (table : StateTable) (P : Outcome → Type 0) (skipped : Bool) (other : Plan) → P passed_over → P (outcome_of table other) → P (outcome_of table (cond skipped (done passed_over) other))
skipped_way table P true other over h = over
skipped_way table P false other over h = h

-- the outcome of an IPv4 packet, over the table once the states are gone whose deadline has come
pub step_way : (job : RunJob) (number : ℕ) (clock : Clock) (place : InterfacePlace) (table : StateTable) (packet : Packet) (P : Outcome → Type 0) → P passed_over → Ways job place (purged_at clock table) packet (direction_of job place packet) P
    → P (step_of job number clock place (Ipv4 packet) table)
unfolding step_of plan
step_way job number clock place table packet P over w =
    skipped_way (purged_at clock table) P (is_skipped job place) (packet_plan job number clock place packet (direction_of job place packet)) over
    (packet_way job number clock place (purged_at clock table) packet (direction_of job place packet) P w)

-- ---- what holds of every outcome

-- a packet that opens no connection has no key of its own
subject_opens : (direction : Direction) (packet : Packet) (t : Transport) (key : Key) → opens_connection t ≡ false → subject_by direction packet t ≡ Connection key → ⊥
subject_opens direction packet transport.Fragment key opens is = cc is
subject_opens direction packet (transport.Tcp header) key opens is = cc opens
subject_opens direction packet (transport.Udp header) key opens is = cc opens
subject_opens direction packet (transport.Icmp header) key opens is = message_opens_none header.message opens is
  where
    message_opens_none : (m : IcmpMessage) → message_opens m ≡ false → message_subject direction packet m ≡ Connection key → ⊥
    message_opens_none (message.Echo identifier) opens is = cc opens
    message_opens_none (message.Error inner) opens is = cc is
    message_opens_none message.Other opens is = cc is
subject_opens direction packet transport.Other key opens is = cc opens

pub no_state_of : (job : RunJob) (number : ℕ) (clock : Clock) (place : InterfacePlace) (packet : Packet) (table : StateTable) → opens_connection packet.transport ≡ false → (step_of job number clock place (Ipv4 packet) table).change ≡ None
no_state_of job number clock place packet table opens =
    let direction = direction_of job place packet in
    let answer = filter_answer job.rules (name_in job place) (purged_at clock table) packet direction in
    let by_rules : (filtered job.rules answer packet direction).change ≡ None = filtered_way job.rules answer packet direction (λ o. o.change ≡ None) (λ free. refl) refl in
    step_way job number clock place table packet (λ o. o.change ≡ None) refl (record {
      by_rules = λ none. by_rules;
      by_error = λ key state is found. (let none = either_blocked (λ o. o.change ≡ None) _ reason.IpOption (passing direction packet state reason.StateError None) (λ free. refl) refl in shown_either (λ o. o.change ≡ None) job.tap direction _ none none);
      by_state = λ key state t is found. absurd (subject_opens direction packet packet.transport key opens is);
      goes = λ passage visits first. absurd (subject_opens direction packet packet.transport first.key opens first.subject_is);
      makes = λ passage visits state first passes kept. absurd (subject_opens direction packet packet.transport first.key opens first.subject_is);
      has_no_place = λ passage visits first. refl;
      has_no_room = λ passage visits first full. refl;
      has_no_port = λ rule visits first. refl;
    })

-- if a state is found no rule is visited
pub none_visited_of : (job : RunJob) (number : ℕ) (clock : Clock) (place : InterfacePlace) (packet : Packet) (table : StateTable) (key : Key) (state : State)
    → (subject_of (direction_of job place packet) packet ≡ Embedded key) ⊎ (subject_of (direction_of job place packet) packet ≡ Connection key)
    → found_in (purged_at clock table) (looked_up_on job.tap (direction_of job place packet)) key (binding.To place) ≡ Some state → (step_of job number clock place (Ipv4 packet) table).visited ≡ none_visited
none_visited_of job number clock place packet table key state subject found =
    let direction = direction_of job place packet in
    let P : Outcome → Type 0 = λ o. o.visited ≡ none_visited in
    let contradicts : NoneFound job.tap place (purged_at clock table) packet direction → ⊥ = λ none. (let both : None ≡ Some state = sym (none key subject) ∙ found in cc both) in
    step_way job number clock place table packet P refl (record {
      by_rules = λ none. absurd (contradicts none);
      by_error = λ key state is found. (let none = either_blocked P _ reason.IpOption (passing direction packet state reason.StateError None) (λ free. refl) refl in shown_either P job.tap direction _ none none);
      by_state = λ key state t is found. shown_either P job.tap direction _ (tracked_visits direction packet state t) (tracked_visits direction packet state t);
      goes = λ passage visits first. absurd (contradicts first.none_found);
      makes = λ passage visits state first passes kept. absurd (contradicts first.none_found);
      has_no_place = λ passage visits first. absurd (contradicts first.none_found);
      has_no_room = λ passage visits first full. absurd (contradicts first.none_found);
      has_no_port = λ rule visits first. absurd (contradicts first.none_found);
    })
  where
    tracked_visits : (direction : Direction) (packet : Packet) (state : State) (t : Touch) → (tracked direction packet state t).visited ≡ none_visited
    tracked_visits direction packet state (touch.Touched next) = either_blocked (λ o. o.visited ≡ none_visited) _ reason.IpOption (passing direction packet state reason.State (Some (Touched next))) (λ free. refl) refl
    tracked_visits direction packet state touch.Mismatch = refl
    tracked_visits direction packet state touch.Removed = refl

-- a packet is blocked for want of room only if there is none
abbrev pub LacksRoom : StateTable → Outcome → Type 0
LacksRoom table outcome = outcome.reason ≡ reason.StateLimit → has_room_in table ≡ false

reason_by : (decision : Decision) → reason_of decision.rule ≡ reason.StateLimit → ⊥
reason_by decision is = by_rule decision.rule is
  where
    by_rule : (rule : Option RuleNumber) → reason_of rule ≡ reason.StateLimit → ⊥
    by_rule None is = cc is
    by_rule (Some number) is = cc is

filtered_lacks : (job : RunJob) (place : InterfacePlace) (table : StateTable) (packet : Packet) (direction : Direction) → LacksRoom table (filtered job.rules (filter_answer job.rules (name_in job place) table packet direction) packet direction)
filtered_lacks job place table packet direction =
    let answer = filter_answer job.rules (name_in job place) table packet direction in
    filtered_way job.rules answer packet direction (LacksRoom table) (λ free is. absurd (reason_by answer.decision is)) (λ is. absurd (cc is))

judged_lacks : (job : RunJob) (place : InterfacePlace) (table : StateTable) (packet : Packet) (direction : Direction) (passage : Passage) (visits : List ℕ) → LacksRoom table (judged_in job place table packet direction passage visits)
judged_lacks job place table packet direction passage visits = judged_way job.rules (answer_for job.rules (name_in job place) table direction packet passage) direction packet passage visits (LacksRoom table) (record {
  passed = λ free is. absurd (cc is);
  passed_blocked = λ is. absurd (cc is);
  decides = λ free is. absurd (reason_by (answer_for job.rules (name_in job place) table direction packet passage).decision is);
  decides_blocked = λ is. absurd (cc is);
})

tracked_lacks : (table : StateTable) (direction : Direction) (packet : Packet) (state : State) (t : Touch) → LacksRoom table (tracked direction packet state t)
tracked_lacks table direction packet state (touch.Touched next) = either_blocked (LacksRoom table) _ reason.IpOption (passing direction packet state reason.State (Some (Touched next))) (λ free is. absurd (cc is)) (λ is. absurd (cc is))
tracked_lacks table direction packet state touch.Mismatch = λ is. absurd (cc is)
tracked_lacks table direction packet state touch.Removed = λ is. absurd (cc is)

pub limit_of : (job : RunJob) (number : ℕ) (clock : Clock) (place : InterfacePlace) (packet : Packet) (table : StateTable) → LacksRoom (purged_at clock table) (step_of job number clock place (Ipv4 packet) table)
limit_of job number clock place packet table =
    let direction = direction_of job place packet in
    let now = purged_at clock table in
    step_way job number clock place table packet (LacksRoom now) (λ is. absurd (cc is)) (record {
      by_rules = λ none. filtered_lacks job place now packet direction;
      by_error = λ key state is found. (let lacks = either_blocked (LacksRoom now) _ reason.IpOption (passing direction packet state reason.StateError None) (λ free is. absurd (cc is)) (λ is. absurd (cc is)) in shown_either (LacksRoom now) job.tap direction _ lacks lacks);
      by_state = λ key state t is found. shown_either (LacksRoom now) job.tap direction _ (tracked_lacks now direction packet state t) (tracked_lacks now direction packet state t);
      goes = λ passage visits first. judged_lacks job place now packet direction passage visits;
      makes = λ passage visits state first passes kept. judged_lacks job place now packet direction passage visits;
      has_no_place = λ passage visits first is. absurd (cc is);
      has_no_room = λ passage visits first full is. full;
      has_no_port = λ rule visits first is. absurd (cc is);
    })

-- what doesn't pass isn't written
abbrev pub Unwritten : Outcome → Type 0
Unwritten outcome = lets_pass outcome.verdict ≡ false → outcome.bytes ≡ None

tracked_unwritten : (direction : Direction) (packet : Packet) (state : State) (t : Touch) → Unwritten (tracked direction packet state t)
tracked_unwritten direction packet state (touch.Touched next) = either_blocked Unwritten _ reason.IpOption (passing direction packet state reason.State (Some (Touched next))) (λ free stops. absurd (cc stops)) (λ stops. refl)
tracked_unwritten direction packet state touch.Mismatch = λ stops. refl
tracked_unwritten direction packet state touch.Removed = λ stops. refl

pub unwritten_of : (job : RunJob) (number : ℕ) (clock : Clock) (place : InterfacePlace) (packet : Packet) (table : StateTable) → Unwritten (step_of job number clock place (Ipv4 packet) table)
unwritten_of job number clock place packet table =
    let direction = direction_of job place packet in
    step_way job number clock place table packet Unwritten (λ stops. absurd (cc stops)) (record {
      by_rules = λ none. filtered_way job.rules (filter_answer job.rules (name_in job place) (purged_at clock table) packet direction) packet direction Unwritten (λ free stops. refl) (λ stops. refl);
      by_error = λ key state is found. shown_either Unwritten job.tap direction _ (either_blocked Unwritten _ reason.IpOption (passing direction packet state reason.StateError None) (λ free stops. absurd (cc stops)) (λ stops. refl)) (λ stops. refl);
      by_state = λ key state t is found. shown_either Unwritten job.tap direction _ (tracked_unwritten direction packet state t) (λ stops. refl);
      goes = λ passage visits first stops. judged_writes_nothing job.rules (answer_for job.rules (name_in job place) (purged_at clock table) direction packet passage) direction packet passage visits;
      makes = λ passage visits state first passes kept stops. (let both : true ≡ false = sym passes ∙ stops in absurd (cc both));
      has_no_place = λ passage visits first stops. refl;
      has_no_room = λ passage visits first full stops. refl;
      has_no_port = λ rule visits first stops. refl;
    })

-- a packet with IP options passes only by leave of a rule or of a state
abbrev pub ByLeave : List FlatRule → List State → Packet → Outcome → Type 0
ByLeave rules states packet outcome = has_options packet ≡ true → lets_pass outcome.verdict ≡ true → (outcome.reason ≡ reason.SkipOn → ⊥) → HasLeave rules states outcome

-- of a test that is false, where its first two parts are true, the third is
third_false : (a b c : Bool) → (a && (b && not c)) ≡ false → a ≡ true → b ≡ true → c ≡ true
third_false a b c none first second = not-false c (rw (first, second) at none)

-- the deciding rule has leave
abbrev pub RuleWithLeave : List FlatRule → Option RuleNumber → Type 0
RuleWithLeave rules named = (number : RuleNumber) × (rule : FlatRule) × (slice_get rules number.0 ≡ Some rule) × (named ≡ Some number) × (rule.allow_opts ≡ true)

rule_with_leave : (rules : List FlatRule) (number : Option RuleNumber) → (conduct_of rules number).allows_options ≡ true → RuleWithLeave rules number
rule_with_leave rules None is = absurd (cc is)
rule_with_leave rules (Some number) is = at_place (slice_get rules number.0) refl is
  where
    at_place : (found : Option FlatRule) → slice_get rules number.0 ≡ found → (conduct_at found).allows_options ≡ true → RuleWithLeave rules (Some number)
    at_place None got is = absurd (cc is)
    at_place (Some rule) got is = (number, rule, got, refl, is)

filtered_leave : (job : RunJob) (answer : FilterAnswer) (states : List State) (packet : Packet) (direction : Direction) → ByLeave job.rules.filter.rules states packet (filtered job.rules answer packet direction)
filtered_leave job answer states packet direction = filtered_way job.rules answer packet direction (ByLeave job.rules.filter.rules states packet)
    (λ free options passes why. inl (rule_with_leave job.rules.filter.rules answer.decision.rule (third_false _ _ _ free passes options)))
    (λ options passes why. absurd (cc passes))

state_leave : (table : StateTable) (rules : List FlatRule) (direction : Direction) (packet : Packet) (state : State) (why : Reason) (change : Option TableChange) → Contains table.states state
    → ByLeave rules table.states packet (without_leave packet state.rules.allows_options (passing direction packet state why change))
state_leave table rules direction packet state why change is_there =
    either_blocked (ByLeave rules table.states packet) _ reason.IpOption (passing direction packet state why change)
    (λ free options passes skipped. inr (state, is_there, refl, third_false true (has_options packet) state.rules.allows_options free refl options))
    (λ options passes skipped. absurd (cc passes))

tracked_leave : (table : StateTable) (rules : List FlatRule) (direction : Direction) (packet : Packet) (state : State) (t : Touch) → Contains table.states state → ByLeave rules table.states packet (tracked direction packet state t)
tracked_leave table rules direction packet state (touch.Touched next) is_there = state_leave table rules direction packet state reason.State (Some (Touched next)) is_there
tracked_leave table rules direction packet state touch.Mismatch is_there = λ options passes skipped. absurd (cc passes)
tracked_leave table rules direction packet state touch.Removed is_there = λ options passes skipped. absurd (cc passes)

-- a packet that isn't filtered has no IP options if it passes
no_options : (options : Bool) → (options && not false) ≡ false → options ≡ true → ⊥
no_options true none is = cc none
no_options false none is = cc is

-- the rule that decides on a packet behind its translation, where its IP options pass
judged_rule : (job : RunJob) (place : InterfacePlace) (table : StateTable) (packet : Packet) (direction : Direction) (passage : Passage) (visits : List ℕ) → has_options packet ≡ true → lets_pass (judged_in job place table packet direction passage visits).verdict ≡ true
    → RuleWithLeave job.rules.filter.rules (judged_in job place table packet direction passage visits).rule
judged_rule job place table packet direction passage visits options lets =
    judged_way job.rules (answer_for job.rules (name_in job place) table direction packet passage) direction packet passage visits (λ o. lets_pass o.verdict ≡ true → RuleWithLeave job.rules.filter.rules o.rule) (record {
      passed = λ free passes. absurd (no_options (has_options packet) free options);
      passed_blocked = λ passes. absurd (cc passes);
      decides = λ free passes. rule_with_leave job.rules.filter.rules (answer_for job.rules (name_in job place) table direction packet passage).decision.rule
          (third_false _ _ _ free passes (behind_options direction passage packet ∙ options));
      decides_blocked = λ passes. absurd (cc passes);
    }) lets

pub leave_of : (job : RunJob) (number : ℕ) (clock : Clock) (place : InterfacePlace) (packet : Packet) (table : StateTable) → ByLeave job.rules.filter.rules (purged_at clock table).states packet (step_of job number clock place (Ipv4 packet) table)
leave_of job number clock place packet table =
    let direction = direction_of job place packet in
    let now = purged_at clock table in
    let rules = job.rules.filter.rules in
    step_way job number clock place table packet (ByLeave rules now.states packet) (λ options passes skipped. absurd (skipped refl)) (record {
      by_rules = λ none. filtered_leave job (filter_answer job.rules (name_in job place) now packet direction) now.states packet direction;
      by_error = λ key state is found. (let leave = state_leave now rules direction packet state reason.StateError None (found_in_states now (looked_up_on job.tap direction) key (binding.To place) state found) in shown_either (ByLeave rules now.states packet) job.tap direction _ leave leave);
      by_state = λ key state t is found. (let leave = tracked_leave now rules direction packet state t (found_in_states now (looked_up_on job.tap direction) key (binding.To place) state found) in shown_either (ByLeave rules now.states packet) job.tap direction _ leave leave);
      goes = λ passage visits first options passes skipped. inl (judged_rule job place now packet direction passage visits options passes);
      makes = λ passage visits state first lets kept options passes skipped. inl (judged_rule job place now packet direction passage visits options lets);
      has_no_place = λ passage visits first options passes skipped. absurd (cc passes);
      has_no_room = λ passage visits first full options passes skipped. absurd (cc passes);
      has_no_port = λ rule visits first options passes skipped. absurd (cc passes);
    })

-- what is passed over
pub untouched_of : (job : RunJob) (number : ℕ) (clock : Clock) (place : InterfacePlace) (view : View) (table : StateTable) → (view ≡ Skip) ⊎ (is_skipped job place ≡ true) → IsUntouched (step_of job number clock place view table) × (asked_of job number clock place view table ≡ [])
unfolding step_of asked_of plan
untouched_of job number clock place Skip table over = (record { goes_on = inr refl; change_is = refl; bytes_are = refl; state_is = refl; rule_is = refl; translation_is = refl; visited_is = refl }, refl)
untouched_of job number clock place Short table (inl is) = absurd (cc is)
untouched_of job number clock place Short table (inr is) = rw is (record { goes_on = inl refl; change_is = refl; bytes_are = refl; state_is = refl; rule_is = refl; translation_is = refl; visited_is = refl }, refl)
untouched_of job number clock place (Ipv4 packet) table (inl is) = absurd (cc is)
untouched_of job number clock place (Ipv4 packet) table (inr is) = rw is (record { goes_on = inl refl; change_is = refl; bytes_are = refl; state_is = refl; rule_is = refl; translation_is = refl; visited_is = refl }, refl)
