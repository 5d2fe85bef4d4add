-- Settings: which way packets go, and where they were captured.
use Rattle.std.proofs.Common.{◌≡◌, ◌↔◌, ◌&&◌, ℕ, Bool, true, false, eqb, cond, List, [], ◌∷◌, Option, Some, None, refl, sym, ◌∙◌, ap, subst}
use Rattle.std.proofs.lemmas.Bool.{eq-eqb, eqb-true}
use Rattle.std.proofs.lemmas.Slice.Eq.{bytes_eq-Decides}
use Rattle.std.specs.List.{Contains, find}
use Rattle.std.specs.Str.{bytes_eq}
use Rattle.pfr_net.specs.declared.direction.Direction.{Direction}
use Rattle.pfr_net.specs.declared.direction.Direction.TheVariants.{In, Out}
use Rattle.pfr_net.specs.declared.endpoint.Endpoint.{Endpoint}
use Rattle.pfr_net.specs.declared.interface.Binding.{Binding}
use Rattle.pfr_net.specs.declared.interface.Binding.TheVariants.{To}
use Rattle.pfr_net.specs.declared.interface.IfName.{IfName}
use Rattle.pfr_net.specs.declared.interface.InterfacePlace.{InterfacePlace}
use Rattle.pfr_net.specs.Interfaces.{meets}
use Rattle.pfr_ruleset.specs.declared.ruleset.Ruleset.{Ruleset}
use Rattle.pfr_headers.specs.declared.change.Change.{Change}
use Rattle.pfr_headers.specs.declared.ethernet.EthernetAddress.{EthernetAddress}
use Rattle.pfr_headers.specs.declared.packet.Packet.{Packet}
use Rattle.pfr_headers.specs.declared.packet.View.{View}
use Rattle.pfr_headers.specs.declared.packet.View.TheVariants.{Ipv4, Skip, Short}
use Rattle.pfr_headers.specs.declared.tap.Tap.{Tap}
use Rattle.pfr_headers.specs.declared.tap.Tap.TheVariants as tap
use Rattle.pfr_headers.specs.Ways.{sent_from}
use Rattle.pfr_rules.specs.declared.hit.Hit.{Hit}
use Rattle.pfr_rules.specs.Translating.{hit_of, translations_visited}
use Rattle.pfr_track.specs.declared.key.Key.{Key}
use Rattle.pfr_track.specs.declared.outcome.Touch.{Touch}
use Rattle.pfr_track.specs.declared.outcome.Touch.TheVariants as touch
use Rattle.pfr_track.specs.declared.state.State.{State}
use Rattle.pfr_track.specs.declared.state.StateRules.{StateRules}
use Rattle.pfr_track.specs.declared.time.Clock.{Clock}
use Rattle.pfr_track.specs.Tracking.{made, touched}
use Rattle.pfr_states.specs.declared.change.Side.{Side}
use Rattle.pfr_states.specs.declared.change.Side.TheVariants.{Wire, Stack}
use Rattle.pfr_states.specs.declared.change.TableChange.{TableChange}
use Rattle.pfr_states.specs.declared.change.TableChange.TheVariants.{Made, Touched, Removed}
use Rattle.pfr_states.specs.Answers.{found_in, has_room_in, purged_at}
use Rattle.pfr_states.specs.States.{StateTable, is_found, is_same_end, is_same_key}
use Rattle.pfr_states.proofs.Membership.{here, there}
use Rattle.pfr_packet.specs.declared.keys.Subject.{Subject}
use Rattle.pfr_packet.specs.declared.keys.Subject.TheVariants.{Alone, Connection, Embedded}
use Rattle.pfr_packet.specs.declared.outcome.Outcome.{Outcome}
use Rattle.pfr_packet.specs.declared.passage.Passage.{Passage}
use Rattle.pfr_packet.specs.declared.verdict.Reason.{Reason}
use Rattle.pfr_packet.specs.declared.verdict.Reason.TheVariants as reason
use Rattle.pfr_packet.specs.declared.verdict.Verdict.TheVariants as verdict
use Rattle.pfr_packet.specs.Connections.{IsAnswerTo, IsLater}
use Rattle.pfr_packet.specs.Filtering.{filtered}
use Rattle.pfr_packet.specs.Found.{embedded, passed, tracked}
use Rattle.pfr_packet.specs.Job.{HasDefaults, RunJob, direction_of, is_skipped, link_address_at, name_in, timeouts_of}
use Rattle.pfr_packet.specs.Keys.{side_of, subject_of, written_by}
use Rattle.pfr_packet.specs.Making.{making, with_keys, with_room}
use Rattle.pfr_packet.specs.Outcomes.{blocked, unseen}
use Rattle.pfr_packet.specs.Passages.{judged, judged_kept, untranslated}
use Rattle.pfr_packet.specs.Plan.{Plan, done, filter_answer, outcome_of}
use Rattle.pfr_packet.specs.Settings.{AnswersOnTheWireAreFollowed, AreUntranslated, GoesBySourceByDefault, GoesOutByItsSender, HasNoTranslations, IsFollowed, MadeUntranslated, TapChangesNothing}
use Rattle.pfr_packet.specs.Steps.{answer_for, by_connection, by_embedded, following, going, opened, opening, packet_plan, passed_over, plan, step_of, subject_plan, translation_hit, translations_asked}
use Rattle.pfr_packet.specs.Taps.{as_shown, is_translated, looked_up_on}
use Rattle.pfr_packet.specs.Verdicts.{lets_pass}
use Rattle.pfr_packet.proofs.AnswerLemmas.{answer_by, found_by}
use Rattle.pfr_packet.proofs.BackLemmas.{filters, later_keyed, purged_table, still_there}
use Rattle.pfr_packet.proofs.ChangeLemmas.{found_in_states, passing}
use Rattle.pfr_packet.proofs.ConnectionLemmas.{IsKeyed, keyed_of}
use Rattle.pfr_packet.proofs.OpeningLemmas.{either_blocked, filtered_way, going_way, judged_changes_nothing}
use Rattle.pfr_packet.proofs.PassageLemmas.{subject_of_key}
use Rattle.pfr_packet.proofs.ShownLemmas.{shown_either}

-- ---- which way packets go

address_is : (a b : EthernetAddress) → a.0 ≡ b.0 → a ≡ b
address_is a b is = ap (λ (bytes : List ℕ). record { 0 = bytes }) is

sent_out : (address sender : EthernetAddress) (test : Bool) → bytes_eq sender.0 address.0 ≡ test → (cond test Out In ≡ Out) ↔ (Some sender ≡ Some address)
sent_out address sender true is = (λ out. ap (λ (a : EthernetAddress). Some a) (address_is sender address ((bytes_eq-Decides sender.0 address.0).0 is)), λ same. refl)
sent_out address sender false is = (
  λ out. absurd (cc out),
  λ same. (let a : sender ≡ address = cc same in let both : false ≡ true = sym is ∙ (bytes_eq-Decides sender.0 address.0).1 (ap (λ (x : EthernetAddress). x.0) a) in absurd (cc both)),
)

by_sender : (address : EthernetAddress) (sender : Option EthernetAddress) → (sent_from address sender ≡ Out) ↔ (sender ≡ Some address)
by_sender address None = (λ out. absurd (cc out), λ same. absurd (cc same))
by_sender address (Some sender) = sent_out address sender _ refl

pub goes_out_by_its_sender : GoesOutByItsSender
goes_out_by_its_sender job place packet address known = rw known (by_sender address packet.sender)

pub goes_by_source : GoesBySourceByDefault
goes_by_source job place packet direction defaults = (rw (defaults.link_addresses_is, defaults.excepted_is) refl, rw defaults.tap_is refl)

-- ---- without translation rules

hit_none : (rules : Ruleset) (name : IfName) (packet : Packet) (direction : Direction) → HasNoTranslations rules → hit_of rules name packet direction ≡ None
unfolding hit_of
hit_none rules name packet In none = rw none refl
hit_none rules name packet Out none = rw none refl

visited_none : (rules : Ruleset) (name : IfName) (packet : Packet) (direction : Direction) → HasNoTranslations rules → translations_visited rules name packet direction ≡ []
unfolding translations_visited
visited_none rules name packet In none = rw none refl
visited_none rules name packet Out none = rw none refl

no_hit : (job : RunJob) (place : InterfacePlace) (packet : Packet) (direction : Direction) → HasNoTranslations job.rules → translation_hit job place packet direction ≡ None
no_hit job place packet direction none = by_test (is_translated job.tap direction)
  where
    by_test : (test : Bool) → cond test None (hit_of job.rules (name_in job place) packet direction) ≡ None
    by_test true = refl
    by_test false = hit_none job.rules (name_in job place) packet direction none

none_asked : (job : RunJob) (place : InterfacePlace) (packet : Packet) (direction : Direction) → HasNoTranslations job.rules → translations_asked job place packet direction ≡ []
none_asked job place packet direction none = by_test (is_translated job.tap direction)
  where
    by_test : (test : Bool) → cond test [] (translations_visited job.rules (name_in job place) packet direction) ≡ []
    by_test true = refl
    by_test false = visited_none job.rules (name_in job place) packet direction none

-- so the first packet of a connection goes through as it is
opens_plainly : (job : RunJob) (number : ℕ) (clock : Clock) (place : InterfacePlace) (table : StateTable) (packet : Packet) (direction : Direction) (key : Key) → HasNoTranslations job.rules
    → outcome_of table (opening job number clock place packet direction key) ≡ outcome_of table (going job number clock place packet direction [] (untranslated key))
opens_plainly job number clock place table packet direction key none = rw (no_hit job place packet direction none, none_asked job place packet direction none) refl

-- ---- over states with one key

either_key : (key : Key) (scope : Binding) (states : List State) → AreUntranslated states → find (is_found Wire key scope) states ≡ find (is_found Stack key scope) states
either_key key scope [] all = refl
either_key key scope (state ∷ states) all =
    let first : is_found Wire key scope state ≡ is_found Stack key scope state = ap (λ (k : Key). is_same_key k key && meets state.rules.binding scope) (all state (here state states)) in
    let rest = either_key key scope states (λ other among. all other (there state states other among)) in
    rw (first, rest) refl

either_side : (table : StateTable) (key : Key) (scope : Binding) → AreUntranslated table.states → found_in table Wire key scope ≡ found_in table Stack key scope
unfolding found_in
either_side table key scope all = either_key key scope table.states all

own_side_found : (t : Tap) (direction : Direction) (table : StateTable) (key : Key) (scope : Binding) → AreUntranslated table.states → found_in table (looked_up_on t direction) key scope ≡ found_in table (side_of direction) key scope
own_side_found tap.Stack In table key scope all = refl
own_side_found tap.Stack Out table key scope all = refl
own_side_found tap.Wire In table key scope all = refl
own_side_found tap.Wire Out table key scope all = either_side table key scope all

end_same : (end : Endpoint) → is_same_end end end ≡ true
end_same end = rw (eq-eqb end.address.0 end.address.0 refl, eq-eqb end.port.0 end.port.0 refl) refl

nothing_written : (direction : Direction) (packet : Packet) (state : State) → state.wire ≡ state.stack → written_by direction packet state.wire state.stack ≡ None
nothing_written direction packet state is = subst (λ (key : Key). written_by direction packet key state.stack ≡ None) (sym is) (rw (end_same state.stack.inside) refl)

passed_unwritten : (direction : Direction) (packet : Packet) (state : State) (why : Reason) (change : Option TableChange) → state.wire ≡ state.stack → (passed direction packet state why change).bytes ≡ None
passed_unwritten direction packet state why change is = either_blocked (λ o. o.bytes ≡ None) _ reason.IpOption (passing direction packet state why change) (λ free. nothing_written direction packet state is) refl

tracked_unwritten : (direction : Direction) (packet : Packet) (state : State) (t : Touch) → state.wire ≡ state.stack → (tracked direction packet state t).bytes ≡ None
tracked_unwritten direction packet state (touch.Touched next) is = passed_unwritten direction packet state reason.State (Some (Touched next)) is
tracked_unwritten direction packet state touch.Mismatch is = refl
tracked_unwritten direction packet state touch.Removed is = refl

-- an outcome that writes nothing is shown as it is
shown_plainly : (t : Tap) (direction : Direction) (outcome : Outcome) → outcome.bytes ≡ None → as_shown t direction outcome ≡ outcome
shown_plainly t direction outcome is = by_test (is_translated t direction)
  where
    by_test : (test : Bool) → cond test (record outcome { bytes = None }) outcome ≡ outcome
    by_test true = ap (λ (bytes : Option Change). record outcome { bytes = bytes }) (sym is)
    by_test false = refl

-- ---- whatever the tap

-- what a packet comes to by its state, or without one
plain_error : RunJob → InterfacePlace → StateTable → Packet → Direction → Option State → Outcome
plain_error job place table packet direction None = filtered job.rules (filter_answer job.rules (name_in job place) table packet direction) packet direction
plain_error job place table packet direction (Some state) = embedded direction packet state

plain : RunJob → ℕ → Clock → InterfacePlace → StateTable → Packet → Direction → Key → Option State → Outcome
plain job number clock place table packet direction key None = outcome_of table (going job number clock place packet direction [] (untranslated key))
plain job number clock place table packet direction key (Some state) = tracked direction packet state (touched state packet direction clock (timeouts_of job))

error_plainly : (job : RunJob) (place : InterfacePlace) (table : StateTable) (packet : Packet) (direction : Direction) (key : Key) → AreUntranslated table.states
    → (found : Option State) → found_in table (side_of direction) key (To place) ≡ found → outcome_of table (by_embedded job place packet direction found) ≡ plain_error job place table packet direction found
unfolding plain_error
error_plainly job place table packet direction key all None is = refl
error_plainly job place table packet direction key all (Some state) is =
    shown_plainly job.tap direction (embedded direction packet state) (passed_unwritten direction packet state reason.StateError None (all state (found_in_states table (side_of direction) key (To place) state is)))

connection_plainly : (job : RunJob) (number : ℕ) (clock : Clock) (place : InterfacePlace) (table : StateTable) (packet : Packet) (direction : Direction) (key : Key) → HasNoTranslations job.rules → AreUntranslated table.states
    → (found : Option State) → found_in table (side_of direction) key (To place) ≡ found → outcome_of table (by_connection job number clock place packet direction key found) ≡ plain job number clock place table packet direction key found
unfolding plain
connection_plainly job number clock place table packet direction key none all None is = opens_plainly job number clock place table packet direction key none
connection_plainly job number clock place table packet direction key none all (Some state) is =
    let t = touched state packet direction clock (timeouts_of job) in
    shown_plainly job.tap direction (tracked direction packet state t) (tracked_unwritten direction packet state t (all state (found_in_states table (side_of direction) key (To place) state is)))

plainly : RunJob → ℕ → Clock → InterfacePlace → StateTable → Packet → Direction → Subject → Outcome
plainly job number clock place table packet direction Alone = plain_error job place table packet direction None
plainly job number clock place table packet direction (Embedded key) = plain_error job place table packet direction (found_in table (side_of direction) key (To place))
plainly job number clock place table packet direction (Connection key) = plain job number clock place table packet direction key (found_in table (side_of direction) key (To place))

subject_plainly : (job : RunJob) (number : ℕ) (clock : Clock) (place : InterfacePlace) (table : StateTable) (packet : Packet) (direction : Direction) → HasNoTranslations job.rules → AreUntranslated table.states → (subject : Subject)
    → outcome_of table (subject_plan job number clock place packet direction subject) ≡ plainly job number clock place table packet direction subject
unfolding plainly plain_error
subject_plainly job number clock place table packet direction none all Alone = refl
subject_plainly job number clock place table packet direction none all (Embedded key) =
    ap (λ (found : Option State). outcome_of table (by_embedded job place packet direction found)) (own_side_found job.tap direction table key (To place) all)
    ∙ error_plainly job place table packet direction key all _ refl
subject_plainly job number clock place table packet direction none all (Connection key) =
    ap (λ (found : Option State). outcome_of table (by_connection job number clock place packet direction key found)) (own_side_found job.tap direction table key (To place) all)
    ∙ connection_plainly job number clock place table packet direction key none all _ refl

-- nothing of this depends on the tap
with_tap : RunJob → Tap → RunJob
with_tap job t = record job { tap = t }

plainly_same : (job : RunJob) (t : Tap) (number : ℕ) (clock : Clock) (place : InterfacePlace) (table : StateTable) (packet : Packet) (direction : Direction) (subject : Subject)
    → plainly (with_tap job t) number clock place table packet direction subject ≡ plainly job number clock place table packet direction subject
unfolding plainly plain plain_error with_tap
plainly_same job t number clock place table packet direction Alone = refl
plainly_same job t number clock place table packet direction (Embedded key) = by_found (found_in table (side_of direction) key (To place))
  where
    by_found : (found : Option State) → plain_error (with_tap job t) place table packet direction found ≡ plain_error job place table packet direction found
    by_found None = refl
    by_found (Some state) = refl
plainly_same job t number clock place table packet direction (Connection key) = by_found (found_in table (side_of direction) key (To place))
  where
    by_found : (found : Option State) → plain (with_tap job t) number clock place table packet direction key found ≡ plain job number clock place table packet direction key found
    by_found None = refl
    by_found (Some state) = refl

packet_same : (job : RunJob) (t : Tap) (number : ℕ) (clock : Clock) (place : InterfacePlace) (table : StateTable) (packet : Packet) (direction : Direction) → HasNoTranslations job.rules → AreUntranslated table.states
    → outcome_of table (packet_plan (record job { tap = t }) number clock place packet direction) ≡ outcome_of table (packet_plan job number clock place packet direction)
unfolding packet_plan with_tap
packet_same job t number clock place table packet direction none all =
    subject_plainly (record job { tap = t }) number clock place table packet direction none all (subject_of direction packet)
    ∙ plainly_same job t number clock place table packet direction (subject_of direction packet)
    ∙ sym (subject_plainly job number clock place table packet direction none all (subject_of direction packet))

view_same : (job : RunJob) (t : Tap) (number : ℕ) (clock : Clock) (place : InterfacePlace) (table : StateTable) (view : View) → HasNoTranslations job.rules → AreUntranslated table.states
    → outcome_of table (plan (record job { tap = t }) number clock place view) ≡ outcome_of table (plan job number clock place view)
unfolding plan
view_same job t number clock place table Skip none all = refl
view_same job t number clock place table Short none all = refl
view_same job t number clock place table (Ipv4 packet) none all = by_test (is_skipped job place)
  where
    direction : Direction
    direction = direction_of job place packet

    by_test : (test : Bool)
        → outcome_of table (cond test (done passed_over) (packet_plan (record job { tap = t }) number clock place packet direction)) ≡ outcome_of table (cond test (done passed_over) (packet_plan job number clock place packet direction))
    by_test true = refl
    by_test false = packet_same job t number clock place table packet direction none all

pub tap_changes_nothing : TapChangesNothing
unfolding step_of
tap_changes_nothing job other number clock place view table none all = view_same job other number clock place (purged_at clock table) view none all

-- ---- the states that are made

abbrev UntranslatedIf : Option TableChange → Type 0
UntranslatedIf None = Unit {0}
UntranslatedIf (Some (Made state)) = state.wire ≡ state.stack
UntranslatedIf (Some (Touched state)) = Unit {0}
UntranslatedIf (Some (Removed number)) = Unit {0}

abbrev Untranslated : Outcome → Type 0
Untranslated outcome = UntranslatedIf outcome.change

unchanged_one : (outcome : Outcome) → outcome.change ≡ None → Untranslated outcome
unchanged_one outcome is = subst UntranslatedIf (sym is) tt

room_one : (table : StateTable) (packet : Packet) (state : State) (outcome : Outcome) → state.wire ≡ state.stack → (room : Bool) → Untranslated (outcome_of table (with_room packet state outcome room))
room_one table packet state outcome is true = is
room_one table packet state outcome is false = tt

keys_one : (table : StateTable) (packet : Packet) (state : State) (outcome : Outcome) → state.wire ≡ state.stack → (wire stack : Option State) → Untranslated (outcome_of table (with_keys packet state outcome wire stack))
keys_one table packet state outcome is None None = room_one table packet state outcome is (has_room_in table)
keys_one table packet state outcome is None (Some other) = tt
keys_one table packet state outcome is (Some other) _ = tt

opened_one : (job : RunJob) (number : ℕ) (clock : Clock) (place : InterfacePlace) (table : StateTable) (packet : Packet) (direction : Direction) (key : Key) (outcome : Outcome) → outcome.change ≡ None
    → (kept : Option StateRules) → Untranslated (outcome_of table (opened job number clock place packet direction (untranslated key) outcome kept))
opened_one job number clock place table packet direction key outcome is None = unchanged_one outcome is
opened_one job number clock place table packet direction key outcome is (Some rules) = by_verdict (lets_pass outcome.verdict)
  where
    state : State
    state = made (record { 0 = number }) packet direction place key key rules clock (timeouts_of job)

    by_verdict : (passes : Bool) → Untranslated (outcome_of table (cond passes (making packet state outcome) (done outcome)))
    by_verdict true = keys_one table packet state outcome refl (found_in table Wire state.wire state.rules.binding) (found_in table Stack state.stack state.rules.binding)
    by_verdict false = unchanged_one outcome is

going_one : (job : RunJob) (number : ℕ) (clock : Clock) (place : InterfacePlace) (table : StateTable) (packet : Packet) (direction : Direction) (key : Key) → Untranslated (outcome_of table (going job number clock place packet direction [] (untranslated key)))
going_one job number clock place table packet direction key =
    let passage : Passage = untranslated key in
    let answer = answer_for job.rules (name_in job place) table direction packet passage in
    going_way job number clock place table packet direction Untranslated [] passage
    (opened_one job number clock place table packet direction key (judged job.rules answer direction packet passage []) (judged_changes_nothing job.rules answer direction packet passage []) (judged_kept place job.rules answer direction packet passage))

passed_one : (direction : Direction) (packet : Packet) (state : State) (why : Reason) (change : Option TableChange) → UntranslatedIf change → Untranslated (passed direction packet state why change)
passed_one direction packet state why change one = either_blocked Untranslated _ reason.IpOption (passing direction packet state why change) (λ free. one) tt

tracked_one : (direction : Direction) (packet : Packet) (state : State) (t : Touch) → Untranslated (tracked direction packet state t)
tracked_one direction packet state (touch.Touched next) = passed_one direction packet state reason.State (Some (Touched next)) tt
tracked_one direction packet state touch.Mismatch = tt
tracked_one direction packet state touch.Removed = tt

filtered_one : (job : RunJob) (place : InterfacePlace) (table : StateTable) (packet : Packet) (direction : Direction) → Untranslated (filtered job.rules (filter_answer job.rules (name_in job place) table packet direction) packet direction)
filtered_one job place table packet direction = filtered_way job.rules (filter_answer job.rules (name_in job place) table packet direction) packet direction Untranslated (λ free. tt) tt

connection_one : (job : RunJob) (number : ℕ) (clock : Clock) (place : InterfacePlace) (table : StateTable) (packet : Packet) (direction : Direction) (key : Key) → HasNoTranslations job.rules → (found : Option State)
    → Untranslated (outcome_of table (by_connection job number clock place packet direction key found))
connection_one job number clock place table packet direction key none None = subst Untranslated (sym (opens_plainly job number clock place table packet direction key none)) (going_one job number clock place table packet direction key)
connection_one job number clock place table packet direction key none (Some state) =
    (let one = tracked_one direction packet state (touched state packet direction clock (timeouts_of job)) in shown_either Untranslated job.tap direction _ one one)

embedded_one : (job : RunJob) (place : InterfacePlace) (table : StateTable) (packet : Packet) (direction : Direction) (found : Option State) → Untranslated (outcome_of table (by_embedded job place packet direction found))
embedded_one job place table packet direction None = filtered_one job place table packet direction
embedded_one job place table packet direction (Some state) = (let one = passed_one direction packet state reason.StateError None tt in shown_either Untranslated job.tap direction _ one one)

subject_one : (job : RunJob) (number : ℕ) (clock : Clock) (place : InterfacePlace) (table : StateTable) (packet : Packet) (direction : Direction) → HasNoTranslations job.rules → (subject : Subject)
    → Untranslated (outcome_of table (subject_plan job number clock place packet direction subject))
subject_one job number clock place table packet direction none Alone = filtered_one job place table packet direction
subject_one job number clock place table packet direction none (Embedded key) = embedded_one job place table packet direction (found_in table (looked_up_on job.tap direction) key (To place))
subject_one job number clock place table packet direction none (Connection key) = connection_one job number clock place table packet direction key none (found_in table (looked_up_on job.tap direction) key (To place))

skipped_one : (table : StateTable) (skipped : Bool) (other : Plan) → Untranslated (outcome_of table other) → Untranslated (outcome_of table (cond skipped (done passed_over) other))
skipped_one table true other one = tt
skipped_one table false other one = one

view_one : (job : RunJob) (number : ℕ) (clock : Clock) (place : InterfacePlace) (table : StateTable) → HasNoTranslations job.rules → (view : View) → Untranslated (outcome_of table (plan job number clock place view))
unfolding plan packet_plan
view_one job number clock place table none Skip = tt
view_one job number clock place table none Short = skipped_one table (is_skipped job place) (done (unseen verdict.Block reason.Short)) tt
view_one job number clock place table none (Ipv4 packet) =
    let direction = direction_of job place packet in
    skipped_one table (is_skipped job place) (packet_plan job number clock place packet direction) (subject_one job number clock place table packet direction none (subject_of direction packet))

made_one : (change : Option TableChange) (state : State) → change ≡ Some (Made state) → UntranslatedIf change → state.wire ≡ state.stack
made_one change state is one = subst UntranslatedIf is one

pub made_untranslated : MadeUntranslated
unfolding step_of
made_untranslated job number clock place view table state none is = made_one (step_of job number clock place view table).change state is (view_one job number clock place (purged_at clock table) none view)

-- ---- answers on the wire

passed_named : (direction : Direction) (packet : Packet) (state : State) (why : Reason) (change : Option TableChange) → (passed direction packet state why change).state ≡ Some state.number
passed_named direction packet state why change = either_blocked (λ o. o.state ≡ Some state.number) _ reason.IpOption (passing direction packet state why change) (λ free. refl) refl

tracked_named : (direction : Direction) (packet : Packet) (state : State) (t : Touch) → (tracked direction packet state t).state ≡ Some state.number
tracked_named direction packet state (touch.Touched next) = passed_named direction packet state reason.State (Some (Touched next))
tracked_named direction packet state touch.Mismatch = refl
tracked_named direction packet state touch.Removed = refl

found_on_wire : (job : RunJob) (next : ℕ) (now : Clock) (place : InterfacePlace) (answer : Packet) (table : StateTable) (later : State) → job.tap ≡ tap.Wire → subject_of Out answer ≡ Connection later.wire
    → found_in table Wire later.wire (To place) ≡ Some later → IsFollowed later (outcome_of table (packet_plan job next now place answer Out))
unfolding packet_plan
found_on_wire job next now place answer table later wire looked_up found =
    let t = touched later answer Out now (timeouts_of job) in
    let followed : IsFollowed later (record (tracked Out answer later t) { bytes = None }) = record { named = tracked_named Out answer later t; unwritten = refl } in
    let side : looked_up_on job.tap Out ≡ Wire = ap (λ (at : Tap). looked_up_on at Out) wire in
    let shown : IsFollowed later (following job now answer Out later) =
    subst (λ (test : Bool). IsFollowed later (cond test (record (tracked Out answer later t) { bytes = None }) (tracked Out answer later t))) (sym (ap (λ (at : Tap). is_translated at Out) wire)) followed in
    let by_state : IsFollowed later (outcome_of table (by_connection job next now place answer Out later.wire (found_in table Wire later.wire (To place)))) =
    subst (λ (is : Option State). IsFollowed later (outcome_of table (by_connection job next now place answer Out later.wire is))) (sym found) shown in
    let by_side : IsFollowed later (outcome_of table (by_connection job next now place answer Out later.wire (found_in table (looked_up_on job.tap Out) later.wire (To place)))) =
    subst (λ (side : Side). IsFollowed later (outcome_of table (by_connection job next now place answer Out later.wire (found_in table side later.wire (To place))))) (sym side) by_state in
    subst (λ (subject : Subject). IsFollowed later (outcome_of table (subject_plan job next now place answer Out subject))) (sym looked_up) by_side

by_direction : (job : RunJob) (next : ℕ) (now : Clock) (place : InterfacePlace) (answer : Packet) (table : StateTable) (later : State) (direction : Direction) (skipped : Bool) → direction ≡ Out → skipped ≡ false
    → IsFollowed later (outcome_of table (packet_plan job next now place answer Out)) → IsFollowed later (outcome_of table (cond skipped (done passed_over) (packet_plan job next now place answer direction)))
by_direction job next now place answer table later direction skipped out filtered followed = rw (out, filtered) followed

pub followed_on_wire : AnswersOnTheWireAreFollowed
unfolding step_of plan
followed_on_wire job number next clock now place back packet answer table after state later wire is comes_in answers goes_out is_table is_there alive is_later met filtered =
    let keyed = subst (λ (d : Direction). IsKeyed d packet (step_of job number clock place (Ipv4 packet) table).bytes state) comes_in (keyed_of job number clock place packet table state is) in
    let of_later = later_keyed In packet (step_of job number clock place (Ipv4 packet) table).bytes state later is_later keyed in
    let back_by = answer_by In packet answer later.wire answers.from answers.to of_later.through.goes answers.was_sent answers.comes_back in
    let looked_up = subject_of_key Out answer later.wire (of_later.through.wire_protocol ∙ sym answers.protocol_is) back_by in
    let purged = purged_at now after in
    let found = found_by purged Wire later back (purged_table now after is_table) (still_there now after later is_there alive) met in
    by_direction job next now back answer purged later (direction_of job back answer) (is_skipped job back) goes_out (filtered ∙ filters job number clock place packet table state is)
    (found_on_wire job next now back answer purged later wire looked_up found)
