-- A packet visits no rule twice, whichever way it goes.
use Rattle.std.proofs.Common.{◌≡◌, ◌==◌, ℕ, Bool, true, false, Option, Some, None, List, [], cond, arith, refl, sym, subst}
use Rattle.std.specs.List.{count_by}
use Rattle.pfr_net.specs.declared.direction.Direction.{Direction}
use Rattle.pfr_net.specs.declared.interface.Binding.TheVariants as binding
use Rattle.pfr_net.specs.declared.interface.IfName.{IfName}
use Rattle.pfr_net.specs.declared.interface.InterfacePlace.{InterfacePlace}
use Rattle.pfr_ruleset.specs.declared.ruleset.Ruleset.{Ruleset}
use Rattle.pfr_ruleset.specs.Translations.{HaveOwnNumbers}
use Rattle.pfr_headers.specs.declared.packet.Packet.{Packet}
use Rattle.pfr_headers.specs.declared.packet.View.{View}
use Rattle.pfr_headers.specs.declared.packet.View.TheVariants.{Ipv4, Skip, Short}
use Rattle.pfr_rules.specs.declared.hit.Hit.{Hit}
use Rattle.pfr_rules.specs.declared.hit.NewEnd.{NewEnd}
use Rattle.pfr_rules.specs.declared.hit.NewEnd.TheVariants.{Mapped, Picked}
use Rattle.pfr_rules.specs.Filter.{rooms_in}
use Rattle.pfr_rules.specs.Translating.{hit_of, translations_visited}
use Rattle.pfr_rules.proofs.OnceLemmas.{translation_visited_once, visited_once}
use Rattle.pfr_track.specs.declared.key.Key.{Key}
use Rattle.pfr_track.specs.declared.outcome.Touch.{Touch}
use Rattle.pfr_track.specs.declared.outcome.Touch.TheVariants as touch
use Rattle.pfr_track.specs.declared.state.State.{State}
use Rattle.pfr_track.specs.declared.state.StateRules.{StateRules}
use Rattle.pfr_track.specs.declared.time.Clock.{Clock}
use Rattle.pfr_track.specs.Tracking.{made, touched}
use Rattle.pfr_states.specs.declared.change.Side.TheVariants.{Wire, Stack}
use Rattle.pfr_states.specs.declared.change.TableChange.{TableChange}
use Rattle.pfr_states.specs.declared.change.TableChange.TheVariants.{Touched}
use Rattle.pfr_states.specs.Answers.{found_in, has_room_in, purged_at}
use Rattle.pfr_states.specs.States.{StateTable}
use Rattle.pfr_packet.specs.declared.keys.Subject.{Subject}
use Rattle.pfr_packet.specs.declared.keys.Subject.TheVariants.{Alone, Embedded, Connection}
use Rattle.pfr_packet.specs.declared.outcome.Outcome.{Outcome}
use Rattle.pfr_packet.specs.declared.outcome.VisitedRules.{VisitedRules}
use Rattle.pfr_packet.specs.declared.passage.Passage.{Passage}
use Rattle.pfr_packet.specs.declared.verdict.Reason.{Reason}
use Rattle.pfr_packet.specs.declared.verdict.Reason.TheVariants as reason
use Rattle.pfr_packet.specs.Filtering.{filtered}
use Rattle.pfr_packet.specs.Found.{passed, tracked}
use Rattle.pfr_packet.specs.Job.{RunJob, direction_of, is_skipped, name_in, timeouts_of}
use Rattle.pfr_packet.specs.Keys.{subject_of}
use Rattle.pfr_packet.specs.Laws.{AtMostOnce}
use Rattle.pfr_packet.specs.Making.{making, with_keys, with_room}
use Rattle.pfr_packet.specs.Passages.{behind, judged, judged_kept, mapped_end, mapped_passage, picked_passage, untranslated}
use Rattle.pfr_packet.specs.Picks.{picked, ports_for, tries, wire_with, word_of}
use Rattle.pfr_packet.specs.Plan.{FilterAnswer, Plan, done, filter_answer, no_answer, outcome_of}
use Rattle.pfr_packet.specs.Steps.{answer_for, by_connection, by_embedded, by_end, by_hit, by_pick, going, opened, opening, packet_plan, passed_over, plan, step_of, subject_plan, translation_hit, translations_asked}
use Rattle.pfr_packet.specs.Verdicts.{lets_pass}
use Rattle.pfr_packet.proofs.ChangeLemmas.{passing}
use Rattle.pfr_packet.proofs.OpeningLemmas.{either_blocked, filtered_way, going_way, judged_way}
use Rattle.pfr_packet.proofs.TryLemmas.{picks_first}
use Rattle.pfr_packet.specs.Taps.{is_translated, looked_up_on}
use Rattle.pfr_packet.proofs.ShownLemmas.{shown_either}

-- each rule of either kind was visited at most once
abbrev EachOnce : VisitedRules → Type 0
EachOnce visited = AtMostOnce visited.filter × AtMostOnce visited.translation

abbrev VisitsOnce : Outcome → Type 0
VisitsOnce outcome = EachOnce outcome.visited

none_once : AtMostOnce []
none_once number = (let none : count_by (λ other. other == number) [] ≡ 0 = refl in omega (arith, none))

-- ---- filtered

filter_once : (rules : Ruleset) (name : IfName) (table : StateTable) (packet : Packet) (direction : Direction) → AtMostOnce (filter_answer rules name table packet direction).visits
filter_once rules name table packet direction number = visited_once rules (rooms_in table) name packet direction number

filtered_once : (rules : Ruleset) (name : IfName) (table : StateTable) (packet : Packet) (direction : Direction) → VisitsOnce (filtered rules (filter_answer rules name table packet direction) packet direction)
filtered_once rules name table packet direction =
    let once = filter_once rules name table packet direction in
    filtered_way rules (filter_answer rules name table packet direction) packet direction VisitsOnce (λ free. (once, none_once)) (once, none_once)

-- ---- behind a passage

-- the filter's answer, unless the packet isn't filtered
answer_once : (rules : Ruleset) (name : IfName) (table : StateTable) (direction : Direction) (packet : Packet) (passage : Passage) → AtMostOnce (answer_for rules name table direction packet passage).visits
answer_once rules name table direction packet passage = by_passes passage.passes
  where
    by_passes : (passes : Bool) → AtMostOnce (cond passes no_answer (filter_answer rules name table (behind direction passage packet) direction)).visits
    by_passes true = none_once
    by_passes false = filter_once rules name table (behind direction passage packet) direction

judged_once : (rules : Ruleset) (name : IfName) (table : StateTable) (direction : Direction) (packet : Packet) (passage : Passage) (visits : List ℕ) → AtMostOnce visits
    → VisitsOnce (judged rules (answer_for rules name table direction packet passage) direction packet passage visits)
judged_once rules name table direction packet passage visits once =
    let answered = answer_once rules name table direction packet passage in
    judged_way rules (answer_for rules name table direction packet passage) direction packet passage visits VisitsOnce (record {
      passed = λ free. (none_once, once);
      passed_blocked = (none_once, once);
      decides = λ free. (answered, once);
      decides_blocked = (answered, once);
    })

-- a state that is made visits no more rules
making_visits : (table : StateTable) (packet : Packet) (state : State) (outcome : Outcome) → (outcome_of table (making packet state outcome)).visited ≡ outcome.visited
making_visits table packet state outcome = by_keys (found_in table Wire state.wire state.rules.binding) (found_in table Stack state.stack state.rules.binding)
  where
    by_room : (room : Bool) → (outcome_of table (with_room packet state outcome room)).visited ≡ outcome.visited
    by_room true = refl
    by_room false = refl

    by_keys : (wire stack : Option State) → (outcome_of table (with_keys packet state outcome wire stack)).visited ≡ outcome.visited
    by_keys None None = by_room (has_room_in table)
    by_keys None (Some other) = refl
    by_keys (Some other) _ = refl

opened_visits : (job : RunJob) (number : ℕ) (clock : Clock) (place : InterfacePlace) (table : StateTable) (packet : Packet) (direction : Direction) (passage : Passage) (outcome : Outcome) (said : Option StateRules)
    → (outcome_of table (opened job number clock place packet direction passage outcome said)).visited ≡ outcome.visited
opened_visits job number clock place table packet direction passage outcome None = refl
opened_visits job number clock place table packet direction passage outcome (Some rules) = by_verdict (lets_pass outcome.verdict)
  where
    state : State
    state = made (record { 0 = number }) packet direction place passage.wire passage.stack rules clock (timeouts_of job)

    by_verdict : (passes : Bool) → (outcome_of table (cond passes (making packet state outcome) (done outcome))).visited ≡ outcome.visited
    by_verdict true = making_visits table packet state outcome
    by_verdict false = refl

going_once : (job : RunJob) (number : ℕ) (clock : Clock) (place : InterfacePlace) (table : StateTable) (packet : Packet) (direction : Direction) (visits : List ℕ) → AtMostOnce visits → (passage : Passage)
    → VisitsOnce (outcome_of table (going job number clock place packet direction visits passage))
going_once job number clock place table packet direction visits once passage =
    let answer : FilterAnswer = answer_for job.rules (name_in job place) table direction packet passage in
    let outcome : Outcome = judged job.rules answer direction packet passage visits in
    let same = opened_visits job number clock place table packet direction passage outcome (judged_kept place job.rules answer direction packet passage) in
    going_way job number clock place table packet direction VisitsOnce visits passage (subst EachOnce (sym same) (judged_once job.rules (name_in job place) table direction packet passage visits once))

-- ---- the first packet of a connection

end_once : (job : RunJob) (number : ℕ) (clock : Clock) (place : InterfacePlace) (table : StateTable) (packet : Packet) (direction : Direction) (visits : List ℕ) → AtMostOnce visits → (key : Key) (hit : Hit) (new_end : NewEnd)
    → VisitsOnce (outcome_of table (by_end job number clock place packet direction visits key hit new_end))
end_once job number clock place table packet direction visits once key hit (Mapped address mapping) =
    going_once job number clock place table packet direction visits once (mapped_passage direction key hit (mapped_end packet.transport key.inside address mapping))
end_once job number clock place table packet direction visits once key hit (Picked target) =
    let wire : ℕ → Key = wire_with packet.transport key target.address in
    let ports : List ℕ = tries (ports_for packet.transport target key.inside.port) (word_of job.seed number) in
    subst VisitsOnce (sym (picks_first table wire (by_pick job number clock place packet direction visits key hit) ports)) (by_found (picked table wire ports))
  where
    by_found : (found : Option Key) → VisitsOnce (outcome_of table (by_pick job number clock place packet direction visits key hit found))
    by_found None = (none_once, once)
    by_found (Some wire) = going_once job number clock place table packet direction visits once (picked_passage key hit wire)

hit_once : (job : RunJob) (number : ℕ) (clock : Clock) (place : InterfacePlace) (table : StateTable) (packet : Packet) (direction : Direction) (visits : List ℕ) → AtMostOnce visits → (key : Key) (hit : Option Hit)
    → VisitsOnce (outcome_of table (by_hit job number clock place packet direction visits key hit))
hit_once job number clock place table packet direction visits once key None = going_once job number clock place table packet direction visits once (untranslated key)
hit_once job number clock place table packet direction visits once key (Some hit) = end_once job number clock place table packet direction visits once key hit hit.new_end

opening_once : (job : RunJob) (number : ℕ) (clock : Clock) (place : InterfacePlace) (table : StateTable) (packet : Packet) (direction : Direction) → HaveOwnNumbers job.rules.translations → (key : Key)
    → VisitsOnce (outcome_of table (opening job number clock place packet direction key))
opening_once job number clock place table packet direction own key =
    hit_once job number clock place table packet direction (translations_asked job place packet direction) (asked_once (is_translated job.tap direction)) key (translation_hit job place packet direction)
  where
    asked_once : (test : Bool) → AtMostOnce (cond test [] (translations_visited job.rules (name_in job place) packet direction))
    asked_once true = none_once
    asked_once false = λ rule. translation_visited_once job.rules (name_in job place) packet direction rule own

-- ---- a packet whose state is found

passed_once : (direction : Direction) (packet : Packet) (state : State) (why : Reason) (change : Option TableChange) → VisitsOnce (passed direction packet state why change)
passed_once direction packet state why change = either_blocked VisitsOnce _ reason.IpOption (passing direction packet state why change) (λ free. (none_once, none_once)) (none_once, none_once)

tracked_once : (direction : Direction) (packet : Packet) (state : State) (t : Touch) → VisitsOnce (tracked direction packet state t)
tracked_once direction packet state (touch.Touched next) = passed_once direction packet state reason.State (Some (Touched next))
tracked_once direction packet state touch.Mismatch = (none_once, none_once)
tracked_once direction packet state touch.Removed = (none_once, none_once)

-- ---- along the plan

embedded_once : (job : RunJob) (place : InterfacePlace) (table : StateTable) (packet : Packet) (direction : Direction) (found : Option State) → VisitsOnce (outcome_of table (by_embedded job place packet direction found))
embedded_once job place table packet direction None = filtered_once job.rules (name_in job place) table packet direction
embedded_once job place table packet direction (Some state) = (let once = passed_once direction packet state reason.StateError None in shown_either VisitsOnce job.tap direction _ once once)

connection_once : (job : RunJob) (number : ℕ) (clock : Clock) (place : InterfacePlace) (table : StateTable) (packet : Packet) (direction : Direction) → HaveOwnNumbers job.rules.translations → (key : Key) (found : Option State)
    → VisitsOnce (outcome_of table (by_connection job number clock place packet direction key found))
connection_once job number clock place table packet direction own key None = opening_once job number clock place table packet direction own key
connection_once job number clock place table packet direction own key (Some state) = (let once = tracked_once direction packet state (touched state packet direction clock (timeouts_of job)) in shown_either VisitsOnce job.tap direction _ once once)

subject_once : (job : RunJob) (number : ℕ) (clock : Clock) (place : InterfacePlace) (table : StateTable) (packet : Packet) (direction : Direction) → HaveOwnNumbers job.rules.translations → (subject : Subject)
    → VisitsOnce (outcome_of table (subject_plan job number clock place packet direction subject))
subject_once job number clock place table packet direction own Alone = filtered_once job.rules (name_in job place) table packet direction
subject_once job number clock place table packet direction own (Embedded key) = embedded_once job place table packet direction (found_in table (looked_up_on job.tap direction) key (binding.To place))
subject_once job number clock place table packet direction own (Connection key) = connection_once job number clock place table packet direction own key (found_in table (looked_up_on job.tap direction) key (binding.To place))

packet_once : (job : RunJob) (number : ℕ) (clock : Clock) (place : InterfacePlace) (table : StateTable) (packet : Packet) (direction : Direction) → HaveOwnNumbers job.rules.translations
    → VisitsOnce (outcome_of table (packet_plan job number clock place packet direction))
unfolding packet_plan
packet_once job number clock place table packet direction own = subject_once job number clock place table packet direction own (subject_of direction packet)

skipped_once : (table : StateTable) (skipped : Bool) (other : Plan) → VisitsOnce (outcome_of table other) → VisitsOnce (outcome_of table (cond skipped (done passed_over) other))
skipped_once table true other once = (none_once, none_once)
skipped_once table false other once = once

plan_once : (job : RunJob) (number : ℕ) (clock : Clock) (place : InterfacePlace) (table : StateTable) → HaveOwnNumbers job.rules.translations → (view : View) → VisitsOnce (outcome_of table (plan job number clock place view))
unfolding plan
plan_once job number clock place table own Skip = (none_once, none_once)
plan_once job number clock place table own Short = skipped_once table (is_skipped job place) _ (none_once, none_once)
plan_once job number clock place table own (Ipv4 packet) =
    skipped_once table (is_skipped job place) (packet_plan job number clock place packet (direction_of job place packet)) (packet_once job number clock place table packet (direction_of job place packet) own)

pub visits_once : (job : RunJob) (number : ℕ) (clock : Clock) (place : InterfacePlace) (view : View) (table : StateTable) → HaveOwnNumbers job.rules.translations → VisitsOnce (step_of job number clock place view table)
unfolding step_of
visits_once job number clock place view table own = plan_once job number clock place (purged_at clock table) own view
