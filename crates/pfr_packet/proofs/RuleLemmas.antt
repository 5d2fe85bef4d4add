-- By which rules a state is made.
use Rattle.std.proofs.Common.{◌≡◌, ℕ, Bool, true, false, not, Option, Some, None, List, slice_get, cond, refl, sym, ap, ◌∙◌, subst}
use Rattle.pfr_net.specs.declared.direction.Direction.{Direction}
use Rattle.pfr_net.specs.declared.interface.Binding.TheVariants as binding
use Rattle.pfr_net.specs.declared.interface.InterfacePlace.{InterfacePlace}
use Rattle.pfr_net.specs.declared.rule_number.RuleNumber.{RuleNumber}
use Rattle.pfr_ruleset.specs.declared.flat.FlatRule.{FlatRule}
use Rattle.pfr_ruleset.specs.declared.flat.StateRule.{StateRule}
use Rattle.pfr_net.specs.declared.policy.StatePolicy.{StatePolicy}
use Rattle.pfr_ruleset.specs.declared.ruleset.Ruleset.{Ruleset}
use Rattle.pfr_headers.specs.declared.packet.Packet.{Packet}
use Rattle.pfr_headers.specs.declared.packet.View.{View}
use Rattle.pfr_headers.specs.declared.packet.View.TheVariants.{Ipv4, Skip, Short}
use Rattle.pfr_track.specs.declared.key.Key.{Key}
use Rattle.pfr_track.specs.declared.outcome.Touch.{Touch}
use Rattle.pfr_track.specs.declared.outcome.Touch.TheVariants as touch
use Rattle.pfr_track.specs.declared.state.State.{State}
use Rattle.pfr_track.specs.declared.state.StateRules.{StateRules}
use Rattle.pfr_track.specs.declared.time.Clock.{Clock}
use Rattle.pfr_track.specs.Tracking.{made, touched}
use Rattle.pfr_states.specs.declared.change.Side.TheVariants.{Wire, Stack}
use Rattle.pfr_states.specs.declared.change.TableChange.{TableChange}
use Rattle.pfr_states.specs.declared.change.TableChange.TheVariants.{Made, Touched, Removed}
use Rattle.pfr_states.specs.States.{StateTable}
use Rattle.pfr_packet.specs.declared.keys.Subject.{Subject}
use Rattle.pfr_packet.specs.declared.keys.Subject.TheVariants.{Alone, Embedded, Connection}
use Rattle.pfr_packet.specs.declared.passage.Passage.{Passage}
use Rattle.pfr_packet.specs.declared.outcome.Outcome.{Outcome}
use Rattle.pfr_packet.specs.declared.verdict.Reason.{Reason}
use Rattle.pfr_packet.specs.declared.verdict.Reason.TheVariants as reason
use Rattle.pfr_packet.specs.declared.verdict.Verdict.TheVariants as verdict
use Rattle.pfr_packet.specs.Filtering.{allows_options, conduct_at, conduct_of, filtered, kept}
use Rattle.pfr_packet.specs.Found.{embedded, passed, tracked}
use Rattle.pfr_packet.specs.Job.{RunJob, direction_of, is_skipped, name_in, timeouts_of}
use Rattle.pfr_packet.specs.Keys.{subject_of, written_by}
use Rattle.pfr_packet.specs.Laws.{AreRulesOf, SaysAsItsRule, policy_for, policy_of, says_no_sync}
use Rattle.pfr_packet.specs.Making.{making, with_keys, with_room}
use Rattle.pfr_packet.specs.Outcomes.{by_state}
use Rattle.pfr_packet.specs.Passages.{behind, binding_by, by_way, judged, judged_kept, kept_behind, kept_by_way, nat_passed, rules_by, unfiltered}
use Rattle.pfr_states.specs.Answers.{found_in, has_room_in, purged_at}
use Rattle.pfr_packet.specs.Plan.{FilterAnswer, Plan, done, filter_answer, outcome_of}
use Rattle.pfr_packet.specs.Steps.{answer_for, by_connection, by_embedded, opened, opening, packet_plan, passed_over, plan, step_of, subject_plan}
use Rattle.pfr_packet.specs.Verdicts.{lets_pass}
use Rattle.pfr_packet.proofs.OpeningLemmas.{either_blocked, going_way, filtered_way, judged_changes_nothing, lacks_leave, opening_way}
use Rattle.pfr_packet.specs.Taps.{as_shown, looked_up_on}
use Rattle.pfr_packet.proofs.ShownLemmas.{shown_either}
use Rattle.pfr_headers.specs.declared.tap.Tap.{Tap}

-- ---- what a rule keeps

-- what a state says that a packet of an interface makes, by the rule that decided and the rule that translates
pub record AreSaid (rules : Ruleset) (place : InterfacePlace) (rule translated : Option RuleNumber) (said : StateRules) : Type 0 where
  pub filter : said.filter ≡ rule
  pub translation : said.translation ≡ translated
  pub conduct : SaysAsItsRule rules.filter.rules rule said
  pub binding : said.binding ≡ binding_by (policy_for rules rule) place

says : (rules : Ruleset) (place : InterfacePlace) (number : RuleNumber) (rule : FlatRule) → slice_get rules.filter.rules number.0 ≡ Some rule → (translated : Option RuleNumber) (policy : StatePolicy) (no_sync : Bool)
    → policy ≡ policy_of rules.options.state_policy (Some rule) → no_sync ≡ says_no_sync rule → (said : StateRules) → rules_by place policy translated (Some number) rule.allow_opts no_sync ≡ said → AreSaid rules place (Some number) translated said
says rules place number rule is translated policy no_sync policy_is no_sync_is said same = subst (AreSaid rules place (Some number) translated) same (record {
  filter = refl;
  translation = refl;
  conduct = λ other other_is. (
      let one : rule ≡ other = cc (sym is ∙ other_is) in
      subst (λ (r : FlatRule). (not no_sync ≡ not (says_no_sync r)) × (rule.allow_opts ≡ r.allow_opts)) one (ap not no_sync_is, refl));
  binding = ap (λ (p : StatePolicy). binding_by p place) (policy_is ∙ sym (ap (policy_of rules.options.state_policy) is));
})

-- by the state that the rule keeps
said_of : (rules : Ruleset) (place : InterfacePlace) (number : RuleNumber) (rule : FlatRule) → slice_get rules.filter.rules number.0 ≡ Some rule → (translated : Option RuleNumber) (state : Option StateRule) → rule.state ≡ state → (said : StateRules)
    → kept_by_way place rules.options.state_policy translated (Some number) rule.allow_opts state ≡ Some said → AreSaid rules place (Some number) translated said
said_of rules place number rule is None None state_is said kept_is = absurd (cc kept_is)
said_of rules place number rule is (Some other) None state_is said kept_is = says rules place number rule is (Some other) rules.options.state_policy false (rw state_is refl) (rw state_is refl) said (cc kept_is)
said_of rules place number rule is translated (Some kept) state_is said kept_is = says rules place number rule is translated kept.policy kept.no_sync (rw state_is refl) (rw state_is refl) said (cc kept_is)

-- without a rule
said_without : (rules : Ruleset) (place : InterfacePlace) (rule translated : Option RuleNumber) → policy_for rules rule ≡ rules.options.state_policy
    → ((said : StateRules) → said.is_synchronised ≡ true → said.allows_options ≡ false → SaysAsItsRule rules.filter.rules rule said) → (said : StateRules)
    → kept_by_way place rules.options.state_policy translated rule false None ≡ Some said → AreSaid rules place rule translated said
said_without rules place rule None policy_is conduct said kept_is = absurd (cc kept_is)
said_without rules place rule (Some other) policy_is conduct said kept_is =
    let same : rules_by place rules.options.state_policy (Some other) rule false false ≡ said = cc kept_is in
    subst (AreSaid rules place rule (Some other)) same (record {
      filter = refl;
      translation = refl;
      conduct = conduct (rules_by place rules.options.state_policy (Some other) rule false false) refl refl;
      binding = ap (λ (p : StatePolicy). binding_by p place) (sym policy_is);
    })

-- by what stands at the rule's place
said_at : (rules : Ruleset) (place : InterfacePlace) (number : RuleNumber) (translated : Option RuleNumber) (found : Option FlatRule) → slice_get rules.filter.rules number.0 ≡ found → (said : StateRules)
    → kept_by_way place rules.options.state_policy translated (Some number) (conduct_at found).allows_options (conduct_at found).state ≡ Some said → AreSaid rules place (Some number) translated said
said_at rules place number translated None is said kept_is =
    said_without rules place (Some number) translated (ap (policy_of rules.options.state_policy) is) (λ said told options rule rule_is. absurd (cc (sym is ∙ rule_is))) said kept_is
said_at rules place number translated (Some rule) is said kept_is = said_of rules place number rule is translated rule.state refl said kept_is

-- by the rule that decided, if one did
said_by : (rules : Ruleset) (place : InterfacePlace) (rule translated : Option RuleNumber) (said : StateRules)
    → kept_by_way place rules.options.state_policy translated rule (conduct_of rules.filter.rules rule).allows_options (conduct_of rules.filter.rules rule).state ≡ Some said → AreSaid rules place rule translated said
said_by rules place None translated said kept_is = said_without rules place None translated refl (λ said told options. (told, options)) said kept_is
said_by rules place (Some number) translated said kept_is = said_at rules place number translated (slice_get rules.filter.rules number.0) refl said kept_is

-- ---- behind a passage

pub filtered_rule : (rules : Ruleset) (answer : FilterAnswer) (packet : Packet) (direction : Direction) → (filtered rules answer packet direction).rule ≡ answer.decision.rule
filtered_rule rules answer packet direction = filtered_way rules answer packet direction (λ o. o.rule ≡ answer.decision.rule) (λ free. refl) refl

-- behind the filter
behind_says : (rules : Ruleset) (place : InterfacePlace) (answer : FilterAnswer) (direction : Direction) (packet : Packet) (passage : Passage) (said : StateRules) → kept_behind place rules answer direction passage packet ≡ Some said
    → AreSaid rules place (filtered rules answer packet direction).rule passage.translation said
unfolding allows_options kept
behind_says rules place answer direction packet passage said kept_is =
    let rule : Option RuleNumber = answer.decision.rule in
    let same = filtered_rule rules answer packet direction in
    let by_decision : kept_by_way place rules.options.state_policy passage.translation rule (conduct_of rules.filter.rules rule).allows_options (conduct_of rules.filter.rules rule).state ≡ Some said =
    subst (λ (named : Option RuleNumber). kept_by_way place rules.options.state_policy passage.translation named (conduct_of rules.filter.rules rule).allows_options (conduct_of rules.filter.rules rule).state ≡ Some said) same kept_is in
    subst (λ (named : Option RuleNumber). AreSaid rules place named passage.translation said) (sym same) (said_by rules place rule passage.translation said by_decision)

judged_by_passes : (rules : Ruleset) (place : InterfacePlace) (answer : FilterAnswer) (direction : Direction) (packet : Packet) (passage : Passage) (visits : List ℕ) (said : StateRules) (passes : Bool)
    → cond passes (kept_by_way place rules.options.state_policy passage.translation None false None) (kept_behind place rules answer direction passage (behind direction passage packet)) ≡ Some said
    → (let outcome : Outcome = cond passes (unfiltered direction packet passage visits) (by_way passage visits (filtered rules answer (behind direction passage packet) direction)) in AreSaid rules place outcome.rule outcome.translation said)
judged_by_passes rules place answer direction packet passage visits said true kept_is =
    let by_none = said_by rules place None passage.translation said kept_is in
    either_blocked (λ o. AreSaid rules place o.rule o.translation said) (lacks_leave (nat_passed direction passage visits) packet false) reason.IpOption (nat_passed direction passage visits) (λ free. by_none) by_none
judged_by_passes rules place answer direction packet passage visits said false kept_is = behind_says rules place answer direction (behind direction passage packet) passage said kept_is

pub judged_says : (rules : Ruleset) (place : InterfacePlace) (answer : FilterAnswer) (direction : Direction) (packet : Packet) (passage : Passage) (visits : List ℕ) (said : StateRules) → judged_kept place rules answer direction packet passage ≡ Some said
    → AreSaid rules place (judged rules answer direction packet passage visits).rule (judged rules answer direction packet passage visits).translation said
judged_says rules place answer direction packet passage visits said kept_is = judged_by_passes rules place answer direction packet passage visits said passage.passes kept_is

-- ---- along the plan

-- a state that an outcome makes is by the rules that it names
abbrev ToldIf : Ruleset → InterfacePlace → Outcome → Option TableChange → Type 0
ToldIf rules place outcome None = Unit {0}
ToldIf rules place outcome (Some (Made state)) = AreRulesOf rules place outcome state.rules
ToldIf rules place outcome (Some (Touched state)) = Unit {0}
ToldIf rules place outcome (Some (Removed number)) = Unit {0}

abbrev Told : Ruleset → InterfacePlace → Outcome → Type 0
Told rules place outcome = ToldIf rules place outcome outcome.change

unchanged_told : (rules : Ruleset) (place : InterfacePlace) (outcome : Outcome) → outcome.change ≡ None → Told rules place outcome
unchanged_told rules place outcome is = subst (λ (change : Option TableChange). ToldIf rules place outcome change) (sym is) tt

room_told : (rules : Ruleset) (place : InterfacePlace) (table : StateTable) (packet : Packet) (state : State) (outcome : Outcome) → AreRulesOf rules place outcome state.rules → (room : Bool) → Told rules place (outcome_of table (with_room packet state outcome room))
room_told rules place table packet state outcome said true = record { filter = said.filter; translation = said.translation; conduct = said.conduct; binding = said.binding }
room_told rules place table packet state outcome said false = tt

keys_told : (rules : Ruleset) (place : InterfacePlace) (table : StateTable) (packet : Packet) (state : State) (outcome : Outcome) → AreRulesOf rules place outcome state.rules → (wire stack : Option State) → Told rules place (outcome_of table (with_keys packet state outcome wire stack))
keys_told rules place table packet state outcome said None None = room_told rules place table packet state outcome said (has_room_in table)
keys_told rules place table packet state outcome said None (Some other) = tt
keys_told rules place table packet state outcome said (Some other) _ = tt

opened_told : (job : RunJob) (answer : FilterAnswer) (number : ℕ) (clock : Clock) (place : InterfacePlace) (table : StateTable) (packet : Packet) (direction : Direction) (visits : List ℕ) (passage : Passage) (said : Option StateRules)
    → judged_kept place job.rules answer direction packet passage ≡ said
    → Told job.rules place (outcome_of table (opened job number clock place packet direction passage (judged job.rules answer direction packet passage visits) said))
opened_told job answer number clock place table packet direction visits passage None is =
    unchanged_told job.rules place (judged job.rules answer direction packet passage visits) (judged_changes_nothing job.rules answer direction packet passage visits)
opened_told job answer number clock place table packet direction visits passage (Some said) is = by_verdict (lets_pass outcome.verdict)
  where
    outcome : Outcome
    outcome = judged job.rules answer direction packet passage visits

    state : State
    state = made (record { 0 = number }) packet direction place passage.wire passage.stack said clock (timeouts_of job)

    by_verdict : (passes : Bool) → Told job.rules place (outcome_of table (cond passes (making packet state outcome) (done outcome)))
    by_verdict true =
        let are = judged_says job.rules place answer direction packet passage visits said is in
        keys_told job.rules place table packet state outcome (record { filter = are.filter; translation = are.translation; conduct = are.conduct; binding = are.binding })
        (found_in table Wire state.wire state.rules.binding) (found_in table Stack state.stack state.rules.binding)
    by_verdict false = unchanged_told job.rules place outcome (judged_changes_nothing job.rules answer direction packet passage visits)

opening_told : (job : RunJob) (number : ℕ) (clock : Clock) (place : InterfacePlace) (table : StateTable) (packet : Packet) (direction : Direction) (key : Key) → Told job.rules place (outcome_of table (opening job number clock place packet direction key))
opening_told job number clock place table packet direction key = opening_way job number clock place table packet direction (Told job.rules place) (record {
  goes = λ visits passage. (let answer = answer_for job.rules (name_in job place) table direction packet passage in going_way job number clock place table packet direction (Told job.rules place) visits passage
      (opened_told job answer number clock place table packet direction visits passage (judged_kept place job.rules answer direction packet passage) refl));
  has_no_port = λ rule visits. tt;
}) key

filtered_told : (of : Ruleset) (place : InterfacePlace) (rules : Ruleset) (answer : FilterAnswer) (packet : Packet) (direction : Direction) → Told of place (filtered rules answer packet direction)
filtered_told of place rules answer packet direction = filtered_way rules answer packet direction (Told of place) (λ free. tt) tt

passed_told : (rules : Ruleset) (place : InterfacePlace) (direction : Direction) (packet : Packet) (state : State) (why : Reason) (change : Option TableChange) → ((outcome : Outcome) → ToldIf rules place outcome change) → Told rules place (passed direction packet state why change)
passed_told rules place direction packet state why change told =
    let outcome : Outcome = record (by_state direction state verdict.Pass why) { bytes = written_by direction packet state.wire state.stack; change = change } in
    either_blocked (Told rules place) (lacks_leave outcome packet state.rules.allows_options) reason.IpOption outcome (λ free. told outcome) tt

tracked_told : (rules : Ruleset) (place : InterfacePlace) (direction : Direction) (packet : Packet) (state : State) (t : Touch) → Told rules place (tracked direction packet state t)
tracked_told rules place direction packet state (touch.Touched next) = passed_told rules place direction packet state reason.State (Some (Touched next)) (λ outcome. tt)
tracked_told rules place direction packet state touch.Mismatch = tt
tracked_told rules place direction packet state touch.Removed = tt

unwritten_told : (rules : Ruleset) (place : InterfacePlace) (outcome : Outcome) (change : Option TableChange) → ToldIf rules place outcome change → ToldIf rules place (record outcome { bytes = None }) change
unwritten_told rules place outcome None told = tt
unwritten_told rules place outcome (Some (Made state)) told = record { filter = told.filter; translation = told.translation; conduct = told.conduct; binding = told.binding }
unwritten_told rules place outcome (Some (Touched state)) told = tt
unwritten_told rules place outcome (Some (Removed number)) told = tt

shown_told : (rules : Ruleset) (place : InterfacePlace) (tap : Tap) (direction : Direction) (outcome : Outcome) → Told rules place outcome → Told rules place (as_shown tap direction outcome)
shown_told rules place tap direction outcome told = shown_either (Told rules place) tap direction outcome told (unwritten_told rules place outcome outcome.change told)

by_embedded_told : (job : RunJob) (place : InterfacePlace) (table : StateTable) (packet : Packet) (direction : Direction) (found : Option State) → Told job.rules place (outcome_of table (by_embedded job place packet direction found))
by_embedded_told job place table packet direction None = filtered_told job.rules place job.rules (filter_answer job.rules (name_in job place) table packet direction) packet direction
by_embedded_told job place table packet direction (Some state) = shown_told job.rules place job.tap direction (embedded direction packet state) (passed_told job.rules place direction packet state reason.StateError None (λ outcome. tt))

by_connection_told : (job : RunJob) (number : ℕ) (clock : Clock) (place : InterfacePlace) (table : StateTable) (packet : Packet) (direction : Direction) (key : Key) (found : Option State)
    → Told job.rules place (outcome_of table (by_connection job number clock place packet direction key found))
by_connection_told job number clock place table packet direction key None = opening_told job number clock place table packet direction key
by_connection_told job number clock place table packet direction key (Some state) =
    (let t = touched state packet direction clock (timeouts_of job) in shown_told job.rules place job.tap direction (tracked direction packet state t) (tracked_told job.rules place direction packet state t))

subject_told : (job : RunJob) (number : ℕ) (clock : Clock) (place : InterfacePlace) (table : StateTable) (packet : Packet) (direction : Direction) (subject : Subject)
    → Told job.rules place (outcome_of table (subject_plan job number clock place packet direction subject))
subject_told job number clock place table packet direction Alone = filtered_told job.rules place job.rules (filter_answer job.rules (name_in job place) table packet direction) packet direction
subject_told job number clock place table packet direction (Embedded key) = by_embedded_told job place table packet direction (found_in table (looked_up_on job.tap direction) key (binding.To place))
subject_told job number clock place table packet direction (Connection key) = by_connection_told job number clock place table packet direction key (found_in table (looked_up_on job.tap direction) key (binding.To place))

packet_told : (job : RunJob) (number : ℕ) (clock : Clock) (place : InterfacePlace) (table : StateTable) (packet : Packet) (direction : Direction) → Told job.rules place (outcome_of table (packet_plan job number clock place packet direction))
unfolding packet_plan
packet_told job number clock place table packet direction = subject_told job number clock place table packet direction (subject_of direction packet)

skipped_told : (rules : Ruleset) (place : InterfacePlace) (table : StateTable) (skipped : Bool) (other : Plan) → Told rules place (outcome_of table other) → Told rules place (outcome_of table (cond skipped (done passed_over) other))
skipped_told rules place table true other told = tt
skipped_told rules place table false other told = told

plan_told : (job : RunJob) (number : ℕ) (clock : Clock) (place : InterfacePlace) (table : StateTable) (view : View) → Told job.rules place (outcome_of table (plan job number clock place view))
unfolding plan
plan_told job number clock place table Skip = tt
plan_told job number clock place table Short = skipped_told job.rules place table (is_skipped job place) _ tt
plan_told job number clock place table (Ipv4 packet) =
    skipped_told job.rules place table (is_skipped job place) (packet_plan job number clock place packet (direction_of job place packet))
    (packet_told job number clock place table packet (direction_of job place packet))

made_told : (rules : Ruleset) (place : InterfacePlace) (outcome : Outcome) (state : State) (change : Option TableChange) → change ≡ Some (Made state) → ToldIf rules place outcome change → AreRulesOf rules place outcome state.rules
made_told rules place outcome state change is told = subst (λ (c : Option TableChange). ToldIf rules place outcome c) is told

pub made_by_rules : (job : RunJob) (number : ℕ) (clock : Clock) (place : InterfacePlace) (view : View) (table : StateTable) (state : State) → (step_of job number clock place view table).change ≡ Some (Made state)
    → AreRulesOf job.rules place (step_of job number clock place view table) state.rules
unfolding step_of
made_by_rules job number clock place view table state is =
    made_told job.rules place (step_of job number clock place view table) state (step_of job number clock place view table).change is (plan_told job number clock place (purged_at clock table) view)
