-- A packet could have asked the rule by which the filter decided.
use Rattle.std.proofs.Common.{◌≡◌, ◌&&◌, ℕ, Bool, true, false, List, Option, Some, None, if◌then◌else◌, refl, ap, sym, subst}
use Rattle.std.proofs.lemmas.Bool.{and_from}
use Rattle.pfr_net.specs.declared.direction.Direction.{Direction}
use Rattle.pfr_net.specs.declared.interface.IfName.{IfName}
use Rattle.pfr_net.specs.declared.interface.InterfacePlace.{InterfacePlace}
use Rattle.pfr_net.specs.declared.rule_number.RuleNumber.{RuleNumber}
use Rattle.pfr_ruleset.specs.declared.filter_rules.RuleLists.{RuleLists}
use Rattle.pfr_ruleset.specs.declared.flat.FlatRule.{FlatRule}
use Rattle.pfr_ruleset.specs.declared.ruleset.Ruleset.{Ruleset}
use Rattle.pfr_headers.specs.declared.packet.Packet.{Packet}
use Rattle.pfr_headers.specs.declared.packet.View.TheVariants.{Ipv4, Skip, Short}
use Rattle.pfr_headers.specs.declared.tap.Tap.{Tap}
use Rattle.pfr_rules.specs.Filter.{decision_by, deciding, rooms_in}
use Rattle.pfr_track.specs.declared.outcome.Touch.{Touch}
use Rattle.pfr_track.specs.declared.outcome.Touch.TheVariants as touch
use Rattle.pfr_track.specs.declared.state.State.{State}
use Rattle.pfr_track.specs.declared.time.Clock.{Clock}
use Rattle.pfr_states.specs.declared.change.TableChange.{TableChange}
use Rattle.pfr_states.specs.declared.change.TableChange.TheVariants.{Touched}
use Rattle.pfr_states.specs.Answers.{purged_at}
use Rattle.pfr_states.specs.States.{StateTable}
use Rattle.pfr_packet.specs.declared.outcome.Outcome.{Outcome}
use Rattle.pfr_packet.specs.declared.passage.Passage.{Passage}
use Rattle.pfr_packet.specs.declared.verdict.Reason.{Reason}
use Rattle.pfr_packet.specs.declared.verdict.Reason.TheVariants as reason
use Rattle.pfr_packet.specs.Filtering.{filtered}
use Rattle.pfr_packet.specs.Found.{embedded, passed, tracked}
use Rattle.pfr_packet.specs.Job.{RunJob, direction_of, is_skipped, name_in}
use Rattle.pfr_packet.specs.Making.{with_made}
use Rattle.pfr_packet.specs.Outcomes.{blocked}
use Rattle.pfr_packet.specs.Passages.{behind, judged}
use Rattle.pfr_packet.specs.Plan.{done, filter_answer, no_answer, outcome_of}
use Rattle.pfr_packet.specs.Steps.{answer_for, passed_over, plan, step_of}
use Rattle.pfr_packet.specs.Taps.{as_shown}
use Rattle.pfr_packet.proofs.ChangeLemmas.{passing}
use Rattle.pfr_packet.proofs.OpeningLemmas.{either_blocked, filtered_way, judged_way}
use Rattle.pfr_packet.proofs.ShownLemmas.{shown_either}
use Rattle.pfr_packet.proofs.WayLemmas.{judged_in, step_way}
use Rattle.pfr_asked.specs.Asking.{allowed, allowed_way, came, could_ask}
use Rattle.pfr_asked.specs.Laws.{DecidersAreAsked}
use Rattle.pfr_asked.proofs.LetsLemmas.{decider_hits, hit_lets}

-- ---- the rule that the filter's answer names

abbrev place_in : Option RuleNumber → ℕ → ℕ
place_in None other = other
place_in (Some number) other = number.0

decided_at : (rules : List FlatRule) (found : Option ℕ) (place : ℕ) → (decision_by rules found).rule ≡ Some (record { 0 = place }) → found ≡ Some place
decided_at rules None place is = absurd (cc is)
decided_at rules (Some k) place is = (let same : k ≡ place = ap (λ (r : Option RuleNumber). place_in r k) is in ap (λ (n : ℕ). Some n) same)

answer_lets : (rules : Ruleset) (name : IfName) (table : StateTable) (packet : Packet) (direction : Direction) (place : ℕ) → (filter_answer rules name table packet direction).decision.rule ≡ Some (record { 0 = place }) → allowed rules.filter place name direction ≡ true
answer_lets rules name table packet direction place is =
    hit_lets rules (rooms_in table) name packet direction place
    (decider_hits rules (rooms_in table) name packet direction place (decided_at rules.filter.rules (deciding rules (rooms_in table) name packet direction) place is))

behind_lets : (rules : Ruleset) (name : IfName) (table : StateTable) (packet : Packet) (direction : Direction) (place : ℕ) (passes : Bool)
    → (if passes then no_answer else filter_answer rules name table packet direction).decision.rule ≡ Some (record { 0 = place }) → allowed rules.filter place name direction ≡ true
behind_lets rules name table packet direction place true is = absurd (cc is)
behind_lets rules name table packet direction place false is = answer_lets rules name table packet direction place is

-- ---- outcomes

could_by : (asked : Bool) (way : Option Direction) (lists : RuleLists) (place : ℕ) (name : IfName) (direction : Direction) → asked ≡ true → way ≡ Some direction → allowed lists place name direction ≡ true → (asked && allowed_way lists place name way) ≡ true
could_by asked way lists place name direction is on lets =
    and_from asked (allowed_way lists place name way) is (subst (λ (w : Option Direction). allowed_way lists place name w ≡ true) (sym on) lets)

module _ (job : RunJob) (interface : InterfacePlace) (place : ℕ) where
  -- if the filter was asked and the outcome names the rule, the packet could have asked it
  abbrev IsAsked : Outcome → Type 0
  IsAsked outcome = came outcome ≡ true → outcome.rule ≡ Some (record { 0 = place }) → could_ask job.rules.filter place (name_in job interface) outcome ≡ true

  -- it goes a way, and if it names the rule that one allows the way
  record IsAllowed (direction : Direction) (outcome : Outcome) : Type 0 where
    way : outcome.direction ≡ Some direction
    lets : outcome.rule ≡ Some (record { 0 = place }) → allowed job.rules.filter place (name_in job interface) direction ≡ true

  asked_by_way : (direction : Direction) (outcome : Outcome) → IsAllowed direction outcome → IsAsked outcome
  asked_by_way direction outcome a is names = could_by (came outcome) outcome.direction job.rules.filter place (name_in job interface) direction is a.way (a.lets names)

  unasked : (outcome : Outcome) → came outcome ≡ false → IsAsked outcome
  unasked outcome isnt is names = absurd (cc (isnt, is))

  filtered_allowed : (table : StateTable) (packet : Packet) (direction : Direction) → IsAllowed direction (filtered job.rules (filter_answer job.rules (name_in job interface) table packet direction) packet direction)
  filtered_allowed table packet direction =
      let lets = answer_lets job.rules (name_in job interface) table packet direction place in
      filtered_way job.rules (filter_answer job.rules (name_in job interface) table packet direction) packet direction (IsAllowed direction) (λ free. record { way = refl; lets = lets }) (record { way = refl; lets = lets })

  judged_allowed : (table : StateTable) (packet : Packet) (direction : Direction) (passage : Passage) (visits : List ℕ)
      → IsAllowed direction (judged job.rules (answer_for job.rules (name_in job interface) table direction packet passage) direction packet passage visits)
  judged_allowed table packet direction passage visits =
      let lets = behind_lets job.rules (name_in job interface) table (behind direction passage packet) direction place passage.passes in
      judged_way job.rules (answer_for job.rules (name_in job interface) table direction packet passage) direction packet passage visits (IsAllowed direction) (record {
        passed = λ free. record { way = refl; lets = λ names. absurd (cc names) };
        passed_blocked = record { way = refl; lets = λ names. absurd (cc names) };
        decides = λ free. record { way = refl; lets = lets };
        decides_blocked = record { way = refl; lets = lets };
      })

  passed_unasked : (direction : Direction) (packet : Packet) (state : State) (change : Option TableChange) → came (passed direction packet state reason.State change) ≡ false
  passed_unasked direction packet state change = either_blocked (λ o. came o ≡ false) _ reason.IpOption (passing direction packet state reason.State change) (λ free. refl) refl

  embedded_unasked : (direction : Direction) (packet : Packet) (state : State) → came (embedded direction packet state) ≡ false
  embedded_unasked direction packet state = either_blocked (λ o. came o ≡ false) _ reason.IpOption (passing direction packet state reason.StateError None) (λ free. refl) refl

  tracked_unasked : (direction : Direction) (packet : Packet) (state : State) (t : Touch) → came (tracked direction packet state t) ≡ false
  tracked_unasked direction packet state (touch.Touched next) = passed_unasked direction packet state (Some (Touched next))
  tracked_unasked direction packet state touch.Mismatch = refl
  tracked_unasked direction packet state touch.Removed = refl

  shown_unasked : (tap : Tap) (direction : Direction) (outcome : Outcome) → came outcome ≡ false → IsAsked (as_shown tap direction outcome)
  shown_unasked tap direction outcome isnt = shown_either IsAsked tap direction outcome (unasked outcome isnt) (unasked (record outcome { bytes = None }) isnt)

  -- what the filter made of it, with a state that it makes, or blocked since it can't make it
  made_asked : (packet : Packet) (state : State) (direction : Direction) (outcome : Outcome) → IsAllowed direction outcome → IsAsked (with_made packet state outcome)
  made_asked packet state direction outcome a = asked_by_way direction (with_made packet state outcome) (record { way = a.way; lets = a.lets })

  blocked_asked : (why : Reason) (direction : Direction) (outcome : Outcome) → IsAllowed direction outcome → IsAsked (blocked why outcome)
  blocked_asked why direction outcome a = asked_by_way direction (blocked why outcome) (record { way = a.way; lets = a.lets })

  packet_asked : (number : ℕ) (clock : Clock) (packet : Packet) (table : StateTable) → IsAsked (step_of job number clock interface (Ipv4 packet) table)
  packet_asked number clock packet table =
      let direction = direction_of job interface packet in
      let states = purged_at clock table in
      let judges = judged_allowed states packet direction in
      step_way job number clock interface table packet IsAsked (λ is. absurd (cc is)) (record {
        by_rules = λ none. asked_by_way direction (filtered job.rules (filter_answer job.rules (name_in job interface) states packet direction) packet direction) (filtered_allowed states packet direction);
        by_error = λ key state is found. shown_unasked job.tap direction (embedded direction packet state) (embedded_unasked direction packet state);
        by_state = λ key state t is found. shown_unasked job.tap direction (tracked direction packet state t) (tracked_unasked direction packet state t);
        goes = λ passage visits first. asked_by_way direction (judged_in job interface states packet direction passage visits) (judges passage visits);
        makes = λ passage visits state first passes kept. made_asked packet state direction (judged_in job interface states packet direction passage visits) (judges passage visits);
        has_no_place = λ passage visits first. blocked_asked reason.StateInsert direction (judged_in job interface states packet direction passage visits) (judges passage visits);
        has_no_room = λ passage visits first full. blocked_asked reason.StateLimit direction (judged_in job interface states packet direction passage visits) (judges passage visits);
        has_no_port = λ rule visits first is. absurd (cc is);
      })

short_asked : (job : RunJob) (interface : InterfacePlace) (place : ℕ) (skipped : Bool) (table : StateTable) (other : Outcome) → came other ≡ false
    → IsAsked job interface place (outcome_of table (if skipped then done passed_over else done other))
short_asked job interface place true table other isnt is = absurd (cc is)
short_asked job interface place false table other isnt is = absurd (cc (isnt, is))

pub deciders : DecidersAreAsked
unfolding step_of plan
deciders job number clock interface Skip table place = λ is. absurd (cc is)
deciders job number clock interface Short table place = short_asked job interface place (is_skipped job interface) (purged_at clock table) _ refl
deciders job number clock interface (Ipv4 packet) table place = packet_asked job interface place number clock packet table
