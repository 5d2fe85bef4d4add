-- What a packet comes to if one rule is replaced that it couldn't have asked.
use Rattle.std.proofs.Common.{◌≡◌, ◌≢◌, ◌∙◌, ◌&&◌, ℕ, Bool, true, false, List, [], ◌∷◌, Option, Some, None, if◌then◌else◌, refl, ap, subst}
use Rattle.pfr_net.specs.declared.direction.Direction.{Direction}
use Rattle.pfr_net.specs.declared.interface.Binding.TheVariants as binding
use Rattle.pfr_net.specs.declared.interface.IfName.{IfName}
use Rattle.pfr_net.specs.declared.interface.InterfacePlace.{InterfacePlace}
use Rattle.pfr_net.specs.declared.rule_number.RuleNumber.{RuleNumber}
use Rattle.pfr_ruleset.specs.declared.filter_rules.RuleLists.{RuleLists}
use Rattle.pfr_ruleset.specs.declared.flat.FlatRule.{FlatRule}
use Rattle.pfr_ruleset.specs.declared.interface.Interface.{Interface}
use Rattle.pfr_ruleset.specs.declared.label.Label.{Label}
use Rattle.pfr_ruleset.specs.declared.ruleset.Ruleset.{Ruleset}
use Rattle.pfr_headers.specs.declared.packet.Packet.{Packet}
use Rattle.pfr_headers.specs.declared.packet.View.{View}
use Rattle.pfr_headers.specs.declared.packet.View.TheVariants.{Ipv4, Skip, Short}
use Rattle.pfr_rules.specs.declared.hit.Hit.{Hit}
use Rattle.pfr_rules.specs.declared.hit.NewEnd.{NewEnd}
use Rattle.pfr_rules.specs.declared.hit.NewEnd.TheVariants.{Mapped, Picked}
use Rattle.pfr_rules.specs.Filter.{deciding, decision_by, rooms_in}
use Rattle.pfr_rules.specs.Laws.{IsSameBut}
use Rattle.pfr_rules.specs.Translating.{hit_of, translations_visited}
use Rattle.pfr_track.specs.declared.key.Key.{Key}
use Rattle.pfr_track.specs.declared.state.State.{State}
use Rattle.pfr_track.specs.declared.state.StateNumber.{StateNumber}
use Rattle.pfr_track.specs.declared.state.StateRules.{StateRules}
use Rattle.pfr_track.specs.declared.time.Clock.{Clock}
use Rattle.pfr_track.specs.Tracking.{made}
use Rattle.pfr_states.specs.declared.change.Side.TheVariants.{Wire, Stack}
use Rattle.pfr_states.specs.Answers.{found_in, has_room_in}
use Rattle.pfr_states.specs.States.{StateTable}
use Rattle.pfr_packet.specs.declared.keys.Subject.{Subject}
use Rattle.pfr_packet.specs.declared.keys.Subject.TheVariants.{Alone, Embedded, Connection}
use Rattle.pfr_packet.specs.declared.outcome.Outcome.{Outcome}
use Rattle.pfr_packet.specs.declared.passage.Passage.{Passage}
use Rattle.pfr_packet.specs.declared.verdict.Reason.{Reason}
use Rattle.pfr_packet.specs.declared.verdict.Reason.TheVariants as reason
use Rattle.pfr_packet.specs.Filtering.{allows_options, conduct_of, decided, filtered, kept, reason_of}
use Rattle.pfr_packet.specs.Job.{RunJob, direction_of, is_skipped, name_in, timeouts_of}
use Rattle.pfr_packet.specs.Keys.{subject_of}
use Rattle.pfr_packet.specs.Making.{making, with_keys, with_room}
use Rattle.pfr_packet.specs.Outcomes.{without_leave}
use Rattle.pfr_packet.specs.Passages.{behind, by_way, judged, judged_kept, mapped_end, mapped_passage, picked_passage, unfiltered, untranslated}
use Rattle.pfr_packet.specs.Picks.{picking, ports_for, tries, wire_with, word_of}
use Rattle.pfr_packet.specs.Plan.{FilterAnswer, Plan, done, filter_answer, no_answer, outcome_of}
use Rattle.pfr_packet.specs.Steps.{alone, by_connection, by_embedded, by_end, by_hit, by_pick, going, going_on, opened, opening, packet_plan, passed_over, plan, subject_plan, translation_hit, translations_asked, unless_passed}
use Rattle.pfr_packet.specs.Taps.{is_translated, looked_up_on}
use Rattle.pfr_packet.specs.Verdicts.{lets_pass}
use Rattle.pfr_packet.proofs.OpeningLemmas.{filtered_way}
use Rattle.pfr_asked.specs.Asking.{allowed, allowed_way, came, came_by, could_ask}
use Rattle.pfr_asked.proofs.LetsLemmas.{AreShut, answer_same, decides_elsewhere}

-- ---- outcomes of packets about which the filter was asked

-- a rule decided, or none held
abbrev by_rule : Reason → Bool
by_rule reason.Rule = true
by_rule reason.Default = true
by_rule reason.IpOption = false
by_rule reason.StateInsert = false
by_rule reason.StateLimit = false
by_rule reason.NotIp = false
by_rule reason.SkipOn = false
by_rule reason.Short = false
by_rule reason.State = false
by_rule reason.StateError = false
by_rule reason.StateMismatch = false
by_rule reason.NatExhausted = false
by_rule reason.NatPass = false

record IsOfFilter (direction : Direction) (outcome : Outcome) : Type 0 where
  is_asked : came outcome ≡ true
  way : outcome.direction ≡ Some direction

-- the same before a state is made
record IsJudged (direction : Direction) (outcome : Outcome) : Type 0 where
  is_asked : came outcome ≡ true
  way : outcome.direction ≡ Some direction
  passes : lets_pass outcome.verdict ≡ true → by_rule outcome.reason ≡ true

rule_came : (why : Reason) (state : Option StateNumber) → by_rule why ≡ true → came_by why state ≡ true
rule_came reason.Rule state is = refl
rule_came reason.Default state is = refl
rule_came reason.IpOption state is = absurd (cc is)
rule_came reason.StateInsert state is = refl
rule_came reason.StateLimit state is = refl
rule_came reason.NotIp state is = absurd (cc is)
rule_came reason.SkipOn state is = absurd (cc is)
rule_came reason.Short state is = absurd (cc is)
rule_came reason.State state is = absurd (cc is)
rule_came reason.StateError state is = absurd (cc is)
rule_came reason.StateMismatch state is = absurd (cc is)
rule_came reason.NatExhausted state is = absurd (cc is)
rule_came reason.NatPass state is = absurd (cc is)

decision_by_rule : (found : Option RuleNumber) → by_rule (reason_of found) ≡ true
decision_by_rule None = refl
decision_by_rule (Some number) = refl

filtered_judged : (rules : Ruleset) (answer : FilterAnswer) (packet : Packet) (direction : Direction) → IsJudged direction (filtered rules answer packet direction)
filtered_judged rules answer packet direction =
    filtered_way rules answer packet direction (IsJudged direction)
    (λ free. record { is_asked = rule_came (reason_of answer.decision.rule) None (decision_by_rule answer.decision.rule); way = refl; passes = λ lets. decision_by_rule answer.decision.rule })
    (record { is_asked = refl; way = refl; passes = λ lets. absurd (cc lets) })

judged_by : (rules : Ruleset) (answer : FilterAnswer) (direction : Direction) (packet : Packet) (passage : Passage) (visits : List ℕ) (passes : Bool) → passes ≡ false
    → IsJudged direction (if passes then unfiltered direction packet passage visits else by_way passage visits (filtered rules answer (behind direction passage packet) direction))
judged_by rules answer direction packet passage visits true is = absurd (cc is)
judged_by rules answer direction packet passage visits false is =
    let f = filtered_judged rules answer (behind direction passage packet) direction in
    record { is_asked = f.is_asked; way = f.way; passes = f.passes }

judged_is : (rules : Ruleset) (answer : FilterAnswer) (direction : Direction) (packet : Packet) (passage : Passage) (visits : List ℕ) → passage.passes ≡ false → IsJudged direction (judged rules answer direction packet passage visits)
judged_is rules answer direction packet passage visits is = judged_by rules answer direction packet passage visits passage.passes is

-- a state is made of it, or not
room_of_filter : (table : StateTable) (packet : Packet) (state : State) (direction : Direction) (outcome : Outcome) → IsJudged direction outcome → lets_pass outcome.verdict ≡ true → (room : Bool) → IsOfFilter direction (outcome_of table (with_room packet state outcome room))
room_of_filter table packet state direction outcome j lets true = record { is_asked = rule_came outcome.reason (Some state.number) (j.passes lets); way = j.way }
room_of_filter table packet state direction outcome j lets false = record { is_asked = refl; way = j.way }

keys_of_filter : (table : StateTable) (packet : Packet) (state : State) (direction : Direction) (outcome : Outcome) → IsJudged direction outcome → lets_pass outcome.verdict ≡ true → (wire stack : Option State)
    → IsOfFilter direction (outcome_of table (with_keys packet state outcome wire stack))
keys_of_filter table packet state direction outcome j lets None None = room_of_filter table packet state direction outcome j lets (has_room_in table)
keys_of_filter table packet state direction outcome j lets None (Some other) = record { is_asked = refl; way = j.way }
keys_of_filter table packet state direction outcome j lets (Some other) stack = record { is_asked = refl; way = j.way }

passing_of_filter : (table : StateTable) (packet : Packet) (state : State) (direction : Direction) (outcome : Outcome) → IsJudged direction outcome → (test : Bool) → lets_pass outcome.verdict ≡ test
    → IsOfFilter direction (outcome_of table (if test then making packet state outcome else done outcome))
passing_of_filter table packet state direction outcome j true lets =
    keys_of_filter table packet state direction outcome j lets (found_in table Wire state.wire state.rules.binding) (found_in table Stack state.stack state.rules.binding)
passing_of_filter table packet state direction outcome j false lets = record { is_asked = j.is_asked; way = j.way }

opened_of_filter : (job : RunJob) (number : ℕ) (clock : Clock) (interface : InterfacePlace) (table : StateTable) (packet : Packet) (direction : Direction) (passage : Passage) (outcome : Outcome) → IsJudged direction outcome → (keeps : Option StateRules)
    → IsOfFilter direction (outcome_of table (opened job number clock interface packet direction passage outcome keeps))
opened_of_filter job number clock interface table packet direction passage outcome j None = record { is_asked = j.is_asked; way = j.way }
opened_of_filter job number clock interface table packet direction passage outcome j (Some rules) =
    passing_of_filter table packet (made (record { 0 = number }) packet direction interface passage.wire passage.stack rules clock (timeouts_of job)) direction outcome j (lets_pass outcome.verdict) refl

-- ---- another job

abbrev pub with_rules : Ruleset → List Label → RuleLists → Ruleset
with_rules rules labels lists = record rules { labels = labels; filter = lists }

-- the same job with another text, and other filter rules
abbrev pub with_other : RunJob → List ℕ → List Interface → List Label → RuleLists → RunJob
with_other job text interfaces labels lists = record job { text = text; interfaces = interfaces; rules = with_rules job.rules labels lists }

-- the packet could have asked neither of two rules of a place
pub record AsksNeither (lists others : RuleLists) (place : ℕ) (name : IfName) (outcome : Outcome) : Type 0 where
  pub here : could_ask lists place name outcome ≡ false
  pub there : could_ask others place name outcome ≡ false

shut_way : (asked : Bool) (way : Option Direction) (lists : RuleLists) (place : ℕ) (name : IfName) (direction : Direction) → asked ≡ true → way ≡ Some direction → (asked && allowed_way lists place name way) ≡ false → allowed lists place name direction ≡ false
shut_way false way lists place name direction is on shut = absurd (cc is)
shut_way true None lists place name direction is on shut = absurd (cc on)
shut_way true (Some way) lists place name direction is on shut = (let same : way ≡ direction = cc on in subst (λ (d : Direction). allowed lists place name d ≡ false) same shut)

shut_by : (rules other : Ruleset) (place : ℕ) (name : IfName) (direction : Direction) (outcome : Outcome) → IsOfFilter direction outcome → AsksNeither rules.filter other.filter place name outcome → AreShut rules other place name direction
shut_by rules other place name direction outcome f neither = record {
  here = shut_way (came outcome) outcome.direction rules.filter place name direction f.is_asked f.way neither.here;
  there = shut_way (came outcome) outcome.direction other.filter place name direction f.is_asked f.way neither.there;
}

-- the filter's answer names another rule than one
abbrev IsElsewhere : ℕ → FilterAnswer → Type 0
IsElsewhere place answer = answer.decision.rule ≢ Some (record { 0 = place })

abbrev number_of : Option RuleNumber → ℕ → ℕ
number_of None other = other
number_of (Some number) other = number.0

decision_elsewhere : (rules : List FlatRule) (found : Option ℕ) (place : ℕ) → found ≢ Some place → (decision_by rules found).rule ≢ Some (record { 0 = place })
decision_elsewhere rules None place apart is = absurd (cc is)
decision_elsewhere rules (Some k) place apart is =
    let same : k ≡ place = ap (λ (r : Option RuleNumber). number_of r k) is in
    apart (ap (λ (n : ℕ). Some n) same)

conduct_same : (flat other : Ruleset) (place : ℕ) → IsSameBut place flat other → (found : Option RuleNumber) → found ≢ Some (record { 0 = place }) → conduct_of other.filter.rules found ≡ conduct_of flat.filter.rules found
conduct_same flat other place s None apart = refl
conduct_same flat other place s (Some number) apart =
    let same = s.rules_are number.0 (λ is. apart (ap (λ (n : ℕ). Some (record { 0 = n })) is)) in
    rw same refl

filtered_same : (flat other : Ruleset) (place : ℕ) → IsSameBut place flat other → (answer : FilterAnswer) (packet : Packet) (direction : Direction) → IsElsewhere place answer → filtered other answer packet direction ≡ filtered flat answer packet direction
unfolding filtered
filtered_same flat other place s answer packet direction apart =
    ap (λ c. without_leave packet c.allows_options (decided direction answer.decision answer.visits)) (conduct_same flat other place s answer.decision.rule apart)

leave_same : (flat other : Ruleset) (place : ℕ) → IsSameBut place flat other → (answer : FilterAnswer) → IsElsewhere place answer → allows_options other answer ≡ allows_options flat answer
unfolding allows_options
leave_same flat other place s answer apart = ap (λ c. c.allows_options) (conduct_same flat other place s answer.decision.rule apart)

kept_same : (flat other : Ruleset) (place : ℕ) → IsSameBut place flat other → (answer : FilterAnswer) → IsElsewhere place answer → kept other answer ≡ kept flat answer
unfolding kept
kept_same flat other place s answer apart = ap (λ c. c.state) (conduct_same flat other place s answer.decision.rule apart)

module _ (job : RunJob) (text : List ℕ) (interfaces : List Interface) (labels : List Label) (lists : RuleLists) (rule : ℕ) (s : IsSameBut rule job.rules (with_rules job.rules labels lists))
    (number : ℕ) (clock : Clock) (interface : InterfacePlace) (table : StateTable) (packet : Packet) (direction : Direction) where
  abbrev other : RunJob
  other = with_other job text interfaces labels lists

  -- the packet could have asked neither of both rules
  abbrev Neither : Plan → Type 0
  Neither steps = AsksNeither job.rules.filter lists rule (name_in job interface) (outcome_of table steps)

  -- it comes to the same
  abbrev Same : Plan → Plan → Type 0
  Same steps others = outcome_of table others ≡ outcome_of table steps

  judged_same : (passage : Passage) (visits : List ℕ) (answer : FilterAnswer) → IsElsewhere rule answer → judged other.rules answer direction packet passage visits ≡ judged job.rules answer direction packet passage visits
  judged_same passage visits answer apart =
      ap (λ o. if passage.passes then unfiltered direction packet passage visits else by_way passage visits o) (filtered_same job.rules other.rules rule s answer (behind direction passage packet) direction apart)

  kept_alike : (passage : Passage) (answer : FilterAnswer) → IsElsewhere rule answer → judged_kept interface other.rules answer direction packet passage ≡ judged_kept interface job.rules answer direction packet passage
  kept_alike passage answer apart =
      let filters = filtered_same job.rules other.rules rule s answer (behind direction passage packet) direction apart in
      let leaves = leave_same job.rules other.rules rule s answer apart in
      let keeps = kept_same job.rules other.rules rule s answer apart in
      rw (filters, leaves, keeps) refl

  opened_same : (passage : Passage) (outcome : Outcome) (keeps : Option StateRules) → opened other number clock interface packet direction passage outcome keeps ≡ opened job number clock interface packet direction passage outcome keeps
  opened_same passage outcome None = refl
  opened_same passage outcome (Some rules) = refl

  going_on_same : (passage : Passage) (visits : List ℕ) (answer : FilterAnswer) → IsElsewhere rule answer → going_on other number clock interface packet direction visits passage answer ≡ going_on job number clock interface packet direction visits passage answer
  going_on_same passage visits answer apart =
      opened_same passage (judged other.rules answer direction packet passage visits) (judged_kept interface other.rules answer direction packet passage)
      ∙ ap (λ o. opened job number clock interface packet direction passage o (judged_kept interface other.rules answer direction packet passage)) (judged_same passage visits answer apart)
      ∙ ap (λ k. opened job number clock interface packet direction passage (judged job.rules answer direction packet passage visits) k) (kept_alike passage answer apart)

  -- the filter's answer about the packet behind a passage
  abbrev answer_of : Ruleset → Passage → FilterAnswer
  answer_of rules passage = filter_answer rules (name_in job interface) table (behind direction passage packet) direction

  going_by : (passage : Passage) (visits : List ℕ) (passes : Bool) → passage.passes ≡ passes
      → Neither (unless_passed job.rules (name_in job interface) (behind direction passage packet) direction passes (going_on job number clock interface packet direction visits passage))
      → Same (unless_passed job.rules (name_in job interface) (behind direction passage packet) direction passes (going_on job number clock interface packet direction visits passage))
      (unless_passed other.rules (name_in job interface) (behind direction passage packet) direction passes (going_on other number clock interface packet direction visits passage))
  going_by passage visits true is neither = ap (outcome_of table) (going_on_same passage visits no_answer (λ none. absurd (cc none)))
  going_by passage visits false is neither =
      let answer = answer_of job.rules passage in
      let judges = judged_is job.rules answer direction packet passage visits is in
      let asked = opened_of_filter job number clock interface table packet direction passage (judged job.rules answer direction packet passage visits) judges (judged_kept interface job.rules answer direction packet passage) in
      let shut = shut_by job.rules other.rules rule (name_in job interface) direction (outcome_of table (going_on job number clock interface packet direction visits passage answer)) asked neither in
      let apart = decision_elsewhere job.rules.filter.rules (deciding job.rules (rooms_in table) (name_in job interface) (behind direction passage packet) direction) rule (decides_elsewhere job.rules other.rules rule (name_in job interface) (rooms_in table) (behind direction passage packet) direction shut) in
      ap (λ a. outcome_of table (going_on other number clock interface packet direction visits passage a)) (answer_same job.rules other.rules rule s (name_in job interface) table (behind direction passage packet) direction shut)
      ∙ ap (outcome_of table) (going_on_same passage visits answer apart)

  going_same : (visits : List ℕ) (passage : Passage) → Neither (going job number clock interface packet direction visits passage) → Same (going job number clock interface packet direction visits passage) (going other number clock interface packet direction visits passage)
  going_same visits passage neither = going_by passage visits passage.passes refl neither

  -- ---- a port that is picked

  abbrev at_port : (ℕ → Key) → (Option Key → Plan) → ℕ → List ℕ → Option State → Plan
  at_port wire next port ports = elim [ None ↦ next (Some (wire port)) | Some taken ↦ picking wire next ports ]

  port_same : (wire : ℕ → Key) (next others : Option Key → Plan) (port : ℕ) (ports : List ℕ) → ((key : Option Key) → Neither (next key) → Same (next key) (others key))
      → (Neither (picking wire next ports) → Same (picking wire next ports) (picking wire others ports))
      → (found : Option State) → Neither (at_port wire next port ports found) → Same (at_port wire next port ports found) (at_port wire others port ports found)
  port_same wire next others port ports each rest None neither = each (Some (wire port)) neither
  port_same wire next others port ports each rest (Some taken) neither = rest neither

  picking_same : (wire : ℕ → Key) (next others : Option Key → Plan) (ports : List ℕ) → ((key : Option Key) → Neither (next key) → Same (next key) (others key))
      → Neither (picking wire next ports) → Same (picking wire next ports) (picking wire others ports)
  picking_same wire next others [] each neither = each None neither
  picking_same wire next others (port ∷ ports) each neither =
      port_same wire next others port ports each (picking_same wire next others ports each) (found_in table Wire (wire port) binding.All) neither

  pick_same : (visits : List ℕ) (key : Key) (hit : Hit) (picked : Option Key) → Neither (by_pick job number clock interface packet direction visits key hit picked)
      → Same (by_pick job number clock interface packet direction visits key hit picked) (by_pick other number clock interface packet direction visits key hit picked)
  pick_same visits key hit None neither = refl
  pick_same visits key hit (Some wire) neither = going_same visits (picked_passage key hit wire) neither

  end_same : (visits : List ℕ) (key : Key) (hit : Hit) (end : NewEnd) → Neither (by_end job number clock interface packet direction visits key hit end)
      → Same (by_end job number clock interface packet direction visits key hit end) (by_end other number clock interface packet direction visits key hit end)
  end_same visits key hit (Mapped address mapping) neither = going_same visits (mapped_passage direction key hit (mapped_end packet.transport key.inside address mapping)) neither
  end_same visits key hit (Picked target) neither =
      picking_same (wire_with packet.transport key target.address) (by_pick job number clock interface packet direction visits key hit) (by_pick other number clock interface packet direction visits key hit)
      (tries (ports_for packet.transport target key.inside.port) (word_of job.seed number)) (pick_same visits key hit) neither

  hit_same : (visits : List ℕ) (key : Key) (hit : Option Hit) → Neither (by_hit job number clock interface packet direction visits key hit)
      → Same (by_hit job number clock interface packet direction visits key hit) (by_hit other number clock interface packet direction visits key hit)
  hit_same visits key None neither = going_same visits (untranslated key) neither
  hit_same visits key (Some hit) neither = end_same visits key hit hit.new_end neither

  -- ---- translation rules are the same

  hits_are : hit_of other.rules (name_in job interface) packet direction ≡ hit_of job.rules (name_in job interface) packet direction
  unfolding hit_of
  hits_are = refl

  visits_are : translations_visited other.rules (name_in job interface) packet direction ≡ translations_visited job.rules (name_in job interface) packet direction
  unfolding translations_visited
  visits_are = refl

  opening_same : (key : Key) → Neither (opening job number clock interface packet direction key) → Same (opening job number clock interface packet direction key) (opening other number clock interface packet direction key)
  opening_same key neither =
      let asked : translations_asked other interface packet direction ≡ translations_asked job interface packet direction = ap (λ (v : List ℕ). if is_translated job.tap direction then [] else v) visits_are in
      let hits : translation_hit other interface packet direction ≡ translation_hit job interface packet direction = ap (λ (h : Option Hit). if is_translated job.tap direction then None else h) hits_are in
      ap (λ (v : List ℕ). outcome_of table (by_hit other number clock interface packet direction v key (translation_hit other interface packet direction))) asked
      ∙ ap (λ (h : Option Hit). outcome_of table (by_hit other number clock interface packet direction (translations_asked job interface packet direction) key h)) hits
      ∙ hit_same (translations_asked job interface packet direction) key (translation_hit job interface packet direction) neither

  -- ---- a packet

  alone_same : Neither (alone job interface packet direction) → Same (alone job interface packet direction) (alone other interface packet direction)
  alone_same neither =
      let answer = filter_answer job.rules (name_in job interface) table packet direction in
      let judges = filtered_judged job.rules answer packet direction in
      let asked : IsOfFilter direction (filtered job.rules answer packet direction) = record { is_asked = judges.is_asked; way = judges.way } in
      let shut = shut_by job.rules other.rules rule (name_in job interface) direction (filtered job.rules answer packet direction) asked neither in
      let apart = decision_elsewhere job.rules.filter.rules (deciding job.rules (rooms_in table) (name_in job interface) packet direction) rule (decides_elsewhere job.rules other.rules rule (name_in job interface) (rooms_in table) packet direction shut) in
      ap (λ a. filtered other.rules a packet direction) (answer_same job.rules other.rules rule s (name_in job interface) table packet direction shut)
      ∙ filtered_same job.rules other.rules rule s answer packet direction apart

  embedded_same : (found : Option State) → Neither (by_embedded job interface packet direction found) → Same (by_embedded job interface packet direction found) (by_embedded other interface packet direction found)
  embedded_same None neither = alone_same neither
  embedded_same (Some state) neither = refl

  connection_same : (key : Key) (found : Option State) → Neither (by_connection job number clock interface packet direction key found)
      → Same (by_connection job number clock interface packet direction key found) (by_connection other number clock interface packet direction key found)
  connection_same key None neither = opening_same key neither
  connection_same key (Some state) neither = refl

  subject_same : (subject : Subject) → Neither (subject_plan job number clock interface packet direction subject) → Same (subject_plan job number clock interface packet direction subject) (subject_plan other number clock interface packet direction subject)
  subject_same Alone neither = alone_same neither
  subject_same (Embedded key) neither = embedded_same (found_in table (looked_up_on job.tap direction) key (binding.To interface)) neither
  subject_same (Connection key) neither = connection_same key (found_in table (looked_up_on job.tap direction) key (binding.To interface)) neither

  packet_same : Neither (packet_plan job number clock interface packet direction) → Same (packet_plan job number clock interface packet direction) (packet_plan other number clock interface packet direction)
  unfolding packet_plan
  packet_same neither = subject_same (subject_of direction packet) neither

  skipped_same : (skipped : Bool) → Neither (if skipped then done passed_over else packet_plan job number clock interface packet direction)
      → Same (if skipped then done passed_over else packet_plan job number clock interface packet direction) (if skipped then done passed_over else packet_plan other number clock interface packet direction)
  skipped_same true neither = refl
  skipped_same false neither = packet_same neither

-- what a view comes to
pub plan_same : (job : RunJob) (text : List ℕ) (interfaces : List Interface) (labels : List Label) (lists : RuleLists) (rule : ℕ) → IsSameBut rule job.rules (with_rules job.rules labels lists)
    → (number : ℕ) (clock : Clock) (interface : InterfacePlace) (table : StateTable) (view : View)
    → AsksNeither job.rules.filter lists rule (name_in job interface) (outcome_of table (plan job number clock interface view))
    → outcome_of table (plan (with_other job text interfaces labels lists) number clock interface view) ≡ outcome_of table (plan job number clock interface view)
unfolding plan
plan_same job text interfaces labels lists rule s number clock interface table Skip neither = refl
plan_same job text interfaces labels lists rule s number clock interface table Short neither = refl
plan_same job text interfaces labels lists rule s number clock interface table (Ipv4 packet) neither =
    skipped_same job text interfaces labels lists rule s number clock interface table packet (direction_of job interface packet) (is_skipped job interface) neither
