-- The ways of the first packet of a connection, up to its filter.
use Rattle.std.proofs.Common.{◌≡◌, ◌&&◌, ℕ, Bool, true, false, not, Option, Some, None, List, [], ◌∷◌, cond, refl}
use Rattle.pfr_net.specs.declared.direction.Direction.{Direction}
use Rattle.pfr_net.specs.declared.direction.Direction.TheVariants.{In, Out}
use Rattle.pfr_net.specs.declared.interface.Binding.TheVariants as binding
use Rattle.pfr_net.specs.declared.interface.IfName.{IfName}
use Rattle.pfr_net.specs.declared.interface.InterfacePlace.{InterfacePlace}
use Rattle.pfr_net.specs.declared.rule_number.RuleNumber.{RuleNumber}
use Rattle.pfr_ruleset.specs.declared.ruleset.Ruleset.{Ruleset}
use Rattle.pfr_headers.specs.declared.packet.Packet.{Packet}
use Rattle.pfr_headers.specs.View.{has_options}
use Rattle.pfr_rules.specs.declared.hit.Hit.{Hit}
use Rattle.pfr_rules.specs.declared.hit.NewEnd.{NewEnd}
use Rattle.pfr_rules.specs.declared.hit.NewEnd.TheVariants.{Mapped, Picked}
use Rattle.pfr_rules.specs.Translating.{hit_of, translations_visited}
use Rattle.pfr_track.specs.declared.key.Key.{Key}
use Rattle.pfr_track.specs.declared.state.State.{State}
use Rattle.pfr_track.specs.declared.time.Clock.{Clock}
use Rattle.pfr_states.specs.declared.change.Side.TheVariants.{Wire}
use Rattle.pfr_states.specs.States.{StateTable}
use Rattle.pfr_packet.specs.declared.outcome.Outcome.{Outcome}
use Rattle.pfr_packet.specs.declared.passage.Passage.{Passage}
use Rattle.pfr_packet.specs.declared.verdict.Reason.{Reason}
use Rattle.pfr_packet.specs.declared.verdict.Reason.TheVariants as reason
use Rattle.pfr_packet.specs.Filtering.{conduct_of, decided, filtered}
use Rattle.pfr_packet.specs.Job.{RunJob, name_in}
use Rattle.pfr_packet.specs.Outcomes.{blocked}
use Rattle.pfr_packet.specs.Passages.{behind, by_way, exhausted, judged, mapped_end, mapped_passage, nat_passed, picked_passage, unfiltered, untranslated}
use Rattle.pfr_packet.specs.Picks.{picking, ports_for, tries, wire_with, word_of}
use Rattle.pfr_states.specs.Answers.{found_in}
use Rattle.pfr_packet.specs.Plan.{FilterAnswer, Plan, filter_answer, no_answer, outcome_of}
use Rattle.pfr_packet.specs.Steps.{answer_for, by_end, by_hit, by_pick, going, going_on, opening, translation_hit, translations_asked, unless_passed}
use Rattle.pfr_packet.specs.Verdicts.{lets_pass}

-- ---- what the filter makes of a packet

-- of an outcome, or of it blocked
pub either_blocked : (P : Outcome → Type 0) (test : Bool) (why : Reason) (outcome : Outcome) → (test ≡ false → P outcome) → P (blocked why outcome) → P (cond test (blocked why outcome) outcome)
either_blocked P true why outcome one other = other
either_blocked P false why outcome one other = one refl

-- the decision before IP options are looked at
abbrev pub decision_in : FilterAnswer → Direction → Outcome
decision_in answer direction = decided direction answer.decision answer.visits

-- the deciding rule allows IP options
abbrev pub allowed_in : Ruleset → FilterAnswer → Bool
allowed_in rules answer = (conduct_of rules.filter.rules answer.decision.rule).allows_options

-- a packet would pass, but has IP options that aren't allowed
abbrev pub lacks_leave : Outcome → Packet → Bool → Bool
lacks_leave outcome packet allowed = lets_pass outcome.verdict && (has_options packet && not allowed)

pub filtered_way : (rules : Ruleset) (answer : FilterAnswer) (packet : Packet) (direction : Direction) (P : Outcome → Type 0)
    → (lacks_leave (decision_in answer direction) packet (allowed_in rules answer) ≡ false → P (decision_in answer direction))
    → P (blocked reason.IpOption (decision_in answer direction)) → P (filtered rules answer packet direction)
unfolding filtered
filtered_way rules answer packet direction P one other =
    either_blocked P (lacks_leave (decision_in answer direction) packet (allowed_in rules answer)) reason.IpOption (decision_in answer direction) one other

-- ---- behind a passage

-- what holds of what becomes of a packet behind a passage
pub record Judging (rules : Ruleset) (answer : FilterAnswer) (direction : Direction) (packet : Packet) (passage : Passage) (visits : List ℕ) (P : Outcome → Type 0) : Type 0 where
  pub passed : lacks_leave (nat_passed direction passage visits) packet false ≡ false → P (nat_passed direction passage visits)
  pub passed_blocked : P (blocked reason.IpOption (nat_passed direction passage visits))
  pub decides : lacks_leave (decision_in answer direction) (behind direction passage packet) (allowed_in rules answer) ≡ false
      → P (by_way passage visits (decision_in answer direction))
  pub decides_blocked : P (by_way passage visits (blocked reason.IpOption (decision_in answer direction)))

judged_by : (rules : Ruleset) (answer : FilterAnswer) (direction : Direction) (packet : Packet) (passage : Passage) (visits : List ℕ) (P : Outcome → Type 0) → Judging rules answer direction packet passage visits P
    → (passes : Bool) → P (cond passes (unfiltered direction packet passage visits) (by_way passage visits (filtered rules answer (behind direction passage packet) direction)))
judged_by rules answer direction packet passage visits P j true =
    either_blocked P (lacks_leave (nat_passed direction passage visits) packet false) reason.IpOption (nat_passed direction passage visits) j.passed j.passed_blocked
judged_by rules answer direction packet passage visits P j false =
    filtered_way rules answer (behind direction passage packet) direction (λ o. P (by_way passage visits o)) j.decides j.decides_blocked

pub judged_way : (rules : Ruleset) (answer : FilterAnswer) (direction : Direction) (packet : Packet) (passage : Passage) (visits : List ℕ) (P : Outcome → Type 0) → Judging rules answer direction packet passage visits P
    → P (judged rules answer direction packet passage visits)
judged_way rules answer direction packet passage visits P j = judged_by rules answer direction packet passage visits P j passage.passes

-- nothing is changed yet, and nothing written
pub judged_changes_nothing : (rules : Ruleset) (answer : FilterAnswer) (direction : Direction) (packet : Packet) (passage : Passage) (visits : List ℕ) → (judged rules answer direction packet passage visits).change ≡ None
judged_changes_nothing rules answer direction packet passage visits =
    judged_way rules answer direction packet passage visits (λ o. o.change ≡ None) (record { passed = λ free. refl; passed_blocked = refl; decides = λ free. refl; decides_blocked = refl })

pub judged_writes_nothing : (rules : Ruleset) (answer : FilterAnswer) (direction : Direction) (packet : Packet) (passage : Passage) (visits : List ℕ) → (judged rules answer direction packet passage visits).bytes ≡ None
judged_writes_nothing rules answer direction packet passage visits =
    judged_way rules answer direction packet passage visits (λ o. o.bytes ≡ None) (record { passed = λ free. refl; passed_blocked = refl; decides = λ free. refl; decides_blocked = refl })

-- ---- the filter's answer behind a passage

by_pass : (rules : Ruleset) (name : IfName) (table : StateTable) (packet : Packet) (direction : Direction) (P : Outcome → Type 0) (next : FilterAnswer → Plan) (passes : Bool)
    → P (outcome_of table (next (cond passes no_answer (filter_answer rules name table packet direction)))) → P (outcome_of table (unless_passed rules name packet direction passes next))
by_pass rules name table packet direction P next true h = h
by_pass rules name table packet direction P next false h = h

-- what holds of a packet that goes on by the filter's answer holds of one that goes through by the passage
pub going_way : (job : RunJob) (number : ℕ) (clock : Clock) (place : InterfacePlace) (table : StateTable) (packet : Packet) (direction : Direction) (P : Outcome → Type 0) (visits : List ℕ) (passage : Passage)
    → P (outcome_of table (going_on job number clock place packet direction visits passage (answer_for job.rules (name_in job place) table direction packet passage))) → P (outcome_of table (going job number clock place packet direction visits passage))
going_way job number clock place table packet direction P visits passage h =
    by_pass job.rules (name_in job place) table (behind direction passage packet) direction P (going_on job number clock place packet direction visits passage) passage.passes h

-- ---- up to the passage

-- what holds whichever port is picked, and if none is
any_pick : (table : StateTable) (wire : ℕ → Key) (next : Option Key → Plan) (P : Outcome → Type 0) → ((found : Option Key) → P (outcome_of table (next found)))
    → (ports : List ℕ) → P (outcome_of table (picking wire next ports))
any_pick table wire next P h [] = h None
any_pick table wire next P h (port ∷ ports) = tried (found_in table Wire (wire port) binding.All) (any_pick table wire next P h ports)
  where
    tried : (found : Option State) → P (outcome_of table (picking wire next ports)) → P (outcome_of table (elim found [ None ↦ next (Some (wire port)) | Some other ↦ picking wire next ports ]))
    tried None rest = h (Some (wire port))
    tried (Some other) rest = rest

-- what holds of the first packet of a connection: it goes through by some passage, or no port is free for it
pub record Opening (job : RunJob) (number : ℕ) (clock : Clock) (place : InterfacePlace) (table : StateTable) (packet : Packet) (direction : Direction) (P : Outcome → Type 0) : Type 0 where
  pub goes : (visits : List ℕ) (passage : Passage) → P (outcome_of table (going job number clock place packet direction visits passage))
  pub has_no_port : (rule : RuleNumber) (visits : List ℕ) → P (exhausted direction rule visits)

end_way : (job : RunJob) (number : ℕ) (clock : Clock) (place : InterfacePlace) (table : StateTable) (packet : Packet) (direction : Direction) (P : Outcome → Type 0) → Opening job number clock place table packet direction P
    → (visits : List ℕ) (key : Key) (hit : Hit) (new_end : NewEnd) → P (outcome_of table (by_end job number clock place packet direction visits key hit new_end))
end_way job number clock place table packet direction P o visits key hit (Mapped address mapping) = o.goes visits (mapped_passage direction key hit (mapped_end packet.transport key.inside address mapping))
end_way job number clock place table packet direction P o visits key hit (Picked target) =
    any_pick table (wire_with packet.transport key target.address) (by_pick job number clock place packet direction visits key hit) P by_found (tries (ports_for packet.transport target key.inside.port) (word_of job.seed number))
  where
    by_found : (found : Option Key) → P (outcome_of table (by_pick job number clock place packet direction visits key hit found))
    by_found None = o.has_no_port hit.number visits
    by_found (Some wire) = o.goes visits (picked_passage key hit wire)

hit_way : (job : RunJob) (number : ℕ) (clock : Clock) (place : InterfacePlace) (table : StateTable) (packet : Packet) (direction : Direction) (P : Outcome → Type 0) → Opening job number clock place table packet direction P
    → (visits : List ℕ) (key : Key) (hit : Option Hit) → P (outcome_of table (by_hit job number clock place packet direction visits key hit))
hit_way job number clock place table packet direction P o visits key None = o.goes visits (untranslated key)
hit_way job number clock place table packet direction P o visits key (Some hit) = end_way job number clock place table packet direction P o visits key hit hit.new_end

pub opening_way : (job : RunJob) (number : ℕ) (clock : Clock) (place : InterfacePlace) (table : StateTable) (packet : Packet) (direction : Direction) (P : Outcome → Type 0) → Opening job number clock place table packet direction P
    → (key : Key) → P (outcome_of table (opening job number clock place packet direction key))
opening_way job number clock place table packet direction P o key =
    hit_way job number clock place table packet direction P o (translations_asked job place packet direction) key (translation_hit job place packet direction)

-- ---- the packet that is judged

-- a translation leaves IP options as they are
translated_options : (direction : Direction) (passage : Passage) (packet : Packet) (rule : Option RuleNumber) → has_options (behind direction (record passage { translation = rule }) packet) ≡ has_options packet
translated_options In passage packet None = refl
translated_options Out passage packet None = refl
translated_options In passage packet (Some number) = refl
translated_options Out passage packet (Some number) = refl

pub behind_options : (direction : Direction) (passage : Passage) (packet : Packet) → has_options (behind direction passage packet) ≡ has_options packet
behind_options direction passage packet = translated_options direction passage packet passage.translation
