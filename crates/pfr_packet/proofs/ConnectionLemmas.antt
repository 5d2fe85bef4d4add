-- Which keys the state of a packet has, along the plan, and what becomes of an answer.
use Rattle.std.specs.Prelude.{⊤}
use Rattle.std.proofs.Common.{◌≡◌, ℕ, Bool, true, false, cond, Option, Some, None, List, [], ◌∷◌, refl, sym, ap, ◌∙◌, subst}
use Rattle.std.specs.List.{All, find}
use Rattle.std.specs.Option.{option_map}
use Rattle.std.proofs.lemmas.List.Elements.{All-cons, All-head, All-nil, All-tail}
use Rattle.pfr_net.specs.declared.address.Ipv4Address.{Ipv4Address}
use Rattle.pfr_net.specs.declared.direction.Direction.{Direction}
use Rattle.pfr_net.specs.declared.direction.Direction.TheVariants.{In, Out}
use Rattle.pfr_net.specs.declared.interface.Binding.TheVariants as binding
use Rattle.pfr_net.specs.declared.interface.IfName.{IfName}
use Rattle.pfr_net.specs.declared.interface.InterfacePlace.{InterfacePlace}
use Rattle.pfr_net.specs.declared.port.Port.{Port}
use Rattle.pfr_ruleset.specs.declared.flat.FlatTranslation.{FlatTranslation}
use Rattle.pfr_ruleset.specs.declared.flat.NatAddress.{NatAddress}
use Rattle.pfr_ruleset.specs.declared.flat.RdrAddress.{RdrAddress}
use Rattle.pfr_ruleset.specs.declared.ruleset.Ruleset.{Ruleset}
use Rattle.pfr_headers.specs.declared.change.Change.{Change}
use Rattle.pfr_headers.specs.declared.packet.Packet.{Packet}
use Rattle.pfr_headers.specs.declared.packet.View.TheVariants.{Ipv4}
use Rattle.pfr_headers.specs.declared.transport.Transport.{Transport}
use Rattle.pfr_headers.specs.declared.transport.Transport.TheVariants as transport
use Rattle.pfr_rules.specs.declared.hit.Hit.{Hit}
use Rattle.pfr_rules.specs.declared.hit.NewEnd.{NewEnd}
use Rattle.pfr_rules.specs.declared.hit.NewEnd.TheVariants.{Mapped, Picked}
use Rattle.pfr_rules.specs.declared.hit.PortMapping.{PortMapping}
use Rattle.pfr_rules.specs.Translating.{binat_end, binat_hit, binat_of, binats, hit_behind, hit_of, hit_of_first, mapping, other_hit, rdr_hit, rdrs, translations_visited}
use Rattle.pfr_track.specs.declared.key.Key.{Key}
use Rattle.pfr_track.specs.declared.outcome.Touch.{Touch}
use Rattle.pfr_track.specs.declared.outcome.Touch.TheVariants as touch
use Rattle.pfr_track.specs.declared.state.State.{State}
use Rattle.pfr_track.specs.declared.state.StateRules.{StateRules}
use Rattle.pfr_track.specs.declared.time.Clock.{Clock}
use Rattle.pfr_track.specs.Tracking.{made, touched}
use Rattle.pfr_states.specs.declared.change.Side.TheVariants.{Wire, Stack}
use Rattle.pfr_states.specs.declared.change.TableChange.{TableChange}
use Rattle.pfr_states.specs.declared.change.TableChange.TheVariants.{Made, Touched, Removed}
use Rattle.pfr_states.specs.States.{StateTable}
use Rattle.pfr_states.specs.Answers.{found_in, has_room_in, purged_at}
use Rattle.pfr_packet.specs.declared.keys.Subject.{Subject}
use Rattle.pfr_packet.specs.declared.keys.Subject.TheVariants.{Alone, Embedded, Connection}
use Rattle.pfr_packet.specs.declared.outcome.Outcome.{Outcome}
use Rattle.pfr_packet.specs.declared.passage.Passage.{Passage}
use Rattle.pfr_packet.specs.declared.picks.PortsTried.TheVariants.{One}
use Rattle.pfr_packet.specs.declared.verdict.Reason.{Reason}
use Rattle.pfr_packet.specs.declared.verdict.Reason.TheVariants as reason
use Rattle.pfr_packet.specs.declared.verdict.Verdict.TheVariants as verdict
use Rattle.pfr_packet.specs.Connections.{GoesBy}
use Rattle.pfr_packet.specs.Filtering.{filtered}
use Rattle.pfr_packet.specs.Found.{passed, tracked}
use Rattle.pfr_packet.specs.Job.{RunJob, direction_of, is_skipped, name_in, timeouts_of}
use Rattle.pfr_packet.specs.Keys.{subject_of, written_by}
use Rattle.pfr_packet.specs.Making.{making, with_keys, with_room}
use Rattle.pfr_packet.specs.Outcomes.{by_state}
use Rattle.pfr_packet.specs.Passages.{judged, judged_kept, mapped_end, mapped_passage, picked_passage, untranslated}
use Rattle.pfr_packet.specs.Picks.{picking, ports_for, tries, wire_with, word_of}
use Rattle.pfr_packet.specs.Plan.{FilterAnswer, Plan, done, filter_answer, outcome_of}
use Rattle.pfr_packet.specs.Steps.{answer_for, by_connection, by_embedded, by_end, by_hit, by_pick, going, opened, opening, packet_plan, passed_over, plan, step_of, subject_plan, translation_hit, translations_asked}
use Rattle.pfr_packet.specs.Verdicts.{lets_pass}
use Rattle.pfr_packet.proofs.OpeningLemmas.{either_blocked, filtered_way, going_way, judged_changes_nothing, lacks_leave}
use Rattle.pfr_packet.proofs.PassageLemmas.{AreKeys, FitKey, FitsTry, IsKeyOf, fits, key_of_subject, mapped_stack, mapped_wire, one_key, own_of, picked_keys}
use Rattle.pfr_packet.specs.Taps.{is_translated, looked_up_on}
use Rattle.pfr_packet.proofs.ShownLemmas.{shown_either}

-- ---- the keys that a packet goes through by

-- the packet's own key, and the other one of the connection
pub record GoThrough (direction : Direction) (packet : Packet) (wire stack : Key) : Type 0 where
  pub wire_protocol : wire.protocol ≡ packet.protocol
  pub stack_protocol : stack.protocol ≡ packet.protocol
  pub goes : GoesBy direction packet (own_of direction wire stack)
  pub are : AreKeys packet.transport wire stack

untranslated_goes : (direction : Direction) (packet : Packet) (key : Key) → IsKeyOf direction packet key → GoThrough direction packet key key
untranslated_goes In packet key is = record { wire_protocol = is.protocol; stack_protocol = is.protocol; goes = is.goes; are = one_key packet.transport key (fits In packet key is.goes) }
untranslated_goes Out packet key is = record { wire_protocol = is.protocol; stack_protocol = is.protocol; goes = is.goes; are = one_key packet.transport key (fits Out packet key is.goes) }

-- ---- a state that is made has them

-- the state has the packet's direction and goes through by its keys, and what is written is by the state
pub record IsKeyed (direction : Direction) (packet : Packet) (bytes : Option Change) (state : State) : Type 0 where
  pub direction_is : state.direction ≡ direction
  pub written : bytes ≡ written_by direction packet state.wire state.stack
  pub through : GoThrough direction packet state.wire state.stack

abbrev KeyedIf : Direction → Packet → Option Change → Option TableChange → Type 0
KeyedIf direction packet bytes None = ⊤
KeyedIf direction packet bytes (Some (Made state)) = IsKeyed direction packet bytes state
KeyedIf direction packet bytes (Some (Touched state)) = ⊤
KeyedIf direction packet bytes (Some (Removed number)) = ⊤

abbrev Keyed : Direction → Packet → Outcome → Type 0
Keyed direction packet outcome = KeyedIf direction packet outcome.bytes outcome.change

unchanged_keyed : (direction : Direction) (packet : Packet) (outcome : Outcome) → outcome.change ≡ None → Keyed direction packet outcome
unchanged_keyed direction packet outcome is = subst (λ (change : Option TableChange). KeyedIf direction packet outcome.bytes change) (sym is) tt

room_keyed : (direction : Direction) (packet : Packet) (table : StateTable) (state : State) (outcome : Outcome) → state.direction ≡ direction → GoThrough direction packet state.wire state.stack
    → (room : Bool) → Keyed direction packet (outcome_of table (with_room packet state outcome room))
room_keyed direction packet table state outcome is through true =
    record { direction_is = is; written = ap (λ (d : Direction). written_by d packet state.wire state.stack) is; through = through }
room_keyed direction packet table state outcome is through false = tt

keys_keyed : (direction : Direction) (packet : Packet) (table : StateTable) (state : State) (outcome : Outcome) → state.direction ≡ direction → GoThrough direction packet state.wire state.stack
    → (wire stack : Option State) → Keyed direction packet (outcome_of table (with_keys packet state outcome wire stack))
keys_keyed direction packet table state outcome is through None None = room_keyed direction packet table state outcome is through (has_room_in table)
keys_keyed direction packet table state outcome is through None (Some other) = tt
keys_keyed direction packet table state outcome is through (Some other) _ = tt

opened_keyed : (job : RunJob) (answer : FilterAnswer) (number : ℕ) (clock : Clock) (place : InterfacePlace) (table : StateTable) (packet : Packet) (direction : Direction) (visits : List ℕ) (passage : Passage)
    → GoThrough direction packet passage.wire passage.stack → (kept : Option StateRules)
    → Keyed direction packet (outcome_of table (opened job number clock place packet direction passage (judged job.rules answer direction packet passage visits) kept))
opened_keyed job answer number clock place table packet direction visits passage through None =
    unchanged_keyed direction packet (judged job.rules answer direction packet passage visits) (judged_changes_nothing job.rules answer direction packet passage visits)
opened_keyed job answer number clock place table packet direction visits passage through (Some kept) = by_verdict (lets_pass outcome.verdict)
  where
    outcome : Outcome
    outcome = judged job.rules answer direction packet passage visits

    state : State
    state = made (record { 0 = number }) packet direction place passage.wire passage.stack kept clock (timeouts_of job)

    by_verdict : (passes : Bool) → Keyed direction packet (outcome_of table (cond passes (making packet state outcome) (done outcome)))
    by_verdict true = keys_keyed direction packet table state outcome refl through (found_in table Wire state.wire state.rules.binding) (found_in table Stack state.stack state.rules.binding)
    by_verdict false = unchanged_keyed direction packet outcome (judged_changes_nothing job.rules answer direction packet passage visits)

going_keyed : (job : RunJob) (number : ℕ) (clock : Clock) (place : InterfacePlace) (table : StateTable) (packet : Packet) (direction : Direction) (visits : List ℕ) (passage : Passage)
    → GoThrough direction packet passage.wire passage.stack → Keyed direction packet (outcome_of table (going job number clock place packet direction visits passage))
going_keyed job number clock place table packet direction visits passage through =
    let answer = answer_for job.rules (name_in job place) table direction packet passage in
    going_way job number clock place table packet direction (Keyed direction packet) visits passage
    (opened_keyed job answer number clock place table packet direction visits passage through (judged_kept place job.rules answer direction packet passage))

-- ---- the passages that there are

mapped_goes : (direction : Direction) (packet : Packet) (key : Key) (hit : Hit) (address : Ipv4Address) (mapping : PortMapping) → IsKeyOf direction packet key
    → (let passage : Passage = mapped_passage direction key hit (mapped_end packet.transport key.inside address mapping) in GoThrough direction packet passage.wire passage.stack)
mapped_goes In packet key hit address mapping is = record {
  wire_protocol = is.protocol;
  stack_protocol = is.protocol;
  goes = is.goes;
  are = mapped_stack packet.transport key address mapping (fits In packet key is.goes);
}
mapped_goes Out packet key hit address mapping is = record {
  wire_protocol = is.protocol;
  stack_protocol = is.protocol;
  goes = is.goes;
  are = mapped_wire packet.transport key address mapping (fits Out packet key is.goes);
}

picked_protocol : (t : Transport) (key : Key) (address : Ipv4Address) (port : ℕ) → (wire_with t key address port).protocol ≡ key.protocol
picked_protocol transport.Fragment key address port = refl
picked_protocol (transport.Tcp header) key address port = refl
picked_protocol (transport.Udp header) key address port = refl
picked_protocol (transport.Icmp header) key address port = refl
picked_protocol transport.Other key address port = refl

picked_goes : (packet : Packet) (key : Key) (address : Ipv4Address) (port : ℕ) → IsKeyOf Out packet key → FitsTry packet.transport port
    → GoThrough Out packet (wire_with packet.transport key address port) key
picked_goes packet key address port is tried = record {
  wire_protocol = picked_protocol packet.transport key address port ∙ is.protocol;
  stack_protocol = is.protocol;
  goes = is.goes;
  are = picked_keys packet.transport key address port (fits Out packet key is.goes) tried;
}

-- ---- which ports are tried

any_port : (t : Transport) → ((port : ℕ) → FitsTry t port) → (ports : List ℕ) → All (FitsTry t) ports
any_port t fit [] = All-nil (FitsTry t)
any_port t fit (port ∷ ports) = All-cons (FitsTry t) port ports (fit port) (any_port t fit ports)

zero_tried : (keeps : Bool) (own : Port) (word : ℕ) → own ≡ record { 0 = 0 } → All (λ (port : ℕ). port ≡ 0) (tries (cond keeps (One own) (One own)) word)
zero_tried true own word is = All-cons (λ (port : ℕ). port ≡ 0) own.0 [] (ap (λ (p : Port). p.0) is) (All-nil (λ (port : ℕ). port ≡ 0))
zero_tried false own word is = All-cons (λ (port : ℕ). port ≡ 0) own.0 [] (ap (λ (p : Port). p.0) is) (All-nil (λ (port : ℕ). port ≡ 0))

tries_fit : (t : Transport) (key : Key) (target : NatAddress) (word : ℕ) → FitKey t key → All (FitsTry t) (tries (ports_for t target key.inside.port) word)
tries_fit transport.Fragment key target word fit = any_port transport.Fragment (λ port. tt) (tries (ports_for transport.Fragment target key.inside.port) word)
tries_fit (transport.Tcp header) key target word fit = any_port (transport.Tcp header) (λ port. tt) (tries (ports_for (transport.Tcp header) target key.inside.port) word)
tries_fit (transport.Udp header) key target word fit = any_port (transport.Udp header) (λ port. tt) (tries (ports_for (transport.Udp header) target key.inside.port) word)
tries_fit (transport.Icmp header) key target word fit = any_port (transport.Icmp header) (λ port. tt) (tries (ports_for (transport.Icmp header) target key.inside.port) word)
tries_fit transport.Other key target word fit = zero_tried target.static_port key.inside.port word fit.1

-- what holds by the key of each port that is tried, and by none
tried_pick : (table : StateTable) (wire : ℕ → Key) (next : Option Key → Plan) (P : Outcome → Type 0) (Tried : ℕ → Type 0)
    → ((port : ℕ) → Tried port → P (outcome_of table (next (Some (wire port))))) → P (outcome_of table (next None))
    → (ports : List ℕ) → All Tried ports → P (outcome_of table (picking wire next ports))
tried_pick table wire next P Tried some none [] all = none
tried_pick table wire next P Tried some none (port ∷ ports) all =
    tried (found_in table Wire (wire port) binding.All) (tried_pick table wire next P Tried some none ports (All-tail Tried port ports all))
  where
    tried : (found : Option State) → P (outcome_of table (picking wire next ports)) → P (outcome_of table (elim found [ None ↦ next (Some (wire port)) | Some other ↦ picking wire next ports ]))
    tried None rest = some port (All-head Tried port ports all)
    tried (Some other) rest = rest

-- ---- which rules there are

-- a port is picked for a packet that goes out
abbrev IsEndFor : Direction → NewEnd → Type 0
IsEndFor In (Mapped address mapping) = ⊤
IsEndFor In (Picked target) = ⊥
IsEndFor Out _ = ⊤

abbrev hit_to : ℕ → Bool → NewEnd → Hit
hit_to number passes new_end = record { number = record { 0 = number }; passes = passes; new_end = new_end }

abbrev IsHitFor : Direction → Option Hit → Type 0
IsHitFor direction None = ⊤
IsHitFor direction (Some hit) = IsEndFor direction hit.new_end

rdr_target : (rule : FlatTranslation RdrAddress) (target : Option RdrAddress)
    → IsHitFor In (option_map (λ (t : RdrAddress). hit_to rule.number rule.passes (Mapped t.address (mapping rule.packet.destination_port t.port))) target)
rdr_target rule None = tt
rdr_target rule (Some target) = tt

binat_target : (packet : Packet) (rule : FlatTranslation Ipv4Address) (target : Option Ipv4Address)
    → IsHitFor In (option_map (λ (t : Ipv4Address). hit_to rule.number rule.passes (binat_end packet In rule t)) target)
binat_target packet rule None = tt
binat_target packet rule (Some target) = tt

rdr_first : (found : Option (FlatTranslation RdrAddress)) → IsHitFor In (hit_of_first rdr_hit found)
rdr_first None = tt
rdr_first (Some rule) = rdr_target rule rule.target

binat_first : (packet : Packet) (found : Option (FlatTranslation Ipv4Address)) → IsHitFor In (hit_of_first (binat_hit packet In) found)
binat_first packet None = tt
binat_first packet (Some rule) = binat_target packet rule rule.target

either_hit : (first second : Option Hit) → IsHitFor In first → IsHitFor In second → IsHitFor In (hit_behind first second)
either_hit None second one other = other
either_hit (Some hit) second one other = one

any_end : (new_end : NewEnd) → IsEndFor Out new_end
any_end (Mapped address mapping) = tt
any_end (Picked target) = tt

any_hit : (hit : Option Hit) → IsHitFor Out hit
any_hit None = tt
any_hit (Some hit) = any_end hit.new_end

hit_for : (rules : Ruleset) (name : IfName) (packet : Packet) (direction : Direction) → IsHitFor direction (hit_of rules name packet direction)
unfolding hit_of
hit_for rules name packet In = either_hit (binat_of rules name packet In) (other_hit rules name packet In)
    (binat_first packet (find (binats.holds rules name packet In) rules.translations.binats))
    (rdr_first (find (rdrs.holds rules name packet In) rules.translations.rdrs))
hit_for rules name packet Out = any_hit (hit_of rules name packet Out)

-- ---- up to the passage

end_keyed : (job : RunJob) (number : ℕ) (clock : Clock) (place : InterfacePlace) (table : StateTable) (packet : Packet) (direction : Direction) (visits : List ℕ) (key : Key) → IsKeyOf direction packet key → (hit : Hit) (new_end : NewEnd)
    → IsEndFor direction new_end → Keyed direction packet (outcome_of table (by_end job number clock place packet direction visits key hit new_end))
end_keyed job number clock place table packet direction visits key is hit (Mapped address mapping) suits =
    going_keyed job number clock place table packet direction visits (mapped_passage direction key hit (mapped_end packet.transport key.inside address mapping)) (mapped_goes direction packet key hit address mapping is)
end_keyed job number clock place table packet In visits key is hit (Picked target) suits = absurd suits
end_keyed job number clock place table packet Out visits key is hit (Picked target) suits =
    tried_pick table (wire_with packet.transport key target.address) (by_pick job number clock place packet Out visits key hit) (Keyed Out packet) (FitsTry packet.transport)
    (λ port tried. going_keyed job number clock place table packet Out visits (picked_passage key hit (wire_with packet.transport key target.address port)) (picked_goes packet key target.address port is tried))
    tt
    (tries (ports_for packet.transport target key.inside.port) (word_of job.seed number))
    (tries_fit packet.transport key target (word_of job.seed number) (fits Out packet key is.goes))

hit_keyed : (job : RunJob) (number : ℕ) (clock : Clock) (place : InterfacePlace) (table : StateTable) (packet : Packet) (direction : Direction) (visits : List ℕ) (key : Key) → IsKeyOf direction packet key → (hit : Option Hit)
    → IsHitFor direction hit → Keyed direction packet (outcome_of table (by_hit job number clock place packet direction visits key hit))
hit_keyed job number clock place table packet direction visits key is None suits = going_keyed job number clock place table packet direction visits (untranslated key) (untranslated_goes direction packet key is)
hit_keyed job number clock place table packet direction visits key is (Some hit) suits = end_keyed job number clock place table packet direction visits key is hit hit.new_end suits

opening_keyed : (job : RunJob) (number : ℕ) (clock : Clock) (place : InterfacePlace) (table : StateTable) (packet : Packet) (direction : Direction) (key : Key) → IsKeyOf direction packet key
    → Keyed direction packet (outcome_of table (opening job number clock place packet direction key))
opening_keyed job number clock place table packet direction key is =
    hit_keyed job number clock place table packet direction (translations_asked job place packet direction) key is (translation_hit job place packet direction) (asked_for (is_translated job.tap direction))
  where
    asked_for : (test : Bool) → IsHitFor direction (cond test None (hit_of job.rules (name_in job place) packet direction))
    asked_for true = tt
    asked_for false = hit_for job.rules (name_in job place) packet direction

-- ---- along the plan

filtered_keyed : (rules : Ruleset) (answer : FilterAnswer) (packet : Packet) (direction : Direction) → Keyed direction packet (filtered rules answer packet direction)
filtered_keyed rules answer packet direction = filtered_way rules answer packet direction (Keyed direction packet) (λ free. tt) tt

passed_keyed : (direction : Direction) (packet : Packet) (state : State) (why : Reason) (change : Option TableChange) → ((bytes : Option Change) → KeyedIf direction packet bytes change)
    → Keyed direction packet (passed direction packet state why change)
passed_keyed direction packet state why change keyed =
    let outcome : Outcome = record (by_state direction state verdict.Pass why) { bytes = written_by direction packet state.wire state.stack; change = change } in
    either_blocked (Keyed direction packet) (lacks_leave outcome packet state.rules.allows_options) reason.IpOption outcome (λ free. keyed outcome.bytes) tt

tracked_keyed : (direction : Direction) (packet : Packet) (state : State) (t : Touch) → Keyed direction packet (tracked direction packet state t)
tracked_keyed direction packet state (touch.Touched next) = passed_keyed direction packet state reason.State (Some (Touched next)) (λ bytes. tt)
tracked_keyed direction packet state touch.Mismatch = tt
tracked_keyed direction packet state touch.Removed = tt

-- the same with nothing written
unwritten_keyed : (direction : Direction) (packet : Packet) (state : State) (why : Reason) (change : Option TableChange) → KeyedIf direction packet None change
    → Keyed direction packet (record (passed direction packet state why change) { bytes = None })
unwritten_keyed direction packet state why change keyed =
    let outcome : Outcome = record (by_state direction state verdict.Pass why) { bytes = written_by direction packet state.wire state.stack; change = change } in
    either_blocked (λ o. Keyed direction packet (record o { bytes = None })) (lacks_leave outcome packet state.rules.allows_options) reason.IpOption outcome (λ free. keyed) tt

unwritten_tracked : (direction : Direction) (packet : Packet) (state : State) (t : Touch) → Keyed direction packet (record (tracked direction packet state t) { bytes = None })
unwritten_tracked direction packet state (touch.Touched next) = unwritten_keyed direction packet state reason.State (Some (Touched next)) tt
unwritten_tracked direction packet state touch.Mismatch = tt
unwritten_tracked direction packet state touch.Removed = tt

by_embedded_keyed : (job : RunJob) (place : InterfacePlace) (table : StateTable) (packet : Packet) (direction : Direction) (found : Option State) → Keyed direction packet (outcome_of table (by_embedded job place packet direction found))
by_embedded_keyed job place table packet direction None = filtered_keyed job.rules (filter_answer job.rules (name_in job place) table packet direction) packet direction
by_embedded_keyed job place table packet direction (Some state) =
    shown_either (Keyed direction packet) job.tap direction _ (passed_keyed direction packet state reason.StateError None (λ bytes. tt)) (unwritten_keyed direction packet state reason.StateError None tt)

by_connection_keyed : (job : RunJob) (number : ℕ) (clock : Clock) (place : InterfacePlace) (table : StateTable) (packet : Packet) (direction : Direction) (key : Key) → IsKeyOf direction packet key
    → (found : Option State) → Keyed direction packet (outcome_of table (by_connection job number clock place packet direction key found))
by_connection_keyed job number clock place table packet direction key is None = opening_keyed job number clock place table packet direction key is
by_connection_keyed job number clock place table packet direction key is (Some state) =
    (let t = touched state packet direction clock (timeouts_of job) in shown_either (Keyed direction packet) job.tap direction _ (tracked_keyed direction packet state t) (unwritten_tracked direction packet state t))

subject_keyed : (job : RunJob) (number : ℕ) (clock : Clock) (place : InterfacePlace) (table : StateTable) (packet : Packet) (direction : Direction) (subject : Subject) → subject_of direction packet ≡ subject
    → Keyed direction packet (outcome_of table (subject_plan job number clock place packet direction subject))
subject_keyed job number clock place table packet direction Alone is = filtered_keyed job.rules (filter_answer job.rules (name_in job place) table packet direction) packet direction
subject_keyed job number clock place table packet direction (Embedded key) is = by_embedded_keyed job place table packet direction (found_in table (looked_up_on job.tap direction) key (binding.To place))
subject_keyed job number clock place table packet direction (Connection key) is =
    by_connection_keyed job number clock place table packet direction key (key_of_subject direction packet key is) (found_in table (looked_up_on job.tap direction) key (binding.To place))

packet_keyed : (job : RunJob) (number : ℕ) (clock : Clock) (place : InterfacePlace) (table : StateTable) (packet : Packet) (direction : Direction) → Keyed direction packet (outcome_of table (packet_plan job number clock place packet direction))
unfolding packet_plan
packet_keyed job number clock place table packet direction = subject_keyed job number clock place table packet direction (subject_of direction packet) refl

skipped_keyed : (direction : Direction) (packet : Packet) (table : StateTable) (skipped : Bool) (other : Plan) → Keyed direction packet (outcome_of table other)
    → Keyed direction packet (outcome_of table (cond skipped (done passed_over) other))
skipped_keyed direction packet table true other keyed = tt
skipped_keyed direction packet table false other keyed = keyed

plan_keyed : (job : RunJob) (number : ℕ) (clock : Clock) (place : InterfacePlace) (table : StateTable) (packet : Packet) → Keyed (direction_of job place packet) packet (outcome_of table (plan job number clock place (Ipv4 packet)))
unfolding plan
plan_keyed job number clock place table packet =
    let direction = direction_of job place packet in
    skipped_keyed direction packet table (is_skipped job place) (packet_plan job number clock place packet direction) (packet_keyed job number clock place table packet direction)

made_keyed : (direction : Direction) (packet : Packet) (bytes : Option Change) (state : State) (change : Option TableChange) → change ≡ Some (Made state) → KeyedIf direction packet bytes change
    → IsKeyed direction packet bytes state
made_keyed direction packet bytes state change is keyed = subst (λ (c : Option TableChange). KeyedIf direction packet bytes c) is keyed

-- the state that a packet makes
pub keyed_of : (job : RunJob) (number : ℕ) (clock : Clock) (place : InterfacePlace) (packet : Packet) (table : StateTable) (state : State) → (step_of job number clock place (Ipv4 packet) table).change ≡ Some (Made state)
    → IsKeyed (direction_of job place packet) packet (step_of job number clock place (Ipv4 packet) table).bytes state
unfolding step_of
keyed_of job number clock place packet table state is =
    made_keyed (direction_of job place packet) packet (step_of job number clock place (Ipv4 packet) table).bytes state (step_of job number clock place (Ipv4 packet) table).change is (plan_keyed job number clock place (purged_at clock table) packet)
