-- A rule that doesn't allow a packet's way hits nowhere there. Two rules of one place of which neither hits may stand
-- for each other.
use Rattle.std.proofs.Common.{◌≡◌, ◌≢◌, ◌∙◌, ◌&&◌, ◌||◌, inl, inr, ℕ, Bool, true, false, not, List, [], ◌∷◌, length, Option, Some, None, sym, refl, ap}
use Rattle.std.specs.List.{slice_get}
use Rattle.std.proofs.lemmas.Bool.{and_from, and_parts, cases_eq}
use Rattle.pfr_net.specs.declared.direction.Direction.{Direction}
use Rattle.pfr_net.specs.declared.interface.IfName.{IfName}
use Rattle.pfr_ruleset.specs.declared.flat.FlatAnchor.{FlatAnchor}
use Rattle.pfr_ruleset.specs.declared.flat.FlatRule.{FlatRule}
use Rattle.pfr_ruleset.specs.declared.flat.PacketMatch.{PacketMatch}
use Rattle.pfr_ruleset.specs.declared.ruleset.Ruleset.{Ruleset}
use Rattle.pfr_ruleset.specs.declared.table.Entry.{Entry}
use Rattle.pfr_headers.specs.declared.packet.Packet.{Packet}
use Rattle.pfr_criteria.specs.Packets.{anchor_holds, direction_holds, interface_holds, match_holds, protocol_holds, rule_holds}
use Rattle.pfr_criteria.specs.Transports.{flags_hold}
use Rattle.pfr_rules.specs.Filter.{Rooms, anchored, deciding, decision_by, has_room_by, hit, is_inside, is_quick, is_round, is_stop, limit_for, passes, reach, reach_by, rooms_in, ruled, visited}
use Rattle.pfr_rules.specs.Laws.{GoesTheSameWay, IsSameBut}
use Rattle.pfr_rules.proofs.Agreeing.{AgreeBelow, AreSameWalks, and_right, first_kept, inside_same, own_same, same_walks, stop_same}
use Rattle.pfr_rules.proofs.Places.{last_within}
use Rattle.pfr_states.specs.States.{StateTable}
use Rattle.pfr_packet.specs.Plan.{filter_answer}
use Rattle.pfr_asked.specs.Asking.{allowed, anchor_allows, rule_allows}

-- ---- what holds allows the packet's way

asked_on : (asked : PacketMatch) (name : IfName) (tables : List (List Entry)) (packet : Packet) → match_holds asked name tables packet ≡ true → interface_holds asked.interface name ≡ true
unfolding match_holds
asked_on asked name tables packet holds =
    let protocol = and_parts (protocol_holds asked.protocol packet.protocol.0) _ holds in
    let interface = and_parts (interface_holds asked.interface name) _ protocol.1 in
    interface.0

rule_lets : (flat : Ruleset) (name : IfName) (packet : Packet) (direction : Direction) (rule : FlatRule) → ruled flat name packet direction rule ≡ true → rule_allows name direction rule ≡ true
unfolding rule_holds
rule_lets flat name packet direction rule holds =
    let parts = and_parts (direction_holds rule.direction direction) _ holds in
    let rest = and_parts (flags_hold rule.flags packet.transport) _ parts.1 in
    and_from (direction_holds rule.direction direction) (interface_holds rule.packet.interface name) parts.0 (asked_on rule.packet name flat.tables packet rest.1)

anchor_lets : (flat : Ruleset) (name : IfName) (packet : Packet) (direction : Direction) (anchor : FlatAnchor) → anchored flat name packet direction anchor ≡ true → anchor_allows name direction anchor ≡ true
unfolding anchor_holds
anchor_lets flat name packet direction anchor holds =
    let parts = and_parts (direction_holds anchor.direction direction) _ holds in
    and_from (direction_holds anchor.direction direction) (interface_holds anchor.packet.interface name) parts.0 (asked_on anchor.packet name flat.tables packet parts.1)

or_lets : (b c d : Bool) → (c ≡ true → d ≡ true) → (b || c) ≡ true → (b || d) ≡ true
or_lets true c d lets holds = refl
or_lets false c d lets holds = lets holds

inside_lets : (anchored_by other : FlatAnchor → Bool) (anchors : List FlatAnchor) (place : ℕ) → ((a : FlatAnchor) → anchored_by a ≡ true → other a ≡ true) → is_inside anchored_by anchors place ≡ true → is_inside other anchors place ≡ true
inside_lets anchored_by other [] place lets holds = refl
inside_lets anchored_by other (a ∷ anchors) place lets holds =
    let parts = and_parts (not (is_round a place) || anchored_by a) (is_inside anchored_by anchors place) holds in
    and_from (not (is_round a place) || other a) (is_inside other anchors place) (or_lets (not (is_round a place)) (anchored_by a) (other a) (lets a) parts.0) (inside_lets anchored_by other anchors place lets parts.1)

passes_lets : (test other : FlatRule → Bool) (found : Option FlatRule) → ((r : FlatRule) → test r ≡ true → other r ≡ true) → passes test found ≡ true → passes other found ≡ true
passes_lets test other None lets holds = holds
passes_lets test other (Some rule) lets holds = lets rule holds

pub hit_lets : (flat : Ruleset) (rooms : Rooms) (name : IfName) (packet : Packet) (direction : Direction) (place : ℕ) → hit flat rooms name packet direction place ≡ true → allowed flat.filter place name direction ≡ true
hit_lets flat rooms name packet direction place holds =
    let matches : FlatRule → Bool = λ r. ruled flat name packet direction r && has_room_by rooms place (limit_for r packet) in
    let parts = and_parts (is_inside (anchored flat name packet direction) flat.filter.anchors place) (passes matches (slice_get flat.filter.rules place)) holds in
    and_from (is_inside (anchor_allows name direction) flat.filter.anchors place) (passes (rule_allows name direction) (slice_get flat.filter.rules place))
    (inside_lets (anchored flat name packet direction) (anchor_allows name direction) flat.filter.anchors place (anchor_lets flat name packet direction) parts.0)
    (passes_lets matches (rule_allows name direction) (slice_get flat.filter.rules place) (λ r both. rule_lets flat name packet direction r (and_parts (ruled flat name packet direction r) (has_room_by rooms place (limit_for r packet)) both).0) parts.1)

misses_by : (b c : Bool) → (b ≡ true → c ≡ true) → c ≡ false → b ≡ false
misses_by true c lets shut = (let is = lets refl in absurd (cc (is, shut)))
misses_by false c lets shut = refl

pub shut_misses : (flat : Ruleset) (rooms : Rooms) (name : IfName) (packet : Packet) (direction : Direction) (place : ℕ) → allowed flat.filter place name direction ≡ false → hit flat rooms name packet direction place ≡ false
shut_misses flat rooms name packet direction place shut =
    misses_by (hit flat rooms name packet direction place) (allowed flat.filter place name direction) (hit_lets flat rooms name packet direction place) shut

-- ---- two rules of which neither hits

neither : (a b c d : Bool) → b ≡ false → d ≡ false → (a && b) ≡ (c && d)
neither a b c d first second = and_right a b first ∙ sym (and_right c d second)

module _ (flat other : Ruleset) (rooms : Rooms) (name : IfName) (packet : Packet) (direction : Direction) (place : ℕ) (s : IsSameBut place flat other)
    (misses : hit flat rooms name packet direction place ≡ false) (fails : hit other rooms name packet direction place ≡ false) where
  abbrev here : ℕ → Bool
  here = hit flat rooms name packet direction

  abbrev there : ℕ → Bool
  there = hit other rooms name packet direction

  abbrev inside_here : ℕ → Bool
  inside_here = is_inside (anchored flat name packet direction) flat.filter.anchors

  abbrev inside_there : ℕ → Bool
  inside_there = is_inside (anchored other name packet direction) other.filter.anchors

  abbrev reached : ℕ
  reached = reach_by here flat.filter

  inside_kept : (k : ℕ) → inside_there k ≡ inside_here k
  inside_kept k =
      inside_same (anchored flat name packet direction) (anchored other name packet direction) other.filter.anchors k (λ a. rw s.tables_are refl)
      ∙ rw s.anchors_are refl

  hit_elsewhere : (k : ℕ) → k ≢ place → there k ≡ here k
  hit_elsewhere k differs =
      let inside = inside_kept k in
      let rules = s.rules_are k differs in
      rw (inside, rules, s.tables_are) refl

  hit_kept : (k : ℕ) → there k ≡ here k
  hit_kept k = elim (cases_eq k place) [
    | inl same ↦ rw same (fails ∙ sym misses)
    | inr differs ↦ hit_elsewhere k differs
  ]

  own_kept : (k : ℕ) → (passes is_quick (slice_get other.filter.rules k) && there k) ≡ (passes is_quick (slice_get flat.filter.rules k) && here k)
  own_kept k = elim (cases_eq k place) [
    | inl same ↦ rw same (neither (passes is_quick (slice_get other.filter.rules place)) (there place) (passes is_quick (slice_get flat.filter.rules place)) (here place) fails misses)
    | inr differs ↦ own_same (slice_get flat.filter.rules k) (slice_get other.filter.rules k) (here k) (there k) (s.rules_are k differs) (hit_kept k)
  ]

  stops_kept : AgreeBelow reached (is_stop here flat.filter) (is_stop there other.filter)
  stops_kept k below = stop_same here there flat.filter.rules other.filter.rules flat.filter.anchors other.filter.anchors k (λ j within. hit_kept j) (own_kept k) (rw s.anchors_are refl)

  reached_kept : reach_by there other.filter ≡ reached
  reached_kept =
      let first = first_kept (is_stop here flat.filter) (is_stop there other.filter) (length flat.filter.rules) stops_kept in
      rw (s.number_is, first) refl

  walks : AreSameWalks here there inside_here inside_there reached (reach_by there other.filter)
  walks = same_walks here there inside_here inside_there reached (reach_by there other.filter) reached_kept (λ k below. hit_kept k) (λ k below. inside_kept k)

  pub goes_alike : GoesTheSameWay flat other rooms name packet direction
  unfolding deciding reach visited
  goes_alike = record { decides = walks.0; visits = walks.1 }

-- ---- what the filter answers

pub decider_hits : (flat : Ruleset) (rooms : Rooms) (name : IfName) (packet : Packet) (direction : Direction) (place : ℕ) → deciding flat rooms name packet direction ≡ Some place → hit flat rooms name packet direction place ≡ true
unfolding deciding
decider_hits flat rooms name packet direction place is = (last_within (hit flat rooms name packet direction) (reach flat rooms name packet direction) place is).1

decision_same : (flat other : Ruleset) (place : ℕ) → IsSameBut place flat other → (found : Option ℕ) → found ≢ Some place → decision_by other.filter.rules found ≡ decision_by flat.filter.rules found
decision_same flat other place s None apart = refl
decision_same flat other place s (Some k) apart = (let same = s.rules_are k (λ is. apart (ap (λ (n : ℕ). Some n) is)) in rw same refl)

-- neither of two rules of a place allows a packet's way
pub record AreShut (flat other : Ruleset) (place : ℕ) (name : IfName) (direction : Direction) : Type 0 where
  pub here : allowed flat.filter place name direction ≡ false
  pub there : allowed other.filter place name direction ≡ false

pub decides_elsewhere : (flat other : Ruleset) (place : ℕ) (name : IfName) (rooms : Rooms) (packet : Packet) (direction : Direction) → AreShut flat other place name direction → deciding flat rooms name packet direction ≢ Some place
decides_elsewhere flat other place name rooms packet direction shut is =
    let hits = decider_hits flat rooms name packet direction place is in
    let misses = shut_misses flat rooms name packet direction place shut.here in
    absurd (cc (hits, misses))

pub answer_same : (flat other : Ruleset) (place : ℕ) → IsSameBut place flat other → (name : IfName) (table : StateTable) (packet : Packet) (direction : Direction) → AreShut flat other place name direction
    → filter_answer other name table packet direction ≡ filter_answer flat name table packet direction
answer_same flat other place s name table packet direction shut =
    let way = goes_alike flat other (rooms_in table) name packet direction place s (shut_misses flat (rooms_in table) name packet direction place shut.here) (shut_misses other (rooms_in table) name packet direction place shut.there) in
    let decision = decision_same flat other place s (deciding flat (rooms_in table) name packet direction) (decides_elsewhere flat other place name (rooms_in table) packet direction shut) in
    rw (way.decides, way.visits, decision) refl
