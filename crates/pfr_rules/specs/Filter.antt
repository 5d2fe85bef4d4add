-- Which rule decides, and which rules are visited on the way (pf.conf(5), "Packet filtering", "Anchors").
--
-- All is said by the places of rules in a flat list. A rule hits if all that it writes holds for the packet, and all
-- that the anchors round it write. A rule with `max` must also have room, for a packet that may make a state: it must
-- have fewer states than it says. A stop is the place of a quick rule that hits, or the place of the last rule of a
-- quick anchor in which a rule hits. The rules up to the first stop are reached, or all rules if there is no stop.
use Rattle.std.specs.Prelude.{ℕ, zero, suc, ◌+◌, ◌==◌, ◌&&◌, ◌||◌, Bool, true, false, not, nat_le, if◌then◌else◌, List, [], ◌∷◌, length, Option, Some, None}
use Rattle.std.specs.List.{slice_get, list_any, list_all, filter, flat_map}
use Rattle.pfr_net.specs.declared.direction.Direction.{Direction}
use Rattle.pfr_net.specs.declared.interface.IfName.{IfName}
use Rattle.pfr_ruleset.specs.declared.flat.FilterAction.{FilterAction}
use Rattle.pfr_ruleset.specs.declared.flat.FilterAction.TheVariants as action
use Rattle.pfr_ruleset.specs.declared.flat.FlatRule.{FlatRule}
use Rattle.pfr_ruleset.specs.declared.flat.FlatAnchor.{FlatAnchor}
use Rattle.pfr_ruleset.specs.declared.flat.StateRule.{StateRule}
use Rattle.pfr_ruleset.specs.declared.filter_rules.RuleLists.{RuleLists}
use Rattle.pfr_ruleset.specs.declared.ruleset.Ruleset.{Ruleset}
use Rattle.pfr_headers.specs.declared.packet.Packet.{Packet}
use Rattle.pfr_criteria.specs.Packets.{rule_holds, anchor_holds}
use Rattle.pfr_criteria.specs.Transports.{opens_connection}
use Rattle.pfr_states.specs.declared.question.Question.{Question}
use Rattle.pfr_states.specs.declared.question.Question.TheVariants.{RuleRoom}
use Rattle.pfr_states.specs.Answers.{has_rule_room_in}
use Rattle.pfr_states.specs.States.{StateTable}
use Rattle.pfr_rules.specs.declared.decision.Decision.{Decision}
use Rattle.pfr_rules.specs.Numbers.{numbers_below}

-- ---- places

-- the last place below a bound at which a test holds
abbrev pub last_below : (ℕ → Bool) → ℕ → Option ℕ
last_below p zero = None
last_below p (suc n) = if p n then Some n else last_below p n

abbrev pub or_place : Option ℕ → Option ℕ → Option ℕ
or_place (Some place) later = Some place
or_place None later = later

-- the first such place
abbrev pub first_below : (ℕ → Bool) → ℕ → Option ℕ
first_below p zero = None
first_below p (suc n) = or_place (first_below p n) (if p n then Some n else None)

abbrev pub some_below : (ℕ → Bool) → ℕ → Bool
some_below p zero = false
some_below p (suc n) = some_below p n || p n

-- ---- hits

-- whether an anchor stands round the rule at a place
abbrev pub is_round : FlatAnchor → ℕ → Bool
is_round anchor place = nat_le anchor.first place && nat_le place anchor.last

-- all anchors round a place hold
abbrev pub is_inside : (FlatAnchor → Bool) → List FlatAnchor → ℕ → Bool
is_inside anchored anchors place = list_all (λ a. not (is_round a place) || anchored a) anchors

abbrev pub passes : {R : Type 0} → (R → Bool) → Option R → Bool
passes test None = false
passes test (Some rule) = test rule

-- the rule at a place matches, and all anchors round it hold
abbrev pub hits : (FlatAnchor → Bool) → (ℕ → FlatRule → Bool) → RuleLists → ℕ → Bool
hits anchored matched lists place = is_inside anchored lists.anchors place && passes (matched place) (slice_get lists.rules place)

-- ---- stops

abbrev pub is_quick : FlatRule → Bool
is_quick rule = rule.is_quick

-- whether a test holds at one of an anchor's places
abbrev pub some_in : (ℕ → Bool) → FlatAnchor → Bool
some_in p anchor = some_below (λ place. nat_le anchor.first place && p place) (anchor.last + 1)

-- a quick anchor ends at this place, and a rule in it hits
abbrev pub ends : (ℕ → Bool) → ℕ → FlatAnchor → Bool
ends hit place anchor = anchor.is_quick && (anchor.last == place && some_in hit anchor)

abbrev pub is_stop : (ℕ → Bool) → RuleLists → ℕ → Bool
is_stop hit lists place = (passes is_quick (slice_get lists.rules place) && hit place) || list_any (ends hit place) lists.anchors

-- an anchor that begins at a place or before it
abbrev pub begun : Option FlatAnchor → ℕ → Option FlatAnchor
begun None place = None
begun (Some anchor) place = if nat_le anchor.first place then Some anchor else None

-- whether a walk ends at a place, by its opening and the last hit
abbrev pub stops_by : ℕ → Option ℕ → Bool
stops_by opening None = false
stops_by opening (Some place) = nat_le opening place

-- the number of rules that are reached
abbrev pub up_to : Option ℕ → ℕ → ℕ
up_to None all = all
up_to (Some stop) all = stop + 1

abbrev pub reach_by : (ℕ → Bool) → RuleLists → ℕ
reach_by hit lists = up_to (first_below (is_stop hit lists) (length lists.rules)) (length lists.rules)

-- ---- room

-- whether the rule with a number has room for one more state, if the second number is its limit
abbrev pub Rooms : Type 0
Rooms = ℕ → ℕ → Bool

-- the rooms of a table's states
abbrev pub rooms_in : StateTable → Rooms
rooms_in table = λ rule most. has_rule_room_in table rule most

abbrev pub most_of : Option StateRule → Option ℕ
most_of None = None
most_of (Some state) = state.most

-- the limit of a rule's states, if it has one and the packet may make a state
abbrev pub limit_for : FlatRule → Packet → Option ℕ
limit_for rule packet = if opens_connection packet.transport then most_of rule.state else None

abbrev pub has_room_by : Rooms → ℕ → Option ℕ → Bool
has_room_by rooms number None = true
has_room_by rooms number (Some most) = rooms number most

abbrev pub room_question : ℕ → Option ℕ → List Question
room_question number None = []
room_question number (Some most) = RuleRoom (record { 0 = number }) most ∷ []

-- ---- a packet on the interface of a name

abbrev pub anchored : Ruleset → IfName → Packet → Direction → FlatAnchor → Bool
anchored flat name packet direction anchor = anchor_holds anchor name flat.tables packet direction

abbrev pub ruled : Ruleset → IfName → Packet → Direction → FlatRule → Bool
ruled flat name packet direction rule = rule_holds rule name flat.tables packet direction

-- all that the rule with a number writes holds, and the rule has room
abbrev pub matched : Ruleset → Rooms → IfName → Packet → Direction → ℕ → FlatRule → Bool
matched flat rooms name packet direction number rule = ruled flat name packet direction rule && has_room_by rooms number (limit_for rule packet)

abbrev pub hit : Ruleset → Rooms → IfName → Packet → Direction → ℕ → Bool
hit flat rooms name packet direction = hits (anchored flat name packet direction) (matched flat rooms name packet direction) flat.filter

unfoldable pub reach : Ruleset → Rooms → IfName → Packet → Direction → ℕ
reach flat rooms name packet direction = reach_by (hit flat rooms name packet direction) flat.filter

-- the place of the rule that decides: the last one that hits, of the rules that are reached
unfoldable pub deciding : Ruleset → Rooms → IfName → Packet → Direction → Option ℕ
deciding flat rooms name packet direction = last_below (hit flat rooms name packet direction) (reach flat rooms name packet direction)

-- what it decides; a packet that no rule hits passes
abbrev pub action_of : Option FlatRule → FilterAction
action_of None = action.Pass
action_of (Some rule) = rule.action

abbrev pub decision_by : List FlatRule → Option ℕ → Decision
decision_by rules None = record { rule = None; action = action.Pass }
decision_by rules (Some place) = record { rule = Some (record { 0 = place }); action = action_of (slice_get rules place) }

abbrev pub decision_of : Ruleset → Rooms → IfName → Packet → Direction → Decision
decision_of flat rooms name packet direction = decision_by flat.filter.rules (deciding flat rooms name packet direction)

-- the numbers of the rules that are visited: the rules that are reached and whose anchors all hold
unfoldable pub visited : Ruleset → Rooms → IfName → Packet → Direction → List ℕ
visited flat rooms name packet direction = filter (is_inside (anchored flat name packet direction) flat.filter.anchors) (numbers_below (reach flat rooms name packet direction))

-- ---- what is asked

-- a visited rule is asked whether it has room, if all that it writes holds and it has a limit of states
abbrev pub asked_of : Ruleset → IfName → Packet → Direction → ℕ → Option FlatRule → List Question
asked_of flat name packet direction number None = []
asked_of flat name packet direction number (Some rule) = if ruled flat name packet direction rule then room_question number (limit_for rule packet) else []

abbrev pub asked_at : Ruleset → IfName → Packet → Direction → ℕ → List Question
asked_at flat name packet direction place = asked_of flat name packet direction place (slice_get flat.filter.rules place)

-- the questions for all rules that are visited
abbrev pub rooms_asked : Ruleset → Rooms → IfName → Packet → Direction → List Question
rooms_asked flat rooms name packet direction = flat_map (asked_at flat name packet direction) (visited flat rooms name packet direction)
