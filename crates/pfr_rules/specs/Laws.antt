-- Words of the laws: rulesets that are the same up to a place, or except for one rule or one anchor; packets that go
-- the same way, and rules that they pass by.
use Rattle.std.specs.Prelude.{◌≡◌, ◌≢◌, ◌≤◌, ◌+◌, ◌-◌, ◌==◌, ℕ, min, Bool, true, false, nat_le, List, ◌∷◌, ◌++◌, length, map, IsSomeAnd, Some, true}
use Rattle.std.specs.List.{All, Contains, count_by, slice_get, filter}
use Rattle.pfr_net.specs.declared.address.Ipv4Address.{Ipv4Address}
use Rattle.pfr_net.specs.declared.direction.Direction.{Direction}
use Rattle.pfr_net.specs.declared.direction.Direction.TheVariants.{In, Out}
use Rattle.pfr_net.specs.declared.interface.IfName.{IfName}
use Rattle.pfr_ruleset.specs.declared.flat.FlatAnchor.{FlatAnchor}
use Rattle.pfr_ruleset.specs.declared.ruleset.Ruleset.{Ruleset}
use Rattle.pfr_ruleset.specs.declared.flat.FlatRule.{FlatRule}
use Rattle.pfr_ruleset.specs.declared.flat.FlatTranslation.{FlatTranslation}
use Rattle.pfr_ruleset.specs.declared.flat.PortChange.TheVariants.{From}
use Rattle.pfr_net.specs.declared.port_match.Comparison.TheVariants.{Equal}
use Rattle.pfr_net.specs.declared.port_match.PortMatch.TheVariants.{Compare, Range}
use Rattle.pfr_net.specs.declared.port_match.RangeOperator.TheVariants.{Inclusive}
use Rattle.pfr_ruleset.specs.Translations.{HaveOwnNumbers}
use Rattle.pfr_headers.specs.declared.packet.Packet.{Packet}
use Rattle.pfr_criteria.specs.Laws.{IsBinat}
use Rattle.pfr_criteria.specs.Packets.{anchor_holds}
use Rattle.pfr_rules.specs.declared.hit.NewEnd.TheVariants.{Mapped}
use Rattle.pfr_rules.specs.declared.hit.PortMapping.TheVariants.{Kept}
use Rattle.pfr_states.specs.declared.question.Question.{Question}
use Rattle.pfr_states.specs.declared.question.Question.TheVariants.{RuleRoom}
use Rattle.pfr_rules.specs.Filter.{Rooms, hit, deciding, limit_for, passes, rooms_asked, ruled, visited}
use Rattle.pfr_rules.specs.Translating.{binat_hit, mapped, mapping, translations_visited}

-- ---- rulesets that are the same up to a place

-- an anchor begins at a place or before it
abbrev pub begins_by : ℕ → FlatAnchor → Bool
begins_by place anchor = nat_le anchor.first place

-- an anchor without its rules behind a place
abbrev pub cut_at : ℕ → FlatAnchor → FlatAnchor
cut_at place anchor = record anchor { last = min anchor.last place }

-- what anchors have up to a place
abbrev pub anchors_up_to : ℕ → List FlatAnchor → List FlatAnchor
anchors_up_to place anchors = map (cut_at place) (filter (begins_by place) anchors)

-- what stands behind a place may differ, and nothing else that a filter asks for
pub record IsSameUpTo (place : ℕ) (flat other : Ruleset) : Type 0 where
  -- all tables are the same
  pub tables_are : other.tables ≡ flat.tables
  -- the rules up to the place
  pub rules_are : (at : ℕ) → at ≤ place → slice_get other.filter.rules at ≡ slice_get flat.filter.rules at
  -- the anchors that begin up to the place, and which rules up to it stand in them
  pub anchors_are : anchors_up_to place other.filter.anchors ≡ anchors_up_to place flat.filter.anchors

-- ---- rulesets that are the same except for one rule

-- the rule at a place may differ, and nothing else that a filter asks for
pub record IsSameBut (place : ℕ) (flat other : Ruleset) : Type 0 where
  -- all tables are the same
  pub tables_are : other.tables ≡ flat.tables
  -- all anchors
  pub anchors_are : other.filter.anchors ≡ flat.filter.anchors
  -- how many rules there are
  pub number_is : length other.filter.rules ≡ length flat.filter.rules
  -- the rules at all other places
  pub rules_are : (at : ℕ) → at ≢ place → slice_get other.filter.rules at ≡ slice_get flat.filter.rules at

-- ---- rulesets that are the same except for one anchor

-- the same anchor, quick or not
abbrev pub quick_or_not : Bool → FlatAnchor → FlatAnchor
quick_or_not quick anchor = record anchor { is_quick = quick }

-- the same anchor, asking for what another one asks for
abbrev pub asking_like : FlatAnchor → FlatAnchor → FlatAnchor
asking_like asked anchor = record anchor { direction = asked.direction; packet = asked.packet }

-- one anchor is replaced by another, and nothing else that a filter asks for may differ
pub record IsSameButAnchor (anchor changed : FlatAnchor) (flat other : Ruleset) : Type 0 where
  -- all tables are the same
  pub tables_are : other.tables ≡ flat.tables
  -- all rules
  pub rules_are : other.filter.rules ≡ flat.filter.rules
  -- the anchors before the one, and those behind it
  pub before : List FlatAnchor
  pub behind : List FlatAnchor
  -- the one stands between them, or the other
  pub anchors_are : flat.filter.anchors ≡ before ++ anchor ∷ behind
  pub others_are : other.filter.anchors ≡ before ++ changed ∷ behind

-- ---- packets

-- no rule in an anchor hits
abbrev pub NoneHits : FlatAnchor → Ruleset → Rooms → IfName → Packet → Direction → Type 0
NoneHits anchor flat rooms name packet direction = (place : ℕ) → anchor.first ≤ place → place ≤ anchor.last → hit flat rooms name packet direction place ≡ false

-- the rule at a place doesn't decide on a packet, and isn't visited
pub record PassesBy (flat : Ruleset) (rooms : Rooms) (name : IfName) (packet : Packet) (direction : Direction) (place : ℕ) : Type 0 where
  pub decides : deciding flat rooms name packet direction ≢ Some place
  pub visits : Contains (visited flat rooms name packet direction) place → ⊥

-- the same rule decides on a packet, and the same rules are visited
pub record GoesTheSameWay (flat other : Ruleset) (rooms : Rooms) (name : IfName) (packet : Packet) (direction : Direction) : Type 0 where
  pub decides : deciding other rooms name packet direction ≡ deciding flat rooms name packet direction
  pub visits : visited other rooms name packet direction ≡ visited flat rooms name packet direction

-- ---- rooms

-- two rooms give the same answer to a question; questions other than about a rule's room don't concern them
abbrev pub SameRoom : Rooms → Rooms → Question → Type 0
SameRoom rooms other (RuleRoom rule most) = other rule.0 most ≡ rooms rule.0 most
SameRoom rooms other elsewhere = rooms ≡ rooms

-- ---- what the laws say

-- what stands behind a quick rule that hits doesn't matter
abbrev pub BehindAQuickHit : Type 0
BehindAQuickHit =
    (flat other : Ruleset) (rooms : Rooms) (name : IfName) (packet : Packet) (direction : Direction) (place : ℕ) (rule : FlatRule)
    → slice_get flat.filter.rules place ≡ Some rule
    → rule.is_quick ≡ true
    → hit flat rooms name packet direction place ≡ true
    → IsSameUpTo place flat other
    → GoesTheSameWay flat other rooms name packet direction

-- a rule that a packet doesn't visit doesn't matter to it
abbrev pub WhatIsNotVisited : Type 0
WhatIsNotVisited =
    (flat other : Ruleset) (rooms : Rooms) (name : IfName) (packet : Packet) (direction : Direction) (place : ℕ)
    → (Contains (visited flat rooms name packet direction) place → ⊥)
    → IsSameBut place flat other
    → GoesTheSameWay flat other rooms name packet direction

-- whether an anchor is quick doesn't matter if no rule in it hits
abbrev pub QuickWithoutAHit : Type 0
QuickWithoutAHit =
    (flat other : Ruleset) (rooms : Rooms) (name : IfName) (packet : Packet) (direction : Direction) (anchor : FlatAnchor) (quick : Bool)
    → NoneHits anchor flat rooms name packet direction
    → IsSameButAnchor anchor (quick_or_not quick anchor) flat other
    → GoesTheSameWay flat other rooms name packet direction

-- what an anchor asks for matters to the rules in it alone
abbrev pub AnchorAsksForItsOwn : Type 0
AnchorAsksForItsOwn =
    (flat other : Ruleset) (rooms : Rooms) (name : IfName) (packet : Packet) (direction : Direction) (anchor asked : FlatAnchor)
    → NoneHits anchor flat rooms name packet direction
    → NoneHits anchor other rooms name packet direction
    → IsSameButAnchor anchor (asking_like asked anchor) flat other
    → deciding other rooms name packet direction ≡ deciding flat rooms name packet direction

-- an anchor that doesn't hold lets a packet pass by all its rules
abbrev pub AnchorLetsNothingIn : Type 0
AnchorLetsNothingIn =
    (flat : Ruleset) (rooms : Rooms) (name : IfName) (packet : Packet) (direction : Direction) (anchor : FlatAnchor) (place : ℕ)
    → Contains flat.filter.anchors anchor
    → anchor_holds anchor name flat.tables packet direction ≡ false
    → anchor.first ≤ place
    → place ≤ anchor.last
    → PassesBy flat rooms name packet direction place

-- rooms that give the same answers to what is asked make no difference
abbrev pub WhatIsNotAsked : Type 0
WhatIsNotAsked =
    (flat : Ruleset) (rooms other : Rooms) (name : IfName) (packet : Packet) (direction : Direction)
    → All (SameRoom rooms other) (rooms_asked flat rooms name packet direction)
    → (deciding flat other name packet direction ≡ deciding flat rooms name packet direction) × (visited flat other name packet direction ≡ visited flat rooms name packet direction)

-- a rule that decides on a packet that may make a state has room for it
abbrev pub DecidesWithRoom : Type 0
DecidesWithRoom =
    (flat : Ruleset) (rooms : Rooms) (name : IfName) (packet : Packet) (direction : Direction) (place most : ℕ) (rule : FlatRule)
    → deciding flat rooms name packet direction ≡ Some place
    → slice_get flat.filter.rules place ≡ Some rule
    → limit_for rule packet ≡ Some most
    → rooms place most ≡ true

-- a rule without room lets a packet by like a rule that asks for something else, and is visited like that one
abbrev pub NoRoomLetsBy : Type 0
NoRoomLetsBy =
    (flat other : Ruleset) (rooms : Rooms) (name : IfName) (packet : Packet) (direction : Direction) (place most : ℕ) (rule : FlatRule)
    → slice_get flat.filter.rules place ≡ Some rule
    → limit_for rule packet ≡ Some most
    → rooms place most ≡ false
    → IsSameBut place flat other
    → passes (ruled other name packet direction) (slice_get other.filter.rules place) ≡ false
    → GoesTheSameWay flat other rooms name packet direction

-- a packet visits no rule twice
abbrev pub VisitsARuleOnce : Type 0
VisitsARuleOnce =
    (flat : Ruleset) (rooms : Rooms) (name : IfName) (packet : Packet) (direction : Direction) (rule : ℕ)
    → count_by (λ number. number == rule) (visited flat rooms name packet direction) ≤ 1

-- ---- translation

-- a packet for which a `binat` rule holds gets the target as its source, and a packet that comes in by the rule gets
-- that source back
abbrev pub BinatGivesTheSourceBack : Type 0
BinatGivesTheSourceBack =
    (rule : FlatTranslation Ipv4Address) (address target : Ipv4Address) (packet answer : Packet)
    → IsBinat rule address target
    → packet.source ≡ address
    → IsSomeAnd (binat_hit packet Out rule) (λ hit. hit.new_end ≡ Mapped target Kept)
    × IsSomeAnd (binat_hit answer In rule) (λ hit. hit.new_end ≡ Mapped packet.source Kept)

-- of `port low:high -> port first:*` each port lies as far from the first one as it lay from `low`, if all stay ports
abbrev pub MovedPortsKeepTheirDistance : Type 0
MovedPortsKeepTheirDistance =
    (first low high port : ℕ)
    → first + (high - low) ≤ 65535
    → low ≤ port
    → port ≤ high
    → mapped (mapping (Some (Range Inclusive low high)) (From first)) (record { 0 = port }) ≡ record { 0 = first + (port - low) }

-- `port low -> port first:*` turns the one port into the first one
abbrev pub OnePortBecomesTheFirst : Type 0
OnePortBecomesTheFirst =
    (first port : ℕ)
    → first ≤ 65535
    → mapped (mapping (Some (Compare Equal port)) (From first)) (record { 0 = port }) ≡ record { 0 = first }

-- a packet visits no translation rule twice, if each has a number of its own
abbrev pub VisitsATranslationRuleOnce : Type 0
VisitsATranslationRuleOnce =
    (flat : Ruleset) (name : IfName) (packet : Packet) (direction : Direction) (rule : ℕ)
    → HaveOwnNumbers flat.translations
    → count_by (λ number. number == rule) (translations_visited flat name packet direction) ≤ 1
