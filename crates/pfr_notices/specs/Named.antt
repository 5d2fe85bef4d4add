-- The interfaces that the rules of a ruleset name (pf.conf(5), "on").
use Rattle.std.specs.Prelude.{◌≡◌, Bool, false, not, ◌||◌, if◌then◌else◌, List, [], ◌∷◌, ◌++◌, Option, Some, None}
use Rattle.std.specs.List.{filter, filter_map, list_any}
use Rattle.pfr_net.specs.declared.interface.IfName.{IfName}
use Rattle.pfr_ruleset.specs.declared.interface.Interface.{Interface}
use Rattle.pfr_ruleset.specs.declared.interface.InterfaceCriterion.{InterfaceCriterion}
use Rattle.pfr_ruleset.specs.declared.ruleset.Ruleset.{Ruleset}
use Rattle.pfr_criteria.specs.Packets.{is_named}

abbrev pub is_among : List IfName → IfName → Bool
is_among names name = list_any (λ other. is_named other name) names

-- a criterion names this interface: it asks for it, or with `!` for every other one
abbrev pub asks_for : IfName → Option InterfaceCriterion → Bool
asks_for name None = false
asks_for name (Some criterion) = is_named criterion.name name

-- one of the rules or anchors names this interface; `asked` gives the criterion of each, if it has one
abbrev pub one_asks_for : {R : Type 0} → (R → Option InterfaceCriterion) → IfName → List R → Bool
one_asks_for asked name rules = list_any (λ rule. asks_for name (asked rule)) rules

-- a filter rule names the interface, or an anchor, or a rule of nat, rdr or binat
abbrev pub is_named_in : Ruleset → IfName → Bool
is_named_in rules name =
    one_asks_for (λ rule. rule.packet.interface) name rules.filter.rules
    || (one_asks_for (λ anchor. anchor.packet.interface) name rules.filter.anchors
    || (one_asks_for (λ rule. rule.packet.interface) name rules.translations.nats
    || (one_asks_for (λ rule. rule.packet.interface) name rules.translations.rdrs
    || one_asks_for (λ rule. rule.packet.interface) name rules.translations.binats)))

-- ---- in their order

-- the interface that a criterion names, if there is a criterion
abbrev pub name_in : Option InterfaceCriterion → Option IfName
name_in None = None
name_in (Some criterion) = Some criterion.name

-- the interfaces that rules or anchors name, in their order, each as often as they name it
abbrev pub asked_by : {R : Type 0} → (R → Option InterfaceCriterion) → List R → List IfName
asked_by asked rules = filter_map (λ rule. name_in (asked rule)) rules

-- the interfaces that a ruleset names: its filter rules, its anchors, and its rules of nat, rdr and binat
abbrev pub asked_in : Ruleset → List IfName
asked_in rules =
    asked_by (λ rule. rule.packet.interface) rules.filter.rules
    ++ (asked_by (λ anchor. anchor.packet.interface) rules.filter.anchors
    ++ (asked_by (λ rule. rule.packet.interface) rules.translations.nats
    ++ (asked_by (λ rule. rule.packet.interface) rules.translations.rdrs
    ++ asked_by (λ rule. rule.packet.interface) rules.translations.binats)))

-- names with a further one behind them, unless it is one of them
abbrev pub with_name : List IfName → IfName → List IfName
with_name names name = if is_among names name then names else names ++ name ∷ []

-- names with the interface that a criterion names, if there is a criterion
abbrev pub with_asked : List IfName → Option InterfaceCriterion → List IfName
with_asked names None = names
with_asked names (Some criterion) = with_name names criterion.name

-- names with each further name at its first place
abbrev pub each_once : (names more : List IfName) → List IfName
each_once names [] = names
each_once names (name ∷ more) = each_once (with_name names name) more

-- the names after are those before and those for which `asked` holds
abbrev pub Gains : (before after : List IfName) → (IfName → Bool) → Type 0
Gains before after asked = (name : IfName) → is_among after name ≡ (is_among before name || asked name)

abbrev pub has_interface : List Interface → IfName → Bool
has_interface interfaces name = list_any (λ interface. is_named interface.name name) interfaces

-- the names in a list that no interface of a run has
abbrev pub missing : List Interface → List IfName → List IfName
missing interfaces names = filter (λ name. not (has_interface interfaces name)) names
