-- Where packets came to the filter: on which interfaces, and which way.
use Rattle.std.specs.Prelude.{ℕ, ◌&&◌, ◌||◌, Bool, true, false, if◌then◌else◌, List, map, slice_set, Option, Some, None}
use Rattle.std.specs.List.{list_any, slice_get}
use Rattle.pfr_net.specs.declared.direction.Direction.{Direction}
use Rattle.pfr_net.specs.declared.direction.Direction.TheVariants.{In, Out}
use Rattle.pfr_ruleset.specs.declared.filter_rules.RuleLists.{RuleLists}
use Rattle.pfr_ruleset.specs.declared.interface.Interface.{Interface}
use Rattle.pfr_packet.specs.declared.outcome.Outcome.{Outcome}
use Rattle.pfr_asked.specs.declared.seen.Seen.{Seen}
use Rattle.pfr_asked.specs.Asking.{allowed, came}

-- an interface of which no packet came to the filter
abbrev pub unseen : Interface → Seen
unseen interface = record { name = interface.name; come_in = false; go_out = false }

-- the interfaces of a run before its first packet
abbrev pub none_seen : List Interface → List Seen
none_seen interfaces = map unseen interfaces

-- one came that goes this way
abbrev pub with_way : Direction → Seen → Seen
with_way In seen = record seen { come_in = true }
with_way Out seen = record seen { go_out = true }

abbrev pub with_one : List Seen → ℕ → Direction → Option Seen → List Seen
with_one seen place direction None = seen
with_one seen place direction (Some one) = slice_set seen place (with_way direction one)

abbrev pub with_direction : List Seen → ℕ → Option Direction → List Seen
with_direction seen place None = seen
with_direction seen place (Some direction) = with_one seen place direction (slice_get seen place)

-- a packet of the interface at a place came to this
abbrev pub seen_with : List Seen → ℕ → Outcome → List Seen
seen_with seen place outcome = if came outcome then with_direction seen place outcome.direction else seen

-- on an interface, packets came to the filter that the rule at a place allows
abbrev pub asks_at : RuleLists → ℕ → Seen → Bool
asks_at lists rule seen = (seen.come_in && allowed lists rule seen.name In) || (seen.go_out && allowed lists rule seen.name Out)

-- the rule at a place could have been asked
abbrev pub asks_in : RuleLists → ℕ → List Seen → Bool
asks_in lists rule seen = list_any (asks_at lists rule) seen
