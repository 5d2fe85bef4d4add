-- How a packet that begins a connection gets through the firewall: the connection's key on the wire, its key behind the
-- firewall, and the translation rule that makes one of the other (pf.conf(5), "Translation").
use Rattle.std.specs.Prelude.{ℕ, Bool, true, false, not, if◌then◌else◌, List, [], Option, Some, None}
use Rattle.pfr_net.specs.declared.address.Ipv4Address.{Ipv4Address}
use Rattle.pfr_net.specs.declared.direction.Direction.{Direction}
use Rattle.pfr_net.specs.declared.direction.Direction.TheVariants.{In, Out}
use Rattle.pfr_net.specs.declared.endpoint.Endpoint.{Endpoint}
use Rattle.pfr_net.specs.declared.interface.Binding.{Binding}
use Rattle.pfr_net.specs.declared.interface.Binding.TheVariants.{All, To}
use Rattle.pfr_net.specs.declared.interface.InterfacePlace.{InterfacePlace}
use Rattle.pfr_net.specs.declared.rule_number.RuleNumber.{RuleNumber}
use Rattle.pfr_ruleset.specs.declared.flat.StateRule.{StateRule}
use Rattle.pfr_net.specs.declared.policy.StatePolicy.{StatePolicy}
use Rattle.pfr_net.specs.declared.policy.StatePolicy.TheVariants.{IfBound, Floating}
use Rattle.pfr_ruleset.specs.declared.ruleset.Ruleset.{Ruleset}
use Rattle.pfr_headers.specs.declared.packet.Packet.{Packet}
use Rattle.pfr_headers.specs.declared.transport.Transport.{Transport}
use Rattle.pfr_headers.specs.declared.transport.Transport.TheVariants as transport
use Rattle.pfr_headers.specs.Translated.{translated}
use Rattle.pfr_rules.specs.declared.hit.Hit.{Hit}
use Rattle.pfr_rules.specs.declared.hit.PortMapping.{PortMapping}
use Rattle.pfr_rules.specs.Translating.{mapped}
use Rattle.pfr_track.specs.declared.key.Key.{Key}
use Rattle.pfr_track.specs.declared.state.StateRules.{StateRules}
use Rattle.pfr_packet.specs.declared.outcome.Outcome.{Outcome}
use Rattle.pfr_packet.specs.declared.passage.Passage.{Passage}
use Rattle.pfr_packet.specs.declared.verdict.Reason.TheVariants.{NatExhausted, NatPass}
use Rattle.pfr_packet.specs.declared.verdict.Verdict.TheVariants.{Pass, Block}
use Rattle.pfr_packet.specs.Filtering.{allows_options, filtered, kept}
use Rattle.pfr_packet.specs.Keys.{end_of, endpoint, translated_end}
use Rattle.pfr_packet.specs.Outcomes.{without_leave}
use Rattle.pfr_packet.specs.Plan.{FilterAnswer}

-- ---- keys

-- both keys of a connection that isn't translated are the same
abbrev pub untranslated : Key → Passage
untranslated key = record { wire = key; stack = key; translation = None; passes = false }

abbrev pub has_ports : Transport → Bool
has_ports (transport.Tcp header) = true
has_ports (transport.Udp header) = true
has_ports _ = false

-- an end with another address, and the port that the mapping gives for its own; an identifier stays
abbrev pub mapped_end : Transport → Endpoint → Ipv4Address → PortMapping → Endpoint
mapped_end packet own address mapping = endpoint address (if has_ports packet then mapped mapping own.port else own.port)

abbrev pub with_inside : Key → Endpoint → Key
with_inside key inside = record { protocol = key.protocol; outside = key.outside; inside = inside }

-- the end inside is translated: behind the firewall for a packet that comes in, on the wire for one that goes out
abbrev pub mapped_passage : Direction → Key → Hit → Endpoint → Passage
mapped_passage In key hit inside = record { wire = key; stack = with_inside key inside; translation = Some hit.number; passes = hit.passes }
mapped_passage Out key hit inside = record { wire = with_inside key inside; stack = key; translation = Some hit.number; passes = hit.passes }

-- a packet that goes out with a picked key on the wire
abbrev pub picked_passage : Key → Hit → Key → Passage
picked_passage key hit wire = record { wire = wire; stack = key; translation = Some hit.number; passes = hit.passes }

-- ---- the packet that is filtered

-- the packet behind its translation, as it is written if it passes
abbrev pub translated_by : Direction → Passage → Packet → Option RuleNumber → Option Packet
translated_by direction passage packet None = None
translated_by direction passage packet (Some number) = Some (translated (end_of direction) (translated_end direction passage.wire passage.stack) packet)

abbrev pub or_packet : Packet → Option Packet → Packet
or_packet packet None = packet
or_packet packet (Some other) = other

abbrev pub behind : Direction → Passage → Packet → Packet
behind direction passage packet = or_packet packet (translated_by direction passage packet passage.translation)

-- ---- what becomes of it

-- what the filter makes of it, which names the rule that translates; these translation rules were visited
abbrev pub by_way : Passage → List ℕ → Outcome → Outcome
by_way passage visits outcome = record outcome { translation = passage.translation; visited = record { translation = visits; filter = outcome.visited.filter } }

-- a packet that isn't filtered passes
abbrev pub nat_passed : Direction → Passage → List ℕ → Outcome
nat_passed direction passage visits = record {
  direction = Some direction;
  verdict = Pass;
  reason = NatPass;
  rule = None;
  translation = passage.translation;
  state = None;
  visited = record { translation = visits; filter = [] };
  bytes = None;
  change = None;
}

-- but its IP options aren't allowed
abbrev pub unfiltered : Direction → Packet → Passage → List ℕ → Outcome
unfiltered direction packet passage visits = without_leave packet false (nat_passed direction passage visits)

-- by the filter's answer
abbrev pub judged : Ruleset → FilterAnswer → Direction → Packet → Passage → List ℕ → Outcome
judged rules answer direction packet passage visits =
    if passage.passes then unfiltered direction packet passage visits
    else by_way passage visits (filtered rules answer (behind direction passage packet) direction)

-- no port is free for it
abbrev pub exhausted : Direction → RuleNumber → List ℕ → Outcome
exhausted direction number visits = record {
  direction = Some direction;
  verdict = Block;
  reason = NatExhausted;
  rule = None;
  translation = Some number;
  state = None;
  visited = record { translation = visits; filter = [] };
  bytes = None;
  change = None;
}

-- ---- the state that it makes

-- a state is bound to the interface that makes it, or to all (pf.conf(5), "state-policy")
abbrev pub binding_by : StatePolicy → InterfacePlace → Binding
binding_by IfBound place = To place
binding_by Floating place = All

abbrev pub rules_by : InterfacePlace → StatePolicy → Option RuleNumber → Option RuleNumber → Bool → Bool → StateRules
rules_by place policy translation rule allowed no_sync = record {
  filter = rule;
  translation = translation;
  is_synchronised = not no_sync;
  allows_options = allowed;
  binding = binding_by policy place;
}

-- What the state says of its rules, by the state that the deciding rule keeps. If that rule keeps none, a translated
-- packet makes a state all the same: it is bound by the ruleset's policy, and a standby is told of it.
abbrev pub kept_by_way : InterfacePlace → StatePolicy → Option RuleNumber → Option RuleNumber → Bool → Option StateRule → Option StateRules
kept_by_way place policy translation rule allowed (Some state) = Some (rules_by place state.policy translation rule allowed state.no_sync)
kept_by_way place policy (Some number) rule allowed None = Some (rules_by place policy (Some number) rule allowed false)
kept_by_way place policy None rule allowed None = None

abbrev pub kept_behind : InterfacePlace → Ruleset → FilterAnswer → Direction → Passage → Packet → Option StateRules
kept_behind place rules answer direction passage packet =
    kept_by_way place rules.options.state_policy passage.translation (filtered rules answer packet direction).rule (allows_options rules answer) (kept rules answer)

abbrev pub judged_kept : InterfacePlace → Ruleset → FilterAnswer → Direction → Packet → Passage → Option StateRules
judged_kept place rules answer direction packet passage =
    if passage.passes then kept_by_way place rules.options.state_policy passage.translation None false None
    else kept_behind place rules answer direction passage (behind direction passage packet)
