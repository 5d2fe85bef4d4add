-- Translation rules as flat rules.
use Rattle.std.specs.Prelude.{ℕ, ◌++◌, Bool, true, List, Option, Some, None, Result, Ok, Err, if◌then◌else◌}
use Rattle.pfr_net.specs.declared.address.Ipv4Address.{Ipv4Address}
use Rattle.pfr_net.specs.declared.port_match.PortMatch.{PortMatch}
use Rattle.pfr_net.specs.declared.port_match.PortMatch.TheVariants as p
use Rattle.pfr_ruleset.specs.declared.flat.PacketMatch.{PacketMatch}
use Rattle.pfr_ruleset.specs.declared.flat.PortRange.{PortRange}
use Rattle.pfr_ruleset.specs.declared.flat.PortChange.{PortChange}
use Rattle.pfr_ruleset.specs.declared.flat.PortChange.TheVariants as c
use Rattle.pfr_ruleset.specs.declared.translations.Translations as T
use Rattle.pfr_terms.specs.declared.error.ConfError.{ConfError}
use Rattle.pfr_terms.specs.declared.error.ConfErrorKind.TheVariants.{BadNumber}
use Rattle.pfr_conf.specs.declared.targets.RedirectedPort.{RedirectedPort}
use Rattle.pfr_conf.specs.declared.targets.RedirectedPort.TheVariants as r
use Rattle.pfr_conf.specs.declared.targets.NatTarget.{NatTarget}
use Rattle.pfr_conf.specs.declared.targets.RdrTarget.{RdrTarget}
use Rattle.pfr_conf.specs.declared.targets.Target.{Target}
use Rattle.pfr_conf.specs.declared.targets.Target.TheVariants as t
use Rattle.pfr_conf.specs.declared.translation.TranslationKind.{TranslationKind}
use Rattle.pfr_conf.specs.declared.translation.TranslationKind.TheVariants as kind
use Rattle.pfr_conf.specs.declared.translation.TranslationRule.{TranslationRule}
use Rattle.pfr_elements.specs.declared.scope.Scope.{Scope}
use Rattle.pfr_elements.specs.Single.{written_single, single_sources}
use Rattle.pfr_flat.specs.declared.choices.Choices.{Choices}
use Rattle.pfr_flat.specs.declared.lists.Lists as L
use Rattle.pfr_flat.specs.Choices.{combinations}
use Rattle.pfr_flat.specs.Lists.{lists_of, lists_with, if_written, addresses_in}
use Rattle.pfr_flat.specs.Translations.{numbered, all_fit}
use Rattle.pfr_expand.specs.declared.translation.Change.{Change}
use Rattle.pfr_expand.specs.declared.translation.Change.TheVariants as change

-- ---- criteria

abbrev pub lists_by : Scope → TranslationRule → Option Target → L.Lists
lists_by scope rule (Some (t.Binat host)) = lists_with scope true rule.criteria None (if_written (single_sources scope rule.line) (addresses_in rule.criteria.hosts.source))
lists_by scope rule other = lists_of scope true rule.criteria None

-- the source of a binat rule with a target is one address
unfoldable pub translation_lists : Scope → TranslationRule → L.Lists
translation_lists scope rule = lists_by scope rule rule.target

-- ---- what it becomes

abbrev pub port_range : PortMatch → PortRange
port_range (p.Compare comparison port) = record { low = port; high = port }
port_range (p.Range operator low high) = record { low = low; high = high }

abbrev pub port_ranges : Option PortMatch → Option PortRange
port_ranges None = None
port_ranges (Some ports) = Some (port_range ports)

abbrev pub nat_by : NatTarget → Result Ipv4Address ConfError → Result Change ConfError
nat_by target (Ok address) = Ok (change.Nat (Some (record { address = address; ports = port_ranges target.ports; static_port = target.static_port })))
nat_by target (Err e) = Err e

abbrev pub port_change : Option RedirectedPort → PortChange
port_change None = c.Kept
port_change (Some (r.Fixed port)) = c.To port
port_change (Some (r.From line port)) = c.From port

-- ports are moved by one distance, which has to keep them ports
abbrev pub port_fault : Option RedirectedPort → List (Option PortMatch) → Option ConfError
port_fault None ports = None
port_fault (Some (r.Fixed port)) ports = None
port_fault (Some (r.From line port)) ports = if all_fit port ports then None else Some (record { line = line; kind = BadNumber })

abbrev pub rdr_if : RdrTarget → Ipv4Address → Option ConfError → Result Change ConfError
rdr_if target address None = Ok (change.Rdr (Some (record { address = address; port = port_change target.port })))
rdr_if target address (Some e) = Err e

abbrev pub rdr_by : RdrTarget → List (Option PortMatch) → Result Ipv4Address ConfError → Result Change ConfError
rdr_by target ports (Ok address) = rdr_if target address (port_fault target.port ports)
rdr_by target ports (Err e) = Err e

abbrev pub binat_by : Result Ipv4Address ConfError → Result Change ConfError
binat_by (Ok address) = Ok (change.Binat (Some address))
binat_by (Err e) = Err e

-- a rule without a target doesn't translate
abbrev pub no_change : TranslationKind → Change
no_change kind.Nat = change.Nat None
no_change kind.Rdr = change.Rdr None
no_change kind.Binat = change.Binat None

abbrev pub change_by : Scope → TranslationRule → List (Option PortMatch) → Option Target → Result Change ConfError
change_by scope rule ports None = Ok (no_change rule.kind)
change_by scope rule ports (Some (t.Nat target)) = nat_by target (written_single true scope rule.line target.address)
change_by scope rule ports (Some (t.Rdr target)) = rdr_by target ports (written_single true scope rule.line target.address)
change_by scope rule ports (Some (t.Binat target)) = binat_by (written_single true scope rule.line target)

-- what a rule that asks for these destination ports translates to
unfoldable pub change_of : Scope → TranslationRule → List (Option PortMatch) → Result Change ConfError
change_of scope rule ports = change_by scope rule ports rule.target

-- ---- rules

-- rules with this change, numbered on from this number, behind those of their kind
abbrev pub with_rules : ℕ → ℕ → Bool → Change → List PacketMatch → T.Translations → T.Translations
with_rules number line passes (change.Nat target) matches out = record out { nats = out.nats ++ numbered number line passes target matches }
with_rules number line passes (change.Rdr target) matches out = record out { rdrs = out.rdrs ++ numbered number line passes target matches }
with_rules number line passes (change.Binat target) matches out = record out { binats = out.binats ++ numbered number line passes target matches }

abbrev pub with_change : ℕ → ℕ → Bool → Choices → Result Change ConfError → T.Translations → Result T.Translations ConfError
with_change number line passes choices (Ok found) out = Ok (with_rules number line passes found (combinations choices) out)
with_change number line passes choices (Err e) out = Err e

abbrev pub with_choices : Scope → ℕ → TranslationRule → Result Choices ConfError → T.Translations → Result T.Translations ConfError
with_choices scope number rule (Ok choices) out = with_change number rule.line rule.passes choices (change_of scope rule choices.destination_ports) out
with_choices scope number rule (Err e) out = Err e
