-- What follows if one criterion holds wherever another does.
use Rattle.std.proofs.Common.{◌≡◌, ◌≤◌, ◌+◌, ◌-◌, ◌*◌, ◌/◌, ◌^◌, ℕ, true, List, Option, None, refl, sym, ap, ◌∙◌, arith}
use Rattle.std.proofs.Math.Nat.{div-div-eq-div-mul, mul-div_cancel}
use Rattle.std.proofs.lemmas.Bool.{and_parts, eqb-true, eq-eqb}
use Rattle.std.proofs.lemmas.Nat.{pow-add, pow_pos}
use Rattle.pfr_net.specs.declared.network.Net.{Net}
use Rattle.pfr_net.specs.Networks.{holds, prefix}
use Rattle.pfr_ruleset.specs.declared.flat.FlagsCriterion.{FlagsCriterion}
use Rattle.pfr_ruleset.specs.declared.flat.FlagsCriterion.TheVariants as flags
use Rattle.pfr_ruleset.specs.declared.flat.FlatRule.{FlatRule}
use Rattle.pfr_ruleset.specs.declared.flat.PacketMatch.{PacketMatch}
use Rattle.pfr_ruleset.specs.declared.hosts.HostCriterion.{HostCriterion}
use Rattle.pfr_net.specs.declared.icmp_match.IcmpMatch.{IcmpMatch}
use Rattle.pfr_net.specs.declared.port_match.Comparison.TheVariants.{Equal}
use Rattle.pfr_net.specs.declared.port_match.PortMatch.{PortMatch}
use Rattle.pfr_net.specs.declared.port_match.PortMatch.TheVariants.{Compare}
use Rattle.pfr_ruleset.specs.declared.table.Entry.{Entry}
use Rattle.pfr_criteria.specs.Hosts.{host_holds}
use Rattle.pfr_criteria.specs.Packets.{match_holds, rule_holds}
use Rattle.pfr_criteria.specs.Transports.{flags_hold, icmp_holds, port_holds}
use Rattle.pfr_shadows.specs.Shadows as spec

-- ---- ports, flags and ICMP types

port_is : (port number : ℕ) → port_holds (Compare Equal port) number ≡ true → number ≡ port
unfolding port_holds
port_is port number holds = eqb-true number port holds

pub one_port : (wide narrow : PortMatch) (port : ℕ) → narrow ≡ Compare Equal port → port_holds wide port ≡ true → spec.PortCovers wide narrow
one_port wide narrow port is held number holds =
    ap (λ n. port_holds wide n) (port_is port number (ap (λ n. port_holds n number) (sym is) ∙ holds)) ∙ held

pub any_flags : (wide narrow : FlagsCriterion) → wide ≡ flags.Any → spec.FlagsCover wide narrow
unfolding flags_hold
any_flags wide narrow any transport holds = rw any refl

pub any_icmp : (wide narrow : Option IcmpMatch) → wide ≡ None → spec.IcmpCovers wide narrow
unfolding icmp_holds
any_icmp wide narrow any transport holds = rw any refl

-- ---- networks

quotient_same : (k a b : ℕ) → a / 2 ^ k * 2 ^ k ≡ b / 2 ^ k * 2 ^ k → a / 2 ^ k ≡ b / 2 ^ k
quotient_same k a b same =
    sym (mul-div_cancel (a / 2 ^ k) (pow_pos k)) ∙ ap (λ x. x / 2 ^ k) same ∙ mul-div_cancel (b / 2 ^ k) (pow_pos k)

split : (k j x : ℕ) → x / 2 ^ (k + j) ≡ x / 2 ^ k / 2 ^ j
split k j x = ap (λ p. x / p) (pow-add 2 k j) ∙ sym (div-div-eq-div-mul x (2 ^ k) (2 ^ j))

coarser : (k j a b : ℕ) → a / 2 ^ k ≡ b / 2 ^ k → a / 2 ^ (k + j) ≡ b / 2 ^ (k + j)
coarser k j a b same = split k j a ∙ ap (λ q. q / 2 ^ j) same ∙ sym (split k j b)

coarser_by : (k l a b : ℕ) → k ≤ l → a / 2 ^ k ≡ b / 2 ^ k → a / 2 ^ l ≡ b / 2 ^ l
coarser_by k l a b more same =
    let sum : k + (l - k) ≡ l = omega (arith, more) in
    ap (λ e. a / 2 ^ e) (sym sum) ∙ coarser k (l - k) a b same ∙ ap (λ e. b / 2 ^ e) sum

shorter : (short long a b : ℕ) → short ≤ long → prefix long a ≡ prefix long b → prefix short a ≡ prefix short b
unfolding prefix
shorter short long a b less same =
    let more : 32 - long ≤ 32 - short = omega (arith, less) in
    ap (λ q. q * 2 ^ (32 - short)) (coarser_by (32 - long) (32 - short) a b more (quotient_same (32 - long) a b same))

pub wider : (wide narrow : Net) → wide.bits ≤ narrow.bits → holds wide narrow.address ≡ true → spec.NetCovers wide narrow
wider wide narrow less held address holds =
    let near = eqb-true (prefix narrow.bits address.0) (prefix narrow.bits narrow.address.0) holds in
    let far = eqb-true (prefix wide.bits narrow.address.0) (prefix wide.bits wide.address.0) held in
    eq-eqb (prefix wide.bits address.0) (prefix wide.bits wide.address.0) (shorter wide.bits narrow.bits address.0 narrow.address.0 less near ∙ far)

whole : (bits a : ℕ) → 32 ≤ bits → prefix bits a ≡ a
unfolding prefix
whole bits a long =
    let none : 32 - bits ≡ 0 = omega (arith, long) in
    ap (λ e. a / 2 ^ e * 2 ^ e) none ∙ omega arith

single_is : (narrow : Net) (address : ℕ) → 32 ≤ narrow.bits → holds narrow (record { 0 = address }) ≡ true → address ≡ narrow.address.0
single_is narrow address long holds =
    sym (whole narrow.bits address long) ∙ eqb-true (prefix narrow.bits address) (prefix narrow.bits narrow.address.0) holds ∙ whole narrow.bits narrow.address.0 long

-- ---- hosts

pub network_holds : (tables : List (List Entry)) (net : Net) (address : ℕ) → host_holds tables (spec.network net) address ≡ holds net (record { 0 = address })
unfolding host_holds
network_holds tables net address = refl

pub any_holds : (tables : List (List Entry)) (wide : HostCriterion) (address : ℕ) → spec.IsAny wide → host_holds tables wide address ≡ true
unfolding host_holds
any_holds tables wide address any = rw any refl

pub one_address : (tables : List (List Entry)) (wide : HostCriterion) (narrow : Net) → 32 ≤ narrow.bits → host_holds tables wide narrow.address.0 ≡ true → spec.HoldsAllOf tables wide narrow
one_address tables wide narrow long held address holds = ap (λ a. host_holds tables wide a) (single_is narrow address long holds) ∙ held

pub all_of_network : (tables : List (List Entry)) (wide : HostCriterion) (net narrow : Net) → wide ≡ spec.network net → spec.NetCovers net narrow → spec.HoldsAllOf tables wide narrow
all_of_network tables wide net narrow is covers address holds =
    ap (λ w. host_holds tables w address) is ∙ network_holds tables net address ∙ covers (record { 0 = address }) holds

pub as_hosts : (tables : List (List Entry)) (wide narrow : HostCriterion) (net : Net) → narrow ≡ spec.network net → spec.HoldsAllOf tables wide net → spec.HostCovers tables wide narrow
as_hosts tables wide narrow net is all address holds =
    all address (sym (network_holds tables net address) ∙ ap (λ n. host_holds tables n address) (sym is) ∙ holds)

-- ---- rules

pub match_parts : (tables : List (List Entry)) (wide narrow : PacketMatch)
    → spec.ProtocolCovers wide.protocol narrow.protocol → spec.InterfaceCovers wide.interface narrow.interface
    → spec.PortsCover wide.destination_port narrow.destination_port → spec.PortsCover wide.source_port narrow.source_port
    → spec.IcmpCovers wide.icmp narrow.icmp → spec.HostCovers tables wide.destination narrow.destination
    → spec.HostCovers tables wide.source narrow.source → spec.MatchCovers tables wide narrow
unfolding match_holds
match_parts tables wide narrow p i d s c t f name packet holds =
    let h1 = and_parts _ _ holds in
    let h2 = and_parts _ _ h1.1 in
    let h3 = and_parts _ _ h2.1 in
    let h4 = and_parts _ _ h3.1 in
    let h5 = and_parts _ _ h4.1 in
    let h6 = and_parts _ _ h5.1 in
    rw (p _ h1.0, i name h2.0, d _ h3.0, s _ h4.0, c _ h5.0, t _ h6.0, f _ h6.1) refl

pub rule_parts : (tables : List (List Entry)) (wide narrow : FlatRule)
    → spec.DirectionCovers wide.direction narrow.direction → spec.FlagsCover wide.flags narrow.flags
    → spec.MatchCovers tables wide.packet narrow.packet → spec.Covers tables wide narrow
unfolding rule_holds
rule_parts tables wide narrow d f m name packet direction holds =
    let h1 = and_parts _ _ holds in
    let h2 = and_parts _ _ h1.1 in
    rw (d direction h1.0, f _ h2.0, m name packet h2.1) refl
