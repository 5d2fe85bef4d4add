-- Lists that are compared one by one.
use Rattle.std.proofs.Common.{rules, ℕ, Bor, map, ◌≡◌, ◌&&◌, Bool, true, List, [], ◌∷◌, Option, Some, None, refl, ap, ◌∙◌}
use Rattle.std.proofs.lemmas.Bool.{and_parts}
use Rattle.std.specs.Option.{option_eq, option_map}
use Rattle.std.specs.contracts.prelude.BoolPartialEq.TheImpl.{ghosts as bool_ghosts}
use Rattle.std.specs.contracts.prelude.U16PartialEq.TheImpl.{ghosts as half_ghosts}
use Rattle.std.specs.contracts.prelude.U8PartialEq.TheImpl.{ghosts as byte_ghosts}
use Rattle.std.specs.contracts.prelude.UsizePartialEq.TheImpl.{ghosts as number_ghosts}
use lib.Pointwise.{pointwise}
use Rattle.pfr_net.specs.declared.address.Ipv4Address.{Ipv4Address}
use Rattle.pfr_net.specs.declared.direction.Direction.{Direction}
use Rattle.pfr_net.specs.contracts.address.Ipv4AddressPartialEq.TheImpl.{ghosts as address_ghosts}
use Rattle.pfr_net.specs.contracts.direction.DirectionPartialEq.TheImpl.{ghosts as direction_ghosts}
use Rattle.pfr_ruleset.specs.declared.flat.FilterAction.{FilterAction}
use Rattle.pfr_ruleset.specs.contracts.flat.FilterActionPartialEq.TheImpl.{ghosts as action_ghosts}
use Rattle.pfr_ruleset.specs.declared.flat.FlagsCriterion.{FlagsCriterion}
use Rattle.pfr_ruleset.specs.contracts.flat.FlagsCriterionPartialEq.TheImpl.{ghosts as flags_ghosts}
use Rattle.pfr_ruleset.specs.declared.flat.StateRule.{StateRule}
use Rattle.pfr_ruleset.specs.contracts.flat.StateRulePartialEq.TheImpl.{ghosts as state_ghosts}
use Rattle.pfr_ruleset.specs.declared.flat.NatAddress.{NatAddress}
use Rattle.pfr_ruleset.specs.contracts.flat.NatAddressPartialEq.TheImpl.{ghosts as nat_ghosts}
use Rattle.pfr_ruleset.specs.declared.flat.RdrAddress.{RdrAddress}
use Rattle.pfr_ruleset.specs.contracts.flat.RdrAddressPartialEq.TheImpl.{ghosts as rdr_ghosts}
use Rattle.pfr_ruleset.specs.declared.flat.FlatTranslation.{FlatTranslation}
use Rattle.pfr_net.specs.declared.protocol.Protocol.{Protocol}
use Rattle.pfr_net.specs.contracts.protocol.ProtocolPartialEq.TheImpl.{ghosts as protocol_ghosts}
use Rattle.pfr_ruleset.specs.declared.flat.FlatAnchor.{FlatAnchor}
use Rattle.pfr_ruleset.specs.declared.flat.FlatRule.{FlatRule}
use Rattle.pfr_ruleset.specs.declared.flat.PacketMatch.{PacketMatch}
use Rattle.pfr_ruleset.specs.declared.hosts.HostCriterion.{HostCriterion}
use Rattle.pfr_net.specs.declared.icmp_match.IcmpMatch.{IcmpMatch}
use Rattle.pfr_ruleset.specs.declared.interface.InterfaceCriterion.{InterfaceCriterion}
use Rattle.pfr_net.specs.declared.port_match.PortMatch.{PortMatch}
use Rattle.pfr_ruleset.specs.contracts.flat.FlatAnchorPartialEq.TheImpl.{ghosts as anchor_ghosts}
use Rattle.pfr_ruleset.specs.contracts.flat.FlatRulePartialEq.TheImpl.{ghosts as rule_ghosts}
use Rattle.pfr_ruleset.specs.contracts.flat.PacketMatchPartialEq.TheImpl.{ghosts as packet_ghosts}
use Rattle.pfr_ruleset.specs.contracts.hosts.HostCriterionPartialEq.TheImpl.{ghosts as host_ghosts}
use Rattle.pfr_net.specs.contracts.icmp_match.IcmpMatchPartialEq.TheImpl.{ghosts as icmp_ghosts}
use Rattle.pfr_ruleset.specs.contracts.interface.InterfaceCriterionPartialEq.TheImpl.{ghosts as interface_ghosts}
use Rattle.pfr_net.specs.contracts.port_match.PortMatchPartialEq.TheImpl.{ghosts as port_ghosts}

pub same_list : {A : Type 0} (eq : A → A → Bool) → ((x y : A) → eq x y ≡ true → x ≡ y)
    → (xs ys : List A) → pointwise eq xs ys ≡ true → xs ≡ ys
same_list eq same [] [] h = refl
same_list eq same [] (y ∷ ys) h = absurd (cc h)
same_list eq same (x ∷ xs) [] h = absurd (cc h)
same_list eq same (x ∷ xs) (y ∷ ys) h =
    let parts = and_parts (eq x y) (pointwise eq xs ys) h in
    ap (λ z. z ∷ xs) (same x y parts.0) ∙ ap (λ zs. y ∷ zs) (same_list eq same xs ys parts.1)

pub same_option : {A : Type 0} (eq : A → A → Bool) → ((x y : A) → eq x y ≡ true → x ≡ y)
    → (xs ys : Option A) → option_eq eq xs ys ≡ true → xs ≡ ys
same_option eq same None None h = refl
same_option eq same None (Some y) h = absurd (cc h)
same_option eq same (Some x) None h = absurd (cc h)
same_option eq same (Some x) (Some y) h = ap Some (same x y h)

same_half : (x y : ℕ) → half_ghosts.eq x y ≡ true → x ≡ y
same_half x y h = Prim.search rules

same_byte : (x y : ℕ) → byte_ghosts.eq x y ≡ true → x ≡ y
same_byte x y h = Prim.search rules

pub same_label : (x y : Option (Bor (List ℕ))) → option_eq (λ x y. pointwise byte_ghosts.eq x.now y.now) x y ≡ true
    → option_map (λ label. label.now) x ≡ option_map (λ label. label.now) y
same_label None None h = refl
same_label None (Some y) h = absurd (cc h)
same_label (Some x) None h = absurd (cc h)
same_label (Some x) (Some y) h = ap Some (same_list byte_ghosts.eq same_byte x.now y.now h)

pub same_mapped : {A B : Type 0} (eq : A → A → Bool) (f : A → B) → ((x y : A) → eq x y ≡ true → f x ≡ f y)
    → (xs ys : List A) → pointwise eq xs ys ≡ true → map f xs ≡ map f ys
same_mapped eq f same [] [] h = refl
same_mapped eq f same [] (y ∷ ys) h = absurd (cc h)
same_mapped eq f same (x ∷ xs) [] h = absurd (cc h)
same_mapped eq f same (x ∷ xs) (y ∷ ys) h =
    let parts = and_parts (eq x y) (pointwise eq xs ys) h in
    ap (λ z. z ∷ map f xs) (same x y parts.0) ∙ ap (λ zs. f y ∷ zs) (same_mapped eq f same xs ys parts.1)

same_interface : (x y : InterfaceCriterion) → interface_ghosts.eq x y ≡ true → x ≡ y
same_interface x y h = Prim.search rules

same_protocol : (x y : Protocol) → protocol_ghosts.eq x y ≡ true → x ≡ y
same_protocol x y h = Prim.search rules

same_icmp : (x y : IcmpMatch) → icmp_ghosts.eq x y ≡ true → x ≡ y
same_icmp x y h = Prim.search rules

same_host : (x y : HostCriterion) → host_ghosts.eq x y ≡ true → x ≡ y
same_host x y h = Prim.search rules

same_ports : (x y : PortMatch) → port_ghosts.eq x y ≡ true → x ≡ y
same_ports x y h = Prim.search rules

abbrev packet_by : Option InterfaceCriterion → Option Protocol → Option IcmpMatch → HostCriterion → Option PortMatch → HostCriterion → Option PortMatch → PacketMatch
packet_by i p c s q d r = record { interface = i; protocol = p; icmp = c; source = s; source_port = q; destination = d; destination_port = r }

packet_is : (x y : PacketMatch) → x.interface ≡ y.interface → x.protocol ≡ y.protocol → x.icmp ≡ y.icmp → x.source ≡ y.source
    → x.source_port ≡ y.source_port → x.destination ≡ y.destination → x.destination_port ≡ y.destination_port → x ≡ y
packet_is x y i p c s q d r =
    ap (λ z. packet_by z x.protocol x.icmp x.source x.source_port x.destination x.destination_port) i
    ∙ ap (λ z. packet_by y.interface z x.icmp x.source x.source_port x.destination x.destination_port) p
    ∙ ap (λ z. packet_by y.interface y.protocol z x.source x.source_port x.destination x.destination_port) c
    ∙ ap (λ z. packet_by y.interface y.protocol y.icmp z x.source_port x.destination x.destination_port) s
    ∙ ap (λ z. packet_by y.interface y.protocol y.icmp y.source z x.destination x.destination_port) q
    ∙ ap (λ z. packet_by y.interface y.protocol y.icmp y.source y.source_port z x.destination_port) d
    ∙ ap (λ z. packet_by y.interface y.protocol y.icmp y.source y.source_port y.destination z) r

pub same_packet : (x y : PacketMatch) → packet_ghosts.eq x y ≡ true → x ≡ y
same_packet x y h =
    let i = option_eq interface_ghosts.eq x.interface y.interface in
    let p = option_eq protocol_ghosts.eq x.protocol y.protocol in
    let c = option_eq icmp_ghosts.eq x.icmp y.icmp in
    let s = host_ghosts.eq x.source y.source in
    let q = option_eq port_ghosts.eq x.source_port y.source_port in
    let d = host_ghosts.eq x.destination y.destination in
    let r = option_eq port_ghosts.eq x.destination_port y.destination_port in
    let from_i = and_parts i (p && (c && (s && (q && (d && r))))) h in
    let from_p = and_parts p (c && (s && (q && (d && r)))) from_i.1 in
    let from_c = and_parts c (s && (q && (d && r))) from_p.1 in
    let from_s = and_parts s (q && (d && r)) from_c.1 in
    let from_q = and_parts q (d && r) from_s.1 in
    let from_d = and_parts d r from_q.1 in
    packet_is x y (same_option interface_ghosts.eq same_interface x.interface y.interface from_i.0)
    (same_option protocol_ghosts.eq same_protocol x.protocol y.protocol from_p.0) (same_option icmp_ghosts.eq same_icmp x.icmp y.icmp from_c.0)
    (same_host x.source y.source from_s.0) (same_option port_ghosts.eq same_ports x.source_port y.source_port from_q.0)
    (same_host x.destination y.destination from_d.0) (same_option port_ghosts.eq same_ports x.destination_port y.destination_port from_d.1)

same_direction : (x y : Direction) → direction_ghosts.eq x y ≡ true → x ≡ y
same_direction x y h = Prim.search rules

same_number : (x y : ℕ) → number_ghosts.eq x y ≡ true → x ≡ y
same_number x y h = Prim.search rules

same_bool : (x y : Bool) → bool_ghosts.eq x y ≡ true → x ≡ y
same_bool x y h = Prim.search rules

abbrev anchor_by : Option Direction → Bool → PacketMatch → ℕ → ℕ → FlatAnchor
anchor_by d q p f l = record { direction = d; is_quick = q; packet = p; first = f; last = l }

pub same_anchor : (x y : FlatAnchor) → anchor_ghosts.eq x y ≡ true → x ≡ y
same_anchor x y h =
    let d = option_eq direction_ghosts.eq x.direction y.direction in
    let q = bool_ghosts.eq x.is_quick y.is_quick in
    let p = packet_ghosts.eq x.packet y.packet in
    let f = number_ghosts.eq x.first y.first in
    let l = number_ghosts.eq x.last y.last in
    let from_d = and_parts d (q && (p && (f && l))) h in
    let from_q = and_parts q (p && (f && l)) from_d.1 in
    let from_p = and_parts p (f && l) from_q.1 in
    let from_f = and_parts f l from_p.1 in
    ap (λ z. anchor_by z x.is_quick x.packet x.first x.last) (same_option direction_ghosts.eq same_direction x.direction y.direction from_d.0)
    ∙ ap (λ z. anchor_by y.direction z x.packet x.first x.last) (same_bool x.is_quick y.is_quick from_q.0)
    ∙ ap (λ z. anchor_by y.direction y.is_quick z x.first x.last) (same_packet x.packet y.packet from_p.0)
    ∙ ap (λ z. anchor_by y.direction y.is_quick y.packet z x.last) (same_number x.first y.first from_f.0)
    ∙ ap (λ z. anchor_by y.direction y.is_quick y.packet y.first z) (same_number x.last y.last from_f.1)

same_action : (x y : FilterAction) → action_ghosts.eq x y ≡ true → x ≡ y
same_action x y h = Prim.search rules

same_flags : (x y : FlagsCriterion) → flags_ghosts.eq x y ≡ true → x ≡ y
same_flags x y h = Prim.search rules

same_state : (x y : StateRule) → state_ghosts.eq x y ≡ true → x ≡ y
same_state x y h = Prim.search rules

abbrev rule_by : FilterAction → Option Direction → Bool → Option ℕ → PacketMatch → FlagsCriterion → Option StateRule → Bool → ℕ → FlatRule
rule_by a d q b p f s o l = record { action = a; direction = d; is_quick = q; label = b; packet = p; flags = f; state = s; allow_opts = o; line = l }

pub same_rule : (x y : FlatRule) → rule_ghosts.eq x y ≡ true → x ≡ y
same_rule x y h =
    let a = action_ghosts.eq x.action y.action in
    let d = option_eq direction_ghosts.eq x.direction y.direction in
    let q = bool_ghosts.eq x.is_quick y.is_quick in
    let b = option_eq half_ghosts.eq x.label y.label in
    let p = packet_ghosts.eq x.packet y.packet in
    let f = flags_ghosts.eq x.flags y.flags in
    let s = option_eq state_ghosts.eq x.state y.state in
    let o = bool_ghosts.eq x.allow_opts y.allow_opts in
    let l = number_ghosts.eq x.line y.line in
    let from_a = and_parts a (d && (q && (b && (p && (f && (s && (o && l))))))) h in
    let from_d = and_parts d (q && (b && (p && (f && (s && (o && l)))))) from_a.1 in
    let from_q = and_parts q (b && (p && (f && (s && (o && l))))) from_d.1 in
    let from_b = and_parts b (p && (f && (s && (o && l)))) from_q.1 in
    let from_p = and_parts p (f && (s && (o && l))) from_b.1 in
    let from_f = and_parts f (s && (o && l)) from_p.1 in
    let from_s = and_parts s (o && l) from_f.1 in
    let from_o = and_parts o l from_s.1 in
    ap (λ z. rule_by z x.direction x.is_quick x.label x.packet x.flags x.state x.allow_opts x.line) (same_action x.action y.action from_a.0)
    ∙ ap (λ z. rule_by y.action z x.is_quick x.label x.packet x.flags x.state x.allow_opts x.line)
    (same_option direction_ghosts.eq same_direction x.direction y.direction from_d.0)
    ∙ ap (λ z. rule_by y.action y.direction z x.label x.packet x.flags x.state x.allow_opts x.line) (same_bool x.is_quick y.is_quick from_q.0)
    ∙ ap (λ z. rule_by y.action y.direction y.is_quick z x.packet x.flags x.state x.allow_opts x.line)
    (same_option half_ghosts.eq same_half x.label y.label from_b.0)
    ∙ ap (λ z. rule_by y.action y.direction y.is_quick y.label z x.flags x.state x.allow_opts x.line) (same_packet x.packet y.packet from_p.0)
    ∙ ap (λ z. rule_by y.action y.direction y.is_quick y.label y.packet z x.state x.allow_opts x.line) (same_flags x.flags y.flags from_f.0)
    ∙ ap (λ z. rule_by y.action y.direction y.is_quick y.label y.packet y.flags z x.allow_opts x.line)
    (same_option state_ghosts.eq same_state x.state y.state from_s.0)
    ∙ ap (λ z. rule_by y.action y.direction y.is_quick y.label y.packet y.flags y.state z x.line) (same_bool x.allow_opts y.allow_opts from_o.0)
    ∙ ap (λ z. rule_by y.action y.direction y.is_quick y.label y.packet y.flags y.state y.allow_opts z) (same_number x.line y.line from_o.1)

abbrev translation_by : {T : Type 0} → ℕ → ℕ → Bool → PacketMatch → Option T → FlatTranslation T
translation_by n l s p t = record { number = n; line = l; passes = s; packet = p; target = t }

pub same_translation : {T : Type 0} (eq : T → T → Bool) → ((x y : T) → eq x y ≡ true → x ≡ y) → (x y : FlatTranslation T)
    → number_ghosts.eq x.number y.number && (number_ghosts.eq x.line y.line && (bool_ghosts.eq x.passes y.passes
    && (packet_ghosts.eq x.packet y.packet && option_eq eq x.target y.target))) ≡ true
    → x ≡ y
same_translation eq same x y h =
    let n = number_ghosts.eq x.number y.number in
    let l = number_ghosts.eq x.line y.line in
    let s = bool_ghosts.eq x.passes y.passes in
    let p = packet_ghosts.eq x.packet y.packet in
    let t = option_eq eq x.target y.target in
    let from_n = and_parts n (l && (s && (p && t))) h in
    let from_l = and_parts l (s && (p && t)) from_n.1 in
    let from_s = and_parts s (p && t) from_l.1 in
    let from_p = and_parts p t from_s.1 in
    ap (λ z. translation_by z x.line x.passes x.packet x.target) (same_number x.number y.number from_n.0)
    ∙ ap (λ z. translation_by y.number z x.passes x.packet x.target) (same_number x.line y.line from_l.0)
    ∙ ap (λ z. translation_by y.number y.line z x.packet x.target) (same_bool x.passes y.passes from_s.0)
    ∙ ap (λ z. translation_by y.number y.line y.passes z x.target) (same_packet x.packet y.packet from_p.0)
    ∙ ap (λ z. translation_by y.number y.line y.passes y.packet z) (same_option eq same x.target y.target from_p.1)

pub same_nat : (x y : NatAddress) → nat_ghosts.eq x y ≡ true → x ≡ y
same_nat x y h = Prim.search rules

pub same_rdr : (x y : RdrAddress) → rdr_ghosts.eq x y ≡ true → x ≡ y
same_rdr x y h = Prim.search rules

pub same_address : (x y : Ipv4Address) → address_ghosts.eq x y ≡ true → x ≡ y
same_address x y h = Prim.search rules
