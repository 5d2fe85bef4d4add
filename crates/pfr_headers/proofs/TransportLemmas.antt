-- What stands behind an IPv4 header is what the functions compute, and nothing else.
use Rattle.std.proofs.Common.{◌≡◌, ◌≢◌, ◌⊎◌, inl, inr, ◌≤◌, ◌+◌, ◌*◌, ◌/◌, ◌%◌, ◌&&◌, ◌||◌, ℕ, Bool, true, false, not, eqb, ltb, List, length, drop, slice_index, Option, None, Some, refl, sym, ◌∙◌, ap, subst, arith, T}
use Rattle.std.proofs.Math.Dec.{eqb_refl}
use Rattle.std.proofs.lemmas.Bool.{and_parts, or_parts, eqb-true, ltb-false, le-ltb, ne_eqb}
use Rattle.byteorder.specs.Endian.{big_number}
use Rattle.pfr_headers.specs.declared.transport.Transport.{Transport}
use Rattle.pfr_headers.specs.declared.transport.Transport.TheVariants.{Fragment, Tcp, Udp, Icmp, Other}
use Rattle.pfr_headers.specs.declared.tcp.TcpHeader.{TcpHeader}
use Rattle.pfr_headers.specs.declared.udp.UdpHeader.{UdpHeader}
use Rattle.pfr_headers.specs.declared.icmp.IcmpHeader.{IcmpHeader}
use Rattle.pfr_headers.specs.declared.icmp.IcmpMessage.{IcmpMessage}
use Rattle.pfr_headers.specs.declared.icmp.IcmpMessage.TheVariants as message
use Rattle.pfr_headers.specs.declared.icmp.Inner.{Inner}
use Rattle.pfr_headers.specs.Transport.{IsIcmp, IsInner, IsMessage, IsTcp, IsTransport, IsUdp, InnerPorts, as_icmp, as_tcp, as_udp, has_eight, has_inner, has_tcp, icmp_of, icmp_with, inner_behind, inner_of, inner_with, is_echo, is_error, message_of, tcp_fields, tcp_length_of, tcp_of, embedded_of, transport_of, udp_fields, udp_of}

pub not_true : (a : Bool) → not a ≡ true → a ≡ false
not_true true e = absurd (cc)
not_true false e = refl

pub same_some : {A : Type 0} → (a b : A) → Some a ≡ Some b → a ≡ b
same_some a b e = cc

pub none_some : {A : Type 0} → {B : Type 0} → (a : A) (o : Option A) → o ≡ Some a → o ≡ None → B
none_some a o e n = absurd (cc)

-- TCP

tcp_tests : (whole : ℕ) (s : List ℕ) (t : TcpHeader) → IsTcp whole s t → has_tcp whole s ≡ true
tcp_tests whole s t i =
    let at_least = i.at_least in
    let captured = i.captured in
    let a = le-ltb (length s) 20 (omega arith) in
    let b = le-ltb (tcp_length_of s) 20 at_least in
    let c = le-ltb (length s) (tcp_length_of s) captured in
    let d = le-ltb whole (tcp_length_of s) i.within_total in
    rw (a, b, c, d) refl

tcp_from : (whole : ℕ) (s : List ℕ) → has_tcp whole s ≡ true → IsTcp whole s (tcp_fields whole s)
tcp_from whole s e =
    let one = or_parts (ltb (length s) 20) _ (not_true _ e) in
    let two = or_parts (ltb (tcp_length_of s) 20) _ one.1 in
    let three = or_parts (ltb (length s) (tcp_length_of s)) (ltb whole (tcp_length_of s)) two.1 in
    record {
      at_least = ltb-false _ _ two.0;
      captured = ltb-false _ _ three.0;
      within_total = ltb-false _ _ three.1;
      source = refl;
      destination = refl;
      sequence = refl;
      acknowledgement = refl;
      header_length = refl;
      flags = refl;
      window = refl;
      window_scale = refl;
      payload_length = refl;
    }

tcp_of_fields : (source destination sequence acknowledgement header_length flags window : ℕ) → Option ℕ → ℕ → TcpHeader
tcp_of_fields source destination sequence acknowledgement header_length flags window window_scale payload_length = record {
  source = record { 0 = source };
  destination = record { 0 = destination };
  sequence = sequence;
  acknowledgement = acknowledgement;
  header_length = header_length;
  flags = record { 0 = flags };
  window = window;
  window_scale = window_scale;
  payload_length = payload_length;
}

tcp_same : (whole : ℕ) (s : List ℕ) (t : TcpHeader) → IsTcp whole s t → t ≡ tcp_fields whole s
unfolding tcp_of_fields
tcp_same whole s t i =
    let all : t ≡ tcp_of_fields t.source.0 t.destination.0 t.sequence t.acknowledgement t.header_length t.flags.0 t.window t.window_scale t.payload_length = refl in
    all ∙ (rw (i.source, i.destination, i.sequence, i.acknowledgement, i.header_length, i.flags, i.window, i.window_scale, i.payload_length) refl)

tcp_is : (whole : ℕ) (s : List ℕ) (t : TcpHeader) → IsTcp whole s t → tcp_of whole s ≡ Some t
unfolding tcp_of
tcp_is whole s t i = rw (tcp_tests whole s t i) (ap (λ (u : TcpHeader). Some u) (sym (tcp_same whole s t i)))

tcp_by : (whole : ℕ) (s : List ℕ) (t : TcpHeader) (there : Bool) → has_tcp whole s ≡ there → tcp_of whole s ≡ Some t → IsTcp whole s t
unfolding tcp_of
tcp_by whole s t true is e = subst (λ (u : TcpHeader). IsTcp whole s u) (same_some _ _ (rw is at e)) (tcp_from whole s is)
tcp_by whole s t false is e = none_some t (tcp_of whole s) e (rw is refl)

-- UDP

eight_tests : (whole : ℕ) (s : List ℕ) → 8 ≤ length s → 8 ≤ whole → has_eight whole s ≡ true
eight_tests whole s captured within = rw (le-ltb (length s) 8 captured, le-ltb whole 8 within) refl

eight_from : (whole : ℕ) (s : List ℕ) → has_eight whole s ≡ true → (8 ≤ length s) × (8 ≤ whole)
eight_from whole s e = let p = or_parts (ltb (length s) 8) (ltb whole 8) (not_true _ e) in (ltb-false _ _ p.0, ltb-false _ _ p.1)

udp_of_fields : ℕ → ℕ → ℕ → UdpHeader
udp_of_fields source destination payload_length = record { source = record { 0 = source }; destination = record { 0 = destination }; payload_length = payload_length }

udp_same : (whole : ℕ) (s : List ℕ) (u : UdpHeader) → IsUdp whole s u → u ≡ udp_fields whole s
unfolding udp_of_fields
udp_same whole s u i =
    let all : u ≡ udp_of_fields u.source.0 u.destination.0 u.payload_length = refl in
    all ∙ (rw (i.source, i.destination, i.payload_length) refl)

udp_is : (whole : ℕ) (s : List ℕ) (u : UdpHeader) → IsUdp whole s u → udp_of whole s ≡ Some u
unfolding udp_of
udp_is whole s u i = rw (eight_tests whole s i.captured i.within_total) (ap (λ (v : UdpHeader). Some v) (sym (udp_same whole s u i)))

udp_by : (whole : ℕ) (s : List ℕ) (u : UdpHeader) (there : Bool) → has_eight whole s ≡ there → udp_of whole s ≡ Some u → IsUdp whole s u
unfolding udp_of
udp_by whole s u true is e =
    let p = eight_from whole s is in
    subst (λ (v : UdpHeader). IsUdp whole s v) (same_some _ _ (rw is at e)) (record { captured = p.0; within_total = p.1; source = refl; destination = refl; payload_length = refl })
udp_by whole s u false is e = none_some u (udp_of whole s) e (rw is refl)

-- the packet that an ICMP error embeds

inner_tests : (e : List ℕ) (i : Inner) → IsInner e i → has_inner e ≡ true
inner_tests e i h =
    let at_least = h.at_least in
    let captured = h.captured in
    let a = le-ltb (length e) 20 (omega arith) in
    let b : eqb (slice_index e 0 / 16) 4 ≡ true = rw h.version refl in
    let c = le-ltb (4 * (slice_index e 0 % 16)) 20 at_least in
    let d = le-ltb (length e) (4 * (slice_index e 0 % 16) + 8) captured in
    let f : eqb (big_number 2 (drop 6 e) % 8192) 0 ≡ true = rw h.first refl in
    rw (a, b, c, d, f) refl

pub record InnerThere (e : List ℕ) : Type 0 where
  pub version : slice_index e 0 / 16 ≡ 4
  pub at_least : 20 ≤ 4 * (slice_index e 0 % 16)
  pub captured : 4 * (slice_index e 0 % 16) + 8 ≤ length e
  pub first : big_number 2 (drop 6 e) % 8192 ≡ 0

pub not_false : (a : Bool) → not a ≡ false → a ≡ true
not_false true e = refl
not_false false e = absurd (cc)

inner_there : (e : List ℕ) → has_inner e ≡ true → InnerThere e
inner_there e is =
    let one = or_parts (ltb (length e) 20) _ (not_true _ is) in
    let two = or_parts (not (eqb (slice_index e 0 / 16) 4)) _ one.1 in
    let three = or_parts (ltb (4 * (slice_index e 0 % 16)) 20) _ two.1 in
    let four = or_parts (ltb (length e) (4 * (slice_index e 0 % 16) + 8)) (not (eqb (big_number 2 (drop 6 e) % 8192) 0)) three.1 in
    record {
      version = eqb-true _ _ (not_false _ two.0);
      at_least = ltb-false _ _ three.0;
      captured = ltb-false _ _ four.0;
      first = eqb-true _ _ (not_false _ four.1);
    }

inner_from : (e : List ℕ) (source destination : ℕ) → InnerThere e → InnerPorts (slice_index e 9) (drop (4 * (slice_index e 0 % 16)) e) source destination → IsInner e (inner_with e source destination)
inner_from e source destination t ports = record {
  version = t.version;
  header_length = refl;
  at_least = t.at_least;
  captured = t.captured;
  first = t.first;
  protocol = refl;
  source = refl;
  destination = refl;
  ports = ports;
}

inner_of_fields : (header_length protocol source destination source_port destination_port : ℕ) → Inner
inner_of_fields header_length protocol source destination source_port destination_port = record {
  header_length = header_length;
  protocol = record { 0 = protocol };
  source = record { 0 = source };
  destination = record { 0 = destination };
  source_port = record { 0 = source_port };
  destination_port = record { 0 = destination_port };
}

inner_same : (e : List ℕ) (i : Inner) → IsInner e i → i ≡ inner_with e i.source_port.0 i.destination_port.0
unfolding inner_of_fields
inner_same e i h =
    let all : i ≡ inner_of_fields i.header_length i.protocol.0 i.source.0 i.destination.0 i.source_port.0 i.destination_port.0 = refl in
    all ∙ (rw (h.header_length, h.protocol, h.source, h.destination) refl)

-- one of the two protocols with ports
ported : (e s : List ℕ) (source destination : ℕ) → (slice_index e 9 ≡ 6) ⊎ (slice_index e 9 ≡ 17) → source ≡ big_number 2 s → destination ≡ big_number 2 (drop 2 s) → inner_behind e s ≡ Some (inner_with e source destination)
ported e s source destination (inl six) a b = rw (six, a, b) refl
ported e s source destination (inr seventeen) a b = rw (seventeen, a, b) refl

inner_ports : (e s : List ℕ) (source destination : ℕ) → InnerPorts (slice_index e 9) s source destination → inner_behind e s ≡ Some (inner_with e source destination)
inner_ports e s source destination (inl p) = ported e s source destination p.0 p.1 p.2
inner_ports e s source destination (inr p) = rw (p.0, p.1, p.3, p.2) refl

either_of : (n : ℕ) (six : Bool) → eqb n 6 ≡ six → (eqb n 6 || eqb n 17) ≡ true → (n ≡ 6) ⊎ (n ≡ 17)
either_of n true is e = inl (eqb-true _ _ is)
either_of n false is e = inr (eqb-true _ _ (rw is at e))

inner_is : (e : List ℕ) (i : Inner) → IsInner e i → inner_of e ≡ Some i
unfolding inner_of
inner_is e i h =
    rw (inner_tests e i h)
    (inner_ports e (drop (4 * (slice_index e 0 % 16)) e) i.source_port.0 i.destination_port.0 h.ports ∙ ap (λ (j : Inner). Some j) (sym (inner_same e i h)))

behind_from : (e s : List ℕ) (i : Inner) (ports echo : Bool) → (eqb (slice_index e 9) 6 || eqb (slice_index e 9) 17) ≡ ports → (eqb (slice_index e 9) 1 && is_echo (slice_index s 0)) ≡ echo → inner_behind e s ≡ Some i
    → ((source destination : ℕ) → InnerPorts (slice_index e 9) s source destination → IsInner e (inner_with e source destination)) → IsInner e i
behind_from e s i true echo p q is make =
    subst (λ (j : Inner). IsInner e j) (same_some _ _ (rw p at is)) (make (big_number 2 s) (big_number 2 (drop 2 s)) (inl (either_of (slice_index e 9) _ refl p, refl, refl)))
behind_from e s i false true p q is make =
    let parts = and_parts (eqb (slice_index e 9) 1) (is_echo (slice_index s 0)) q in
    subst (λ (j : Inner). IsInner e j) (same_some _ _ (rw (p, q) at is)) (make (big_number 2 (drop 4 s)) (big_number 2 (drop 4 s)) (inr (eqb-true _ _ parts.0, parts.1, refl, refl)))
behind_from e s i false false p q is make = none_some i (inner_behind e s) is (rw (p, q) refl)

inner_by : (e : List ℕ) (i : Inner) (there : Bool) → has_inner e ≡ there → inner_of e ≡ Some i → IsInner e i
unfolding inner_of
inner_by e i true is found =
    let s = drop (4 * (slice_index e 0 % 16)) e in
    behind_from e s i _ _ refl refl (rw is at found) (λ source destination ports. inner_from e source destination (inner_there e is) ports)
inner_by e i false is found = none_some i (inner_of e) found (rw is refl)

-- messages

embedded_inner : (e : List ℕ) (found : Option Inner) → inner_of e ≡ found → ((i : Inner) → IsInner e i → ⊥) → embedded_of (inner_of e) ≡ message.Other
embedded_inner e None is none = rw is refl
embedded_inner e (Some i) is none = absurd (none i (inner_by e i _ refl is))

other_message : (kind : ℕ) (s : List ℕ) (error : Bool) → is_echo kind ≡ false → is_error kind ≡ error → (is_error kind ≡ true → (i : Inner) → IsInner (drop 8 s) i → ⊥) → message_of kind s ≡ message.Other
unfolding message_of
other_message kind s true echo error none = rw (echo, error) (embedded_inner (drop 8 s) _ refl (none error))
other_message kind s false echo error none = rw (echo, error) refl

three_kinds : (kind : ℕ) (three eleven : Bool) → eqb kind 3 ≡ three → eqb kind 11 ≡ eleven → is_error kind ≡ true → is_echo kind ≡ false
three_kinds kind true eleven a b e = rw (eqb-true kind 3 a) refl
three_kinds kind false true a b e = rw (eqb-true kind 11 b) refl
three_kinds kind false false a b e = rw (eqb-true kind 12 (rw (a, b) at e)) refl

not_both : (kind : ℕ) → is_error kind ≡ true → is_echo kind ≡ false
not_both kind e = three_kinds kind _ _ refl refl e

message_is : (kind : ℕ) (s : List ℕ) (m : IcmpMessage) → IsMessage kind s m → message_of kind s ≡ m
unfolding message_of
message_is kind s (message.Echo identifier) is = rw (is.0, is.1) refl
message_is kind s (message.Error inner) is = rw (not_both kind is.0, is.0, inner_is (drop 8 s) inner is.1) refl
message_is kind s message.Other is = other_message kind s _ is.0 refl is.1

embedded_from : (kind : ℕ) (s : List ℕ) (found : Option Inner) → is_echo kind ≡ false → is_error kind ≡ true → inner_of (drop 8 s) ≡ found → IsMessage kind s (embedded_of found)
embedded_from kind s None echo error is = (echo, λ e i h. none_some i (inner_of (drop 8 s)) (inner_is (drop 8 s) i h) is)
embedded_from kind s (Some i) echo error is = (error, inner_by (drop 8 s) i _ refl is)

message_by : (kind : ℕ) (s : List ℕ) (echo error : Bool) → is_echo kind ≡ echo → is_error kind ≡ error → IsMessage kind s (message_of kind s)
unfolding message_of
message_by kind s true error a b = rw a (a, refl)
message_by kind s false true a b = rw (a, b) (embedded_from kind s (inner_of (drop 8 s)) a b refl)
message_by kind s false false a b = rw (a, b) (a, λ e. absurd (cc))

-- ICMP

icmp_same : (whole : ℕ) (s : List ℕ) (i : IcmpHeader) → IsIcmp whole s i → i ≡ icmp_with s (message_of (slice_index s 0) s)
icmp_same whole s i h =
    let all : i ≡ record { kind = record { 0 = i.kind.0 }; code = i.code; message = i.message } = refl in
    all ∙ (rw (h.kind, h.code, message_is (slice_index s 0) s i.message h.message) refl)

icmp_is : (whole : ℕ) (s : List ℕ) (i : IcmpHeader) → IsIcmp whole s i → icmp_of whole s ≡ Some i
unfolding icmp_of
icmp_is whole s i h = rw (eight_tests whole s h.captured h.within_total) (ap (λ (j : IcmpHeader). Some j) (sym (icmp_same whole s i h)))

icmp_by : (whole : ℕ) (s : List ℕ) (i : IcmpHeader) (there : Bool) → has_eight whole s ≡ there → icmp_of whole s ≡ Some i → IsIcmp whole s i
unfolding icmp_of
icmp_by whole s i true is e =
    let p = eight_from whole s is in
    subst (λ (j : IcmpHeader). IsIcmp whole s j) (same_some _ _ (rw is at e)) (record { captured = p.0; within_total = p.1; kind = refl; code = refl; message = message_by (slice_index s 0) s _ _ refl refl })
icmp_by whole s i false is e = none_some i (icmp_of whole s) e (rw is refl)

-- by the protocol

pub transport_is : (protocol : ℕ) (fragment : Bool) (whole : ℕ) (s : List ℕ) (t : Transport) → IsTransport protocol fragment whole s t → transport_of protocol fragment whole s ≡ Some t
unfolding transport_of
transport_is protocol fragment whole s Fragment is = rw is refl
transport_is protocol fragment whole s (Tcp t) is = rw (is.0, is.1, tcp_is whole s t is.2) refl
transport_is protocol fragment whole s (Udp u) is = rw (is.0, is.1, udp_is whole s u is.2) refl
transport_is protocol fragment whole s (Icmp i) is = rw (is.0, is.1, icmp_is whole s i is.2) refl
transport_is protocol fragment whole s Other is = rw (is.0, ne_eqb _ _ is.1, ne_eqb _ _ is.2, ne_eqb _ _ is.3) refl

ne_of : (a b : ℕ) → eqb a b ≡ false → a ≢ b
ne_of a b e is = subst (λ (x : Bool). T x) (rw is at e) (eqb_refl b)

from_tcp : (protocol whole : ℕ) (s : List ℕ) (t : Transport) (found : Option TcpHeader) → protocol ≡ 6 → tcp_of whole s ≡ found → as_tcp found ≡ Some t → IsTransport protocol false whole s t
from_tcp protocol whole s t None six is e = none_some t (as_tcp None) e refl
from_tcp protocol whole s t (Some h) six is e = subst (λ (u : Transport). IsTransport protocol false whole s u) (same_some (Tcp h) t e) (refl, six, tcp_by whole s h _ refl is)

from_udp : (protocol whole : ℕ) (s : List ℕ) (t : Transport) (found : Option UdpHeader) → protocol ≡ 17 → udp_of whole s ≡ found → as_udp found ≡ Some t → IsTransport protocol false whole s t
from_udp protocol whole s t None is17 is e = none_some t (as_udp None) e refl
from_udp protocol whole s t (Some h) is17 is e = subst (λ (u : Transport). IsTransport protocol false whole s u) (same_some (Udp h) t e) (refl, is17, udp_by whole s h _ refl is)

from_icmp : (protocol whole : ℕ) (s : List ℕ) (t : Transport) (found : Option IcmpHeader) → protocol ≡ 1 → icmp_of whole s ≡ found → as_icmp found ≡ Some t → IsTransport protocol false whole s t
from_icmp protocol whole s t None one is e = none_some t (as_icmp None) e refl
from_icmp protocol whole s t (Some h) one is e = subst (λ (u : Transport). IsTransport protocol false whole s u) (same_some (Icmp h) t e) (refl, one, icmp_by whole s h _ refl is)

by_protocol : (protocol whole : ℕ) (s : List ℕ) (t : Transport) (tcp udp icmp : Bool) → eqb protocol 6 ≡ tcp → eqb protocol 17 ≡ udp → eqb protocol 1 ≡ icmp → transport_of protocol false whole s ≡ Some t → IsTransport protocol false whole s t
unfolding transport_of
by_protocol protocol whole s t true udp icmp a b c e = from_tcp protocol whole s t (tcp_of whole s) (eqb-true _ _ a) refl (rw a at e)
by_protocol protocol whole s t false true icmp a b c e = from_udp protocol whole s t (udp_of whole s) (eqb-true _ _ b) refl (rw (a, b) at e)
by_protocol protocol whole s t false false true a b c e = from_icmp protocol whole s t (icmp_of whole s) (eqb-true _ _ c) refl (rw (a, b, c) at e)
by_protocol protocol whole s t false false false a b c e = subst (λ (u : Transport). IsTransport protocol false whole s u) (same_some Other t (rw (a, b, c) at e)) (refl, ne_of _ _ a, ne_of _ _ b, ne_of _ _ c)

pub transport_by : (protocol : ℕ) (fragment : Bool) (whole : ℕ) (s : List ℕ) (t : Transport) → transport_of protocol fragment whole s ≡ Some t → IsTransport protocol fragment whole s t
unfolding transport_of
transport_by protocol true whole s t e = subst (λ (u : Transport). IsTransport protocol true whole s u) (same_some Fragment t e) refl
transport_by protocol false whole s t e = by_protocol protocol whole s t _ _ _ refl refl refl e
