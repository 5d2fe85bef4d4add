-- A frame has one view.
use Rattle.std.proofs.Common.{◌≡◌, ◌⊎◌, inl, inr, ◌-◌, ◌||◌, ℕ, Bool, true, false, not, eqb, ltb, List, length, drop, slice_index, Option, None, Some, refl, sym, ◌∙◌, ap, subst, cond, arith}
use Rattle.std.proofs.lemmas.Bool.{and_parts, or_parts, eqb-true, ltb-true, ltb-false, lt-ltb, le-ltb}
use Rattle.byteorder.specs.Endian.{big_number, little_number}
use Rattle.pfr_headers.specs.declared.ethernet.EthernetAddress.{EthernetAddress}
use Rattle.pfr_headers.specs.declared.packet.Packet.{Packet}
use Rattle.pfr_headers.specs.declared.packet.View.{View}
use Rattle.pfr_headers.specs.declared.packet.View.TheVariants.{Ipv4, Skip, Short}
use Rattle.pfr_headers.specs.declared.transport.Transport.{Transport}
use Rattle.pfr_headers.specs.View.{HoldsIpv4, IsHeader, IsLoopback, IsPacket, IsTagged, IsView, fields_of, has_header, header_length_of, is_ethernet, is_fragment, is_loopback, is_raw, is_tagged, packet_of, place_of, seen, seen_at, sender_of, total_length_of, transport_behind, version_of, view_of, with_transport}
use Rattle.pfr_headers.proofs.TransportLemmas.{none_some, not_false, not_true, same_some, transport_by, transport_is}

-- the header

header_tests : (d : List ℕ) (p : Packet) → IsHeader d p → has_header d ≡ true
header_tests d p h =
    let at_least = h.at_least in
    let captured = h.captured in
    let a = le-ltb (length d) 20 (omega arith) in
    let b : eqb (version_of d) 4 ≡ true = rw h.version refl in
    let c = le-ltb (header_length_of d) 20 at_least in
    let e = le-ltb (length d) (header_length_of d) captured in
    let f = le-ltb (total_length_of d) (header_length_of d) h.within_total in
    rw (a, b, c, e, f) refl

header_from : (sender : Option EthernetAddress) (d : List ℕ) (t : Transport) → has_header d ≡ true → IsHeader d (fields_of sender d t)
unfolding fields_of
header_from sender d t e =
    let one = or_parts (ltb (length d) 20) _ (not_true _ e) in
    let two = or_parts (not (eqb (version_of d) 4)) _ one.1 in
    let three = or_parts (ltb (header_length_of d) 20) _ two.1 in
    let four = or_parts (ltb (length d) (header_length_of d)) (ltb (total_length_of d) (header_length_of d)) three.1 in
    record {
      version = eqb-true _ _ (not_false _ two.0);
      header_length = refl;
      at_least = ltb-false _ _ three.0;
      captured = ltb-false _ _ four.0;
      total_length = refl;
      within_total = ltb-false _ _ four.1;
      protocol = refl;
      source = refl;
      destination = refl;
    }

of_fields : (sender : Option EthernetAddress) (header_length total_length protocol source destination : ℕ) → Transport → Packet
of_fields sender header_length total_length protocol source destination transport = record {
  sender = sender;
  header_length = header_length;
  total_length = total_length;
  protocol = record { 0 = protocol };
  source = record { 0 = source };
  destination = record { 0 = destination };
  transport = transport;
}

fields_are : (d : List ℕ) (p : Packet) → IsHeader d p → p ≡ fields_of p.sender d p.transport
unfolding of_fields fields_of
fields_are d p h =
    let all : p ≡ of_fields p.sender p.header_length p.total_length p.protocol.0 p.source.0 p.destination.0 p.transport = refl in
    all ∙ (rw (h.header_length, h.total_length, h.protocol, h.source, h.destination) refl)

pub packet_is : (d : List ℕ) (p : Packet) → IsPacket d p → packet_of p.sender d ≡ Some p
unfolding packet_of transport_behind
packet_is d p h =
    rw (header_tests d p h.header, transport_is (slice_index d 9) (is_fragment d) (total_length_of d - header_length_of d) (drop (header_length_of d) d) p.transport h.transport)
    (ap (λ (q : Packet). Some q) (sym (fields_are d p h.header)))

-- a packet of a datagram with a sender has this sender
IsOf : Option EthernetAddress → List ℕ → Packet → Type 0
IsOf sender d p = IsPacket d p × (p.sender ≡ sender)

packet_from : (sender : Option EthernetAddress) (d : List ℕ) (p : Packet) (found : Option Transport) → has_header d ≡ true → transport_behind d ≡ found → with_transport sender d found ≡ Some p → IsOf sender d p
unfolding transport_behind fields_of IsOf
packet_from sender d p None there is e = none_some p (with_transport sender d None) e refl
packet_from sender d p (Some t) there is e =
    subst (λ (q : Packet). IsOf sender d q) (same_some (fields_of sender d t) p e) (
      record {
        header = header_from sender d t there;
        transport = transport_by (slice_index d 9) (is_fragment d) (total_length_of d - header_length_of d) (drop (header_length_of d) d) t is;
      },
      refl,
    )

packet_there : (sender : Option EthernetAddress) (d : List ℕ) (p : Packet) (there : Bool) → has_header d ≡ there → packet_of sender d ≡ Some p → IsOf sender d p
unfolding packet_of
packet_there sender d p true is e = packet_from sender d p (transport_behind d) is refl (rw is at e)
packet_there sender d p false is e = none_some p (packet_of sender d) e (rw is refl)

pub sent_by : (sender : Option EthernetAddress) (d : List ℕ) (p : Packet) → packet_of sender d ≡ Some p → p.sender ≡ sender
unfolding IsOf
sent_by sender d p e = (packet_there sender d p _ refl e).1

packet_by_any : (sender : Option EthernetAddress) (d : List ℕ) (p : Packet) → packet_of sender d ≡ Some p → IsPacket d p
unfolding IsOf
packet_by_any sender d p e = (packet_there sender d p _ refl e).0

pub packet_by : (d : List ℕ) (p : Packet) → packet_of p.sender d ≡ Some p → IsPacket d p
packet_by d p e = packet_by_any p.sender d p e

-- the link

ethernet_untagged : (link : ℕ) (bytes : List ℕ) (place : ℕ) → IsTagged link bytes place → is_ethernet bytes ≡ false
ethernet_untagged link bytes place t =
    let long = t.whole in
    rw (le-ltb (length bytes) 14 (omega arith), t.tag) refl

or_true : (a : Bool) → (a || true) ≡ true
or_true true = refl
or_true false = refl

loopback_place : (link : ℕ) (bytes : List ℕ) (place : ℕ) → IsLoopback link bytes place → (big_number 4 bytes ≡ 2) ⊎ (little_number 4 bytes ≡ 2) → place_of link bytes ≡ Some place
unfolding place_of
loopback_place link bytes place l (inl big) = rw (l.link_is, le-ltb (length bytes) 4 l.whole, big, l.place_is) refl
loopback_place link bytes place l (inr little) = rw (l.link_is, le-ltb (length bytes) 4 l.whole, little, or_true (eqb (big_number 4 bytes) 2), l.place_is) refl

place_is : (link : ℕ) (bytes : List ℕ) (place : ℕ) → HoldsIpv4 link bytes place → place_of link bytes ≡ Some place
unfolding place_of
place_is link bytes place (inl r) = rw (r.link_is, lt-ltb 0 (length bytes) r.some, r.version, r.place_is) refl
place_is link bytes place (inr (inl l)) = loopback_place link bytes place l l.family
place_is link bytes place (inr (inr (inl e))) = rw (e.link_is, le-ltb (length bytes) 14 e.whole, e.kind, e.place_is) refl
place_is link bytes place (inr (inr (inr t))) = rw (t.link_is, ethernet_untagged link bytes place t, le-ltb (length bytes) 18 t.whole, t.tag, t.kind, t.place_is) refl

-- a place that is found is one
raw_or_none : (link : ℕ) (bytes : List ℕ) (place : ℕ) (raw : Bool) → link ≡ 101 → is_raw bytes ≡ raw → cond raw (Some 0) None ≡ Some place → HoldsIpv4 link bytes place
raw_or_none link bytes place true l is e =
    let parts = and_parts (ltb 0 (length bytes)) _ is in
    inl (record { link_is = l; some = ltb-true _ _ parts.0; version = eqb-true _ _ parts.1; place_is = sym (same_some 0 place e) })
raw_or_none link bytes place false l is e = none_some place None e refl

either_order : (bytes : List ℕ) (big : Bool) → eqb (big_number 4 bytes) 2 ≡ big → (eqb (big_number 4 bytes) 2 || eqb (little_number 4 bytes) 2) ≡ true → (big_number 4 bytes ≡ 2) ⊎ (little_number 4 bytes ≡ 2)
either_order bytes true is e = inl (eqb-true _ _ is)
either_order bytes false is e = inr (eqb-true _ _ (rw is at e))

loopback_or_none : (link : ℕ) (bytes : List ℕ) (place : ℕ) (loopback : Bool) → link ≡ 0 → is_loopback bytes ≡ loopback → cond loopback (Some 4) None ≡ Some place → HoldsIpv4 link bytes place
loopback_or_none link bytes place true l is e =
    let parts = and_parts (not (ltb (length bytes) 4)) _ is in
    inr (inl (record { link_is = l; whole = ltb-false _ _ (not_true _ parts.0); family = either_order bytes _ refl parts.1; place_is = sym (same_some 4 place e) }))
loopback_or_none link bytes place false l is e = none_some place None e refl

ethernet_or_none : (link : ℕ) (bytes : List ℕ) (place : ℕ) (ethernet tagged : Bool) → link ≡ 1 → is_ethernet bytes ≡ ethernet → is_tagged bytes ≡ tagged → cond ethernet (Some 14) (cond tagged (Some 18) None) ≡ Some place → HoldsIpv4 link bytes place
ethernet_or_none link bytes place true tagged l is t e =
    let parts = and_parts (not (ltb (length bytes) 14)) _ is in
    inr (inr (inl (record { link_is = l; whole = ltb-false _ _ (not_true _ parts.0); kind = eqb-true _ _ parts.1; place_is = sym (same_some 14 place e) })))
ethernet_or_none link bytes place false true l is t e =
    let parts = and_parts (not (ltb (length bytes) 18)) _ t in
    let types = and_parts (eqb (big_number 2 (drop 12 bytes)) 33024) _ parts.1 in
    inr (inr (inr (record { link_is = l; whole = ltb-false _ _ (not_true _ parts.0); tag = eqb-true _ _ types.0; kind = eqb-true _ _ types.1; place_is = sym (same_some 18 place e) })))
ethernet_or_none link bytes place false false l is t e = none_some place None e refl

by_link : (link : ℕ) (bytes : List ℕ) (place : ℕ) (raw loopback ethernet : Bool) → eqb link 101 ≡ raw → eqb link 0 ≡ loopback → eqb link 1 ≡ ethernet → place_of link bytes ≡ Some place → HoldsIpv4 link bytes place
unfolding place_of
by_link link bytes place true loopback ethernet a b c e = raw_or_none link bytes place (is_raw bytes) (eqb-true _ _ a) refl (rw a at e)
by_link link bytes place false true ethernet a b c e = loopback_or_none link bytes place (is_loopback bytes) (eqb-true _ _ b) refl (rw (a, b) at e)
by_link link bytes place false false true a b c e = ethernet_or_none link bytes place (is_ethernet bytes) (is_tagged bytes) (eqb-true _ _ c) refl refl (rw (a, b, c) at e)
by_link link bytes place false false false a b c e = none_some place (place_of link bytes) e (rw (a, b, c) refl)

pub place_by : (link : ℕ) (bytes : List ℕ) (place : ℕ) → place_of link bytes ≡ Some place → HoldsIpv4 link bytes place
place_by link bytes place e = by_link link bytes place _ _ _ refl refl refl e

-- the view is the one that the function computes

skipped : (link : ℕ) (bytes : List ℕ) (found : Option ℕ) → place_of link bytes ≡ found → ((place : ℕ) → HoldsIpv4 link bytes place → ⊥) → Skip ≡ seen_at link bytes found
skipped link bytes None is none = refl
skipped link bytes (Some place) is none = absurd (none place (place_by link bytes place is))

too_short : (sender : Option EthernetAddress) (d : List ℕ) (found : Option Packet) → packet_of sender d ≡ found → ((p : Packet) → IsPacket d p → ⊥) → Short ≡ seen found
too_short sender d None is none = refl
too_short sender d (Some p) is none = absurd (none p (packet_by_any sender d p is))

pub view_is : (link : ℕ) (bytes : List ℕ) (v : View) → IsView link bytes v → v ≡ view_of link bytes
unfolding view_of
view_is link bytes (Ipv4 p) is =
    let there : packet_of (sender_of link bytes) (drop is.0 bytes) ≡ Some p = subst (λ (sender : Option EthernetAddress). packet_of sender (drop is.0 bytes) ≡ Some p) is.3 (packet_is (drop is.0 bytes) p is.2) in
    rw (place_is link bytes is.0 is.1, there) refl
view_is link bytes Short is = rw (place_is link bytes is.0 is.1) (too_short (sender_of link bytes) (drop is.0 bytes) (packet_of (sender_of link bytes) (drop is.0 bytes)) refl is.2)
view_is link bytes Skip is = skipped link bytes (place_of link bytes) refl is

-- if no packet is found with one sender, none is with another
none_there : (sender other : Option EthernetAddress) (d : List ℕ) (found : Option Transport) → with_transport sender d found ≡ None → with_transport other d found ≡ None
none_there sender other d None e = refl
none_there sender other d (Some t) e = none_some (fields_of sender d t) (Some (fields_of sender d t)) refl e

none_of : (sender other : Option EthernetAddress) (d : List ℕ) (there : Bool) → has_header d ≡ there → packet_of sender d ≡ None → packet_of other d ≡ None
unfolding packet_of
none_of sender other d true is e = rw is (none_there sender other d (transport_behind d) (rw is at e))
none_of sender other d false is e = rw is refl

view_at : (link : ℕ) (bytes : List ℕ) (place : ℕ) (found : Option Packet) → place_of link bytes ≡ Some place → packet_of (sender_of link bytes) (drop place bytes) ≡ found → IsView link bytes (seen found)
view_at link bytes place None at is = (place, place_by link bytes place at, λ p h. none_some p (packet_of p.sender (drop place bytes)) (packet_is (drop place bytes) p h) (none_of (sender_of link bytes) p.sender (drop place bytes) _ refl is))
view_at link bytes place (Some p) at is = (place, place_by link bytes place at, packet_by_any (sender_of link bytes) (drop place bytes) p is, sent_by (sender_of link bytes) (drop place bytes) p is)

view_by : (link : ℕ) (bytes : List ℕ) (found : Option ℕ) → place_of link bytes ≡ found → IsView link bytes (seen_at link bytes found)
view_by link bytes None is = λ place h. none_some place (place_of link bytes) (place_is link bytes place h) is
view_by link bytes (Some place) is = view_at link bytes place (packet_of (sender_of link bytes) (drop place bytes)) is refl

-- and that one is a view
pub is_view : (link : ℕ) (bytes : List ℕ) → IsView link bytes (view_of link bytes)
unfolding view_of
is_view link bytes = view_by link bytes (place_of link bytes) refl

-- the same at each answer of `view`
pub skip_at : (link : ℕ) (bytes : List ℕ) → place_of link bytes ≡ None → IsView link bytes Skip
skip_at link bytes e = view_by link bytes None e

pub short_at : (link : ℕ) (bytes : List ℕ) (place : ℕ) → place_of link bytes ≡ Some place → packet_of (sender_of link bytes) (drop place bytes) ≡ None → IsView link bytes Short
short_at link bytes place e f = view_at link bytes place None e f

pub ipv4_at : (link : ℕ) (bytes : List ℕ) (place : ℕ) (p : Packet) → place_of link bytes ≡ Some place → packet_of (sender_of link bytes) (drop place bytes) ≡ Some p → IsView link bytes (Ipv4 p)
ipv4_at link bytes place p e f = view_at link bytes place (Some p) e f
