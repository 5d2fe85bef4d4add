-- States as JSON (RFC 8259), each an object on a line of its own.
use Rattle.std.specs.Prelude.{ℕ, ◌+◌, ◌/◌, ◌%◌, ◌==◌, ◌&&◌, Bool, not, nat_le, nat_lt, if◌then◌else◌, List, [], ◌∷◌, ◌++◌, Option, Some, None, codes}
use Rattle.std.specs.Fmt.{decimal}
use Rattle.std.specs.List.{flat_map}
use Rattle.pfr_net.specs.declared.direction.Direction.{Direction}
use Rattle.pfr_net.specs.declared.direction.Direction.TheVariants.{In, Out}
use Rattle.pfr_net.specs.declared.endpoint.Endpoint.{Endpoint}
use Rattle.pfr_net.specs.declared.port.Port.{Port}
use Rattle.pfr_net.specs.declared.protocol.Protocol.{Protocol}
use Rattle.pfr_net.specs.declared.rule_number.RuleNumber.{RuleNumber}
use Rattle.pfr_texts.specs.Texts.{address_text}
use Rattle.pfr_track.specs.declared.datagram.DatagramPeer.{DatagramPeer}
use Rattle.pfr_track.specs.declared.key.Key.{Key}
use Rattle.pfr_track.specs.declared.peers.Peers.{Peers}
use Rattle.pfr_track.specs.declared.peers.Peers.TheVariants as peers
use Rattle.pfr_track.specs.declared.state.State.{State}
use Rattle.pfr_track.specs.declared.state.Traffic.{Traffic}
use Rattle.pfr_track.specs.declared.tcp.TcpPeer.{TcpPeer}
use Rattle.pfr_track.specs.declared.time.Clock.{Clock}
use Rattle.pfr_listing.specs.Pfctl.{datagram_name, tcp_name}
use Rattle.pfr_listing.specs.declared.line.Bound.{Bound}
use Rattle.pfr_listing.specs.declared.line.Bound.TheVariants.{Unsaid, All, To}
use Rattle.pfr_listing.specs.declared.line.Listed.{Listed}

-- ---- strings (RFC 8259, section 7)

abbrev pub hexadecimal : ℕ → ℕ
hexadecimal digit = if nat_lt digit 10 then 48 + digit else 87 + digit

-- a printed ASCII character stands for itself, but for a quotation mark and a backslash
abbrev pub stands_for_itself : ℕ → Bool
stands_for_itself byte = nat_le 32 byte && (nat_le byte 126 && (not (byte == 34) && not (byte == 92)))

abbrev pub escaped : ℕ → List ℕ
escaped byte = if stands_for_itself byte then byte ∷ [] else codes "\\u00" ++ (hexadecimal (byte / 16) ∷ hexadecimal (byte % 16) ∷ [])

abbrev pub string : List ℕ → List ℕ
string bytes = codes "\"" ++ (flat_map escaped bytes ++ codes "\"")

-- ---- parts of an object

abbrev pub number_or_null : Option ℕ → List ℕ
number_or_null None = codes "null"
number_or_null (Some number) = decimal number

abbrev pub rule_or_null : Option RuleNumber → List ℕ
rule_or_null None = codes "null"
rule_or_null (Some number) = decimal number.0

-- null if no interface is named to which the state is bound
abbrev pub bound_value : Bound → List ℕ
bound_value Unsaid = codes "null"
bound_value All = codes "null"
bound_value (To name) = string name

abbrev pub direction_value : Direction → List ℕ
direction_value In = codes "\"in\""
direction_value Out = codes "\"out\""

abbrev pub port_part : Port → List ℕ
port_part port = codes "\",\"port\":" ++ decimal port.0

abbrev pub end_value : Endpoint → List ℕ
end_value end = (codes "{\"address\":\"" ++ address_text end.address) ++ (port_part end.port ++ codes "}")

abbrev pub inside_part : Endpoint → List ℕ
inside_part inside = codes ",\"inside\":" ++ end_value inside

abbrev pub key_value : Key → List ℕ
key_value key = codes "{\"outside\":" ++ ((end_value key.outside ++ inside_part key.inside) ++ codes "}")

abbrev pub name_part : List ℕ → List ℕ
name_part name = codes "{\"state\":\"" ++ name

abbrev pub sequences : TcpPeer → List ℕ
sequences end = (codes "\",\"low\":" ++ decimal end.low.0) ++ (codes ",\"high\":" ++ decimal end.high.0)

abbrev pub windows : TcpPeer → List ℕ
windows end = (codes ",\"window\":" ++ decimal end.greatest_window) ++ ((codes ",\"scale\":" ++ number_or_null end.scale) ++ codes "}")

abbrev pub tcp_value : TcpPeer → List ℕ
tcp_value end = name_part (tcp_name end.state) ++ (sequences end ++ windows end)

abbrev pub datagram_value : DatagramPeer → List ℕ
datagram_value end = name_part (datagram_name end) ++ codes "\"}"

abbrev pub both : (maker other : List ℕ) → List ℕ
both maker other = (codes ",\"maker\":" ++ maker) ++ (codes ",\"other\":" ++ other)

-- the maker's end and the other one; null of an ICMP echo, of which nothing is kept
abbrev pub peers_part : Peers → List ℕ
peers_part (peers.Tcp maker other) = both (tcp_value maker) (tcp_value other)
peers_part (peers.Udp maker other) = both (datagram_value maker) (datagram_value other)
peers_part peers.Icmp = codes ",\"maker\":null,\"other\":null"
peers_part (peers.Other maker other) = both (datagram_value maker) (datagram_value other)

abbrev pub traffic_value : Traffic → List ℕ
traffic_value traffic = (codes "{\"packets\":" ++ decimal traffic.packets) ++ ((codes ",\"bytes\":" ++ decimal traffic.bytes) ++ codes "}")

-- ---- the object

abbrev pub number_part : Listed → List ℕ
number_part listed = (codes "{\"number\":" ++ decimal listed.state.number.0) ++ (codes ",\"interface\":" ++ bound_value listed.bound)

abbrev pub protocol_number : Protocol → List ℕ
protocol_number protocol = codes ",\"protocol\":" ++ decimal protocol.0

abbrev pub protocol_part : State → List ℕ
protocol_part state = protocol_number state.wire.protocol ++ (codes ",\"direction\":" ++ direction_value state.direction)

abbrev pub keys_part : State → List ℕ
keys_part state = (codes ",\"wire\":" ++ key_value state.wire) ++ (codes ",\"stack\":" ++ key_value state.stack)

abbrev pub rules_part : State → List ℕ
rules_part state =
    (codes ",\"rule\":" ++ rule_or_null state.rules.filter) ++ (codes ",\"translation\":" ++ rule_or_null state.rules.translation)

abbrev pub made_part : Clock → List ℕ
made_part made = codes ",\"made\":" ++ decimal made.0

abbrev pub times_part : State → List ℕ
times_part state = made_part state.made ++ (codes ",\"deadline\":" ++ decimal state.deadline.0)

abbrev pub traffic_part : State → List ℕ
traffic_part state =
    (codes ",\"forth\":" ++ traffic_value state.forth) ++ ((codes ",\"back\":" ++ traffic_value state.back) ++ codes "}\n")

abbrev pub front : Listed → List ℕ
front listed = number_part listed ++ (protocol_part listed.state ++ keys_part listed.state)

abbrev pub rest : State → List ℕ
rest state = (rules_part state ++ peers_part state.peers) ++ (times_part state ++ traffic_part state)

unfoldable pub json_line : Listed → List ℕ
json_line listed = front listed ++ rest listed.state
