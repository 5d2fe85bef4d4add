-- The lines of the outputs.
use Rattle.std.specs.Prelude.{ℕ, nat_lt, if◌then◌else◌, List, [], ◌∷◌, ◌++◌, length, Some, codes}
use Rattle.std.specs.Fmt.{decimal}
use Rattle.pfr_net.specs.declared.interface.Binding.{Binding}
use Rattle.pfr_net.specs.declared.interface.Binding.TheVariants.{All, To}
use Rattle.pfr_net.specs.declared.interface.InterfacePlace.{InterfacePlace}
use Rattle.pfr_ruleset.specs.declared.interface.Interface.{Interface}
use Rattle.pfr_ruleset.specs.Interfaces.{name_at}
use Rattle.pfr_track.specs.declared.datagram.DatagramPeer.{DatagramPeer}
use Rattle.pfr_track.specs.declared.peers.Peers.{Peers}
use Rattle.pfr_track.specs.declared.peers.Peers.TheVariants as peers
use Rattle.pfr_track.specs.declared.state.State.{State}
use Rattle.pfr_track.specs.declared.tcp.TcpPeer.{TcpPeer}
use Rattle.pfr_track.specs.declared.time.Clock.{Clock}
use Rattle.pfr_track.specs.Datagrams as datagram
use Rattle.pfr_track.specs.Tcp as tcp
use Rattle.pfr_packet.specs.declared.outcome.Outcome.{Outcome}
use Rattle.pfr_packet.specs.Verdicts.{reason_text, verdict_text}
use Rattle.pfr_sync.specs.Queues.{before_zero}
use Rattle.pfr_texts.specs.Texts.{direction_text, key_text, peer_text, rule_text, state_text, traffic_text}

-- the name of the interface to which a binding is; `-` if it is to all
abbrev pub binding_text : List Interface → Binding → List ℕ
binding_text interfaces All = codes "-"
binding_text interfaces (To place) = before_zero (name_at interfaces place).bytes

-- " i=NAME" if the run has several interfaces
abbrev pub mark : List Interface → Binding → List ℕ
mark interfaces binding = if nat_lt 1 (length interfaces) then codes " i=" ++ binding_text interfaces binding else []

-- " r=R t=T s=S", and the rest of a line
abbrev pub named_before : Outcome → List ℕ → List ℕ
named_before outcome rest =
    codes " r=" ++ (rule_text outcome.rule ++ (codes " t=" ++ (rule_text outcome.translation ++ (codes " s=" ++ (state_text outcome.state ++ rest)))))

-- " DIR VERDICT REASON", and the rest of a line
abbrev pub words_before : Outcome → List ℕ → List ℕ
words_before outcome rest =
    codes " " ++ (direction_text outcome.direction ++ (codes " " ++ (verdict_text outcome.verdict ++ (codes " " ++ (reason_text outcome.reason ++ rest)))))

-- "N CLOCK DIR VERDICT REASON r=R t=T s=S", and the rest of a line
abbrev pub verdict_before : ℕ → Clock → Outcome → List ℕ → List ℕ
verdict_before number clock outcome rest =
    decimal number ++ (codes " " ++ (decimal clock.0 ++ words_before outcome (named_before outcome rest)))

-- N CLOCK DIR VERDICT REASON r=R t=T s=S, and the packet's interface if the run has several
unfoldable pub verdict_line : List Interface → ℕ → Clock → InterfacePlace → Outcome → List ℕ
verdict_line interfaces number clock place outcome =
    verdict_before number clock outcome (mark interfaces (To place) ++ 10 ∷ [])

-- ---- states

-- what was seen of an end of a TCP connection
abbrev pub tcp_end_text : TcpPeer → List ℕ
tcp_end_text end = peer_text (tcp.code_of end.state) end.low.0 end.high.0 end.greatest_window end.scale

unfoldable pub datagram_end_text : DatagramPeer → List ℕ
datagram_end_text end = decimal (datagram.code_of end) ++ codes "/0/0/0/-"

-- the maker's end first
abbrev pub ends_text : Peers → List ℕ
ends_text (peers.Tcp maker other) = tcp_end_text maker ++ (codes " " ++ tcp_end_text other)
ends_text (peers.Udp maker other) = datagram_end_text maker ++ (codes " " ++ datagram_end_text other)
ends_text peers.Icmp = codes "0/0/0/0/- 0/0/0/0/-"
ends_text (peers.Other maker other) = datagram_end_text maker ++ (codes " " ++ datagram_end_text other)

-- N PROTO DIR WIRE STACK
abbrev pub keys_part : State → List ℕ
keys_part state =
    decimal state.number.0 ++ (codes " " ++ (decimal state.wire.protocol.0 ++ (codes " " ++ (direction_text (Some state.direction)
    ++ (codes " " ++ (key_text state.wire ++ (codes " " ++ key_text state.stack)))))))

-- " r=R t=T PEER PEER"
abbrev pub ends_part : State → List ℕ
ends_part state =
    codes " r=" ++ (rule_text state.rules.filter ++ (codes " t=" ++ (rule_text state.rules.translation ++ (codes " " ++ ends_text state.peers))))

-- " MADE DEADLINE P0 B0 P1 B1", and the rest of a line
abbrev pub traffic_before : State → List ℕ → List ℕ
traffic_before state rest =
    codes " " ++ (decimal state.made.0 ++ (codes " " ++ (decimal state.deadline.0 ++ (codes " " ++ (traffic_text state.forth
    ++ (codes " " ++ (traffic_text state.back ++ rest)))))))

-- N PROTO DIR WIRE STACK r=R t=T PEER PEER MADE DEADLINE P0 B0 P1 B1, and the state's interface if the run has several
unfoldable pub state_line : List Interface → State → List ℕ
state_line interfaces state =
    keys_part state ++ (ends_part state ++ traffic_before state (mark interfaces state.rules.binding ++ 10 ∷ []))
