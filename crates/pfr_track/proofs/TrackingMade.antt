-- The state that a packet makes.
use Rattle.std.proofs.Common.{refl}
use Rattle.pfr_net.specs.declared.direction.Direction.{Direction}
use Rattle.pfr_net.specs.declared.interface.InterfacePlace.{InterfacePlace}
use Rattle.pfr_net.specs.declared.timeout.Timeouts.{Timeouts}
use Rattle.pfr_headers.specs.declared.packet.Packet.{Packet}
use Rattle.pfr_headers.specs.declared.transport.Transport.{Transport}
use Rattle.pfr_headers.specs.declared.transport.Transport.TheVariants as transport
use Rattle.pfr_track.specs.declared.key.Key.{Key}
use Rattle.pfr_track.specs.declared.state.StateNumber.{StateNumber}
use Rattle.pfr_track.specs.declared.state.StateRules.{StateRules}
use Rattle.pfr_track.specs.declared.time.Clock.{Clock}
use Rattle.pfr_track.specs.Laws.{AreMadeBy, IsNew}
use Rattle.pfr_track.specs.Tcp.{maker}
use Rattle.pfr_track.specs.Tracking.{first_peers, made}

ends_fit : (t : Transport) → AreMadeBy t (first_peers t).0
unfolding maker
ends_fit (transport.Tcp header) = record { maker = refl; other = refl }
ends_fit (transport.Udp header) = record { maker = refl; other = refl }
ends_fit (transport.Icmp header) = tt
ends_fit transport.Fragment = record { maker = refl; other = refl }
ends_fit transport.Other = record { maker = refl; other = refl }

pub new_state : (number : StateNumber) (packet : Packet) (direction : Direction) (interface : InterfacePlace) (wire stack : Key) (rules : StateRules) (clock : Clock) (timeouts : Timeouts)
    → IsNew packet clock timeouts (made number packet direction interface wire stack rules clock timeouts)
new_state number packet direction interface wire stack rules clock timeouts = record { deadline = refl; ends = ends_fit packet.transport }
