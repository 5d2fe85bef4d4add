-- Which way a packet goes.
use Rattle.std.specs.Prelude.{if◌then◌else◌, List, Option, None, Some}
use Rattle.std.specs.List.{list_any}
use Rattle.std.specs.Str.{bytes_eq}
use Rattle.pfr_net.specs.declared.network.Net.{Net}
use Rattle.pfr_net.specs.declared.direction.Direction.{Direction}
use Rattle.pfr_net.specs.declared.direction.Direction.TheVariants.{In, Out}
use Rattle.pfr_net.specs.Networks.{holds}
use Rattle.pfr_headers.specs.declared.ethernet.EthernetAddress.{EthernetAddress}
use Rattle.pfr_headers.specs.declared.packet.Packet.{Packet}

-- a packet whose source lies in an inside network goes out, every other comes in
abbrev pub direction_of : List Net → Packet → Direction
direction_of inside packet = if list_any (λ net. holds net packet.source) inside then Out else In

abbrev pub sent_from : EthernetAddress → Option EthernetAddress → Direction
sent_from address None = In
sent_from address (Some sender) = if bytes_eq sender.0 address.0 then Out else In

-- a packet of a frame that was sent from this address goes out, every other comes in
abbrev pub direction_from : EthernetAddress → Packet → Direction
direction_from address packet = sent_from address packet.sender
