-- Connections of protocols without connections (pf.conf(5), "udp.first, udp.single, udp.multiple").
use Rattle.std.specs.Prelude.{ℕ}
use Rattle.pfr_net.specs.declared.timeout.Timeout.{Timeout}
use Rattle.pfr_track.specs.declared.datagram.DatagramPeer.{DatagramPeer}
use Rattle.pfr_track.specs.declared.datagram.DatagramPeer.TheVariants.{Silent, Single, Multiple}

abbrev pub code_of : DatagramPeer → ℕ
code_of Silent = 0
code_of Single = 1
code_of Multiple = 2

-- an end after a packet of its own
abbrev pub spoken : DatagramPeer → DatagramPeer
spoken Silent = Single
spoken Single = Single
spoken Multiple = Multiple

-- an end after a packet of the other one
abbrev pub answered : DatagramPeer → DatagramPeer
answered Silent = Silent
answered Single = Multiple
answered Multiple = Multiple

abbrev pub timeout_by : DatagramPeer → DatagramPeer → Timeout → Timeout → Timeout
timeout_by Multiple Multiple single multiple = multiple
timeout_by _ _ single multiple = single
