-- The criteria of a packet's transport header: ports, TCP flags and ICMP types (pf.conf(5), "Parameters").
use Rattle.std.specs.Prelude.{ℕ, ◌==◌, ◌&&◌, ◌||◌, Bool, true, false, not, nat_lt, nat_le, Option, Some, None}
use Rattle.std.specs.Int.RustNames.{bit_and}
use Rattle.pfr_net.specs.declared.port_match.PortMatch.{PortMatch}
use Rattle.pfr_net.specs.declared.port_match.PortMatch.TheVariants as port
use Rattle.pfr_net.specs.declared.port_match.Comparison.{Comparison}
use Rattle.pfr_net.specs.declared.port_match.Comparison.TheVariants as c
use Rattle.pfr_net.specs.declared.port_match.RangeOperator.{RangeOperator}
use Rattle.pfr_net.specs.declared.port_match.RangeOperator.TheVariants as r
use Rattle.pfr_net.specs.declared.icmp_match.IcmpMatch.{IcmpMatch}
use Rattle.pfr_ruleset.specs.declared.flat.FlagsCriterion.{FlagsCriterion}
use Rattle.pfr_ruleset.specs.declared.flat.FlagsCriterion.TheVariants as asked
use Rattle.pfr_headers.specs.declared.icmp.IcmpMessage.{IcmpMessage}
use Rattle.pfr_headers.specs.declared.icmp.IcmpMessage.TheVariants as message
use Rattle.pfr_headers.specs.declared.transport.Transport.{Transport}
use Rattle.pfr_headers.specs.declared.transport.Transport.TheVariants as t
use Rattle.pfr_headers.specs.declared.tcp.TcpFlags.{TcpFlags}

-- ---- ports

abbrev pub compares : Comparison → ℕ → ℕ → Bool
compares c.Equal port written = port == written
compares c.NotEqual port written = not (port == written)
compares c.Less port written = nat_lt port written
compares c.LessOrEqual port written = nat_le port written
compares c.Greater port written = nat_lt written port
compares c.GreaterOrEqual port written = nat_le written port

-- `x:y` takes in both ports, `x >< y` neither, and `x <> y` all that are below the first or above the second
abbrev pub ranges : RangeOperator → ℕ → ℕ → ℕ → Bool
ranges r.Inclusive low high port = nat_le low port && nat_le port high
ranges r.Between low high port = nat_lt low port && nat_lt port high
ranges r.Outside low high port = nat_lt port low || nat_lt high port

unfoldable pub port_holds : PortMatch → ℕ → Bool
port_holds (port.Compare comparison written) number = compares comparison number written
port_holds (port.Range operator low high) number = ranges operator low high number

-- the ports of TCP and UDP packets; a part of a packet has none
abbrev pub source_port : Transport → Option ℕ
source_port (t.Tcp header) = Some header.source.0
source_port (t.Udp header) = Some header.source.0
source_port rest = None

abbrev pub destination_port : Transport → Option ℕ
destination_port (t.Tcp header) = Some header.destination.0
destination_port (t.Udp header) = Some header.destination.0
destination_port rest = None

-- a packet without ports meets no criterion of a port
abbrev pub port_asked : Option PortMatch → Option ℕ → Bool
port_asked None port = true
port_asked (Some criterion) None = false
port_asked (Some criterion) (Some port) = port_holds criterion port

-- ---- flags

abbrev pub are : TcpFlags → ℕ → ℕ → Bool
are flags set mask = bit_and flags.0 mask == set

-- flags that are written are tested on TCP packets alone, and no fragment meets them; the default `S/SA` (2 of 18)
-- isn't tested on a fragment
unfoldable pub flags_hold : FlagsCriterion → Transport → Bool
flags_hold asked.Any transport = true
flags_hold (asked.Written set mask) (t.Tcp header) = are header.flags set.0 mask.0
flags_hold (asked.Written set mask) t.Fragment = false
flags_hold (asked.Written set mask) rest = true
flags_hold asked.Default (t.Tcp header) = are header.flags 2 18
flags_hold asked.Default rest = true

-- ---- ICMP types

abbrev pub code_holds : Option ℕ → ℕ → Bool
code_holds None code = true
code_holds (Some written) code = written == code

abbrev pub icmp_is : IcmpMatch → Transport → Bool
icmp_is criterion (t.Icmp header) = criterion.kind == header.kind.0 && code_holds criterion.code header.code
icmp_is criterion rest = false

unfoldable pub icmp_holds : Option IcmpMatch → Transport → Bool
icmp_holds None transport = true
icmp_holds (Some criterion) transport = icmp_is criterion transport

-- ---- connections

-- an echo is of a connection, an error and any other message are of none
abbrev pub message_opens : IcmpMessage → Bool
message_opens (message.Echo identifier) = true
message_opens (message.Error inner) = false
message_opens message.Other = false

-- the packet can be the first of a connection; a part of a packet can't
abbrev pub opens_connection : Transport → Bool
opens_connection t.Fragment = false
opens_connection (t.Tcp header) = true
opens_connection (t.Udp header) = true
opens_connection (t.Icmp header) = message_opens header.message
opens_connection t.Other = true
