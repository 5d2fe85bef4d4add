-- What a rule answers for a packet, and the criteria at which it fails.
use Rattle.std.specs.Prelude.{◌≡◌, Bool, true, false, List, Option, ⊤}
use Rattle.pfr_net.specs.declared.direction.Direction.{Direction}
use Rattle.pfr_net.specs.declared.interface.IfName.{IfName}
use Rattle.pfr_ruleset.specs.declared.table.Entry.{Entry}
use Rattle.pfr_ruleset.specs.declared.criterion.Asked.{Asked}
use Rattle.pfr_ruleset.specs.declared.criterion.Criterion.{Criterion}
use Rattle.pfr_ruleset.specs.declared.criterion.Criterion.TheVariants as criterion
use Rattle.pfr_ruleset.specs.declared.flat.PacketMatch.{PacketMatch}
use Rattle.pfr_headers.specs.declared.packet.Packet.{Packet}
use Rattle.pfr_criteria.specs.declared.asking.Answer.{Answer}
use Rattle.pfr_criteria.specs.declared.asking.Answer.TheVariants as answer
use Rattle.pfr_criteria.specs.Hosts.{host_holds}
use Rattle.pfr_criteria.specs.Packets.{direction_holds, interface_holds, protocol_holds}
use Rattle.pfr_criteria.specs.Transports.{port_asked, source_port, destination_port}

-- whether a packet meets one criterion of a rule
abbrev pub part_holds : Criterion → Asked → IfName → List (List Entry) → Packet → Direction → Bool
part_holds criterion.Interface asked name tables packet direction = interface_holds asked.packet.interface name
part_holds criterion.Direction asked name tables packet direction = direction_holds asked.direction direction
part_holds criterion.Protocol asked name tables packet direction = protocol_holds asked.packet.protocol packet.protocol.0
part_holds criterion.Source asked name tables packet direction = host_holds tables asked.packet.source packet.source.0
part_holds criterion.SourcePort asked name tables packet direction = port_asked asked.packet.source_port (source_port packet.transport)
part_holds criterion.Destination asked name tables packet direction = host_holds tables asked.packet.destination packet.destination.0
part_holds criterion.DestinationPort asked name tables packet direction = port_asked asked.packet.destination_port (destination_port packet.transport)

-- an answer says that the rule holds
abbrev pub holds_by : Answer → Bool
holds_by answer.Holds = true
holds_by answer.Fails = false
holds_by (answer.FailsAt criterion) = false

-- if an answer says at which criterion a rule fails, the packet doesn't meet that criterion
abbrev pub FailsRightly : Answer → Asked → IfName → List (List Entry) → Packet → Direction → Type 0
FailsRightly answer.Holds asked name tables packet direction = ⊤
FailsRightly answer.Fails asked name tables packet direction = ⊤
FailsRightly (answer.FailsAt criterion) asked name tables packet direction = part_holds criterion asked name tables packet direction ≡ false

-- the same for each direction that a rule may write and each that the packet may have
abbrev pub FailsEitherWay : Answer → PacketMatch → IfName → List (List Entry) → Packet → Type 0
FailsEitherWay said asked name tables packet =
    (written : Option Direction) (direction : Direction) → FailsRightly said (record { direction = written; packet = asked }) name tables packet direction
