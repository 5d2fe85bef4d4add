use Rattle.std.proofs.Common.{◌≡◌}
use Rattle.pfr_commit.specs.Emissions.{packets_of}
use Rattle.pfr_commit.specs.World.{nowhere}
use Rattle.pfr_commit.proofs.packet_texts.PacketTexts.with_room.Given as goal

abbrev pub invariant-loop-room : goal.invariant-loop-room
invariant-loop-room l = packets_of l.packets ≡ nowhere
