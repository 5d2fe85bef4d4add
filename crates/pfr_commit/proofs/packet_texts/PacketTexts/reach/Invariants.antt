use Rattle.std.proofs.Common.{◌≡◌, ◌+◌, ◌-◌, length}
use Rattle.pfr_commit.specs.Emissions.{packets_of}
use Rattle.pfr_commit.proofs.packet_texts.PacketTexts.reach.Given as goal

abbrev pub invariant-loop-text : goal.invariant-loop-text
invariant-loop-text l = packets_of l.self ≡ packets_of l.fn.self

abbrev pub decreases-loop-text : goal.decreases-loop-text
decreases-loop-text l = l.place + 1 - length l.self.texts.items
