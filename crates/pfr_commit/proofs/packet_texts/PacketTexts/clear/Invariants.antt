use Rattle.std.proofs.Common.{◌≡◌, length}
use Rattle.pfr_commit.proofs.PlaceLemmas.{AreEmptyTo}
use Rattle.pfr_commit.proofs.packet_texts.PacketTexts.clear.Given as goal

abbrev pub invariant-loop-place : goal.invariant-loop-place
invariant-loop-place l = record {
  long : length l.self.texts.items ≡ length l.fn.self.texts.items;
  empty : AreEmptyTo l.place l.self.texts.items;
}
