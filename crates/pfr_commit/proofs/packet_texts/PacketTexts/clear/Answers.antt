use Rattle.std.proofs.Common.{◌<◌, ◌≤◌, ◌∙◌, length, arith}
use Rattle.std.proofs.lemmas.List.{length-set}
use Rattle.pfr_commit.proofs.PlaceLemmas.{all_emptied, emptied_more}
use Rattle.pfr_commit.proofs.packet_texts.PacketTexts.clear.Goals as goal

pub loop-place-preserved : goal.loop-place-preserved
loop-place-preserved c =
    let texts = c.loop-place.self.texts.items in
    let below : c.loop-place.place < length texts = omega (arith, c.loop-place-test.true, c.len-place-end.ensures, c.loop-place.invariant.long) in
    record {
      long = length-set texts c.loop-place.place c.clear.new.self ∙ c.loop-place.invariant.long;
      empty = emptied_more texts c.loop-place.place c.clear.new.self below c.clear.ensures.items c.loop-place.invariant.empty;
    }

pub returns : goal.returns
returns c =
    let texts = c.loop-place.self.texts.items in
    let all : length texts ≤ c.loop-place.place = omega (arith, c.loop-place-test.false, c.len-place-end.ensures, c.loop-place.invariant.long) in
    all_emptied texts c.loop-place.place all c.loop-place.invariant.empty
