use Rattle.std.proofs.Common.{◌<◌, ◌∙◌, length, take, ap, sym, arith, ℕ, List}
use Rattle.pfr_commit.proofs.PlaceLemmas.{held_is, shortened_at}
use Rattle.pfr_commit.proofs.packet_texts.PacketTexts.truncate_at.Goals as goal

pub returns-then-place-len : goal.returns-then-place-len
returns-then-place-len c =
    let texts = c.args.self.now.texts.items in
    let below : c.args.place < length texts = omega (arith, c.if-place-len.true, c.len.ensures) in
    shortened_at texts c.args.place c.args.count c.truncate.new.self below
    (c.truncate.ensures.items ∙ ap (λ (text : List ℕ). take c.args.count text) (sym (held_is texts c.args.place _ _ below c.index_mut.ensures.value)))
