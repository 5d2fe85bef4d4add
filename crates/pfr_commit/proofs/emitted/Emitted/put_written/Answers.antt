use Rattle.std.proofs.Common.{◌≡◌, ◌∙◌, ℕ, ap, sym}
use Rattle.pfr_commit.specs.declared.packet_texts.PacketTexts.{PacketTexts}
use Rattle.pfr_commit.specs.Emissions.{cut_at, frame_of, packets_of}
use Rattle.pfr_commit.specs.World.{Texts, each_joined, only_at, packet_text}
use Rattle.pfr_commit.proofs.PlaceLemmas.{cut_back}
use Rattle.pfr_commit.proofs.StandLemmas.{texts_are}
use Rattle.pfr_commit.proofs.emitted.Emitted.put_written.Goals as goal

pub returns-in-Err-clause-kept : goal.returns-in-Err-clause-kept
returns-in-Err-clause-kept c =
    let place = c.from-place.result in
    let start = c.len_at-start.result in
    let before = packets_of c.args.self.now.packets in
    let record_text = packet_text (frame_of c.args.packet.now) c.args.line.now.outcome.now in
    let back : cut_at place start (packets_of c.put.new.self) ≡ before =
    cut_back before (packets_of c.put.new.self) place start record_text
    (c.in_ok-put.ensures.done ∙ ap (λ (p : ℕ). each_joined before (only_at p record_text)) (sym c.from-place.ensures)) c.len_at-start.ensures
    in
    texts_are _ _ (ap (λ (t : Texts). t.verdicts) c.in-Err.ensures.kept)
    (c.truncate_at.ensures ∙ ap (λ (packets : PacketTexts). cut_at place start (packets_of packets)) c.in-Err.ensures.packets ∙ back)
    (ap (λ (t : Texts). t.messages) c.in-Err.ensures.kept)
