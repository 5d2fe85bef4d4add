use Rattle.std.proofs.Common.{◌≡◌, ◌∙◌, ℕ, true, false, List, ap, sym}
use Rattle.pfr_packet.specs.Verdicts.{is_written}
use Rattle.pfr_commit.specs.Emissions.{frame_of, packets_of}
use Rattle.pfr_commit.specs.World.{each_joined, only_at, packet_text}
use Rattle.pfr_commit.proofs.PlaceLemmas.{blocked_text, grown_from, held_is, nothing_at, on_err_then, on_ok_then, same_at, written_text}
use Rattle.pfr_commit.proofs.packet_texts.PacketTexts.put.Goals as goal

pub returns-then-not-is_written-clause-done : goal.returns-then-not-is_written-clause-done
returns-then-not-is_written-clause-done c =
    let blocked : is_written c.args.outcome.now.verdict ≡ false = sym c.if-not-is_written.ensures in
    nothing_at (packets_of c.args.self.now) c.args.packet.now.place (packet_text (frame_of c.args.packet.now) c.args.outcome.now) (blocked_text c.args.packet.now c.args.outcome.now blocked)

pub returns-clause-done : goal.returns-clause-done
returns-clause-done c =
    let written : is_written c.args.outcome.now.verdict ≡ true = sym c.if-not-is_written.ensures in
    let texts = c.reach.new.self.texts.items in
    on_ok_then c.put_record.result _ _
    (λ is. grown_from (packets_of c.args.self.now) texts c.from-place.result _ _ c.index_mut.result.now c.put_record.new.packets _ c.in_ok-reach.ensures.same c.from-place.ensures c.in_ok-reach.ensures.there c.index_mut.ensures.value is
    ∙ ap (λ (text : List ℕ). each_joined (packets_of c.args.self.now) (only_at c.args.packet.now.place text)) (written_text c.args.packet.now c.args.outcome.now written))
    c.put_record.ensures.done

pub returns-clause-kept : goal.returns-clause-kept
returns-clause-kept c =
    let texts = c.reach.new.self.texts.items in
    on_err_then c.put_record.result _ _
    (λ is. same_at texts c.from-place.result c.put_record.new.packets c.in_ok-reach.ensures.there (is ∙ sym (held_is texts c.from-place.result _ c.index_mut.result.now c.in_ok-reach.ensures.there c.index_mut.ensures.value)) ∙ c.in_ok-reach.ensures.same)
    c.put_record.ensures.kept
