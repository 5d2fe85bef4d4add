use Rattle.std.proofs.Common.{refl, sym, ◌∙◌}
use Rattle.pfr_out.proofs.WritingLemmas.{spelled_more, spelled_none}
use Rattle.pfr_out.proofs.channel.Channel.spell.Goals as goal

pub loop-message-init : goal.loop-message-init
loop-message-init c = record { form = refl; text = c.clear.ensures.items ∙ sym (spelled_none c.args.self.now.form c.args.source) }

pub loop-message-preserved : goal.loop-message-preserved
loop-message-preserved c =
    let i = c.loop-message.invariant in
    record {
      form = c.put.ensures.form ∙ i.form;
      text = spelled_more c.args.self.now.form c.loop-message.self.form c.args.source c.args.messages.now c.loop-message.message-index c.message-item.result _ _ i.form c.message-item.is c.loop-message-test.true i.text c.in_ok-put.ensures.text;
    }
