use Rattle.std.proofs.Common.{◌≡◌, take}
use Rattle.pfr_out.specs.Spelling.{spelled}
use Rattle.pfr_out.proofs.channel.Channel.spell.Given as goal

abbrev pub invariant-loop-message : goal.invariant-loop-message
invariant-loop-message l = record {
  form : l.self.form ≡ l.fn.self.form;
  text : l.self.text.items ≡ spelled l.fn.self.form l.source (take l.message-index l.messages);
}
