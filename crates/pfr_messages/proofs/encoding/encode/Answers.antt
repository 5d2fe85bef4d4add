use Rattle.std.proofs.Common.{◌∙◌, ◌++◌, List, ℕ, ap}
use Rattle.pfr_messages.specs.Messages.{spelling}
use Rattle.pfr_messages.proofs.encoding.encode.Goals as goal

pub returns : goal.returns
returns c = record {
  fits = c.has_spelling.ensures;
  bytes = c.in_ok-encode_onto.ensures
      ∙ ap (λ (bytes : List ℕ). bytes ++ spelling c.args.message.now) c.new-out.ensures.items;
}
