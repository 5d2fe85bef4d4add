use Rattle.std.proofs.Common.{◌++◌, ◌∙◌, List, ℕ, ap}
use Rattle.pfr_messages.proofs.Puts.{zeros_front}
use Rattle.pfr_messages.proofs.writing.put_zeros.Goals as goal

pub returns : goal.returns
returns c = record {
  are = c.in_ok-extend_from_slice.ensures.items
      ∙ ap (λ (bytes : List ℕ). c.args.out.now.items ++ bytes) (zeros_front c.args.count 16 c.requires);
}
