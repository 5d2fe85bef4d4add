use Rattle.std.proofs.Common.{◌∙◌, sym}
use Rattle.std.proofs.lemmas.List.{take_rest}
use Rattle.pfr_stream.proofs.Framed.{framed_behind}
use Rattle.pfr_stream.proofs.framing.behind_header.Goals as goal

pub returns-clause-exact : goal.returns-clause-exact
returns-clause-exact c =
    framed_behind c.args.bytes.now _ (c.in_ok-message.message, c.in_ok-message.size) (sym c.header_refusal.ensures.refusal ∙ c.in_default.is) (take_rest c.args.bytes.now 20) c.in_ok-message.ensures.exact
