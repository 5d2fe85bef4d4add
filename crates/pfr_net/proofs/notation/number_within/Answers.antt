use Rattle.std.proofs.Common.{◌∙◌, sym, arith}
use Rattle.pfr_net.proofs.NumberLemmas.{above, kept}
use Rattle.pfr_net.proofs.notation.number_within.Goals as goal

pub returns-in-Some : goal.returns-in-Some
returns-in-Some c = kept c.args.limit c.in-Some.value c.args.text.now (omega arith) (sym c.in-Some.is ∙ c.number.ensures) (omega arith)

pub returns-in_default : goal.returns-in_default
returns-in_default c = above c.args.limit c.in-Some.value c.args.text.now (omega arith) (sym c.in-Some.is ∙ c.number.ensures) (omega arith)
