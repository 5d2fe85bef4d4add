use Rattle.std.proofs.Common.{sym}
use Rattle.pfr_phrases.proofs.StatementLemmas.{stays}
use Rattle.pfr_phrases.proofs.statements.statement_left_out.Goals as goal

pub returns-then-not-may_be_left_out : goal.returns-then-not-may_be_left_out
returns-then-not-may_be_left_out c = stays c.args.marks.now (sym c.if-not-may_be_left_out.ensures)
