use Rattle.pfr_report.proofs.EscapeLemmas as lemmas
use Rattle.pfr_report.proofs.escape.every_text_is_harmless.Goals as goal

pub returns : goal.returns
returns c = lemmas.every_text_is_harmless
