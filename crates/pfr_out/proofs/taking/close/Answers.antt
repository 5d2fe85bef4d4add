use Rattle.std.proofs.Common.{◌∙◌}
use Rattle.pfr_out.proofs.WritingLemmas.{spelled_in_none}
use Rattle.pfr_out.proofs.taking.close.Goals as goal

pub returns-in-Ok-write_ending-clause-messages : goal.returns-in-Ok-write_ending-clause-messages
returns-in-Ok-write_ending-clause-messages g c = λ none. c.write_ending.ensures.messages (c.text.ensures ∙ c.in-Ok-spell.ensures.text ∙ spelled_in_none _ _ _ none)

pub returns-clause-messages : goal.returns-clause-messages
returns-clause-messages g c = λ none. c.write_ending.ensures.messages (c.text.ensures ∙ c.in-Ok-spell.ensures.text ∙ spelled_in_none _ _ _ none)
