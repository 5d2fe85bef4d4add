use Rattle.std.proofs.Common.{refl, ◌∙◌}
use Rattle.pfr_out.proofs.WritingLemmas.{spelled_in_none}
use Rattle.pfr_out.proofs.feeding.Feeding.write.Goals as goal

pub returns-in-Ok-write_batch-clause-writes : goal.returns-in-Ok-write_batch-clause-writes
returns-in-Ok-write_batch-clause-writes g c = record {
  merge = refl;
  sources = refl;
  end = refl;
  given = refl;
  told = c.write_batch.ensures.told;
  messages = λ none. c.write_batch.ensures.messages (c.text.ensures ∙ c.in-Ok.ensures.text ∙ spelled_in_none _ _ _ none);
  same = record { form = c.spell.ensures.form; address = refl; most = refl };
}

pub returns-in-Err-write_batch-clause-writes : goal.returns-in-Err-write_batch-clause-writes
returns-in-Err-write_batch-clause-writes g c = record {
  merge = refl;
  sources = refl;
  end = refl;
  given = refl;
  told = c.write_batch.ensures.told;
  messages = λ none. c.write_batch.ensures.messages (c.text.ensures ∙ c.in-Ok.ensures.text ∙ spelled_in_none _ _ _ none);
  same = record { form = c.spell.ensures.form; address = refl; most = refl };
}
