use Rattle.pfr_stream.proofs.FitLemmas as lemmas
use Rattle.pfr_stream.proofs.laws.messages_of_events_fit.Goals as goal

pub returns : goal.returns
returns c = lemmas.messages_of_events_fit
