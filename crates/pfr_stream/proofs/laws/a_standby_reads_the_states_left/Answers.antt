use Rattle.pfr_stream.proofs.OnlyLemmas as lemmas
use Rattle.pfr_stream.proofs.laws.a_standby_reads_the_states_left.Goals as goal

pub returns : goal.returns
returns c = lemmas.a_standby_reads_the_states_left
