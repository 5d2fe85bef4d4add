use Rattle.pfr_telling.proofs.StandbyLemmas as lemmas
use Rattle.pfr_telling.proofs.laws.a_packet_leaves_the_table.Goals as goal

pub returns-clause-start : goal.returns-clause-start
returns-clause-start c = lemmas.nothing_leaves

pub returns-clause-next : goal.returns-clause-next
returns-clause-next c = lemmas.a_packet_leaves_the_table
