use Rattle.pfr_commit.proofs.CountLemmas.{bytes_of_run, evaluations_of_run, packets_of_run}
use Rattle.pfr_commit.proofs.VisitLemmas.{packets_of_visits}
use Rattle.pfr_commit.proofs.laws.rules_are_counted_by_their_lines.Goals as goal

pub returns-clause-packets : goal.returns-clause-packets
returns-clause-packets c = packets_of_run

pub returns-clause-bytes : goal.returns-clause-bytes
returns-clause-bytes c = bytes_of_run

pub returns-clause-visits : goal.returns-clause-visits
returns-clause-visits c = evaluations_of_run

pub returns-clause-evaluations : goal.returns-clause-evaluations
returns-clause-evaluations c = λ job frames kind rule own below. packets_of_visits c.a_packet_visits_a_rule_once.ensures job own rule kind frames below
