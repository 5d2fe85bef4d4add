use Rattle.pfr_packet.proofs.TryLemmas.{asks_up_to_first, none_of_taken, picks_first, taken_of_none}
use Rattle.pfr_packet.proofs.laws.the_first_free_port_is_picked.Goals as goal

pub returns-clause-first : goal.returns-clause-first
returns-clause-first c = λ table wire next ports. (picks_first table wire next ports, asks_up_to_first table wire next ports)

pub returns-clause-none : goal.returns-clause-none
returns-clause-none c = λ table wire ports. (taken_of_none table wire ports, none_of_taken table wire ports)
