use Rattle.pfr_packet.proofs.ChangeLemmas.{not_refused}
use Rattle.pfr_packet.proofs.laws.no_change_is_refused.Goals as goal

pub returns : goal.returns
returns c = λ job number clock place view table change is_table is. not_refused c.what_a_packet_leaves.ensures job number clock place view table change (λ a b. c.one_state_answers_a_key.ensures table a b is_table) is
